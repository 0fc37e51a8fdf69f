-- For each function the laws that it is proved by, beside what is tried at every goal. Assumes nothing.
use Rattle.types.proofs.Laws.{form-row, row-length, types-length, part_type, parts-few, parts-length}
use Rattle.types.proofs.GroundLaws.{part_ground, part_low, part-high, ground-plain, ground-list, ground-tuple, ground-other, every-no, every-on, every-end, said, said-yes, tells}
use Rattle.meaning.proofs.Bytes.Layouts.{length-reads}
use Rattle.types.proofs.ChainLaws.{no-chains, last-low, last-key, fresh-last, chain_same, chain-on, fresh-none, weigh-on, weigh-end, weighed-small, hash-sum}
use Rattle.types.proofs.BadLaws.{bad-own, bad-old, bad-next, bad-end, bad-all, says_nothing, ground-beyond, call-other, call-parts, call-result, own-none, own-unknown, own-fields, own-call}
use Rattle.types.proofs.Checks.{last-other, plain-parts, plain-result, list-parts, list-result, fields-rest, fields-none, fields-plain, fields-list, fields-tuple, fields-function, fields-other, function-many, function-result, function-names, function-parts, rest-none, rest-step, rest_all, heads-no, heads-on, pairs-no, pairs-on, pairs_end, tuple-none, tuple-many, tuple-result, tuple-names, tuple-parts}

pub ruleset ground_laws = (form-row, row-length, types-length, part_type, parts-few, part_ground, part_low, part-high, ground-plain, ground-list, ground-tuple, ground-other, every-no, every-on, every-end, said, said-yes, tells)

pub ruleset bad_type_laws = (length-reads, no-chains, bad-own, bad-old, bad-next, bad-end, bad-all, says_nothing)

pub ruleset fields_ok_laws = (fields-rest, fields-none, fields-plain, fields-list, fields-tuple, fields-function, fields-other)

pub ruleset function_ok_laws = (function-many, function-result, function-names, function-parts)

pub ruleset ground_at_laws = (said-yes, ground-beyond)

pub ruleset ground_call_laws = (call-other, call-parts, call-result)

pub ruleset is_fresh_laws = (last-low, last-key, fresh-last, chain_same, chain-on, fresh-none)

pub ruleset own_ok_laws = (own-none, own-unknown, own-fields, own-call)

pub ruleset part_count_laws = (row-length, parts-length)

pub ruleset parts_ground_laws = (row-length, types-length, part_type, parts-few, every-no, every-on, every-end)

pub ruleset rest_zero_laws = (row-length, rest-none, rest-step, rest_all)

pub ruleset row_hash_laws = (row-length, weigh-on, weigh-end, weighed-small, hash-sum)

pub ruleset same_row_laws = (row-length, heads-no, heads-on, pairs-no, pairs-on, pairs_end)

pub ruleset tuple_ok_laws = (tuple-none, tuple-many, tuple-result, tuple-names, tuple-parts)

pub ruleset last_form_laws = (last-other)

pub ruleset plain_ok_laws = (plain-parts, plain-result)

pub ruleset list_ok_laws = (list-parts, list-result)
