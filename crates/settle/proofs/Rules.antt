-- For each function the laws that it is proved by, beside what is tried at every goal. Assumes nothing.
use Rattle.layout.proofs.Tables.{row-table-length, row-table-at}
use Rattle.settle.proofs.Rows.{count-due, count-other, all-rows, no_rows, other-kind, a-future, settled-length, prefix}
use lib.ListN.{length-drop, drop_of_length-le}
use lib.Seq.{length-take-le}
use Rattle.sound.proofs.Parts.{sizes, call-total}
use Rattle.settle.proofs.Copies.{mid-length, all-cleared, each-due, each-other, table-bytes, push-due, push-other, first-within, rows-count, space-settled}
use Rattle.settle.proofs.Verdicts.{number_at, another-type, same-type, too_short, no_row, too_many, not-zero, by_length, headed, value-length, value-rows, bad-header, unlisted, by_rows, good-rows}
use Rattle.settle.proofs.Records.{head-good, rows-most, fitting, holding, replaced, roomy-settled, recalled-is, lent-types, lent_rows}
use Rattle.meaning.proofs.Entries.OpenList.{length_without}
use Rattle.terms.proofs.Scan.{bytes-closed}

pub ruleset count_after_laws = (row-table-length, row-table-at, count-due, count-other, all-rows, no_rows)

pub ruleset is_due_laws = (other-kind, a-future)

pub ruleset replace_term_laws = (length-drop, length-take-le, sizes, mid-length, all-cleared, number_at, head-good, rows-most, fitting, holding, replaced)

pub ruleset rows_after_laws = (row-table-length, settled-length)

pub ruleset settle_laws = (sizes, call-total, length_without, number_at, head-good, roomy-settled, recalled-is)

pub ruleset settle_each_laws = (drop_of_length-le, row-table-length, all-rows, no_rows, each-due, each-other)

pub ruleset settle_rows_laws = (row-table-length, row-table-at, count-due, count-other, all-rows, no_rows, prefix, table-bytes, push-due, push-other)

pub ruleset settle_term_laws = (length-drop, length-take-le, all-cleared, first-within, rows-count, space-settled)

pub ruleset verdict_checked_verdict_laws = (bytes-closed)

pub ruleset verdict_first_wrong_laws = (another-type, same-type)

pub ruleset verdict_head_ok_laws = (too_short, no_row, too_many, not-zero, by_length)

pub ruleset verdict_reply_verdict_laws = (sizes, number_at, headed, value-length, value-rows, bad-header, unlisted, by_rows, lent-types, lent_rows)

pub ruleset verdict_rows_verdict_laws = (good-rows)
