-- For each function the laws that it is proved by, beside what is tried at every goal. Assumes nothing.
use Rattle.terms.proofs.Scan.{hop-on, hops-on, hop-none}
use Rattle.terms.proofs.ByKind.{head-other, few-n, many-n, few-word, last_word, arity-listed}
use Rattle.terms.proofs.Bits.{bit-shifted, bit-beyond}

pub ruleset fields_within_laws = (few-n, many-n, few-word, last_word)

pub ruleset listed_laws = (head-other, arity-listed)

pub ruleset masks_mask_bit_laws = (bit-shifted, bit-beyond)

pub ruleset past_laws = (hop-on, hops-on, hop-none)
