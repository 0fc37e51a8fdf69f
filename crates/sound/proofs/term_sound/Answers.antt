-- The types and rows are the record's.
use Rattle.std.proofs.Common.{refl, ap, ◌∙◌, arith}
use Rattle.meaning.specs.Records.{nothing, term_sound, state_of}
use Rattle.sound.proofs.Parts.{none-nothing, shape-closed}
use Rattle.sound.proofs.term_sound.Goals as goal

pub first_bad-requires : goal.first_bad-requires
first_bad-requires c = (omega arith, shape-closed c.args.m c.args.kept.now _ c.rows_of.ensures.table c.requires.1)

pub returns : goal.returns
unfolding term_sound state_of
returns c = none-nothing _ _ c.is_none.ensures ∙ ap nothing (c.first_bad.ensures ∙ rw (c.types_of.ensures, c.rows_of.ensures.table) refl)
