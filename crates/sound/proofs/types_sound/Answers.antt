-- The types are the record's.
use Rattle.std.proofs.Common.{refl, ap, ◌∙◌}
use Rattle.meaning.specs.Records.{nothing, types_sound}
use Rattle.sound.proofs.Parts.{none-nothing}
use Rattle.sound.proofs.types_sound.Goals as goal

pub returns : goal.returns
unfolding types_sound
returns c = none-nothing _ _ c.is_none.ensures ∙ ap nothing (c.bad_type.ensures ∙ rw (c.type_bytes.ensures.table, c.edition.ensures) refl)
