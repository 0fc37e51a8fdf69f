-- The rows are the record's.
use Rattle.std.proofs.Common.{refl, ap, ◌∙◌}
use Rattle.meaning.specs.Records.{is_whole, shape_sound}
use Rattle.sound.proofs.Parts.{ok-whole}
use Rattle.sound.proofs.shape_sound.Goals as goal

pub returns : goal.returns
unfolding shape_sound
returns c = c.is_ok.ensures.value ∙ ok-whole _ ∙ ap is_whole (c.check_shape.ensures ∙ rw (c.rows_of-rows.ensures.table, c.type_count.ensures, c.edition.ensures) refl)
