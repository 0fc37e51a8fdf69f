-- By the mask's bit, else by what the row binds.
use mathlib.Core.Path.{sym, ◌∙◌}
use Rattle.put.proofs.Turning.{or_left, or_right}
use Rattle.put.proofs.hides.Goals as goal

pub returns-then-mask_bit : goal.returns-then-mask_bit
returns-then-mask_bit c = c.if-mask_bit.true ∙ or_left _ _ (sym c.mask_bit.ensures ∙ c.if-mask_bit.true)

pub returns-else-mask_bit : goal.returns-else-mask_bit
returns-else-mask_bit c = c.binds_name.ensures ∙ or_right _ _ (sym c.mask_bit.ensures ∙ c.if-mask_bit.false)
