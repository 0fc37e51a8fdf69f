-- By its sum.
use mathlib.Core.Path.{refl}
use Rattle.search.specs.Kept.{entered_number}
use Rattle.search.proofs.entered_number.Goals as goal

pub returns : goal.returns
unfolding entered_number
returns c = refl
