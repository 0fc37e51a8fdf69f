-- The last bit.
use mathlib.Core.Path.{refl}
use Rattle.search.specs.Kept.{flag_in}
use Rattle.search.proofs.flag_in.Goals as goal

pub returns : goal.returns
unfolding flag_in
returns c = refl
