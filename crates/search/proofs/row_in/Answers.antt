-- By division.
use mathlib.Core.Path.{refl}
use Rattle.search.specs.Kept.{row_in}
use Rattle.search.proofs.row_in.Goals as goal

pub returns : goal.returns
unfolding row_in
returns c = refl
