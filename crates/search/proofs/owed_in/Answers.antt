-- By division.
use mathlib.Core.Path.{refl}
use Rattle.search.specs.Kept.{owed_in}
use Rattle.search.proofs.owed_in.Goals as goal

pub returns : goal.returns
unfolding owed_in
returns c = refl
