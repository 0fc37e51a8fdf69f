-- By the frame's row and its first tree.
use mathlib.Core.Path.{sym}
use Rattle.search.specs.Kept.{wants_here}
use Rattle.search.proofs.wants_here.Goals as goal

pub returns : goal.returns
unfolding wants_here
returns c = rw (sym c.row_in-at.ensures, sym c.first_kind-c.ensures) c.wants_values.ensures
