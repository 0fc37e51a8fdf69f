-- `layout::copy_to` meets its contract: after i turns the first i bytes are copied. Assumes nothing.
use mathlib.Core.Path.{◌≡◌}
use lib.ListN.{drop}
use lib.Seq.{paste}
use Rattle.layout.proofs.copy_to.Given as goal

abbrev pub invariant-loop-i : goal.invariant-loop-i
invariant-loop-i l = l.dst ≡ paste l.initial.dst l.at (drop l.from l.src) l.i
