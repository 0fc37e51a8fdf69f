-- `open::OpenList::place` meets its contract: what stands before the i-th entry stays. Assumes nothing.
use mathlib.Core.Path.{◌≡◌}
use lib.ListN.{take, drop}
use Rattle.open.specs.Open.{opened}
use mathlib.Core.List.{◌++◌}
use Rattle.meaning.specs.Entries.{without}
use Rattle.open.proofs.entries.OpenList.place.Given as goal

abbrev pub invariant-loop-i : goal.invariant-loop-i
invariant-loop-i l = without l.number (opened l.self) ≡ take l.i (opened l.self) ++ without l.number (drop l.i (opened l.self))
