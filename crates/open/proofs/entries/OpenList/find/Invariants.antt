-- `open::OpenList::find` meets its contract: from the i-th entry on as from the first. Assumes nothing.
use mathlib.Core.Path.{◌≡◌}
use lib.ListN.{drop}
use Rattle.open.specs.Open.{opened}
use Rattle.meaning.specs.Records.{listed}
use Rattle.open.proofs.entries.OpenList.find.Given as goal

abbrev pub invariant-loop-i : goal.invariant-loop-i
invariant-loop-i l = listed (drop l.i (opened l.self)) l.number ≡ listed (opened l.self) l.number
