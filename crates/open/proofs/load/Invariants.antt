-- `open::load` meets its contract: one entry more with each turn. Assumes nothing.
use mathlib.Core.Path.{◌≡◌}
use lib.ListN.{length, take}
use Rattle.open.specs.Open.{call}
use mathlib.Core.List.{map}
use Rattle.meaning.specs.Bytes.{reads, entry_row}
use Rattle.meaning.specs.Records.{entry_of}
use Rattle.open.proofs.load.Given as goal

abbrev pub invariant-loop-i : goal.invariant-loop-i
invariant-loop-i l = (length l.entries ≡ 64) × (map call (take l.i l.entries) ≡ map entry_of (reads entry_row l.i l.calls))
