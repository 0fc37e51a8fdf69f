-- `sound::rising` meets its contract: from entry i on as from the first. Assumes nothing.
use mathlib.Core.Path.{◌≡◌}
use lib.ListN.{drop}
use Rattle.meaning.specs.Records.{rises}
use Rattle.sound.specs.Ready.{call_table}
use Rattle.sound.proofs.rising.Given as goal

abbrev pub invariant-loop-i : goal.invariant-loop-i
invariant-loop-i l = rises l.low (drop l.i (call_table l.calls)) ≡ rises 0 (call_table l.calls)
