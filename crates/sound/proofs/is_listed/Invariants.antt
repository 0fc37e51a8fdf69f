-- `sound::is_listed` meets its contract: from entry i on as from the first. Assumes nothing.
use mathlib.Core.Path.{◌≡◌}
use lib.ListN.{drop}
use Rattle.meaning.specs.Records.{listed}
use Rattle.sound.specs.Ready.{call_table}
use Rattle.sound.proofs.is_listed.Given as goal

abbrev pub invariant-loop-i : goal.invariant-loop-i
invariant-loop-i l = listed (drop l.i (call_table l.calls)) l.r.word ≡ listed (call_table l.calls) l.r.word
