-- `sound::entries_sound` meets its contract: from entry i on as from the first. Assumes nothing.
use mathlib.Core.Path.{◌≡◌}
use lib.ListN.{drop}
use Rattle.meaning.specs.Types.{form_of}
use Rattle.meaning.specs.Records.{nothing, first_not, entry_sound}
use Rattle.layout.specs.Rows.{type_table}
use Rattle.types.specs.Table.{Truthful}
use Rattle.sound.specs.Ready.{entry_table}
use Rattle.sound.proofs.entries_sound.Given as goal

abbrev pub invariant-loop-i : goal.invariant-loop-i
invariant-loop-i l = (nothing (first_not (entry_sound (form_of (type_table l.types)) l.next) (drop l.i (entry_table l.calls))) ≡ nothing (first_not (entry_sound (form_of (type_table l.types)) l.next) (entry_table l.calls))) × Truthful l.known (form_of (type_table l.types))
