-- `types::bad_type` meets its contract: from row i on as from the first. Assumes nothing.
use mathlib.Core.Path.{◌≡◌}
use lib.ListN.{take, drop}
use Rattle.meaning.specs.Types.{form_of, bad_type_from, bad_type}
use Rattle.layout.specs.Rows.{type_table}
use Rattle.types.specs.Table.{Truthful}
use Rattle.types.specs.Chains.{Chained}
use Rattle.types.proofs.bad_type.Given as goal

abbrev pub invariant-loop-i : goal.invariant-loop-i
invariant-loop-i l =
    (bad_type_from l.edition (take l.i (type_table l.types)) (drop l.i (type_table l.types)) ≡ bad_type l.edition (type_table l.types))
    × Truthful l.known (form_of (type_table l.types))
    × Chained l.types l.heads l.links l.i
