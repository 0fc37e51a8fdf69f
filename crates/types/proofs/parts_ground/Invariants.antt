-- `types::parts_ground` meets its contract: from the k-th part on as from the first. Assumes nothing.
use mathlib.Core.Path.{◌≡◌}
use lib.ListN.{drop}
use Rattle.meaning.specs.Types.{types as types_of, parts, form_of, every, ground}
use Rattle.layout.specs.Rows.{type_table}
use Rattle.types.specs.Table.{type_at, parts_ground, Truthful}
use Rattle.types.proofs.parts_ground.Given as goal

abbrev pub invariant-loop-k : goal.invariant-loop-k
invariant-loop-k l = (every (ground (form_of (type_table l.types))) (drop l.k (types_of (parts (type_at l.types l.t)))) ≡ parts_ground (form_of (type_table l.types)) (type_at l.types l.t)) × Truthful l.known (form_of (type_table l.types))
