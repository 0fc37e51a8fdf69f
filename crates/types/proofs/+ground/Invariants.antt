-- `types::ground` meets its contract: by the form; the measure is the type's number. Assumes nothing.
use mathlib.Core.Path.{◌≡◌}
use lib.ListN.{drop}
use Rattle.meaning.specs.Types.{types as types_of, parts, form_of, every}
use Rattle.layout.specs.Rows.{type_table}
use Rattle.types.specs.Table.{type_at, Truthful}
use Rattle.types.proofs.GroundLaws.{part_ground}
use Rattle.types.proofs.+ground.Given as goal

abbrev pub invariant-loop-k : goal.invariant-loop-k
invariant-loop-k l = (every (part_ground (form_of (type_table l.types)) l.t) (drop l.k (types_of (parts (type_at l.types l.t)))) ≡ every (part_ground (form_of (type_table l.types)) l.t) (types_of (parts (type_at l.types l.t)))) × Truthful l.known (form_of (type_table l.types))

-- the type's number falls at each call
abbrev pub decreases-ground : goal.decreases-ground
decreases-ground l = l.t
