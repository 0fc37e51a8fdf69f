-- The loop's invariant: the parts from the k-th on are due. Assumes nothing.
use Prim.Native.Nat.{◌+◌}
use mathlib.Core.Path.{◌≡◌}
use mathlib.Core.List.{◌++◌, map}
use lib.ListN.{length, drop}
use Rattle.layout.specs.Forms.{says, part_types}
use Rattle.quick.specs.Dues.{wanted, dues}
use Rattle.quick.proofs.dues.want_parts.Given as goal

abbrev pub invariant-loop-k : goal.invariant-loop-k
invariant-loop-k l =
    (l.j + length (part_types (says l.types l.t)) ≡ l.s + l.k)
    × (dues l.stack l.j ≡ map wanted (drop l.k (part_types (says l.types l.t))) ++ dues l.initial.stack l.s)
