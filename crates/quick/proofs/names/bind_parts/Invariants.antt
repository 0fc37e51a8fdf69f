-- The loop's invariant: the parts from the k-th on are in scope. Assumes nothing.
use Prim.Native.Nat.{◌+◌}
use mathlib.Core.Path.{◌≡◌}
use mathlib.Core.List.{◌++◌}
use lib.ListN.{length, drop}
use Rattle.meaning.specs.Types.{parts}
use Rattle.layout.specs.Forms.{says}
use Rattle.quick.specs.Names.{in_scope, NamesChained}
use Rattle.quick.proofs.names.bind_parts.Given as goal

abbrev pub invariant-loop-k : goal.invariant-loop-k
invariant-loop-k l =
    (l.j + length (parts (says l.types l.t)) ≡ l.b + l.k) × NamesChained l.bound l.heads l.j
    × (in_scope l.bound l.j ≡ drop l.k (parts (says l.types l.t)) ++ in_scope l.initial.bound l.b)
