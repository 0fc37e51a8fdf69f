-- The loop's invariant: the parts from the k-th on answer as all of them do.
use Prim.Native.Nat.{◌+◌}
use mathlib.Core.Path.{◌≡◌}
use lib.ListN.{drop}
use Rattle.meaning.specs.Types.{parts}
use Rattle.meaning.specs.Typing.{same_params}
use Rattle.layout.specs.Forms.{says}
use Rattle.rules.proofs.kinds.same_params.Given as goal

abbrev pub invariant-loop-k : goal.invariant-loop-k
invariant-loop-k l = same_params (drop l.k (parts (says l.types l.t))) (drop (l.k + 1) (parts (says l.types l.c))) ≡ same_params (parts (says l.types l.t)) (drop 1 (parts (says l.types l.c)))
