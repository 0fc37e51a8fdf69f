-- The loop's invariant: the names from the k-th on answer as all of them do.
use mathlib.Core.Path.{◌≡◌}
use lib.ListN.{drop}
use Rattle.meaning.specs.Types.{params, parts, find}
use Rattle.rules.specs.Forms.{forms}
use Rattle.layout.specs.Forms.{says}
use Rattle.rules.proofs.names.param_named.Given as goal

abbrev pub invariant-loop-k : goal.invariant-loop-k
invariant-loop-k l = find (drop l.k (parts (says l.types l.t))) l.x ≡ find (params (forms l.types l.t)) l.x
