-- The loop's invariant: the first k are the names.
use mathlib.Core.Path.{◌≡◌}
use lib.ListN.{length, take}
use Rattle.meaning.specs.Types.{form_of, params, names as names_of}
use Rattle.reduce.proofs.puts.fill_names.Given as goal

abbrev pub invariant-loop-k : goal.invariant-loop-k
invariant-loop-k l = (length l.names ≡ length l.initial.names) × (take l.k l.names ≡ take l.k (names_of (params (form_of l.types l.t))))
