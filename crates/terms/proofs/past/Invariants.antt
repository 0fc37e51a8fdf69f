-- The loop's invariant: as many entries are left to go as the count says, and they lead to the same row.
use Prim.Native.Nat.{◌-◌}
use mathlib.Core.Path.{◌≡◌}
use Rattle.terms.specs.Tables.{hop, HopsIn}
use Rattle.terms.proofs.past.Given as goal

abbrev pub invariant-loop-k : goal.invariant-loop-k
invariant-loop-k l = (hop l.ends l.e (l.n - l.k) ≡ hop l.ends l.at l.n) × HopsIn l.ends l.e (l.n - l.k)
