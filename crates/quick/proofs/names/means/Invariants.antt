-- The loop's invariant: the name means from entry j on what it means in the whole scope, and entry j is of its chain. Assumes nothing.
use Prim.Native.Nat.{ℕ, ◌-◌, ◌%◌, ◌≤◌, ◌<◌}
use mathlib.Core.Path.{◌≡◌}
use lib.ListN.{length, get_or}
use Rattle.meaning.specs.Types.{find}
use Rattle.quick.specs.Names.{name_in, in_scope, NamesChained}
use Rattle.quick.proofs.names.means.Given as goal

abbrev pub invariant-loop-j : goal.invariant-loop-j
invariant-loop-j l = (b : ℕ) → NamesChained l.bound l.heads b → (b ≤ l.j) × (find (in_scope l.bound b) l.x ≡ find (in_scope l.bound l.j) l.x) × (l.j < length l.bound → name_in (get_or l.bound l.j 0) % 256 ≡ l.x % 256)

abbrev pub decreases-loop-j : goal.decreases-loop-j
decreases-loop-j l = length l.bound - l.j
