-- A name among those bound at once. Assumes nothing.
use Prim.Native.Nat.{ℕ, ◌+◌, ◌<◌, ◌≤◌}
use mathlib.Core.Bool.{cond}
use lib.Dec.{eqb}
use mathlib.Core.Path.{◌≡◌, refl}
use mathlib.Core.List.{List, []}
use Rattle.std.specs.Prelude.{None, Some}
use lib.ListN.{length, get_or, drop, drop_of_length-le}
use Rattle.meaning.specs.Types.{Param, names, types, find}
use Rattle.rules.proofs.ByPart.{parts-front}
use Rattle.rules.proofs.ByRule.{params-says}

-- the names from the k-th on
pub find-part : (ps : List Param) (k x : ℕ) → k < length ps
    → find (drop k ps) x ≡ cond (eqb x (get_or (names ps) k 0)) (Some (get_or (types ps) k 0)) (find (drop (k + 1) ps) x)
unfolding find
find-part ps k x h = rw (parts-front ps k h) refl

pub find-end : (ps : List Param) (k x : ℕ) → length ps ≤ k → find (drop k ps) x ≡ None
unfolding find
find-end ps k x h = rw (drop_of_length-le ps {i = k} h) refl

pub find-empty : (x : ℕ) → find [] x ≡ None
unfolding find
find-empty x = refl

pub ruleset names_found = (params-says, find-part, find-end, find-empty)
