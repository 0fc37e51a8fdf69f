-- What is due, as numbers say it. Assumes nothing.
use Prim.Native.Nat.{ℕ, suc, ◌+◌, ◌-◌, ◌≤◌, ◌<◌}
use mathlib.Core.Path.{◌≡◌, refl, ap, ◌∙◌}
use mathlib.Core.List.{List, [], ◌∷◌, ◌++◌, map}
use native.Mathlib.Omega.{arith}
use borrow.Author.Tests.{lt-ltb, le-ltb}
use lib.ListN.{length, get_or, drop, set, length-set, drop_of_length-le}
use lib.Seq.{drop-cons}
use native.Mathlib.Numerals.{add-one}
use Rattle.rules.proofs.ByPart.{types-length}
use Rattle.quick.specs.Dues.{Due, wanted, ends, begins, due, dues}
use Rattle.quick.proofs.Chains.{stored-front}

pub due-wanted : (e : ℕ) → e < 65536 → due e ≡ wanted e
unfolding due
due-wanted e h = rw (lt-ltb e 65536 h)

pub due-ends : (e n : ℕ) → e ≡ 65536 + n → n < 65536 → due e ≡ ends n
unfolding due
due-ends e n q h =
    let z : e - 65536 ≡ n = omega arith in
    rw (le-ltb e 65536 (omega arith), lt-ltb e 131072 (omega arith), z)

pub due-begins : (e n : ℕ) → e ≡ 131072 + n → due e ≡ begins n
unfolding due
due-begins e n q =
    let z : e - 131072 ≡ n = omega arith in
    rw (le-ltb e 65536 (omega arith), le-ltb e 131072 (omega arith), z)

-- one more in front
pub dues-stored : (l : List ℕ) (s v : ℕ) → 0 < s → s ≤ length l → dues (set l (s - 1) v) (s - 1) ≡ due v ∷ dues l s
unfolding dues
dues-stored l s v z h =
    let e : suc (s - 1) ≡ s = omega arith in
    ap (map due) (stored-front l (s - 1) v (omega arith)) ∙ ap (λ (j : ℕ). due v ∷ map due (drop j l)) e

pub dues-front : (l : List ℕ) (s : ℕ) → s < length l → dues l s ≡ due (get_or l s 0) ∷ dues l (s + 1)
unfolding dues
dues-front l s h = let e : suc s ≡ s + 1 = omega arith in rw (← e, drop-cons l s 0 h)

-- the parts from the k-th on
pub wants_front : (ts : List ℕ) (k : ℕ) → k < length ts → map wanted (drop k ts) ≡ wanted (get_or ts k 0) ∷ map wanted (drop (k + 1) ts)
wants_front ts k h = rw (drop-cons ts k 0 h, add-one k)

pub wants_none : (ts : List ℕ) (k : ℕ) → length ts ≤ k → map wanted (drop k ts) ≡ []
wants_none ts k h = ap (map wanted) (drop_of_length-le ts {i = k} h)

pub append_none : (ds : List Due) → [] ++ ds ≡ ds
append_none ds = refl

pub append_one : (d : Due) (cs ds : List Due) → (d ∷ cs) ++ ds ≡ d ∷ (cs ++ ds)
append_one d cs ds = refl

pub ruleset parts_wanted = (wants_front, wants_none, append_none, append_one, types-length)

-- WHAT IS DUE, AS IT IS KEPT
pub ends_kept : (n : ℕ) → n < 65536 → due (65536 + n) ≡ ends n
ends_kept n h = due-ends (65536 + n) n refl h

pub begins_kept : (n : ℕ) → due (131072 + n) ≡ begins n
begins_kept n = due-begins (131072 + n) n refl

pub ruleset dues_kept = (dues-stored, due-wanted, ends_kept, begins_kept, length-set)
