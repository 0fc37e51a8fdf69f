-- Tests and what they tell. Assumes nothing.
use Prim.Native.Nat.{ℕ, ◌≤◌}
use mathlib.Core.Path.{◌≡◌, refl}
use mathlib.Core.Bool.{Bool, true, false, false≢true}
use mathlib.Core.List.{List, [], ◌∷◌}
use Rattle.std.specs.Prelude.{Option, None, Some}
use lib.Dec.{eqb}
use borrow.Author.Tests.{eq-eqb, eqb-true, le-leb, leb-true}
use Rattle.meaning.specs.Bytes.{◌∧ᵇ◌, within}
use Rattle.meaning.specs.Types.{same_numbers}
use Rattle.meaning.specs.Steps.{◌∨ᵇ◌}

pub both : (a b : Bool) → a ≡ true → b ≡ true → (a ∧ᵇ b) ≡ true
unfolding ◌∧ᵇ◌
both true b p q = q
both false b p q = p

pub left : (a b : Bool) → (a ∧ᵇ b) ≡ true → a ≡ true
unfolding ◌∧ᵇ◌
left true b p = refl
left false b p = p

pub right : (a b : Bool) → (a ∧ᵇ b) ≡ true → b ≡ true
unfolding ◌∧ᵇ◌
right true b p = p
right false b p = absurd (false≢true p)

pub or_l : (a b : Bool) → a ≡ true → (a ∨ᵇ b) ≡ true
unfolding ◌∨ᵇ◌
or_l true b e = refl
or_l false b e = cc

pub or_r : (a b : Bool) → b ≡ true → (a ∨ᵇ b) ≡ true
unfolding ◌∨ᵇ◌
or_r true b e = refl
or_r false b e = e

pub neither-l : (a b : Bool) → (a ∨ᵇ b) ≡ false → a ≡ false
unfolding ◌∨ᵇ◌
neither-l true b e = e
neither-l false b e = refl

pub neither-r : (a b : Bool) → (a ∨ᵇ b) ≡ false → b ≡ false
unfolding ◌∨ᵇ◌
neither-r true b e = cc
neither-r false b e = e

pub eq-same : (n : ℕ) → eqb n n ≡ true
eq-same n = eq-eqb n n refl

pub within-if : (a b n : ℕ) → within a b n ≡ true → (a ≤ n) × (n ≤ b)
unfolding within
within-if a b n e = (leb-true a n (left _ _ e), leb-true n b (right _ _ e))

pub within_of : (a b n : ℕ) → a ≤ n → n ≤ b → within a b n ≡ true
unfolding within
within_of a b n h k = both _ _ (le-leb a n h) (le-leb n b k)

pub numbers-is : (a b : List ℕ) → same_numbers a b ≡ true → a ≡ b
unfolding same_numbers
numbers-is [] [] t = refl
numbers-is [] (y ∷ ys) t = absurd (false≢true t)
numbers-is (x ∷ xs) [] t = absurd (false≢true t)
numbers-is (x ∷ xs) (y ∷ ys) t = cc (eqb-true x y (left _ _ t), numbers-is xs ys (right _ _ t))

pub numbers-same : (a : List ℕ) → same_numbers a a ≡ true
unfolding same_numbers
numbers-same [] = refl
numbers-same (x ∷ xs) = both _ _ (eq-same x) (numbers-same xs)

pub none-some : {A : Type 0} (a : A) → ◌≡◌ {A = Option A} None (Some a) → ⊥
none-some a e = let z : false ≡ true = cc in false≢true z
