-- Tests on the parts of types, part by part. Assumes nothing.
use Prim.Native.Nat.{ℕ, zero, suc, ◌+◌, ◌-◌, ◌/◌, ◌%◌, ◌<◌, ◌≤◌}
use mathlib.Core.Path.{◌≡◌, refl, ap, ◌∙◌}
use mathlib.Core.Bool.{Bool, true, false}
use mathlib.Core.List.{List, [], ◌∷◌}
use native.Mathlib.Omega.{arith}
use lib.Dec.{eqb}
use lib.ListN.{length, get_or, drop, drop_of_length-le, length-drop}
use Rattle.meaning.specs.Bytes.{◌∧ᵇ◌}
use Rattle.meaning.specs.Types.{Param, Form, names, types, place, low, rest}
use Rattle.meaning.specs.Typing.{same_params, given, masked_ok, zipped_ok}

pub types-length : (ps : List Param) → length (types ps) ≡ length ps
unfolding types
types-length [] = refl
types-length (p ∷ ps) = ap suc (types-length ps)

-- the n-th, counted from 1
module _ (ts : List ℕ) (u : ℕ) where
  pub given_none : given (place 0 ts) u ≡ false
  unfolding place given
  given_none = go ts
    where
      go : (ts : List ℕ) → given (place 0 ts) u ≡ false
      go [] = refl
      go (t ∷ ts) = refl

pub given-beyond : (n : ℕ) (ts : List ℕ) (u : ℕ) → length ts < n → given (place n ts) u ≡ false
unfolding place given
given-beyond zero ts u h = absurd (omega arith)
given-beyond (suc n) [] u h = refl
given-beyond (suc zero) (t ∷ ts) u h = absurd (omega arith)
given-beyond (suc (suc n)) (t ∷ ts) u h = given-beyond (suc n) ts u (omega arith)

pub given-at : (n : ℕ) (ts : List ℕ) (u : ℕ) → 0 < n → n ≤ length ts → given (place n ts) u ≡ eqb (get_or ts (n - 1) 0) u
unfolding place given
given-at zero ts u z h = absurd (omega arith)
given-at (suc n) [] u z h = absurd (omega arith)
given-at (suc zero) (t ∷ ts) u z h = refl
given-at (suc (suc n)) (t ∷ ts) u z h =
    let e : suc (suc n) - 1 ≡ suc n = omega arith in
    let q : suc n - 1 ≡ n = omega arith in
    rw e (given-at (suc n) ts u (omega arith) (omega arith) ∙ rw q refl)

pub ruleset parts_placed = (given_none, given-beyond, given-at, types-length)

-- the parts from the k-th on
pub parts-front : (ps : List Param) (k : ℕ) → k < length ps → drop k ps ≡ record { name = get_or (names ps) k 0; type = get_or (types ps) k 0 } ∷ drop (k
    + 1) ps
unfolding names types
parts-front [] k h = absurd (omega arith)
parts-front (p ∷ ps) zero h = refl
parts-front (p ∷ ps) (suc k) h = let e : suc k + 1 ≡ suc (k + 1) = omega arith in rw e (parts-front ps k (omega arith))

-- tests, the first one decided
pub and_first : (b : Bool) → true ∧ᵇ b ≡ b
unfolding ◌∧ᵇ◌
and_first b = refl

pub and_none : (b : Bool) → false ∧ᵇ b ≡ false
unfolding ◌∧ᵇ◌
and_none b = refl

no_more : (a b : Bool) → a ∧ᵇ (b ∧ᵇ false) ≡ false
unfolding ◌∧ᵇ◌
no_more true true = refl
no_more true false = refl
no_more false b = refl

-- the same parts
pub params_same : (ps qs : List Param) (k j : ℕ) → k < length ps → j < length qs
    → same_params (drop k ps) (drop j qs) ≡ eqb (get_or (names ps) k 0) (get_or (names qs) j 0) ∧ᵇ (eqb (get_or (types ps) k 0) (get_or (types qs) j 0) ∧ᵇ
    same_params (drop (k + 1) ps) (drop (j + 1) qs))
unfolding same_params
params_same ps qs k j h g = rw (parts-front ps k h, parts-front qs j g) refl

pub params-lengths : (ps qs : List Param) → (length ps ≡ length qs → ⊥) → same_params ps qs ≡ false
unfolding same_params
params-lengths [] [] h = absurd (h refl)
params-lengths [] (q ∷ qs) h = refl
params-lengths (p ∷ ps) [] h = refl
params-lengths (p ∷ ps) (q ∷ qs) h = rw (params-lengths ps qs (λ e. h (ap suc e))) (no_more (eqb p.name q.name) (eqb p.type q.type))

pub params-end : (ps qs : List Param) (k j : ℕ) → length ps ≤ k → length qs ≤ j → same_params (drop k ps) (drop j qs) ≡ true
unfolding same_params
params-end ps qs k j h g = rw (drop_of_length-le ps {i = k} h, drop_of_length-le qs {i = j} g) refl

pub ruleset params_alike = (params_same, params-lengths, params-end, length-drop, and_first, and_none)

-- zipped parts
module _ (form : ℕ → Form) where
  pub zipped-more : (m : ℕ) (ps qs : List Param) (k : ℕ) → k < length ps → k < length qs
      → zipped_ok form m (drop k ps) (drop k qs)
      ≡ eqb (get_or (names qs) k 0) (get_or (names ps) k 0) ∧ᵇ (masked_ok form (eqb (m % 2) 1) (get_or (types ps) k 0) (get_or (types qs) k 0) ∧ᵇ zipped_ok form
      (m / 2) (drop (k + 1) ps) (drop (k + 1) qs))
  unfolding zipped_ok low rest
  zipped-more m ps qs k h g = rw (parts-front ps k h, parts-front qs k g) refl

  pub zipped-lengths : (m : ℕ) (ps qs : List Param) → (length ps ≡ length qs → ⊥) → zipped_ok form m ps qs ≡ false
  unfolding zipped_ok
  zipped-lengths m [] [] h = absurd (h refl)
  zipped-lengths m [] (q ∷ qs) h = refl
  zipped-lengths m (p ∷ ps) [] h = refl
  zipped-lengths m (p ∷ ps) (q ∷ qs) h =
      rw (zipped-lengths (rest m) ps qs (λ e. h (ap suc e))) (no_more (eqb q.name p.name) (masked_ok form (low m) p.type q.type))

  pub zipped-end : (m : ℕ) (ps qs : List Param) (k : ℕ) → length ps ≤ k → length qs ≤ k → zipped_ok form m (drop k ps) (drop k qs) ≡ eqb m 0
  unfolding zipped_ok
  zipped-end m ps qs k h g = rw (drop_of_length-le ps {i = k} h, drop_of_length-le qs {i = k} g) refl

pub ruleset zipped_alike = (zipped-more, zipped-lengths, zipped-end, and_first, and_none)
