-- Plain lists: parts of a mapped list, and a list with one place closed up. Assumes nothing.
use Prim.Native.Nat.{ℕ, zero, suc, ◌-◌}
use mathlib.Core.Path.{◌≡◌, refl, ap, sym, ◌∙◌}
use mathlib.Core.List.{List, [], ◌∷◌, map}
use native.Mathlib.Omega.{arith}
use lib.ListN.{take, drop}
use lib.Seq.{take-nil}

module _ {A B : Type 0} (f : A → B) where
  pub map-take : (n : ℕ) (l : List A) → map f (take n l) ≡ take n (map f l)
  map-take zero l = refl
  map-take (suc n) [] = refl
  map-take (suc n) (x ∷ l) = ap (λ (y : List B). f x ∷ y) (map-take n l)

  pub map-drop : (n : ℕ) (l : List A) → map f (drop n l) ≡ drop n (map f l)
  map-drop zero l = refl
  map-drop (suc n) [] = refl
  map-drop (suc n) (x ∷ l) = map-drop n l

module _ {A : Type 0} where
  pub drop-take : (m n : ℕ) (l : List A) → drop m (take n l) ≡ take (n - m) (drop m l)
  drop-take zero n l = let e : n ≡ n - 0 = omega arith in ap (λ (k : ℕ). take k l) e
  drop-take (suc m) zero l = let e : 0 ≡ 0 - suc m = omega arith in ap (λ (k : ℕ). take k (drop (suc m) l)) e
  drop-take (suc m) (suc n) [] = sym (take-nil (suc n - suc m))
  drop-take (suc m) (suc n) (x ∷ l) = let e : n - m ≡ suc n - suc m = omega arith in drop-take m n l ∙ ap (λ (k : ℕ). take k (drop m l)) e
