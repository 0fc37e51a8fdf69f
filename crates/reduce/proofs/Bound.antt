-- The names that a function's type binds, the element type of a list type, and arrays filled one by one. Assumes nothing.
use Prim.Native.Nat.{ℕ, zero, suc, ◌+◌, ◌≤◌, ◌<◌}
use mathlib.Core.Path.{◌≡◌, refl, ap, sym, ◌∙◌}
use mathlib.Core.Bool.{Bool, true, false, cond}
use mathlib.Core.List.{List, [], ◌∷◌, ◌++◌}
use native.Mathlib.Omega.{arith}
use native.Mathlib.Decide.{ℕ_discrete}
use native.Mathlib.Numerals.{add-one}
use lib.Dec.{eqb}
use lib.ListN.{length, get_or, take, set}
use lib.Seq.{take-suc, take-suc-set, get_or-set_same, get_or-set_other}
use borrow.Author.Tests.{ne_eqb}
use Rattle.meaning.specs.Types.{Str, File, Truth, ntv, frn, Param, Form, absent, base, f_tuple, f_fun, types, parts, elem_of, form_no, result_no, form_row, form_of}
use Rattle.rules.specs.Forms.{forms}
use Rattle.layout.specs.Forms.{says}

pub some-bound : (ps : List Param) → (ps ≡ [] → ⊥) → 0 < length ps
some-bound [] e = absurd (e refl)
some-bound (p ∷ ps) e = omega arith

module _ (s : List (List ℕ)) (t : ℕ) where
  pub elem-list : form_no (says s t) ≡ 4 → elem_of (forms s t) ≡ result_no (says s t)
  unfolding form_of form_row elem_of says
  elem-list e = rw e refl

  elem-other : (a b c d e f : Bool) (u v w : Form) → elem_of u ≡ 0 → elem_of v ≡ 0 → elem_of w ≡ 0 → elem_of (cond a (base Str) (cond b (base File) (cond c (base Truth) (cond d u (cond e v (cond f w absent)))))) ≡ 0
  unfolding elem_of
  elem-other true b c d e f u v w x y z = refl
  elem-other false true c d e f u v w x y z = refl
  elem-other false false true d e f u v w x y z = refl
  elem-other false false false true e f u v w x y z = x
  elem-other false false false false true f u v w x y z = y
  elem-other false false false false false true u v w x y z = z
  elem-other false false false false false false u v w x y z = refl

  pub elem-none : (form_no (says s t) ≡ 4 → ⊥) → elem_of (forms s t) ≡ 0
  unfolding form_of form_row elem_of says
  elem-none e =
      let r = get_or s t [] in
      rw (ne_eqb (form_no r) 4 e)
      (elem-other (eqb (form_no r) 1) (eqb (form_no r) 2) (eqb (form_no r) 3) (eqb (form_no r) 5) (eqb (form_no r) 6) (eqb (form_no r) 7) (f_tuple (types (parts r))) (f_fun ntv (parts r) (result_no r)) (f_fun frn (parts r) (result_no r)) refl refl refl)

-- an array that is filled from its first entry on
pub named_more : (xs ys : List ℕ) (k v : ℕ) → k < length xs → k < length ys → take k xs ≡ take k ys → v ≡ get_or ys k 0 → take (k + 1) (set xs k v) ≡ take (k + 1) ys
named_more xs ys k v h g e q =
    rw (add-one k) (take-suc-set xs k v h ∙ ap (λ (l : List ℕ). l ++ (v ∷ [])) e ∙ ap (λ (x : ℕ). take k ys ++ (x ∷ [])) q ∙ sym (take-suc ys k 0 g))

pub bounds-more : (xs : List ℕ) (k v : ℕ) (f : ℕ → ℕ) → k + 1 < length xs → ((j : ℕ) → j ≤ k → get_or xs j 0 ≡ f j) → v ≡ f (k + 1) → (j : ℕ) → j ≤ k + 1 → get_or (set xs (k + 1) v) j 0 ≡ f j
bounds-more xs k v f h g e j i =
    elim (ℕ_discrete j (k + 1)) [
      | yes q ↦ rw q (get_or-set_same xs (k + 1) v 0 h ∙ e)
      | no q ↦ get_or-set_other xs (k + 1) j v 0 q ∙ g j (omega (arith, q))
    ]

pub bounds-first : (xs : List ℕ) (v : ℕ) (f : ℕ → ℕ) → 0 < length xs → v ≡ f 0 → (j : ℕ) → j ≤ 0 → get_or (set xs 0 v) j 0 ≡ f j
bounds-first xs v f h e zero i = get_or-set_same xs 0 v 0 h ∙ e
bounds-first xs v f h e (suc j) i = absurd (omega arith)
