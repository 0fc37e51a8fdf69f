-- Whether a type is ground goes by its parts, and what a memo of it may be told. Assumes nothing.
use Prim.Native.Nat.{ℕ, ◌+◌, ◌<◌, ◌≤◌}
use mathlib.Core.Path.{◌≡◌, refl, ap, sym, ◌∙◌}
use mathlib.Core.Logic.{◌⊎◌, inl, inr}
use mathlib.Core.Bool.{Bool, true, false}
use mathlib.Core.List.{List}
use native.Mathlib.Omega.{arith}
use native.Mathlib.Numerals.{add-one}
use native.Mathlib.Decide.{dec_lt, ℕ_discrete}
use borrow.Author.Tests.{eq-eqb, lt-ltb, le-ltb}
use lib.Dec.{eqb, ltb}
use lib.ListN.{length, drop, get_or, set, drop_of_length-le}
use lib.Seq.{drop-cons, get_or-set_same, get_or-set_other, set_out}
use Rattle.meaning.specs.Bytes.{◌∧ᵇ◌}
use Rattle.meaning.specs.Types.{Form, types, form_no, result_no, parts, form_row, every, ground_form, ground}
use Rattle.meaning.proofs.Bytes.TypeTables.{ground-eq}
use Rattle.types.specs.Table.{mark, Truthful, Told}
use Rattle.types.proofs.Laws.{row-none, row-str, row-file, row-truth, row_list, row-tuple, row-native, row-foreign, row-beyond}

-- a part is ground where its number is smaller and it is ground
unfoldable pub part_ground : (ℕ → Form) → ℕ → ℕ → Bool
part_ground form t p = ltb p t ∧ᵇ ground form p

pub ground-parts : (form : ℕ → Form) (t : ℕ) → ground form t ≡ ground_form (part_ground form t) (form t)
unfolding part_ground
ground-parts form t = ground-eq form t

pub part_low : (form : ℕ → Form) (t p : ℕ) → p < t → part_ground form t p ≡ ground form p
unfolding part_ground ◌∧ᵇ◌
part_low form t p h = rw (lt-ltb p t h)

pub part-high : (form : ℕ → Form) (t p : ℕ) → t ≤ p → part_ground form t p ≡ false
unfolding part_ground ◌∧ᵇ◌
part-high form t p h = rw (le-ltb p t h)

-- by the row's first number f
module _ (form : ℕ → Form) (t : ℕ) (r : List ℕ) (m : form t ≡ form_row r) (f : ℕ) (e : f ≡ form_no r) where
  by_row : (x : Form) → form_row r ≡ x → ground form t ≡ ground_form (part_ground form t) x
  by_row x q = ground-parts form t ∙ ap (ground_form (part_ground form t)) (m ∙ q)

  pub ground-plain : 1 ≤ f → f < 4 → ground form t ≡ true
  unfolding ground_form
  ground-plain n h =
      elim (ℕ_discrete f 1) [
        | yes q ↦ by_row _ (row-str r f e q)
        | no a ↦ elim (ℕ_discrete f 2) [ yes q ↦ by_row _ (row-file r f e q) | no b ↦ by_row _ (row-truth r f e (omega arith)) ]
      ]

  pub ground-list : f ≡ 4 → ground form t ≡ part_ground form t (result_no r)
  unfolding ground_form
  ground-list q = by_row _ (row_list r f e q)

  pub ground-tuple : f ≡ 5 → ground form t ≡ every (part_ground form t) (types (parts r))
  unfolding ground_form
  ground-tuple q = by_row _ (row-tuple r f e q)

  pub ground-other : (1 ≤ f → 6 ≤ f) → ground form t ≡ false
  unfolding ground_form
  ground-other h =
      elim (ℕ_discrete f 0) [
        | yes q ↦ by_row _ (row-none r f e q)
        | no n ↦ elim (ℕ_discrete f 6) [
          | yes q ↦ by_row _ (row-native r f e q)
          | no c ↦ elim (ℕ_discrete f 7) [ yes q ↦ by_row _ (row-foreign r f e q) | no d ↦ by_row _ (row-beyond r f e (omega arith)) ]
        ]
      ]

-- a test of all parts from the k-th on, where v is the k-th
module _ (p : ℕ → Bool) (l : List ℕ) (k v : ℕ) (h : k < length l) (e : get_or l k 0 ≡ v) where
  pub every-no : p v ≡ false → every p (drop k l) ≡ false
  unfolding every ◌∧ᵇ◌
  every-no q = rw (drop-cons l k 0 h, e, q)

  pub every-on : p v ≡ true → every p (drop k l) ≡ every p (drop (k + 1) l)
  unfolding every ◌∧ᵇ◌
  every-on q = rw (add-one k, drop-cons l k 0 h, e, q)

pub every-end : (p : ℕ → Bool) (l : List ℕ) (k : ℕ) → length l ≤ k → every p (drop k l) ≡ true
unfolding every
every-end p l k h = rw (drop_of_length-le l {i = k} h)

-- The memo -------------------------------------------------------------------------------------------------------

module _ (known : List ℕ) (form : ℕ → Form) (m : Truthful known form) (t : ℕ) where
  -- what it says is true
  said-is : (x : ℕ) → (x ≡ 0) ⊎ (x ≡ mark (ground form t)) → (x ≡ 0 → ⊥) → eqb x 1 ≡ ground form t
  said-is x (inl e) n = absurd (n e)
  said-is x (inr e) n = rw e (marked (ground form t))
    where
      marked : (b : Bool) → eqb (mark b) 1 ≡ b
      marked true = refl
      marked false = refl

  pub said : (get_or known t 0 ≡ 0 → ⊥) → eqb (get_or known t 0) 1 ≡ ground form t
  unfolding Truthful
  said n = said-is (get_or known t 0) (m t) n

  pub said-yes : get_or known t 0 ≡ 1 → ground form t ≡ true
  said-yes e = sym (said (λ z. omega arith)) ∙ eq-eqb (get_or known t 0) 1 e

  remembered : (b : Bool) → b ≡ ground form t → Truthful (set known t (mark b)) form
  unfolding Truthful
  remembered b e u =
      elim (ℕ_discrete u t) [
        | no n ↦ rw (get_or-set_other known t u (mark b) 0 n) (m u)
        | yes q ↦ elim (dec_lt t (length known)) [
          | yes h ↦ inr (rw (q, get_or-set_same known t (mark b) 0 h) (ap mark e))
          | no h ↦ rw (set_out known t (mark b) (omega arith)) (m u)
        ]
      ]

  -- the memo is told of type t
  pub tells : (known' : List ℕ) (b r : Bool) → (r ≡ b) × (known' ≡ set known t (mark b)) → ground form t ≡ b → Told form known' (ground form t) r
  tells known' b r (p, q) e = record { answer = p ∙ sym e; memo = rw q (remembered b (sym e)) }
