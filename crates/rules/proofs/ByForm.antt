-- Tests on forms, and the rules that ask them, by the numbers of type rows. Assumes nothing.
use Prim.Native.Nat.{ℕ, ◌≤◌}
use mathlib.Core.Path.{◌≡◌, refl}
use mathlib.Core.Bool.{Bool, cond}
use mathlib.Core.List.{List, []}
use native.Mathlib.Omega.{arith}
use native.Mathlib.Decide.{dec_lt}
use lib.Dec.{eqb}
use borrow.Author.Tests.{ne_eqb}
use Rattle.meaning.specs.Bytes.{◌∧ᵇ◌}
use Rattle.meaning.specs.Types.{Base, Str, File, Truth, Side, ntv, frn, Param, Form, absent, base, f_list, f_tuple, f_fun, types, params, form_no, result_no, parts, form_row}
use Rattle.meaning.specs.Typing.{base_no, is_base, when_list, when_tuple, when_fun}
use Rattle.layout.specs.Forms.{is_function}
use Rattle.terms.proofs.ByKind.{Below, below}

-- the form that a number makes of a result and parts
abbrev form_by : ℕ → ℕ → List Param → Form
form_by f r ps =
    cond (eqb f 1) (base Str)
    (cond (eqb f 2) (base File)
    (cond (eqb f 3) (base Truth)
    (cond (eqb f 4) (f_list r) (cond (eqb f 5) (f_tuple (types ps)) (cond (eqb f 6) (f_fun ntv ps r) (cond (eqb f 7) (f_fun frn ps r) absent))))))

form-other : (f r : ℕ) (ps : List Param) → 8 ≤ f → form_by f r ps ≡ absent
form-other f r ps h =
    rw (
      ne_eqb f 1 (omega arith),
      ne_eqb f 2 (omega arith),
      ne_eqb f 3 (omega arith),
      ne_eqb f 4 (omega arith),
      ne_eqb f 5 (omega arith),
      ne_eqb f 6
          (omega arith),
      ne_eqb f 7 (omega arith),
    ) refl

-- a fact of each number of a form
by_form : (P : ℕ → Type 0) → Below P 8 → ((f : ℕ) → 8 ≤ f → P f) → (f : ℕ) → P f
by_form P b o f = elim (dec_lt f 8) [ yes h ↦ below P 8 b f h | no h ↦ o f (omega arith) ]

module _ (r : ℕ) (ps : List Param) where
  base-by : (b : Base) (f : ℕ) → is_base b (form_by f r ps) ≡ eqb f (base_no b)
  unfolding is_base base_no
  base-by Str = by_form (λ f. is_base Str (form_by f r ps) ≡ eqb f 1) ((((((((tt, refl), refl), refl), refl), refl), refl), refl), refl) (λ f h. rw
      (form-other f r ps h, ne_eqb f 1 (omega arith)) refl)
  base-by File = by_form (λ f. is_base File (form_by f r ps) ≡ eqb f 2) ((((((((tt, refl), refl), refl), refl), refl), refl), refl), refl) (λ f h. rw
      (form-other f r ps h, ne_eqb f 2 (omega arith)) refl)
  base-by Truth = by_form (λ f. is_base Truth (form_by f r ps) ≡ eqb f 3) ((((((((tt, refl), refl), refl), refl), refl), refl), refl), refl) (λ f h. rw
      (form-other f r ps h, ne_eqb f 3 (omega arith)) refl)

  list-by : (k : ℕ → Bool) (f : ℕ) → when_list (form_by f r ps) k ≡ eqb f 4 ∧ᵇ k r
  unfolding when_list ◌∧ᵇ◌
  list-by k = by_form (λ f. when_list (form_by f r ps) k ≡ eqb f 4 ∧ᵇ k r) ((((((((tt, refl), refl), refl), refl), refl), refl), refl), refl) (λ f h. rw
      (form-other f r ps h, ne_eqb f 4 (omega arith)) refl)

  tuple-by : (k : List ℕ → Bool) (f : ℕ) → when_tuple (form_by f r ps) k ≡ eqb f 5 ∧ᵇ k (types ps)
  unfolding when_tuple ◌∧ᵇ◌
  tuple-by k = by_form (λ f. when_tuple (form_by f r ps) k ≡ eqb f 5 ∧ᵇ k (types ps)) ((((((((tt, refl), refl), refl), refl), refl), refl), refl), refl)
      (λ f h. rw (form-other f r ps h, ne_eqb f 5 (omega arith)) refl)

  fun-by : (k : Side → List Param → ℕ → Bool) (f : ℕ) → when_fun (form_by f r ps) k ≡ cond (eqb f 6) (k ntv ps r) (eqb f 7 ∧ᵇ k frn ps r)
  unfolding when_fun ◌∧ᵇ◌
  fun-by k = by_form (λ f. when_fun (form_by f r ps) k ≡ cond (eqb f 6) (k ntv ps r) (eqb f 7 ∧ᵇ k frn ps r)) (
    (
      (
        (
          ((((tt, refl), refl), refl), refl),
          refl,
        ),
        refl,
      ),
      refl,
    ),
    refl,
  ) (λ f h. rw (form-other f r ps h, ne_eqb f 6 (omega arith), ne_eqb f 7 (omega arith)) refl)

  params-by : (f : ℕ) → params (form_by f r ps) ≡ cond (is_function f) ps []
  unfolding params
  params-by = by_form (λ f. params (form_by f r ps) ≡ cond (is_function f) ps []) ((((((((tt, refl), refl), refl), refl), refl), refl), refl), refl) (λ
      f h. rw (form-other f r ps h, ne_eqb f 6 (omega arith), ne_eqb f 7 (omega arith)) refl)

-- the same of a type row
module _ (r : List ℕ) where
  pub base-row : (b : Base) → is_base b (form_row r) ≡ eqb (form_no r) (base_no b)
  unfolding form_row
  base-row b = base-by (result_no r) (parts r) b (form_no r)

  pub list-row : (k : ℕ → Bool) → when_list (form_row r) k ≡ eqb (form_no r) 4 ∧ᵇ k (result_no r)
  unfolding form_row
  list-row k = list-by (result_no r) (parts r) k (form_no r)

  pub tuple-row : (k : List ℕ → Bool) → when_tuple (form_row r) k ≡ eqb (form_no r) 5 ∧ᵇ k (types (parts r))
  unfolding form_row
  tuple-row k = tuple-by (result_no r) (parts r) k (form_no r)

  pub fun-row : (k : Side → List Param → ℕ → Bool) → when_fun (form_row r) k ≡ cond (eqb (form_no r) 6) (k ntv (parts r) (result_no r)) (eqb (form_no r) 7 ∧ᵇ
      k frn (parts r) (result_no r))
  unfolding form_row
  fun-row k = fun-by (result_no r) (parts r) k (form_no r)

  pub params-row : params (form_row r) ≡ cond (is_function (form_no r)) (parts r) []
  unfolding form_row
  params-row = params-by (result_no r) (parts r) (form_no r)
