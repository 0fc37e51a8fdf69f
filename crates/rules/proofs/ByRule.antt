-- Each rule as tests on the numbers of type rows. Assumes nothing.
use Prim.Native.Nat.{ℕ, ◌<◌, ◌≤◌}
use mathlib.Core.Path.{◌≡◌, refl, ap, sym, ◌∙◌}
use mathlib.Core.Bool.{Bool, true, false, cond}
use mathlib.Core.List.{List, [], ◌∷◌}
use native.Mathlib.Omega.{arith}
use native.Mathlib.Decide.{ℕ_discrete}
use lib.Dec.{eqb}
use borrow.Author.Tests.{ne_eqb, eq-eqb}
use lib.ListN.{drop}
use Rattle.meaning.specs.Bytes.{◌∧ᵇ◌}
use Rattle.meaning.specs.Types.{Base, Truth, Side, ntv, frn, Param, Form, types, params, form_no, result_no, parts, form_of, Ctx, place, same_numbers}
use Rattle.meaning.specs.Terms.{Lit, lit, lambda, foreign, apply, ite, fix, nil, cons, isnil, zip, tuple, project, lproject}
use Rattle.meaning.specs.Typing.{Tys, ⟨⟩, ◌▹◌, list, lit_base, base_no, is_base, when_list, when_tuple, when_fun, when_more, same_side, same_params, given, zipped_ok, rule_ok}
use Rattle.rules.specs.Forms.{forms}
use Rattle.layout.specs.Forms.{says, part_types, is_function}
use Rattle.rules.proofs.ByPart.{and_first, and_none}
use Rattle.rules.proofs.ByForm.{base-row, list-row, tuple-row, fun-row, params-row}

-- tests in another order
pub and_comm : (a b : Bool) → a ∧ᵇ b ≡ b ∧ᵇ a
unfolding ◌∧ᵇ◌
and_comm true true = refl
and_comm true false = refl
and_comm false true = refl
and_comm false false = refl

pub and-true : (a : Bool) → a ∧ᵇ true ≡ a
unfolding ◌∧ᵇ◌
and-true true = refl
and-true false = refl

and-never : (a : Bool) → a ∧ᵇ false ≡ false
unfolding ◌∧ᵇ◌
and-never true = refl
and-never false = refl

one_side : (a b : Bool) → cond a b false ≡ a ∧ᵇ b
unfolding ◌∧ᵇ◌
one_side true b = refl
one_side false b = refl

either_side : (a b c : Bool) → cond a c (b ∧ᵇ c) ≡ cond a true b ∧ᵇ c
unfolding ◌∧ᵇ◌
either_side true b c = refl
either_side false b c = refl

seven : (f : ℕ) → cond (eqb f 6) false (eqb f 7 ∧ᵇ true) ≡ eqb f 7
unfolding ◌∧ᵇ◌
seven f = elim (ℕ_discrete f 6) [ yes e ↦ rw e refl | no e ↦ rw (ne_eqb f 6 e) (and-true (eqb f 7)) ]

-- two functions on the same side
same-sides : (f g : ℕ) (x : Bool) → cond (eqb f 6) (cond (eqb g 6) (true ∧ᵇ x) (eqb g 7 ∧ᵇ (false ∧ᵇ x))) (eqb f 7 ∧ᵇ cond (eqb g 6) (false ∧ᵇ x) (eqb
    g 7 ∧ᵇ (true ∧ᵇ x))) ≡ is_function f ∧ᵇ (eqb g f ∧ᵇ x)
unfolding ◌∧ᵇ◌
same-sides f g x =
    elim (ℕ_discrete f 6) [
      | yes e ↦ rw e (six (eqb g 6) (eqb g 7))
      | no e ↦ elim (ℕ_discrete f 7) [
        | yes q ↦ rw q (elim (ℕ_discrete g 6) [ yes p ↦ rw p refl | no p ↦ rw (ne_eqb g 6 p) refl ])
        | no q ↦ rw (ne_eqb f 6 e, ne_eqb f 7 q) refl
      ]
    ]
  where
    six : (a b : Bool) → cond a x (b ∧ᵇ false) ≡ a ∧ᵇ x
    six true b = refl
    six false true = refl
    six false false = refl

first_part : (ps : List Param) (ty : ℕ) (k : List Param → Bool) → when_more ps (λ p qs. eqb p.type ty ∧ᵇ k qs) ≡ given (place 1 (types ps)) ty ∧ᵇ k
    (drop 1 ps)
unfolding when_more types place given ◌∧ᵇ◌
first_part [] ty k = refl
first_part (p ∷ ps) ty k = refl

module _ (s : List (List ℕ)) where
  abbrev F : ℕ → Form
  F = forms s

  abbrev R : ℕ → List ℕ
  R = says s

  pub base-says : (b : Base) (t : ℕ) → is_base b (forms s t) ≡ eqb (form_no (says s t)) (base_no b)
  unfolding form_of says
  base-says b t = base-row (says s t) b

  pub list-says : (t : ℕ) (k : ℕ → Bool) → when_list (forms s t) k ≡ eqb (form_no (says s t)) 4 ∧ᵇ k (result_no (says s
      t))
  unfolding form_of says
  list-says t k = list-row (says s t) k

  pub tuple-says : (t : ℕ) (k : List ℕ → Bool) → when_tuple (forms s t) k ≡ eqb (form_no (says s t)) 5 ∧ᵇ k (part_types (says s t))
  unfolding form_of says
  tuple-says t k = tuple-row (says s t) k

  fun-says : (t : ℕ) (k : Side → List Param → ℕ → Bool) → when_fun (F t) k ≡ cond (eqb (form_no (R t)) 6) (k ntv (parts (R t)) (result_no (R t))) (eqb
      (form_no (R t)) 7 ∧ᵇ k frn (parts (R t)) (result_no (R t)))
  unfolding form_of says
  fun-says t k = fun-row (says s t) k

  pub params-says : (t : ℕ) → params (forms s t) ≡ cond (is_function (form_no (says s t))) (parts (says s t)) []
  unfolding form_of says
  params-says t = params-row (says s t)

  module _ (t f : ℕ) (e : f ≡ form_no (says s t)) where
    params-by : params (forms s t) ≡ cond (is_function f) (parts (says s t)) []
    params-by = params-says t ∙ ap (λ (x : ℕ). cond (is_function x) (parts (says s t)) []) (sym e)

    pub params-few : f < 6 → params (forms s t) ≡ []
    params-few h = params-by ∙ rw (ne_eqb f 6 (omega arith), ne_eqb f 7 (omega arith)) refl

    pub params-high : 7 < f → params (forms s t) ≡ []
    params-high h = params-by ∙ rw (ne_eqb f 6 (omega arith), ne_eqb f 7 (omega arith)) refl

    pub params-all : 6 ≤ f → f ≤ 7 → params (forms s t) ≡ parts (says s t)
    params-all h g =
        params-by
        ∙ elim (ℕ_discrete f 6) [
          | yes q ↦ rw (eq-eqb f 6 q) refl
          | no q ↦ let z : f ≡ 7 = omega arith in rw (ne_eqb f 6 q, eq-eqb f 7 z) refl
        ]

  -- a native function; a foreign one; either
  native-says : (t : ℕ) (k : List Param → ℕ → Bool) → when_fun (F t) (λ d ps r. same_side d ntv ∧ᵇ k ps r) ≡ eqb (form_no (R t)) 6 ∧ᵇ k (parts (R t))
      (result_no (R t))
  unfolding same_side ◌∧ᵇ◌
  native-says t k = fun-says t (λ d ps r. same_side d ntv ∧ᵇ k ps r) ∙ rw (and-never (eqb (form_no (R t)) 7)) (one_side (eqb (form_no (R t)) 6) (k (parts
      (R t)) (result_no (R t))))

  either-says : (t : ℕ) (k : List Param → ℕ → Bool) → when_fun (F t) (λ d ps r. k ps r) ≡ is_function (form_no (R t)) ∧ᵇ k (parts (R t)) (result_no (R t))
  either-says t k = fun-says t (λ d ps r. k ps r) ∙ either_side (eqb (form_no (R t)) 6) (eqb (form_no (R t)) 7) (k (parts (R t)) (result_no (R t)))

  module _ (Γ : Ctx) (ty : ℕ) where
    pub rule-lit : (l : Lit) → rule_ok F Γ (lit l) ty ⟨⟩ ≡ eqb (form_no (R ty)) (base_no (lit_base l))
    unfolding rule_ok
    rule-lit l = base-says (lit_base l) ty

    pub rule-lambda : (b : ℕ) → rule_ok F Γ lambda ty (b ▹ ⟨⟩) ≡ eqb (form_no (R ty)) 6 ∧ᵇ eqb (result_no (R ty)) b
    unfolding rule_ok
    rule-lambda b = native-says ty (λ ps r. eqb r b)

    pub rule-foreign : (w : ℕ) → rule_ok F Γ (foreign w) ty ⟨⟩ ≡ eqb (form_no (R ty)) 7
    unfolding rule_ok same_side
    rule-foreign w = fun-says ty (λ d ps r. same_side d frn) ∙ seven (form_no (R ty))

    pub rule-apply : (n c : ℕ) (us : Tys n) → rule_ok F Γ (apply n) ty (c ▹ us) ≡ is_function (form_no (R c)) ∧ᵇ (eqb (result_no (R c)) ty ∧ᵇ same_numbers
        (list us) (part_types (R c)))
    unfolding rule_ok
    rule-apply n c us = either-says c (λ ps r. eqb r ty ∧ᵇ same_numbers (list us) (types ps))

    pub rule-if : (c a b : ℕ) → rule_ok F Γ ite ty (c ▹ a ▹ b ▹ ⟨⟩) ≡ eqb (form_no (R c)) 3 ∧ᵇ (eqb a ty ∧ᵇ eqb b ty)
    unfolding rule_ok base_no
    rule-if c a b = ap (λ (x : Bool). x ∧ᵇ (eqb a ty ∧ᵇ eqb b ty)) (base-says Truth c)

    pub rule-nil : rule_ok F Γ nil ty ⟨⟩ ≡ eqb (form_no (R ty)) 4
    unfolding rule_ok
    rule-nil = list-says ty (λ e. true) ∙ and-true (eqb (form_no (R ty)) 4)

    pub rule-cons : (a b : ℕ) → rule_ok F Γ cons ty (a ▹ b ▹ ⟨⟩) ≡ eqb b ty ∧ᵇ when_list (F ty) (λ e. eqb e a)
    unfolding rule_ok
    rule-cons a b = and_comm (when_list (F ty) (λ e. eqb e a)) (eqb b ty)

    pub rule-isnil : (c : ℕ) → rule_ok F Γ isnil ty (c ▹ ⟨⟩) ≡ eqb (form_no (R ty)) 3 ∧ᵇ eqb (form_no (R c)) 4
    unfolding rule_ok base_no
    rule-isnil c = rw (base-says Truth ty, list-says c (λ e. true), and-true (eqb (form_no (R c)) 4)) refl

    pub rule-tuple : (n : ℕ) (us : Tys n) → rule_ok F Γ (tuple n) ty us ≡ eqb (form_no (R ty)) 5 ∧ᵇ same_numbers (part_types (R ty)) (list us)
    unfolding rule_ok
    rule-tuple n us = tuple-says ty (λ ts. same_numbers ts (list us))

    pub rule-project : (i c : ℕ) → rule_ok F Γ (project i) ty (c ▹ ⟨⟩) ≡ eqb (form_no (R c)) 5 ∧ᵇ given (place i (part_types (R c))) ty
    unfolding rule_ok
    rule-project i c = tuple-says c (λ ts. given (place i ts) ty)

    pub rule-lproject : (i c : ℕ) → rule_ok F Γ (lproject i) ty (c ▹ ⟨⟩)
        ≡ eqb (form_no (R c)) 4 ∧ᵇ (eqb (form_no (R (result_no (R c)))) 5 ∧ᵇ (eqb (form_no (R ty)) 4 ∧ᵇ given (place i (part_types (R (result_no (R c)))))
        (result_no (R ty))))
    unfolding rule_ok
    rule-lproject i c =
        let e = result_no (R c) in
        list-says c (λ e. when_tuple (F e) (λ ts. when_list (F ty) (λ r. given (place i ts) r)))
        ∙ ap (λ (x : Bool). eqb (form_no (R c)) 4 ∧ᵇ x)
        (tuple-says e (λ ts. when_list (F ty) (λ r. given (place i ts) r))
        ∙ ap (λ (x : Bool). eqb (form_no (R e)) 5 ∧ᵇ x) (list-says ty (λ r. given (place i (part_types (R e))) r)))

    pub rule-fix : (c : ℕ) → rule_ok F Γ fix ty (c ▹ ⟨⟩)
        ≡ eqb (form_no (R c)) 6 ∧ᵇ (given (place 1 (part_types (R c))) ty ∧ᵇ (eqb (form_no (R ty)) 6 ∧ᵇ (same_params (parts (R ty)) (drop 1 (parts (R c)))
        ∧ᵇ eqb (result_no (R ty)) (result_no (R c)))))
    unfolding rule_ok
    rule-fix c =
        native-says c (λ ps r. when_more ps (λ p qs. eqb p.type ty ∧ᵇ when_fun (F ty) (λ s' ps' r'. same_side s' ntv ∧ᵇ (same_params ps' qs ∧ᵇ eqb r'
        r))))
        ∙ ap (λ (x : Bool). eqb (form_no (R c)) 6 ∧ᵇ x)
        (first_part (parts (R c)) ty (λ qs. when_fun (F ty) (λ s' ps' r'. same_side s' ntv ∧ᵇ (same_params ps' qs ∧ᵇ eqb r' (result_no (R c)))))
        ∙ ap (λ (x : Bool). given (place 1 (part_types (R c))) ty ∧ᵇ x) (native-says ty (λ ps' r'. same_params ps' (drop 1 (parts (R c))) ∧ᵇ eqb r'
        (result_no (R c)))))

    pub rule-zip : (m c : ℕ) → rule_ok F Γ (zip m) ty (c ▹ ⟨⟩)
        ≡ is_function (form_no (R c)) ∧ᵇ (eqb (form_no (R ty)) (form_no (R c)) ∧ᵇ (when_list (F (result_no (R ty))) (λ e. eqb e (result_no (R c))) ∧ᵇ zipped_ok F
        m (parts (R c)) (parts (R ty))))
    unfolding rule_ok same_side
    rule-zip m c =
        let x = when_list (F (result_no (R ty))) (λ e. eqb e (result_no (R c))) ∧ᵇ zipped_ok F m (parts (R c)) (parts (R ty)) in
        fun-says c (λ s ps r. when_fun (F ty) (λ s' qs u. same_side s' s ∧ᵇ (when_list (F u) (λ e. eqb e r) ∧ᵇ zipped_ok F m ps qs)))
        ∙ rw (
          fun-says ty (λ s' qs u. same_side s' ntv ∧ᵇ (when_list (F u) (λ e. eqb e (result_no (R c))) ∧ᵇ zipped_ok F m (parts (R c)) qs)),
          fun-says ty (λ s' qs u. same_side s' frn ∧ᵇ (when_list (F u) (λ e. eqb e (result_no (R c))) ∧ᵇ zipped_ok F m (parts (R c)) qs)),
        )
        (same-sides (form_no (R c)) (form_no (R ty)) x)

pub ruleset rules_read = (and_first, and_none, list-says, rule-lambda, rule-if, rule-cons, rule-isnil, rule-project, rule-lproject, rule-fix, rule-zip)
