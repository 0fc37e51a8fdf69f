-- Rows by their kind: their fields, what a row without children asks, and the rules of an if and a cons. Assumes nothing.
use Prim.Native.Nat.{ℕ, ◌<◌}
use mathlib.Core.Path.{◌≡◌, refl, ◌∙◌}
use mathlib.Core.Bool.{Bool, true, false, cond}
use mathlib.Core.List.{List, [], ◌∷◌}
use Rattle.std.specs.Prelude.{None}
use native.Mathlib.Omega.{arith}
use lib.Dec.{eqb}
use lib.ListN.{get_or}
use borrow.Author.Tests.{eq-eqb, lt-ltb}
use Rattle.meaning.specs.Bytes.{◌∧ᵇ◌, within}
use Rattle.meaning.specs.Types.{form_no, result_no, empty}
use Rattle.meaning.specs.Terms.{str, file, truth, ite, cons, head_from, none-used, kind_fields, fits, last_kind, row_fault}
use Rattle.meaning.specs.Typing.{⟨⟩, ◌▹◌, base_no, lit_base, rule_ok}
use Rattle.rules.specs.Forms.{forms, three, FixedKind}
use Rattle.layout.specs.Forms.{says}
use Rattle.rules.proofs.ByRule.{rule-lit, rule-foreign, rule-if, rule-nil, rule-cons, list-says}
use Rattle.quick.specs.Kinds.{PlainKind, LeafKind, OneChild}

pub never : {b : Bool} → b ≡ false → b ≡ true → ⊥
never p q = let z : ◌≡◌ {A = ℕ} 0 1 = cc in omega arith

-- nothing is wrong with a row alone whose fields fit and whose type number is one of the table's
pub row_fits : (k n t w count : ℕ) → within 1 19 k ≡ true → fits (get_or kind_fields k none-used) (k ∷ n ∷ t ∷ w ∷ []) ≡ true → t < count → row_fault 1 count (k ∷ n ∷ t ∷ w ∷ []) ≡ None
unfolding row_fault last_kind
row_fits k n t w count known fit h = rw (known, fit, lt-ltb t count h)

-- Kinds alike --------------------------------------------------------------------------------------------------------

abbrev pub fixed : ℕ → Bool
fixed k = cond (eqb k 5) false (cond (eqb k 8) false (cond (eqb k 11) false (cond (eqb k 16) false true)))

pub fixed-kind : (k : ℕ) → fixed k ≡ true → FixedKind k
fixed-kind k e =
    record {
      no-variable = λ z. never refl (rw z at e);
      no-apply = λ z. never refl (rw z at e);
      no-fix = λ z. never refl (rw z at e);
      no-tuple = λ z. never refl (rw z at e);
    }

pub plain-kind : (k : ℕ) → within 1 19 k ≡ true → fixed k ≡ true → eqb k 6 ≡ false → eqb k 9 ≡ false → eqb k 19 ≡ false → PlainKind k
plain-kind k known f a b c = record { known = known; fixed = fixed-kind k f; not-native = a; not-future = b; not-let = c }

-- Leaves -------------------------------------------------------------------------------------------------------------

pub str-leaf : LeafKind 1 1 0 4294967295
unfolding head_from three base_no lit_base within ◌∧ᵇ◌
str-leaf = record { plain = plain-kind 1 refl refl refl refl refl; none = λ n w. refl; asks = λ s ty n w f. rule-lit s empty ty (str w) ∙ eq-eqb _ _ f; fields = refl }

pub file-leaf : LeafKind 2 2 0 4294967295
unfolding head_from three base_no lit_base within ◌∧ᵇ◌
file-leaf = record { plain = plain-kind 2 refl refl refl refl refl; none = λ n w. refl; asks = λ s ty n w f. rule-lit s empty ty (file w) ∙ eq-eqb _ _ f; fields = refl }

pub true-leaf : LeafKind 3 3 0 0
unfolding head_from three base_no lit_base within ◌∧ᵇ◌
true-leaf = record { plain = plain-kind 3 refl refl refl refl refl; none = λ n w. refl; asks = λ s ty n w f. rule-lit s empty ty (truth true) ∙ eq-eqb _ _ f; fields = refl }

pub false-leaf : LeafKind 4 3 0 0
unfolding head_from three base_no lit_base within ◌∧ᵇ◌
false-leaf = record { plain = plain-kind 4 refl refl refl refl refl; none = λ n w. refl; asks = λ s ty n w f. rule-lit s empty ty (truth false) ∙ eq-eqb _ _ f; fields = refl }

pub foreign-leaf : LeafKind 7 7 1 65535
unfolding head_from three within ◌∧ᵇ◌
foreign-leaf = record { plain = plain-kind 7 refl refl refl refl refl; none = λ n w. refl; asks = λ s ty n w f. rule-foreign s empty ty w ∙ eq-eqb _ _ f; fields = refl }

pub nil-leaf : LeafKind 12 4 0 0
unfolding head_from three within ◌∧ᵇ◌
nil-leaf = record { plain = plain-kind 12 refl refl refl refl refl; none = λ n w. refl; asks = λ s ty n w f. rule-nil s empty ty ∙ eq-eqb _ _ f; fields = refl }

-- One child ----------------------------------------------------------------------------------------------------------

pub isnil-one : OneChild 14 0 0
unfolding head_from within ◌∧ᵇ◌
isnil-one = record { plain = plain-kind 14 refl refl refl refl refl; one = λ n w. refl; fields = refl }

pub zip-one : OneChild 15 1 255
unfolding head_from within ◌∧ᵇ◌
zip-one = record { plain = plain-kind 15 refl refl refl refl refl; one = λ n w. refl; fields = refl }

pub project-one : OneChild 17 1 8
unfolding head_from within ◌∧ᵇ◌
project-one = record { plain = plain-kind 17 refl refl refl refl refl; one = λ n w. refl; fields = refl }

pub lproject-one : OneChild 18 1 8
unfolding head_from within ◌∧ᵇ◌
lproject-one = record { plain = plain-kind 18 refl refl refl refl refl; one = λ n w. refl; fields = refl }

-- An if, a cons ------------------------------------------------------------------------------------------------------

module _ (s : List (List ℕ)) (ty : ℕ) where
  pub branch-rule : (a : ℕ) → form_no (says s a) ≡ 3 → rule_ok (forms s) empty ite ty (a ▹ ty ▹ ty ▹ ⟨⟩) ≡ true
  unfolding ◌∧ᵇ◌
  branch-rule a f = rule-if s empty ty a ty ty ∙ rw (eq-eqb _ _ f, eq-eqb ty ty refl)

  pub cons-rule : (a : ℕ) → form_no (says s ty) ≡ 4 → result_no (says s ty) ≡ a → rule_ok (forms s) empty cons ty (a ▹ ty ▹ ⟨⟩) ≡ true
  unfolding ◌∧ᵇ◌
  cons-rule a f r = rule-cons s empty ty a ty ∙ rw (eq-eqb ty ty refl, list-says s ty (λ e. eqb e a), eq-eqb _ _ f, eq-eqb _ _ r)
