-- What is wrong with a row, by its kind. Assumes nothing.
use Rattle.std.specs.Prelude.{ℕ, zero, suc, ◌≡◌, Bool, true, false, cond, List, refl, get_or, ltb, None, Some}
use Rattle.std.proofs.Common.{inl, inr, leb, ◌<◌, ◌≤◌, ◌∙◌, arith}
use borrow.Author.Tests.{lt-leb, lt-ltb, le-ltb}
use Rattle.layout.specs.declared.kinds.Kind.{Kind as Named}
use Rattle.layout.specs.declared.kinds.Kind.TheVariants as kind
use Rattle.layout.specs.Kinds.{number_of, IsKind}
use Rattle.meaning.specs.Bytes.{◌∧ᵇ◌, within}
use Rattle.meaning.specs.Terms.{kind_no, type_no, last_kind, fits, none-used, kind_fields, row_fault}
use Rattle.meaning.specs.declared.Fault.TheVariants.{Kind, Field, Number}

never : (b : Bool) → b ∧ᵇ false ≡ false
unfolding ◌∧ᵇ◌
never true = refl
never false = refl

-- a kind's number is one that edition 1 knows
known : (k : Named) → within 1 19 (number_of k) ≡ true
unfolding within ◌∧ᵇ◌
known k = elim k as (λ (x : Named). within 1 19 (number_of x) ≡ true) [ kind.Text ↦ refl | kind.File ↦ refl | kind.True ↦ refl | kind.False ↦ refl | kind.Variable ↦ refl | kind.Native ↦ refl | kind.Foreign ↦ refl | kind.Apply ↦ refl | kind.Future ↦ refl | kind.If ↦ refl | kind.Fix ↦ refl | kind.Nil ↦ refl | kind.Cons ↦ refl | kind.IsNil ↦ refl | kind.Zip ↦ refl | kind.Tuple ↦ refl | kind.Project ↦ refl | kind.ListProject ↦ refl | kind.Let ↦ refl ]

-- a byte that names no kind is in no range
unknown : (b : ℕ) → IsKind None b → within 1 19 b ≡ false
unfolding within ◌∧ᵇ◌
unknown b (inl e) = rw e refl
unknown b (inr h) = rw (lt-leb b 19 h) (never (leb 1 b))

none_known : (b : ℕ) → within 1 0 b ≡ false
unfolding within ◌∧ᵇ◌
none_known zero = refl
none_known (suc b) = rw (lt-leb (suc b) 0 (omega arith)) (never (leb 1 (suc b)))

other : (edition : ℕ) → (edition ≡ 1 → ⊥) → last_kind edition ≡ 0
unfolding last_kind
other zero e = refl
other (suc zero) e = absurd (e refl)
other (suc (suc n)) e = refl

module _ (edition count : ℕ) (r : List ℕ) where
  pub fault_edition : (edition ≡ 1 → ⊥) → row_fault edition count r ≡ Some Kind
  unfolding row_fault
  fault_edition h = rw (other edition h, none_known (kind_no r)) refl

  pub fault_unknown : IsKind None (kind_no r) → edition ≡ 1 → row_fault edition count r ≡ Some Kind
  unfolding row_fault last_kind
  fault_unknown h g = rw (g, unknown (kind_no r) h) refl

  module _ (k : Named) (e : kind_no r ≡ number_of k) (g : edition ≡ 1) where
    judged : row_fault edition count r ≡ cond (fits (get_or kind_fields (kind_no r) none-used) r) (cond (ltb (type_no r) count) None (Some Number)) (Some Field)
    unfolding row_fault last_kind
    judged = rw (g, e, known k) refl

    pub fault_field : fits (get_or kind_fields (kind_no r) none-used) r ≡ false → row_fault edition count r ≡ Some Field
    fault_field f = judged ∙ rw f refl

    pub fault_number : fits (get_or kind_fields (kind_no r) none-used) r ≡ true → count ≤ type_no r → row_fault edition count r ≡ Some Number
    fault_number f h = judged ∙ rw (f, le-ltb (type_no r) count h) refl

    pub fault_none : fits (get_or kind_fields (kind_no r) none-used) r ≡ true → type_no r < count → row_fault edition count r ≡ None
    fault_none f h = judged ∙ rw (f, lt-ltb (type_no r) count h) refl

pub ruleset faults = (fault_unknown, fault_edition)
