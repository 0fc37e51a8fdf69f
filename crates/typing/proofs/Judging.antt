-- The rule of a row, kind by kind, as code asks it. Assumes nothing.
use Prim.Native.Nat.{ℕ, zero, suc, ◌+◌, ◌*◌, ◌/◌, ◌<◌, ◌≤◌}
use mathlib.Core.Path.{◌≡◌, refl, ap, sym, ◌∙◌, subst}
use mathlib.Core.Logic.{inl, inr}
use mathlib.Core.Bool.{Bool}
use mathlib.Core.List.{List, [], ◌∷◌}
use native.Mathlib.Omega.{arith}
use native.Mathlib.Numerals.{add-one}
use native.Mathlib.Decide.{ℕ_discrete}
use lib.Dec.{eqb}
use Rattle.std.specs.Prelude.{Option, None, Some}
use Rattle.std.specs.Option.{option_eq}
use Rattle.rules.proofs.ByPart.{and_first, and_none}
use borrow.Author.Tests.{ne_eqb}
use lib.ListN.{length, drop}
use Rattle.meaning.specs.Bytes.{◌∧ᵇ◌, read, term_row}
use Rattle.meaning.specs.Types.{Form, form_no, result_no, Ctx, empty, same_numbers}
use Rattle.meaning.specs.Terms.{apply, fix, var, arity, Forest, Row, ty_of, is, code, head_from, row_of, size, sizes, tree_at, grove}
use Rattle.meaning.specs.Typing.{Tys, ⟨⟩, ◌▹◌, list, tys, scope, first_is, below_ok, given, rule_ok, row_ok}
use Rattle.meaning.proofs.Trees.Parse.{grove-more}
use Rattle.terms.specs.Tables.{Closed, Ends}
use Rattle.terms.proofs.ByKind.{arity-few}
use Rattle.terms.proofs.Scan.{size-here, size-some, grove-size}
use Rattle.layout.specs.Rows.{term_rows}
use Rattle.rules.specs.Forms.{forms, three, FixedKind}
use Rattle.layout.specs.Forms.{says, part_types, is_function}
use Rattle.typing.specs.Scope.{behind, judged, inner_of, Inner}
use Rattle.rules.proofs.ByRule.{and-true, and_comm, rule-apply, rule-tuple}
use Rattle.typing.proofs.ByRow.{code_at, tree-in, numbers-comm, tys-more, tys-none, tys-three, rule-any, scope-none, behind-in}

no-types : (l : List Row) (j n x y z : ℕ) → n ≡ 0 → tys (grove l j n) ≡ three n x y z
unfolding three
no-types l j zero x y z e = tys-none l j
no-types l j (suc n) x y z e = absurd (omega arith)

module _ (s : List (List ℕ)) (b : List ℕ) (i k n ty w : ℕ) (h : i < length b / 8) (e : k ∷ n ∷ ty ∷ w ∷ [] ≡ read term_row (drop (8 * i) b)) where
  abbrev F : ℕ → Form
  F = forms s

  abbrev l : List Row
  l = term_rows b

  abbrev R : ℕ → List ℕ
  R = says s

  -- the children end within the rows
  pub children-in : Closed l (length b / 8) → i + 1 + sizes (grove l (i + 1) (arity (head_from k n w))) ≤ length b / 8
  unfolding row_of
  children-in c = omega (arith, c.within i h, size-here b i (k ∷ n ∷ ty ∷ w ∷ []) h e)

  pub judged-in : (Γ : Ctx) → judged F Γ (tree_at l i) ≡ row_ok F Γ (head_from k n w) ty (grove l (i + 1) (arity (head_from k n w)))
  unfolding judged
  judged-in Γ = ap (judged F Γ) (tree-in b i k n ty w h e)

  pub judged-plain : (Γ : Ctx) → (k ≡ 11 → ⊥) → judged F Γ (tree_at l i) ≡ rule_ok F Γ (head_from k n w) ty (tys (grove l (i + 1) (arity (head_from k n w))))
  unfolding row_ok below_ok
  judged-plain Γ q =
      judged-in Γ
      ∙ rw (code_at 11 k n w (omega arith) (omega arith), ne_eqb k 11 q)
      (and-true (rule_ok F Γ (head_from k n w) ty (tys (grove l (i + 1) (arity (head_from k n w))))))

  -- the names around a row matter only to a variable
  pub judged-any : (Γ : Ctx) → (k ≡ 5 → ⊥) → judged F empty (tree_at l i) ≡ judged F Γ (tree_at l i)
  unfolding row_ok
  judged-any Γ q =
      sym (judged-in Γ
      ∙ ap (λ (x : Bool). x ∧ᵇ below_ok (head_from k n w) (grove l (i + 1) (arity (head_from k n w)))) (rule-any F Γ (head_from k n w) ty (tys (grove l (i
      + 1) (arity (head_from k n w)))) (code_at 5 k n w (omega arith) (omega arith) ∙ ne_eqb k 5 q))
      ∙ sym (judged-in empty))

  -- the rule of a row of one kind
  abbrev rule-at : Ctx → ℕ → Bool
  rule-at Γ x = rule_ok F Γ (head_from x n w) ty (tys (grove l (i + 1) (arity (head_from x n w))))

  pub judged-variable : (Γ : Ctx) → k ≡ 5 → judged F Γ (tree_at l i) ≡ given (Γ w) ty
  unfolding head_from rule_ok
  judged-variable Γ q =
      judged-plain Γ (λ z. omega arith)
      ∙ ap (rule-at Γ) q
      ∙ ap (λ (us : Tys 0). rule_ok F Γ (var w) ty us) (tys-none l (i + 1))

  pub judged-apply : (c at : ℕ) → k ≡ 8 → c ≡ ty_of (tree_at l (i + 1)) → at ≡ i + 1 + size (tree_at l (i + 1))
      → judged F empty (tree_at l i) ≡ is_function (form_no (R c)) ∧ᵇ (eqb (result_no (R c)) ty ∧ᵇ same_numbers (list (tys (grove l at n))) (part_types (R
      c)))
  unfolding head_from
  judged-apply c at q ec ea =
      judged-plain empty (λ z. omega arith)
      ∙ ap (rule-at empty) q
      ∙ ap (λ (us : Tys (suc n)). rule_ok F empty (apply n) ty us) (tys-more l (i + 1) n ∙ ap (λ (x : ℕ). x ▹ tys (grove l (i + 1 + size (tree_at l (i +
      1))) n)) (sym ec) ∙ ap (λ (x : ℕ). c ▹ tys (grove l x n)) (sym ea))
      ∙ rule-apply s empty ty n c (tys (grove l at n))

  pub arguments-in : Closed l (length b / 8) → (at : ℕ) → k ≡ 8 → at ≡ i + 1 + size (tree_at l (i + 1)) → at + sizes (grove l at n) ≤ length b / 8
  unfolding head_from
  arguments-in c at q ea =
      let z : sizes (grove l (i + 1) (arity (head_from k n w))) ≡ sizes (grove l (i + 1) (suc n)) = ap (λ (x : ℕ). sizes (grove l (i + 1) (arity
      (head_from x n w)))) q in
      let y : sizes (grove l at n) ≡ sizes (grove l (i + 1 + size (tree_at l (i + 1))) n) = ap (λ (x : ℕ). sizes (grove l x n)) ea in
      omega (arith, children-in c, grove-size l (i + 1) n)

  -- where the arguments begin
  pub arguments-at : (es : List ℕ) (at : ℕ) → Ends l (length b / 8) es → Closed l (length b / 8) → k ≡ 8 → at ≡ behind es (length b / 8) (i + 1) → at ≡ i + 1 + size (tree_at l (i +
      1))
  unfolding head_from
  arguments-at es at f c q ea =
      let z : sizes (grove l (i + 1) (arity (head_from k n w))) ≡ sizes (grove l (i + 1) (suc n)) = ap (λ (x : ℕ). sizes (grove l (i + 1) (arity
      (head_from x n w)))) q in
      ea ∙ behind-in l es (length b / 8) (i + 1) f (omega (arith, children-in c, grove-size l (i + 1) n, size-some (tree_at l (i + 1))))

  pub judged-tuple : k ≡ 16 → judged F empty (tree_at l i) ≡ eqb (form_no (R ty)) 5 ∧ᵇ same_numbers (list (tys (grove l (i + 1) n))) (part_types (R ty))
  unfolding head_from
  judged-tuple q =
      judged-plain empty (λ z. omega arith)
      ∙ ap (rule-at empty) q
      ∙ rule-tuple s empty ty n (tys (grove l (i + 1) n))
      ∙ ap (λ (x : Bool). eqb (form_no (R ty)) 5 ∧ᵇ x) (numbers-comm (part_types (R ty)) (list (tys (grove l (i + 1) n))))

  pub elements-in : Closed l (length b / 8) → k ≡ 16 → i + 1 + sizes (grove l (i + 1) n) ≤ length b / 8
  unfolding head_from
  elements-in c q =
      let z : sizes (grove l (i + 1) (arity (head_from k n w))) ≡ sizes (grove l (i + 1) n) = ap (λ (x : ℕ). sizes (grove l (i + 1) (arity (head_from x
      n w)))) q in
      omega (arith, children-in c)

  pub judged-fix : (c : ℕ) → k ≡ 11 → c ≡ ty_of (tree_at l (i + 1)) → judged F empty (tree_at l i) ≡ is 6 (tree_at l (i + 1)) ∧ᵇ rule_ok F empty fix ty (c
      ▹ ⟨⟩)
  unfolding head_from row_ok below_ok first_is code
  judged-fix c q ec =
      let t = tree_at l (i + 1) in
      let j = i + 1 + size t in
      judged-in empty
      ∙ ap (λ (x : ℕ). row_ok F empty (head_from x n w) ty (grove l (i + 1) (arity (head_from x n w)))) q
      ∙ ap (λ (us : Tys 1). rule_ok F empty fix ty us ∧ᵇ first_is 6 (grove l (i + 1) 1)) (tys-more l (i + 1) 0 ∙ ap (λ (us : Tys 0). ty_of t ▹ us)
      (tys-none l j) ∙ ap (λ (x : ℕ). x ▹ ⟨⟩) (sym ec))
      ∙ ap (λ (f : Forest 1). rule_ok F empty fix ty (c ▹ ⟨⟩) ∧ᵇ first_is 6 f) (grove-more l (i + 1) 0)
      ∙ and_comm (rule_ok F empty fix ty (c ▹ ⟨⟩)) (is 6 t)

  few : FixedKind k → arity (head_from k n w) ≤ 3
  few q = arity-few k q.no-apply q.no-tuple n w

  pub judged-other : (es : List ℕ) (p q : ℕ) (x y z : ℕ) → FixedKind k → Ends l (length b / 8) es → Closed l (length b / 8) → p ≡ behind es (length b / 8) (i + 1) → q ≡ behind es (length b / 8) p
      → x ≡ ty_of (tree_at l (i + 1)) → y ≡ ty_of (tree_at l p) → z ≡ ty_of (tree_at l q)
      → judged F empty (tree_at l i) ≡ rule_ok F empty (head_from k n w) ty (three (arity (head_from k n w)) x y z)
  judged-other es p q x y z f ends c ep eq ex ey ez =
      judged-plain empty f.no-fix
      ∙ ap (rule_ok F empty (head_from k n w) ty) (tys-three l es (length b / 8) (i + 1) p q ends ep eq (arity (head_from k n w)) (few f) (children-in c) ∙ rw (
        ex,
        ey,
        ez,
      ) refl)

  pub judged-leaf : (x y z : ℕ) → FixedKind k → arity (head_from k n w) ≡ 0 → judged F empty (tree_at l i) ≡ rule_ok F empty (head_from k n w) ty (three (arity (head_from k n w)) x y z)
  judged-leaf x y z f bare = judged-plain empty f.no-fix ∙ ap (rule_ok F empty (head_from k n w) ty) (no-types l (i + 1) (arity (head_from k n w)) x y z bare)

-- Binders --------------------------------------------------------------------------------------------------------

abbrev Right : (ℕ → Form) → ℕ → ℕ → ℕ → ℕ → ℕ → ℕ → Type 0
Right F n w ty outer i k = (q : ℕ) (ts : Tys (arity (head_from k n w))) → Inner F (head_from k n w) ty ts outer i (inner_of k outer (i + 1)) q

native-right : (F : ℕ → Form) (n w ty outer i : ℕ) → Right F n w ty outer i 6
unfolding head_from scope
native-right F n w ty outer i q ts = inr (add-one i, refl)

let-right : (F : ℕ → Form) (n w ty outer i : ℕ) → Right F n w ty outer i 19
unfolding head_from scope
let-right F n w ty outer i zero (a ▹ b ▹ ⟨⟩) = inl (refl, refl)
let-right F n w ty outer i (suc q) (a ▹ b ▹ ⟨⟩) = inr (rw (ne_eqb (suc q) 0 (omega arith)) (add-one i), refl)

-- what is written for a child is what the walk asks
pub inner-right : (F : ℕ → Form) (n w ty outer i k : ℕ) (q : ℕ) (ts : Tys (arity (head_from k n w))) → Inner F (head_from k n w) ty ts outer i (inner_of
    k outer (i + 1)) q
inner-right F n w ty outer i k =
    elim (ℕ_discrete k 6) [
      | yes e ↦ subst (Right F n w ty outer i) (sym e) (native-right F n w ty outer i)
      | no e ↦ elim (ℕ_discrete k 19) [
        | yes f ↦ subst (Right F n w ty outer i) (sym f) (let-right F n w ty outer i)
        | no f ↦ λ q ts. inl (
          rw (ne_eqb k 6 e, ne_eqb k 19 f) refl,
          scope-none F (head_from k n w) ty ts q (code_at 6 k n w (omega arith) (omega arith) ∙ ne_eqb k 6 e) (code_at 19 k n w (omega arith) (omega
              arith) ∙ ne_eqb k 19 f),
        )
      ]
    ]

-- the type that a name has is a given one
pub same-given : (o : Option ℕ) (t : ℕ) → option_eq eqb o (Some t) ≡ given o t
unfolding given
same-given None t = refl
same-given (Some u) t = refl

-- THE RULE OF A ROW, BY ITS KIND
pub ruleset rows_judged = (judged-variable, judged-apply, arguments-in, arguments-at, judged-tuple, elements-in, judged-fix, judged-other, judged-leaf, and_first, and_none, same-given)

pub ruleset rows_alike = (judged-any)
