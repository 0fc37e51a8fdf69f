-- The same of rows of one kind. Assumes nothing.
use Prim.Native.Nat.{ℕ, suc, ◌+◌, ◌*◌, ◌/◌, ◌<◌}
use mathlib.Core.Path.{◌≡◌, refl, ap, sym, ◌∙◌, subst}
use mathlib.Core.Bool.{true}
use mathlib.Core.List.{List, [], ◌∷◌, ◌++◌}
use Rattle.std.specs.Prelude.{None}
use native.Mathlib.Omega.{arith}
use borrow.Author.Tests.{eq-eqb}
use lib.ListN.{length, drop}
use Rattle.meaning.specs.Bytes.{◌∧ᵇ◌, read, term_row}
use Rattle.meaning.specs.Types.{Form, Param, params, form_no, result_no, find, Ctx, empty}
use Rattle.meaning.specs.Terms.{lambda, fix, bind, Forest, end, more, ty_of, Row, is, head_from, size, kids, tree_at, grove}
use Rattle.meaning.specs.Typing.{⟨⟩, ◌▹◌, list, tys, scope, later, before, rule_ok, first_bads}
use Rattle.meaning.proofs.Trees.Tests.{numbers-same}
use Rattle.meaning.proofs.Trees.Parse.{grove-more}
use Rattle.terms.proofs.Scan.{grove-size, grove-none}
use Rattle.layout.specs.Rows.{term_rows}
use Rattle.rules.specs.Forms.{forms, three}
use Rattle.layout.specs.Forms.{says, part_types, is_function}
use Rattle.typing.specs.Scope.{judged}
use Rattle.typing.proofs.ByRow.{tys-more, binds-let}
use Rattle.typing.proofs.Judging.{judged-any, judged-apply, judged-tuple, judged-fix}
use Rattle.quick.specs.Dues.{Due, wanted, ends, begins, Comes}
use Rattle.quick.proofs.ByKind.{fixed-kind}
use Rattle.quick.proofs.Seeing.{no_names, names-in-front, drop_all, size-here, node-good, judged-few}

grove-one : (l : List Row) (i : ℕ) → grove l i 1 ≡ more (tree_at l i) end
unfolding grove kids
grove-one l i = grove-more l i 0

grove-two : (l : List Row) (i : ℕ) → grove l i 2 ≡ more (tree_at l i) (more (tree_at l (i + size (tree_at l i))) end)
grove-two l i = grove-more l i 1 ∙ ap (λ (f : Forest 1). more (tree_at l i) f) (grove-one l (i + size (tree_at l i)))

let_rule : (F : ℕ → Form) (w a ty : ℕ) → rule_ok F empty (bind w) ty (a ▹ ty ▹ ⟨⟩) ≡ true
unfolding rule_ok
let_rule F w a ty = eq-eqb ty ty refl

module _ (s : List (List ℕ)) (b : List ℕ) (i n ty w : ℕ) (h : i < length b / 8) where
  abbrev F : ℕ → Form
  F = forms s

  abbrev l : List Row
  l = term_rows b

  abbrev R : ℕ → List ℕ
  R = says s

  abbrev Is : ℕ → Type 0
  Is k = k ∷ n ∷ ty ∷ w ∷ [] ≡ read term_row (drop (8 * i) b)

  pub judged-call : Is 8 → (Γ : Ctx) (a : ℕ) → is_function (form_no (R a)) ≡ true → result_no (R a) ≡ ty
      → list (tys (grove l (i + 1) (suc n))) ≡ a ∷ part_types (R a) → judged F Γ (tree_at l i) ≡ true
  unfolding list ◌∧ᵇ◌
  judged-call e Γ a f r q =
      let at = i + 1 + size (tree_at l (i + 1)) in
      let z = sym (ap list (tys-more l (i + 1) n)) ∙ q in
      let c : a ≡ ty_of (tree_at l (i + 1)) = cc in
      let us : list (tys (grove l at n)) ≡ part_types (R a) = cc in
      sym (judged-any s b i 8 n ty w h e Γ (λ z. omega arith))
      ∙ judged-apply s b i 8 n ty w h e a at refl c refl
      ∙ rw (f, eq-eqb (result_no (R a)) ty r, us) (numbers-same (part_types (R a)))

  pub judged-parts : Is 16 → (Γ : Ctx) → form_no (R ty) ≡ 5 → list (tys (grove l (i + 1) n)) ≡ part_types (R ty) → judged F Γ (tree_at l i) ≡ true
  unfolding ◌∧ᵇ◌
  judged-parts e Γ f q =
      sym (judged-any s b i 16 n ty w h e Γ (λ z. omega arith))
      ∙ judged-tuple s b i 16 n ty w h e refl
      ∙ rw (eq-eqb (form_no (R ty)) 5 f, q) (numbers-same (part_types (R ty)))

  pub judged-again : Is 11 → (Γ : Ctx) → is 6 (tree_at l (i + 1)) ≡ true → rule_ok F empty fix ty (ty_of (tree_at l (i + 1)) ▹ ⟨⟩) ≡ true → judged F Γ (tree_at l i) ≡ true
  unfolding ◌∧ᵇ◌
  judged-again e Γ f r =
      sym (judged-any s b i 11 n ty w h e Γ (λ z. omega arith))
      ∙ judged-fix s b i 11 n ty w h e (ty_of (tree_at l (i + 1))) refl refl
      ∙ rw (f, r)

  -- a native function: its names come into scope at once
  pub native-seen : Is 6 → (a m : ℕ) (ds : List Due) (ps : List Param) → m ≡ length (params (F ty)) → rule_ok F empty lambda ty (a ▹ ⟨⟩) ≡ true
      → Comes F l (wanted a ∷ ends m ∷ ds) (params (F ty) ++ ps) (i + 1) → Comes F l (wanted (ty_of (tree_at l i)) ∷ ds) ps i
  unfolding Comes head_from scope list tys three first_bads before later
  native-seen e a m ds ps q r c =
      let t = tree_at l (i + 1) in
      let stated : list (tys (grove l (i + 1) 1)) ≡ a ∷ [] = ap (λ (f : Forest 1). list (tys f)) (grove-one l (i + 1)) ∙ rw c.0 in
      let good = judged-few s b i 6 n ty w h e (find ps) a (fixed-kind 6 refl) r stated in
      let below : first_bads F (find ps) (scope F lambda ty (tys (grove l (i + 1) 1))) (grove l (i + 1) 1) ≡ None =
      ap (λ (f : Forest 1). first_bads F (find ps) (λ (_ : ℕ). params (F ty)) f) (grove-one l (i + 1)) ∙ rw (names-in-front (params (F ty)) ps, c.1) in
      let z : i + 1 + size t ≡ i + size (tree_at l i) = omega (arith, size-here s b i 6 n ty w h e, grove-size l (i + 1) 0, grove-none l (i + 1 + size t)) in
      (refl, node-good s b i 6 n ty w h e (find ps) good below, subst (Comes F l ds ps) z (rw (drop_all (params (F ty)) ps m q) at c.2))

  -- a let: its name comes into scope behind its first child
  pub let-seen : Is 19 → (a : ℕ) (ds : List Due) (ps : List Param)
      → Comes F l (wanted a ∷ begins i ∷ wanted ty ∷ ends 1 ∷ ds) ps (i + 1) → Comes F l (wanted (ty_of (tree_at l i)) ∷ ds) ps i
  unfolding Comes head_from scope list tys three first_bads before later
  let-seen e a ds ps c =
      let t = tree_at l (i + 1) in
      let j = i + 1 + size t in
      let u = tree_at l j in
      let bound = binds-let F b i 19 n ty w h e refl in
      let stated : list (tys (grove l (i + 1) 2)) ≡ a ∷ ty ∷ [] = ap (λ (f : Forest 2). list (tys f)) (grove-two l (i + 1)) ∙ rw (c.0, c.2.0) in
      let good = judged-few s b i 19 n ty w h e (find ps) a (fixed-kind 19 refl) (let_rule F w a ty) stated in
      let c2 = rw bound at c.2 in
      let below : first_bads F (find ps) (scope F (bind w) ty (tys (grove l (i + 1) 2))) (grove l (i + 1) 2) ≡ None =
      ap (λ (f : Forest 2). first_bads F (find ps) (scope F (bind w) ty (tys f)) f) (grove-two l (i + 1))
      ∙ rw (no_names (find ps), c.1, names-in-front (record { name = w; type = ty_of t } ∷ []) ps, c2.1) in
      let z : j + size u ≡ i + size (tree_at l i) = omega (arith, size-here s b i 19 n ty w h e, grove-size l (i + 1) 1, grove-size l j 0, grove-none l (j + size u)) in
      (refl, node-good s b i 19 n ty w h e (find ps) good below, subst (Comes F l ds ps) z c2.2)
