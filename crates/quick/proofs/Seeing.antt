-- A row whose rule is kept, over children that are still to come: what is due before it follows from what is due behind it. Assumes nothing.
use Prim.Native.Nat.{ℕ, zero, suc, ◌+◌, ◌*◌, ◌/◌, ◌<◌}
use mathlib.Core.Path.{◌≡◌, refl, ap, sym, ◌∙◌, subst, fun_ext}
use mathlib.Core.Bool.{true, false}
use mathlib.Core.List.{List, [], ◌∷◌, ◌++◌, map}
use Rattle.std.specs.Prelude.{None}
use native.Mathlib.Omega.{arith}
use native.Mathlib.Decide.{ℕ_discrete}
use lib.Dec.{eqb}
use borrow.Author.Tests.{eq-eqb, ne_eqb}
use lib.ListN.{length, drop}
use Rattle.meaning.specs.Bytes.{read, term_row}
use Rattle.meaning.specs.Types.{Form, Param, find, Ctx, empty, pick, ◌⹁◌}
use Rattle.meaning.specs.Terms.{arity, Tree, Forest, node, head_of, ty_of, Row, head_from, size, sizes, kids, tree_at, grove}
use Rattle.meaning.specs.Typing.{Tys, ⟨⟩, ◌▹◌, list, tys, scope, stop, later, before, rule_ok, first_bad, first_bads}
use Rattle.meaning.proofs.Trees.Parse.{grove-more}
use Rattle.terms.proofs.Scan.{grove-size, grove-none}
use Rattle.layout.specs.Rows.{term_rows}
use Rattle.rules.specs.Forms.{forms, three, FixedKind}
use Rattle.layout.specs.Forms.{says}
use Rattle.typing.specs.Scope.{judged}
use Rattle.typing.proofs.ByRow.{code_at, tree-in, tys-more, tys-none, scope-none}
use Rattle.typing.proofs.Judging.{judged-in, judged-plain, judged-any}
use Rattle.quick.specs.Dues.{Due, wanted, owes, Comes}

-- Names around a tree ------------------------------------------------------------------------------------------------

pub no_names : (Γ : Ctx) → Γ ⹁ [] ≡ Γ
unfolding ◌⹁◌ find pick
no_names Γ = fun_ext λ x. refl

picked : (ps qs : List Param) (x : ℕ) → pick (find ps x) (find qs x) ≡ find (ps ++ qs) x
unfolding find pick
picked [] qs x = refl
picked (p ∷ ps) qs x =
    elim (ℕ_discrete x p.name) [
      | yes e ↦ rw (eq-eqb x p.name e)
      | no e ↦ rw (ne_eqb x p.name e) (picked ps qs x)
    ]

-- names bound at once in front of those around
pub names-in-front : (ps qs : List Param) → find qs ⹁ ps ≡ find (ps ++ qs)
unfolding ◌⹁◌
names-in-front ps qs = fun_ext λ x. picked ps qs x

pub drop_all : (ps qs : List Param) (n : ℕ) → n ≡ length ps → drop n (ps ++ qs) ≡ qs
drop_all [] qs n e = rw e
drop_all (p ∷ ps) qs n e = rw e (drop_all ps qs (length ps) refl)

-- Trees one behind the other -----------------------------------------------------------------------------------------

pub owes-wants : (ws : List ℕ) (ds : List Due) → owes (map wanted ws ++ ds) ≡ owes ds + length ws
unfolding owes
owes-wants [] ds = omega arith
owes-wants (t ∷ ws) ds = omega (arith, owes-wants ws ds)

module _ (F : ℕ → Form) (l : List Row) where
  abbrev Kids : (n : ℕ) → List ℕ → List Due → List Param → ℕ → Type 0
  Kids n ws ds ps i =
      (list (tys (grove l i n)) ≡ ws) × (first_bads F (find ps) (λ (_ : ℕ). []) (grove l i n) ≡ None) × Comes F l ds ps (i + sizes (grove l i n))

  none-bad : (Γ : Ctx) (i : ℕ) → first_bads F Γ (λ (_ : ℕ). []) (grove l i 0) ≡ None
  unfolding first_bads grove kids
  none-bad Γ i = refl

  pub kids-come : (n : ℕ) (ws : List ℕ) (ds : List Due) (ps : List Param) (i : ℕ) → length ws ≡ n → Comes F l (map wanted ws ++ ds) ps i → Kids n ws ds ps i
  unfolding Comes list tys first_bads before later
  kids-come zero [] ds ps i e c =
      let z : i + sizes (grove l i 0) ≡ i = omega (arith, grove-none l i) in
      (ap list (tys-none l i), none-bad (find ps) i, subst (Comes F l ds ps) (sym z) c)
  kids-come zero (t ∷ ws) ds ps i e c = absurd (omega arith)
  kids-come (suc n) [] ds ps i e c = absurd (omega arith)
  kids-come (suc n) (t ∷ ws) ds ps i e c =
      let j = i + size (tree_at l i) in
      let k = kids-come n ws ds ps j (omega arith) c.2 in
      let z : i + sizes (grove l i (suc n)) ≡ j + sizes (grove l j n) = omega (arith, grove-size l i n) in (
        ap list (tys-more l i n) ∙ rw (c.0, k.0),
        ap (first_bads F (find ps) (λ (_ : ℕ). [])) (grove-more l i n) ∙ rw (no_names (find ps), c.1, k.1),
        subst (Comes F l ds ps) (sym z) k.2,
      )

-- A row that is seen -------------------------------------------------------------------------------------------------

-- types of as many children are told by their list
pub list-one : {n : ℕ} (us vs : Tys n) → list us ≡ list vs → us ≡ vs
unfolding list
list-one ⟨⟩ ⟨⟩ e = refl
list-one (t ▹ us) (u ▹ vs) e =
    let a : t ≡ u = cc in
    let b : list us ≡ list vs = cc in
    rw (a, list-one us vs b)

module _ (s : List (List ℕ)) (b : List ℕ) (i k n ty w : ℕ) (h : i < length b / 8) (e : k ∷ n ∷ ty ∷ w ∷ [] ≡ read term_row (drop (8 * i) b)) where
  abbrev F : ℕ → Form
  F = forms s

  abbrev l : List Row
  l = term_rows b

  abbrev R : ℕ → List ℕ
  R = says s

  abbrev kids_of : Forest (arity (head_from k n w))
  kids_of = grove l (i + 1) (arity (head_from k n w))

  tree : tree_at l i ≡ node (head_from k n w) ty kids_of
  tree = tree-in b i k n ty w h e

  pub arity-here : arity (head_of (tree_at l i)) ≡ arity (head_from k n w)
  unfolding head_of
  arity-here = ap (λ (t : Tree). arity (head_of t)) tree

  pub size-here : size (tree_at l i) ≡ 1 + sizes kids_of
  unfolding size
  size-here = ap size tree ∙ omega arith

  -- the row is good, and so is what stands below it
  pub node-good : (Γ : Ctx) → judged F Γ (tree_at l i) ≡ true → first_bads F Γ (scope F (head_from k n w) ty (tys kids_of)) kids_of ≡ None → first_bad F Γ (tree_at l i) ≡ None
  unfolding first_bad stop later
  node-good Γ j q = ap (first_bad F Γ) tree ∙ rw (sym (judged-in s b i k n ty w h e Γ) ∙ j, q)

  -- a row that binds nothing, over children of the types ws
  pub plain-seen : (ws : List ℕ) (ds : List Due) (ps : List Param) → eqb k 6 ≡ false → eqb k 19 ≡ false → length ws ≡ arity (head_from k n w)
      → (list (tys kids_of) ≡ ws → judged F (find ps) (tree_at l i) ≡ true) → Comes F l (map wanted ws ++ ds) ps (i + 1) → Comes F l (wanted (ty_of (tree_at l i)) ∷ ds) ps i
  unfolding Comes
  plain-seen ws ds ps x y z j c =
      let g = kids-come F l (arity (head_from k n w)) ws ds ps (i + 1) z c in
      let m : i + 1 + sizes kids_of ≡ i + size (tree_at l i) = omega (arith, size-here) in
      let no-scope : scope F (head_from k n w) ty (tys kids_of) ≡ (λ (_ : ℕ). []) = fun_ext λ q. scope-none F (head_from k n w) ty (tys kids_of) q (code_at 6 k n w (omega arith) (omega arith) ∙ x) (code_at 19 k n w (omega arith) (omega arith) ∙ y) in
      (refl, node-good (find ps) (j g.0) (rw no-scope g.1), subst (Comes F l ds ps) m g.2)

  -- what the rules ask, of children of known types ---------------------------------------------------------------

  pub judged-few : (Γ : Ctx) (a : ℕ) → FixedKind k → rule_ok F empty (head_from k n w) ty (three (arity (head_from k n w)) a ty ty) ≡ true
      → list (tys kids_of) ≡ list (three (arity (head_from k n w)) a ty ty) → judged F Γ (tree_at l i) ≡ true
  judged-few Γ a f r q =
      sym (judged-any s b i k n ty w h e Γ f.no-variable)
      ∙ judged-plain s b i k n ty w h e empty f.no-fix
      ∙ ap (rule_ok F empty (head_from k n w) ty) (list-one (tys kids_of) (three (arity (head_from k n w)) a ty ty) q)
      ∙ r
