-- Rows that are seen by the names in scope. Assumes nothing.
use Prim.Native.Nat.{ℕ, ◌+◌, ◌*◌, ◌≤◌}
use mathlib.Core.Path.{◌≡◌, refl, sym, ◌∙◌, subst}
use mathlib.Core.Bool.{true, false}
use mathlib.Core.List.{List, [], ◌∷◌, ◌++◌}
use native.Mathlib.Omega.{arith}
use borrow.Author.Tests.{eqb-true}
use lib.ListN.{length, drop}
use Rattle.meaning.specs.Bytes.{◌∧ᵇ◌, within, read, term_row}
use Rattle.meaning.specs.Types.{params, parts, form_no, find, empty}
use Rattle.meaning.specs.Terms.{lambda, ty_of, head_from, none-used, a-number, fits, tree_at}
use Rattle.meaning.specs.Typing.{⟨⟩, ◌▹◌, given, rule_ok}
use Rattle.meaning.proofs.Trees.Tests.{left}
use Rattle.layout.specs.Rows.{row_table, term_rows}
use Rattle.rules.specs.Forms.{forms}
use Rattle.layout.specs.Forms.{says}
use Rattle.rules.proofs.ByRule.{rule-lambda, params-all}
use Rattle.typing.proofs.Judging.{judged-variable}
use Rattle.quick.specs.declared.Place.{Place}
use Rattle.quick.specs.Names.{in_scope, NamesChained}
use Rattle.quick.specs.Dues.{ends, dues, owes, due_at, AtKind, SeesRow}
use Rattle.quick.proofs.Seeing.{plain-seen}
use Rattle.quick.proofs.OneKind.{native-seen}
use Rattle.quick.proofs.Places.{sees, is-kind, fields-kept}

-- the names of a function's type
lambda-params : (s : List (List ℕ)) (ty a : ℕ) → true ≡ rule_ok (forms s) empty lambda ty (a ▹ ⟨⟩) → params (forms s ty) ≡ parts (says s ty)
lambda-params s ty a o =
    let f : 6 ≡ form_no (says s ty) = sym (eqb-true _ _ (left _ _ (sym (rule-lambda s empty ty a) ∙ sym o))) in
    params-all s ty 6 f (omega arith) (omega arith)

module _ (s : List (List ℕ)) (b es ns : List ℕ) (p q : Place) (j n ty w : ℕ) (e : j ∷ n ∷ ty ∷ w ∷ [] ≡ read term_row (drop (8 * p.i) b)) (room : p.s ≤ length es) where
  pub sees-variable : (hs : List ℕ) → AtKind b 5 p → true ≡ fits a-number (j ∷ n ∷ ty ∷ w ∷ []) → NamesChained ns hs p.b → true ≡ given (find (in_scope ns p.b) w) ty
      → q ≡ record { i = p.i + 1; s = p.s; b = p.b; ok = true; down = false; future = p.future } → SeesRow (forms s) (row_table b) es ns es ns hs p q
  unfolding head_from within ◌∧ᵇ◌ due_at
  sees-variable hs at fit c o to =
      let here = is-kind b p j n ty w e 5 at in
      subst (λ (q : Place). SeesRow (forms s) (row_table b) es ns es ns hs p q) (sym to)
      (sees s b es es p record { i = p.i + 1; s = p.s; b = p.b; ok = true; down = false; future = p.future } 5 n ty w at.here here ns ns hs refl record { within = room; chained = c } refl refl refl
      (fields-kept a-number j 5 n ty w fit) (λ f. (f, refl)) (omega arith)
      (λ d. plain-seen s b p.i 5 n ty w at.here here [] (dues es p.s) (in_scope ns p.b) refl refl refl
      (λ _. judged-variable s b p.i 5 n ty w at.here here (find (in_scope ns p.b)) refl ∙ sym o) d))

  pub sees-native : (es' ns' hs' : List ℕ) → AtKind b 6 p → true ≡ fits none-used (j ∷ n ∷ ty ∷ w ∷ []) → (a : ℕ) → a ≡ ty_of (tree_at (term_rows b) (p.i + 1)) → true ≡ rule_ok (forms s) empty lambda ty (a ▹ ⟨⟩)
      → (m r c : ℕ) → m ≡ length (parts (says s ty)) → r + 1 ≡ p.s → length es' ≡ length es → length ns' ≡ length ns → dues es' r ≡ ends m ∷ dues es p.s
      → NamesChained ns' hs' c → in_scope ns' c ≡ parts (says s ty) ++ in_scope ns p.b
      → q ≡ record { i = p.i + 1; s = r; b = c; ok = true; down = true; future = p.future } → SeesRow (forms s) (row_table b) es ns es' ns' hs' p q
  unfolding head_from within ◌∧ᵇ◌ owes due_at
  sees-native es' ns' hs' at fit a t o m r c len x same named d ch sc to =
      let here = is-kind b p j n ty w e 6 at in
      let ps = lambda-params s ty a o in
      subst (λ (q : Place). SeesRow (forms s) (row_table b) es ns es' ns' hs' p q) (sym to)
      (sees s b es es' p record { i = p.i + 1; s = r; b = c; ok = true; down = true; future = p.future } 6 n ty w at.here here ns ns' hs' refl record { within = omega arith; chained = ch } same named refl
      (fields-kept none-used j 6 n ty w fit) (λ f. (f, refl)) (rw d (omega arith))
      (λ k. native-seen s b p.i n ty w at.here here a m (dues es p.s) (in_scope ns p.b) (len ∙ rw ps) (sym o) (rw (d, sc, ← ps, ← t) at k)))
