-- What is due behind a row that is seen, where the check stands then. Assumes nothing.
use Prim.Native.Nat.{ℕ, suc, ◌+◌, ◌-◌, ◌*◌, ◌/◌, ◌≤◌, ◌<◌}
use mathlib.Core.Path.{◌≡◌, refl, ap, sym, ◌∙◌, subst}
use mathlib.Core.Bool.{Bool, true, false}
use mathlib.Core.List.{List, [], ◌∷◌, ◌++◌, map}
use native.Mathlib.Omega.{arith}
use lib.Dec.{eqb}
use lib.ListN.{length, get_or, drop}
use Rattle.meaning.specs.Bytes.{◌∧ᵇ◌, within, read, term_row}
use Rattle.std.specs.Prelude.{Ok}
use Rattle.meaning.specs.Types.{Form, Param, parts, form_no, result_no, Ctx, empty}
use Rattle.meaning.specs.Terms.{fix, arity, Row, kind_no, type_no, ty_of, is, head_from, Fields, words-from, none-used, a-number, an-n, kind_fields, fits, row_of, shape_from, tree_at, grove}
use Rattle.meaning.specs.Typing.{⟨⟩, ◌▹◌, list, tys, rule_ok}
use Rattle.meaning.specs.Entries.{no_future}
use Rattle.terms.proofs.Scan.{shape_on}
use Rattle.layout.specs.Rows.{row_table, term_rows}
use Rattle.layout.proofs.Tables.{row-table-length, row-table-at}
use Rattle.rules.specs.Forms.{forms, three}
use Rattle.layout.specs.Forms.{says, part_types, is_function}
use Rattle.rules.proofs.ByPart.{types-length}
use Rattle.typing.specs.Scope.{judged, binds}
use Rattle.typing.proofs.ByRow.{binds-let}
use Rattle.quick.specs.declared.Place.{Place}
use Rattle.quick.specs.Names.{in_scope}
use Rattle.quick.specs.Kinds.{LeafKind, OneChild}
use Rattle.quick.specs.Dues.{Due, wanted, ends, begins, dues, owes, due_at, Comes, Arrays, AtKind, Good, SeesRow, LeavesDue}
use Rattle.quick.proofs.ByKind.{never, row_fits, fixed-kind, branch-rule, cons-rule}
use Rattle.quick.proofs.Seeing.{owes-wants, plain-seen, judged-few}
use Rattle.quick.proofs.OneKind.{judged-call, judged-parts, judged-again, let-seen}

none-listed : (m a b c : ℕ) → m ≡ 0 → list (three m a b c) ≡ []
unfolding list three
none-listed m a b c e = rw e

one-listed : (m a b c : ℕ) → m ≡ 1 → list (three m a b c) ≡ a ∷ []
unfolding list three
one-listed m a b c e = rw e

-- the rule of a row whose kind is known
pub kind-rule : (s : List (List ℕ)) (j k n ty w a : ℕ) → j ≡ k → true ≡ rule_ok (forms s) empty (row_of (j ∷ n ∷ ty ∷ w ∷ [])).head ty (three (arity (row_of (j ∷ n ∷ ty ∷ w ∷ [])).head) a ty ty)
    → rule_ok (forms s) empty (head_from k n w) ty (three (arity (head_from k n w)) a ty ty) ≡ true
unfolding row_of
kind-rule s j k n ty w a e o = subst (λ (x : ℕ). rule_ok (forms s) empty (head_from x n w) ty (three (arity (head_from x n w)) a ty ty) ≡ true) e (sym o)

-- the fields are asked of n and word alone
pub fields-kept : (f : Fields) (j k n ty w : ℕ) → true ≡ fits f (j ∷ n ∷ ty ∷ w ∷ []) → fits f (k ∷ n ∷ ty ∷ w ∷ []) ≡ true
unfolding fits
fields-kept f j k n ty w o = sym o

-- a row of a kind is there, and its type number is one of a table's
module _ (b : List ℕ) (p : Place) (j n ty w : ℕ) (e : j ∷ n ∷ ty ∷ w ∷ [] ≡ read term_row (drop (8 * p.i) b)) where
  pub at-kind : (k : ℕ) → p.i < length b / 8 → length b ≤ 16384 → j ≡ k → AtKind b k p
  at-kind k h few x = record { here = h; few = few; kind = sym (ap kind_no e) ∙ x }

  pub is-kind : (k : ℕ) → AtKind b k p → k ∷ n ∷ ty ∷ w ∷ [] ≡ read term_row (drop (8 * p.i) b)
  is-kind k at = subst (λ (x : ℕ). x ∷ n ∷ ty ∷ w ∷ [] ≡ read term_row (drop (8 * p.i) b)) (ap kind_no e ∙ at.kind) e

  pub type-there : (count : ℕ) → p.i < length b / 8 → ty < count → type_no (get_or (row_table b) p.i []) < count
  type-there count h x = rw (row-table-at b p.i [] (omega arith) ∙ sym e) x

-- A row that is seen: what is due before it is good if what is due behind it is
module _ (s : List (List ℕ)) (b es es' : List ℕ) (p q : Place) (k n ty w : ℕ) (h : p.i < length b / 8) (e : k ∷ n ∷ ty ∷ w ∷ [] ≡ read term_row (drop (8 * p.i) b)) where
  pub sees : (ns ns' hs' : List ℕ) → q.i ≡ p.i + 1 → Arrays es' ns' hs' q → length es' ≡ length es → length ns' ≡ length ns
      → within 1 19 k ≡ true → fits (get_or kind_fields k none-used) (k ∷ n ∷ ty ∷ w ∷ []) ≡ true → (q.future ≡ false → (p.future ≡ false) × (eqb k 9 ≡ false))
      → owes (due_at (term_rows b) es' q) ≡ owes (dues es p.s) + arity (head_from k n w)
      → (Comes (forms s) (term_rows b) (due_at (term_rows b) es' q) (in_scope ns' q.b) q.i → Comes (forms s) (term_rows b) (wanted (ty_of (tree_at (term_rows b) p.i)) ∷ dues es p.s) (in_scope ns p.b) p.i)
      → SeesRow (forms s) (row_table b) es ns es' ns' hs' p q
  unfolding Good owes no_future row_of
  sees ns ns' hs' next arrays same-dues same_names known fit still owed back count t =
      let row : get_or (row_table b) p.i [] ≡ k ∷ n ∷ ty ∷ w ∷ [] = row-table-at b p.i [] (omega arith) ∙ sym e in
      let below : ty < count = rw row at t in
      record {
        next = next;
        arrays = arrays;
        same-dues = same-dues;
        same_names = same_names;
        still = λ z. ((still z).0, rw (row, (still z).1));
        back = λ g.
            let o : owes (due_at (term_rows b) es' q) ≡ suc (owes (dues es p.s)) - 1 + arity (head_from k n w) = owed ∙ omega arith in
            let on = shape_on 1 count (row_table b) p.i (suc (owes (dues es p.s))) (k ∷ n ∷ ty ∷ w ∷ []) (omega (arith, row-table-length b)) row (sym (row_fits k n ty w count known fit below)) (λ z. omega arith) in
            (on ∙ rw (← o) (subst (λ (x : ℕ). shape_from 1 count (drop x (row_table b)) (owes (due_at (term_rows b) es' q)) x ≡ Ok tt) next g.0), back g.1);
      }

-- A row that binds no name at once -----------------------------------------------------------------------------------

module _ (s : List (List ℕ)) (b es es' : List ℕ) (p q : Place) (j n ty w : ℕ) (e : j ∷ n ∷ ty ∷ w ∷ [] ≡ read term_row (drop (8 * p.i) b)) where
  abbrev F : ℕ → Form
  F = forms s

  abbrev l : List Row
  l = term_rows b

  abbrev here : (k : ℕ) → AtKind b k p → k ∷ n ∷ ty ∷ w ∷ [] ≡ read term_row (drop (8 * p.i) b)
  here = is-kind b p j n ty w e

  abbrev fitting : (f : Fields) (k : ℕ) → true ≡ fits f (j ∷ n ∷ ty ∷ w ∷ []) → fits f (k ∷ n ∷ ty ∷ w ∷ []) ≡ true
  fitting f k = fields-kept f j k n ty w

  abbrev Moved : ℕ → Bool → Bool → Place
  Moved r down future = record { i = p.i + 1; s = r; b = p.b; ok = true; down = down; future = future }

  module _ (k : ℕ) (at : AtKind b k p) (known : within 1 19 k ≡ true) (fit : fits (get_or kind_fields k none-used) (k ∷ n ∷ ty ∷ w ∷ []) ≡ true) (same : length es' ≡ length es) where
    -- over children of the types ws
    module _ (x : eqb k 6 ≡ false) (y : eqb k 19 ≡ false) (r : ℕ) (within-it : r ≤ length es') where
      pub leaves : (down future : Bool) → q ≡ Moved r down future → (future ≡ false → (p.future ≡ false) × (eqb k 9 ≡ false))
          → (ws : List ℕ) → length ws ≡ arity (head_from k n w)
          → ((Γ : Ctx) → list (tys (grove l (p.i + 1) (arity (head_from k n w)))) ≡ ws → judged F Γ (tree_at l p.i) ≡ true)
          → due_at l es' (Moved r down future) ≡ map wanted ws ++ dues es p.s → LeavesDue F (row_table b) es es' p q
      leaves down future to still ws z good d ns hs c =
          subst (λ (q : Place). SeesRow F (row_table b) es ns es' ns hs p q) (sym to)
          (sees s b es es' p (Moved r down future) k n ty w at.here (here k at) ns ns hs refl record { within = within-it; chained = c } same refl known fit still
          (rw d (owes-wants ws (dues es p.s) ∙ rw z))
          (λ c. plain-seen s b p.i k n ty w at.here (here k at) ws (dues es p.s) (in_scope ns p.b) x y z (λ g. good _ g) (rw d at c)))

      -- the next row is to state a type that is wanted
      pub leaves-next : q ≡ Moved r false p.future → eqb k 9 ≡ false → (ws : List ℕ) → length ws ≡ arity (head_from k n w)
          → ((Γ : Ctx) → list (tys (grove l (p.i + 1) (arity (head_from k n w)))) ≡ ws → judged F Γ (tree_at l p.i) ≡ true)
          → dues es' r ≡ map wanted ws ++ dues es p.s → LeavesDue F (row_table b) es es' p q
      unfolding due_at
      leaves-next to still ws z good d = leaves false p.future to (λ f. (f, still)) ws z good d

      -- the next row is due whatever type it states
      pub leaves-first : q ≡ Moved r true p.future → eqb k 9 ≡ false → (a : ℕ) → a ≡ ty_of (tree_at l (p.i + 1)) → (ws : List ℕ) → suc (length ws) ≡ arity (head_from k n w)
          → ((Γ : Ctx) → list (tys (grove l (p.i + 1) (arity (head_from k n w)))) ≡ a ∷ ws → judged F Γ (tree_at l p.i) ≡ true)
          → dues es' r ≡ map wanted ws ++ dues es p.s → LeavesDue F (row_table b) es es' p q
      unfolding due_at
      leaves-first to still a t ws z good d = leaves true p.future to (λ f. (f, still)) (a ∷ ws) z good (rw (t, d))

  -- a let: its name comes into scope behind its first child
  pub leaves-let : (at : AtKind b 19 p) → true ≡ fits a-number (j ∷ n ∷ ty ∷ w ∷ []) → length es' ≡ length es → (m₁ m₂ r : ℕ) → m₁ + 1 ≡ p.s → m₂ + 1 ≡ m₁ → r + 1 ≡ m₂ → p.s ≤ length es
      → (d₁ d₂ : List Due) → d₁ ≡ ends 1 ∷ dues es p.s → d₂ ≡ wanted ty ∷ d₁ → dues es' r ≡ begins p.i ∷ d₂
      → q ≡ Moved r true p.future → LeavesDue F (row_table b) es es' p q
  unfolding head_from within ◌∧ᵇ◌ owes due_at
  leaves-let at fit same m₁ m₂ r x₁ x₂ x₃ room d₁ d₂ y₁ y₂ y₃ to ns hs c =
      let d : dues es' r ≡ begins p.i ∷ wanted ty ∷ ends 1 ∷ dues es p.s = y₃ ∙ rw (y₂, y₁) in
      subst (λ (q : Place). SeesRow F (row_table b) es ns es' ns hs p q) (sym to)
      (sees s b es es' p (Moved r true p.future) 19 n ty w at.here (here 19 at) ns ns hs refl record { within = omega arith; chained = c } same refl refl (fitting a-number 19 fit) (λ f. (f, refl))
      (rw d (omega arith))
      (λ c. let-seen s b p.i n ty w at.here (here 19 at) (ty_of (tree_at l (p.i + 1))) (dues es p.s) (in_scope ns p.b) (rw d at c)))

  -- an if, a cons, an application
  pub leaves-branch : AtKind b 10 p → true ≡ fits none-used (j ∷ n ∷ ty ∷ w ∷ []) → (a : ℕ) → a ≡ ty_of (tree_at l (p.i + 1)) → form_no (says s a) ≡ 3 → length es' ≡ length es
      → (m r : ℕ) → m + 1 ≡ p.s → r + 1 ≡ m → p.s ≤ length es → (d : List Due) → d ≡ wanted ty ∷ dues es p.s → dues es' r ≡ wanted ty ∷ d
      → q ≡ Moved r true p.future → LeavesDue F (row_table b) es es' p q
  unfolding head_from within ◌∧ᵇ◌ list three
  leaves-branch at fit a t f same m r x₁ x₂ room d y₁ y₂ to =
      leaves-first 10 at refl (fitting none-used 10 fit) same refl refl r (omega arith) to refl a t (ty ∷ ty ∷ []) refl
      (λ Γ g. judged-few s b p.i 10 n ty w at.here (here 10 at) Γ a (fixed-kind 10 refl) (branch-rule s ty a f) g) (y₂ ∙ rw y₁)

  pub leaves-cons : AtKind b 13 p → true ≡ fits none-used (j ∷ n ∷ ty ∷ w ∷ []) → (a : ℕ) → a ≡ ty_of (tree_at l (p.i + 1)) → form_no (says s ty) ≡ 4 → result_no (says s ty) ≡ a → length es' ≡ length es
      → (r : ℕ) → r + 1 ≡ p.s → p.s ≤ length es → dues es' r ≡ wanted ty ∷ dues es p.s
      → q ≡ Moved r true p.future → LeavesDue F (row_table b) es es' p q
  unfolding head_from within ◌∧ᵇ◌ list three
  leaves-cons at fit a t f o same r x room d to =
      leaves-first 13 at refl (fitting none-used 13 fit) same refl refl r (omega arith) to refl a t (ty ∷ []) refl
      (λ Γ g. judged-few s b p.i 13 n ty w at.here (here 13 at) Γ a (fixed-kind 13 refl) (cons-rule s ty a f o) g) d

  pub leaves-call : AtKind b 8 p → true ≡ fits (an-n 0 8) (j ∷ n ∷ ty ∷ w ∷ []) → (a : ℕ) → a ≡ ty_of (tree_at l (p.i + 1)) → true ≡ is_function (form_no (says s a)) → result_no (says s a) ≡ ty
      → length (parts (says s a)) ≡ n → length es' ≡ length es → (r : ℕ) → r + length (part_types (says s a)) ≡ p.s → p.s ≤ length es → dues es' r ≡ map wanted (part_types (says s a)) ++ dues es p.s
      → q ≡ Moved r true p.future → LeavesDue F (row_table b) es es' p q
  unfolding head_from within ◌∧ᵇ◌
  leaves-call at fit a t f o len same r x room d to =
      let each = types-length (parts (says s a)) in
      leaves-first 8 at refl (fitting (an-n 0 8) 8 fit) same refl refl r (omega arith) to refl a t (part_types (says s a)) (omega arith)
      (λ Γ g. judged-call s b p.i n ty w at.here (here 8 at) Γ a (sym f) o g) d

  -- a tuple
  pub leaves-tuple : AtKind b 16 p → true ≡ fits (an-n 1 8) (j ∷ n ∷ ty ∷ w ∷ []) → form_no (says s ty) ≡ 5 → length (parts (says s ty)) ≡ n → length es' ≡ length es
      → (r : ℕ) → r + length (part_types (says s ty)) ≡ p.s → p.s ≤ length es → dues es' r ≡ map wanted (part_types (says s ty)) ++ dues es p.s
      → q ≡ Moved r false p.future → LeavesDue F (row_table b) es es' p q
  unfolding head_from within ◌∧ᵇ◌
  leaves-tuple at fit f len same r x room d to =
      let each = types-length (parts (says s ty)) in
      leaves-next 16 at refl (fitting (an-n 1 8) 16 fit) same refl refl r (omega arith) to refl (part_types (says s ty)) (omega arith)
      (λ Γ g. judged-parts s b p.i n ty w at.here (here 16 at) Γ f g) d

-- A row that leaves nothing in the array -----------------------------------------------------------------------------

module _ (s : List (List ℕ)) (b es : List ℕ) (p q : Place) (j n ty w : ℕ) (e : j ∷ n ∷ ty ∷ w ∷ [] ≡ read term_row (drop (8 * p.i) b)) (room : p.s ≤ length es) where
  pub leaves-leaf : (k form least most : ℕ) → AtKind b k p → LeafKind k form least most → true ≡ fits record { n_low = 0; n_high = 0; words = words-from least most } (j ∷ n ∷ ty ∷ w ∷ [])
      → form_no (says s ty) ≡ form → q ≡ record { i = p.i + 1; s = p.s; b = p.b; ok = true; down = false; future = p.future } → LeavesDue (forms s) (row_table b) es es p q
  leaves-leaf k form least most at leaf fit f to =
      let none = leaf.none n w in
      leaves-next s b es es p q j n ty w e k at leaf.plain.known (rw leaf.fields (fields-kept record { n_low = 0; n_high = 0; words = words-from least most } j k n ty w fit))
      refl leaf.plain.not-native leaf.plain.not-let p.s room to leaf.plain.not-future [] (sym none)
      (λ Γ g. judged-few s b p.i k n ty w at.here (is-kind b p j n ty w e k at) Γ 0 leaf.plain.fixed (leaf.asks s ty n w f) (g ∙ sym (none-listed (arity (head_from k n w)) 0 ty ty none))) refl

  pub leaves-future : AtKind b 9 p → true ≡ fits a-number (j ∷ n ∷ ty ∷ w ∷ []) → q ≡ record { i = p.i + 1; s = p.s; b = p.b; ok = true; down = false; future = true } → LeavesDue (forms s) (row_table b) es es p q
  unfolding head_from within ◌∧ᵇ◌ list three due_at rule_ok
  leaves-future at fit to =
      leaves s b es es p q j n ty w e 9 at refl (fields-kept a-number j 9 n ty w fit) refl refl refl p.s room false true to (λ z. absurd (never z refl)) [] refl
      (λ Γ g. judged-few s b p.i 9 n ty w at.here (is-kind b p j n ty w e 9 at) Γ 0 (fixed-kind 9 refl) refl g) refl

  pub leaves-one : (k low high : ℕ) → AtKind b k p → OneChild k low high → true ≡ fits (an-n low high) (j ∷ n ∷ ty ∷ w ∷ []) → (a : ℕ) → a ≡ ty_of (tree_at (term_rows b) (p.i + 1))
      → rule_ok (forms s) empty (head_from k n w) ty (three (arity (head_from k n w)) a ty ty) ≡ true
      → q ≡ record { i = p.i + 1; s = p.s; b = p.b; ok = true; down = true; future = p.future } → LeavesDue (forms s) (row_table b) es es p q
  leaves-one k low high at kind fit a t o to =
      let one = kind.one n w in
      leaves-first s b es es p q j n ty w e k at kind.plain.known (rw kind.fields (fields-kept (an-n low high) j k n ty w fit))
      refl kind.plain.not-native kind.plain.not-let p.s room to kind.plain.not-future a t [] (sym one)
      (λ Γ g. judged-few s b p.i k n ty w at.here (is-kind b p j n ty w e k at) Γ a kind.plain.fixed o (g ∙ sym (one-listed (arity (head_from k n w)) a ty ty one))) refl

  pub leaves-fix : AtKind b 11 p → true ≡ fits none-used (j ∷ n ∷ ty ∷ w ∷ []) → true ≡ is 6 (tree_at (term_rows b) (p.i + 1)) → (a : ℕ) → a ≡ ty_of (tree_at (term_rows b) (p.i + 1)) → true ≡ rule_ok (forms s) empty fix ty (a ▹ ⟨⟩)
      → q ≡ record { i = p.i + 1; s = p.s; b = p.b; ok = true; down = true; future = p.future } → LeavesDue (forms s) (row_table b) es es p q
  unfolding head_from within ◌∧ᵇ◌
  leaves-fix at fit f a t o to =
      leaves-first s b es es p q j n ty w e 11 at refl (fields-kept none-used j 11 n ty w fit) refl refl refl p.s room to refl a t [] refl
      (λ Γ g. judged-again s b p.i n ty w at.here (is-kind b p j n ty w e 11 at) Γ (sym f) (rw (sym t) (sym o))) refl

-- the name of a let in front of those around it
pub let-front : (form : ℕ → Form) (b : List ℕ) (j k n ty w a : ℕ) → j < length b / 8 → k ∷ n ∷ ty ∷ w ∷ [] ≡ read term_row (drop (8 * j) b) → k ≡ 19 → a ≡ ty_of (tree_at (term_rows b) (j + 1))
    → (now rest : List Param) → now ≡ record { name = w; type = a } ∷ rest → now ≡ binds form (tree_at (term_rows b) j) ++ rest
let-front form b j k n ty w a h e q t now rest p = p ∙ rw (t, binds-let form b j k n ty w h e q)
