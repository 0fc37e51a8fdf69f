-- One row of the walk, and its start. Assumes nothing.
use Prim.Native.Nat.{ℕ, zero, suc, ◌+◌, ◌-◌, ◌*◌, ◌/◌, ◌<◌, ◌≤◌}
use mathlib.Core.Path.{◌≡◌, refl, ap, sym, ◌∙◌, subst}
use mathlib.Core.Bool.{true, false}
use mathlib.Core.List.{List, [], ◌∷◌}
use Rattle.std.specs.Prelude.{None, Some}
use native.Mathlib.Omega.{arith}
use lib.ListN.{length, get_or, drop, replicate}
use Rattle.meaning.specs.Bytes.{number, read, term_row}
use Rattle.meaning.specs.Types.{Form}
use Rattle.meaning.specs.Terms.{kind_no, arity, Row, head_from, row_of, size, sizes, tree_at, grove}
use Rattle.meaning.specs.Typing.{tys}
use Rattle.terms.specs.Tables.{Closed}
use Rattle.terms.proofs.Scan.{row-in, grove-size, grove-none, owed-some, owed-step, size-some}
use Rattle.layout.specs.Rows.{term_rows}
use Rattle.rules.specs.Forms.{forms}
use Rattle.typing.specs.Scope.{around, walk, hand_on, inner_of, judged, Low}
use Rattle.typing.proofs.Faults.{hand_rest, hand_over, walk_none, walk_here, walk-on, handed-low}
use Rattle.typing.proofs.ByRow.{sizes_rest}
use Rattle.typing.proofs.Judging.{children-in, judged-in, inner-right}

module _ (s : List (List ℕ)) (b : List ℕ) (i k n ty w : ℕ) (h : i < length b / 8) (e : k ∷ n ∷ ty ∷ w ∷ [] ≡ read term_row (drop (8 * i) b)) (sc : List ℕ) where
  abbrev F : ℕ → Form
  F = forms s

  abbrev l : List Row
  l = term_rows b

  abbrev r : Row
  r = row_of (k ∷ n ∷ ty ∷ w ∷ [])

  -- a row that fails
  fails : (owed : ℕ) → (owed ≡ 0 → ⊥) → judged F (around F l sc i) (tree_at l i) ≡ false → walk F l sc owed i ≡ Some i
  unfolding row_of
  fails zero z q = absurd (z refl)
  fails (suc m) z q =
      let g = row-in b i (k ∷ n ∷ ty ∷ w ∷ []) h e in
      walk_here F l sc i m r g.0 g.1 (sym (judged-in s b i k n ty w h e (around F l sc i)) ∙ q)

  -- a row that stands
  module _ (low : Low sc i) (c : Closed l (length b / 8)) (room : length b / 8 ≤ length sc) where
    abbrev next : List ℕ
    next = hand_on l (inner_of k (get_or sc i 0) (i + 1)) 0 (arity (head_from k n w)) (i + 1) sc

    pub goes_on : (owed : ℕ) → (owed ≡ 0 → ⊥) → judged F (around F l sc i) (tree_at l i) ≡ true → walk F l sc owed i ≡ walk F l next (owed - 1 + arity
        (head_from k n w)) (i + 1)
    unfolding row_of
    goes_on zero z q = absurd (z refl)
    goes_on (suc m) z q =
        let g = row-in b i (k ∷ n ∷ ty ∷ w ∷ []) h e in
        let d : m + arity (head_from k n w) ≡ suc m - 1 + arity (head_from k n w) = omega arith in
        let f = children-in s b i k n ty w h e c in
        walk-on F l sc i m r g.0 g.1 low (inner_of k (get_or sc i 0) (i + 1)) (omega arith)
        (λ p. inner-right F n w ty (get_or sc i 0) i k p (tys (grove l (i + 1) (arity (head_from k n w)))))
        (sym (judged-in s b i k n ty w h e (around F l sc i)) ∙ q)
        ∙ ap (λ (x : ℕ). walk F l next x (i + 1)) d

    pub next_low_lem : Low next (i + 1)
    unfolding row_of
    next_low_lem =
        let g = row-in b i (k ∷ n ∷ ty ∷ w ∷ []) h e in
        let d : suc i ≡ i + 1 = omega arith in
        let f = children-in s b i k n ty w h e c in
        subst (Low next) d
        (handed-low F l sc i 0 r g.0 g.1 low (inner_of k (get_or sc i 0) (i + 1)) (omega arith)
        (λ p. inner-right F n w ty (get_or sc i 0) i k p (tys (grove l (i + 1) (arity (head_from k n w))))))

pub stops : (s : List (List ℕ)) (b : List ℕ) (i : ℕ) → i < length b / 8 → (sc : List ℕ) (owed : ℕ) → (owed ≡ 0 → ⊥)
    → judged (forms s) (around (forms s) (term_rows b) sc i) (tree_at (term_rows b) i) ≡ false → walk (forms
    s) (term_rows b) sc owed i ≡ Some i
unfolding read
stops s b i h sc owed z q =
    let x = drop (8 * i) b in
    fails s b i (number 1 x) (number 1 (drop 1 x)) (number 2 (drop 1 (drop 1 x))) (number 4 (drop 2 (drop 1 (drop 1 x)))) h refl
    sc owed z q

-- the rows before row i stand: the trees still owed end with the rows, each below the binders that the array has for it, and their first fault is that of the whole
pub record Stands (form : ℕ → Form) (l : List Row) (rows : ℕ) (start sc : List ℕ) (i : ℕ) : Type 0 where
  pub owed : ℕ
  pub left : i + sizes (grove l i owed) ≡ rows
  pub low : Low sc i
  pub same : walk form l sc owed i ≡ walk form l start 1 0

pub stands_first : (form : ℕ → Form) (l : List Row) (rows : ℕ) (sc : List ℕ) → Closed l rows → Low sc 0 → Stands form l rows sc sc 0
stands_first form l rows sc closed low =
    record { owed = 1; left = omega (arith, grove-size l 0 0, grove-none l (0 + size (tree_at l 0)), closed.one); low = low; same = refl }

pub stands_all : (form : ℕ → Form) (l : List Row) (rows : ℕ) (start sc : List ℕ) (i : ℕ) → Stands form l rows start sc i → rows ≤ i → walk form l start 1 0 ≡ None
stands_all form l rows start sc i q h =
    sym q.same ∙ walk_none form l sc i q.owed (none q.owed q.left)
  where
    none : (k : ℕ) → i + sizes (grove l i k) ≡ rows → k ≡ 0
    none zero e = refl
    none (suc k) e = absurd (omega (arith, owed-some l i (suc k) (λ z. omega arith)))

module _ (s : List (List ℕ)) (b start sc : List ℕ) (i : ℕ) (h : i < length b / 8) (q : Stands (forms s) (term_rows b) (length b / 8) start sc i) where
  some : q.owed ≡ 0 → ⊥
  some z = let e : sizes (grove (term_rows b) i q.owed) ≡ 0 = ap (λ (k : ℕ). sizes (grove (term_rows b) i k)) z ∙ grove-none (term_rows b) i in omega (arith, q.left)

  pub stands_not : judged (forms s) (around (forms s) (term_rows b) sc i) (tree_at (term_rows b) i) ≡ false → walk (forms s) (term_rows b) start 1 0 ≡ Some i
  stands_not f = sym q.same ∙ stops s b i h sc q.owed some f

  pub stands_on : Closed (term_rows b) (length b / 8) → length b / 8 ≤ length sc
      → judged (forms s) (around (forms s) (term_rows b) sc i) (tree_at (term_rows b) i) ≡ true
      → Stands (forms s) (term_rows b) (length b / 8) start (hand_on (term_rows b) (inner_of (kind_no (read term_row (drop (8 * i) b))) (get_or sc i 0) (i + 1)) 0 (arity (row_of (read term_row (drop (8 * i) b))).head) (i + 1) sc) (i + 1)
  unfolding read row_of
  stands_on closed room t =
      let x = drop (8 * i) b in
      let k = number 1 x in
      let n = number 1 (drop 1 x) in
      let ty = number 2 (drop 1 (drop 1 x)) in
      let w = number 4 (drop 2 (drop 1 (drop 1 x))) in
      let g = row-in b i (k ∷ n ∷ ty ∷ w ∷ []) h refl in
      record {
        owed = q.owed - 1 + arity (head_from k n w);
        left = sym (owed-step (term_rows b) i q.owed some (row_of (k ∷ n ∷ ty ∷ w ∷ [])) g.0 g.1) ∙ q.left;
        low = next_low_lem s b i k n ty w h refl sc q.low closed room;
        same = sym (goes_on s b i k n ty w h refl sc q.low closed room q.owed some t) ∙ q.same;
      }

-- an array of zeros
zeros-at : (n p : ℕ) → ◌≡◌ {A = ℕ} (get_or (replicate n 0) p 0) 0
zeros-at zero p = refl
zeros-at (suc n) zero = refl
zeros-at (suc n) (suc p) = zeros-at n p

pub zeros-low : (n : ℕ) → Low (replicate n 0) 0
zeros-low n = record { own = λ p. omega (arith, zeros-at n p); all = λ p. omega (arith, zeros-at n p) }

pub low-weak : (sc : List ℕ) (i j : ℕ) → i ≤ j → Low sc i → Low sc j
low-weak sc i j h w = record { own = w.own; all = λ p. omega (arith, w.all p) }

-- ROW BY ROW
pub ruleset rows_walked = (stands_first, stands_all, stands_not, stands_on, low-weak)

pub ruleset rows_handed = (hand_rest, hand_over, sizes_rest, size-some, children-in)
