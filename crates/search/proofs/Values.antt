-- Values by their rows: the rows that are parts of them, trees that are made of such rows, rules that stay. Assumes nothing.
use Prim.Native.Nat.{ℕ, zero, suc, ◌+◌, ◌*◌, ◌-◌, ◌<◌, ◌≤◌}
use mathlib.Core.Path.{◌≡◌, refl, ap, sym, ◌∙◌}
use mathlib.Core.Bool.{Bool, true, false, false≢true}
use mathlib.Core.List.{List, [], ◌∷◌}
use native.Mathlib.Omega.{arith}
use native.Mathlib.Numerals.{add-one}
use native.Mathlib.Decide.{dec_lt}
use native.Mathlib.Nat.{add-zero, add-suc}
use borrow.Author.Tests.{ne_eqb}
use lib.ListN.{length, get_or, take, drop}
use lib.Seq.{drop-nil, drop-cons}
use Rattle.layout.specs.Rows.{numbers, term_rows}
use Rattle.layout.specs.declared.Row.{Row as RowRead}
use Rattle.meaning.specs.Bytes.{◌∧ᵇ◌, read, term_row}
use Rattle.meaning.specs.Types.{Form, member}
use Rattle.meaning.specs.Terms.{Head, lit, var, lambda, foreign, apply, future, ite, fix, nil, cons, isnil, zip, tuple, project, lproject, bind, arity, code, head_from, Tree, Forest, node, end, blank, Row, row_of, size, sizes, kids, trees, tree_at, grove}
use Rattle.meaning.specs.Steps.{value, values, value_kinds, made_of_values, stay, contract}
use Rattle.meaning.proofs.Trees.Parse.{grove-more}
use Rattle.terms.proofs.ByKind.{Below, below}
use Rattle.terms.proofs.Scan.{size-here, grove-none}
use Rattle.search.specs.Kinds.{part_kinds, parts_below}
use Rattle.search.specs.Kept.{row_count, tree_here}
use Rattle.search.specs.Search.{Spans, SpansHere}
use Rattle.search.specs.declared.Span.TheVariants.{Whole, Part}
use Rattle.search.specs.declared.Stand.{Stand}
use Rattle.search.proofs.Frames.{and-true}
use Rattle.search.proofs.Tables.{lent-rest, lent_length, lent-tree}

-- A ROW THAT IS A VALUE, or that is made of values, has no rule that reduces
module _ (form : ℕ → Form) (k u : ℕ) where
  pub value_stays : (h : Head) (f : Forest (arity h)) → member (code h) value_kinds ≡ true → contract form k h u f ≡ stay
  unfolding contract code member
  value_stays (lit l) f e = refl
  value_stays (var x) f e = refl
  value_stays lambda f e = refl
  value_stays (foreign w) f e = refl
  value_stays (apply n) f e = absurd (false≢true e)
  value_stays (future j) f e = refl
  value_stays ite f e = absurd (false≢true e)
  value_stays fix f e = absurd (false≢true e)
  value_stays nil f e = refl
  value_stays cons f e = refl
  value_stays isnil f e = absurd (false≢true e)
  value_stays (zip m) f e = refl
  value_stays (tuple n) f e = refl
  value_stays (project i) f e = absurd (false≢true e)
  value_stays (lproject i) f e = absurd (false≢true e)
  value_stays (bind x) f e = absurd (false≢true e)

  pub built-stays : (h : Head) (f : Forest (arity h)) → member (code h) made_of_values ≡ true → contract form k h u f ≡ stay
  unfolding contract code member
  built-stays (lit l) f e = refl
  built-stays (var x) f e = refl
  built-stays lambda f e = refl
  built-stays (foreign w) f e = refl
  built-stays (apply n) f e = absurd (false≢true e)
  built-stays (future j) f e = refl
  built-stays ite f e = absurd (false≢true e)
  built-stays fix f e = absurd (false≢true e)
  built-stays nil f e = refl
  built-stays cons f e = refl
  built-stays isnil f e = absurd (false≢true e)
  built-stays (zip m) f e = refl
  built-stays (tuple n) f e = refl
  built-stays (project i) f e = absurd (false≢true e)
  built-stays (lproject i) f e = absurd (false≢true e)
  built-stays (bind x) f e = absurd (false≢true e)

-- The rows that are parts of values ------------------------------------------------------------------------------

pub no_part : (k : ℕ) → 16 < k → member k part_kinds ≡ false
unfolding member
no_part k h = rw (ne_eqb k 1 (omega arith), ne_eqb k 2 (omega arith), ne_eqb k 3 (omega arith), ne_eqb k 4 (omega arith), ne_eqb k 7 (omega arith), ne_eqb k 12 (omega arith), ne_eqb k 13 (omega arith), ne_eqb k 16 (omega arith)) refl

no-trees : (f : Forest 0) → values f ≡ true
unfolding values
no-trees end = refl

-- how many trees such a row has below it; it is a value if these are
abbrev PartRow : ℕ → Type 0
PartRow k = member k part_kinds ≡ true → (n w : ℕ) → (arity (head_from k n w) ≡ parts_below k n) × ((u : ℕ) (f : Forest (arity (head_from k n w))) → value (node (head_from k n w) u f) ≡ values f)

rows-at : Below PartRow 17
unfolding head_from member parts_below value code ◌∧ᵇ◌
rows-at = (
  (
    (
      (
        (
          (
            (
              (
                (
                  (
                    (
                      (
                        (
                          (
                            (
                              (
                                (
                                  tt,
                                  (λ e. absurd (false≢true e)),
                                ),
                                (λ e n w. (refl, λ u f. sym (no-trees f))),
                              ),
                              (λ e n w. (refl, λ u f. sym (no-trees f))),
                            ),
                            (λ e n w. (refl, λ u f. sym (no-trees f))),
                          ),
                          (λ e n w. (refl, λ u f. sym (no-trees f))),
                        ),
                        (λ e. absurd (false≢true e)),
                      ),
                      (λ e. absurd (false≢true e)),
                    ),
                    (λ e n w. (refl, λ u f. sym (no-trees f))),
                  ),
                  (λ e. absurd (false≢true e)),
                ),
                (λ e. absurd (false≢true e)),
              ),
              (λ e. absurd (false≢true e)),
            ),
            (λ e. absurd (false≢true e)),
          ),
          (λ e n w. (refl, λ u f. sym (no-trees f))),
        ),
        (λ e n w. (refl, λ u f. refl)),
      ),
      (λ e. absurd (false≢true e)),
    ),
    (λ e. absurd (false≢true e)),
  ),
  (λ e n w. (refl, λ u f. refl)),
)

part-row : (k : ℕ) → PartRow k
part-row k e = elim (dec_lt k 17) [ yes h ↦ below PartRow 17 rows-at k h e | no h ↦ absurd (false≢true (sym (no_part k (omega (arith, h))) ∙ e)) ]

pub part-read : (r : RowRead) → member r.kind part_kinds ≡ true → (arity (row_of (numbers r)).head ≡ parts_below r.kind r.n) × ((u : ℕ) (f : Forest (arity (row_of (numbers r)).head)) → value (node (row_of (numbers r)).head u f) ≡ values f)
unfolding row_of
part-read r e = part-row r.kind e r.n r.word

-- Trees of such rows ---------------------------------------------------------------------------------------------

and_assoc : (a b c : Bool) → (a ∧ᵇ (b ∧ᵇ c)) ≡ ((a ∧ᵇ b) ∧ᵇ c)
unfolding ◌∧ᵇ◌
and_assoc true b c = refl
and_assoc false b c = refl

values-split : (a k : ℕ) (ts : List Tree) → values (kids (k + a) ts) ≡ (values (kids a ts) ∧ᵇ values (kids k (drop a ts)))
unfolding kids values ◌∧ᵇ◌
values-split zero k ts = rw (add-zero k) refl
values-split (suc a) k [] =
    let e = rw (drop-nil {A = Tree} a) at (values-split a k []) in
    rw (add-suc k a, drop-nil {A = Tree} (suc a)) (ap (λ (b : Bool). value blank ∧ᵇ b) e ∙ and_assoc (value blank) (values (kids a [])) (values (kids k [])))
values-split (suc a) k (t ∷ ts) = rw (add-suc k a) (ap (λ (b : Bool). value t ∧ᵇ b) (values-split a k ts) ∙ and_assoc (value t) (values (kids a ts)) (values (kids k (drop a ts))))

pub no-values : (l : List Row) (at : ℕ) → values (grove l at 0) ≡ true
unfolding grove kids values
no-values l at = refl

-- a walk begins with one tree owed and ends with none
pub first-value : (l : List Row) (at : ℕ) → values (grove l at 1) ≡ value (tree_at l at)
unfolding values
first-value l at = ap values (grove-more l at 0) ∙ ap (λ (b : Bool). value (tree_at l at) ∧ᵇ b) (no-values l (at + size (tree_at l at))) ∙ and-true (value (tree_at l at))

-- one row of a walk by the trees still owed
module _ (l : List Row) (i owed : ℕ) (z : owed ≡ 0 → ⊥) where
  pub values-step : (r : Row) → i < length l → get_or l i r ≡ r → ((u : ℕ) (f : Forest (arity r.head)) → value (node r.head u f) ≡ values f)
      → values (grove l i owed) ≡ values (grove l (i + 1) (owed - 1 + arity r.head))
  unfolding grove trees kids values
  values-step r h e v = go owed z
    where
      go : (k : ℕ) → (k ≡ 0 → ⊥) → values (kids k (trees (drop i l))) ≡ values (kids (k - 1 + arity r.head) (trees (drop (i + 1) l)))
      go zero n = absurd (n refl)
      go (suc k) n =
          let q : suc k - 1 + arity r.head ≡ k + arity r.head = omega arith in
          let p : drop i l ≡ r ∷ drop (suc i) l = drop-cons l i r h ∙ ap (λ (x : Row). x ∷ drop (suc i) l) e in
          let ts = trees (drop (suc i) l) in
          rw (add-one, p, q) (ap (λ (b : Bool). b ∧ᵇ values (kids k (drop (arity r.head) ts))) (v r.type (kids (arity r.head) ts)) ∙ sym (values-split (arity r.head) k ts))

-- what a scan tells
module _ (t : Tree) (n : ℕ) where
  pub spans-whole : size t ≡ n → value t ≡ true → Spans (Whole n) t
  unfolding Spans
  spans-whole e v = (e, v)

  pub spans-part : n < size t → Spans (Part n) t
  unfolding Spans
  spans-part h = h

  pub part-told : Spans (Part n) t → n < size t
  unfolding Spans
  part-told h = h

  pub told_here : (right : List ℕ) (s : Stand) → 0 < s.d → t ≡ tree_here right s.r → Spans (Whole n) t → SpansHere (Whole n) right s
  unfolding Spans SpansHere
  told_here right s d e (a, v) = (d, ap size (sym e) ∙ a, ap value (sym e) ∙ v)

pub whole-told : (right : List ℕ) (s : Stand) (n : ℕ) → SpansHere (Whole n) right s → (0 < s.d) × (size (tree_here right s.r) ≡ n) × (value (tree_here right s.r) ≡ true)
unfolding SpansHere
whole-told right s n h = h

-- a row with no tree below it is a tree of one row
pub one-row-tree : (right : List ℕ) (r : ℕ) → r < row_count right → arity (row_of (read term_row (drop (8 * r) right))).head ≡ 0 → size (tree_here right r) ≡ 1
one-row-tree right r h z =
    let x = take (length right - 8 * r) (drop (8 * r) right) in
    let b : 8 * r ≤ length right = omega arith in
    let e : read term_row (drop (8 * r) right) ≡ read term_row x = ap (read term_row) (sym (lent-rest right x r b refl)) in
    let s = size-here x 0 (read term_row (drop (8 * r) right)) (omega (arith, lent_length right x r b refl)) e in
    ap size (sym (lent-tree right x r b refl)) ∙ s ∙ ap (λ (a : ℕ). 1 + sizes (grove (term_rows x) (0 + 1) a)) z ∙ ap (λ (n : ℕ). 1 + n) (grove-none (term_rows x) (0 + 1))
