-- One row of a scan by the trees still owed; what a whole table is; where trees end. Assumes nothing.
use Prim.Native.Nat.{ℕ, zero, suc, ◌+◌, ◌-◌, ◌*◌, ◌/◌, ◌<◌, ◌≤◌}
use mathlib.Core.Path.{◌≡◌, refl, ap, sym, ◌∙◌, subst}
use mathlib.Core.List.{List, [], ◌∷◌, map}
use Rattle.std.specs.Prelude.{Option, None, Some}
use native.Mathlib.Omega.{arith}
use native.Mathlib.Numerals.{add-one}
use native.Mathlib.Decide.{ℕ_discrete}
use lib.ListN.{length, get_or, set, drop, drop_of_length-le, length-map, get_or-map}
use lib.Seq.{drop-cons, get_or-set_same, get_or-set_other}
use Rattle.layout.specs.Rows.{row_table, term_rows}
use Rattle.layout.proofs.Tables.{row-table-length, row-table-at}
use Rattle.meaning.specs.Bytes.{read, term_row}
use Rattle.meaning.specs.Terms.{arity, Tree, node, Row, size, sizes, row_of, row_fault, shape, shape_from, unless-bad, blank, kids, trees, top, tree_at, grove}
use Rattle.meaning.specs.declared.Fault.{Fault}
use Rattle.meaning.specs.declared.Fault.TheVariants.{Behind, Unfinished}
use Rattle.meaning.specs.Terms.{Shape}
use Rattle.std.specs.Prelude.{Ok, Err}
use Rattle.meaning.proofs.Trees.Parse.{sizes-split, grove-more, tree-row}
use Rattle.terms.specs.Tables.{Closed, hop, HopsIn}

-- Shape ----------------------------------------------------------------------------------------------------------

module _ (edition count : ℕ) (l : List (List ℕ)) (i owed : ℕ) (r : List ℕ) (h : i < length l) (e : get_or l i [] ≡ r) where
  front : drop i l ≡ r ∷ drop (i + 1) l
  front = rw (add-one, drop-cons l i []) (ap (λ (x : List ℕ). x ∷ drop (suc i) l) e)

  pub shape-bad : (f : Fault) → Some f ≡ row_fault edition count r → shape_from edition count (drop i l) owed i ≡ Err (f, i)
  unfolding shape_from unless-bad
  shape-bad f q = rw front (go owed)
    where
      go : (k : ℕ) → shape_from edition count (r ∷ drop (i + 1) l) k i ≡ Err (f, i)
      go zero = rw (sym q) refl
      go (suc k) = rw (sym q) refl

  pub shape_behind : None ≡ row_fault edition count r → owed ≡ 0 → shape_from edition count (drop i l) owed i ≡ Err (Behind, i)
  unfolding shape_from unless-bad
  shape_behind q z = rw (front, z) (rw (sym q) refl)

  pub shape_on : None ≡ row_fault edition count r → (owed ≡ 0 → ⊥) → shape_from edition count (drop i l) owed i ≡ shape_from edition count (drop (i + 1)
      l) (owed - 1 + arity (row_of r).head) (i + 1)
  unfolding shape_from unless-bad
  shape_on q z = rw front (go owed z)
    where
      go : (k : ℕ) → (k ≡ 0 → ⊥) → shape_from edition count (r ∷ drop (i + 1) l) k i ≡ shape_from edition count (drop (i + 1) l) (k - 1 + arity (row_of r
          ).head) (i + 1)
      go zero n = absurd (n refl)
      go (suc k) n =
          let c : k + arity (row_of r).head ≡ suc k - 1 + arity (row_of r).head = omega arith in
          let d : suc i ≡ i + 1 = omega arith in
          rw (sym q, c, d) refl

module _ (edition count : ℕ) (l : List (List ℕ)) (i owed : ℕ) (h : length l ≤ i) where
  pub shape-whole : owed ≡ 0 → shape_from edition count (drop i l) owed i ≡ Ok tt
  unfolding shape_from
  shape-whole e = rw (drop_of_length-le l h, e) refl

  pub shape-short : (owed ≡ 0 → ⊥) → shape_from edition count (drop i l) owed i ≡ Err (Unfinished, i)
  unfolding shape_from
  shape-short z = rw (drop_of_length-le l h) (go owed z)
    where
      go : (k : ℕ) → (k ≡ 0 → ⊥) → shape_from edition count [] k i ≡ Err (Unfinished, i)
      go zero n = absurd (n refl)
      go (suc k) n = refl

-- the row that code reads is the table's
pub in_table : (s : List ℕ) (i : ℕ) (r : List ℕ) → i < length s / 8 → r ≡ read term_row (drop (8 * i) s) → (i < length (row_table s)) × (get_or (row_table s) i [] ≡ r)
in_table s i r h e = (omega (arith, row-table-length s), row-table-at s i [] (omega arith) ∙ sym e)

-- Whole tables ---------------------------------------------------------------------------------------------------

unless-whole : (o : Option Fault) (i : ℕ) (s : Shape) → unless-bad o i s ≡ Ok tt → s ≡ Ok tt
unfolding unless-bad
unless-whole None i s e = e
unless-whole (Some f) i s e = let z : ◌≡◌ {A = ℕ} 0 1 = cc in absurd (omega arith)

whole-sizes : (edition count : ℕ) (t : List (List ℕ)) (owed i : ℕ) → shape_from edition count t owed i ≡ Ok tt → sizes (kids owed (trees (map row_of
    t))) ≡ length t
unfolding shape_from kids trees size
whole-sizes edition count [] zero i e = refl
whole-sizes edition count [] (suc owed) i e = let z : ◌≡◌ {A = ℕ} 0 1 = cc in absurd (omega arith)
whole-sizes edition count (r ∷ t) zero i e =
    let q = unless-whole (row_fault edition count r) i (Err (Behind, i)) e in
    let z : ◌≡◌ {A = ℕ} 0 1 = cc in
    absurd (omega arith)
whole-sizes edition count (r ∷ t) (suc owed) i e =
    let a = arity (row_of r).head in
    let q = whole-sizes edition count t (owed + a) (suc i) (unless-whole (row_fault edition count r) i (shape_from edition count t (owed + a) (suc i))
    e) in
    omega (arith, sizes-split a owed (trees (map row_of t)))

whole-within : (edition count : ℕ) (t : List (List ℕ)) (owed i : ℕ) → shape_from edition count t owed i ≡ Ok tt → (j : ℕ) → j < length t → j + size
    (tree_at (map row_of t) j) ≤ length t
unfolding shape_from kids trees size tree_at top
whole-within edition count [] owed i e j h = absurd (omega arith)
whole-within edition count (r ∷ t) zero i e j h =
    let q = unless-whole (row_fault edition count r) i (Err (Behind, i)) e in
    let z : ◌≡◌ {A = ℕ} 0 1 = cc in
    absurd (omega arith)
whole-within edition count (r ∷ t) (suc owed) i e zero h =
    let a = arity (row_of r).head in
    let q = whole-sizes edition count t (owed + a) (suc i) (unless-whole (row_fault edition count r) i (shape_from edition count t (owed + a) (suc i))
    e) in
    omega (arith, sizes-split a owed (trees (map row_of t)))
whole-within edition count (r ∷ t) (suc owed) i e (suc j) h =
    let a = arity (row_of r).head in
    let q = whole-within edition count t (owed + a) (suc i) (unless-whole (row_fault edition count r) i (shape_from edition count t (owed + a) (suc i))
    e) j (omega arith) in
    omega arith

-- WHAT A SHAPE CHECK TELLS: the rows are one tree, and each row's tree ends within them
pub whole-closed : (edition count : ℕ) (t : List (List ℕ)) → shape edition count t ≡ Ok tt → Closed (map row_of t) (length t)
unfolding shape tree_at kids top size blank
whole-closed edition count t e =
    record { one = sym (first (trees (map row_of t))) ∙ whole-sizes edition count t 1 0 e; within = whole-within edition count t 1 0 e }
  where
    first : (ts : List Tree) → sizes (kids 1 ts) ≡ size (top ts)
    first [] = refl
    first (t ∷ ts) = omega arith

-- the same of a table of bytes
pub bytes-closed : (edition count : ℕ) (s : List ℕ) → shape edition count (row_table s) ≡ Ok tt → Closed (term_rows s) (length s / 8)
bytes-closed edition count s e = rw (row-table-length s) at (whole-closed edition count (row_table s) e)

-- Ends -----------------------------------------------------------------------------------------------------------

pub hop-on : (es : List ℕ) (at n m : ℕ) → n ≡ suc m → hop es at n ≡ hop es (get_or es at 0) m
unfolding hop
hop-on es at n m e = rw e refl

pub hops-on : (es : List ℕ) (at n m : ℕ) → n ≡ suc m → HopsIn es at n → (at < length es) × HopsIn es (get_or es at 0) m
unfolding HopsIn
hops-on es at zero m e h = absurd (omega arith)
hops-on es at (suc k) m e h = let q : k ≡ m = omega arith in subst (λ (x : ℕ). (at < length es) × HopsIn es (get_or es at 0) x) q h

pub hop-none : (es : List ℕ) (at n : ℕ) → n ≡ 0 → hop es at n ≡ at
unfolding hop
hop-none es at n e = rw e refl

pub size-some : (t : Tree) → 1 ≤ size t
unfolding size
size-some (node h ty f) = omega arith

-- the entries from row j on are right
abbrev pub EndsFrom : List Row → ℕ → ℕ → List ℕ → Type 0
EndsFrom l j rows es = (p : ℕ) → j ≤ p → p < rows → get_or es p 0 ≡ p + size (tree_at l p)

pub grove-none : (l : List Row) (at : ℕ) → sizes (grove l at 0) ≡ 0
unfolding grove kids size
grove-none l at = refl

pub grove-size : (l : List Row) (at n : ℕ) → sizes (grove l at (suc n)) ≡ size (tree_at l at) + sizes (grove l (at + size (tree_at l at)) n)
unfolding size
grove-size l at n = ap sizes (grove-more l at n)

module _ (l : List Row) (rows j : ℕ) (es : List ℕ) (right : EndsFrom l j rows es) where
  pub hop-ends : (at n : ℕ) → j ≤ at → at + sizes (grove l at n) ≤ rows → hop es at n ≡ at + sizes (grove l at n)
  unfolding hop
  hop-ends at zero g h = omega (arith, grove-none l at)
  hop-ends at (suc n) g h =
      let z = grove-size l at n in
      let e = right at g (omega (arith, size-some (tree_at l at))) in
      rw e (hop-ends (at + size (tree_at l at)) n (omega arith) (omega arith) ∙ omega arith)

  pub hops-ends : (at n : ℕ) → rows ≤ length es → j ≤ at → at + sizes (grove l at n) ≤ rows → HopsIn es at n
  unfolding HopsIn
  hops-ends at zero k g h = tt
  hops-ends at (suc n) k g h =
      let z = grove-size l at n in
      let e = right at g (omega (arith, size-some (tree_at l at))) in
      (omega (arith, size-some (tree_at l at)), rw e (hops-ends (at + size (tree_at l at)) n k (omega arith) (omega arith)))

  pub ends_set : (i v : ℕ) → j ≡ suc i → i < length es → v ≡ i + size (tree_at l i) → EndsFrom l i rows (set es i v)
  ends_set i v e h q p g b =
      elim (ℕ_discrete p i) [
        | yes k ↦ rw k (get_or-set_same es i v 0 h ∙ q)
        | no k ↦ get_or-set_other es i p v 0 k ∙ right p (omega arith) b
      ]

-- THE LINK at a table of bytes: the tree at row i is the row read there over the trees from the next row on
module _ (s : List ℕ) (i : ℕ) (r : List ℕ) (h : i < length s / 8) (e : r ≡ read term_row (drop (8 * i) s)) where
  pub row-in : (i < length (term_rows s)) × (get_or (term_rows s) i (row_of r) ≡ row_of r)
  row-in =
      let g = in_table s i r h e in
      (omega (arith, g.0, length-map (row_table s) row_of), get_or-map row_of (row_table s) i r ∙ ap row_of (row-table-at s i r (omega arith) ∙ sym e))

  pub tree-here : tree_at (term_rows s) i ≡ node (row_of r).head (row_of r).type (grove (term_rows s) (i + 1) (arity (row_of r).head))
  tree-here = tree-row (term_rows s) i (row_of r) (row_of r) row-in.0 row-in.1

  pub size-here : size (tree_at (term_rows s) i) ≡ 1 + sizes (grove (term_rows s) (i + 1) (arity (row_of r).head))
  unfolding size
  size-here = ap size tree-here ∙ omega arith

-- one row of a walk by the trees still owed
module _ (l : List Row) (i owed : ℕ) (z : owed ≡ 0 → ⊥) where
  pub owed-some : 1 ≤ sizes (grove l i owed)
  owed-some = go owed z
    where
      go : (k : ℕ) → (k ≡ 0 → ⊥) → 1 ≤ sizes (grove l i k)
      go zero n = absurd (n refl)
      go (suc k) n = omega (arith, grove-size l i k, size-some (tree_at l i))

  pub owed-step : (r : Row) → i < length l → get_or l i r ≡ r → i + sizes (grove l i owed) ≡ i + 1 + sizes (grove l (i + 1) (owed - 1 + arity r.head))
  unfolding grove trees kids size
  owed-step r h e = go owed z
    where
      go : (k : ℕ) → (k ≡ 0 → ⊥) → i + sizes (kids k (trees (drop i l))) ≡ i + 1 + sizes (kids (k - 1 + arity r.head) (trees (drop (i + 1) l)))
      go zero n = absurd (n refl)
      go (suc k) n =
          let q : suc k - 1 + arity r.head ≡ k + arity r.head = omega arith in
          let p : drop i l ≡ r ∷ drop (suc i) l = drop-cons l i r h ∙ ap (λ (x : Row). x ∷ drop (suc i) l) e in
          rw (add-one, p, q) (omega (arith, sizes-split (arity r.head) k (trees (drop (suc i) l))))
