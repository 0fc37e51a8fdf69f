-- Tables of rows in slices: parts of a table, and rows that are copied behind others. Assumes nothing.
use Prim.Native.Nat.{ℕ, zero, suc, ◌+◌, ◌*◌, ◌-◌, ◌/◌, ◌≤◌, ◌<◌}
use mathlib.Core.Path.{◌≡◌, refl, ap, sym, ◌∙◌}
use mathlib.Core.List.{List, [], ◌∷◌, ◌++◌, map}
use native.Mathlib.Omega.{arith}
use lib.ListN.{length, get_or, take, drop, length-take, length-append, length-drop, length-map}
use lib.Seq.{drop-drop, take-append-le, drop-append-le, take_at, drop_at, take-take, take-nil, take_all, get_or-append_seam}
use Rattle.meaning.specs.Bytes.{Layout, width, read, reads, term_row}
use Rattle.meaning.specs.Terms.{Row, raw, row_of, tree_of, tree_at}
use Rattle.layout.proofs.Tables.{reads-split, reads-front, term-width}
use Rattle.meaning.proofs.Bytes.Layouts.{number-take, length-reads, reads_at}
use Rattle.meaning.proofs.Bytes.RowTables.{row-raw}
use Rattle.meaning.proofs.Trees.Parse.{tree-at-zero}
use Rattle.layout.specs.Rows.{row_table, term_rows}
use Rattle.search.specs.Kept.{table, row_count, to_come, tree_here, copied}

pub drop-take : (w n : ℕ) (s : List ℕ) → drop w (take (w + n) s) ≡ take n (drop w s)
drop-take zero n s = let e : 0 + n ≡ n = omega arith in rw e refl
drop-take (suc w) n [] = let e : suc w + n ≡ suc (w + n) = omega arith in rw e (sym (take-nil {A = ℕ} n))
drop-take (suc w) n (x ∷ s) = let e : suc w + n ≡ suc (w + n) = omega arith in rw e (drop-take w n s)

-- a row, and a table, by the bytes that it has
read_take : (l : Layout) (n : ℕ) (s : List ℕ) → width l ≤ n → read l (take n s) ≡ read l s
unfolding read width
read_take [] n s h = refl
read_take (w ∷ l) n s h =
    let e : n ≡ w + (n - w) = omega arith in
    let q = number-take w n s (omega arith) in
    let d : drop w (take n s) ≡ take (n - w) (drop w s) = ap (λ (x : ℕ). drop w (take x s)) e ∙ drop-take w (n - w) s in
    rw (q, d, read_take l (n - w) (drop w s) (omega arith)) refl

pub reads-take : (l : Layout) (n k : ℕ) (s : List ℕ) → width l * n ≤ k → reads l n (take k s) ≡ reads l n s
unfolding reads
reads-take l zero k s h = refl
reads-take l (suc n) k s h =
    let e : k ≡ width l + (k - width l) = omega arith in
    let d : drop (width l) (take k s) ≡ take (k - width l) (drop (width l) s) = ap (λ (x : ℕ). drop (width l) (take x s)) e ∙ drop-take (width l) (k - width l) s in
    rw (read_take l k s (omega arith), d, reads-take l n (k - width l) (drop (width l) s) (omega arith)) refl

pub map-append : {A B : Type 0} (f : A → B) (a b : List A) → map f (a ++ b) ≡ map f a ++ map f b
map-append f [] b = refl
map-append f (x ∷ a) b = ap (λ l. f x ∷ l) (map-append f a b)

pub table-length : (s : List ℕ) (at n : ℕ) → length (table s at n) ≡ n
unfolding table
table-length s at n = length-reads term_row n (drop at s)

-- a table is its first rows and the others
pub table-split : (s : List ℕ) (at a b : ℕ) → table s at (a + b) ≡ table s at a ++ table s (at + 8 * a) b
unfolding table width
table-split s at a b =
    reads-split term_row a b (drop at s) ∙ ap (λ (y : List ℕ). reads term_row a (drop at s) ++ reads term_row b y) (drop-drop (8 * a) at s)

-- and tells of no bytes but its own
pub table_same : (s t : List ℕ) (p q n : ℕ) → take (8 * n) (drop p s) ≡ take (8 * n) (drop q t) → table s p n ≡ table t q n
unfolding table width
table_same s t p q n e = sym (reads-take term_row n (8 * n) (drop p s) (omega arith)) ∙ ap (reads term_row n) e ∙ reads-take term_row n (8 * n) (drop q t) (omega arith)

-- rows that stand in a table: the first, and those behind them
module _ (s : List ℕ) (at m : ℕ) (A B : List Row) (q : table s at m ≡ map raw (A ++ B)) where
  long : m ≡ length A + (m - length A)
  long = omega (arith, sym (table-length s at m) ∙ ap length q ∙ length-map (A ++ B) raw ∙ length-append A B)

  both : table s at (length A) ++ table s (at + 8 * length A) (m - length A) ≡ map raw A ++ map raw B
  both = sym (table-split s at (length A) (m - length A)) ∙ ap (table s at) (sym long) ∙ q ∙ map-append raw A B

  pub first_rows : table s at (length A) ≡ map raw A
  first_rows =
      sym (take_at (table s at (length A)) _ (length A) (table-length s at (length A)))
      ∙ ap (take (length A)) both ∙ take_at (map raw A) (map raw B) (length A) (length-map A raw)

  pub later_rows : table s (at + 8 * length A) (m - length A) ≡ map raw B
  later_rows =
      sym (drop_at (table s at (length A)) _ (length A) (table-length s at (length A)))
      ∙ ap (drop (length A)) both ∙ drop_at (map raw A) (map raw B) (length A) (length-map A raw)

-- the row behind some rows of a table
pub row-behind : (s : List ℕ) (at m p : ℕ) (A B : List Row) (x : Row) → p ≡ at + 8 * length A → table s at m ≡ map raw (A ++ (x ∷ B)) → read term_row (drop p s) ≡ raw x
unfolding table width
row-behind s at m p A B x pe e =
    let h : length A < m = omega (arith, sym (table-length s at m) ∙ ap length e ∙ length-map (A ++ (x ∷ B)) raw ∙ length-append A (x ∷ B)) in
    ap (λ (i : ℕ). read term_row (drop i s)) pe
    ∙ ap (read term_row) (sym (drop-drop (8 * length A) at s))
    ∙ sym (reads_at term_row m (length A) (drop at s) [] h)
    ∙ ap (λ (l : List (List ℕ)). get_or l (length A) []) (e ∙ map-append raw A (x ∷ B))
    ∙ ap (λ (i : ℕ). get_or (map raw A ++ (raw x ∷ map raw B)) i []) (sym (length-map A raw))
    ∙ get_or-append_seam (map raw A) (raw x) (map raw B) []

pub row-of-behind : (s : List ℕ) (at m p : ℕ) (A B : List Row) (x : Row) → p ≡ at + 8 * length A → table s at m ≡ map raw (A ++ (x ∷ B)) → row_of (read term_row (drop p s)) ≡ x
row-of-behind s at m p A B x pe e = ap row_of (row-behind s at m p A B x pe e) ∙ row-raw x

pub one-row : (s : List ℕ) (l : ℕ) (x : Row) → read term_row (drop (8 * l) s) ≡ raw x → table s (8 * l) 1 ≡ raw x ∷ []
unfolding table reads
one-row s l x e = ap (λ (r : List ℕ). r ∷ []) e

-- what is copied to place p of a list: what stands before it, there, and behind it
module _ (d y x : List ℕ) (p n : ℕ) (e : x ≡ take p d ++ (y ++ drop (p + n) d)) (h : p + n ≤ length d) (ly : length y ≡ n) where
  lp : length (take p d) ≡ p
  lp = length-take p d ∙ omega arith

  pub pasted_length : length x ≡ length d
  pasted_length = ap length e ∙ simp (length-append, length-take, length-drop) (omega arith)

  pub pasted-before : (q m : ℕ) → q + m ≤ p → take m (drop q x) ≡ take m (drop q d)
  pasted-before q m k =
      let c = y ++ drop (p + n) d in
      let z : p ≡ q + (p - q) = omega arith in
      ap (λ (l : List ℕ). take m (drop q l)) e
      ∙ ap (take m) (drop-append-le q (take p d) c (omega (arith, lp)) ∙ ap (λ (l : List ℕ). l ++ c) (ap (λ (i : ℕ). drop q (take i d)) z ∙ drop-take q (p - q) d))
      ∙ take-append-le m (take (p - q) (drop q d)) c (simp (length-take, length-drop) (omega arith))
      ∙ take-take m (p - q) (drop q d) (omega arith)

  pub pasted-there : drop p x ≡ y ++ drop (p + n) d
  pasted-there = ap (drop p) e ∙ drop_at (take p d) (y ++ drop (p + n) d) p lp

  pub pasted-behind : (q : ℕ) → p + n ≤ q → drop q x ≡ drop q d
  pasted-behind q k =
      let z : q ≡ p + (n + (q - (p + n))) = omega arith in
      let w : p + n + (q - (p + n)) ≡ q = omega arith in
      ap (λ (i : ℕ). drop i x) z ∙ sym (drop-drop (n + (q - (p + n))) p x) ∙ ap (drop (n + (q - (p + n)))) pasted-there
      ∙ sym (drop-drop (q - (p + n)) n (y ++ drop (p + n) d)) ∙ ap (drop (q - (p + n))) (drop_at y (drop (p + n) d) n ly)
      ∙ drop-drop (q - (p + n)) (p + n) d ∙ ap (λ (i : ℕ). drop i d) w

-- THE ROWS COPIED stand behind those that stood
module _ (d s x : List ℕ) (l r n : ℕ) (h : 8 * l + 8 * n ≤ length d) (k : 8 * r + 8 * n ≤ length s) (e : x ≡ copied d l s r n) where
  some-long : length (take (8 * n) (drop (8 * r) s)) ≡ 8 * n
  some-long = simp (length-take, length-drop) (omega arith)

  pub copied-length : length x ≡ length d
  unfolding copied
  copied-length = pasted_length d (take (8 * n) (drop (8 * r) s)) x (8 * l) (8 * n) e h some-long

  pub table-copied : table x 0 (l + n) ≡ table d 0 l ++ table s (8 * r) n
  unfolding copied
  table-copied =
      let y = take (8 * n) (drop (8 * r) s) in
      let z : 0 + 8 * l ≡ 8 * l = omega arith in
      let there = pasted-there d y x (8 * l) (8 * n) e h some-long in
      table-split x 0 l n
      ∙ cc (
        table_same x d 0 0 l (pasted-before d y x (8 * l) (8 * n) e h some-long 0 (8 * l) (omega arith)),
        ap (λ (i : ℕ). table x i n) z,
        table_same x s (8 * l) (8 * r) n (ap (take (8 * n)) there ∙ take_at y (drop (8 * l + 8 * n) d) (8 * n) some-long),
      )

-- ROWS WRITTEN BEFORE the rows to come are rows to come
module _ (d y x : List ℕ) (r n : ℕ) (e : x ≡ take (8 * r) d ++ (y ++ drop (8 * r + 8 * n) d)) (h : 8 * r + 8 * n ≤ length d) (ly : length y ≡ 8 * n) where
  pub rows_written : table x (8 * r) n ≡ reads term_row n y
  unfolding table
  rows_written = ap (reads term_row n) (pasted-there d y x (8 * r) (8 * n) e h ly) ∙ reads-front term_row n y (drop (8 * r + 8 * n) d) (rw term-width (omega arith))

  rows_behind : (m : ℕ) → table x (8 * r + 8 * n) m ≡ table d (8 * (r + n)) m
  unfolding table
  rows_behind m =
      let p : 8 * r + 8 * n ≡ 8 * (r + n) = omega arith in
      ap (reads term_row m) (pasted-behind d y x (8 * r) (8 * n) e h ly (8 * r + 8 * n) (omega arith)) ∙ ap (λ (i : ℕ). reads term_row m (drop i d)) p

  pub rows_before_lem : (A B : List Row) → reads term_row n y ≡ map raw A → to_come d (r + n) ≡ map raw B → to_come x r ≡ map raw (A ++ B)
  unfolding to_come
  rows_before_lem A B a b =
      let same : row_count x ≡ row_count d = ap (λ (i : ℕ). i / 8) (pasted_length d y x (8 * r) (8 * n) e h ly) in
      let m : row_count d - r ≡ n + (row_count d - (r + n)) = omega arith in
      ap (λ (i : ℕ). table x (8 * r) (i - r)) same ∙ ap (table x (8 * r)) m ∙ table-split x (8 * r) n (row_count d - (r + n))
      ∙ cc (rows_written ∙ a, rows_behind (row_count d - (r + n)) ∙ b) ∙ sym (map-append raw A B)

-- THE ROWS TO COME as they are lent
module _ (right x : List ℕ) (r : ℕ) (h : 8 * r ≤ length right) (e : x ≡ take (length right - 8 * r) (drop (8 * r) right)) where
  pub lent-rest : x ≡ drop (8 * r) right
  lent-rest = e ∙ take_all (length right - 8 * r) (drop (8 * r) right) (rw length-drop (omega arith))

  pub lent_length : length x ≡ length right - 8 * r
  lent_length = ap length lent-rest ∙ length-drop (8 * r) right

  pub lent_rows : row_table x ≡ to_come right r
  unfolding to_come table
  lent_rows =
      let n : length x / 8 ≡ row_count right - r = omega (arith, lent_length) in
      cc (n, lent-rest)

  pub lent-tree : tree_at (term_rows x) 0 ≡ tree_here right r
  unfolding tree_here
  lent-tree = tree-at-zero (term_rows x) ∙ ap (λ (l : List (List ℕ)). tree_of (map row_of l)) lent_rows
