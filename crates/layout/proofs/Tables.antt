-- Tables of rows in lent bytes: how many rows, each row, parts of a table, one table behind another, a row written. Assumes nothing.
use Prim.Native.Nat.{ℕ, zero, suc, ◌+◌, ◌*◌, ◌/◌, ◌≤◌}
use mathlib.Core.Path.{◌≡◌, refl, ap, sym, ◌∙◌}
use mathlib.Core.List.{List, [], ◌∷◌, ◌++◌, append_assoc, append-nil}
use native.Mathlib.Omega.{arith}
use native.Mathlib.Nat.{suc-add, zero-add}
use native.Mathlib.Numerals.{towards_suc}
use lib.ListN.{length, get_or, take, drop, set, length-append, length-drop, take-append-drop}
use lib.Seq.{drop-cons, drop-drop, drop-append-le, take_at, drop_at, length-take-le, set_split, sets, sets-eq}
use Rattle.meaning.specs.Bytes.{Layout, number, width, read, write, reads, type_row, term_row}
use Rattle.meaning.proofs.Bytes.Layouts.{Fits, length-reads, reads_at, length-write, read-write}
use Rattle.layout.specs.Rows.{type_table, row_table}

-- Rows of any layout ---------------------------------------------------------------------------------------------

number_append : (w : ℕ) (s t : List ℕ) → w ≤ length s → number w (s ++ t) ≡ number w s
unfolding number
number_append zero s t h = refl
number_append (suc w) [] t h = absurd (omega arith)
number_append (suc w) (b ∷ s) t h = ap (λ (x : ℕ). b + 256 * x) (number_append w s t (omega arith))

-- what stands behind a row, and behind a table, is not read
read-front : (l : Layout) (s t : List ℕ) → width l ≤ length s → read l (s ++ t) ≡ read l s
unfolding read width
read-front [] s t h = refl
read-front (w ∷ l) s t h =
    rw (number_append w s t (omega arith), drop-append-le w s t (omega arith), read-front l (drop w s) t (rw length-drop (omega arith))) refl

pub reads-front : (l : Layout) (n : ℕ) (s t : List ℕ) → width l * n ≤ length s → reads l n (s ++ t) ≡ reads l n s
unfolding reads
reads-front l zero s t h = refl
reads-front l (suc n) s t h =
    rw (read-front l s t (omega arith), drop-append-le (width l) s t (omega arith), reads-front l n (drop (width l) s) t (rw length-drop (omega arith))) refl

-- a table's first rows, and the rows behind them
pub reads-split : (l : Layout) (n m : ℕ) (s : List ℕ) → reads l (n + m) s ≡ reads l n s ++ reads l m (drop (width l * n) s)
unfolding reads
reads-split l zero m s = let e : width l * 0 ≡ 0 = omega arith in rw (zero-add m, e) refl
reads-split l (suc n) m s =
    let e : width l + width l * n ≡ width l * suc n = omega arith in
    rw (suc-add n m, reads-split l n m (drop (width l) s), drop-drop (width l * n) (width l) s, e) refl

pub reads-cut : (l : Layout) (n k : ℕ) (s : List ℕ) → width l * n ≤ k → k ≤ length s → reads l n (take k s) ≡ reads l n s
reads-cut l n k s h g =
    sym (reads-front l n (take k s) (drop k s) (omega (arith, length-take-le k s g))) ∙ ap (reads l n) (take-append-drop k s)

-- Term rows ------------------------------------------------------------------------------------------------------

pub term-width : width term_row ≡ 8
unfolding width
term-width = refl

pub row-table-length : (s : List ℕ) → length (row_table s) ≡ length s / 8
row-table-length s = length-reads term_row (length s / 8) s

pub row-table-at : (s : List ℕ) (i : ℕ) (d : List ℕ) → 8 * i + 8 ≤ length s → get_or (row_table s) i d ≡ read term_row (drop (8 * i) s)
unfolding width
row-table-at s i d h = reads_at term_row (length s / 8) i s d (omega arith)

-- a table cut out of other bytes
pub row-table-cut : (s : List ℕ) (base n k : ℕ) → k ≡ 8 * n → base + k ≤ length s → row_table (take k (drop base s)) ≡ reads term_row n (drop base s)
row-table-cut s base n k e h =
    let g : k ≤ length (drop base s) = rw length-drop (omega arith) in
    let q : length (take k (drop base s)) / 8 ≡ n = omega (arith, length-take-le k (drop base s) g) in
    rw q (reads-cut term_row n k (drop base s) (rw term-width (omega arith)) g)

-- one table behind another
pub row-table-append : (s t : List ℕ) (n : ℕ) → length s ≡ 8 * n → row_table (s ++ t) ≡ row_table s ++ row_table t
row-table-append s t n e =
    let a : length (s ++ t) / 8 ≡ n + length t / 8 = omega (arith, length-append s t) in
    let b : length s / 8 ≡ n = omega arith in
    let c : length s ≡ width term_row * n = rw term-width e in
    rw (a, b) (reads-split term_row n (length t / 8) (s ++ t) ∙ rw (reads-front term_row n s t (omega arith), drop_at s t (width term_row * n) c) refl)

-- the first n rows, and the rows behind them
module _ (s : List ℕ) (n : ℕ) (h : 8 * n ≤ length s) where
  row-table-parts : row_table s ≡ row_table (take (8 * n) s) ++ row_table (drop (8 * n) s)
  row-table-parts =
      ap (λ (x : List ℕ). row_table x) (sym (take-append-drop (8 * n) s)) ∙ row-table-append (take (8 * n) s) (drop (8 * n) s) n (length-take-le (8 * n) s h)

  first_rows : length (row_table (take (8 * n) s)) ≡ n
  first_rows = omega (arith, row-table-length (take (8 * n) s), length-take-le (8 * n) s h)

  pub row-table-take : row_table (take (8 * n) s) ≡ take n (row_table s)
  row-table-take = sym (ap (take n) row-table-parts ∙ take_at (row_table (take (8 * n) s)) (row_table (drop (8 * n) s)) n first_rows)

  pub row-table-drop : row_table (drop (8 * n) s) ≡ drop n (row_table s)
  row-table-drop = sym (ap (drop n) row-table-parts ∙ drop_at (row_table (take (8 * n) s)) (row_table (drop (8 * n) s)) n first_rows)

-- a row written
one-row : (r : List ℕ) → Fits term_row r → row_table (write term_row r) ≡ r ∷ []
unfolding reads
one-row r f =
    let q : length (write term_row r) / 8 ≡ 1 = omega (arith, length-write term_row r, term-width) in
    rw q (ap (λ (x : List ℕ). x ∷ []) (ap (read term_row) (sym (append-nil (write term_row r))) ∙ read-write term_row r [] f))

pub row-table-put : (s : List ℕ) (i : ℕ) (r : List ℕ) → 8 * i + 8 ≤ length s → Fits term_row r → row_table (sets s (8 * i) (write term_row r)) ≡ set (row_table s) i r
row-table-put s i r h f =
    let w : length (write term_row r) ≡ 8 = length-write term_row r ∙ term-width in
    let e : 8 * i + length (write term_row r) ≡ 8 * suc i = omega arith in
    let front = take (8 * i) s in
    let back = drop (8 * suc i) s in
    let k : length front ≡ 8 * i = length-take-le (8 * i) s (omega arith) in
    let j : length (front ++ write term_row r) ≡ 8 * suc i = omega (arith, length-append front (write term_row r)) in
    ap (λ (x : List ℕ). row_table x) (sets-eq (write term_row r) s (8 * i) (omega arith) ∙ ap (λ (x : ℕ). front ++ write term_row r ++ drop x s) e)
    ∙ row-table-append (front ++ write term_row r) back (suc i) j
    ∙ ap (λ (x : List (List ℕ)). x ++ row_table back) (row-table-append front (write term_row r) i k)
    ∙ rw (one-row r f, row-table-take s i (omega arith), row-table-drop s (suc i) (omega arith))
    (append_assoc (take i (row_table s)) (r ∷ []) (drop (suc i) (row_table s)))
    ∙ sym (set_split (row_table s) i r (omega (arith, row-table-length s)))

-- Types ----------------------------------------------------------------------------------------------------------

pub type-width : width type_row ≡ 36
unfolding width
type-width = refl

pub type-table-length : (s : List ℕ) → length (type_table s) ≡ length s / 36
type-table-length s = length-reads type_row (length s / 36) s

pub type-table-at : (s : List ℕ) (t : ℕ) (d : List ℕ) → 36 * t + 36 ≤ length s → get_or (type_table s) t d ≡ read type_row (drop (36 * t) s)
unfolding width
type-table-at s t d h = reads_at type_row (length s / 36) t s d (omega arith)

pub type-table-cut : (s : List ℕ) (base n k : ℕ) → k ≡ 36 * n → base + k ≤ length s → type_table (take k (drop base s)) ≡ reads type_row n (drop base s)
type-table-cut s base n k e h =
    let g : k ≤ length (drop base s) = rw length-drop (omega arith) in
    let q : length (take k (drop base s)) / 36 ≡ n = omega (arith, length-take-le k (drop base s) g) in
    rw q (reads-cut type_row n k (drop base s) (rw type-width (omega arith)) g)

-- A row copied byte by byte ------------------------------------------------------------------------------------------

abbrev bytes_from : List ℕ → ℕ → ℕ → List ℕ
bytes_from s from zero = []
bytes_from s from (suc n) = get_or s from 0 ∷ bytes_from s (suc from) n

taken-bytes : (n : ℕ) (s : List ℕ) (from : ℕ) → from + n ≤ length s → take n (drop from s) ≡ bytes_from s from n
taken-bytes zero s from h = refl
taken-bytes (suc n) s from h = rw (drop-cons s from 0 (omega arith)) (ap (λ (r : List ℕ). get_or s from 0 ∷ r) (taken-bytes n s (suc from) (omega arith)))

pub row-stored : (d s : List ℕ) (at from : ℕ) → at + 8 ≤ length d → from + 8 ≤ length s
    → set (set (set (set (set (set (set (set d at (get_or s from 0)) (at + 1) (get_or s (from + 1) 0)) (at + 2) (get_or s (from + 2) 0)) (at + 3) (get_or s (from + 3) 0)) (at + 4) (get_or s (from + 4) 0)) (at + 5) (get_or s (from + 5) 0)) (at + 6) (get_or s (from + 6) 0)) (at + 7) (get_or s (from + 7) 0)
    ≡ take at d ++ (take 8 (drop from s) ++ drop (at + 8) d)
row-stored d s at from h g = stored ∙ sets-eq (bytes_from s from 8) d at h ∙ rw (taken-bytes 8 s from g, append_assoc)
  where
    stored : set (set (set (set (set (set (set (set d at (get_or s from 0)) (at + 1) (get_or s (from + 1) 0)) (at + 2) (get_or s (from + 2) 0)) (at + 3) (get_or s (from + 3) 0)) (at + 4) (get_or s (from + 4) 0)) (at + 5) (get_or s (from + 5) 0)) (at + 6) (get_or s (from + 6) 0)) (at + 7) (get_or s (from + 7) 0) ≡ sets d at (bytes_from s from 8)
    stored = simp towards_suc
