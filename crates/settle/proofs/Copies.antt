-- Rows copied one behind the other, a tail written, and a row space settled. Assumes nothing.
use Prim.Native.Nat.{ℕ, ◌+◌, ◌*◌, ◌-◌, ◌/◌, ◌<◌, ◌≤◌}
use mathlib.Core.Path.{◌≡◌, refl, ap, sym, ◌∙◌}
use mathlib.Core.Bool.{true, false}
use mathlib.Core.List.{List, [], ◌∷◌, ◌++◌, append_assoc, append-nil}
use native.Mathlib.Omega.{arith}
use lib.ListN.{length, get_or, take, drop, replicate, length-append, length-drop, drop_of_length-le, take-append-drop}
use lib.Seq.{take_all, take_at, drop_at, take-take, drop-drop, drop-append-add, length-take-le}
use Rattle.meaning.specs.Bytes.{width, read, write, writes, term_row}
use Rattle.meaning.proofs.Bytes.Layouts.{AllBytes, bytes_take, bytes_drop, write_read, length-writes, writes_reads}
use Rattle.layout.specs.Rows.{row_table}
use Rattle.layout.proofs.Tables.{row-table-length, row-table-at, row-table-take, row-table-drop}
use Rattle.open.proofs.Lists.{drop-take}
use Rattle.open.proofs.Stored.{writes-append}
use Rattle.settle.specs.Settled.{is_due, settled, Stands}
use Rattle.settle.proofs.Rows.{more-due, more-other, settled-length}

-- X goes behind W
pushed : (W X w₀ w w' : List ℕ) (out n : ℕ) → length W ≡ out → w ≡ W ++ drop out w₀ → w' ≡ take out w ++ (X ++ drop (out + n) w) → w' ≡ (W ++ X) ++ drop (out + n) w₀
pushed W X w₀ w w' out n lw e f =
    let t : take out w ≡ W = ap (take out) e ∙ take_at W (drop out w₀) out lw in
    let d : drop (out + n) w ≡ drop (out + n) w₀ = ap (drop (out + n)) e ∙ rw (← lw) (drop-append-add W (drop (length W) w₀) n ∙ drop-drop n (length W) w₀) in
    f ∙ rw (t, d) (sym (append_assoc W X (drop (out + n) w₀)))

-- a table's bytes, and a row's
pub table-bytes : (v : List ℕ) → AllBytes v → length v ≡ 8 * (length v / 8) → writes term_row (row_table v) ≡ v
unfolding width
table-bytes v b e = writes_reads term_row (length v / 8) v b (omega arith) ∙ take_all (8 * (length v / 8)) v (omega arith)

row-bytes : (s : List ℕ) (i : ℕ) → AllBytes s → 8 * i + 8 ≤ length s → write term_row (read term_row (drop (8 * i) s)) ≡ take 8 (drop (8 * i) s)
unfolding width
row-bytes s i b h = write_read term_row (drop (8 * i) s) (bytes_drop (8 * i) s b) (rw length-drop (omega arith))

one-row : (r : List ℕ) → writes term_row (r ∷ []) ≡ write term_row r
unfolding writes
one-row r = append-nil (write term_row r)

pub bytes-of-rows : (rs : List (List ℕ)) (n : ℕ) → n ≡ 8 * length rs → length (writes term_row rs) ≡ n
unfolding width
bytes-of-rows rs n e = length-writes term_row rs ∙ sym e

module _ (k : ℕ) (vs l : List (List ℕ)) (i : ℕ) (d r : List ℕ) (h : i < length l) (q : get_or l i d ≡ r) (w₀ w w' : List ℕ) (out : ℕ) (oe : out ≡ 8 * length (settled k vs (take i l))) (we : w ≡ writes term_row (settled k vs (take i l)) ++ drop out w₀) where
  pub push-due : (value : List ℕ) (n : ℕ) → is_due k r ≡ true → writes term_row vs ≡ value → n ≡ length value → w' ≡ take out w ++ (take n (drop 0 value) ++ drop (out + n) w)
      → w' ≡ writes term_row (settled k vs (take (i + 1) l)) ++ drop (out + n) w₀
  push-due value n e f z g =
      let s = settled k vs (take i l) in
      let a : take n value ≡ value = take_all n value (omega arith) in
      pushed (writes term_row s) value w₀ w w' out n (bytes-of-rows s out oe) we (g ∙ ap (λ (x : List ℕ). take out w ++ (x ++ drop (out + n) w)) a)
      ∙ ap (λ (x : List ℕ). x ++ drop (out + n) w₀) (sym (ap (writes term_row) (more-due k vs l i d r h q e) ∙ writes-append term_row s vs ∙ ap (λ (x : List ℕ). writes term_row s ++ x) f))

  pub push-other : (rows : List ℕ) → AllBytes rows → 8 * i + 8 ≤ length rows → r ≡ read term_row (drop (8 * i) rows) → is_due k r ≡ false
      → w' ≡ take out w ++ (take 8 (drop (8 * i) rows) ++ drop (out + 8) w) → w' ≡ writes term_row (settled k vs (take (i + 1) l)) ++ drop (out + 8) w₀
  push-other rows b z re e g =
      let s = settled k vs (take i l) in
      pushed (writes term_row s) (take 8 (drop (8 * i) rows)) w₀ w w' out 8 (bytes-of-rows s out oe) we g
      ∙ ap (λ (x : List ℕ). x ++ drop (out + 8) w₀)
      (sym (ap (writes term_row) (more-other k vs l i d r h q e) ∙ writes-append term_row s (r ∷ []) ∙ ap (λ (x : List ℕ). writes term_row s ++ x) (one-row r ∙ ap (write term_row) re ∙ row-bytes rows i b z)))

-- One row for one row: the rows settled so far stand before the others, which are as they were
module _ (k : ℕ) (value rows₀ rows : List ℕ) (i : ℕ) (lv : length value ≡ 8) (h : 8 * i + 8 ≤ length rows₀) (we : rows ≡ writes term_row (settled k (row_table value) (take i (row_table rows₀))) ++ drop (8 * i) rows₀) where
  within : i < length (row_table rows₀)
  within = omega (arith, row-table-length rows₀)

  done-rows : 8 * i ≡ 8 * length (settled k (row_table value) (take i (row_table rows₀)))
  done-rows =
      let n : length (settled k (row_table value) (take i (row_table rows₀))) ≡ i =
      settled-length k (row_table value) (omega (arith, row-table-length value)) (take i (row_table rows₀)) ∙ length-take-le i (row_table rows₀) (omega (arith, within)) in
      omega (arith, n)

  pub same_rest : drop (8 * i) rows ≡ drop (8 * i) rows₀
  same_rest = ap (drop (8 * i)) we ∙ drop_at (writes term_row (settled k (row_table value) (take i (row_table rows₀)))) (drop (8 * i) rows₀) (8 * i) (bytes-of-rows _ (8 * i) done-rows)

  module _ (r : List ℕ) (re : r ≡ read term_row (drop (8 * i) rows)) where
    is_row : r ≡ read term_row (drop (8 * i) rows₀)
    is_row = re ∙ ap (read term_row) same_rest

    at_row : get_or (row_table rows₀) i [] ≡ r
    at_row = row-table-at rows₀ i [] (omega arith) ∙ sym is_row

    next_row : 8 * i + 8 ≡ 8 * (i + 1)
    next_row = omega arith

    pub each-due : AllBytes value → is_due k r ≡ true → (rows' : List ℕ) → rows' ≡ take (8 * i) rows ++ (take 8 (drop 0 value) ++ drop (8 * i + 8) rows)
        → rows' ≡ writes term_row (settled k (row_table value) (take (i + 1) (row_table rows₀))) ++ drop (8 * (i + 1)) rows₀
    each-due b e rows' g =
        push-due k (row_table value) (row_table rows₀) i [] r within at_row rows₀ rows rows' (8 * i) done-rows we value 8 e (table-bytes value b (omega arith)) (sym lv) g
        ∙ ap (λ (n : ℕ). writes term_row (settled k (row_table value) (take (i + 1) (row_table rows₀))) ++ drop n rows₀) next_row

    -- a row that stands where it is to go
    pub each-other : AllBytes rows₀ → is_due k r ≡ false → rows ≡ writes term_row (settled k (row_table value) (take (i + 1) (row_table rows₀))) ++ drop (8 * (i + 1)) rows₀
    each-other b e =
        let stands : rows ≡ take (8 * i) rows ++ (take 8 (drop (8 * i) rows₀) ++ drop (8 * i + 8) rows) =
        sym (take-append-drop (8 * i) rows) ∙ ap (λ (x : List ℕ). take (8 * i) rows ++ x) (sym (take-append-drop 8 (drop (8 * i) rows)) ∙ rw (drop-drop 8 (8 * i) rows, same_rest) refl) in
        push-other k (row_table value) (row_table rows₀) i [] r within at_row rows₀ rows rows (8 * i) done-rows we rows₀ b h is_row e stands
        ∙ ap (λ (n : ℕ). writes term_row (settled k (row_table value) (take (i + 1) (row_table rows₀))) ++ drop n rows₀) next_row

pub all-cleared : (d b : List ℕ) (n : ℕ) → length d ≡ n → b ≡ take 0 d ++ (replicate (n - 0) 0 ++ drop n d) → b ≡ replicate n 0
all-cleared d b n h e = let z : n - 0 ≡ n = omega arith in e ∙ rw (z, drop_of_length-le d {i = n} (omega arith)) (append-nil (replicate n 0))

-- A row space ----------------------------------------------------------------------------------------------------

module _ (s : List ℕ) (u f k : ℕ) (vs : List (List ℕ)) (h : u ≤ length s) (whole : u ≡ 8 * (u / 8)) (st : Stands k (row_table (take u s)) f) where
  used-length : length (take u s) ≡ u
  used-length = length-take-le u s h

  pub first-within : 8 * f ≤ u
  first-within = omega (arith, st.within, row-table-length (take u s), used-length)

  -- the rows from the first future on
  pub rest-rows : row_table (take (u - 8 * f) (drop (8 * f) s)) ≡ drop f (row_table (take u s))
  rest-rows =
      ap (λ (x : List ℕ). row_table x) (sym (drop-take (8 * f) u s)) ∙ row-table-drop (take u s) f (omega (arith, first-within, used-length))

  front-rows : AllBytes s → writes term_row (take f (row_table (take u s))) ≡ take (8 * f) s
  front-rows b =
      let g = first-within in
      let l : length (take (8 * f) s) ≡ 8 * f = length-take-le (8 * f) s (omega arith) in
      ap (writes term_row) (sym (row-table-take (take u s) f (omega (arith, used-length))) ∙ ap (λ (x : List ℕ). row_table x) (take-take (8 * f) u s g))
      ∙ table-bytes (take (8 * f) s) (bytes_take (8 * f) s b) (omega arith)

  module _ (x : List (List ℕ)) (xe : x ≡ settled k vs (row_table (take (u - 8 * f) (drop (8 * f) s)))) where
    whole-rows : settled k vs (row_table (take u s)) ≡ take f (row_table (take u s)) ++ x
    whole-rows = st.same vs ∙ ap (λ (y : List (List ℕ)). take f (row_table (take u s)) ++ y) (ap (settled k vs) (sym rest-rows) ∙ sym xe)

    pub rows-count : f + length x ≡ length (settled k vs (row_table (take u s)))
    rows-count =
        let g : length (take f (row_table (take u s))) ≡ f = length-take-le f (row_table (take u s)) st.within in
        sym (ap length whole-rows ∙ length-append (take f (row_table (take u s))) x ∙ ap (λ (n : ℕ). n + length x) g)

    -- the tail t is lent, and the rows x copied there from the work buffer
    pub space-settled : AllBytes s → (w₀ w₁ t y : List ℕ) (n : ℕ) → n ≡ 8 * length x → 8 * f ≤ length s → w₁ ≡ writes term_row x ++ drop n w₀ → y ≡ take 0 t ++ (take n (drop 0 w₁) ++ drop (0 + n) t)
        → take (8 * (f + n / 8)) (take (8 * f) s ++ (y ++ drop (length s - 8 * f) (drop (8 * f) s))) ≡ writes term_row (settled k vs (row_table (take u s)))
    space-settled b w₀ w₁ t y n ne g we ye =
        let d = drop (length s - 8 * f) (drop (8 * f) s) in
        let xb = writes term_row x in
        let xl : length xb ≡ n = bytes-of-rows x n ne in
        let a : take n w₁ ≡ xb = ap (take n) we ∙ take_at xb (drop n w₀) n xl in
        let z : 0 + n ≡ n = omega arith in
        let q : y ≡ xb ++ drop n t = ye ∙ rw (z, a) refl in
        let w : writes term_row (settled k vs (row_table (take u s))) ≡ take (8 * f) s ++ xb =
        ap (writes term_row) whole-rows ∙ writes-append term_row (take f (row_table (take u s))) x ∙ ap (λ (v : List ℕ). v ++ xb) (front-rows b) in
        let l : length (take (8 * f) s ++ xb) ≡ 8 * (f + n / 8) = length-append (take (8 * f) s) xb ∙ omega (arith, length-take-le (8 * f) s g) in
        ap (take (8 * (f + n / 8)))
        (ap (λ (v : List ℕ). take (8 * f) s ++ (v ++ d)) q
        ∙ ap (λ (v : List ℕ). take (8 * f) s ++ v) (append_assoc xb (drop n t) d)
        ∙ sym (append_assoc (take (8 * f) s) xb (drop n t ++ d)))
        ∙ take_at (take (8 * f) s ++ xb) (drop n t ++ d) (8 * (f + n / 8)) l
        ∙ sym w

-- a part that comes back is as long as it was
pub mid-length : (b y : List ℕ) (p q : ℕ) → p + q ≤ length b → length y ≡ q → length (take p b ++ (y ++ drop q (drop p b))) ≡ length b
mid-length b y p q h e =
    length-append (take p b) (y ++ drop q (drop p b))
    ∙ omega (arith, length-append y (drop q (drop p b)), length-take-le p b (omega arith), length-drop q (drop p b), length-drop p b)
