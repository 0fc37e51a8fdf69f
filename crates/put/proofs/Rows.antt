-- Rows copied from one table to another, and a row written. Assumes nothing.
use Prim.Native.Nat.{ℕ, ◌+◌, ◌*◌, ◌≤◌, ◌<◌, ◌%◌}
use mathlib.Core.Path.{◌≡◌, refl, ap, sym, ◌∙◌}
use mathlib.Core.List.{List, [], ◌∷◌, ◌++◌}
use native.Mathlib.Omega.{arith}
use native.Mathlib.Numerals.{add-one}
use lib.ListN.{length, get_or, take, drop, set, length-drop}
use lib.Seq.{sets, length-take-le}
use Rattle.meaning.specs.Bytes.{read, write, spell, term_row}
use Rattle.meaning.proofs.Bytes.Layouts.{Fits, pow256}
use Rattle.layout.specs.Rows.{row_table}
use Rattle.layout.proofs.Laws.{three-runs}
use Rattle.layout.proofs.Tables.{row-table-append, row-table-take, row-table-drop, row-table-put, row-table-at, row-table-length}

-- a row that is read is the table's
pub row_read : (s : List ℕ) (i : ℕ) (r : List ℕ) → i < length (row_table s) → r ≡ read term_row (drop (8 * i) s) → get_or (row_table s) i [] ≡ r
row_read s i r h e = row-table-at s i [] (omega (arith, row-table-length s)) ∙ sym e

pub row-in : (s : List ℕ) (i : ℕ) → i < length (row_table s) → 8 * i + 8 ≤ length s
row-in s i h = omega (arith, row-table-length s)

pub copied-rows : (to rows x : List ℕ) (at from n : ℕ) → 8 * at + 8 * n ≤ length to → 8 * from + 8 * n ≤ length rows
    → x ≡ take (8 * at) to ++ (take (8 * n) (drop (8 * from) rows) ++ drop (8 * at + 8 * n) to)
    → row_table x ≡ take at (row_table to) ++ (take n (drop from (row_table rows)) ++ drop (at + n) (row_table to))
copied-rows to rows x at from n h k e =
    let A = take (8 * at) to in
    let B = take (8 * n) (drop (8 * from) rows) in
    let C = drop (8 * at + 8 * n) to in
    let z : 8 * at + 8 * n ≡ 8 * (at + n) = omega arith in
    let la : length A ≡ 8 * at = length-take-le (8 * at) to (omega arith) in
    let lb : length B ≡ 8 * n = length-take-le (8 * n) (drop (8 * from) rows) (rw length-drop (omega arith)) in
    let b : row_table B ≡ take n (drop from (row_table rows)) = row-table-take (drop (8 * from) rows) n (rw length-drop (omega arith)) ∙ ap (take n) (row-table-drop rows from (omega arith)) in
    let c : row_table C ≡ drop (at + n) (row_table to) = ap (λ (y : ℕ). row_table (drop y to)) z ∙ row-table-drop to (at + n) (omega arith) in
    ap (λ (y : List ℕ). row_table y) e
    ∙ row-table-append A (B ++ C) at la
    ∙ ap (λ (y : List (List ℕ)). row_table A ++ y) (row-table-append B C n lb)
    ∙ cc (row-table-take to at (omega arith), b, c)

fields : (k n ty w : ℕ) → k < 256 → n < 256 → ty < 65536 → w < 4294967296 → Fits term_row (k ∷ n ∷ ty ∷ w ∷ [])
unfolding Fits pow256
fields k n ty w a b c d = (omega arith, (omega arith, (omega arith, (omega arith, tt))))

-- a row written field by field
pub row_written : (to a x : List ℕ) (i k n ty w : ℕ) → 8 * i + 8 ≤ length to → k < 256 → n < 256 → ty < 65536 → w < 4294967296
    → a ≡ sets (set (set to (8 * i) k) (8 * i + 1) n) (8 * i + 2) (spell 2 ty) → x ≡ sets a (8 * i + 4) (spell 4 w) → row_table x ≡ set (row_table to) i (k ∷ n ∷ ty ∷ w ∷ [])
unfolding spell write
row_written to a x i k n ty w room hk hn ht hw p q =
    let ns = k ∷ n ∷ ty ∷ w ∷ [] in
    let at = 8 * i in
    let ek : k % 256 ≡ k = omega arith in
    let en : n % 256 ≡ n = omega arith in
    let s : set (set to at k) (at + 1) n ≡ sets to at (k ∷ n ∷ []) = rw (add-one at) refl in
    let r : x ≡ sets to at ((k ∷ n ∷ []) ++ (spell 2 ty ++ spell 4 w)) = three-runs at (at + 2) (at + 4) (k ∷ n ∷ []) (spell 2 ty) (spell 4 w) to (set (set to at k) (at + 1) n) a x s p q refl (omega arith) in
    let v : (k ∷ n ∷ []) ++ (spell 2 ty ++ spell 4 w) ≡ write term_row ns = rw (ek, en) refl in
    ap (λ (y : List ℕ). row_table y) (r ∙ ap (sets to at) v) ∙ row-table-put to i ns room (fields k n ty w hk hn ht hw)
