-- The bytes of a record that is renewed, part by part. Assumes nothing.
use Prim.Native.Nat.{ℕ, ◌+◌, ◌*◌, ◌-◌, ◌≤◌}
use mathlib.Core.Path.{◌≡◌, refl, ap, sym, ◌∙◌}
use mathlib.Core.List.{List, [], ◌++◌, map, append_assoc, append-nil}
use native.Mathlib.Omega.{arith}
use lib.ListN.{length, take, drop, replicate, length-append, length-map, length-drop, drop_of_length-le}
use lib.Seq.{sets, take-add, take_at, drop_at, drop-append-add, length-take-le}
use Rattle.meaning.specs.Bytes.{spell, width, write, writes, padded, type_row, term_row, entry_row, record_head, Limits, calls_at, rows_at, record_bytes}
use Rattle.meaning.specs.Terms.{Tree, flat, size, raw}
use Rattle.meaning.specs.Records.{State, Entry, raw_entry, head_numbers, record_of}
use Rattle.meaning.specs.Entries.{stepped}
use Rattle.meaning.proofs.Trees.Parse.{length-flat}
use Rattle.meaning.proofs.Bytes.Layouts.{padded-length, length-write, length-writes}
use Rattle.keep.specs.Keep.{recalled, Roomy, RowsRenewed, CallsRenewed}

-- where the parts begin
pub record Sizes (m : Limits) : Type 0 where
  pub calls : calls_at m ≡ 20 + 36 * m.types
  pub rows : rows_at m ≡ 20 + 36 * m.types + 8 * m.calls
  pub all : record_bytes m ≡ 20 + 36 * m.types + 8 * m.calls + 8 * m.rows

pub sizes : (m : Limits) → Sizes m
unfolding record_bytes rows_at calls_at width
sizes m = record { calls = refl; rows = refl; all = refl }

-- one number of a header written over another
pub head_rows : (s : State) (t : Tree) (x : List ℕ) → sets (write record_head (head_numbers s) ++ x) 8 (spell 2 (size t)) ≡ write record_head (head_numbers (stepped s t)) ++ x
unfolding write spell head_numbers stepped
head_rows s t x = refl

-- a header, the types and the calls
abbrev behind_head : Limits → State → List ℕ
behind_head m s = padded (width type_row * m.types) (writes type_row s.types) ++ padded (width entry_row * m.calls) (writes entry_row (map raw_entry s.calls))

abbrev term_part : Limits → Tree → List ℕ
term_part m t = padded (width term_row * m.rows) (writes term_row (map raw (flat t)))

in_parts : (m : Limits) (s : State) → record_of m s ≡ (write record_head (head_numbers s) ++ behind_head m s) ++ term_part m s.tree
unfolding record_of
in_parts m s = sym (append_assoc (write record_head (head_numbers s)) (behind_head m s) (term_part m s.tree) ∙ ap (λ (l : List ℕ). write record_head (head_numbers s) ++ l) (append_assoc (padded (width type_row * m.types) (writes type_row s.types)) _ _))

front_length : (m : Limits) (s : State) → Roomy m s → length (write record_head (head_numbers s) ++ behind_head m s) ≡ rows_at m
unfolding rows_at calls_at width
front_length m s r =
    let a = padded-length (width type_row * m.types) (writes type_row s.types) (rw (length-writes type_row s.types) (omega (arith, r.types))) in
    let b = padded-length (width entry_row * m.calls) (writes entry_row (map raw_entry s.calls)) (rw (length-writes entry_row (map raw_entry s.calls), length-map) (omega (arith, r.calls))) in
    rw (length-append, length-append, length-write, a, b) (omega arith)

-- what stands before the row space
pub before-rows : (m : Limits) (s : State) → Roomy m s → take (rows_at m) (record_of m s) ≡ write record_head (head_numbers s) ++ behind_head m s
before-rows m s r = ap (take (rows_at m)) (in_parts m s) ∙ take_at (write record_head (head_numbers s) ++ behind_head m s) (term_part m s.tree) (rows_at m) (front_length m s r)

pub rows-renewed : (m : Limits) (kept k₁ k₂ : List ℕ) (rows : ℕ) → length kept ≡ record_bytes m → rows ≤ m.rows
    → k₁ ≡ take (rows_at m + 8 * rows) kept ++ (replicate (length kept - (rows_at m + 8 * rows)) 0 ++ drop (length kept) kept) → k₂ ≡ sets k₁ 8 (spell 2 rows)
    → RowsRenewed m kept k₂ rows
unfolding record_bytes width padded stepped
rows-renewed m kept k₁ k₂ rows n h e f s t g =
    let head = write record_head (head_numbers s) in
    let rest = behind_head m s in
    let w = writes term_row (map raw (flat t)) in
    let z : List ℕ = replicate (8 * m.rows - 8 * rows) 0 in
    let a : take (rows_at m + 8 * rows) kept ≡ (head ++ rest) ++ w = take-add (rows_at m) (8 * rows) kept ∙ rw (g.front, g.term, before-rows m s g.roomy) refl in
    let b : drop (length kept) kept ≡ [] = drop_of_length-le kept {i = length kept} (omega arith) in
    let c : length kept - (rows_at m + 8 * rows) ≡ 8 * m.rows - 8 * rows = omega arith in
    let d : k₁ ≡ head ++ (rest ++ (w ++ z)) = e ∙ rw (a, b, c, append-nil z) (append_assoc (head ++ rest) w z ∙ append_assoc head rest (w ++ z)) in
    let l : length w ≡ 8 * rows = length-writes term_row (map raw (flat t)) ∙ rw (length-map, length-flat t, ← g.count) refl in
    let x : k₂ ≡ write record_head (head_numbers (stepped s t)) ++ (rest ++ (w ++ z)) = f ∙ ap (λ (y : List ℕ). sets y 8 (spell 2 rows)) d ∙ ap (λ (y : ℕ). sets (head ++ (rest ++ (w ++ z))) 8 (spell 2 y)) g.count ∙ head_rows s t (rest ++ (w ++ z)) in
    let y : term_part m t ≡ w ++ z = ap (λ (y : ℕ). w ++ replicate (8 * m.rows - y) 0) l in
    let q : record_of m (stepped s t) ≡ write record_head (head_numbers (stepped s t)) ++ (behind_head m (stepped s t) ++ term_part m t) = in_parts m (stepped s t) ∙ append_assoc (write record_head (head_numbers (stepped s t))) (behind_head m (stepped s t)) (term_part m t) in
    x ∙ ap (λ (v : List ℕ). write record_head (head_numbers (stepped s t)) ++ (rest ++ v)) (sym y) ∙ sym q

-- other rows, as many: the header is as it was, and so is what stands behind the rows
pub rows_replaced : (m : Limits) (kept k : List ℕ) (s : State) (t : Tree) → Roomy m s → kept ≡ record_of m s → size t ≡ size s.tree
    → k ≡ take (rows_at m) kept ++ (writes term_row (map raw (flat t)) ++ drop (rows_at m + 8 * size t) kept) → k ≡ record_of m (stepped s t)
unfolding width padded stepped head_numbers
rows_replaced m kept k s t r e c f =
    let front = write record_head (head_numbers s) ++ behind_head m s in
    let front' = write record_head (head_numbers (stepped s t)) ++ behind_head m (stepped s t) in
    let same : front ≡ front' = rw c refl in
    let w = writes term_row (map raw (flat t)) in
    let w₀ = writes term_row (map raw (flat s.tree)) in
    let z : List ℕ = replicate (8 * m.rows - 8 * size t) 0 in
    let n : length w ≡ 8 * size t = length-writes term_row (map raw (flat t)) ∙ rw (length-map, length-flat t) refl in
    let n₀ : length w₀ ≡ 8 * size t = length-writes term_row (map raw (flat s.tree)) ∙ rw (length-map, length-flat s.tree, c) refl in
    let b : kept ≡ front ++ (w₀ ++ z) = e ∙ in_parts m s ∙ ap (λ (i : ℕ). front ++ (w₀ ++ replicate (8 * m.rows - i) 0)) n₀ in
    let u : take (rows_at m) kept ≡ front = ap (take (rows_at m)) b ∙ take_at front (w₀ ++ z) (rows_at m) (front_length m s r) in
    let v : drop (rows_at m + 8 * size t) kept ≡ z =
    ap (drop (rows_at m + 8 * size t)) b ∙ rw (← (front_length m s r)) (drop-append-add front (w₀ ++ z) (8 * size t)) ∙ drop_at w₀ z (8 * size t) n₀ in
    f ∙ rw (u, v) (ap (λ (x : List ℕ). x ++ (w ++ z)) same ∙ sym (in_parts m (stepped s t) ∙ ap (λ (i : ℕ). front' ++ (w ++ replicate (8 * m.rows - i) 0)) n))

pub head-calls : (s : State) (calls : List Entry) (next : ℕ) (x : List ℕ)
    → sets (sets (write record_head (head_numbers s) ++ x) 10 (spell 2 (length calls))) 12 (spell 4 next) ≡ write record_head (head_numbers (recalled s calls next)) ++ x
unfolding write spell head_numbers recalled
head-calls s calls next x = refl

abbrev type_part : Limits → State → List ℕ
type_part m s = padded (width type_row * m.types) (writes type_row s.types)

abbrev call_part : Limits → List Entry → List ℕ
call_part m es = padded (width entry_row * m.calls) (writes entry_row (map raw_entry es))

pub calls-renewed : (m : Limits) (kept k₁ k₂ k₃ : List ℕ) (calls : List Entry) (count next : ℕ) → count ≡ length calls
    → k₁ ≡ take (calls_at m) kept ++ (padded (rows_at m - calls_at m) (writes entry_row (map raw_entry calls)) ++ drop (rows_at m - calls_at m) (drop (calls_at m) kept))
    → k₂ ≡ sets k₁ 10 (spell 2 count) → k₃ ≡ sets k₂ 12 (spell 4 next) → CallsRenewed m kept k₃ calls next
unfolding rows_at calls_at width recalled record_of
calls-renewed m kept k₁ k₂ k₃ calls count next c e f g s r q =
    let head = write record_head (head_numbers s) in
    let T = type_part m s in
    let C = call_part m s.calls in
    let R = term_part m s.tree in
    let a : length T ≡ 36 * m.types = padded-length (width type_row * m.types) (writes type_row s.types) (rw (length-writes type_row s.types) (omega (arith, r.types))) in
    let b : length C ≡ 8 * m.calls = padded-length (width entry_row * m.calls) (writes entry_row (map raw_entry s.calls)) (rw (length-writes entry_row (map raw_entry s.calls), length-map) (omega (arith, r.calls))) in
    let k : kept ≡ (head ++ T) ++ (C ++ R) = q ∙ sym (append_assoc head T (C ++ R)) in
    let h : length (head ++ T) ≡ calls_at m = rw (length-append, length-write, a) (omega arith) in
    let n : rows_at m - calls_at m ≡ 8 * m.calls = omega arith in
    let u : take (calls_at m) kept ≡ head ++ T = ap (take (calls_at m)) k ∙ take_at (head ++ T) (C ++ R) (calls_at m) h in
    let v : drop (calls_at m) kept ≡ C ++ R = ap (drop (calls_at m)) k ∙ drop_at (head ++ T) (C ++ R) (calls_at m) h in
    let w : drop (rows_at m - calls_at m) (drop (calls_at m) kept) ≡ R = rw (v, n) (drop_at C R (8 * m.calls) b) in
    let x : k₁ ≡ head ++ (T ++ (call_part m calls ++ R)) = e ∙ rw (w, u, n) (append_assoc head T (call_part m calls ++ R)) in
    g ∙ ap (λ (l : List ℕ). sets l 12 (spell 4 next)) (f ∙ ap (λ (l : List ℕ). sets l 10 (spell 2 count)) x ∙ ap (λ (i : ℕ). sets (head ++ (T ++ (call_part m calls ++ R))) 10 (spell 2 i)) c)
    ∙ head-calls s calls next (T ++ (call_part m calls ++ R))

-- a part that was lent and written, between two places told twice
pub part-long : (l : List ℕ) (a n : ℕ) → a + n ≤ length l → length (take n (drop a l)) ≡ n
part-long l a n h = length-take-le n (drop a l) (rw length-drop (omega arith))

pub part-stored : (kept ys w : List ℕ) (a b p q : ℕ) → a ≡ p → b ≡ q → p ≤ q → q ≤ length kept → ys ≡ padded (length (take (b - a) (drop a kept))) w
    → take a kept ++ (ys ++ drop (b - a) (drop a kept)) ≡ take p kept ++ (padded (q - p) w ++ drop (q - p) (drop p kept))
part-stored kept ys w a b p q e f h k g =
    let n : length (take (q - p) (drop p kept)) ≡ q - p = part-long kept p (q - p) (omega arith) in
    let y : ys ≡ padded (q - p) w = g ∙ rw (e, f) (ap (λ (i : ℕ). padded i w) n) in
    rw (y, e, f) refl
