-- The bytes of the fresh record of an accepted file. Assumes nothing.
use Prim.Native.Nat.{ℕ, zero, suc, ◌+◌, ◌*◌, ◌-◌, ◌≤◌}
use mathlib.Core.Path.{◌≡◌, refl, ap, sym, ◌∙◌}
use mathlib.Core.List.{List, [], ◌∷◌, ◌++◌, map, append_assoc, append-nil}
use native.Mathlib.Omega.{arith}
use lib.ListN.{length, get_or, take, drop, replicate, length-append, length-drop, replicate-append-replicate, drop_of_length-le}
use lib.Seq.{take_at, drop-append-add, length-take-le}
use Rattle.meaning.specs.Bytes.{width, read, write, reads, writes, padded, type_row, term_row, record_head, Limits, rows_at, calls_at, record_bytes}
use Rattle.meaning.specs.Terms.{ty_of, flat, size, type_no, raw, row_of, trees, top, tree_of}
use Rattle.meaning.specs.Records.{record_mark, head_numbers, record_of}
use Rattle.meaning.specs.Entries.{file_type_count, file_row_count, file_types, file_rows, file_tree, load_verdict, loaded_state}
use Rattle.std.specs.Prelude.{Ok}
use Rattle.meaning.proofs.Bytes.Layouts.{AllBytes, bytes_drop, padded-length, length-write, writes_reads, length-reads, reads_at, reads-wide}
use Rattle.meaning.proofs.Bytes.RowTables.{shape-whole}
use Rattle.meaning.proofs.Entries.Loading.{accepted-legal}
use Rattle.layout.specs.declared.Row.{Row}
use Rattle.layout.specs.Rows.{numbers}
use Rattle.layout.proofs.Laws.{row_type}
use Rattle.layout.proofs.Tables.{term-width, reads-cut}

-- Lists of zeros with parts put in -------------------------------------------------------------------------------

abbrev blank : ℕ → List ℕ
blank n = replicate n 0

blank-padded : (n : ℕ) → padded n [] ≡ blank n
unfolding padded
blank-padded n = let e : n - 0 ≡ n = omega arith in ap blank e

drop-blank : (n k : ℕ) → k ≤ n → drop k (blank n) ≡ blank (n - k)
drop-blank n zero h = let e : n ≡ n - 0 = omega arith in ap blank e
drop-blank zero (suc k) h = absurd (omega arith)
drop-blank (suc n) (suc k) h = let e : n - k ≡ suc n - suc k = omega arith in drop-blank n k (omega arith) ∙ ap blank e

pub all-blank : (d b : List ℕ) (n : ℕ) → length d ≡ n → b ≡ take 0 d ++ (replicate (n - 0) 0 ++ drop n d) → b ≡ replicate n 0
all-blank d b n h e = let z : n - 0 ≡ n = omega arith in e ∙ rw (z, drop_of_length-le d {i = n} (omega arith)) (append-nil (blank n))

-- a header and three parts of given room, two of them copied in
module _ (h t r : List ℕ) (a c d : ℕ) (ta : length t ≤ a) (rd : length r ≤ d) where
  front : List ℕ
  front = h ++ (padded a t ++ padded c [])

  front_length : length front ≡ length h + (a + c)
  unfolding front
  front_length = rw (length-append, length-append, padded-length a t ta, padded-length c [] (omega arith))

  -- behind the header and the first part
  spread : t ++ blank (a + (c + d) - length t) ≡ (padded a t ++ padded c []) ++ blank d
  spread =
      let e : (a - length t) + (c + d) ≡ a + (c + d) - length t = omega arith in
      let f : blank (a + (c + d) - length t) ≡ blank (a - length t) ++ (blank c ++ blank d) =
      sym (ap (λ (l : List ℕ). blank (a - length t) ++ l) (replicate-append-replicate c d 0) ∙ replicate-append-replicate (a - length t) (c + d) 0 ∙ ap blank e) in
      rw (blank-padded c, f) (unfold padded in sym (append_assoc (t ++ blank (a - length t)) (blank c) (blank d) ∙ append_assoc t (blank (a - length t)) (blank c ++ blank d)))

  module _ (b₁ b₂ b₃ b₄ : List ℕ) (n p q : ℕ) (hn : length h ≡ n) (hp : n + (a + c) ≡ p) (hq : length r ≡ q) where
    pub parts-written : b₁ ≡ blank (n + (a + (c + d))) → b₂ ≡ h ++ drop n b₁ → b₃ ≡ take n b₂ ++ (t ++ drop (n + length t) b₂) → b₄ ≡ take p b₃ ++ (r ++ drop (p + q) b₃)
        → b₄ ≡ h ++ (padded a t ++ (padded c [] ++ padded d r))
    parts-written e₁ e₂ e₃ e₄ =
        let x₁ : n + (a + (c + d)) - n ≡ a + (c + d) = omega arith in
        let z₂ : b₂ ≡ h ++ blank (a + (c + d)) = e₂ ∙ rw (e₁, drop-blank (n + (a + (c + d))) n (omega arith), x₁) in
        let y₃ : drop (n + length t) b₂ ≡ blank (a + (c + d) - length t) =
        rw (z₂, ← hn, drop-append-add h (blank (a + (c + d))) (length t)) (drop-blank (a + (c + d)) (length t) (omega arith)) in
        let z₃ : b₃ ≡ front ++ blank d =
        e₃ ∙ rw (y₃, z₂, take_at h (blank (a + (c + d))) n hn, spread) (unfold front in sym (append_assoc h (padded a t ++ padded c []) (blank d))) in
        let lf : length front ≡ p = front_length ∙ ap (λ (k : ℕ). k + (a + c)) hn ∙ hp in
        let y₄ : drop (p + q) b₃ ≡ blank (d - length r) =
        rw (z₃, ← lf, ← hq, drop-append-add front (blank d) (length r)) (drop-blank d (length r) rd) in
        e₄ ∙ rw (y₄, z₃, take_at front (blank d) p lf) (unfold front padded in append_assoc h (padded a t ++ padded c []) (padded d r) ∙ ap (λ (l : List ℕ). h ++ l) (append_assoc (padded a t) (padded c []) (padded d r)))

-- An accepted file -----------------------------------------------------------------------------------------------

-- how long file and record are, and what stands where
pub record Sized (m : Limits) (s : List ℕ) (room : ℕ) : Type 0 where
  pub head : 10 ≤ length s
  pub file : length s ≡ 10 + 36 * file_type_count s + 8 * file_row_count s
  pub some-row : 1 ≤ file_row_count s
  pub types : file_type_count s ≤ m.types
  pub rows : file_row_count s ≤ m.program_rows
  pub kept : room ≡ 20 + (36 * m.types + (8 * m.calls + 8 * m.rows))
  pub rows-from : rows_at m ≡ 20 + (36 * m.types + 8 * m.calls)

module _ (m : Limits) (s : List ℕ) (room : ℕ) (ok : load_verdict m s room ≡ Ok tt) where
  pub sized : Sized m s room
  unfolding width record_bytes rows_at calls_at
  sized =
      let (r, l, _) = accepted-legal m s room ok in
      record {
        head = l.long;
        file = l.size;
        some-row = l.rows-some;
        types = l.types-many;
        rows = l.rows-many;
        kept = omega arith;
        rows-from = omega arith;
      }

  rows_are : (map raw (flat (file_tree s)) ≡ file_rows s) × (size (file_tree s) ≡ file_row_count s)
  unfolding file_tree file_rows
  rows_are =
      let (_, l, _) = accepted-legal m s room ok in
      let (a, b, _) = shape-whole (file_type_count s) (file_rows s) (rw l.edition at l.one-tree) (reads-wide term_row (file_row_count s) _) in
      (a, b ∙ length-reads term_row (file_row_count s) _)

  module _ (bytes : AllBytes s) where
    types-bytes : writes type_row (file_types s) ≡ take (36 * file_type_count s) (drop 10 s)
    unfolding file_types width
    types-bytes = let z = sized in writes_reads type_row (file_type_count s) (drop 10 s) (bytes_drop 10 s bytes) (rw length-drop (omega arith))

    rows-bytes : writes term_row (map raw (flat (file_tree s))) ≡ take (8 * file_row_count s) (drop (10 + 36 * file_type_count s) s)
    unfolding file_rows width
    rows-bytes =
        let z = sized in
        ap (writes term_row) rows_are.0
        ∙ writes_reads term_row (file_row_count s) (drop (10 + 36 * file_type_count s) s) (bytes_drop (10 + 36 * file_type_count s) s bytes) (rw length-drop (omega arith))

types_are : (s : List ℕ) → length (file_types s) ≡ file_type_count s
unfolding file_types
types_are s = length-reads type_row (file_type_count s) _

-- the first row's type
top-type : (rs : List (List ℕ)) → 1 ≤ length rs → ty_of (tree_of (map row_of rs)) ≡ type_no (get_or rs 0 [])
unfolding tree_of trees top ty_of row_of
top-type [] h = absurd (omega arith)
top-type (r ∷ rs) h = refl

program-type : (s : List ℕ) → 1 ≤ file_row_count s → ty_of (file_tree s) ≡ type_no (read term_row (drop (10 + 36 * file_type_count s) s))
unfolding file_tree file_rows width
program-type s h =
    let p = 10 + 36 * file_type_count s in
    top-type (reads term_row (file_row_count s) (drop p s)) (omega (arith, length-reads term_row (file_row_count s) (drop p s)))
    ∙ ap type_no (reads_at term_row (file_row_count s) 0 (drop p s) [] h)

-- the row that stands first behind the types
pub rest-long : (s : List ℕ) (at : ℕ) → at + 8 ≤ length s → 8 * 0 + 8 ≤ length (take (length s - at) (drop at s))
rest-long s at h = omega (arith, length-take-le (length s - at) (drop at s) (rw length-drop (omega arith)), length-drop at s)

pub first-row : (s : List ℕ) (at : ℕ) (r : Row) → at + 8 ≤ length s → numbers r ≡ read term_row (drop (8 * 0) (take (length s - at) (drop at s))) → r.ty ≡ type_no (read term_row (drop at s))
unfolding reads
first-row s at r h e =
    let g : length s - at ≤ length (drop at s) = rw length-drop (omega arith) in
    row_type r (read term_row (drop at s)) (e ∙ ap (λ (l : List (List ℕ)). get_or l 0 []) (reads-cut term_row 1 (length s - at) (drop at s) (rw term-width (omega arith)) g))

-- the record, part by part, is the fresh one
module _ (m : Limits) (s : List ℕ) (room : ℕ) (ok : load_verdict m s room ≡ Ok tt) (bytes : AllBytes s) (fits : m.program_rows ≤ m.rows) where
  pub fresh-written : (b₁ b₂ b₃ b₄ : List ℕ) (types rows program p : ℕ)
      → types ≡ file_type_count s → rows ≡ file_row_count s → program ≡ type_no (read term_row (drop (10 + 36 * types) s)) → p ≡ rows_at m
      → b₁ ≡ replicate room 0
      → b₂ ≡ write record_head (record_mark ++ (types ∷ rows ∷ 0 ∷ 1 ∷ program ∷ 0 ∷ [])) ++ drop 20 b₁
      → b₃ ≡ take 20 b₂ ++ (take (36 * types) (drop 10 s) ++ drop (20 + 36 * types) b₂)
      → b₄ ≡ take p b₃ ++ (take (8 * rows) (drop (10 + 36 * types) s) ++ drop (p + 8 * rows) b₃)
      → b₄ ≡ record_of m (loaded_state s)
  unfolding record_of head_numbers loaded_state writes width
  fresh-written b₁ b₂ b₃ b₄ types rows program p t r g q e₁ e₂ e₃ e₄ =
      let z = sized m s room ok in
      let tl : length (take (36 * types) (drop 10 s)) ≡ 36 * types = length-take-le (36 * types) (drop 10 s) (rw length-drop (omega arith)) in
      let rl : length (take (8 * rows) (drop (10 + 36 * types) s)) ≡ 8 * rows = length-take-le (8 * rows) (drop (10 + 36 * types) s) (rw length-drop (omega arith)) in
      parts-written (write record_head (record_mark ++ (types ∷ rows ∷ 0 ∷ 1 ∷ program ∷ 0 ∷ []))) (take (36 * types) (drop 10 s)) (take (8 * rows) (drop (10 + 36 * types) s)) (36 * m.types) (8 * m.calls) (8 * m.rows) (omega arith) (omega arith) b₁ b₂ b₃ b₄ 20 p (8 * rows) (length-write record_head _) (omega arith) rl
      (e₁ ∙ ap (λ (n : ℕ). replicate n 0) z.kept)
      e₂
      (e₃ ∙ rw tl)
      e₄
      ∙ rw (types-bytes m s room ok bytes, rows-bytes m s room ok bytes, (rows_are m s room ok).1, program-type s z.some-row, types_are s, ← t, ← r, ← g)
