-- The first and the last copy of a run: the record's rows to the work buffer, and what is left of them back. Assumes nothing.
use Prim.Native.Nat.{ℕ, ◌+◌, ◌*◌, ◌-◌, ◌≤◌}
use mathlib.Core.Path.{◌≡◌, refl, ap, sym, ◌∙◌}
use mathlib.Core.Bool.{true}
use mathlib.Core.List.{List, [], ◌∷◌, ◌++◌, map, append-nil}
use native.Mathlib.Omega.{arith}
use lib.ListN.{length, take, drop, replicate, length-take, length-drop, length-map}
use lib.Seq.{drop-drop, drop-append-le, drop-length}
use Rattle.layout.proofs.Tables.{term-width}
use Rattle.meaning.specs.Bytes.{Limits, width, reads, writes, term_row, calls_at, rows_at, record_bytes}
use Rattle.meaning.specs.Types.{Form}
use Rattle.meaning.specs.Terms.{Tree, flat, size, raw, top}
use Rattle.meaning.specs.Records.{State, state_of, sound, rows_in, row_count as term_count}
use Rattle.meaning.proofs.Bytes.Layouts.{AllBytes, bytes_drop, writes_reads}
use Rattle.meaning.proofs.Bytes.Records.{Small, tree-rows}
use Rattle.meaning.proofs.Trees.Parse.{length-flat}
use Rattle.keep.specs.Keep.{Holding}
use Rattle.search.specs.Frames.{around}
use Rattle.search.specs.Kept.{table, row_count, to_come, copied}
use Rattle.search.specs.declared.Stand.{Stand}
use Rattle.search.proofs.Tables.{table-length, table-copied, rows_before_lem, pasted_length, pasted-before, reads-take, drop-take}
use Rattle.search.proofs.Ends.{begins, all-rows}
use Rattle.runs.specs.Going.{space, Begins, Fronts}
use Rattle.runs.specs.Sites.{Whole}

-- the parts of a record's length
pub record-long : (m : Limits) → record_bytes m ≡ rows_at m + 8 * m.rows
unfolding record_bytes width
record-long m = refl

pub rows-from : (m : Limits) → 20 ≤ rows_at m
unfolding rows_at calls_at width
rows-from m = omega arith

in_rows : (m : Limits) (kept : List ℕ) → reads term_row (term_count kept) (drop (rows_at m) kept) ≡ rows_in m kept
unfolding rows_in
in_rows m kept = refl

none_left : (work : List ℕ) (r : ℕ) → r ≡ row_count work → to_come work r ≡ map raw []
unfolding to_come table reads
none_left work r e = let z : row_count work - r ≡ 0 = omega (arith, e) in rw z refl

-- IT BEGINS with the record's own tree
pub begun : (m : Limits) (kept work work' frames : List ℕ) (s : Stand) (form : ℕ → Form) (k : ℕ) → Small m → length kept ≡ record_bytes m → AllBytes kept → sound m kept ≡ true
    → rows_at m + 8 * term_count kept ≤ length kept → Begins m kept work work' s → Whole form k (space m kept) work' frames s (state_of m kept).tree
unfolding around top
begun m kept work work' frames s form k small long bytes ok fits b =
    let t = (state_of m kept).tree in
    let n = term_count kept in
    let y = take (8 * n) (drop (rows_at m) kept) in
    let ly : length y ≡ 8 * n = length-take (8 * n) (drop (rows_at m) kept) ∙ omega (arith, length-drop (rows_at m) kept) in
    let room : 8 * s.r + 8 * n ≤ length work = omega (arith, b.first) in
    let rows : reads term_row n y ≡ map raw (flat t) = reads-take term_row n (8 * n) (drop (rows_at m) kept) (rw term-width (omega arith)) ∙ in_rows m kept ∙ sym (tree-rows m kept small long bytes ok).0 in
    let q = rows_before_lem work y work' s.r n b.bytes room ly (flat t) [] rows (none_left work (s.r + n) b.first) in
    record {
      frames_around = [];
      trees = t ∷ [];
      search = begins form k (space m kept) work' frames s t b.none_passed b.no-frame (q ∙ ap (map raw) (append-nil (flat t)));
      whole = refl;
    }

-- THE ROWS TO COME are put behind the rows passed
module _ (m : Limits) (kept kept' work frames : List ℕ) (s : Stand) (form : ℕ → Form) (k : ℕ) (from : State) (t : Tree) (n : ℕ) where
  -- what the copy writes is in the row space
  space-copied : rows_at m + 8 * s.l + 8 * n ≤ length kept → kept' ≡ take (rows_at m + 8 * s.l) kept ++ (take (8 * n) (drop (8 * s.r) work) ++ drop (rows_at m + 8 * s.l + 8 * n) kept)
      → space m kept' ≡ copied (space m kept) s.l work s.r n
  unfolding copied
  space-copied h e =
      let p = rows_at m in
      let y = take (8 * n) (drop (8 * s.r) work) in
      let lp : length (take (p + 8 * s.l) kept) ≡ p + 8 * s.l = length-take (p + 8 * s.l) kept ∙ omega arith in
      let z : p + 8 * s.l + 8 * n ≡ p + (8 * s.l + 8 * n) = omega arith in
      ap (drop p) e
      ∙ drop-append-le p (take (p + 8 * s.l) kept) (y ++ drop (p + 8 * s.l + 8 * n) kept) (omega (arith, lp))
      ∙ cc (drop-take p (8 * s.l) kept, ap (λ (i : ℕ). drop i kept) z ∙ sym (drop-drop (8 * s.l + 8 * n) p kept))

  pub holding : length kept ≡ record_bytes m → n ≡ row_count work - s.r → s.r ≤ row_count work → rows_at m + 8 * (s.l + n) ≤ length kept → AllBytes kept'
      → kept' ≡ take (rows_at m + 8 * s.l) kept ++ (take (8 * n) (drop (8 * s.r) work) ++ drop (rows_at m + 8 * s.l + 8 * n) kept)
      → Fronts m kept from → Whole form k (space m kept) work frames s t → Holding m kept' (s.l + n) from t
  unfolding to_come table
  holding long en er h bytes e f w =
      let left = space m kept in
      let y = take (8 * n) (drop (8 * s.r) work) in
      let ly : length y ≡ 8 * n = length-take (8 * n) (drop (8 * s.r) work) ∙ omega (arith, length-drop (8 * s.r) work) in
      let sp = space-copied (omega (arith, h)) e in
      let rows = table-copied left work (space m kept') s.l s.r n (omega (arith, length-drop (rows_at m) kept, h)) (omega (arith, en, er)) sp in
      let all = all-rows form k left work frames s w.frames_around w.trees w.search ∙ ap (λ (x : Tree). map raw (flat x)) w.whole in
      let same : table left 0 s.l ++ table work (8 * s.r) n ≡ table left 0 s.l ++ to_come work s.r = ap (λ (i : ℕ). table left 0 s.l ++ table work (8 * s.r) i) en in
      let flat_rows : reads term_row (s.l + n) (space m kept') ≡ map raw (flat t) = rows ∙ same ∙ all in
      let count : s.l + n ≡ size t = sym (table-length (space m kept') 0 (s.l + n)) ∙ ap length flat_rows ∙ length-map (flat t) raw ∙ length-flat t in
      let long' = pasted_length kept y kept' (rows_at m + 8 * s.l) (8 * n) e (omega (arith, h)) ly in
      record {
        roomy = f.roomy;
        count = count;
        front = pasted-before kept y kept' (rows_at m + 8 * s.l) (8 * n) e (omega (arith, h)) ly 0 (rows_at m) (omega arith) ∙ f.front;
        term =
            ap (λ (i : ℕ). take i (space m kept')) eight
            ∙ sym (writes_reads term_row (s.l + n) (space m kept') (bytes_drop (rows_at m) kept' bytes) (rw term-width (omega (arith, length-drop (rows_at m) kept', long', h))))
            ∙ ap (writes term_row) flat_rows;
      }
    where
      eight : 8 * (s.l + n) ≡ width term_row * (s.l + n)
      eight = ap (λ (i : ℕ). i * (s.l + n)) (sym term-width)

-- all zeros
pub all-clear : (work x : List ℕ) → x ≡ take 0 work ++ (replicate (length work - 0) 0 ++ drop (length work) work) → x ≡ replicate (length work) 0
all-clear work x e =
    let n : length work - 0 ≡ length work = omega arith in
    e ∙ ap (λ (i : ℕ). replicate i 0 ++ drop (length work) work) n ∙ ap (λ (l : List ℕ). replicate (length work) 0 ++ l) (drop-length work) ∙ append-nil (replicate (length work) 0)
