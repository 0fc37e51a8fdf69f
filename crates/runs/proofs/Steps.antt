-- A step of a run: the rows of the new whole, and the search behind it. Assumes nothing.
use Prim.Native.Nat.{ℕ, ◌+◌, ◌*◌, ◌-◌, ◌/◌, ◌<◌, ◌≤◌}
use mathlib.Core.Path.{◌≡◌, ap, sym, ◌∙◌}
use mathlib.Core.Bool.{Bool}
use mathlib.Core.List.{List, ◌∷◌, map}
use native.Mathlib.Omega.{arith}
use lib.ListN.{length, length-drop, length-append, length-map}
use Rattle.meaning.specs.Bytes.{Limits, rows_at, record_bytes}
use Rattle.meaning.specs.Types.{Form}
use Rattle.meaning.specs.Terms.{Tree, node, raw, flat, size, top}
use Rattle.meaning.proofs.Trees.Parse.{length-flat}
use Rattle.terms.proofs.Scan.{size-some}
use Rattle.search.specs.Frames.{Frame, spelled, around, passed_rows}
use Rattle.search.specs.Kept.{to_come, row_count}
use Rattle.search.specs.Search.{Searching, Room, Changed, Resumes}
use Rattle.search.specs.declared.Stand.{Stand}
use Rattle.search.proofs.Entries.{rows_long, held-few}
use Rattle.search.proofs.Ends.{whole-rows}
use Rattle.runs.specs.Sites.{Site, at_row, at-end, Whole}
use Rattle.runs.specs.Tries.{Trying, Turning, Makes, Steps}
use Rattle.runs.specs.Going.{space}
use Rattle.runs.proofs.PutBack.{record-long}
use Rattle.runs.proofs.Sites.{end-rows}
use Rattle.runs.proofs.CallOut.{come-length, whole-size}

-- how many rows are to come, a tree and those behind it
coming-long : (right : List ℕ) (r : ℕ) (ts : List Tree) → to_come right r ≡ map raw (spelled ts) → row_count right - r ≡ length (spelled ts)
coming-long right r ts e = sym (come-length right r) ∙ ap length e ∙ length-map (spelled ts) raw

first-long : (t : Tree) (ts : List Tree) → length (spelled (t ∷ ts)) ≡ size t + length (spelled ts)
unfolding spelled
first-long t ts = omega (arith, length-append (flat t) (spelled ts), length-flat t)

-- the rows of the whole where the search has stopped: those around, the tree's, those behind it
site-long : (form : ℕ → Form) (k : ℕ) (left right frames : List ℕ) (s : Stand) (b : Bool) (Fs : List Frame) (ts : List Tree) (old : Tree) (outer : List Frame) (rest : List Tree) → Site b Fs ts old outer rest
    → Searching form k left right frames s Fs ts → s.l + (row_count right - s.r) ≡ length (passed_rows outer) + (size old + length (spelled rest))
site-long form k left right frames s b Fs ts old outer rest (at_row {h = h} {u = u} {f = f} o w) x =
    omega (arith, rows_long left frames s.l s.d outer x.kept, coming-long right s.r (node h u f ∷ rest) x.coming, first-long (node h u f) rest)
site-long form k left right frames s b Fs ts old outer rest (at-end {F = F} e) x =
    let r = end-rows form k left right frames s (F ∷ outer) rest old outer rest (at-end e) x in
    omega (arith, r.0, coming-long right s.r rest r.2)

-- BEHIND THE RULE
module _ (form : ℕ → Form) (left left' right right' frames : List ℕ) (s s' : Stand) (old new : ℕ) (x : Makes form left left' right right' s s' old new) (g : Turning form left right frames s old new) where
  abbrev T : Trying form left right frames s
  T = g.trying

  behind : Changed form T.number left' right' frames s' T.halted.outer g.made T.halted.rest
  behind = x.changed T.number frames T.whole T.halted g.made g.goes g.turns

  passed-long : s'.l ≡ length (passed_rows T.halted.outer)
  passed-long = rows_long left' frames s'.l s'.d T.halted.outer behind.kept

  left-long : row_count right' - s'.r ≡ size g.made + length (spelled T.halted.rest)
  left-long = omega (arith, coming-long right' s'.r (g.made ∷ T.halted.rest) behind.coming, first-long g.made T.halted.rest)

  before-long : s.l + (row_count right - s.r) ≡ length (passed_rows T.halted.outer) + (size T.halted.tree + length (spelled T.halted.rest))
  before-long =
      let a = T.halted.all in
      omega (arith, site-long form T.number left right frames s s.here a.frames_around a.trees T.halted.tree T.halted.outer T.halted.rest T.halted.site a.search)

  made-total : s'.l + (row_count right' - s'.r) + old ≡ s.l + (row_count right - s.r) + new
  made-total = omega (arith, passed-long, left-long, before-long, g.turns.sizes)

  made-size : size (top (around T.halted.outer (g.made ∷ T.halted.rest))) ≡ s'.l + (row_count right' - s'.r)
  made-size =
      let outer = T.halted.outer in
      let ts = g.made ∷ T.halted.rest in
      let e = whole-rows form T.number frames s'.d outer ts (behind.old ∷ T.halted.rest) behind.kept.held behind.count behind.passed in
      omega (arith, sym (length-flat (top (around outer ts))) ∙ ap length (sym e) ∙ length-append (passed_rows outer) (spelled ts), passed-long, coming-long right' s'.r ts behind.coming)

  -- there is room for the search there
  module _ (rows : ℕ) (room : Room left right frames s) (few : rows ≤ 2048) (long : 8 * rows ≤ length left') (deep : s.l + (row_count right - s.r) + new ≤ length frames + old) (wide : rows + 2 ≤ row_count right) (fits : s.l + (row_count right - s.r) + new ≤ rows + old) where
    same : row_count right' ≡ row_count right
    same = ap (λ (i : ℕ). i / 8) x.long

    some : 0 < size g.made
    some = omega (arith, size-some g.made)

    pub made-room : Room left' right' frames s'
    made-room = record { ends = omega (arith, left-long, some); few = omega (arith, same, room.few); rows = omega (arith, made-total, fits, few); left-long = omega (arith, made-total, fits, long); deep = omega (arith, made-total, fits, deep) }

    pub made-ready : (0 < s'.r) × (s'.d ≤ s'.l)
    made-ready = (omega (arith, made-total, fits, wide, same), omega (arith, passed-long, held-few frames s'.d T.halted.outer behind.kept.held))

  -- ALL OF IT
  pub steps : (right'' : List ℕ) (e : Stand) → Resumes left' right' right'' frames s' e → Steps form left left' right right'' frames s e old new
  steps right'' e y =
      let whole : (k : ℕ) (outer : List Frame) (u : Tree) (rest : List Tree) → Changed form k left' right' frames s' outer u rest → Whole form k left' right'' frames e (top (around outer (u ∷ rest))) =
      (λ k outer u rest c. let z = y.reached form k outer u rest c in record { frames_around = z.frames_around; trees = z.trees; search = z.search; whole = ap top z.whole }) in
      let n = whole-size form T.number left' right'' frames e (top (around T.halted.outer (g.made ∷ T.halted.rest))) (whole T.number T.halted.outer g.made T.halted.rest behind) in
      record {
        long = y.long ∙ x.long;
        room = y.room;
        total = omega (arith, n, made-size, made-total);
        reached = λ k t h u q i. whole k h.outer u h.rest (x.changed k frames t h u q i);
      }

-- the rows of a row space
pub space-long : (m : Limits) (kept : List ℕ) → length kept ≡ record_bytes m → length (space m kept) ≡ 8 * m.rows
space-long m kept e = length-drop (rows_at m) kept ∙ omega (arith, e, record-long m)
