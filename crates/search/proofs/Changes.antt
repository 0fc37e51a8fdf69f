-- A search that leaves a frame, and one that goes on behind a step, at the new tree or at the frame's row. Assumes nothing.
use Prim.Native.Nat.{ℕ, zero, suc, ◌+◌, ◌*◌, ◌-◌, ◌<◌, ◌≤◌}
use mathlib.Core.Path.{◌≡◌, refl, ap, sym, ◌∙◌, subst}
use mathlib.Core.Bool.{Bool, true, not}
use mathlib.Core.List.{List, [], ◌∷◌, ◌++◌, map}
use native.Mathlib.Omega.{arith}
use lib.ListN.{length, get_or, set, length-append, length-drop}
use Rattle.meaning.specs.Bytes.{◌∧ᵇ◌}
use Rattle.meaning.specs.Types.{Form}
use Rattle.meaning.specs.Terms.{Head, arity, Tree, node, Row, raw, flat, flats, kids}
use Rattle.meaning.specs.Steps.{value}
use Rattle.search.specs.Frames.{waits, zips, spelled, Frame, below, close, around, row_of_frame, passed_rows, passed_by, Looked, Open, Passed}
use Rattle.search.specs.Kept.{table, to_come, owed_in, row_in, passed_number, Held, Kept, Leaves}
use Rattle.search.specs.Search.{owing, Searching, Reached, Room, Ending, Changed}
use Rattle.search.specs.declared.Stand.{Stand}
use Rattle.search.proofs.OneRow.{waits-first, first-before}
use Rattle.search.proofs.Frames.{passing, close-left, close_passed, leaving, reducing, parent}
use Rattle.search.proofs.Over.{spelled-some, spelled-close}
use Rattle.search.proofs.Tables.{map-append, first_rows, row-behind, one-row}
use Rattle.search.proofs.Entries.{pass_kept, rows_long, frames-few}

-- the tree of a frame whose trees are passed has the rows passed
pub rows-full : (n : ℕ) (B ts : List Tree) → length B ≡ n → flats (kids n (B ++ ts)) ≡ spelled B
unfolding kids flat spelled
rows-full zero [] ts e = refl
rows-full zero (b ∷ B) ts e = absurd (omega arith)
rows-full (suc n) [] ts e = absurd (omega arith)
rows-full (suc n) (b ∷ B) ts e = ap (λ (l : List Row). flat b ++ l) (rows-full n B ts (omega arith))

abbrev pub tree_of_frame : Frame → List Tree → Tree
tree_of_frame F ts = node F.head F.type (below F ts)

pub frame-rows : (F : Frame) (ts : List Tree) → length F.before ≡ arity F.head → flat (tree_of_frame F ts) ≡ row_of_frame F ∷ spelled F.before
unfolding flat below
frame-rows F ts e = ap (λ (l : List Row). row_of_frame F ∷ l) (rows-full (arity F.head) F.before ts e)

-- the rows passed up to a frame's row
pub kept-around : (left frames : List ℕ) (l d : ℕ) (F : Frame) (Fs : List Frame) → Kept left frames l d (F ∷ Fs) → Kept left frames (length (passed_rows Fs)) (d - 1) Fs
unfolding passed_rows Held
kept-around left frames l d F Fs k = record { rows = first_rows left 0 l (passed_rows Fs) (row_of_frame F ∷ spelled F.before) k.rows; held = outer d k.held }
  where
    outer : (z : ℕ) → Held frames z (F ∷ Fs) → Held frames (z - 1) Fs
    outer zero p = absurd p
    outer (suc z) p = let u : suc z - 1 ≡ z = omega arith in rw u p.1

module _ (left frames : List ℕ) (l d : ℕ) where
  pub leave-kept : (i : ℕ) (fine : Bool) (ts : List Tree) (F G : Frame) (Gs : List Frame) → d ≡ suc (suc i) → i < length frames → 0 < owed_in (get_or frames i 0)
      → length F.before ≡ arity F.head
      → Kept left frames l d (F ∷ G ∷ Gs) → Kept left (set frames i (passed_number (get_or frames i 0) fine)) l (d - 1) (passed_by G (tree_of_frame F ts) fine ∷ Gs)
  unfolding passed_rows
  leave-kept i fine ts F G Gs ds hi o n k =
      let d1 : d - 1 ≡ suc i = omega arith in
      let A = passed_rows (G ∷ Gs) in
      let kept = kept-around left frames l d F (G ∷ Gs) k in
      let m : length A + (l - length A) ≡ l = omega (arith, rows_long left frames l d (F ∷ G ∷ Gs) k, length-append A (row_of_frame F ∷ spelled F.before)) in
      let rows : table left 0 (length A + (l - length A)) ≡ table left 0 (length A) ++ map raw (flat (tree_of_frame F ts)) =
      ap (table left 0) m ∙ k.rows ∙ map-append raw A (row_of_frame F ∷ spelled F.before) ∙ cc (kept.rows, frame-rows F ts n) in
      subst (λ (x : ℕ). Kept left (set frames i (passed_number (get_or frames i 0) fine)) x (d - 1) (passed_by G (tree_of_frame F ts) fine ∷ Gs)) m
      (pass_kept left left [] frames (length A) 0 (d - 1) i (l - length A) fine (tree_of_frame F ts) G Gs d1 hi o rows kept)

-- once a tree of it was passed, whether a frame's row waits does not hang on the tree at the search
pub waits-on : (h : Head) (b t s : Tree) (B ts : List Tree) → waits h (kids (arity h) ((b ∷ B) ++ (t ∷ ts))) ≡ waits h (kids (arity h) ((b ∷ B) ++ (s ∷ ts)))
waits-on h b t s B ts = waits-first h _ _ (first-before (arity h) b B t s ts)

pub owing-some : (Fs : List Frame) (ts : List Tree) → Open Fs ts → 1 ≤ owing Fs
unfolding owing Open
owing-some [] ts o = omega arith
owing-some (F ∷ Fs) ts o = omega (arith, o.inside)

module _ (form : ℕ → Form) (k : ℕ) (left right frames : List ℕ) (s : Stand) where
  -- A FRAME IS LEFT whose own rule stays: its tree is passed in the frame around it
  pub record Ends-inside : Type 0 where
    pub deep : 2 ≤ s.d
    pub shallow : s.d ≤ s.l
    pub owes : 0 < owed_in (get_or frames (s.d - 2) 0)

  pub end-ready : (F G : Frame) (Gs : List Frame) (ts : List Tree) → Ending form k left right frames s F G Gs ts → Ends-inside
  unfolding Passed Open Held
  end-ready F G Gs ts x =
      let (o, q, w) = leaving form k F (G ∷ Gs) ts x.search.passed x.full in
      let h = two s.d o.inside x.search.kept.held in
      record { deep = h.0; shallow = frames-few left frames s.l s.d (F ∷ G ∷ Gs) x.search.kept; owes = h.1 }
    where
      two : (d : ℕ) → length G.before < arity G.head → Held frames d (F ∷ G ∷ Gs) → (2 ≤ d) × (0 < owed_in (get_or frames (d - 2) 0))
      two zero i h = absurd h
      two (suc zero) i h = absurd h.1
      two (suc (suc d)) i h = let z : suc (suc d) - 2 ≡ d = omega arith in (omega arith, rw z (omega (arith, h.1.0.owes)))

  pub left-frame : (frames' : List ℕ) (s' : Stand) (fine : Bool) (F G : Frame) (Gs : List Frame) (ts : List Tree) → Room left right frames s → Ending form k left right frames s F G Gs ts
      → (not (zips G.head (below G (tree_of_frame F ts ∷ ts))) ∧ᵇ value (tree_of_frame F ts)) ≡ fine
      → Leaves frames frames' s fine s'
      → Reached form k (F ∷ G ∷ Gs) ts left right frames' s'
  unfolding Passed Open owing around
  left-frame frames' s' fine F G Gs ts room x v p =
      let n = x.full in
      let (o, q, w) = leaving form k F (G ∷ Gs) ts x.search.passed n in
      let z = close-left form k F ts n in
      let g : Looked G (tree_of_frame F ts ∷ ts) = rw z at o in
      let b = tree_of_frame F ts in
      let ready = end-ready F G Gs ts x in
      rw (p.stand, p.numbers) (record {
        frames_around = passed_by G b fine ∷ Gs;
        trees = ts;
        search = record {
          kept = leave-kept left frames s.l s.d (s.d - 2) fine ts F G Gs (omega (arith, ready.deep)) (omega (arith, ready.deep, ready.shallow, room.deep)) ready.owes n x.search.kept;
          coming = x.search.coming;
          count = omega (arith, x.search.count, n, g.inside, length-append G.before (b ∷ []));
          passed = passing form k G Gs b fine ts (rw z at q) (λ y. w ∙ x.stays) (rw g.seen v);
        };
        whole = ap (around Gs) (close_passed form k G b fine ts ∙ ap (close G) (sym z));
      })

-- BEHIND A STEP ------------------------------------------------------------------------------------------------------

module _ (form : ℕ → Form) (k : ℕ) (left left' right right' frames : List ℕ) (s s' : Stand) where
  -- a row's own rule went: the new tree stands where its tree stood
  pub here-changed : (Fs : List Frame) (old t : Tree) (ts : List Tree) → Searching form k left right frames s Fs (old ∷ ts) → Open Fs (old ∷ ts)
      → s'.l ≡ s.l → s'.d ≡ s.d → table left' 0 s.l ≡ table left 0 s.l → to_come right' s'.r ≡ map raw (spelled (t ∷ ts))
      → Changed form k left' right' frames s' Fs t ts
  here-changed Fs old t ts x o el ed same q =
      record { kept = rw (el, ed) (record { rows = same ∙ x.kept.rows; held = x.kept.held }); coming = q; count = omega (arith, x.count); old = old; opens = o; passed = x.passed }

  -- a rule that came last went: the new tree stands before the trees to come of the frame around
  pub end-changed : (F : Frame) (Fs : List Frame) (t : Tree) (ts : List Tree) → Searching form k left right frames s (F ∷ Fs) ts → length F.before ≡ arity F.head
      → s'.l ≡ length (passed_rows Fs) → s'.d ≡ s.d - 1 → to_come right' s'.r ≡ map raw (spelled (t ∷ ts))
      → Changed form k left right' frames s' Fs t ts
  unfolding owing
  end-changed F Fs t ts x n el ed q =
      let (o, p, _) = leaving form k F Fs ts x.passed n in
      let z = close-left form k F ts n in
      record {
        kept = rw (el, ed) (kept-around left frames s.l s.d F Fs x.kept);
        coming = q;
        count = omega (arith, x.count, n, owing-some Fs (close F ts) o);
        old = tree_of_frame F ts;
        opens = rw z at o;
        passed = rw z at p;
      }

module _ (form : ℕ → Form) (k : ℕ) (left right frames : List ℕ) (s : Stand) where
  -- at the root, and where a tree of the frame was passed, the search goes on at the new tree
  pub root-resumed : (Fs : List Frame) (t : Tree) (ts : List Tree) → s.d ≡ 0 → Changed form k left right frames s Fs t ts → Reached form k Fs (t ∷ ts) left right frames s
  unfolding Held Passed
  root-resumed [] t ts z x = record { frames_around = []; trees = t ∷ ts; search = record { kept = x.kept; coming = x.coming; count = x.count; passed = tt }; whole = refl }
  root-resumed (F ∷ Fs) t ts z x = absurd (rw z at x.kept.held)

  module _ (i : ℕ) (ds : s.d ≡ suc i) where
    -- the frame's row is the last row passed if nothing in it was passed
    frame-last : (F : Frame) (Fs : List Frame) → Kept left frames s.l s.d (F ∷ Fs) → s.l ≡ row_in (get_or frames i 0) + suc (length (spelled F.before))
    unfolding Held passed_rows
    frame-last F Fs x =
        let h = rw ds at x.held in
        omega (arith, rows_long left frames s.l s.d (F ∷ Fs) x, h.0.at, length-append (passed_rows Fs) (row_of_frame F ∷ spelled F.before))

    pub frame-resumed : (Fs : List Frame) (t : Tree) (ts : List Tree) → (s.l ≡ row_in (get_or frames i 0) + 1 → ⊥) → Changed form k left right frames s Fs t ts → Reached form k Fs (t ∷ ts) left right frames s
    unfolding Held Passed Open below spelled
    frame-resumed [] t ts z x = absurd (rw ds at x.kept.held)
    frame-resumed (F ∷ Fs) t ts z x = go_on F.before refl
      where
        go_on : (B : List Tree) → F.before ≡ B → Reached form k (F ∷ Fs) (t ∷ ts) left right frames s
        go_on [] e = let n = ap (λ (l : List Tree). length (spelled l)) e in absurd (z (omega (arith, frame-last F Fs x.kept, n, nothing-spelled)))
          where
            nothing-spelled : length (spelled []) ≡ 0
            nothing-spelled = refl
        go_on (b ∷ B) e =
            let w : waits F.head (below F (t ∷ ts)) ≡ true =
            ap (λ (l : List Tree). waits F.head (kids (arity F.head) (l ++ (t ∷ ts)))) e ∙ waits-on F.head b t x.old B ts
            ∙ ap (λ (l : List Tree). waits F.head (kids (arity F.head) (l ++ (x.old ∷ ts)))) (sym e) ∙ x.passed.0.waiting in
            record {
              frames_around = F ∷ Fs;
              trees = t ∷ ts;
              search = record { kept = x.kept; coming = x.coming; count = x.count; passed = reducing form k F Fs x.old t ts x.opens.inside x.passed w };
              whole = refl;
            }

    -- where nothing of the frame was passed, its row is at the search again
    pub frame-reopened : (right' : List ℕ) (s' : Stand) (Fs : List Frame) (t : Tree) (ts : List Tree) → s.l ≡ row_in (get_or frames i 0) + 1 → s'.l ≡ s.l - 1 → s'.d ≡ i
        → ((x : Row) (l : List Row) → table left (8 * s'.l) 1 ≡ raw x ∷ [] → to_come right s.r ≡ map raw l → to_come right' s'.r ≡ map raw (x ∷ l))
        → Changed form k left right frames s Fs t ts → Reached form k Fs (t ∷ ts) left right' frames s'
    unfolding Held Open around owing close passed_rows
    frame-reopened right' s' [] t ts z el ed q x = absurd (rw ds at x.kept.held)
    frame-reopened right' s' (F ∷ Fs) t ts z el ed q x = back F.before refl
      where
        back : (B : List Tree) → F.before ≡ B → Reached form k (F ∷ Fs) (t ∷ ts) left right' frames s'
        back [] e =
            let n = ap (λ (l : List Tree). length l) e in
            let none = ap (λ (l : List Tree). length (spelled l)) e in
            let h = rw ds at x.kept.held in
            let y = parent form k F Fs x.old t ts x.opens.inside x.passed in
            let at : s'.l ≡ length (passed_rows Fs) = omega (arith, h.0.at) in
            let long : length (F.before ++ (t ∷ ts)) ≡ length F.before + suc (length ts) = length-append F.before (t ∷ ts) in
            let row = row-behind left 0 s.l (8 * s'.l) (passed_rows Fs) (spelled F.before) (row_of_frame F) (omega arith) x.kept.rows in
            let rows : to_come right' s'.r ≡ map raw (spelled (close F (t ∷ ts))) =
            q (row_of_frame F) (spelled (t ∷ ts)) (one-row left s'.l (row_of_frame F) row) x.coming
            ∙ ap (λ (l : List Tree). map raw (row_of_frame F ∷ spelled (l ++ (t ∷ ts)))) (sym e)
            ∙ ap (map raw) (sym (spelled-close F (t ∷ ts) (omega (arith, long, x.count, owing-some Fs _ y.0)))) in
            record {
              frames_around = Fs;
              trees = close F (t ∷ ts);
              search = record {
                kept = rw (at, ed) (rw less at (kept-around left frames s.l s.d F Fs x.kept));
                coming = rows;
                count = closed-count y.0 x.count;
                passed = y.1;
              };
              whole = refl;
            }
          where
            less : s.d - 1 ≡ i
            less = omega (arith, ds)

            closed-count : Open Fs (close F (t ∷ ts)) → suc (length ts) ≡ owing (F ∷ Fs) → length (close F (t ∷ ts)) ≡ owing Fs
            closed-count o c = omega (arith, c, x.opens.inside, owing-some Fs _ o, length-drop (arity F.head) (F.before ++ (t ∷ ts)), length-append F.before (t ∷ ts))
        back (b ∷ B) e =
            let n = ap (λ (l : List Tree). length (spelled l)) e in
            absurd (omega (arith, frame-last F Fs x.kept, n, spelled-some b B))
