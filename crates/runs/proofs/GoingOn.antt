-- The search in a record's row space: it stops, and it goes on where a rule stays. Assumes nothing.
use Prim.Native.Nat.{ℕ, zero, suc, ◌+◌, ◌*◌, ◌-◌, ◌<◌, ◌≤◌}
use mathlib.Core.Path.{◌≡◌, refl, ap, sym, ◌∙◌, subst}
use mathlib.Core.Bool.{Bool, true, false, false≢true}
use mathlib.Core.List.{List, [], ◌∷◌, ◌++◌, append-nil}
use native.Mathlib.Omega.{arith}
use lib.ListN.{length, get_or, take, drop, length-take, length-drop, length-append, length-set}
use lib.Seq.{take_all, take_at, drop_at, drop-drop, drop-length}
use Rattle.meaning.specs.Bytes.{Limits, rows_at, record_bytes}
use Rattle.meaning.specs.Types.{Form}
use Rattle.meaning.specs.Terms.{Head, arity, Tree, Forest, node, top}
use Rattle.meaning.specs.Steps.{stay}
use Rattle.search.specs.Frames.{spelled, Frame, around, row_of_frame, passed_rows, Open}
use Rattle.search.specs.Kept.{row_in, owed_in, fits_here, fits_end, passed_number, Held, Kept, Passes, Leaves}
use Rattle.search.specs.Search.{Searching, Room, Somewhere, Resting, Ending, Stops, ahead}
use Rattle.search.specs.declared.Stand.{Stand}
use Rattle.search.proofs.Entries.{rows_long}
use Rattle.search.proofs.Turns.{Passable, skip-ready}
use Rattle.search.proofs.Changes.{end-ready}
use Rattle.search.proofs.Moves.{passed-long}
use Rattle.search.proofs.Fits.{end-rows, passed-by, left_by}
use Rattle.runs.specs.Sites.{Site, at_row, at-end, own, Whole, Passing, GoesOn, Halts, InRecord}
use Rattle.runs.specs.Going.{space}
use Rattle.runs.proofs.Sites.{site-of}
use Rattle.runs.proofs.PutBack.{record-long}

-- A TAIL LENT and back
module _ (kept ys x : List ℕ) (at : ℕ) (h : at ≤ length kept) (ly : length ys ≡ length kept - at) (e : x ≡ take at kept ++ (ys ++ drop (length kept - at) (drop at kept))) where
  plain-tail : x ≡ take at kept ++ ys
  plain-tail =
      let z : at + (length kept - at) ≡ length kept = omega arith in
      let none : drop (length kept - at) (drop at kept) ≡ [] = drop-drop (length kept - at) at kept ∙ ap (λ (i : ℕ). drop i kept) z ∙ drop-length kept in
      e ∙ ap (λ (l : List ℕ). take at kept ++ (ys ++ l)) none ∙ ap (λ (l : List ℕ). take at kept ++ l) (append-nil ys)

  lp : length (take at kept) ≡ at
  lp = length-take at kept ∙ omega arith

  pub tail-back : drop at x ≡ ys
  tail-back = ap (drop at) plain-tail ∙ drop_at (take at kept) ys at lp

  pub tail-front : take at x ≡ take at kept
  tail-front = ap (take at) plain-tail ∙ take_at (take at kept) ys at lp

  pub tail-long : length x ≡ length kept
  tail-long = ap length plain-tail ∙ length-append (take at kept) ys ∙ omega (arith, lp)

pub tail-lent : (kept : List ℕ) (at : ℕ) → at ≤ length kept → take (length kept - at) (drop at kept) ≡ drop at kept
tail-lent kept at h = take_all (length kept - at) (drop at kept) (omega (arith, length-drop at kept))

-- the row space lent and back
pub lent-space : (m : Limits) (kept : List ℕ) (p : ℕ) → p ≡ rows_at m → p ≤ length kept → take (length kept - p) (drop p kept) ≡ space m kept
lent-space m kept p e h = tail-lent kept p h ∙ ap (λ (i : ℕ). drop i kept) e

pub back-space : (m : Limits) (kept ys : List ℕ) (p : ℕ) → p ≡ rows_at m → p ≤ length kept → length ys ≡ length kept - p
    → InRecord m kept (take p kept ++ (ys ++ drop (length kept - p) (drop p kept))) × (space m (take p kept ++ (ys ++ drop (length kept - p) (drop p kept))) ≡ ys)
back-space m kept ys p e h ly =
    let x = take p kept ++ (ys ++ drop (length kept - p) (drop p kept)) in (
      record { front = ap (λ (i : ℕ). take i x) (sym e) ∙ tail-front kept ys x p h ly refl ∙ ap (λ (i : ℕ). take i kept) e; long = tail-long kept ys x p h ly refl },
      ap (λ (i : ℕ). drop i x) (sym e) ∙ tail-back kept ys x p h ly refl,
    )

-- rows of the row space as they are lent
pub lent_rows : (m : Limits) (kept : List ℕ) (at a n : ℕ) → at ≡ rows_at m → take (at + a + n - (at + a)) (drop (at + a) kept) ≡ take n (drop a (space m kept))
lent_rows m kept at a n e =
    let z : at + a + n - (at + a) ≡ n = omega arith in
    ap (λ (i : ℕ). take i (drop (at + a) kept)) z ∙ ap (take n) (sym (drop-drop a at kept) ∙ ap (λ (i : ℕ). drop a (drop i kept)) e)

pub rows_fit : (m : Limits) (kept : List ℕ) (p : ℕ) → p ≡ rows_at m → length kept ≡ record_bytes m → p ≤ length kept
rows_fit m kept p e long = omega (arith, e, long, record-long m)

-- THE SEARCH STOPS
pub stops-halted : (left left' right frames frames' : List ℕ) (s s' : Stand) → Stops left left' right frames frames' s s' → Halts left left' right frames frames' s s'
stops-halted left left' right frames frames' s s' x =
    record {
      room = x.room;
      less = x.less;
      halted = λ form k t w.
          let y = x.stopped form k w.frames_around w.trees w.search in
          let f = site-of s'.here y.reached.frames_around y.reached.trees y.seen in
          record {
            all = record { frames_around = y.reached.frames_around; trees = y.reached.trees; search = y.reached.search; whole = ap top y.reached.whole ∙ w.whole };
            tree = f.tree;
            outer = f.outer;
            rest = f.rest;
            site = f.site;
          };
    }

pub whole-somewhere : (form : ℕ → Form) (k : ℕ) (left right frames : List ℕ) (s : Stand) (t : Tree) → Whole form k left right frames s t → Somewhere left right frames s
whole-somewhere form k left right frames s t w = record { form = form; number = k; frames_around = w.frames_around; trees = w.trees; search = w.search }

-- A RULE STAYS, at a row
module _ (form : ℕ → Form) (k : ℕ) (left right frames : List ℕ) (s : Stand) (t : Tree) where
  frame-inside : (F : Frame) (Fs : List Frame) (d : ℕ) → s.d ≡ d → Kept left frames s.l s.d (F ∷ Fs) → row_in (get_or frames (s.d - 1) 0) < s.l
  unfolding Held passed_rows
  frame-inside F Fs zero e x = absurd (rw e at x.held)
  frame-inside F Fs (suc d) e x =
      let h = rw e at x.held in
      let z : s.d - 1 ≡ d = omega arith in
      rw z (omega (arith, h.0.at, rows_long left frames s.l s.d (F ∷ Fs) x, length-append (passed_rows Fs) (row_of_frame F ∷ spelled F.before)))

  -- a row that rests in a frame
  pub record RestsAt : Type 0 where
    pub frame : Frame
    pub others : List Frame
    pub head : Head
    pub type : ℕ
    pub below : Forest (arity head)
    pub rest : List Tree
    pub resting : Resting form k left right frames s frame others head type below rest
    pub whole : top (around (frame ∷ others) (node head type below ∷ rest)) ≡ t

  rests-at : (b : Bool) → b ≡ true → (Fs : List Frame) (ts : List Tree) (old : Tree) (outer : List Frame) (rest : List Tree) → Site b Fs ts old outer rest → Searching form k left right frames s Fs ts
      → top (around Fs ts) ≡ t → own form k old ≡ stay → (F : Frame) (Gs : List Frame) → outer ≡ F ∷ Gs → RestsAt
  unfolding own Open
  rests-at b q Fs ts old outer rest (at_row {h = h} {u = u} {f = f} o w) x y z F Gs i =
      record {
        frame = F;
        others = Gs;
        head = h;
        type = u;
        below = f;
        rest = rest;
        resting = record {
          search = subst (λ (Z : List Frame). Searching form k left right frames s Z (node h u f ∷ rest)) i x;
          looked = subst (λ (Z : List Frame). Open Z (node h u f ∷ rest)) i o;
          rests = w;
          stays = z;
        };
        whole = ap (λ (Z : List Frame). top (around Z (node h u f ∷ rest))) (sym i) ∙ y;
      }
  rests-at b q Fs ts old outer rest (at-end e) x y z F Gs i = absurd (false≢true q)

  pub resting-of : s.here ≡ true → Passing form k left right frames s t → RestsAt
  resting-of e p =
      let a = p.halted.all in
      rests-at s.here e a.frames_around a.trees p.halted.tree p.halted.outer p.halted.rest p.halted.site a.search a.whole p.stays p.frame p.others p.inside

  -- a frame at its end, inside another
  pub record EndsAt : Type 0 where
    pub frame : Frame
    pub around-it : Frame
    pub others : List Frame
    pub rest : List Tree
    pub ending : Ending form k left right frames s frame around-it others rest
    pub whole : top (around (frame ∷ around-it ∷ others) rest) ≡ t

  ends_at : (b : Bool) → b ≡ false → (Fs : List Frame) (ts : List Tree) (old : Tree) (outer : List Frame) (rest : List Tree) → Site b Fs ts old outer rest → Searching form k left right frames s Fs ts
      → top (around Fs ts) ≡ t → own form k old ≡ stay → (G : Frame) (Gs : List Frame) → outer ≡ G ∷ Gs → EndsAt
  unfolding own
  ends_at b q Fs ts old outer rest (at_row o w) x y z G Gs i = absurd (false≢true (sym q))
  ends_at b q Fs ts old outer rest (at-end {F = F} e) x y z G Gs i =
      record {
        frame = F;
        around-it = G;
        others = Gs;
        rest = rest;
        ending = record { search = subst (λ (Z : List Frame). Searching form k left right frames s (F ∷ Z) rest) i x; full = e; stays = z };
        whole = ap (λ (Z : List Frame). top (around (F ∷ Z) rest)) (sym i) ∙ y;
      }

  pub ending_of : s.here ≡ false → Passing form k left right frames s t → EndsAt
  ending_of e p =
      let a = p.halted.all in
      ends_at s.here e a.frames_around a.trees p.halted.tree p.halted.outer p.halted.rest p.halted.site a.search a.whole p.stays p.frame p.others p.inside

  -- what is asked for
  pub here-ready : s.here ≡ true → Room left right frames s → Passing form k left right frames s t → Passable right frames s × (row_in (get_or frames (s.d - 1) 0) < s.l)
  here-ready e room p =
      let r = resting-of e p in
      (skip-ready form k left right frames s room r.frame r.others (node r.head r.type r.below) r.rest r.resting.search r.resting.looked.inside, frame-inside r.frame r.others s.d refl r.resting.search.kept)

  pub record Leavable : Type 0 where
    pub deep : 2 ≤ s.d
    pub few : s.d ≤ 4096
    pub shallow : s.d ≤ length frames
    pub inner : 8 * row_in (get_or frames (s.d - 1) 0) + 8 ≤ length left
    pub outer : 8 * row_in (get_or frames (s.d - 2) 0) + 16 ≤ length left
    pub owes : 0 < owed_in (get_or frames (s.d - 2) 0)

  pub end-asks : s.here ≡ false → Room left right frames s → Passing form k left right frames s t → Leavable
  end-asks e room p =
      let r = ending_of e p in
      let a = end-ready form k left right frames s r.frame r.around-it r.others r.rest r.ending in
      let b = end-rows form k left right frames s r.frame r.around-it r.others r.rest r.ending in
      record {
        deep = a.deep;
        few = omega (arith, a.shallow, room.rows);
        shallow = omega (arith, a.shallow, room.deep);
        inner = omega (arith, b.inner, room.left-long);
        outer = omega (arith, b.outer, room.left-long);
        owes = a.owes;
      }

-- AND GOES ON
pub here_on : (left left' right frames frames' : List ℕ) (s s' : Stand) → Room left right frames s → s.here ≡ true → Passable right frames s → Passes left left' right frames frames' s (fits_here left right frames s) s'
    → GoesOn left left' right frames frames' s s'
here_on left left' right frames frames' s s' room e ready x =
    let q = passed-long left left' right frames frames' s s' (fits_here left right frames s) room ready x in
    record {
      room = q.0;
      less = q.3;
      reached = λ form k t p.
          let r = resting-of form k left right frames s t e p in
          let y = passed-by form k left right frames s left' frames' s' r.frame r.others r.head r.type r.below r.rest room r.resting x in
          record { frames_around = y.frames_around; trees = y.trees; search = y.search; whole = ap top y.whole ∙ r.whole };
    }

pub end_on : (left right frames frames' : List ℕ) (s s' : Stand) → Room left right frames s → s.here ≡ false → 2 ≤ s.d → Leaves frames frames' s (fits_end left frames s) s' → GoesOn left left right frames frames' s s'
unfolding ahead
end_on left right frames frames' s s' room e deep x =
    let b : length frames' ≡ length frames = ap length x.numbers ∙ length-set frames (s.d - 2) (passed_number (get_or frames (s.d - 2) 0) (fits_end left frames s)) in
    let r : s'.r ≡ s.r = ap (λ (y : Stand). y.r) x.stand in
    let l : s'.l ≡ s.l = ap (λ (y : Stand). y.l) x.stand in
    let d : s'.d ≡ s.d - 1 = ap (λ (y : Stand). y.d) x.stand in
    record {
      room = record { ends = omega (arith, r, room.ends); few = room.few; rows = omega (arith, r, l, room.rows); left-long = omega (arith, r, l, room.left-long); deep = omega (arith, r, l, b, room.deep) };
      less = omega (arith, r, d, deep);
      reached = λ form k t p.
          let z = ending_of form k left right frames s t e p in
          let y = left_by form k left right frames s frames' s' z.frame z.around-it z.others z.rest room z.ending x in
          record { frames_around = y.frames_around; trees = y.trees; search = y.search; whole = ap top y.whole ∙ z.whole };
    }
