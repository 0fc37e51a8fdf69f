-- What the bytes tell of a tree that is passed: whether it is a value, and whether its frame wants values. Assumes nothing.
use Prim.Native.Nat.{ℕ, zero, suc, ◌+◌, ◌*◌, ◌-◌, ◌<◌, ◌≤◌}
use mathlib.Core.Path.{◌≡◌, refl, ap, sym, ◌∙◌}
use mathlib.Core.Bool.{Bool, true, false, cond, not}
use mathlib.Core.List.{List, [], ◌∷◌, ◌++◌, map, append_assoc}
use native.Mathlib.Omega.{arith}
use native.Mathlib.Decide.{dec_lt}
use borrow.Author.Tests.{lt-ltb, le-ltb}
use lib.Dec.{eqb}
use lib.ListN.{length, get_or, drop, length-append}
use Rattle.layout.proofs.Laws.{term-row}
use Rattle.meaning.specs.Bytes.{◌∧ᵇ◌, read, term_row}
use Rattle.meaning.specs.Types.{Form, member}
use Rattle.meaning.specs.Terms.{Head, arity, code, Tree, Forest, node, head_of, ty_of, is, Row, raw, kind_no, flat, flats, kids}
use Rattle.meaning.specs.Typing.{first_is}
use Rattle.meaning.specs.Steps.{value, value_kinds, made_of_values}
use Rattle.search.specs.Frames.{zips, spelled, Frame, below, row_of_frame, passed_rows, Open, Passed}
use Rattle.search.specs.Kept.{table, to_come, row_count, row_in, flag_in, kind_at, first_kind, wants, wants_here, fits_here, value_end, fits_end, Held, Kept, Passes, Leaves}
use Rattle.search.specs.Search.{Searching, Reached, Room, Resting, Ending}
use Rattle.search.specs.declared.Stand.{Stand}
use Rattle.search.proofs.Over.{spelled-some}
use Rattle.search.proofs.Tables.{row-behind}
use Rattle.search.proofs.Entries.{rows_long}
use Rattle.search.proofs.Frames.{value-left, leaving}
use Rattle.search.proofs.Changes.{tree_of_frame, left-frame, kept-around, end-ready}
use Rattle.search.proofs.Ends.{here-passed}

pub told-itself : (b : Bool) → b ≡ cond b true false
told-itself true = refl
told-itself false = refl

-- a row's kind is its first byte
pub kind-at : (s : List ℕ) (i : ℕ) (x : Row) → read term_row (drop (8 * i) s) ≡ raw x → kind_at s i ≡ code x.head
unfolding raw
kind-at s i x e = sym (ap kind_no (term-row (8 * i) s)) ∙ ap kind_no e

-- rows begin with that of the first tree
first-row : (t : Tree) (ts : List Tree) → (l : List Row) × (spelled (t ∷ ts) ≡ record { head = head_of t; type = ty_of t } ∷ l)
unfolding spelled flat head_of ty_of
first-row (node h u f) ts = (flats f ++ spelled ts, refl)

pub here-kind : (right : List ℕ) (r : ℕ) (t : Tree) (ts : List Tree) → to_come right r ≡ map raw (spelled (t ∷ ts)) → kind_at right r ≡ code (head_of t)
unfolding to_come
here-kind right r t ts q =
    let (l, e) = first-row t ts in
    kind-at right r (record { head = head_of t; type = ty_of t }) (row-behind right (8 * r) (row_count right - r) (8 * r) [] l (record { head = head_of t; type = ty_of t }) (omega arith) (q ∙ ap (map raw) e))

nothing-spelled : length (spelled []) ≡ 0
unfolding spelled
nothing-spelled = refl

first-is : (n : ℕ) (t : Tree) (ts : List Tree) → 0 < n → first_is 15 (kids n (t ∷ ts)) ≡ eqb (code (head_of t)) 15
unfolding kids first_is is
first-is zero t ts h = absurd (omega arith)
first-is (suc n) t ts h = refl

-- the frame's row, and its first tree where one was passed
module _ (left frames : List ℕ) (l d i : ℕ) (F : Frame) (Fs : List Frame) (ds : d ≡ suc i) (k : Kept left frames l d (F ∷ Fs)) where
  frame_at : row_in (get_or frames i 0) ≡ length (passed_rows Fs)
  unfolding Held
  frame_at = (rw ds at k.held).0.at

  frame-long : l ≡ row_in (get_or frames i 0) + suc (length (spelled F.before))
  unfolding passed_rows
  frame-long = omega (arith, rows_long left frames l d (F ∷ Fs) k, frame_at, length-append (passed_rows Fs) (row_of_frame F ∷ spelled F.before))

  pub frame-inside : row_in (get_or frames i 0) < l
  frame-inside = omega (arith, frame-long)

  pub frame-kind : kind_at left (row_in (get_or frames i 0)) ≡ code F.head
  unfolding passed_rows
  frame-kind = kind-at left (row_in (get_or frames i 0)) (row_of_frame F) (row-behind left 0 l (8 * row_in (get_or frames i 0)) (passed_rows Fs) (spelled F.before) (row_of_frame F) (omega (arith, frame_at)) k.rows)

  frame-first : (b : Tree) (B : List Tree) → F.before ≡ b ∷ B → kind_at left (row_in (get_or frames i 0) + 1) ≡ code (head_of b)
  unfolding passed_rows
  frame-first b B e =
      let (m, q) = first-row b B in
      let x : Row = record { head = head_of b; type = ty_of b } in
      let rows : table left 0 l ≡ map raw ((passed_rows Fs ++ (row_of_frame F ∷ [])) ++ (x ∷ m)) =
      k.rows ∙ ap (λ (ts : List Tree). map raw (passed_rows Fs ++ (row_of_frame F ∷ spelled ts))) e ∙ ap (λ (y : List Row). map raw (passed_rows Fs ++ (row_of_frame F ∷ y))) q
      ∙ ap (map raw) (sym (append_assoc (passed_rows Fs) (row_of_frame F ∷ []) (x ∷ m))) in
      kind-at left (row_in (get_or frames i 0) + 1) x (row-behind left 0 l (8 * (row_in (get_or frames i 0) + 1)) (passed_rows Fs ++ (row_of_frame F ∷ [])) m x (omega (arith, frame_at, length-append (passed_rows Fs) (row_of_frame F ∷ []))) rows)

  -- the kind of its first tree, passed or at the search
  pub first_kind_lem : (t : Tree) (ts : List Tree) (c : ℕ) → c ≡ code (head_of t) → 0 < arity F.head → first_is 15 (below F (t ∷ ts)) ≡ eqb (first_kind left l (row_in (get_or frames i 0)) c) 15
  unfolding below first_kind
  first_kind_lem t ts c e n = by_before F.before refl
    where
      by_before : (B : List Tree) → F.before ≡ B → first_is 15 (kids (arity F.head) (F.before ++ (t ∷ ts))) ≡ eqb (first_kind left l (row_in (get_or frames i 0)) c) 15
      by_before [] q =
          let none : length (spelled F.before) ≡ 0 = ap (λ (x : List Tree). length (spelled x)) q ∙ nothing-spelled in
          rw (le-ltb (row_in (get_or frames i 0) + 1) l (omega (arith, frame-long, none)), e) (ap (λ (x : List Tree). first_is 15 (kids (arity F.head) (x ++ (t ∷ ts)))) q ∙ first-is (arity F.head) t ts n)
      by_before (b ∷ B) q =
          let some : 1 ≤ length (spelled F.before) = rw q (spelled-some b B) in
          rw (lt-ltb (row_in (get_or frames i 0) + 1) l (omega (arith, frame-long, some)), frame-first b B q)
          (ap (λ (x : List Tree). first_is 15 (kids (arity F.head) (x ++ (t ∷ ts)))) q ∙ first-is (arity F.head) b (B ++ (t ∷ ts)) n)

-- A TREE WHOSE OWN RULE STAYS is as the frame wants it if the bytes say so
module _ (form : ℕ → Form) (k : ℕ) (left right frames : List ℕ) (s : Stand) where
  pub some-frame : (F : Frame) (Fs : List Frame) (d : ℕ) → Held frames d (F ∷ Fs) → d ≡ suc (d - 1)
  unfolding Held
  some-frame F Fs zero h = absurd h
  some-frame F Fs (suc d) h = omega arith

  -- its frame wants a value if the bytes say so
  pub wants-here : (F : Frame) (Fs : List Frame) (t : Tree) (ts : List Tree) → Searching form k left right frames s (F ∷ Fs) (t ∷ ts) → 0 < arity F.head
      → not (zips F.head (below F (t ∷ ts))) ≡ wants_here left right frames s
  unfolding wants_here wants zips
  wants-here F Fs t ts x n =
      let ds = some-frame F Fs s.d x.kept.held in
      let fk = first_kind_lem left frames s.l s.d (s.d - 1) F Fs ds x.kept t ts (kind_at right s.r) (here-kind right s.r t ts x.coming) n in
      cc (frame-kind left frames s.l s.d (s.d - 1) F Fs ds x.kept, fk)

  pub fits-here : (F : Frame) (Fs : List Frame) (h : Head) (u : ℕ) (f : Forest (arity h)) (ts : List Tree) → Resting form k left right frames s F Fs h u f ts
      → (not (zips F.head (below F (node h u f ∷ ts))) ∧ᵇ member (code h) value_kinds) ≡ fits_here left right frames s
  unfolding fits_here head_of
  fits-here F Fs h u f ts x = cc (wants-here F Fs (node h u f) ts x.search (omega (arith, x.looked.inside)), here-kind right s.r (node h u f) ts x.search.coming)

  pub passed-by : (left' frames' : List ℕ) (s' : Stand) (F : Frame) (Fs : List Frame) (h : Head) (u : ℕ) (f : Forest (arity h)) (ts : List Tree) → Room left right frames s
      → Resting form k left right frames s F Fs h u f ts → Passes left left' right frames frames' s (fits_here left right frames s) s'
      → Reached form k (F ∷ Fs) (node h u f ∷ ts) left' right frames' s'
  passed-by left' frames' s' F Fs h u f ts room x p = here-passed form k left right frames s left' frames' s' (fits_here left right frames s) F Fs h u f ts room x (fits-here F Fs h u f ts x) p

-- A FRAME WHOSE OWN RULE STAYS
module _ (form : ℕ → Form) (k : ℕ) (left right frames : List ℕ) (s : Stand) where
  -- whether its tree is a value
  flag-of : (d i : ℕ) (F : Frame) (Fs : List Frame) → d ≡ suc i → Held frames d (F ∷ Fs) → flag_in (get_or frames i 0) ≡ F.clear
  unfolding Held
  flag-of d i F Fs e h = (rw e at h).0.flag

  pub end-kind : (F : Frame) (Fs : List Frame) (ts : List Tree) → Searching form k left right frames s (F ∷ Fs) ts → kind_at left (row_in (get_or frames (s.d - 1) 0)) ≡ code F.head
  end-kind F Fs ts x = frame-kind left frames s.l s.d (s.d - 1) F Fs (some-frame form k left right frames s F Fs s.d x.kept.held) x.kept

  pub value-end : (F : Frame) (Fs : List Frame) (ts : List Tree) → Searching form k left right frames s (F ∷ Fs) ts → (member (code F.head) made_of_values ∧ᵇ F.clear) ≡ value_end left frames (s.d - 1)
  unfolding value_end
  value-end F Fs ts x =
      let ds = some-frame form k left right frames s F Fs s.d x.kept.held in
      cc (frame-kind left frames s.l s.d (s.d - 1) F Fs ds x.kept, flag-of s.d (s.d - 1) F Fs ds x.kept.held)

  -- the first tree of the frame around it, passed or its own
  first-end : (F G : Frame) (Gs : List Frame) → Kept left frames s.l s.d (F ∷ G ∷ Gs) → s.d ≡ suc (suc (s.d - 2))
      → first_kind left (length (passed_rows (G ∷ Gs))) (row_in (get_or frames (s.d - 2) 0)) (code F.head) ≡ kind_at left (row_in (get_or frames (s.d - 2) 0) + 1)
  unfolding first_kind passed_rows
  first-end F G Gs kept e =
      let i : s.d ≡ suc (s.d - 1) = omega arith in
      let j : s.d - 1 ≡ suc (s.d - 2) = omega arith in
      let g = frame_at left frames _ (s.d - 1) (s.d - 2) G Gs j (kept-around left frames s.l s.d F (G ∷ Gs) kept) in
      let f = frame_at left frames s.l s.d (s.d - 1) F (G ∷ Gs) i kept in
      let n : length (passed_rows (G ∷ Gs)) ≡ length (passed_rows Gs) + suc (length (spelled G.before)) = length-append (passed_rows Gs) (row_of_frame G ∷ spelled G.before) in
      elim (dec_lt (row_in (get_or frames (s.d - 2) 0) + 1) (length (passed_rows (G ∷ Gs)))) [
        | yes y ↦ rw (lt-ltb (row_in (get_or frames (s.d - 2) 0) + 1) (length (passed_rows (G ∷ Gs))) y) refl
        | no y ↦
            let same : row_in (get_or frames (s.d - 1) 0) ≡ row_in (get_or frames (s.d - 2) 0) + 1 = omega (arith, g, f, n, y) in
            rw (le-ltb (row_in (get_or frames (s.d - 2) 0) + 1) (length (passed_rows (G ∷ Gs))) (omega (arith, y)))
            (sym (frame-kind left frames s.l s.d (s.d - 1) F (G ∷ Gs) i kept) ∙ ap (kind_at left) same)
      ]

  -- what is asked of the bytes: the rows of both frames are among those passed
  pub record EndRows : Type 0 where
    pub inner : row_in (get_or frames (s.d - 1) 0) < s.l
    pub outer : row_in (get_or frames (s.d - 2) 0) + 1 < s.l

  pub end-rows : (F G : Frame) (Gs : List Frame) (ts : List Tree) → Ending form k left right frames s F G Gs ts → EndRows
  unfolding passed_rows
  end-rows F G Gs ts x =
      let kept = x.search.kept in
      let ready = end-ready form k left right frames s F G Gs ts x in
      let i : s.d ≡ suc (s.d - 1) = omega (arith, ready.deep) in
      let j : s.d - 1 ≡ suc (s.d - 2) = omega (arith, ready.deep) in
      let g = frame_at left frames _ (s.d - 1) (s.d - 2) G Gs j (kept-around left frames s.l s.d F (G ∷ Gs) kept) in
      let f = frame-long left frames s.l s.d (s.d - 1) F (G ∷ Gs) i kept in
      let f' = frame_at left frames s.l s.d (s.d - 1) F (G ∷ Gs) i kept in
      let n : length (passed_rows (G ∷ Gs)) ≡ length (passed_rows Gs) + suc (length (spelled G.before)) = length-append (passed_rows Gs) (row_of_frame G ∷ spelled G.before) in
      record { inner = omega (arith, f); outer = omega (arith, f, f', g, n) }

  pub fits-end : (F G : Frame) (Gs : List Frame) (ts : List Tree) → Ending form k left right frames s F G Gs ts
      → (not (zips G.head (below G (tree_of_frame F ts ∷ ts))) ∧ᵇ value (tree_of_frame F ts)) ≡ fits_end left frames s
  unfolding fits_end wants zips Passed head_of Open
  fits-end F G Gs ts x =
      let kept = x.search.kept in
      let ready = end-ready form k left right frames s F G Gs ts x in
      let e : s.d ≡ suc (suc (s.d - 2)) = omega (arith, ready.deep) in
      let j : s.d - 1 ≡ suc (s.d - 2) = omega (arith, ready.deep) in
      let outer = kept-around left frames s.l s.d F (G ∷ Gs) kept in
      let (o, q, w) = leaving form k F (G ∷ Gs) ts x.search.passed x.full in
      let fk = first_kind_lem left frames _ (s.d - 1) (s.d - 2) G Gs j outer (tree_of_frame F ts) ts (code F.head) refl (omega (arith, o.inside)) in
      let fe = first-end F G Gs kept e in
      let gk = frame-kind left frames _ (s.d - 1) (s.d - 2) G Gs j outer in
      cc (gk, fk ∙ ap (λ (c : ℕ). eqb c 15) fe, value-left form k F ts x.full x.search.passed.0 ∙ value-end F (G ∷ Gs) ts x.search)

  pub left_by : (frames' : List ℕ) (s' : Stand) (F G : Frame) (Gs : List Frame) (ts : List Tree) → Room left right frames s → Ending form k left right frames s F G Gs ts
      → Leaves frames frames' s (fits_end left frames s) s' → Reached form k (F ∷ G ∷ Gs) ts left right frames' s'
  left_by frames' s' F G Gs ts room x p = left-frame form k left right frames s frames' s' (fits_end left frames s) F G Gs ts room x (fits-end F G Gs ts x) p
