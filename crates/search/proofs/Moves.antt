-- The loop of the search: what holds at its head, and that a tree passed, a row entered and a frame left keep it. Assumes nothing.
use Prim.Native.Nat.{ℕ, zero, suc, ◌+◌, ◌*◌, ◌-◌, ◌<◌, ◌≤◌}
use mathlib.Core.Path.{◌≡◌, refl, ap, sym, ◌∙◌}
use mathlib.Core.Bool.{Bool, true}
use mathlib.Core.List.{List, [], ◌∷◌}
use native.Mathlib.Omega.{arith}
use lib.ListN.{length, get_or, drop, length-set}
use Rattle.meaning.specs.Types.{Form, member}
use Rattle.meaning.specs.Bytes.{read, term_row}
use Rattle.meaning.specs.Terms.{Tree, node, head_of, size, arity, row_of}
use Rattle.meaning.specs.Steps.{value, value_kinds, made_of_values, stay, looks, step}
use Rattle.meaning.proofs.Steps.Progress.{value_stays as value-steps-not}
use Rattle.terms.proofs.Scan.{size-some}
use Rattle.search.specs.Frames.{Frame, below, Open}
use Rattle.search.specs.Kept.{row_count, kind_at, row_in, owed_in, tree_here, wants_here, fits_here, fits_end, moved, entered_number, passed_number, Held, Enters, Passes, Leaves}
use Rattle.search.specs.Search.{Searching, Seen, done, enter, here, Room, Somewhere, Sees, Reached, Ending, ahead, stop, Went, Stops}
use Rattle.search.specs.declared.Stand.{Stand}
use Rattle.search.specs.declared.Sight.{Sight}
use Rattle.search.specs.declared.Sight.TheVariants.{Done, Skip, Enter, Here}
use Rattle.search.proofs.Tables.{copied-length}
use Rattle.search.proofs.Entries.{frames-few}
use Rattle.search.proofs.Frames.{and-true, passing}
use Rattle.search.proofs.Turns.{Passable, some-row, tree-here, tree-passed, skip-ready, skips, enter-ready, room_moved, skipped, stepped-in, reached-again}
use Rattle.search.proofs.Changes.{end-ready}
use Rattle.search.proofs.Fits.{here-kind, frame-inside, some-frame, wants-here, passed-by, end-kind, end-rows, left_by}
use Rattle.search.proofs.Values.{value_stays, built-stays}

-- a move keeps lengths and room and brings the search on
pub record GoesOn (x : Sight) (left left' right frames frames' : List ℕ) (s s' : Stand) : Type 0 where
  pub room : Room left' right frames' s'
  pub left-long : length left' ≡ length left
  pub frames-long : length frames' ≡ length frames
  pub less : ahead right s' < ahead right s
  pub reached : (form : ℕ → Form) (k : ℕ) (Fs : List Frame) (ts : List Tree) → Searching form k left right frames s Fs ts → Seen x Fs ts → Reached form k Fs ts left' right frames' s'

-- A TREE IS PASSED
pub passed-long : (left left' right frames frames' : List ℕ) (s s' : Stand) (fine : Bool) → Room left right frames s → Passable right frames s → Passes left left' right frames frames' s fine s'
    → Room left' right frames' s' × (length left' ≡ length left) × (length frames' ≡ length frames) × (ahead right s' < ahead right s)
unfolding ahead moved
passed-long left left' right frames frames' s s' fine room ready p =
    let n = size (tree_here right s.r) in
    let some = size-some (tree_here right s.r) in
    let a = copied-length left right left' s.l s.r n (omega (arith, room.left-long, ready.small)) (omega (arith, room.ends, ready.small)) p.bytes in
    let b : length frames' ≡ length frames = ap length p.numbers ∙ length-set frames (s.d - 1) (passed_number (get_or frames (s.d - 1) 0) fine) in
    let r : s'.r ≡ s.r + n = ap (λ (y : Stand). y.r) p.stand in
    let d : s'.d ≡ s.d + 0 = ap (λ (y : Stand). y.d) p.stand in
    (rw p.stand (room_moved left left' right frames frames' s n 0 room a b ready.small), a, b, omega (arith, r, d, some, ready.small))

pub skip-on : (left left' right frames frames' : List ℕ) (s s' : Stand) → Room left right frames s → Passable right frames s → Passes left left' right frames frames' s true s' → GoesOn Skip left left' right frames frames' s s'
skip-on left left' right frames frames' s s' room ready p =
    let q = passed-long left left' right frames frames' s s' true room ready p in
    record { room = q.0; left-long = q.1; frames-long = q.2; less = q.3; reached = λ form k Fs ts x y. skipped form k left right frames s room left' frames' s' Fs ts x y p }

-- A ROW IS ENTERED
pub enter-on : (left left' right frames frames' : List ℕ) (s s' : Stand) → Room left right frames s → s.r < row_count right → Enters left left' right frames frames' s s' → GoesOn Enter left left' right frames frames' s s'
unfolding ahead moved
enter-on left left' right frames frames' s s' room h p =
    let a = copied-length left right left' s.l s.r 1 (omega (arith, room.left-long)) (omega (arith, room.ends)) p.bytes in
    let b : length frames' ≡ length frames = ap length p.numbers ∙ length-set frames s.d (entered_number s.l (arity (row_of (read term_row (drop (8 * s.r) right))).head)) in
    let r : s'.r ≡ s.r + 1 = ap (λ (y : Stand). y.r) p.stand in
    let d : s'.d ≡ s.d + 1 = ap (λ (y : Stand). y.d) p.stand in
    record {
      room = rw p.stand (room_moved left left' right frames frames' s 1 1 room a b (omega arith));
      left-long = a;
      frames-long = b;
      less = omega (arith, r, d);
      reached = λ form k Fs ts x y. stepped-in form k left right frames s room left' frames' s' Fs ts x y p;
    }

-- VALUES -------------------------------------------------------------------------------------------------------------

-- what is asked for of a tree of a frame's, and of a frame inside another one
pub record InFrame (right frames : List ℕ) (s : Stand) : Type 0 where
  pub passable : Passable right frames s
  pub inside : row_in (get_or frames (s.d - 1) 0) < s.l

pub record Leavable (left frames : List ℕ) (s : Stand) : Type 0 where
  pub few : s.d ≤ 4096
  pub shallow : s.d ≤ length frames
  pub inner : 8 * row_in (get_or frames (s.d - 1) 0) + 8 ≤ length left
  pub outer : 8 * row_in (get_or frames (s.d - 2) 0) + 16 ≤ length left
  pub owes : 0 < owed_in (get_or frames (s.d - 2) 0)

module _ (form : ℕ → Form) (k : ℕ) (left right frames : List ℕ) (s : Stand) (room : Room left right frames s) where
  abbrev At : List Frame → List Tree → Type 0
  At Fs ts = Searching form k left right frames s Fs ts

  no-frame : (d : ℕ) {A : Type 0} → 0 < d → Held frames d [] → A
  unfolding Held
  no-frame zero h x = absurd (omega arith)
  no-frame (suc d) h x = absurd x

  one-frame : (d : ℕ) {A : Type 0} (F : Frame) → 1 < d → Held frames d (F ∷ []) → A
  unfolding Held
  one-frame zero F h x = absurd (omega arith)
  one-frame (suc zero) F h x = absurd (omega arith)
  one-frame (suc (suc d)) F h (e, x) = absurd x

  in_frame : (F : Frame) (Fs : List Frame) (t : Tree) (ts : List Tree) → At (F ∷ Fs) (t ∷ ts) → length F.before < arity F.head → InFrame right frames s
  in_frame F Fs t ts x i =
      record {
        passable = skip-ready form k left right frames s room F Fs t ts x i;
        inside = frame-inside left frames s.l s.d (s.d - 1) F Fs (some-frame form k left right frames s F Fs s.d x.kept.held) x.kept;
      }

  -- a row whose own rule is tried
  pub here-row : (Fs : List Frame) (ts : List Tree) → At Fs ts → Seen Here Fs ts → s.r < row_count right
  here-row Fs ts x (here {h = h} {u = u} {f = f} {ts = ts'} o w) = omega (arith, size-some (node h u f), some-row right s.r (node h u f) ts' x.coming)

  pub here_in : (Fs : List Frame) (ts : List Tree) → 0 < s.d → At Fs ts → Seen Here Fs ts → InFrame right frames s
  unfolding Open
  here_in [] ts d x y = no-frame s.d d x.kept.held
  here_in (F ∷ Fs) ts d x (here {h = h} {u = u} {f = f} {ts = ts'} o w) = in_frame F Fs (node h u f) ts' x o.inside

  -- is passed where it is a value
  pub rested : (left' frames' : List ℕ) (s' : Stand) (Fs : List Frame) (ts : List Tree) → 0 < s.d → member (kind_at right s.r) value_kinds ≡ true → At Fs ts → Seen Here Fs ts
      → Passes left left' right frames frames' s (fits_here left right frames s) s' → Reached form k Fs ts left' right frames' s'
  unfolding Open head_of
  rested left' frames' s' [] ts d e x y p = no-frame s.d d x.kept.held
  rested left' frames' s' (F ∷ Fs) ts d e x (here {h = h} {u = u} {f = f} {ts = ts'} o w) p =
      let v = ap (λ (i : ℕ). member i value_kinds) (sym (here-kind right s.r (node h u f) ts' x.coming)) ∙ e in
      passed-by form k left right frames s left' frames' s' F Fs h u f ts' room (record { search = x; looked = o; rests = w; stays = value_stays form k u h f v }) p

  -- a row that waits
  pub enter-tree : (Fs : List Frame) (ts : List Tree) → At Fs ts → Seen Enter Fs ts → (size (tree_here right s.r) ≤ row_count right - s.r) × (s.d ≤ s.l)
  enter-tree Fs ts x (enter {h = h} {u = u} {f = f} {ts = ts'} o w) =
      (rw (tree-here right s.r (node h u f) ts' x.coming) (some-row right s.r (node h u f) ts' x.coming), frames-few left frames s.l s.d Fs x.kept)

  pub enter-in : (Fs : List Frame) (ts : List Tree) → 0 < s.d → At Fs ts → Seen Enter Fs ts → InFrame right frames s
  unfolding Open
  enter-in [] ts d x y = no-frame s.d d x.kept.held
  enter-in (F ∷ Fs) ts d x (enter {h = h} {u = u} {f = f} {ts = ts'} o w) = in_frame F Fs (node h u f) ts' x o.inside

  -- is passed with its tree where that is a value
  pub whole-passed : (left' frames' : List ℕ) (s' : Stand) (Fs : List Frame) (ts : List Tree) → 0 < s.d → value (tree_here right s.r) ≡ true → At Fs ts → Seen Enter Fs ts
      → Passes left left' right frames frames' s (wants_here left right frames s) s' → Reached form k Fs ts left' right frames' s'
  unfolding Open
  whole-passed left' frames' s' [] ts d e x y p = no-frame s.d d x.kept.held
  whole-passed left' frames' s' (F ∷ Fs) ts d e x (enter {h = h} {u = u} {f = f} {ts = ts'} o w) p =
      let t : Tree = node h u f in
      let v : value t ≡ true = ap value (sym (tree-here right s.r t ts' x.coming)) ∙ e in
      let still : looks F.head (below F (t ∷ ts')) (length F.before) ≡ true → step form k t ≡ stay = (λ y. value-steps-not form k t v) in
      let fine = and-true _ ∙ wants-here form k left right frames s F Fs t ts' x (omega (arith, o.inside)) in
      tree-passed form k left right frames s room left' frames' s' (wants_here left right frames s) F Fs t ts' x o.inside still
      (passing form k F Fs t (wants_here left right frames s) ts' x.passed still (rw (o.seen, v) fine)) p

  -- a frame whose trees are passed
  pub done-frame : (Fs : List Frame) (ts : List Tree) → At Fs ts → Seen Done Fs ts → (s.d ≤ s.l) × (row_in (get_or frames (s.d - 1) 0) < s.l)
  done-frame Fs ts x (done {F = F} {Fs = Gs} e) =
      (frames-few left frames s.l s.d Fs x.kept, frame-inside left frames s.l s.d (s.d - 1) F Gs (some-frame form k left right frames s F Gs s.d x.kept.held) x.kept)

  -- in another one, made of values
  pub record EndsIn (Fs : List Frame) (ts : List Tree) : Type 0 where
    pub frame : Frame
    pub around-it : Frame
    pub others : List Frame
    pub same : Fs ≡ frame ∷ around-it ∷ others
    pub ending : Ending form k left right frames s frame around-it others ts

  pub ends-in : (Fs : List Frame) (ts : List Tree) → 1 < s.d → member (kind_at left (row_in (get_or frames (s.d - 1) 0))) made_of_values ≡ true → At Fs ts → Seen Done Fs ts → EndsIn Fs ts
  ends-in Fs ts d b x (done {F = F} {Fs = Gs} e) = inner Gs x
    where
      inner : (Gs : List Frame) → At (F ∷ Gs) ts → EndsIn (F ∷ Gs) ts
      inner [] y = one-frame s.d F d y.kept.held
      inner (G ∷ Gs) y =
          record {
            frame = F;
            around-it = G;
            others = Gs;
            same = refl;
            ending = record {
              search = y;
              full = e;
              stays = built-stays form k F.type F.head (below F ts) (ap (λ (i : ℕ). member i made_of_values) (sym (end-kind form k left right frames s F (G ∷ Gs) ts y)) ∙ b);
            };
          }

  pub leavable : (Fs : List Frame) (ts : List Tree) → EndsIn Fs ts → Leavable left frames s
  leavable Fs ts y =
      let a = end-ready form k left right frames s y.frame y.around-it y.others ts y.ending in
      let b = end-rows form k left right frames s y.frame y.around-it y.others ts y.ending in
      record {
        few = omega (arith, a.shallow, room.rows);
        shallow = omega (arith, a.shallow, room.deep);
        inner = omega (arith, b.inner, room.left-long);
        outer = omega (arith, b.outer, room.left-long);
        owes = a.owes;
      }

  pub left-again : (frames' : List ℕ) (s' : Stand) (Fs : List Frame) (ts : List Tree) → EndsIn Fs ts → Leaves frames frames' s (fits_end left frames s) s' → Reached form k Fs ts left right frames' s'
  left-again frames' s' Fs ts y p = rw y.same (left_by form k left right frames s frames' s' y.frame y.around-it y.others ts room y.ending p)

-- A ROW THAT IS A VALUE IS PASSED
pub rest-on : (left left' right frames frames' : List ℕ) (s s' : Stand) → Room left right frames s → Passable right frames s → member (kind_at right s.r) value_kinds ≡ true
    → Passes left left' right frames frames' s (fits_here left right frames s) s' → GoesOn Here left left' right frames frames' s s'
rest-on left left' right frames frames' s s' room ready e p =
    let q = passed-long left left' right frames frames' s s' (fits_here left right frames s) room ready p in
    record { room = q.0; left-long = q.1; frames-long = q.2; less = q.3; reached = λ form k Fs ts x y. rested form k left right frames s room left' frames' s' Fs ts ready.inside e x y p }

-- A TREE THAT IS A VALUE IS PASSED
pub whole-on : (left left' right frames frames' : List ℕ) (s s' : Stand) → Room left right frames s → Passable right frames s → value (tree_here right s.r) ≡ true
    → Passes left left' right frames frames' s (wants_here left right frames s) s' → GoesOn Enter left left' right frames frames' s s'
whole-on left left' right frames frames' s s' room ready e p =
    let q = passed-long left left' right frames frames' s s' (wants_here left right frames s) room ready p in
    record { room = q.0; left-long = q.1; frames-long = q.2; less = q.3; reached = λ form k Fs ts x y. whole-passed form k left right frames s room left' frames' s' Fs ts ready.inside e x y p }

-- A FRAME THAT IS MADE OF VALUES IS LEFT
pub leave-on : (left right frames frames' : List ℕ) (s s' : Stand) → Room left right frames s → 1 < s.d → member (kind_at left (row_in (get_or frames (s.d - 1) 0))) made_of_values ≡ true
    → Leaves frames frames' s (fits_end left frames s) s' → GoesOn Done left left right frames frames' s s'
unfolding ahead
leave-on left right frames frames' s s' room deep b p =
    let n : length frames' ≡ length frames = ap length p.numbers ∙ length-set frames (s.d - 2) (passed_number (get_or frames (s.d - 2) 0) (fits_end left frames s)) in
    let r : s'.r ≡ s.r = ap (λ (y : Stand). y.r) p.stand in
    let l : s'.l ≡ s.l = ap (λ (y : Stand). y.l) p.stand in
    let d : s'.d ≡ s.d - 1 = ap (λ (y : Stand). y.d) p.stand in
    record {
      room = record { ends = omega (arith, r, room.ends); few = room.few; rows = omega (arith, r, l, room.rows); left-long = omega (arith, r, l, room.left-long); deep = omega (arith, r, l, n, room.deep) };
      left-long = refl;
      frames-long = n;
      less = omega (arith, r, d);
      reached = λ form k Fs ts x y. left-again form k left right frames s room frames' s' Fs ts (ends-in form k left right frames s room Fs ts deep b x y) p;
    }

-- THE HEAD OF THE LOOP
pub went-nowhere : (left right frames : List ℕ) (s : Stand) → Room left right frames s → Went left left right frames frames s s
went-nowhere left right frames s room =
    record { room = room; left-long = refl; frames-long = refl; less = omega arith; reached = λ form k Fs ts x. record { frames_around = Fs; trees = ts; search = x; whole = refl } }

-- one way after another
pub went_then : (left₀ left left' right frames₀ frames frames' : List ℕ) (s₀ s s' : Stand) → Went left₀ left right frames₀ frames s₀ s → Went left left' right frames frames' s s' → Went left₀ left' right frames₀ frames' s₀ s'
went_then left₀ left left' right frames₀ frames frames' s₀ s s' w g =
    record {
      room = g.room;
      left-long = g.left-long ∙ w.left-long;
      frames-long = g.frames-long ∙ w.frames-long;
      less = omega (arith, g.less, w.less);
      reached = λ form k Fs ts y.
          let z = w.reached form k Fs ts y in
          reached-again form k Fs z.frames_around ts z.trees left' right frames' s' z.whole (g.reached form k z.frames_around z.trees z.search);
    }

module _ (left₀ left right frames₀ frames : List ℕ) (s₀ s : Stand) (w : Went left₀ left right frames₀ frames s₀ s) where
  pub somewhere-on : Somewhere left₀ right frames₀ s₀ → Somewhere left right frames s
  somewhere-on x = let y = w.reached x.form x.number x.frames_around x.trees x.search in record { form = x.form; number = x.number; frames_around = y.frames_around; trees = y.trees; search = y.search }

  pub went_on : (x : Sight) (left' frames' : List ℕ) (s' : Stand) → Sees x left right frames s → GoesOn x left left' right frames frames' s s' → Went left₀ left' right frames₀ frames' s₀ s'
  went_on x left' frames' s' sees g =
      record {
        room = g.room;
        left-long = g.left-long ∙ w.left-long;
        frames-long = g.frames-long ∙ w.frames-long;
        less = omega (arith, g.less, w.less);
        reached = λ form k Fs ts y.
            let z = w.reached form k Fs ts y in
            reached-again form k Fs z.frames_around ts z.trees left' right frames' s' z.whole (g.reached form k z.frames_around z.trees z.search (sees form k z.frames_around z.trees z.search));
      }

  -- what is in sight there tells
  seen-there : {A : Type 0} (x : Sight) → Somewhere left₀ right frames₀ s₀ → Sees x left right frames s
      → ((form : ℕ → Form) (k : ℕ) (Fs : List Frame) (ts : List Tree) → Searching form k left right frames s Fs ts → Seen x Fs ts → A) → A
  seen-there x there sees f = let y = somewhere-on there in f y.form y.number y.frames_around y.trees y.search (sees y.form y.number y.frames_around y.trees y.search)

  pub skip-passable : Somewhere left₀ right frames₀ s₀ → Sees Skip left right frames s → Passable right frames s
  skip-passable there sees = seen-there Skip there sees (λ form k Fs ts x y. skips form k left right frames s w.room Fs ts x y)

  pub enter-possible : Somewhere left₀ right frames₀ s₀ → Sees Enter left right frames s → (s.r < row_count right) × (s.d ≤ s.l)
  enter-possible there sees = seen-there Enter there sees (λ form k Fs ts x y. enter-ready form k left right frames s w.room Fs ts x y)

  pub row-there : Somewhere left₀ right frames₀ s₀ → Sees Here left right frames s → s.r < row_count right
  row-there there sees = seen-there Here there sees (λ form k Fs ts x y. here-row form k left right frames s w.room Fs ts x y)

  pub rest-possible : Somewhere left₀ right frames₀ s₀ → Sees Here left right frames s → 0 < s.d → InFrame right frames s
  rest-possible there sees d = seen-there Here there sees (λ form k Fs ts x y. here_in form k left right frames s w.room Fs ts d x y)

  pub tree-there : Somewhere left₀ right frames₀ s₀ → Sees Enter left right frames s → (size (tree_here right s.r) ≤ row_count right - s.r) × (s.d ≤ s.l)
  tree-there there sees = seen-there Enter there sees (λ form k Fs ts x y. enter-tree form k left right frames s w.room Fs ts x y)

  pub whole-possible : Somewhere left₀ right frames₀ s₀ → Sees Enter left right frames s → 0 < s.d → InFrame right frames s
  whole-possible there sees d = seen-there Enter there sees (λ form k Fs ts x y. enter-in form k left right frames s w.room Fs ts d x y)

  pub frame-there : Somewhere left₀ right frames₀ s₀ → Sees Done left right frames s → (s.d ≤ s.l) × (row_in (get_or frames (s.d - 1) 0) < s.l)
  frame-there there sees = seen-there Done there sees (λ form k Fs ts x y. done-frame form k left right frames s w.room Fs ts x y)

  pub leave-possible : Somewhere left₀ right frames₀ s₀ → Sees Done left right frames s → 1 < s.d → member (kind_at left (row_in (get_or frames (s.d - 1) 0))) made_of_values ≡ true → Leavable left frames s
  leave-possible there sees d b = seen-there Done there sees (λ form k Fs ts x y. leavable form k left right frames s w.room Fs ts (ends-in form k left right frames s w.room Fs ts d b x y))

  -- where it stops
  pub stopped-here : (b : Bool) → Sees (stop b) left right frames s → Stops left₀ left right frames₀ frames s₀ (record { l = s.l; r = s.r; d = s.d; here = b })
  unfolding ahead
  stopped-here b sees =
      record {
        room = record { ends = w.room.ends; few = w.room.few; rows = w.room.rows; left-long = w.room.left-long; deep = w.room.deep };
        less = w.less;
        stopped = λ form k Fs ts y.
            let z = w.reached form k Fs ts y in
            let x = z.search in
            record {
              reached = record { frames_around = z.frames_around; trees = z.trees; search = record { kept = x.kept; coming = x.coming; count = x.count; passed = x.passed }; whole = z.whole };
              seen = sees form k z.frames_around z.trees x;
            };
      }
