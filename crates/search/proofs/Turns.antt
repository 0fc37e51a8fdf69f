-- One turn of the search: what is in sight, and that passing and entering go on with it. Assumes nothing.
use Prim.Native.Nat.{ℕ, zero, suc, ◌+◌, ◌*◌, ◌-◌, ◌<◌, ◌≤◌}
use mathlib.Core.Path.{◌≡◌, refl, ap, sym, ◌∙◌}
use mathlib.Core.Bool.{Bool, true, false, false≢true}
use mathlib.Core.List.{List, [], ◌∷◌, ◌++◌, map, append_assoc}
use native.Mathlib.Omega.{arith}
use lib.ListN.{length, get_or, set, drop, length-append, length-map}
use Rattle.meaning.specs.Types.{Form}
use Rattle.meaning.specs.Bytes.{read, term_row}
use Rattle.meaning.specs.Terms.{arity, Tree, Forest, node, end, more, Row, raw, row_of, size, flat, flats, trees, top, tree_of}
use Rattle.meaning.specs.Steps.{stay, looks, step}
use Rattle.meaning.proofs.Trees.Parse.{front, length-flat, trees-flat}
use Rattle.meaning.proofs.Bytes.RowTables.{row-raw, rows-raw}
use Rattle.search.specs.Frames.{spelled, tree_zips_lists, Frame, below, close, around, row_of_frame, passed_rows, entered, passed_by, Open, Passed}
use Rattle.search.specs.Kept.{table, row_count, to_come, copied, owed_in, row_in, entered_number, tree_here, moved, Held, Enters, Passes}
use Rattle.search.specs.Search.{owing, Searching, Seen, done, skip, enter, here, Into, looked_by, Room, Reached}
use Rattle.search.specs.declared.Stand.{Stand}
use Rattle.search.specs.declared.Sight.TheVariants.{Done, Skip, Enter, Here}
use Rattle.terms.proofs.Scan.{size-some}
use Rattle.search.proofs.Over.{kids-front, spelled-some}
use Rattle.search.proofs.Frames.{entering, passing, close_passed}
use Rattle.search.proofs.Tables.{table-length, table-copied, row-behind, row-of-behind, first_rows, later_rows}
use Rattle.search.proofs.Entries.{enter-kept, pass_kept, rows_long, frames-few}
use Rattle.search.proofs.Sights.{waits-seen, looks-seen}

some-before : (B : List Tree) → (length B ≡ 0 → ⊥) → 1 ≤ length (spelled B)
some-before [] z = absurd (z refl)
some-before (b ∷ B) z = spelled-some b B

-- the rows to come are as many as they are
pub coming-long : (right : List ℕ) (r : ℕ) (l : List Row) → to_come right r ≡ map raw l → row_count right - r ≡ length l
unfolding to_come
coming-long right r l q = sym (table-length right (8 * r) (row_count right - r)) ∙ ap length q ∙ length-map l raw

-- a tree to come has a row
pub some-row : (right : List ℕ) (r : ℕ) (t : Tree) (ts : List Tree) → to_come right r ≡ map raw (spelled (t ∷ ts)) → size t ≤ row_count right - r
unfolding spelled
some-row right r t ts q = omega (arith, coming-long right r (flat t ++ spelled ts) q, length-append (flat t) (spelled ts), length-flat t)

-- the tree at the search
pub tree-here : (right : List ℕ) (r : ℕ) (t : Tree) (ts : List Tree) → to_come right r ≡ map raw (spelled (t ∷ ts)) → tree_here right r ≡ t
unfolding tree_here tree_of spelled top
tree-here right r t ts q = ap (λ (x : List (List ℕ)). top (trees (map row_of x))) q ∙ rw (rows-raw (flat t ++ spelled ts), trees-flat t (spelled ts)) refl

module _ (form : ℕ → Form) (k : ℕ) (left right frames : List ℕ) (s : Stand) (room : Room left right frames s) where
  abbrev At : List Frame → List Tree → Type 0
  At Fs ts = Searching form k left right frames s Fs ts

  -- the row at the search
  sees_row : (b : Bool) (Fs : List Frame) (t : Tree) (ts : List Tree) → to_come right s.r ≡ map raw (spelled (t ∷ ts)) → Into b right s.r → Open Fs (t ∷ ts)
      → (b ≡ true → Seen Enter Fs (t ∷ ts)) × (b ≡ false → Seen Here Fs (t ∷ ts))
  unfolding tree_zips_lists
  sees_row b Fs (node h u f) ts q e o =
      let w = waits-seen right s.r h u f ts room.ends q in
      ((λ y. enter o (sym w ∙ e.waiting y)), (λ y. here o (λ z. ap tree_zips_lists (sym (tree-here right s.r (node h u f) ts q)) ∙ e.zipping y (w ∙ z))))

  -- at the root
  pub root-row : (Fs : List Frame) (ts : List Tree) → s.d ≡ 0 → At Fs ts → (s.r < row_count right) × (size (tree_here right s.r) ≤ row_count right - s.r)
  unfolding Held owing
  root-row [] [] z x = absurd (omega (arith, x.count))
  root-row [] (t ∷ ts) z x = let y = some-row right s.r t ts x.coming in (omega (arith, size-some t, y), rw (tree-here right s.r t ts x.coming) y)
  root-row (F ∷ Fs) ts z x = absurd (rw z at x.kept.held)

  pub root-sight : (b : Bool) (Fs : List Frame) (ts : List Tree) → s.d ≡ 0 → Into b right s.r → At Fs ts
      → (b ≡ true → Seen Enter Fs ts) × (b ≡ false → Seen Here Fs ts)
  unfolding Held owing Open
  root-sight b [] [] z q x = absurd (omega (arith, x.count))
  root-sight b [] (t ∷ ts) z q x = sees_row b [] t ts x.coming q tt
  root-sight b (F ∷ Fs) ts z q x = absurd (rw z at x.kept.held)

  -- in a frame
  module _ (i : ℕ) (ds : s.d ≡ suc i) where
    pub done-sight : (Fs : List Frame) (ts : List Tree) → owed_in (get_or frames i 0) ≡ 0 → At Fs ts → Seen Done Fs ts
    unfolding Held
    done-sight [] ts z x = absurd (rw ds at x.kept.held)
    done-sight (F ∷ Fs) ts z x = let h = rw ds at x.kept.held in let e : length F.before ≡ arity F.head = omega (arith, h.0.owes) in done e

    -- the frame's numbers
    pub record FrameRow (o at : ℕ) : Type 0 where
      pub row : s.r < row_count right
      pub fits : size (tree_here right s.r) ≤ row_count right - s.r
      pub below : at < s.l
      pub trees : o ≤ arity (row_of (read term_row (drop (8 * at) left))).head
      pub next : (arity (row_of (read term_row (drop (8 * at) left))).head ≡ o → ⊥) → at + 2 ≤ s.l

    pub frame_row : (Fs : List Frame) (ts : List Tree) (o at : ℕ) → o ≡ owed_in (get_or frames i 0) → at ≡ row_in (get_or frames i 0) → 0 < o → At Fs ts → FrameRow o at
    unfolding Held owing passed_rows
    frame_row [] ts o at eo ea z x = absurd (rw ds at x.kept.held)
    frame_row (F ∷ Fs) [] o at eo ea z x = let h = rw ds at x.kept.held in absurd (omega (arith, h.0.owes, x.count))
    frame_row (F ∷ Fs) (t ∷ ts) o at eo ea z x =
        let h = rw ds at x.kept.held in
        let q = x.kept.rows in
        let ra = row-of-behind left 0 s.l (8 * at) (passed_rows Fs) (spelled F.before) (row_of_frame F) (omega (arith, h.0.at)) q in
        let n : s.l ≡ length (passed_rows Fs) + suc (length (spelled F.before)) = rows_long left frames s.l s.d (F ∷ Fs) x.kept ∙ length-append (passed_rows Fs) (row_of_frame F ∷ spelled F.before) in
        let a = ap (λ (y : Row). arity y.head) ra in
        record {
          row = omega (arith, size-some t, some-row right s.r t ts x.coming);
          fits = rw (tree-here right s.r t ts x.coming) (some-row right s.r t ts x.coming);
          below = omega (arith, h.0.at);
          trees = omega (arith, h.0.owes, a);
          next = λ y. omega (arith, h.0.at, some-before F.before (λ w. y (omega (arith, a, h.0.owes))));
        }

    frame-looks : (F : Frame) (Fs : List Frame) (t : Tree) (ts : List Tree) (o at : ℕ) → o ≡ owed_in (get_or frames i 0) → at ≡ row_in (get_or frames i 0) → 0 < o → At (F ∷ Fs) (t ∷ ts)
        → (length F.before < arity F.head) × (looked_by left at right s.r o ≡ looks F.head (below F (t ∷ ts)) (length F.before))
    unfolding Held Passed passed_rows below to_come
    frame-looks F Fs t ts o at eo ea z x =
        let h = rw ds at x.kept.held in
        (omega (arith, h.0.owes), looks-seen left s.l at right s.r (row_count right - s.r) o F.head F.type (passed_rows Fs) t ts (ea ∙ h.0.at) x.coming F.before x.kept.rows x.passed.0.waiting z (omega (arith, h.0.owes)))

    pub frame-sight : (b c : Bool) (Fs : List Frame) (ts : List Tree) (o at : ℕ) → o ≡ owed_in (get_or frames i 0) → at ≡ row_in (get_or frames i 0) → 0 < o → c ≡ looked_by left at right s.r o → c ≡ true
        → Into b right s.r → At Fs ts → (b ≡ true → Seen Enter Fs ts) × (b ≡ false → Seen Here Fs ts)
    unfolding Held owing Open
    frame-sight b c [] ts o at eo ea z g y q x = absurd (rw ds at x.kept.held)
    frame-sight b c (F ∷ Fs) [] o at eo ea z g y q x = let h = rw ds at x.kept.held in absurd (omega (arith, h.0.owes, x.count))
    frame-sight b c (F ∷ Fs) (t ∷ ts) o at eo ea z g y q x =
        let w = frame-looks F Fs t ts o at eo ea z x in
        sees_row b (F ∷ Fs) t ts x.coming q (record { inside = w.0; seen = sym w.1 ∙ sym g ∙ y })

    pub skip-sight : (c : Bool) (Fs : List Frame) (ts : List Tree) (o at : ℕ) → o ≡ owed_in (get_or frames i 0) → at ≡ row_in (get_or frames i 0) → 0 < o → c ≡ looked_by left at right s.r o → c ≡ false → At Fs ts → Seen Skip Fs ts
    unfolding Held owing
    skip-sight c [] ts o at eo ea z g y x = absurd (rw ds at x.kept.held)
    skip-sight c (F ∷ Fs) [] o at eo ea z g y x = let h = rw ds at x.kept.held in absurd (omega (arith, h.0.owes, x.count))
    skip-sight c (F ∷ Fs) (t ∷ ts) o at eo ea z g y x = let w = frame-looks F Fs t ts o at eo ea z x in skip w.0 (sym w.1 ∙ sym g ∙ y)

-- Going on -------------------------------------------------------------------------------------------------------

-- behind some rows, the others
pub rest-rows : (right : List ℕ) (r n : ℕ) (A B : List Row) → length A ≡ n → to_come right r ≡ map raw (A ++ B) → to_come right (r + n) ≡ map raw B
unfolding to_come
rest-rows right r n A B a q =
    let p : 8 * r + 8 * length A ≡ 8 * (r + n) = omega arith in
    let m : row_count right - r - length A ≡ row_count right - (r + n) = omega arith in
    cc (p, m, later_rows right (8 * r) (row_count right - r) A B q)

spelled-front : {n : ℕ} (f : Forest n) (ts : List Tree) → spelled (front f ts) ≡ flats f ++ spelled ts
unfolding spelled front flat
spelled-front end ts = refl
spelled-front (more t f) ts = rw (spelled-front f ts) (sym (append_assoc (flat t) (flats f) (spelled ts)))

length_front : {n : ℕ} (f : Forest n) (ts : List Tree) → length (front f ts) ≡ n + length ts
unfolding front
length_front end ts = omega arith
length_front (more t f) ts = omega (arith, length_front f ts)

-- what passing asks for
pub record Passable (right frames : List ℕ) (s : Stand) : Type 0 where
  pub small : size (tree_here right s.r) ≤ row_count right - s.r
  pub inside : 0 < s.d
  pub shallow : s.d ≤ s.l
  pub owes : 0 < owed_in (get_or frames (s.d - 1) 0)

pub room_moved : (left left' right frames frames' : List ℕ) (s : Stand) (n j : ℕ) → Room left right frames s → length left' ≡ length left → length frames' ≡ length frames → n ≤ row_count right - s.r
    → Room left' right frames' (moved s n j)
unfolding moved
room_moved left left' right frames frames' s n j room a b h =
    record { ends = omega (arith, room.ends); few = room.few; rows = omega (arith, room.rows); left-long = omega (arith, room.left-long); deep = omega (arith, room.deep) }

module _ (form : ℕ → Form) (k : ℕ) (left right frames : List ℕ) (s : Stand) (room : Room left right frames s) where
  some-owed : (d : ℕ) (F : Frame) (Fs : List Frame) → length F.before < arity F.head → Held frames d (F ∷ Fs) → (0 < d) × (0 < owed_in (get_or frames (d - 1) 0))
  unfolding Held
  some-owed zero F Fs i h = absurd h
  some-owed (suc d) F Fs i h = let z : suc d - 1 ≡ d = omega arith in (omega arith, rw z (omega (arith, h.0.owes)))

  pub skip-ready : (F : Frame) (Fs : List Frame) (t : Tree) (ts : List Tree) → Searching form k left right frames s (F ∷ Fs) (t ∷ ts) → length F.before < arity F.head → Passable right frames s
  skip-ready F Fs t ts x i =
      let h = some-owed s.d F Fs i x.kept.held in
      record { small = rw (tree-here right s.r t ts x.coming) (some-row right s.r t ts x.coming); inside = h.0; shallow = frames-few left frames s.l s.d (F ∷ Fs) x.kept; owes = h.1 }

  pub skips : (Fs : List Frame) (ts : List Tree) → Searching form k left right frames s Fs ts → Seen Skip Fs ts → Passable right frames s
  skips Fs ts x (skip {F = F} {Fs = Fs'} {t = t} {ts = ts'} i w) = skip-ready F Fs' t ts' x i

  pub enter-ready : (Fs : List Frame) (ts : List Tree) → Searching form k left right frames s Fs ts → Seen Enter Fs ts → (s.r < row_count right) × (s.d ≤ s.l)
  enter-ready Fs ts x (enter {h = h} {u = u} {f = f} {ts = ts'} o w) =
      (omega (arith, size-some (node h u f), some-row right s.r (node h u f) ts' x.coming), frames-few left frames s.l s.d Fs x.kept)

  -- A TREE IS PASSED in its frame
  pub tree-passed : (left' frames' : List ℕ) (s' : Stand) (fine : Bool) (F : Frame) (Fs : List Frame) (t : Tree) (ts : List Tree) → Searching form k left right frames s (F ∷ Fs) (t ∷ ts)
      → length F.before < arity F.head
      → (looks F.head (below F (t ∷ ts)) (length F.before) ≡ true → step form k t ≡ stay)
      → Passed form k (passed_by F t fine ∷ Fs) ts
      → Passes left left' right frames frames' s fine s' → Reached form k (F ∷ Fs) (t ∷ ts) left' right frames' s'
  unfolding spelled owing around moved to_come
  tree-passed left' frames' s' fine F Fs t ts x i w y p =
      let z = tree-here right s.r t ts x.coming in
      let ready = skip-ready F Fs t ts x i in
      let n = size t in
      let long = some-row right s.r t ts x.coming in
      let bytes = p.bytes ∙ ap (λ (u : Tree). copied left s.l right s.r (size u)) z in
      let there = ap (table right (8 * s.r)) (sym (length-flat t)) ∙ first_rows right (8 * s.r) (row_count right - s.r) (flat t) (spelled ts) x.coming in
      let rows = table-copied left right left' s.l s.r n (omega (arith, room.left-long)) (omega (arith, room.ends)) bytes ∙ ap (λ (l : List (List ℕ)). table left 0 s.l ++ l) there in
      let d : s.d ≡ suc (s.d - 1) = omega (arith, ready.inside) in
      let stand : s' ≡ moved s n 0 = p.stand ∙ ap (λ (u : Tree). moved s (size u) 0) z in
      let e : s.d + 0 ≡ s.d = omega arith in
      rw (stand, p.numbers, e) (record {
        frames_around = passed_by F t fine ∷ Fs;
        trees = ts;
        search = record {
          kept = pass_kept left left' right frames s.l s.r s.d (s.d - 1) n fine t F Fs d (omega (arith, ready.shallow, ready.inside, room.deep, long, size-some t)) ready.owes rows x.kept;
          coming = rest-rows right s.r n (flat t) (spelled ts) (length-flat t) x.coming;
          count = omega (arith, x.count, length-append F.before (t ∷ []));
          passed = y;
        };
        whole = ap (around Fs) (close_passed form k F t fine ts);
      })

  -- A TREE THAT IS NOT LOOKED AT IS PASSED
  pub skipped : (left' frames' : List ℕ) (s' : Stand) (Fs : List Frame) (ts : List Tree) → Searching form k left right frames s Fs ts → Seen Skip Fs ts
      → Passes left left' right frames frames' s true s' → Reached form k Fs ts left' right frames' s'
  skipped left' frames' s' Fs ts x (skip {F = F} {Fs = Fs'} {t = t} {ts = ts'} i w) p =
      let never : looks F.head (below F (t ∷ ts')) (length F.before) ≡ true → step form k t ≡ stay = (λ y. absurd (false≢true (sym w ∙ y))) in
      tree-passed left' frames' s' true F Fs' t ts' x i never (passing form k F Fs' t true ts' x.passed never (rw w refl)) p

  -- A ROW THAT WAITS IS ENTERED
  pub stepped-in : (left' frames' : List ℕ) (s' : Stand) (Fs : List Frame) (ts : List Tree) → Searching form k left right frames s Fs ts → Seen Enter Fs ts
      → Enters left left' right frames frames' s s' → Reached form k Fs ts left' right frames' s'
  unfolding spelled owing around close below flat moved to_come
  stepped-in left' frames' s' Fs ts x (enter {h = h} {u = u} {f = f} {ts = ts'} o w) p =
      let row : Row = record { head = h; type = u } in
      let there = row-behind right (8 * s.r) (row_count right - s.r) (8 * s.r) [] (flats f ++ spelled ts') row (omega arith) x.coming in
      let a : arity (row_of (read term_row (drop (8 * s.r) right))).head ≡ arity h = ap (λ (y : List ℕ). arity (row_of y).head) there ∙ ap (λ (y : Row). arity y.head) (row-raw row) in
      let q = kids-front f ts' in
      let c : close (entered h u) (front f ts') ≡ node h u f ∷ ts' = rw (q.0, q.1) refl in
      let long = some-row right s.r (node h u f) ts' x.coming in
      let some = size-some (node h u f) in
      let few = frames-few left frames s.l s.d Fs x.kept in
      rw (p.stand, p.numbers ∙ ap (λ (n : ℕ). set frames s.d (entered_number s.l n)) a) (record {
        frames_around = entered h u ∷ Fs;
        trees = front f ts';
        search = record {
          kept = enter-kept left left' right frames s.l s.r s.d row Fs (omega (arith, room.deep, long, some, few)) (omega (arith, room.left-long, long, some)) (omega (arith, room.ends, long, some)) p.bytes there (omega (arith, p.few, a)) x.kept;
          coming = rest-rows right s.r 1 (row ∷ []) (flats f ++ spelled ts') refl x.coming ∙ ap (map raw) (sym (spelled-front f ts'));
          count = omega (arith, x.count, length_front f ts');
          passed = entering form k Fs h u (front f ts') (rw c o) (rw c x.passed) (rw q.0 w);
        };
        whole = ap (around Fs) c;
      })

-- one search after another
pub reached-again : (form : ℕ → Form) (k : ℕ) (Fs Gs : List Frame) (ts us : List Tree) (left right frames : List ℕ) (s : Stand) → around Gs us ≡ around Fs ts
    → Reached form k Gs us left right frames s → Reached form k Fs ts left right frames s
reached-again form k Fs Gs ts us left right frames s q x = record { frames_around = x.frames_around; trees = x.trees; search = x.search; whole = x.whole ∙ q }
