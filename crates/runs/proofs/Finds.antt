-- The search for the next rule that goes: the types stand as they are, a rule that stays is passed, the root is told by its depth. Assumes nothing.
use Prim.Native.Nat.{ℕ, zero, suc, ◌+◌, ◌*◌, ◌-◌, ◌≤◌}
use mathlib.Core.Path.{◌≡◌, refl, ap, sym, ◌∙◌, subst}
use mathlib.Core.Bool.{Bool, true, false, cond}
use mathlib.Core.List.{List, [], ◌∷◌}
use native.Mathlib.Omega.{arith}
use lib.Dec.{eqb}
use borrow.Author.Tests.{eqb-true, eqb-false}
use lib.ListN.{length, get_or, take, drop}
use Rattle.meaning.specs.Bytes.{Limits, width, reads, record_head, type_row, rows_at}
use Rattle.meaning.specs.Types.{Form, form_of}
use Rattle.meaning.specs.Terms.{Tree}
use Rattle.meaning.specs.Records.{type_count, types_in}
use Rattle.meaning.proofs.Trees.EachRow.{Every}
use Rattle.meaning.proofs.Bytes.RowTables.{legal}
use Rattle.search.specs.Frames.{Frame}
use Rattle.search.specs.Kept.{row_count, Held}
use Rattle.search.specs.Search.{Room}
use Rattle.search.specs.declared.Stand.{Stand}
use Rattle.search.proofs.Tables.{drop-take, reads-take}
use Rattle.runs.specs.Sites.{Site, at_row, at-end, Tells, Whole, Halted, Passing, GoesOn, Halts, InRecord}
use Rattle.runs.specs.Tries.{Trying, Tries, Found, at_root}
use Rattle.runs.specs.Going.{space}
use Rattle.runs.specs.declared.Tried.{Tried}
use Rattle.runs.specs.declared.Tried.TheVariants.{Stays, Goes, Sends, Uncounted}
use Rattle.runs.proofs.PutBack.{rows-from}
use Rattle.runs.proofs.CallOut.{whole-size}
use Rattle.runs.proofs.Tries.{types-fit}

-- THE TYPES stand before the row space
pub same_count : (m : Limits) (kept kept' : List ℕ) → InRecord m kept kept' → type_count kept' ≡ type_count kept
unfolding reads width
same_count m kept kept' i =
    let h : width record_head * 1 ≤ rows_at m = omega (arith, rows-from m) in
    ap (λ (l : List (List ℕ)). get_or (get_or l 0 []) 5 0) (sym (reads-take record_head 1 (rows_at m) kept' h) ∙ ap (reads record_head 1) i.front ∙ reads-take record_head 1 (rows_at m) kept h)

types-before : (m : Limits) (kept : List ℕ) (n : ℕ) → n ≤ m.types → reads type_row n (drop 20 (take (rows_at m) kept)) ≡ reads type_row n (drop 20 kept)
unfolding width
types-before m kept n h =
    let z : rows_at m ≡ 20 + (rows_at m - 20) = omega (arith, rows-from m) in
    let fits : width type_row * n ≤ rows_at m - 20 = omega (arith, types-fit m n h) in
    ap (λ (i : ℕ). reads type_row n (drop 20 (take i kept))) z ∙ ap (reads type_row n) (drop-take 20 (rows_at m - 20) kept) ∙ reads-take type_row n (rows_at m - 20) (drop 20 kept) fits

pub same-types : (m : Limits) (kept kept' : List ℕ) → InRecord m kept kept' → type_count kept ≤ m.types → types_in kept' ≡ types_in kept
unfolding types_in width
same-types m kept kept' i few =
    ap (λ (n : ℕ). reads type_row n (drop 20 kept')) (same_count m kept kept' i)
    ∙ sym (types-before m kept' (type_count kept) few) ∙ ap (λ (l : List ℕ). reads type_row (type_count kept) (drop 20 l)) i.front ∙ types-before m kept (type_count kept) few

-- THE ROOT is where no frame is around
held-count : (frames : List ℕ) (d : ℕ) (Fs : List Frame) → Held frames d Fs → d ≡ length Fs
unfolding Held
held-count frames zero [] h = refl
held-count frames zero (F ∷ Fs) h = absurd h
held-count frames (suc d) [] h = absurd h
held-count frames (suc d) (F ∷ Fs) (e, r) = ap suc (held-count frames d Fs r)

-- some frame is around
pub record Around (outer : List Frame) : Type 0 where
  pub frame : Frame
  pub others : List Frame
  pub inside : outer ≡ frame ∷ others

none-around : (outer : List Frame) (d n : ℕ) → d ≡ n + length outer → eqb d n ≡ true → outer ≡ []
none-around [] d n e q = refl
none-around (F ∷ Fs) d n e q = absurd (omega (arith, e, eqb-true d n q))

some-around : (outer : List Frame) (d n : ℕ) → d ≡ n + length outer → eqb d n ≡ false → Around outer
some-around [] d n e q = absurd (eqb-false d n q (omega (arith, e)))
some-around (F ∷ Fs) d n e q = record { frame = F; others = Fs; inside = refl }

root_told : (b : Bool) (frames : List ℕ) (d : ℕ) (Fs : List Frame) (ts : List Tree) (old : Tree) (outer : List Frame) (rest : List Tree) → Site b Fs ts old outer rest → Held frames d Fs → cond b (eqb d 0) (eqb d 1) ≡ true → outer ≡ []
root_told b frames d Fs ts old outer rest (at_row o w) x q = none-around outer d 0 (omega (arith, held-count frames d outer x)) q
root_told b frames d Fs ts old outer rest (at-end {F = F} e) x q = none-around outer d 1 (omega (arith, held-count frames d (F ∷ outer) x)) q

inner-told : (b : Bool) (frames : List ℕ) (d : ℕ) (Fs : List Frame) (ts : List Tree) (old : Tree) (outer : List Frame) (rest : List Tree) → Site b Fs ts old outer rest → Held frames d Fs → cond b (eqb d 0) (eqb d 1) ≡ false → Around outer
inner-told b frames d Fs ts old outer rest (at_row o w) x q = some-around outer d 0 (omega (arith, held-count frames d outer x)) q
inner-told b frames d Fs ts old outer rest (at-end {F = F} e) x q = some-around outer d 1 (omega (arith, held-count frames d (F ∷ outer) x)) q

module _ (form : ℕ → Form) (k : ℕ) (left right frames : List ℕ) (s : Stand) (t : Tree) (h : Halted form k left right frames s t) where
  root : at_root s ≡ true → h.outer ≡ []
  unfolding at_root
  root q = root_told s.here frames s.d h.all.frames_around h.all.trees h.tree h.outer h.rest h.site h.all.search.kept.held q

  inner : at_root s ≡ false → Around h.outer
  unfolding at_root
  inner q = inner-told s.here frames s.d h.all.frames_around h.all.trees h.tree h.outer h.rest h.site h.all.search.kept.held q

  passing : at_root s ≡ false → Tells Stays s.here form k h.tree → Passing form k left right frames s t
  unfolding Tells
  passing q x = let y = inner q in record { halted = h; stays = x; frame = y.frame; others = y.others; inside = y.inside }

-- WHERE THE SEARCH STANDS between two rules that stay, and where it has stopped: the whole is the same
pub record Went (m : Limits) (kept kept' work frames frames' : List ℕ) (s s' : Stand) : Type 0 where
  pub in-record : InRecord m kept kept'
  pub frames-long : length frames' ≡ length frames
  pub room : Room (space m kept') work frames' s'
  pub whole : (k : ℕ) (t : Tree) → Whole (form_of (types_in kept)) k (space m kept) work frames s t → Whole (form_of (types_in kept)) k (space m kept') work frames' s' t

pub record Came (m : Limits) (kept kept' work frames frames' : List ℕ) (s s' : Stand) : Type 0 where
  pub in-record : InRecord m kept kept'
  pub frames-long : length frames' ≡ length frames
  pub room : Room (space m kept') work frames' s'
  pub halted : (k : ℕ) (t : Tree) → Whole (form_of (types_in kept)) k (space m kept) work frames s t → Halted (form_of (types_in kept)) k (space m kept') work frames' s' t

-- a whole stands there, its rows in range
abbrev pub Stood : Limits → List ℕ → List ℕ → List ℕ → Stand → Type 0
Stood m kept work frames s = (k : ℕ) × (t : Tree) × (count : ℕ) × Whole (form_of (types_in kept)) k (space m kept) work frames s t × Every (legal count) t

in-record-then : (m : Limits) (a b c : List ℕ) → InRecord m a b → InRecord m b c → InRecord m a c
in-record-then m a b c x y = record { front = y.front ∙ x.front; long = y.long ∙ x.long }

pub went-nowhere : (m : Limits) (kept work frames : List ℕ) (s : Stand) → Room (space m kept) work frames s → Went m kept kept work frames frames s s
went-nowhere m kept work frames s room = record { in-record = record { front = refl; long = refl }; frames-long = refl; room = room; whole = λ k t w. w }

module _ (m : Limits) (kept kept1 kept2 work frames frames1 frames2 : List ℕ) (start s e : Stand) where
  -- the search stops
  pub came-to : Went m kept kept1 work frames frames1 start s → InRecord m kept1 kept2 → length frames2 ≡ length frames1 → Halts (space m kept1) (space m kept2) work frames1 frames2 s e
      → Came m kept kept2 work frames frames2 start e
  came-to w i n h =
      record {
        in-record = in-record-then m kept kept1 kept2 w.in-record i;
        frames-long = n ∙ w.frames-long;
        room = h.room;
        halted = λ k t x. h.halted (form_of (types_in kept)) k t (w.whole k t x);
      }

module _ (m : Limits) (kept kept' work frames frames' : List ℕ) (s e : Stand) (few : type_count kept ≤ m.types) (c : Came m kept kept' work frames frames' s e) where
  types : types_in kept' ≡ types_in kept
  types = same-types m kept kept' c.in-record few

  pub came-count : type_count kept' ≤ m.types
  came-count = omega (arith, few, same_count m kept kept' c.in-record)

  pub came-rows : Stood m kept work frames s → e.l + (row_count work - e.r) ≡ s.l + (row_count work - s.r)
  came-rows (k, t, count, w, d) =
      let form = form_of (types_in kept) in
      sym (whole-size form k (space m kept') work frames' e t (c.halted k t w).all) ∙ whole-size form k (space m kept) work frames s t w

  pub came-trying : Stood m kept work frames s → Trying (form_of (types_in kept')) (space m kept') work frames' e
  came-trying (k, t, count, w, d) =
      subst (λ (l : List (List ℕ)). Trying (form_of l) (space m kept') work frames' e) (sym types) (record { number = k; whole = t; halted = c.halted k t w; count = count; in-range = d })

  module _ (x : Tried) (y : Tries (form_of (types_in kept')) (space m kept') work frames' e x) where
    tries : Tries (form_of (types_in kept)) (space m kept') work frames' e x
    tries = subst (λ (l : List (List ℕ)). Tries (form_of l) (space m kept') work frames' e x) types y

    -- it is the next step's, or the root
    pub found : Stood m kept work frames s → (x ≡ Stays → at_root e ≡ true) → Found (form_of (types_in kept)) (space m kept) (space m kept') work frames frames' s (record { s = e; tried = x })
    found there r =
        record {
          room = c.room;
          rows = came-rows there;
          halted = c.halted;
          tries = tries;
          at-root = λ q k t h. root (form_of (types_in kept)) k (space m kept') work frames' e t h (r q);
        }

    -- or it stays inside a frame
    pub stays-inside : x ≡ Stays → at_root e ≡ false → (k : ℕ) (t : Tree) → Whole (form_of (types_in kept)) k (space m kept) work frames s t → Passing (form_of (types_in kept)) k (space m kept') work frames' e t
    stays-inside q r k t w =
        let form = form_of (types_in kept) in
        let h = c.halted k t w in
        passing form k (space m kept') work frames' e t h r (subst (λ (z : Tried). Tells z e.here form k h.tree) q (tries k t h))

    pub stayed-on : x ≡ Stays → at_root e ≡ false → (kept3 frames3 : List ℕ) (s3 : Stand) → InRecord m kept' kept3 → length frames3 ≡ length frames' → GoesOn (space m kept') (space m kept3) work frames' frames3 e s3
        → Went m kept kept3 work frames frames3 s s3
    stayed-on q r kept3 frames3 s3 i n g =
        record {
          in-record = in-record-then m kept kept' kept3 c.in-record i;
          frames-long = n ∙ c.frames-long;
          room = g.room;
          whole = λ k t w. g.reached (form_of (types_in kept)) k t (stays-inside q r k t w);
        }

-- what neither stays, sends nor is counted
pub uncounted_left : (x : Tried) → (x ≡ Stays → ⊥) → ((n : ℕ) → x ≡ Sends n → ⊥) → ((old new : ℕ) → x ≡ Goes old new → ⊥) → x ≡ Uncounted
uncounted_left Stays a b d = absurd (a refl)
uncounted_left (Goes old new) a b d = absurd (d old new refl)
uncounted_left (Sends n) a b d = absurd (b n refl)
uncounted_left Uncounted a b d = refl

-- what goes or sends does not stay
pub goes-not-stays : (old new : ℕ) {A : Type 0} → Goes old new ≡ Stays → A
goes-not-stays old new q = let z : ◌≡◌ {A = ℕ} 0 1 = ap (λ (y : Tried). elim y [ Stays ↦ 1 | Goes a b ↦ 0 | Sends a ↦ 0 | Uncounted ↦ 0 ]) q in absurd (omega arith)

pub sends-not-stays : (old : ℕ) {A : Type 0} → Sends old ≡ Stays → A
sends-not-stays old q = let z : ◌≡◌ {A = ℕ} 0 1 = ap (λ (y : Tried). elim y [ Stays ↦ 1 | Goes a b ↦ 0 | Sends a ↦ 0 | Uncounted ↦ 0 ]) q in absurd (omega arith)

pub uncounted-not-stays : {A : Type 0} → Uncounted ≡ Stays → A
uncounted-not-stays q = let z : ◌≡◌ {A = ℕ} 0 1 = ap (λ (y : Tried). elim y [ Stays ↦ 1 | Goes a b ↦ 0 | Sends a ↦ 0 | Uncounted ↦ 0 ]) q in absurd (omega arith)

-- and what is counted is not uncounted
pub stays-not-uncounted : Stays ≡ Uncounted → ⊥
stays-not-uncounted q = let z : ◌≡◌ {A = ℕ} 0 1 = ap (λ (y : Tried). elim y [ Stays ↦ 0 | Goes a b ↦ 0 | Sends a ↦ 0 | Uncounted ↦ 1 ]) q in omega arith

pub goes-not-uncounted : (old new : ℕ) → Goes old new ≡ Uncounted → ⊥
goes-not-uncounted old new q = let z : ◌≡◌ {A = ℕ} 0 1 = ap (λ (y : Tried). elim y [ Stays ↦ 0 | Goes a b ↦ 0 | Sends a ↦ 0 | Uncounted ↦ 1 ]) q in omega arith

pub stays-not-goes : (old new : ℕ) → Stays ≡ Goes old new → ⊥
stays-not-goes old new q = let z : ◌≡◌ {A = ℕ} 0 1 = ap (λ (y : Tried). elim y [ Stays ↦ 0 | Goes a b ↦ 1 | Sends a ↦ 0 | Uncounted ↦ 0 ]) q in omega arith

pub sends-not-goes : (n old new : ℕ) → Sends n ≡ Goes old new → ⊥
sends-not-goes n old new q = let z : ◌≡◌ {A = ℕ} 0 1 = ap (λ (y : Tried). elim y [ Stays ↦ 0 | Goes a b ↦ 1 | Sends a ↦ 0 | Uncounted ↦ 0 ]) q in omega arith
