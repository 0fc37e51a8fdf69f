-- Where a search stands and what it sees: what the code of it takes and leaves. Assumes nothing.
use Rattle.std.specs.Prelude.{ℕ, suc, ◌+◌, ◌*◌, ◌-◌, ◌≤◌, ◌<◌, ◌≡◌, Bool, true, false, cond, List, [], ◌∷◌, map, eqb, ltb, length, get_or, drop}
use Rattle.meaning.specs.Bytes.{read, term_row}
use Rattle.meaning.specs.Types.{Form}
use Rattle.meaning.specs.Terms.{arity, Head, Tree, Forest, node, raw, row_of, size}
use Rattle.meaning.specs.Steps.{value, stay, contract, looks}
use Rattle.search.specs.Frames.{spelled, waits, Rests, tree_zips_lists, Frame, below, around, Looked, Open, Passed}
use Rattle.search.specs.Kinds.{waits_by, looks_by}
use Rattle.search.specs.Kept.{to_come, row_count, kind_at, tree_here, Kept}
use Rattle.search.specs.declared.Stand.{Stand}
use Rattle.search.specs.declared.Sight.{Sight}
use Rattle.search.specs.declared.Sight.TheVariants.{Done, Skip, Enter, Here}
use Rattle.search.specs.declared.Span.{Span}
use Rattle.search.specs.declared.Span.TheVariants.{Whole, Part}

-- how many trees are to come
unfoldable pub owing : List Frame → ℕ
owing [] = 1
owing (F ∷ Fs) = (arity F.head - length F.before) + (owing Fs - 1)

-- the search stands inside of frames Fs, before trees ts
pub record Searching (form : ℕ → Form) (k : ℕ) (left right frames : List ℕ) (s : Stand) (Fs : List Frame) (ts : List Tree) : Type 0 where
  pub kept : Kept left frames s.l s.d Fs
  pub coming : to_come right s.r ≡ map raw (spelled ts)
  pub count : length ts ≡ owing Fs
  pub passed : Passed form k Fs ts

-- what is in sight there: a frame whose trees are passed; a tree that is not looked at; a row that waits; a row whose own rule is tried
pub data Seen : Sight → List Frame → List Tree → Type 0 where
  done : {F : Frame} {Fs : List Frame} {ts : List Tree} → length F.before ≡ arity F.head → Seen Done (F ∷ Fs) ts
  skip : {F : Frame} {Fs : List Frame} {t : Tree} {ts : List Tree} → length F.before < arity F.head → looks F.head (below F (t ∷ ts)) (length F.before) ≡ false → Seen Skip (F ∷ Fs) (t ∷ ts)
  enter : {Fs : List Frame} {h : Head} {u : ℕ} {f : Forest (arity h)} {ts : List Tree} → Open Fs (node h u f ∷ ts) → waits h f ≡ true → Seen Enter Fs (node h u f ∷ ts)
  here : {Fs : List Frame} {h : Head} {u : ℕ} {f : Forest (arity h)} {ts : List Tree} → Open Fs (node h u f ∷ ts) → Rests h f → Seen Here Fs (node h u f ∷ ts)

-- the kind of the row behind row r
unfoldable pub next_kind : List ℕ → ℕ → ℕ
next_kind right r = cond (ltb (r + 1) (row_count right)) (get_or right (8 * r + 8) 0) 0

-- the row at row r waits, or its own rule is tried where it stands
pub record Into (b : Bool) (right : List ℕ) (r : ℕ) : Type 0 where
  pub waiting : b ≡ true → waits_by (kind_at right r) (next_kind right r) ≡ true
  pub zipping : b ≡ false → waits_by (kind_at right r) (next_kind right r) ≡ true → tree_zips_lists (tree_here right r) ≡ true

-- whether the frame of row `at`, with o trees to come, looks at the tree at row r
unfoldable pub looked_by : List ℕ → ℕ → List ℕ → ℕ → ℕ → Bool
looked_by left at right r o =
    let j = arity (row_of (read term_row (drop (8 * at) left))).head - o in
    let k = get_or left (8 * at) 0 in
    let t = get_or right (8 * r) 0 in
    cond (eqb j 0) (looks_by k j t (get_or right (8 * r + 1) 0) t) (looks_by k j (get_or left (8 * at + 8) 0) (get_or left (8 * at + 9) 0) t)

-- the rows to come have room behind the rows passed, and there is a frame for each row
pub record Room (left right frames : List ℕ) (s : Stand) : Type 0 where
  pub ends : s.r ≤ row_count right
  pub few : row_count right ≤ 4096
  pub rows : s.l + (row_count right - s.r) ≤ 4096
  pub left-long : 8 * (s.l + (row_count right - s.r)) ≤ length left
  pub deep : s.l + (row_count right - s.r) ≤ length frames

-- a search stands there
pub record Somewhere (left right frames : List ℕ) (s : Stand) : Type 0 where
  pub form : ℕ → Form
  pub number : ℕ
  pub frames_around : List Frame
  pub trees : List Tree
  pub search : Searching form number left right frames s frames_around trees

abbrev pub Sees : Sight → List ℕ → List ℕ → List ℕ → Stand → Type 0
Sees x left right frames s = (form : ℕ → Form) (k : ℕ) (Fs : List Frame) (ts : List Tree) → Searching form k left right frames s Fs ts → Seen x Fs ts

-- the search went on from frames Fs and trees ts: the whole is the same
pub record Reached (form : ℕ → Form) (k : ℕ) (Fs : List Frame) (ts : List Tree) (left right frames : List ℕ) (s : Stand) : Type 0 where
  pub frames_around : List Frame
  pub trees : List Tree
  pub search : Searching form k left right frames s frames_around trees
  pub whole : around frames_around trees ≡ around Fs ts

abbrev pub stop : Bool → Sight
stop true = Here
stop false = Done

-- where a search stops: at a row whose own rule is tried, or at a frame whose trees are passed
pub record Stopped (form : ℕ → Form) (k : ℕ) (Fs : List Frame) (ts : List Tree) (left right frames : List ℕ) (s : Stand) : Type 0 where
  pub reached : Reached form k Fs ts left right frames s
  pub seen : Seen (stop s.here) reached.frames_around reached.trees

-- what a search has before it, rows to come and frames to leave: it grows less with every move
unfoldable pub ahead : List ℕ → Stand → ℕ
ahead right s = 2 * (row_count right - s.r) + s.d

-- the search went on, in slices as long as before
pub record Went (left₀ left right frames₀ frames : List ℕ) (s₀ s : Stand) : Type 0 where
  pub room : Room left right frames s
  pub left-long : length left ≡ length left₀
  pub frames-long : length frames ≡ length frames₀
  pub less : ahead right s ≤ ahead right s₀
  pub reached : (form : ℕ → Form) (k : ℕ) (Fs : List Frame) (ts : List Tree) → Searching form k left₀ right frames₀ s₀ Fs ts → Reached form k Fs ts left right frames s

-- to a row that waits
pub record Delves (left left' right frames frames' : List ℕ) (s s' : Stand) : Type 0 where
  pub went : Went left left' right frames frames' s s'
  pub sees : Sees Enter left' right frames' s'

-- the row at row r calls a foreign function with arguments, and the first argument calls one too
pub record Nested (right : List ℕ) (r : ℕ) : Type 0 where
  pub long : r + 3 < row_count right
  pub outer : kind_at right r ≡ 8
  pub arguments : 0 < get_or right (8 * r + 1) 0
  pub called : kind_at right (r + 1) ≡ 7
  pub inner : kind_at right (r + 2) ≡ 8
  pub next : kind_at right (r + 3) ≡ 7

pub record Stops (left left' right frames frames' : List ℕ) (s s' : Stand) : Type 0 where
  pub room : Room left' right frames' s'
  pub less : ahead right s' ≤ ahead right s
  pub stopped : (form : ℕ → Form) (k : ℕ) (Fs : List Frame) (ts : List Tree) → Searching form k left right frames s Fs ts → Stopped form k Fs ts left' right frames' s'

-- A row's own rule stays ------------------------------------------------------------------------------------------

-- the search stands at a tree that a frame looks at, and whose own rule stays
pub record Resting (form : ℕ → Form) (k : ℕ) (left right frames : List ℕ) (s : Stand) (F : Frame) (Fs : List Frame) (h : Head) (u : ℕ) (f : Forest (arity h)) (ts : List Tree) : Type 0 where
  pub search : Searching form k left right frames s (F ∷ Fs) (node h u f ∷ ts)
  pub looked : Looked F (node h u f ∷ ts)
  pub rests : Rests h f
  pub stays : contract form k h u f ≡ stay

-- the search stands at the end of a frame inside another one, and its own rule stays
pub record Ending (form : ℕ → Form) (k : ℕ) (left right frames : List ℕ) (s : Stand) (F G : Frame) (Gs : List Frame) (ts : List Tree) : Type 0 where
  pub search : Searching form k left right frames s (F ∷ G ∷ Gs) ts
  pub full : length F.before ≡ arity F.head
  pub stays : contract form k F.head F.type (below F ts) ≡ stay

-- how far the rows of a tree are parts of values
unfoldable pub Spans : Span → Tree → Type 0
Spans (Whole n) t = (size t ≡ n) × (value t ≡ true)
Spans (Part n) t = n < size t

-- the tree at the search is one of a frame's and a value, of so many rows
unfoldable pub SpansHere : Span → List ℕ → Stand → Type 0
SpansHere (Whole n) right s = (0 < s.d) × (size (tree_here right s.r) ≡ n) × (value (tree_here right s.r) ≡ true)
SpansHere (Part n) right s = Unit {0}

-- Behind a step ---------------------------------------------------------------------------------------------------

-- another tree has come to stand at the search: what was passed is as it was, but the row around may wait no more
pub record Changed (form : ℕ → Form) (k : ℕ) (left right frames : List ℕ) (s : Stand) (Fs : List Frame) (t : Tree) (ts : List Tree) : Type 0 where
  pub kept : Kept left frames s.l s.d Fs
  pub coming : to_come right s.r ≡ map raw (spelled (t ∷ ts))
  pub count : suc (length ts) ≡ owing Fs
  pub old : Tree
  pub opens : Open Fs (old ∷ ts)
  pub passed : Passed form k Fs (old ∷ ts)

-- the search goes on there
pub record Resumes (left right right' frames : List ℕ) (s s' : Stand) : Type 0 where
  pub long : length right' ≡ length right
  pub room : Room left right' frames s'
  pub reached : (form : ℕ → Form) (k : ℕ) (Fs : List Frame) (t : Tree) (ts : List Tree) → Changed form k left right frames s Fs t ts → Reached form k Fs (t ∷ ts) left right' frames s'
