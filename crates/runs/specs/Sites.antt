-- Where a search stops: the tree whose own rule is tried, the frames around it and the trees behind it; and what comes next. Assumes nothing.
use Rattle.std.specs.Prelude.{ℕ, ◌+◌, ◌*◌, ◌-◌, ◌<◌, ◌≤◌, ◌≡◌, Bool, true, false, List, ◌∷◌, length, take, drop}
use Rattle.std.specs.Prelude.{None, Some}
use Rattle.meaning.specs.Bytes.{Limits, rows_at}
use Rattle.meaning.specs.Types.{Form}
use Rattle.meaning.specs.Terms.{Head, arity, Tree, Forest, node, flat, size, top}
use Rattle.meaning.specs.Steps.{Call, Out, stay, go, contract}
use Rattle.meaning.specs.Entries.{letter_of}
use Rattle.search.specs.Frames.{Rests, Frame, below, around, Open}
use Rattle.search.specs.Search.{Searching, Room, ahead}
use Rattle.search.specs.declared.Stand.{Stand}
use Rattle.runs.specs.declared.Tried.{Tried}
use Rattle.runs.specs.declared.Tried.TheVariants.{Stays, Goes, Sends, Uncounted}

-- at a row whose own rule is tried, or at the end of a frame whose rule comes last
pub data Site : Bool → List Frame → List Tree → Tree → List Frame → List Tree → Type 0 where
  at_row : {Fs : List Frame} {h : Head} {u : ℕ} {f : Forest (arity h)} {ts : List Tree} → Open Fs (node h u f ∷ ts) → Rests h f → Site true Fs (node h u f ∷ ts) (node h u f) Fs ts
  at-end : {F : Frame} {Fs : List Frame} {ts : List Tree} → length F.before ≡ arity F.head → Site false (F ∷ Fs) ts (node F.head F.type (below F ts)) Fs ts

-- what a tree's own rule does
unfoldable pub own : (ℕ → Form) → ℕ → Tree → Out
own form k (node h u f) = contract form k h u f

-- the tree that the rows passed and the rows to come are
pub record Whole (form : ℕ → Form) (k : ℕ) (left right frames : List ℕ) (s : Stand) (t : Tree) : Type 0 where
  pub frames_around : List Frame
  pub trees : List Tree
  pub search : Searching form k left right frames s frames_around trees
  pub whole : top (around frames_around trees) ≡ t

-- the search in it has stopped
pub record Halted (form : ℕ → Form) (k : ℕ) (left right frames : List ℕ) (s : Stand) (t : Tree) : Type 0 where
  pub all : Whole form k left right frames s t
  pub tree : Tree
  pub outer : List Frame
  pub rest : List Tree
  pub site : Site s.here all.frames_around all.trees tree outer rest

-- how tree t becomes u, where old rows give way to new ones: all rows of t to all of u; or, where t is at the search and none is written, those
-- before u, which is the end of t and stands already
pub record Turns (here : Bool) (t u : Tree) (old new : ℕ) : Type 0 where
  pub within : old ≤ size t
  pub sizes : size u + old ≡ size t + new
  pub anew : 0 < new → size t ≡ old
  pub stands : new ≡ 0 → (here ≡ true) × (flat u ≡ drop old (flat t))

-- what a rule that is tried tells: it stays; or it goes, and so many rows give way to so many; or it sends, and its tree has so many; or it goes
-- at the search, and the rows are not counted yet
unfoldable pub Tells : Tried → Bool → (ℕ → Form) → ℕ → Tree → Type 0
Tells Stays here form k t = own form k t ≡ stay
Tells (Goes old new) here form k t = (u : Tree) × (own form k t ≡ go None u) × Turns here t u old new
Tells Uncounted here form k t = (here ≡ true) × ((u : Tree) × (own form k t ≡ go None u))
Tells (Sends old) here form k t = (size t ≡ old) × ((c : Call) × (u : Tree) × (own form k t ≡ go (Some c) u))

-- Going on ----------------------------------------------------------------------------------------------------------

-- the rule where the search has stopped stays, inside a frame
pub record Passing (form : ℕ → Form) (k : ℕ) (left right frames : List ℕ) (s : Stand) (t : Tree) : Type 0 where
  pub halted : Halted form k left right frames s t
  pub stays : own form k halted.tree ≡ stay
  pub frame : Frame
  pub others : List Frame
  pub inside : halted.outer ≡ frame ∷ others

-- the search goes on: the whole is the same
pub record GoesOn (left left' right frames frames' : List ℕ) (s s' : Stand) : Type 0 where
  pub room : Room left' right frames' s'
  pub less : ahead right s' < ahead right s
  pub reached : (form : ℕ → Form) (k : ℕ) (t : Tree) → Passing form k left right frames s t → Whole form k left' right frames' s' t

-- the search stops
pub record Halts (left left' right frames frames' : List ℕ) (s s' : Stand) : Type 0 where
  pub room : Room left' right frames' s'
  pub less : ahead right s' ≤ ahead right s
  pub halted : (form : ℕ → Form) (k : ℕ) (t : Tree) → Whole form k left right frames s t → Halted form k left' right frames' s' t

-- both in a record, before whose row space nothing changes
pub record InRecord (m : Limits) (kept kept' : List ℕ) : Type 0 where
  pub front : take (rows_at m) kept' ≡ take (rows_at m) kept
  pub long : length kept' ≡ length kept

-- the call where the search has stopped is sent: its letter stands at the front of the work buffer, its future in its place
pub record CallsOut (left right right' frames : List ℕ) (s s' : Stand) (old next : ℕ) : Type 0 where
  pub long : length right' ≡ length right
  pub room : Room left right' frames s'
  pub sent : (form : ℕ → Form) (t : Tree) (h : Halted form next left right frames s t) (c : Call) (u : Tree) → own form next h.tree ≡ go (Some c) u → size h.tree ≡ old
      → Whole form next left right' frames s' (top (around h.outer (u ∷ h.rest))) × (take (8 * old - 4) right' ≡ letter_of next c)

-- a call is where the search has stopped
pub record Calling (left right frames : List ℕ) (s : Stand) (old next : ℕ) : Type 0 where
  pub form : ℕ → Form
  pub whole : Tree
  pub halted : Halted form next left right frames s whole
  pub call : Call
  pub made : Tree
  pub goes : own form next halted.tree ≡ go (Some call) made
  pub rows : size halted.tree ≡ old
