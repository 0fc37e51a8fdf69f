-- A rule that is tried where the search has stopped, and one that is carried out. Assumes nothing.
use Rattle.std.specs.Prelude.{ℕ, ◌+◌, ◌-◌, ◌≡◌, Bool, cond, List, [], ◌∷◌, map, eqb, ltb, length, get_or, take}
use Rattle.std.specs.Prelude.{None}
use Rattle.meaning.specs.Bytes.{◌∧ᵇ◌}
use Rattle.meaning.specs.Types.{Form}
use Rattle.meaning.specs.Terms.{Tree, flat, raw, size, top}
use Rattle.layout.specs.Rows.{row_table}
use Rattle.meaning.specs.Steps.{go}
use Rattle.meaning.proofs.Trees.EachRow.{Every}
use Rattle.meaning.proofs.Bytes.RowTables.{legal}
use Rattle.search.specs.Frames.{around}
use Rattle.search.specs.Kept.{row_count}
use Rattle.search.specs.Search.{Room, Changed}
use Rattle.search.specs.declared.Stand.{Stand}
use Rattle.runs.specs.Sites.{Whole, Halted, own, Turns, Tells}
use Rattle.runs.specs.declared.Tried.{Tried}
use Rattle.runs.specs.declared.Tried.TheVariants.{Stays}
use Rattle.runs.specs.declared.Next.{Next}

-- the search has stopped in a whole all of whose rows are in range
pub record Trying (form : ℕ → Form) (left right frames : List ℕ) (s : Stand) : Type 0 where
  pub number : ℕ
  pub whole : Tree
  pub halted : Halted form number left right frames s whole
  pub count : ℕ
  pub in-range : Every (legal count) whole

-- what the rule there does
abbrev pub Tries : (ℕ → Form) → List ℕ → List ℕ → List ℕ → Stand → Tried → Type 0
Tries form left right frames s x = (k : ℕ) (t : Tree) (h : Halted form k left right frames s t) → Tells x s.here form k h.tree

-- a rule that goes where the search has stopped
pub record Turning (form : ℕ → Form) (left right frames : List ℕ) (s : Stand) (old new : ℕ) : Type 0 where
  pub trying : Trying form left right frames s
  pub made : Tree
  pub goes : own form trying.number trying.halted.tree ≡ go None made
  pub turns : Turns s.here trying.halted.tree made old new

-- and writes all rows of the tree that it makes
pub record Going (form : ℕ → Form) (left right frames : List ℕ) (s : Stand) (old new : ℕ) : Type 0 where
  pub trying : Trying form left right frames s
  pub made : Tree
  pub goes : own form trying.number trying.halted.tree ≡ go None made
  pub rows : size trying.halted.tree ≡ old
  pub made-rows : size made ≡ new

-- the rows of the tree that it makes at the search are at the front of a table
abbrev pub Stands : (ℕ → Form) → List ℕ → List ℕ → Stand → ℕ → Type 0
Stands form right fresh s new =
    (left frames : List ℕ) (k : ℕ) (t : Tree) (h : Halted form k left right frames s t) (u : Tree) → own form k h.tree ≡ go None u → take new (row_table fresh) ≡ map raw (flat u)

-- it is carried out: the new tree stands in the place of the old one
pub record Makes (form : ℕ → Form) (left left' right right' : List ℕ) (s s' : Stand) (old new : ℕ) : Type 0 where
  pub long : length right' ≡ length right
  pub changed : (k : ℕ) (frames : List ℕ) (t : Tree) (h : Halted form k left right frames s t) (u : Tree) → own form k h.tree ≡ go None u → Turns s.here h.tree u old new → Changed form k left' right' frames s' h.outer u h.rest

-- and the search is set where it goes on: the new whole has the rows of the old one, but for the tree's
pub record Steps (form : ℕ → Form) (left left' right right' frames : List ℕ) (s s' : Stand) (old new : ℕ) : Type 0 where
  pub long : length right' ≡ length right
  pub room : Room left' right' frames s'
  pub total : s'.l + (row_count right' - s'.r) + old ≡ s.l + (row_count right - s.r) + new
  pub reached : (k : ℕ) (t : Tree) (h : Halted form k left right frames s t) (u : Tree) → own form k h.tree ≡ go None u → Turns s.here h.tree u old new → Whole form k left' right' frames s' (top (around h.outer (u ∷ h.rest)))

-- rows that begin with an application of a foreign function
unfoldable pub call_by : List ℕ → Bool
call_by rows = eqb (get_or rows 0 0) 8 ∧ᵇ (ltb 8 (length rows) ∧ᵇ eqb (get_or rows 8 0) 7)

-- The next step ----------------------------------------------------------------------------------------------------

-- no frame is around the tree where the search has stopped
unfoldable pub at_root : Stand → Bool
at_root s = cond s.here (eqb s.d 0) (eqb s.d 1)

-- the search has come to a rule that goes or sends, or to the root, where everything is passed: the whole is the same
pub record Found (form : ℕ → Form) (left left' right frames frames' : List ℕ) (s : Stand) (n : Next) : Type 0 where
  pub room : Room left' right frames' n.s
  pub rows : n.s.l + (row_count right - n.s.r) ≡ s.l + (row_count right - s.r)
  pub halted : (k : ℕ) (t : Tree) → Whole form k left right frames s t → Halted form k left' right frames' n.s t
  pub tries : Tries form left' right frames' n.s n.tried
  pub at-root : n.tried ≡ Stays → (k : ℕ) (t : Tree) (h : Halted form k left' right frames' n.s t) → h.outer ≡ []
