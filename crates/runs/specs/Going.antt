-- A run under way: the steps made so far, and the state whose rows stand in the two buffers. Assumes nothing.
use Rattle.std.specs.Prelude.{ℕ, ◌+◌, ◌*◌, ◌-◌, ◌/◌, ◌≤◌, ◌≡◌, List, [], ◌∷◌, ◌++◌, length, take, drop}
use Rattle.meaning.specs.Bytes.{Limits, number, write, call_head, rows_at}
use Rattle.meaning.specs.Types.{Form}
use Rattle.meaning.specs.Terms.{Tree}
use Rattle.meaning.specs.Records.{State, record_of, row_count as term_count}
use Rattle.keep.specs.Keep.{Roomy}
use Rattle.search.specs.Kept.{row_count}
use Rattle.meaning.specs.Entries.{Ended, stepped, runs}
use Rattle.runs.specs.Sites.{Whole}
use Rattle.search.specs.declared.Stand.{Stand}

-- the row space of a record
abbrev pub space : Limits → List ℕ → List ℕ
space m kept = drop (rows_at m) kept

-- a run that goes on after n steps
unfoldable pub later : ℕ → Ended → Ended
later n e = record { answer = e.answer; made = n + e.made; state = e.state; letter = e.letter }

-- the state is s with another tree, and the run from s goes on from there
pub record OnTheWay (m : Limits) (budget made : ℕ) (s : State) (t : Tree) : Type 0 where
  pub few : made ≤ budget
  pub goes_on : runs m budget s ≡ later made (runs m (budget - made) (stepped s t))

-- Begin and end ----------------------------------------------------------------------------------------------------

-- the record's rows stand at the end of the work buffer
pub record Begins (m : Limits) (kept work work' : List ℕ) (s : Stand) : Type 0 where
  pub bytes : work' ≡ take (8 * s.r) work ++ (take (8 * term_count kept) (drop (rows_at m) kept) ++ drop (8 * s.r + 8 * term_count kept) work)
  pub none_passed : s.l ≡ 0
  pub no-frame : s.d ≡ 0
  pub first : s.r + term_count kept ≡ row_count work

-- before the row space a record of s stands
pub record Fronts (m : Limits) (kept : List ℕ) (s : State) : Type 0 where
  pub roomy : Roomy m s
  pub front : take (rows_at m) kept ≡ take (rows_at m) (record_of m s)

-- the rows to come are put behind the rows passed: the record is that of the whole
abbrev pub PutBack : Limits → List ℕ → List ℕ → List ℕ → Stand → Type 0
PutBack m kept kept' work s =
    (form : ℕ → Form) (k : ℕ) (frames : List ℕ) (from : State) (t : Tree) → Fronts m kept from → Whole form k (space m kept) work frames s t → kept' ≡ record_of m (stepped from t)

-- The call ---------------------------------------------------------------------------------------------------------

-- a sent call, from the rows of the call's tree: its own row, the tool's, then the arguments'
unfoldable pub letter_from : ℕ → List ℕ → List ℕ
letter_from next call =
    write call_head (next ∷ number 4 (drop 12 call) ∷ (length call / 8 - 2) ∷ number 2 (drop 2 call) ∷ []) ++ drop 16 call
