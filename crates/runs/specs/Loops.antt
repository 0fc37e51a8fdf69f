-- What the loops of a run leave: the next rule that goes or sends, a step carried out, an answer. Assumes nothing.
use Rattle.std.specs.Prelude.{ℕ, ◌+◌, ◌*◌, ◌-◌, ◌<◌, ◌≤◌, ◌≡◌, Bool, true, List, [], ◌∷◌, length}
use Rattle.std.specs.Prelude.{Some}
use Rattle.meaning.specs.Bytes.{Limits, padded, record_bytes}
use Rattle.meaning.specs.Types.{Form}
use Rattle.meaning.specs.Terms.{Tree, size, top}
use Rattle.meaning.specs.Steps.{Call, stay, go, value, step}
use Rattle.meaning.specs.Records.{State, record_of, state_of, sound, row_count}
use Rattle.meaning.specs.Entries.{sent, letter_of, runs, RunSays}
use Rattle.meaning.specs.Answers.{Run}
use Rattle.meaning.specs.Answers.{ended_by}
use Rattle.std.specs.Prelude.{Ok, Err}
use Rattle.search.specs.Frames.{around}
use Rattle.search.specs.declared.Stand.{Stand}
use Rattle.runs.specs.Sites.{Halted, own}
use Rattle.runs.specs.Going.{space, Fronts, later}
use Rattle.runs.specs.declared.Gone.{Gone}
use Rattle.runs.specs.declared.Gone.TheVariants.{Ended, Left}

-- whether the whole is a value, where the rule at the root stays
abbrev pub TellsValue : List ℕ → List ℕ → List ℕ → Stand → Bool → Type 0
TellsValue left work frames s b = (form : ℕ → Form) (k : ℕ) (t : Tree) (h : Halted form k left work frames s t) → h.outer ≡ [] → own form k h.tree ≡ stay → (step form k t ≡ stay) × (value t ≡ b)

-- a run may begin: the record is sound, the work buffer is the board's, there is a frame for each row and room for a letter
pub record Ready (m : Limits) (kept work frames : List ℕ) : Type 0 where
  pub long : length kept ≡ record_bytes m
  pub is-sound : sound m kept ≡ true
  pub work-long : length work ≡ m.work_bytes
  pub deep : row_count kept ≤ length frames
  pub frames-few : length frames ≤ 2048
  pub wide : 8 * m.rows + 16 ≤ m.work_bytes
  pub few : m.work_bytes ≤ 32768
  pub types : m.types ≤ 256
  pub rows : m.rows ≤ 2048
  pub calls : m.calls ≤ 64
  pub numbers : m.last_number ≤ 65535
  pub programs : m.program_rows ≤ m.rows

-- the call where the search has stopped was sent: record and work buffer as they are after it
abbrev pub SentOff : Limits → List ℕ → List ℕ → List ℕ → List ℕ → List ℕ → Stand → ℕ → ℕ → Type 0
SentOff m kept kept' work work' frames s old next =
    (form : ℕ → Form) (from : State) (t : Tree) (h : Halted form next (space m kept) work frames s t) (c : Call) (u : Tree) → Fronts m kept from → from.next ≡ next → from.calls ≡ (state_of m kept).calls → own form next h.tree ≡ go (Some c) u → size h.tree ≡ old
    → (kept' ≡ record_of m (sent from c (top (around h.outer (u ∷ h.rest))))) × (work' ≡ padded (length work) (letter_of next c))

-- On few frames ----------------------------------------------------------------------------------------------------

-- the term has outgrown the frames after n steps: the run goes on from the record
pub record Outgrown (m : Limits) (kept frames : List ℕ) (budget n : ℕ) (kept' : List ℕ) : Type 0 where
  pub short : length frames < m.rows
  pub few : n ≤ budget
  pub long : length kept' ≡ record_bytes m
  pub is-sound : sound m kept' ≡ true
  pub goes_on : runs m budget (state_of m kept) ≡ later n (runs m (budget - n) (state_of m kept'))

unfoldable pub GoneSays : Limits → List ℕ → List ℕ → List ℕ → ℕ → Gone → List ℕ → List ℕ → Type 0
GoneSays m kept work frames budget (Ended r) kept' work' = RunSays m kept work budget r kept' work'
GoneSays m kept work frames budget (Left n) kept' work' = Outgrown m kept frames budget n kept'

-- what a run says, said n steps later, and the steps that it says
unfoldable pub said_later : ℕ → Run → Run
said_later n (Ok r) = ended_by r.answer (n + r.steps)
said_later n (Err x) = Err x

unfoldable pub steps_said : Run → ℕ
steps_said (Ok r) = r.steps
steps_said (Err x) = 0
