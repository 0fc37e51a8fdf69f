-- A record with other rows, or with another open list and next number. Assumes nothing.
use Rattle.std.specs.Prelude.{ℕ, ◌*◌, ◌≤◌, ◌≡◌, List, map, length, take, drop}
use Rattle.meaning.specs.Bytes.{writes, term_row, Limits, rows_at}
use Rattle.meaning.specs.Terms.{Tree, flat, size, raw}
use Rattle.meaning.specs.Records.{State, Entry, record_of}
use Rattle.meaning.specs.Entries.{stepped}

-- the state with these open calls and this next number
unfoldable pub recalled : State → List Entry → ℕ → State
recalled s calls next = record { types = s.types; tree = s.tree; calls = calls; next = next; program = s.program }

-- types and calls have room
pub record Roomy (m : Limits) (s : State) : Type 0 where
  pub types : length s.types ≤ m.types
  pub calls : length s.calls ≤ m.calls
  pub rows : size s.tree ≤ m.rows

-- before the row space stands the record of s, in it the rows of t
pub record Holding (m : Limits) (kept : List ℕ) (rows : ℕ) (s : State) (t : Tree) : Type 0 where
  pub roomy : Roomy m s
  pub count : rows ≡ size t
  pub front : take (rows_at m) kept ≡ take (rows_at m) (record_of m s)
  pub term : take (8 * rows) (drop (rows_at m) kept) ≡ writes term_row (map raw (flat t))

abbrev pub RowsRenewed : Limits → List ℕ → List ℕ → ℕ → Type 0
RowsRenewed m kept kept' rows = (s : State) (t : Tree) → Holding m kept rows s t → kept' ≡ record_of m (stepped s t)

abbrev pub CallsRenewed : Limits → List ℕ → List ℕ → List Entry → ℕ → Type 0
CallsRenewed m kept kept' calls next = (s : State) → Roomy m s → kept ≡ record_of m s → kept' ≡ record_of m (recalled s calls next)
