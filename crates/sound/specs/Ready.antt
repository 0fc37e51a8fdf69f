-- What is known of a record once its header has passed, and a table of list entries. Assumes nothing.
use Rattle.std.specs.Prelude.{ℕ, suc, ◌≤◌, ◌/◌, ◌≡◌, Bool, true, false, Result, OnOk, IfOk, List, map, eqb, leb, length}
use Rattle.meaning.specs.Bytes.{Limits as Board, ◌∧ᵇ◌, within, record_bytes, reads, entry_row}
use Rattle.meaning.specs.Records.{Entry, head_no, type_count, row_count, open_count, next_number, entry_of, head_sound, shape_sound, term_sound, calls_sound, futures_sound, program_sound}
use Rattle.layout.specs.declared.Limits.{Limits}
use Rattle.layout.specs.Rows.{board}

-- a board that the arrays of the tests have room for
pub record Roomy (m : Limits) : Type 0 where
  pub types : m.types ≤ 256
  pub rows : m.rows ≤ 2048
  pub calls : m.calls ≤ 64

pub record Ready (m : Limits) (kept : List ℕ) : Type 0 where
  pub room : Roomy m
  pub long : length kept ≡ record_bytes (board m)
  pub head : head_sound (board m) kept ≡ true

-- what a quick check tells of the rows of a record: where they are good, their shape and typing, and that no future is to be listed where none was seen
pub record ShowsRows (m : Board) (b : List ℕ) (r : Result Bool ℕ) : Type 0 where
  pub shape : OnOk r (shape_sound m b ≡ true)
  pub term : OnOk r (term_sound m b ≡ true)
  pub futures : IfOk r (λ future. future ≡ false → futures_sound m b ≡ true)

-- the table that lent bytes are: 8 bytes an entry
abbrev pub entry_table : List ℕ → List (List ℕ)
entry_table s = reads entry_row (length s / 8) s

-- the open calls that it lists
abbrev pub call_table : List ℕ → List Entry
call_table s = map entry_of (entry_table s)

-- head_sound behind the mark
unfoldable pub counts_fit : Board → List ℕ → Bool
counts_fit m b =
    within 1 m.types (type_count b)
    ∧ᵇ within 1 m.rows (row_count b)
    ∧ᵇ leb (open_count b) m.calls
    ∧ᵇ within 1 (suc m.last_number) (next_number b)
    ∧ᵇ eqb (head_no 10 b) 0

-- sound behind the tests of the rows, and behind that of the types
unfoldable pub others_sound : Board → List ℕ → Bool
others_sound m b = calls_sound m b ∧ᵇ futures_sound m b ∧ᵇ program_sound m b

unfoldable pub rest_sound : Board → List ℕ → Bool
rest_sound m b = shape_sound m b ∧ᵇ term_sound m b ∧ᵇ others_sound m b
