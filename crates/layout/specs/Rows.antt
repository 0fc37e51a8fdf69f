-- The numbers of a row by value, the tables that lent bytes are, and a board's limits. Assumes nothing.
use Rattle.std.specs.Prelude.{ℕ, ◌/◌, ◌<◌, ◌≡◌, Bool, List, [], ◌∷◌, map, length}
use Rattle.meaning.specs.Bytes.{Limits as Board, reads, type_row, term_row}
use Rattle.meaning.specs.Terms.{Row as Line, row_of}
use Rattle.layout.specs.declared.Limits.{Limits}
use Rattle.layout.specs.declared.Row.{Row}

abbrev pub numbers : Row → List ℕ
numbers r = r.kind ∷ r.n ∷ r.ty ∷ r.word ∷ []

-- a row whose numbers fit their widths
pub record IsRow (r : Row) : Type 0 where
  pub byte_kind : r.kind < 256
  pub byte_n : r.n < 256
  pub half_type : r.ty < 65536
  pub whole_word : r.word < 4294967296

-- a test of rows by value says of each what p says of its numbers
abbrev pub Tells : (Row → Bool → Type 0) → (List ℕ → Bool) → Type 0
Tells says p = (r : Row) (b : Bool) → IsRow r → says r b → b ≡ p (numbers r)

-- the table that lent bytes are: 36 bytes a type, 8 bytes a term row
abbrev pub type_table : List ℕ → List (List ℕ)
type_table s = reads type_row (length s / 36) s

abbrev pub row_table : List ℕ → List (List ℕ)
row_table s = reads term_row (length s / 8) s

-- a table of terms as heads and types
abbrev pub term_rows : List ℕ → List Line
term_rows s = map row_of (row_table s)

abbrev pub board : Limits → Board
board m =
    record {
      types = m.types;
      rows = m.rows;
      calls = m.calls;
      last_number = m.last;
      program_rows = m.program;
      reply_rows = m.reply;
      work_bytes = m.work;
    }
