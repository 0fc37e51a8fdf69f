-- Numbers in bytes, the layout of every row and header, and what a board has room for. Assumes nothing.
use Rattle.std.specs.Prelude.{ℕ, zero, suc, ◌+◌, ◌*◌, ◌/◌, ◌%◌, ◌-◌, Bool, true, false, List, [], ◌∷◌, ◌++◌, eqb, leb, length, drop, replicate}

-- both of two tests
infixr 35 ◌∧ᵇ◌
unfoldable pub ◌∧ᵇ◌ : Bool → Bool → Bool
true ∧ᵇ b = b
false ∧ᵇ b = false

unfoldable pub within : ℕ → ℕ → ℕ → Bool
within low high n = leb low n ∧ᵇ leb n high

unfoldable pub zeros : List ℕ → Bool
zeros [] = true
zeros (b ∷ s) = eqb b 0 ∧ᵇ zeros s

-- "All numbers are little-endian": what the first w bytes spell, and the w bytes that spell a number
unfoldable pub number : ℕ → List ℕ → ℕ
number zero s = 0
number (suc w) [] = 0
number (suc w) (b ∷ s) = b + 256 * number w s

unfoldable pub spell : ℕ → ℕ → List ℕ
spell zero n = []
spell (suc w) n = n % 256 ∷ spell w (n / 256)

-- a layout is the widths of its fields; one definition reads by it, one writes
abbrev pub Layout : Type 0
Layout = List ℕ

unfoldable pub width : Layout → ℕ
width [] = 0
width (w ∷ l) = w + width l

unfoldable pub read : Layout → List ℕ → List ℕ
read [] s = []
read (w ∷ l) s = number w s ∷ read l (drop w s)

unfoldable pub write : Layout → List ℕ → List ℕ
write [] ns = []
write (w ∷ l) [] = spell w 0 ++ write l []
write (w ∷ l) (n ∷ ns) = spell w n ++ write l ns

-- rows of one layout, one behind the other
unfoldable pub reads : Layout → ℕ → List ℕ → List (List ℕ)
reads l zero s = []
reads l (suc n) s = read l s ∷ reads l n (drop (width l) s)

unfoldable pub writes : Layout → List (List ℕ) → List ℕ
writes l [] = []
writes l (r ∷ rs) = write l r ++ writes l rs

-- bytes, then zeros up to a length
unfoldable pub padded : ℕ → List ℕ → List ℕ
padded n s = s ++ replicate (n - length s) 0

-- the mark is three bytes
-- program file: mark, version, a zero byte, type count, row count
abbrev pub file_head : Layout
file_head = 1 ∷ 1 ∷ 1 ∷ 2 ∷ 1 ∷ 2 ∷ 2 ∷ []

-- type row: form, n, result, eight pairs of name and type
abbrev pub type_row : Layout
type_row = 1 ∷ 1 ∷ 2 ∷ 2 ∷ 2 ∷ 2 ∷ 2 ∷ 2 ∷ 2 ∷ 2 ∷ 2 ∷ 2 ∷ 2 ∷ 2 ∷ 2 ∷ 2 ∷ 2 ∷ 2 ∷ 2 ∷ []

-- term row: kind, n, type, word
abbrev pub term_row : Layout
term_row = 1 ∷ 1 ∷ 2 ∷ 4 ∷ []

-- run record: mark, version, a zero byte, type count, row count, open count, next number, program type, two zeros
abbrev pub record_head : Layout
record_head = 1 ∷ 1 ∷ 1 ∷ 2 ∷ 1 ∷ 2 ∷ 2 ∷ 2 ∷ 4 ∷ 2 ∷ 2 ∷ []

-- entry of the open list: number, type, two zeros
abbrev pub entry_row : Layout
entry_row = 4 ∷ 2 ∷ 2 ∷ []

-- reply: number, row count, two zeros
abbrev pub reply_head : Layout
reply_head = 4 ∷ 2 ∷ 2 ∷ []

-- sent call: number, tool, row count of all arguments, result type
abbrev pub call_head : Layout
call_head = 4 ∷ 4 ∷ 2 ∷ 2 ∷ []

-- what a board has room for
pub record Limits : Type 0 where
  pub types : ℕ
  pub rows : ℕ
  pub calls : ℕ
  pub last_number : ℕ
  pub program_rows : ℕ
  pub reply_rows : ℕ
  pub work_bytes : ℕ

-- the attachment arm
abbrev pub arm : Limits
arm = record { types = 256; rows = 2048; calls = 64; last_number = 65535; program_rows = 1024; reply_rows = 256; work_bytes = 16400 }

-- where the parts of a run record begin, and its length
abbrev pub types_at : ℕ
types_at = width record_head

unfoldable pub calls_at : Limits → ℕ
calls_at m = types_at + width type_row * m.types

unfoldable pub rows_at : Limits → ℕ
rows_at m = calls_at m + width entry_row * m.calls

unfoldable pub record_bytes : Limits → ℕ
record_bytes m = rows_at m + width term_row * m.rows
