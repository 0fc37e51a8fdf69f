-- The run record: the state that it holds, its bytes, and when it is sound. Assumes nothing.
use Rattle.std.specs.Prelude.{ℕ, suc, ◌+◌, ◌*◌, ◌-◌, Bool, true, false, cond, List, [], ◌∷◌, ◌++◌, map, eqb, leb, ltb, length, take, drop, get_or}
use Rattle.std.specs.Prelude.{Option, None, Some}
use Rattle.meaning.specs.Bytes.{◌∧ᵇ◌, within, zeros, Layout, width, read, write, reads, writes, padded, type_row, term_row, record_head, entry_row, Limits, types_at, calls_at, rows_at}
use Rattle.meaning.specs.Types.{Form, form_of, ground, bad_type, same_numbers, empty}
use Rattle.meaning.specs.Terms.{Tree, ty_of, flat, size, kind_no, type_no, word_no, raw, row_of, shape, tree_of}
use Rattle.meaning.specs.Typing.{given, first_bad}
use Rattle.meaning.specs.Terms.{Shape}
use Rattle.std.specs.Prelude.{Ok, Err}

-- a call in the open list: its number, and the type of its reply
pub record Entry : Type 0 where
  pub number : ℕ
  pub type : ℕ

-- what a record holds: the type rows, the term, the open calls, the next number, the program's type
pub record State : Type 0 where
  pub types : List (List ℕ)
  pub tree : Tree
  pub calls : List Entry
  pub next : ℕ
  pub program : ℕ

-- Writing --------------------------------------------------------------------------------------------------------

-- the edition that files are read in, and records written and read in
abbrev pub version : ℕ
version = 1

-- `TCR`, version, a zero byte
abbrev pub record_mark : List ℕ
record_mark = 84 ∷ 67 ∷ 82 ∷ version ∷ 0 ∷ []

unfoldable pub raw_entry : Entry → List ℕ
raw_entry e = e.number ∷ e.type ∷ 0 ∷ []

unfoldable pub head_numbers : State → List ℕ
head_numbers s = record_mark ++ (length s.types ∷ size s.tree ∷ length s.calls ∷ s.next ∷ s.program ∷ 0 ∷ [])

-- a run record: unused space is zero
unfoldable pub record_of : Limits → State → List ℕ
record_of m s =
    write record_head (head_numbers s)
    ++ (padded (width type_row * m.types) (writes type_row s.types)
    ++ (padded (width entry_row * m.calls) (writes entry_row (map raw_entry s.calls))
    ++ padded (width term_row * m.rows) (writes term_row (map raw (flat s.tree)))))

-- Reading --------------------------------------------------------------------------------------------------------

abbrev pub head_no : ℕ → List ℕ → ℕ
head_no i b = get_or (read record_head b) i 0

-- the edition that a record says it is of
abbrev pub record_edition : List ℕ → ℕ
record_edition b = head_no 3 b

abbrev pub type_count : List ℕ → ℕ
type_count b = head_no 5 b

abbrev pub row_count : List ℕ → ℕ
row_count b = head_no 6 b

abbrev pub open_count : List ℕ → ℕ
open_count b = head_no 7 b

abbrev pub next_number : List ℕ → ℕ
next_number b = head_no 8 b

abbrev pub program_type : List ℕ → ℕ
program_type b = head_no 9 b

unfoldable pub types_in : List ℕ → List (List ℕ)
types_in b = reads type_row (type_count b) (drop types_at b)

unfoldable pub entries_in : Limits → List ℕ → List (List ℕ)
entries_in m b = reads entry_row (open_count b) (drop (calls_at m) b)

unfoldable pub rows_in : Limits → List ℕ → List (List ℕ)
rows_in m b = reads term_row (row_count b) (drop (rows_at m) b)

unfoldable pub entry_of : List ℕ → Entry
entry_of r = record { number = get_or r 0 0; type = get_or r 1 0 }

unfoldable pub state_of : Limits → List ℕ → State
state_of m b =
    record {
      types = types_in b;
      tree = tree_of (map row_of (rows_in m b));
      calls = map entry_of (entries_in m b);
      next = next_number b;
      program = program_type b;
    }

-- Soundness, a test a sentence -----------------------------------------------------------------------------------

-- the first for which a test fails
unfoldable pub first_not : {A : Type 0} → (A → Bool) → List A → Option ℕ
first_not p [] = None
first_not p (x ∷ xs) = cond (p x) (elim (first_not p xs) [ None ↦ None | Some i ↦ Some (suc i) ]) (Some 0)

unfoldable pub nothing : Option ℕ → Bool
nothing None = true
nothing (Some i) = false

unfoldable pub is_whole : Shape → Bool
is_whole (Ok tt) = true
is_whole (Err (f, i)) = false

-- the header's fixed numbers and its counts, within the board's limits
unfoldable pub head_sound : Limits → List ℕ → Bool
head_sound m b =
    same_numbers (take 5 (read record_head b)) record_mark
    ∧ᵇ within 1 m.types (type_count b)
    ∧ᵇ within 1 m.rows (row_count b)
    ∧ᵇ leb (open_count b) m.calls
    ∧ᵇ within 1 (suc m.last_number) (next_number b)
    ∧ᵇ eqb (head_no 10 b) 0

-- "Unused space is zero": behind the n rows used of a part that begins at p and has room for `room` rows
unfoldable pub unused : Layout → ℕ → ℕ → ℕ → List ℕ → Bool
unused l p n room b = zeros (take (width l * (room - n)) (drop (p + width l * n) b))

unfoldable pub space_sound : Limits → List ℕ → Bool
space_sound m b =
    unused type_row types_at (type_count b) m.types b
    ∧ᵇ unused entry_row (calls_at m) (open_count b) m.calls b
    ∧ᵇ unused term_row (rows_at m) (row_count b) m.rows b

-- "its types and term pass what refusals 6, 7 and 9 test (futures allowed ..)"
unfoldable pub types_sound : List ℕ → Bool
types_sound b = nothing (bad_type (record_edition b) (types_in b))

unfoldable pub shape_sound : Limits → List ℕ → Bool
shape_sound m b = is_whole (shape (record_edition b) (type_count b) (rows_in m b))

unfoldable pub term_sound : Limits → List ℕ → Bool
term_sound m b = nothing (first_bad (form_of (types_in b)) empty (state_of m b).tree)

-- "kept in rising order of number", "every open number is at least 1": each above the one before it, the first above 0
unfoldable pub rises : ℕ → List Entry → Bool
rises low [] = true
rises low (e ∷ es) = ltb low e.number ∧ᵇ rises e.number es

-- "and below the next and its type ground"
unfoldable pub entry_sound : (ℕ → Form) → ℕ → List ℕ → Bool
entry_sound form next r = ltb (get_or r 0 0) next ∧ᵇ ground form (get_or r 1 0) ∧ᵇ eqb (get_or r 2 0) 0

unfoldable pub calls_sound : Limits → List ℕ → Bool
calls_sound m b = rises 0 (state_of m b).calls ∧ᵇ nothing (first_not (entry_sound (form_of (types_in b)) (next_number b)) (entries_in m b))

-- the type under which a number is open
unfoldable pub listed : List Entry → ℕ → Option ℕ
listed [] k = None
listed (e ∷ es) k = cond (eqb e.number k) (Some e.type) (listed es k)

-- "each future in the term is listed with its type"
unfoldable pub future_listed : List Entry → List ℕ → Bool
future_listed calls r = cond (eqb (kind_no r) 9) (given (listed calls (word_no r)) (type_no r)) true

unfoldable pub futures_sound : Limits → List ℕ → Bool
futures_sound m b = nothing (first_not (future_listed (state_of m b).calls) (rows_in m b))

-- "the first row has the program type"
unfoldable pub program_sound : Limits → List ℕ → Bool
program_sound m b = eqb (ty_of (state_of m b).tree) (program_type b)

unfoldable pub sound : Limits → List ℕ → Bool
sound m b =
    head_sound m b ∧ᵇ space_sound m b ∧ᵇ types_sound b ∧ᵇ shape_sound m b ∧ᵇ term_sound m b ∧ᵇ calls_sound m b ∧ᵇ futures_sound m b ∧ᵇ program_sound m b
