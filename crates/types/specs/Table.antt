-- Rows of a type table in bytes, and what a memo of ground types may say. Assumes nothing.
use Rattle.std.specs.Prelude.{ℕ, ◌+◌, ◌*◌, ◌<◌, ◌≡◌, ◌⊎◌, Bool, true, false, List, take, drop, get_or}
use Rattle.meaning.specs.Bytes.{◌∧ᵇ◌, within, read, reads, type_row}
use Rattle.meaning.specs.Types.{Form, types, names, pairs, form_no, parts_no, result_no, parts, every, ground, last_form, fields_ok, ground_call}

-- row t of a type table, and the rows before it
abbrev pub type_at : List ℕ → ℕ → List ℕ
type_at s t = read type_row (drop (36 * t) s)

abbrev pub rows_before : List ℕ → ℕ → List (List ℕ)
rows_before s t = reads type_row t s

-- names and types of the first n pairs of a row
abbrev pub first_names : ℕ → List ℕ → List ℕ
first_names n r = names (take n (pairs (drop 3 r)))

abbrev pub first_types : ℕ → List ℕ → List ℕ
first_types n r = types (take n (pairs (drop 3 r)))

-- the numbers of a row before its pairs as one number, which tells each; its k-th pair as one
pub record HeadWord (r : List ℕ) (w : ℕ) : Type 0 where
  pub sum : w ≡ form_no r + 256 * parts_no r + 65536 * result_no r
  pub low : form_no r < 256
  pub mid : parts_no r < 256
  pub fits : w < 4294967296

pub record PairWord (r : List ℕ) (k w : ℕ) : Type 0 where
  pub sum : w ≡ get_or r (3 + 2 * k) 0 + 65536 * get_or r (4 + 2 * k) 0
  pub low : get_or r (3 + 2 * k) 0 < 65536
  pub fits : w < 4294967296

-- groundCall's arguments
unfoldable pub parts_ground : (ℕ → Form) → List ℕ → Bool
parts_ground form r = every (ground form) (types (parts r))

-- what is asked of row t besides that it is fresh
unfoldable pub own_ok : ℕ → (ℕ → Form) → ℕ → List ℕ → Bool
own_ok edition form t r = within 1 (last_form edition) (form_no r) ∧ᵇ fields_ok t r ∧ᵇ ground_call form r

-- what a memo says of a type that is ground, and of one that is not
abbrev pub mark : Bool → ℕ
mark true = 1
mark false = 2

-- a memo of types: of each it says nothing, or what is true
unfoldable pub Truthful : List ℕ → (ℕ → Form) → Type 0
Truthful known form = (t : ℕ) → (get_or known t 0 ≡ 0) ⊎ (get_or known t 0 ≡ mark (ground form t))

-- what a walk over the table with a memo answers and leaves
pub record Told (form : ℕ → Form) (known : List ℕ) (due b : Bool) : Type 0 where
  pub answer : b ≡ due
  pub memo : Truthful known form
