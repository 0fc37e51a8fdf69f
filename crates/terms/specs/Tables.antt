-- The children of each kind in a table, the ranges of its fields, and where the trees of a table end. Assumes nothing.
use Rattle.std.specs.Prelude.{ℕ, zero, suc, ◌+◌, ◌≤◌, ◌<◌, ◌≡◌, List, [], ◌∷◌, length, get_or}
use Rattle.terms.specs.declared.Ranges.{Ranges}
use Rattle.meaning.specs.Terms.{Row, arity, row_of, size, tree_at}

-- by kind, how many children a row has, those that n counts not among them; 64 more where n counts children
abbrev pub child_table : List ℕ
child_table = 0 ∷ 0 ∷ 0 ∷ 0 ∷ 0 ∷ 0 ∷ 1 ∷ 0 ∷ 65 ∷ 0 ∷ 3 ∷ 1 ∷ 0 ∷ 2 ∷ 1 ∷ 1 ∷ 64 ∷ 1 ∷ 1 ∷ 2 ∷ []

-- by kind, the ranges of n and word that `kind_fields` states
abbrev pub range : ℕ → ℕ → ℕ → ℕ → Ranges
range low high least most = record { n_least = low; n_most = high; word_least = least; word_most = most }

abbrev pub unused : Ranges
unused = range 0 0 0 0

abbrev pub worded : Ranges
worded = range 0 0 0 4294967295

abbrev pub numbered : Ranges
numbered = range 0 0 1 65535

abbrev pub counted : ℕ → ℕ → Ranges
counted low high = range low high 0 0

abbrev pub range_table : List Ranges
range_table =
    unused ∷ worded ∷ worded ∷ unused ∷ unused ∷ numbered ∷ unused ∷ numbered ∷ counted 0 8 ∷ numbered
    ∷ unused ∷ unused ∷ unused ∷ unused ∷ unused ∷ counted 1 255 ∷ counted 1 8 ∷ counted 1 8 ∷ counted 1 8 ∷ numbered ∷ []

-- row i has two children, and the row behind it is there and has none: a cons with a head of one row
pub record Links (t : List (List ℕ)) (i : ℕ) : Type 0 where
  pub there : i + 1 < length t
  pub two : arity (row_of (get_or t i [])).head ≡ 2
  pub leaf : arity (row_of (get_or t (i + 1) [])).head ≡ 0

-- the rows are one tree, and each row's tree ends within them
pub record Closed (l : List Row) (rows : ℕ) : Type 0 where
  pub one : size (tree_at l 0) ≡ rows
  pub within : (j : ℕ) → j < rows → j + size (tree_at l j) ≤ rows

-- the array has for each row the row behind its tree
abbrev pub Ends : List Row → ℕ → List ℕ → Type 0
Ends l rows es = (j : ℕ) → j < rows → get_or es j 0 ≡ j + size (tree_at l j)

-- n entries on, each of which names the next; and that each of them is there
unfoldable pub hop : List ℕ → ℕ → ℕ → ℕ
hop es at zero = at
hop es at (suc n) = hop es (get_or es at 0) n

unfoldable pub HopsIn : List ℕ → ℕ → ℕ → Type 0
HopsIn es at zero = Unit {0}
HopsIn es at (suc n) = (at < length es) × HopsIn es (get_or es at 0) n
