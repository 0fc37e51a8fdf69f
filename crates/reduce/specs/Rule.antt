-- What the rule of a table's first row makes of the tree that the rows are. Assumes nothing.
use Rattle.std.specs.Prelude.{ℕ, ◌≤◌, ◌≡◌, List, [], map, length, get_or}
use Rattle.std.specs.Prelude.{Option, None, Some}
use Rattle.layout.specs.Rows.{row_table, term_rows}
use Rattle.meaning.specs.Types.{Form}
use Rattle.meaning.specs.Terms.{Tree, node, flat, size, raw, kind_no, n_no, word_no, tree_of}
use Rattle.meaning.specs.Steps.{Out, stay, go, contract}

-- the tree after a step that sends nothing
unfoldable pub quiet : Out → Option Tree
quiet stay = None
quiet (go None t) = Some t
quiet (go (Some c) t) = None

-- "What reduces at a row": the tree that its rule makes, where it sends nothing; the next number is then never asked
unfoldable pub rule_of : (ℕ → Form) → Tree → Option Tree
rule_of form (node h u f) = quiet (contract form 0 h u f)

-- the rows of what is made, as numbers, and how many they are
unfoldable pub size_if : Option Tree → Option ℕ
size_if None = None
size_if (Some t) = Some (size t)

unfoldable pub rows_if : Option Tree → List (List ℕ)
rows_if None = []
rows_if (Some t) = map raw (flat t)

-- the rows begin with a tree and may go on behind it, each row the numbers of its head, and are few
pub record Front (rows : List ℕ) : Type 0 where
  pub few : length (row_table rows) ≤ 2048
  pub exact : map raw (term_rows rows) ≡ row_table rows
  pub inside : size (tree_of (term_rows rows)) ≤ length (row_table rows)
  -- a let's name is in range
  pub name : kind_no (get_or (row_table rows) 0 []) ≡ 19 → word_no (get_or (row_table rows) 0 []) ≤ 65535

-- the rows are those of one tree, each the numbers of its head, and few
pub record Redex (rows : List ℕ) : Type 0 where
  pub few : length rows ≤ 16384
  pub exact : map raw (term_rows rows) ≡ row_table rows
  pub one : size (tree_of (term_rows rows)) ≡ length (row_table rows)
  -- a let's name is in range
  pub name : kind_no (get_or (row_table rows) 0 []) ≡ 19 → word_no (get_or (row_table rows) 0 []) ≤ 65535
  -- a call's arguments are eight at most
  pub args : kind_no (get_or (row_table rows) 0 []) ≡ 8 → n_no (get_or (row_table rows) 0 []) ≤ 8
