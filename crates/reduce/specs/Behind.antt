-- Rows that begin with a tree and go on behind it; and a rule that makes the end of that tree, so that it stands already. Assumes nothing.
use Rattle.std.specs.Prelude.{ℕ, ◌≤◌, ◌<◌, ◌≡◌, List, length, drop}
use Rattle.std.specs.Prelude.{Some}
use Rattle.layout.specs.Rows.{row_table, term_rows}
use Rattle.meaning.specs.Types.{Form}
use Rattle.meaning.specs.Terms.{Tree, flat, size, tree_of}
use Rattle.reduce.specs.Rule.{rule_of}

-- the first tree ends within the rows
pub record Begins (rows : List ℕ) : Type 0 where
  pub few : length rows ≤ 32768
  pub inside : size (tree_of (term_rows rows)) ≤ length (row_table rows)

-- its rule makes what stands behind its first n rows
pub record StandsBehind (form : ℕ → Form) (t : Tree) (n : ℕ) : Type 0 where
  pub made : Tree
  pub rule : rule_of form t ≡ Some made
  pub rows : flat made ≡ drop n (flat t)

-- the same at every form, behind one row at least
abbrev pub EndStands : List ℕ → ℕ → Type 0
EndStands rows n = (0 < n) × ((form : ℕ → Form) → StandsBehind form (tree_of (term_rows rows)) n)
