-- A rule carried out in one pass: the rows of its tree, and the new tree's at the front of a table. Assumes nothing.
use Rattle.std.specs.Prelude.{ℕ, ◌≡◌, List, map, take}
use Rattle.std.specs.Prelude.{Some}
use Rattle.meaning.specs.Types.{Form}
use Rattle.meaning.specs.Terms.{kind_no, Tree, flat, size, raw, row_of, tree_of}
use Rattle.put.specs.declared.Made.{Made}
use Rattle.reduce.specs.Rule.{rule_of}
use Rattle.reduce.specs.Plan.{row_no, TiesAt}
use Rattle.reduce.specs.declared.once.Rule.{Rule}
use Rattle.reduce.specs.declared.once.Rule.TheVariants as rule

-- the rule of the first row makes a tree
abbrev pub Goes : (ℕ → Form) → List (List ℕ) → Type 0
Goes form l = (u : Tree) × (rule_of form (tree_of (map row_of l)) ≡ Some u)

-- how many rows its tree has, and how many the one that it makes, which stand at the front of a table
pub record MadeAtOnce (form : ℕ → Form) (l to : List (List ℕ)) (m : Made) : Type 0 where
  pub whole : m.end ≡ size (tree_of (map row_of l))
  pub made : Tree
  pub rule : rule_of form (tree_of (map row_of l)) ≡ Some made
  pub count : m.rows ≡ size made
  pub front : take m.rows to ≡ map raw (flat made)

-- which rows each of these rules asks for
abbrev pub Applies : (ℕ → Form) → List (List ℕ) → Rule → Type 0
Applies form l rule.Let = kind_no (row_no l 0) ≡ 19
Applies form l rule.Call = (kind_no (row_no l 0) ≡ 8) × (kind_no (row_no l 1) ≡ 6)
Applies form l rule.Zip = (kind_no (row_no l 0) ≡ 8) × (kind_no (row_no l 1) ≡ 15)
Applies form l rule.Then = (kind_no (row_no l 0) ≡ 10) × (kind_no (row_no l 1) ≡ 3)
Applies form l rule.Tie = TiesAt form l
