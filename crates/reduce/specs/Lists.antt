-- A call of a zip whose masked arguments are lists: its rule goes. Assumes nothing.
use Rattle.std.specs.Prelude.{Bool, false, ℕ, eqb}
use Rattle.meaning.specs.Bytes.{◌∧ᵇ◌}
use Rattle.meaning.specs.Terms.{Head, arity, code, n_of, Tree, Forest, node, end, more, head_of}
use Rattle.meaning.specs.Typing.{first_is}
use Rattle.meaning.specs.Steps.{ready}

-- a call of a zip
unfoldable pub zips : (h : Head) → Forest (arity h) → Bool
zips h f = eqb (code h) 8 ∧ᵇ first_is 15 f

-- trees behind a first one, a zip: those that its mask names are lists
unfoldable pub lists_below : {n : ℕ} → Forest n → Bool
lists_below end = false
lists_below (more c args) = ready (n_of (head_of c)) args

-- "When all are nil or cons"
unfoldable pub zips_lists : (h : Head) → Forest (arity h) → Bool
zips_lists h f = zips h f ∧ᵇ lists_below f

-- the same of trees
unfoldable pub tree_zips : Tree → Bool
tree_zips (node h u f) = zips h f

unfoldable pub tree_zips_lists : Tree → Bool
tree_zips_lists (node h u f) = zips_lists h f
