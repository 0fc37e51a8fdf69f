-- What a rule puts for names, as code hands it on. Assumes nothing.
use Rattle.std.specs.Prelude.{ℕ, ◌≤◌, ◌≡◌, List, [], ◌∷◌, ◌++◌, map, length, get_or, take}
use Rattle.std.specs.Prelude.{Some}
use Rattle.meaning.specs.Types.{Form}
use Rattle.meaning.specs.Terms.{row_of, n_no, type_no, size, tree_of}
use Rattle.put.specs.Put.{Ready, put_rows}
use Rattle.reduce.specs.Plan.{row_no, rule_rows}
use Rattle.reduce.specs.declared.puts.Puts.{Puts}

-- "the function of the remaining arguments": its row
abbrev pub tie_row : List (List ℕ) → List ℕ
tie_row l = 6 ∷ 0 ∷ type_no (row_no l 0) ∷ 0 ∷ []

-- where the arguments end, if each is put: the tree ends there too
abbrev pub EndsArgs : List (List ℕ) → Puts → Type 0
EndsArgs l p = p.count ≡ n_no (row_no l 0) → get_or p.bounds p.count 0 ≡ size (tree_of (map row_of l))

-- the rule makes some new rows and then the body with the arguments put for the names
pub record PutsRule (form : ℕ → Form) (l : List (List ℕ)) (front : List (List ℕ)) (p : Puts) : Type 0 where
  pub few : p.count ≤ length p.names
  pub ready : Ready l p.body (take p.count p.names) p.bounds
  pub rows : rule_rows form l ≡ Some (front ++ put_rows form l p.body (take p.count p.names) p.bounds)
