-- What a rule makes, told by rows: which rows are kept, which are new, and where they stand. Assumes nothing.
use Rattle.std.specs.Prelude.{ℕ, ◌+◌, ◌≤◌, ◌≡◌, true, false, List, [], ◌∷◌, ◌++◌, map, length, get_or}
use Rattle.std.specs.Prelude.{Option, None, Some}
use Rattle.layout.specs.Kinds.{number_of}
use Rattle.meaning.specs.Types.{Form, params, elem_of}
use Rattle.meaning.specs.Terms.{Tree, flat, flats, size, sizes, raw, row_of, kind_no, n_no, type_no, tree_of, tree_at, grove}
use Rattle.meaning.specs.Steps.{ready, any_nil, kids_at}
use Rattle.put.specs.Put.{standing}
use Rattle.reduce.specs.Rule.{rule_of}
use Rattle.reduce.specs.declared.Plan.{Plan}
use Rattle.reduce.specs.declared.Plan.TheVariants.{Stays, Part, Leaf, Pair, Let, Call, Tie, Zip}

unfoldable pub rows_of : Option Tree → Option (List (List ℕ))
rows_of None = None
rows_of (Some t) = Some (map raw (flat t))

-- the numbers of row i
abbrev pub row_no : List (List ℕ) → ℕ → List ℕ
row_no l i = get_or l i []

-- the rows that the rule of the first row makes
abbrev pub rule_rows : (ℕ → Form) → List (List ℕ) → Option (List (List ℕ))
rule_rows form l = rows_of (rule_of form (tree_of (map row_of l)))

-- a let whose body stands from a row on; a call of a native function whose arguments do
abbrev pub LetAt : List (List ℕ) → ℕ → Type 0
LetAt l body = (kind_no (row_no l 0) ≡ 19) × (body ≡ 1 + size (tree_at (map row_of l) 1))

abbrev pub CallsAt : List (List ℕ) → ℕ → Type 0
CallsAt l first = (kind_no (row_no l 0) ≡ 8) × (kind_no (row_no l 1) ≡ 6) × (first ≡ 1 + size (tree_at (map row_of l) 1))

-- a zip whose arguments stand from a row on
abbrev pub ZipsFrom : List (List ℕ) → ℕ → Type 0
ZipsFrom l first = (kind_no (row_no l 0) ≡ 8) × (kind_no (row_no l 1) ≡ 15) × (first ≡ 1 + size (tree_at (map row_of l) 1))

-- a zip of cons, whose arguments stand from a row on
pub record ZipsAt (l : List (List ℕ)) (first : ℕ) : Type 0 where
  pub behind : 2 ≤ first
  pub whole : first + sizes (grove (map row_of l) first (n_no (row_no l 0))) ≡ length l
  pub lists : ready (n_no (row_no l 1)) (grove (map row_of l) first (n_no (row_no l 0))) ≡ true
  pub full : any_nil (n_no (row_no l 1)) (grove (map row_of l) first (n_no (row_no l 0))) ≡ false

module _ (form : ℕ → Form) (l : List (List ℕ)) where
  -- "List project of a cons gives a cons of the projected head and the list-projected tail": the head stands from row 2, the tail from row `tail`
  unfoldable pub pair_rows : ℕ → List (List ℕ)
  pair_rows tail =
      (13 ∷ 0 ∷ type_no (row_no l 0) ∷ 0 ∷ [])
      ∷ (17 ∷ n_no (row_no l 0) ∷ elem_of (form (type_no (row_no l 0))) ∷ 0 ∷ [])
      ∷ (standing l 2 tail ++ ((18 ∷ n_no (row_no l 0) ∷ type_no (row_no l 0) ∷ 0 ∷ []) ∷ standing l tail (length l)))

  -- a zip's arguments, those that are masked by their i-th tree
  unfoldable pub half_rows : ℕ → ℕ → List (List ℕ)
  half_rows i first = map raw (flats (kids_at i (n_no (row_no l 1)) (grove (map row_of l) first (n_no (row_no l 0)))))

  -- "a cons of the inner function on the heads and the same zip on the tails, other arguments in both": the arguments stand from row `first`
  unfoldable pub zip_rows : ℕ → List (List ℕ)
  zip_rows first =
      (13 ∷ 0 ∷ type_no (row_no l 0) ∷ 0 ∷ [])
      ∷ (8 ∷ n_no (row_no l 0) ∷ elem_of (form (type_no (row_no l 0))) ∷ 0 ∷ [])
      ∷ (standing l 2 first ++ (half_rows 1 first
      ++ ((8 ∷ n_no (row_no l 0) ∷ type_no (row_no l 0) ∷ 0 ∷ []) ∷ (standing l 1 first ++ half_rows 2 first))))

  -- a fix of a function with a name
  abbrev pub TiesAt : Type 0
  TiesAt = (kind_no (row_no l 0) ≡ 11) × (kind_no (row_no l 1) ≡ 6) × (params (form (type_no (row_no l 1))) ≡ [] → ⊥)

  -- what each plan says of the rule
  unfoldable pub Plans : Plan → Type 0
  Plans Stays = rule_rows form l ≡ None
  Plans (Part from to) = (rule_rows form l ≡ Some (standing l from to)) × (from ≤ to) × (to ≤ length l)
  Plans (Leaf k) = rule_rows form l ≡ Some ((number_of k ∷ 0 ∷ type_no (row_no l 0) ∷ 0 ∷ []) ∷ [])
  Plans (Pair tail) = (rule_rows form l ≡ Some (pair_rows tail)) × (2 ≤ tail) × (tail ≤ length l)
  Plans (Let body) = LetAt l body
  Plans (Call first) = CallsAt l first
  Plans Tie = TiesAt
  Plans (Zip first) = ZipsFrom l first
