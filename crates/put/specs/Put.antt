-- Names put at once, row by row: which names are hidden in each tree still owed, and the rows that are written. Assumes nothing.
use Rattle.std.specs.Prelude.{ℕ, zero, suc, ◌+◌, ◌*◌, ◌-◌, ◌≤◌, ◌<◌, min, max, ◌≡◌, Bool, true, false, cond, List, [], ◌∷◌, ◌++◌, map, eqb, length, get_or, take, drop}
use Rattle.std.specs.Prelude.{Option, None, Some, is_some}
use Rattle.meaning.specs.Types.{Form, Param, params, find, low, rest}
use Rattle.meaning.specs.Terms.{Head, arity, code, word_of, Row, row_of, raw, size, sizes, tree_at, grove}
use Rattle.meaning.specs.Steps.{◌∨ᵇ◌}
use Rattle.layout.specs.Rows.{numbers}
use Rattle.layout.specs.declared.Row.{Row as Line}
use Rattle.put.specs.declared.Range.{Range}
use Rattle.put.specs.declared.Scan.{Scan}
use Rattle.put.specs.declared.Turn.{Turn}
use Rattle.put.specs.declared.Turn.TheVariants.{Stands, Whole, Puts, Mixed}
use Rattle.put.specs.declared.Made.{Made}

unfoldable pub next : Option ℕ → Option ℕ
next None = None
next (Some j) = Some (suc j)

-- the place of a name among those that are put, where those with a one in the mask are hidden (bit 0: the first)
unfoldable pub pick : List ℕ → ℕ → ℕ → Option ℕ
pick [] m x = None
pick (y ∷ ys) m x = cond (eqb x y) (cond (low m) None (Some 0)) (next (pick ys (rest m) x))

-- the mask where a binder's names are hidden too
unfoldable pub mark : (ℕ → Bool) → List ℕ → ℕ → ℕ
mark b [] m = 0
mark b (y ∷ ys) m = cond (low m ∨ᵇ b y) 1 0 + 2 * mark b ys (rest m)

-- the first n of a function's values, in front of others
unfoldable pub fan : ℕ → (ℕ → ℕ) → List ℕ → List ℕ
fan zero g ms = ms
fan (suc n) g ms = g 0 ∷ fan n (λ i. g (suc i)) ms

unfoldable pub at_place : ℕ → ℕ → ℕ → ℕ
at_place zero a b = a
at_place (suc i) a b = b

-- which names a row binds in its last tree: "A native function binds its type's names in its body; let binds its name .. in its body only"
unfoldable pub binds : (ℕ → Form) → Head → ℕ → ℕ → Bool
binds form h ty y = cond (eqb (code h) 6) (is_some (find (params (form ty)) y)) (cond (eqb (code h) 19) (eqb y (word_of h)) false)

-- what is written for a row: itself, or an argument's rows
unfoldable pub rows_for : (ℕ → List (List ℕ)) → Option ℕ → List ℕ → List (List ℕ)
rows_for args None r = r ∷ []
rows_for args (Some j) r = args j

-- which argument is put at a row: at a variable whose name is put and not hidden
unfoldable pub chosen : List ℕ → Head → ℕ → Option ℕ
chosen names h m = cond (eqb (code h) 5) (pick names m (word_of h)) None

module _ (form : ℕ → Form) (names : List ℕ) where
  -- the mask of the i-th tree of a row that is met under mask m
  unfoldable pub inner : Head → ℕ → ℕ → ℕ → ℕ
  inner h ty m i =
      cond (eqb (code h) 6) (mark (binds form h ty) names m)
      (cond (eqb (code h) 19) (at_place i m (mark (binds form h ty) names m)) m)

  -- the masks of the trees owed behind a row: those of its own trees, in front of the others
  unfoldable pub after : Row → ℕ → List ℕ → List ℕ
  after r m ms = fan (arity r.head) (inner r.head r.type m) ms

  -- a row that hides none of the names
  abbrev pub Bare : Row → Type 0
  Bare r = mark (binds form r.head r.type) names 0 ≡ 0

  -- THE PASS: the rows written for the trees still owed, a mask for each. "put the arguments or bound term, unevaluated, for the free names
  -- at once. A hidden name stays"
  unfoldable pub run : (ℕ → List (List ℕ)) → List (List ℕ) → List ℕ → List (List ℕ)
  run args [] ms = []
  run args (r ∷ rs) [] = []
  run args (r ∷ rs) (m ∷ ms) = rows_for args (chosen names (row_of r).head m) r ++ run args rs (after (row_of r) m ms)

-- In a table of rows ---------------------------------------------------------------------------------------------

-- the rows of a table from one to before another
abbrev pub standing : List (List ℕ) → ℕ → ℕ → List (List ℕ)
standing l from to = take (to - from) (drop from l)

-- the masks of the trees owed, the next one first: entry k is that of the tree behind which k trees are owed
unfoldable pub below : List ℕ → ℕ → List ℕ
below s zero = []
below s (suc k) = get_or s k 0 ∷ below s k

-- the argument for the j-th name stands from row bounds j to before row bounds (j + 1)
abbrev pub arg_rows : List (List ℕ) → List ℕ → ℕ → List (List ℕ)
arg_rows l bounds j = standing l (get_or bounds j 0) (get_or bounds (j + 1) 0)

-- THE ROWS of the body at a row of a table, with the arguments put for the names
unfoldable pub put_rows : (ℕ → Form) → List (List ℕ) → ℕ → List ℕ → List ℕ → List (List ℕ)
put_rows form l body names bounds = run form names (arg_rows l bounds) (drop body l) (0 ∷ [])

-- the rows that are copied for row i, from and to
unfoldable pub first_row : List ℕ → ℕ → Option ℕ → ℕ
first_row bounds i None = i
first_row bounds i (Some j) = get_or bounds j 0

unfoldable pub end_row : List ℕ → ℕ → Option ℕ → ℕ
end_row bounds i None = i + 1
end_row bounds i (Some j) = get_or bounds (j + 1) 0

-- behind row r the masks are those of the trees owed
pub record Descends (form : ℕ → Form) (names : List ℕ) (r : Row) (masks masks' : List ℕ) (owed owed' : ℕ) : Type 0 where
  pub long : length masks' ≡ length masks
  pub owes : owed' ≡ owed - 1 + arity r.head
  pub trees : below masks' owed' ≡ after form names r (get_or masks (owed - 1) 0) (below masks (owed - 1))

-- the body is a whole tree within the rows, and so is where each name's argument stands
pub record Ready (l : List (List ℕ)) (body : ℕ) (names bounds : List ℕ) : Type 0 where
  pub few : length l ≤ 2048
  pub whole : body + size (tree_at (map row_of l) body) ≤ length l
  pub eight : length names ≤ 8
  pub bounded : length names < length bounds
  pub within : (j : ℕ) → j < length names → (get_or bounds j 0 ≤ get_or bounds (j + 1) 0) × (get_or bounds (j + 1) 0 ≤ length l)

-- In one pass ------------------------------------------------------------------------------------------------------

-- each of the names is one of a function's
abbrev pub Among : List ℕ → List Param → Type 0
Among names ps = (j : ℕ) → j < length names → is_some (find ps (get_or names j 0)) ≡ true

-- a range with one name more
pub record Widens (x z : Range) (y : ℕ) : Type 0 where
  pub least : z.low ≡ min x.low y
  pub greatest : z.high ≡ max x.high y

-- the names are in a range
pub record Within (names : List ℕ) (x : Range) : Type 0 where
  pub ordered : x.low ≤ x.high
  pub small : x.high ≤ 65535
  pub each : (j : ℕ) → j < length names → (x.low ≤ get_or names j 0) × (get_or names j 0 ≤ x.high)

-- the trees owed where a pass stands end within the rows
pub record Owing (l : List (List ℕ)) (at : Scan) : Type 0 where
  pub few : length l ≤ 2048
  pub within : at.i + sizes (grove (map row_of l) at.i at.owed) ≤ length l

-- a row is no function, and its word is not in a range: it is none of the names there, and hides none
pub record Clear (x : Range) (r : Line) : Type 0 where
  pub other : r.kind ≡ 6 → ⊥
  pub out : x.low ≤ r.word → r.word ≤ x.high → ⊥

-- rows of which this holds are passed, from row i on, where some trees are owed, to before another row, where others are
pub data Skips (P : Line → Type 0) (l : List (List ℕ)) (i owed : ℕ) : ℕ → ℕ → Type 0 where
  still : Skips P l i owed i owed
  past : {j n : ℕ} → Skips P l i owed j n → 0 < n → (r : Line) → get_or l j [] ≡ numbers r → P r → Skips P l i owed (j + 1) (n - 1 + arity (row_of (numbers r)).head)

-- under this mask no name is put
abbrev pub Shut : List ℕ → ℕ → Type 0
Shut names m = (x : ℕ) → pick names m x ≡ None

-- what a pass does at a row that is met under no mask
unfoldable pub Turns : (ℕ → Form) → List ℕ → List ℕ → Row → Turn → Type 0
Turns form names bounds r Stands = Bare form names r × (chosen names r.head 0 ≡ None)
Turns form names bounds r Whole = (chosen names r.head 0 ≡ None) × ((i : ℕ) → Shut names (inner form names r.head r.type 0 i))
Turns form names bounds r (Puts s) = Bare form names r × ((j : ℕ) × (chosen names r.head 0 ≡ Some j) × (s.from ≡ get_or bounds j 0) × (s.to ≡ get_or bounds (j + 1) 0))
Turns form names bounds r Mixed = Unit {0}

-- a row stands under no mask, whatever the types
abbrev pub StandsAlways : List ℕ → List ℕ → Line → Type 0
StandsAlways names bounds r = (form : ℕ → Form) → Turns form names bounds (row_of (numbers r)) Stands

-- each row is as its head is written
abbrev pub Exact : List (List ℕ) → Type 0
Exact l = map raw (map row_of l) ≡ l

-- what a pass made at the front of a table
pub record Passes (form : ℕ → Form) (l : List (List ℕ)) (body : ℕ) (names bounds : List ℕ) (to : List (List ℕ)) (m : Made) : Type 0 where
  pub behind : m.end ≡ body + size (tree_at (map row_of l) body)
  pub count : m.rows ≡ length (put_rows form l body names bounds)
  pub front : take m.rows to ≡ put_rows form l body names bounds
