-- What names mean at each row, by an array that has for each row the innermost binder around it: its row and one, or 0 where there is none.
-- Assumes nothing.
use Rattle.std.specs.Prelude.{ℕ, zero, suc, ◌+◌, ◌/◌, ◌≤◌, ◌≡◌, ◌⊎◌, Bool, cond, List, [], eqb, ltb, length, get_or, set}
use Rattle.std.specs.Prelude.{Option, None}
use Rattle.terms.specs.Tables.{Closed, Ends}
use Rattle.layout.specs.Rows.{term_rows}
use Rattle.meaning.specs.Types.{Form, Param, Ctx, empty, ◌⹁◌}
use Rattle.meaning.specs.Terms.{Head, arity, Tree, node, Row, size, tree_at}
use Rattle.meaning.specs.Typing.{Tys, tys, scope, before, later, row_ok, first_bad}

-- the names that a row binds in its last child
unfoldable pub binds : (ℕ → Form) → Tree → List Param
binds form (node h ty f) = scope form h ty (tys f) 1

module _ (form : ℕ → Form) (l : List Row) where
  -- the binders from an entry on, the first d of them; each entry names a row before the next
  unfoldable pub chain : List ℕ → ℕ → ℕ → Ctx
  chain sc zero v = empty
  chain sc (suc d) zero = empty
  chain sc (suc d) (suc b) = chain sc d (get_or sc b 0) ⹁ binds form (tree_at l b)

  -- what names mean at row i
  abbrev pub around : List ℕ → ℕ → Ctx
  around sc i = chain sc (get_or sc i 0) (get_or sc i 0)

  -- the first row that fails in the n trees from row i on, each below the binders that the array has for it
  unfoldable pub walk : List ℕ → ℕ → ℕ → Option ℕ
  walk sc zero i = None
  walk sc (suc n) i = before (later i (first_bad form (around sc i) (tree_at l i))) (walk sc n (i + size (tree_at l i)))

-- the array with the values from v k on written for the m trees from row j on
unfoldable pub hand_on : List Row → (ℕ → ℕ) → ℕ → ℕ → ℕ → List ℕ → List ℕ
hand_on l v k zero j sc = sc
hand_on l v k (suc m) j sc = hand_on l v (suc k) m (j + size (tree_at l j)) (set sc j (v k))

-- each entry names a row before its own, and none behind row i
pub record Low (sc : List ℕ) (i : ℕ) : Type 0 where
  pub own : (p : ℕ) → get_or sc p 0 ≤ p
  pub all : (p : ℕ) → get_or sc p 0 ≤ i

-- the array has an entry for each row, and none that names a row behind row i
pub record Binders (b sc : List ℕ) (i : ℕ) : Type 0 where
  pub room : length b / 8 ≤ length sc
  pub low : Low sc i

-- the value for the q-th child of row i: the row's own binder where the row binds nothing there, else the row
abbrev pub Inner : (ℕ → Form) → (h : Head) → ℕ → Tys (arity h) → ℕ → ℕ → (ℕ → ℕ) → ℕ → Type 0
Inner form h ty ts outer i v q = ((v q ≡ outer) × (scope form h ty ts q ≡ [])) ⊎ ((v q ≡ suc i) × (scope form h ty ts q ≡ scope form h ty ts 1))

-- whether a tree's first row keeps its rule
unfoldable pub judged : (ℕ → Form) → Ctx → Tree → Bool
judged form Γ (node h ty f) = row_ok form Γ h ty f

-- the value for the q-th child of a row, by its kind: the row's own number and one where the row binds names there, else the row's binder
abbrev pub inner_of : ℕ → ℕ → ℕ → ℕ → ℕ
inner_of kind outer own q = cond (eqb kind 6) own (cond (eqb kind 19) (cond (eqb q 0) outer own) outer)

-- the row behind the tree at row p, by the array that has it for each row
abbrev pub behind : List ℕ → ℕ → ℕ → ℕ
behind es rows p = cond (ltb p rows) (get_or es p 0) p

-- the rows are one tree, and the array has the end of each row's tree
pub record Ready (b : List ℕ) (es : List ℕ) : Type 0 where
  pub room : length b / 8 ≤ length es
  pub ends : Ends (term_rows b) (length b / 8) es
  pub closed : Closed (term_rows b) (length b / 8)
