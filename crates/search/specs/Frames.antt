-- A search that stands in the middle of a term: the frames that it is inside of, the trees still to come, and what was passed.
-- Assumes nothing.
use Rattle.std.specs.Prelude.{ℕ, suc, ◌<◌, ◌≡◌, Bool, true, false, cond, not, List, [], ◌∷◌, ◌++◌, length, drop}
use Rattle.meaning.specs.Bytes.{◌∧ᵇ◌}
use Rattle.meaning.specs.Types.{Form}
use Rattle.meaning.specs.Terms.{Head, lit, var, lambda, foreign, apply, future, ite, fix, nil, cons, isnil, zip, tuple, project, lproject, bind, arity, Tree, Forest, node, more, is, Row, flat, kids}
use Rattle.meaning.specs.Steps.{◌∨ᵇ◌, value, stay, is_list, Places, looks, step}
-- the rows whose rule wants lists, and so nothing that is looked at; and those that have them
unfoldable pub use Rattle.reduce.specs.Lists.{zips, lists_below, zips_lists, tree_zips_lists}

-- Rows over trees ------------------------------------------------------------------------------------------------

-- rows parsed over the trees behind them
unfoldable pub over : List Row → List Tree → List Tree
over [] ts = ts
over (r ∷ l) ts = node r.head r.type (kids (arity r.head) (over l ts)) ∷ drop (arity r.head) (over l ts)

unfoldable pub spelled : List Tree → List Row
spelled [] = []
spelled (t ∷ ts) = flat t ++ spelled ts

-- Rows that wait -------------------------------------------------------------------------------------------------

-- whether what a row does hangs on the trees below it beyond the head of the first: it is looked into before its own rule is tried. A call
-- that is sent needs values there and a zip needs lists: their rule comes last, when all that is looked at was passed, but a zip's at once where its lists are there
unfoldable pub waits : (h : Head) → Forest (arity h) → Bool
waits (lit l) f = false
waits (var x) f = false
waits lambda f = false
waits (foreign w) f = false
waits (apply n) (more c args) = not (is 6 c)
waits (future k) f = false
waits ite (more c f) = not (is 3 c ∨ᵇ is 4 c)
waits fix f = false
waits nil f = false
waits cons f = true
waits isnil (more c f) = not (is_list c)
waits (zip m) f = false
waits (tuple n) f = true
waits (project i) (more c f) = not (is 16 c)
waits (lproject i) (more c f) = not (is_list c)
waits (bind x) f = false

-- a row's own rule is tried where it stands: it does not wait, or it is a zip's whose lists are there
abbrev pub Rests : (h : Head) → Forest (arity h) → Type 0
Rests h f = waits h f ≡ true → zips_lists h f ≡ true

-- Frames ---------------------------------------------------------------------------------------------------------

-- a row that the search is inside of, the trees of it that were passed, and whether its rule has all it wants of those that it looks at
pub record Frame : Type 0 where
  pub head : Head
  pub type : ℕ
  pub before : List Tree
  pub clear : Bool

unfoldable pub below : (F : Frame) → List Tree → Forest (arity F.head)
below F ts = kids (arity F.head) (F.before ++ ts)

-- the frame's tree, made with trees to come, before the others
unfoldable pub close : Frame → List Tree → List Tree
close F ts = node F.head F.type (below F ts) ∷ drop (arity F.head) (F.before ++ ts)

-- the innermost frame stands first
unfoldable pub around : List Frame → List Tree → List Tree
around [] ts = ts
around (F ∷ Fs) ts = around Fs (close F ts)

-- the rows passed: of each frame its row and the trees passed, the outermost first
abbrev pub row_of_frame : Frame → Row
row_of_frame F = record { head = F.head; type = F.type }

unfoldable pub passed_rows : List Frame → List Row
passed_rows [] = []
passed_rows (F ∷ Fs) = passed_rows Fs ++ (row_of_frame F ∷ spelled F.before)

-- a row as it is entered; a frame whose next tree is passed, unlooked at or looked at
abbrev pub entered : Head → ℕ → Frame
entered h u = record { head = h; type = u; before = []; clear = true }

abbrev pub passed_by : Frame → Tree → Bool → Frame
passed_by F t v = record { head = F.head; type = F.type; before = F.before ++ (t ∷ []); clear = F.clear ∧ᵇ v }

-- whether the trees at some places are values, where values are wanted (b); where not, whether there are none
unfoldable pub calm : Bool → Places → List Tree → Bool
calm b a [] = true
calm b a (t ∷ ts) = cond (a 0) (b ∧ᵇ value t) true ∧ᵇ calm b (λ i. a (suc i)) ts

module _ (form : ℕ → Form) (k : ℕ) where
  -- the trees at some places do not step
  unfoldable pub Still : Places → List Tree → Type 0
  Still a [] = Unit {0}
  Still a (t ∷ ts) = (a 0 ≡ true → step form k t ≡ stay) × Still (λ i. a (suc i)) ts

  -- a frame's row waits, and what was passed in it does not step
  pub record Stands (F : Frame) (ts : List Tree) : Type 0 where
    pub waiting : waits F.head (below F ts) ≡ true
    pub still : Still (looks F.head (below F ts)) F.before
    pub told : calm (not (zips F.head (below F ts))) (looks F.head (below F ts)) F.before ≡ F.clear

-- the first tree to come is one of the innermost frame's, at which the rules look
pub record Looked (F : Frame) (ts : List Tree) : Type 0 where
  pub inside : length F.before < arity F.head
  pub seen : looks F.head (below F ts) (length F.before) ≡ true

unfoldable pub Open : List Frame → List Tree → Type 0
Open [] ts = Unit {0}
Open (F ∷ Fs) ts = Looked F ts

module _ (form : ℕ → Form) (k : ℕ) where
  -- THE INVARIANT: each frame stands, at a place of the next one that the rules look at
  unfoldable pub Passed : List Frame → List Tree → Type 0
  Passed [] ts = Unit {0}
  Passed (F ∷ Fs) ts = Stands form k F ts × Open Fs (close F ts) × Passed Fs (close F ts)
