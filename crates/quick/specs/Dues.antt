-- What a quick check still has to see, in order: trees that are to state a type, scopes that begin or end. Assumes nothing.
use Rattle.std.specs.Prelude.{ℕ, suc, ◌+◌, ◌-◌, ◌*◌, ◌/◌, ◌≤◌, ◌<◌, ◌≡◌, true, false, cond, List, [], ◌∷◌, ◌++◌, map, ltb, length, drop, get_or}
use Rattle.std.specs.Prelude.{None}
use Rattle.meaning.specs.Bytes.{read, term_row}
use Rattle.meaning.specs.Types.{Form, Param, form_of, find, empty}
use Rattle.std.specs.Prelude.{Bool, Result, Ok, OnOk, IfOk}
use Rattle.meaning.specs.Terms.{Row, ty_of, size, kind_no, type_no, tree_at, tree_of, row_of, shape_from, shape}
use Rattle.meaning.specs.Typing.{first_bad}
use Rattle.meaning.specs.Records.{first_not}
use Rattle.meaning.specs.Entries.{no_future}
use Rattle.layout.specs.Rows.{row_table, term_rows}
use Rattle.typing.specs.Scope.{binds}
use Rattle.quick.specs.Names.{in_scope, NamesChained}
use Rattle.quick.specs.declared.Place.{Place}

-- a tree of a type; the end of the scope of so many names; the beginning of the scope of a row's names
pub data Due : Type 0 where
  wanted ends begins : ℕ → Due

-- each is kept as one number
unfoldable pub due : ℕ → Due
due e = cond (ltb e 65536) (wanted e) (cond (ltb e 131072) (ends (e - 65536)) (begins (e - 131072)))

-- the dues in an array from place s on
unfoldable pub dues : List ℕ → ℕ → List Due
dues es s = map due (drop s es)

-- how many trees they are
unfoldable pub owes : List Due → ℕ
owes [] = 0
owes (wanted t ∷ ds) = suc (owes ds)
owes (ends n ∷ ds) = owes ds
owes (begins j ∷ ds) = owes ds

-- the rows from row i on are what is due, each tree with its rules kept below the names in scope
unfoldable pub Comes : (ℕ → Form) → List Row → List Due → List Param → ℕ → Type 0
Comes form l [] ps i = i ≡ length l
Comes form l (wanted t ∷ ds) ps i =
    (ty_of (tree_at l i) ≡ t) × (first_bad form (find ps) (tree_at l i) ≡ None) × Comes form l ds ps (i + size (tree_at l i))
Comes form l (ends n ∷ ds) ps i = Comes form l ds (drop n ps) i
Comes form l (begins j ∷ ds) ps i = Comes form l ds (binds form (tree_at l j) ++ ps) i

-- what is due at a place: first, where the check goes down to the row there, its tree, whatever type that states
unfoldable pub due_at : List Row → List ℕ → Place → List Due
due_at l es p = cond p.down (wanted (ty_of (tree_at l p.i)) ∷ dues es p.s) (dues es p.s)

-- the arrays of a check at a place, and the room in them
pub record Arrays (es ns hs : List ℕ) (p : Place) : Type 0 where
  pub within : p.s ≤ length es
  pub chained : NamesChained ns hs p.b

-- a row of a kind is there
pub record AtKind (rows : List ℕ) (k : ℕ) (p : Place) : Type 0 where
  pub here : p.i < length rows / 8
  pub few : length rows ≤ 16384
  pub kind : kind_no (read term_row (drop (8 * p.i) rows)) ≡ k

-- there is room for what it leaves due
pub record Room (es : List ℕ) (p : Place) : Type 0 where
  pub spare : 16 ≤ p.s
  pub within : p.s ≤ length es

-- a scope has ended, and one has begun: nothing but the names has changed
pub record Outside (ns hs : List ℕ) (n : ℕ) (p q : Place) : Type 0 where
  pub row : q.i ≡ p.i
  pub same : q.s ≡ p.s
  pub up : q.down ≡ false
  pub still : q.future ≡ p.future
  pub chained : NamesChained ns hs q.b
  pub names : in_scope ns q.b ≡ drop n (in_scope ns p.b)

pub record Inside (form : ℕ → Form) (l : List Row) (ns ns' hs : List ℕ) (j : ℕ) (p q : Place) : Type 0 where
  pub row : q.i ≡ p.i
  pub same : q.s ≡ p.s
  pub up : q.down ≡ false
  pub still : q.future ≡ p.future
  pub room : length ns' ≡ length ns
  pub chained : NamesChained ns' hs q.b
  pub names : in_scope ns' q.b ≡ binds form (tree_at l j) ++ in_scope ns p.b

-- the rows from row i on are as they should be, as far as they are due
unfoldable pub Good : ℕ → ℕ → (ℕ → Form) → List (List ℕ) → List Due → List Param → ℕ → Type 0
Good edition count form rows ds ps i = (shape_from edition count (drop i rows) (owes ds) i ≡ Ok tt) × Comes form (map row_of rows) ds ps i

module _ (form : ℕ → Form) (rows : List (List ℕ)) where
  -- the row at a place is seen, of a table of so many types: its tree and what was due are good if what is due behind it is
  pub record SeesDue (count : ℕ) (es ns es' ns' hs' : List ℕ) (p q : Place) : Type 0 where
    pub next : q.i ≡ p.i + 1
    pub arrays : Arrays es' ns' hs' q
    pub same-dues : length es' ≡ length es
    pub same_names : length ns' ≡ length ns
    pub still : q.future ≡ false → (p.future ≡ false) × (no_future (get_or rows p.i []) ≡ true)
    pub back : Good 1 count form rows (due_at (map row_of rows) es' q) (in_scope ns' q.b) q.i
        → Good 1 count form rows (wanted (ty_of (tree_at (map row_of rows) p.i)) ∷ dues es p.s) (in_scope ns p.b) p.i

  -- the same, where its type number is one of the table's
  abbrev pub SeesRow : (es ns es' ns' hs' : List ℕ) (p q : Place) → Type 0
  SeesRow es ns es' ns' hs' p q = (count : ℕ) → type_no (get_or rows p.i []) < count → SeesDue count es ns es' ns' hs' p q

  -- the same of a row that binds no name at once, whatever names are in scope
  abbrev pub LeavesDue : (es es' : List ℕ) (p q : Place) → Type 0
  LeavesDue es es' p q = (ns hs : List ℕ) → NamesChained ns hs p.b → SeesRow es ns es' ns hs p q

-- scopes have ended and begun, and perhaps a tree is due: what the array had is good if what is due now is
pub record Rises (form : ℕ → Form) (rows : List (List ℕ)) (es ns ns' hs' : List ℕ) (p q : Place) : Type 0 where
  pub row : q.i ≡ p.i
  pub arrays : Arrays es ns' hs' q
  pub same_names : length ns' ≡ length ns
  pub still : q.future ≡ p.future
  pub back : (edition count : ℕ) → Good edition count form rows (due_at (map row_of rows) es q) (in_scope ns' q.b) q.i
      → Good edition count form rows (dues es p.s) (in_scope ns p.b) p.i

-- what a check of rows of an edition tells: where they are good, their shape and typing, and that there is no future where none was seen
pub record Shows (edition : ℕ) (types : List (List ℕ)) (rows : List ℕ) (r : Result Bool ℕ) : Type 0 where
  pub whole : OnOk r (shape edition (length types) (row_table rows) ≡ Ok tt)
  pub typed : OnOk r (first_bad (form_of types) empty (tree_of (term_rows rows)) ≡ None)
  pub still : IfOk r (λ future. future ≡ false → first_not no_future (row_table rows) ≡ None)
