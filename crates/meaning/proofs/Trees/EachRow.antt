-- A fact of each row of a tree, and of a list of rows. Assumes nothing.
use Prim.Native.Nat.{ℕ}
use mathlib.Core.Path.{◌≡◌}
use mathlib.Core.List.{List, [], ◌∷◌, ◌++◌}
use Rattle.std.specs.Prelude.{Option, Some}
use Rattle.meaning.specs.Terms.{Head, future, Tree, Forest, node, end, more, Row, flat, flats}

abbrev pub Fact : Type 1
Fact = Head → ℕ → Type 0

unfoldable mutual
  pub Every : Fact → Tree → Type 0
  Every P (node h u f) = P h u × Everys P f

  pub Everys : {n : ℕ} → Fact → Forest n → Type 0
  Everys P end = Unit {0}
  Everys P (more t f) = Every P t × Everys P f

unfoldable pub AllRows : Fact → List Row → Type 0
AllRows P [] = Unit {0}
AllRows P (r ∷ l) = P r.head r.type × AllRows P l

-- each future is listed with the type that it states
abbrev pub Due : (ℕ → Option ℕ) → Fact
Due Φ h u = (k : ℕ) → h ≡ future k → Φ k ≡ Some u

abbrev pub Listed : (ℕ → Option ℕ) → Tree → Type 0
Listed Φ t = Every (Due Φ) t

module _ (P : Fact) where
  pub rows_append : (a b : List Row) → AllRows P a → AllRows P b → AllRows P (a ++ b)
  unfolding AllRows
  rows_append [] b p q = q
  rows_append (r ∷ a) b (p, ps) q = (p, rows_append a b ps q)

  pub rows_left : (a b : List Row) → AllRows P (a ++ b) → AllRows P a
  unfolding AllRows
  rows_left [] b p = tt
  rows_left (r ∷ a) b (p, ps) = (p, rows_left a b ps)

  pub rows_right : (a b : List Row) → AllRows P (a ++ b) → AllRows P b
  unfolding AllRows
  rows_right [] b p = p
  rows_right (r ∷ a) b (p, ps) = rows_right a b ps

  mutual
    unfolding Every AllRows flat

    pub every-rows : (t : Tree) → Every P t → AllRows P (flat t)
    every-rows (node h u f) (p, d) = (p, everys-rows f d)

    pub everys-rows : {n : ℕ} (f : Forest n) → Everys P f → AllRows P (flats f)
    everys-rows end d = tt
    everys-rows (more t f) (p, d) = rows_append (flat t) (flats f) (every-rows t p) (everys-rows f d)

  mutual
    unfolding Every AllRows flat

    pub rows-every : (t : Tree) → AllRows P (flat t) → Every P t
    rows-every (node h u f) (p, d) = (p, rows-everys f d)

    pub rows-everys : {n : ℕ} (f : Forest n) → AllRows P (flats f) → Everys P f
    rows-everys end d = tt
    rows-everys (more t f) d = (rows-every t (rows_left (flat t) (flats f) d), rows-everys f (rows_right (flat t) (flats f) d))

-- a fact that follows from another row by row
pub all-rows-map : (P Q : Fact) (l : List Row) → ((h : Head) (u : ℕ) → P h u → Q h u) → AllRows P l → AllRows Q l
unfolding AllRows
all-rows-map P Q [] k d = tt
all-rows-map P Q (r ∷ l) k (p, d) = (k r.head r.type p, all-rows-map P Q l k d)
