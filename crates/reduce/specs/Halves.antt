-- The two halves of what a zip makes, as code goes through its arguments. Assumes nothing.
use Rattle.std.specs.Prelude.{ℕ, ◌+◌, ◌≤◌, ◌≡◌, Bool, true, false, cond, List, map, length, get_or}
use Rattle.meaning.specs.Types.{low}
use Rattle.layout.specs.Rows.{row_table}
use Rattle.reduce.specs.Rule.{Redex}
use Rattle.reduce.specs.Plan.{row_no}
use Rattle.meaning.specs.Terms.{Forest, kind_no, n_no, size, flat, flats, sizes, raw, row_of, tree_at, grove}
use Rattle.meaning.specs.Steps.{kid, ready, any_nil, kids_at}
use Rattle.put.specs.Put.{standing}
use Rattle.put.specs.declared.Span.{Span}
use Rattle.reduce.specs.declared.zips.Half.{Half}

-- heads are the first trees of the masked arguments, tails the second
abbrev pub which_half : Bool → ℕ
which_half tails = cond tails 2 1

-- the rows of a half: n arguments from row `first` on, under a mask
unfoldable pub half_of : List (List ℕ) → ℕ → ℕ → ℕ → Bool → List (List ℕ)
half_of l first n m tails = map raw (flats (kids_at (which_half tails) m (grove (map row_of l) first n)))

-- n arguments from row `first` on
abbrev pub arguments : List ℕ → ℕ → (n : ℕ) → Forest n
arguments rows first n = grove (map row_of (row_table rows)) first n

-- the arguments end within the rows, and those that are masked are cons
pub record Halves (l : List (List ℕ)) (first n m : ℕ) : Type 0 where
  pub few : n ≤ 255
  pub inside : first + sizes (grove (map row_of l) first n) ≤ length l
  pub lists : ready m (grove (map row_of l) first n) ≡ true
  pub full : any_nil m (grove (map row_of l) first n) ≡ false

-- one side of what a call of a zip makes: its function's rows from one row on, its arguments from another
abbrev pub half_from : List (List ℕ) → ℕ → ℕ → Bool → Half
half_from l from first tails = record { from = from; first = first; n = n_no (row_no l 0); mask = n_no (row_no l 1); tails = tails }

-- where each argument begins, and where the last ends
pub record BoundsAt (l : List (List ℕ)) (first n : ℕ) (bounds : List ℕ) : Type 0 where
  pub long : length bounds ≡ 9
  pub few : n ≤ 8
  pub places : (j : ℕ) → j ≤ n → get_or bounds j 0 ≡ first + sizes (grove (map row_of l) first j)

-- where the rows of one argument stand
pub record HalfAt (l : List (List ℕ)) (at h : ℕ) (tails : Bool) (s : Span) : Type 0 where
  pub low_end : s.from ≤ s.to
  pub high_end : s.to ≤ length l
  pub rows : standing l s.from s.to ≡ map raw (flat (cond (low h) (kid (which_half tails) (tree_at (map row_of l) at)) (tree_at (map row_of l) at)))

-- a call of a zip on lent rows: where its arguments begin, how many there are, its mask, and where each of them stands
pub record Zipping (rows : List ℕ) (first n m : ℕ) (bounds : List ℕ) : Type 0 where
  pub redex : Redex rows
  pub applied : kind_no (row_no (row_table rows) 0) ≡ 8
  pub zips : kind_no (row_no (row_table rows) 1) ≡ 15
  pub behind : first ≡ 1 + size (tree_at (map row_of (row_table rows)) 1)
  pub count : n_no (row_no (row_table rows) 0) ≡ n
  pub masked : n_no (row_no (row_table rows) 1) ≡ m
  pub places : BoundsAt (row_table rows) first n bounds
