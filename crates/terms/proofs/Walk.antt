-- A walk over a table by the trees still owed, and where trees end. Assumes nothing.
use Rattle.std.specs.Prelude.{ℕ, zero, suc, ◌≡◌, ◌+◌, ◌-◌, ◌<◌, ◌≤◌, List, [], ◌∷◌, map, length, get_or, refl}
use Rattle.std.proofs.Common.{ap, ◌∙◌, arith}
use lib.ListN.{length-map, get_or-map}
use Rattle.meaning.specs.Terms.{arity, Row, size, sizes, row_of, tree_at, grove}
use Rattle.meaning.proofs.Trees.Parse.{tree-row}
use Rattle.terms.specs.Tables.{Links, Closed, hop, HopsIn}
use Rattle.terms.proofs.Scan.{EndsFrom, grove-none, grove-size, owed-some, owed-step, hop-ends, hops-ends}

pub owed_none : (l : List Row) (i owed : ℕ) → owed ≤ 0 → sizes (grove l i owed) ≡ 0
owed_none l i owed h = let e : owed ≡ 0 = omega arith in rw e (grove-none l i)

pub owed_one : (l : List Row) (i : ℕ) → sizes (grove l i 1) ≡ size (tree_at l i)
owed_one l i = omega (arith, grove-size l i 0, grove-none l (i + size (tree_at l i)))

pub owed_some : (l : List Row) (i owed : ℕ) → 0 < owed → 1 ≤ sizes (grove l i owed)
owed_some l i owed h = owed-some l i owed (omega arith)

-- within the list the default is not read
within_list : (t : List (List ℕ)) (i : ℕ) (d e : List ℕ) → i < length t → get_or t i d ≡ get_or t i e
within_list [] i d e h = absurd (omega arith)
within_list (r ∷ t) zero d e h = refl
within_list (r ∷ t) (suc i) d e h = within_list t i d e (omega arith)

module _ (t : List (List ℕ)) (i : ℕ) (h : i < length t) where
  abbrev r : List ℕ
  r = get_or t i []

  there : (i < length (map row_of t)) × (get_or (map row_of t) i (row_of r) ≡ row_of r)
  there = (omega (arith, length-map t row_of), get_or-map row_of t i r ∙ ap row_of (within_list t i r [] h))

  pub owed_row : (owed : ℕ) → 0 < owed → sizes (grove (map row_of t) i owed) ≡ 1 + sizes (grove (map row_of t) (i + 1) (owed - 1 + arity (row_of r).head))
  owed_row owed z = omega (arith, owed-step (map row_of t) i owed (omega arith) (row_of r) there.0 there.1)

  pub size_row : size (tree_at (map row_of t) i) ≡ 1 + sizes (grove (map row_of t) (i + 1) (arity (row_of r).head))
  unfolding size
  size_row = ap size (tree-row (map row_of t) i (row_of r) (row_of r) there.0 there.1) ∙ omega arith

pub owed_link : (t : List (List ℕ)) (i owed : ℕ) → 0 < owed → Links t i → sizes (grove (map row_of t) i owed) ≡ 2 + sizes (grove (map row_of t) (i + 2) owed)
owed_link t i owed z k =
    let a = owed_row t i (omega (arith, k.there)) owed z in
    let b = owed_row t (i + 1) k.there (owed - 1 + 2) (omega arith) in
    let on : i + 1 + 1 ≡ i + 2 = omega arith in
    let left : owed - 1 + 2 - 1 + 0 ≡ owed = omega arith in
    a
    ∙ ap (λ (x : ℕ). 1 + sizes (grove (map row_of t) (i + 1) (owed - 1 + x))) k.two
    ∙ ap (λ (x : ℕ). 1 + x) (b ∙ ap (λ (x : ℕ). 1 + sizes (grove (map row_of t) (i + 1 + 1) (owed - 1 + 2 - 1 + x))) k.leaf)
    ∙ rw (left, on) (omega arith)

-- the children of row i, where the entries behind it are right
module _ (t : List (List ℕ)) (i j a : ℕ) (es : List ℕ) (h : i < length t) (closed : Closed (map row_of t) (length t)) (right : EndsFrom (map row_of t) j (length t) es) (next : j ≡ i + 1) (children : a ≡ arity (row_of (get_or t i [])).head) where
  here : size (tree_at (map row_of t) i) ≡ 1 + sizes (grove (map row_of t) j a)
  here = size_row t i h ∙ rw (next, children) refl

  pub past_in : length t ≤ length es → HopsIn es j a
  past_in k = hops-ends (map row_of t) (length t) j es right j a k (omega arith) (omega (arith, here, closed.within i h))

  pub past_at : hop es j a ≡ i + size (tree_at (map row_of t) i)
  past_at = hop-ends (map row_of t) (length t) j es right j a (omega arith) (omega (arith, here, closed.within i h)) ∙ omega (arith, here)

pub ruleset walks = (owed_none, owed_one, owed_some, owed_row, owed_link)
