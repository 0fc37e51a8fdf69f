-- The tree of a table, told by its first row and by where its parts stand. Assumes nothing.
use Prim.Native.Nat.{ℕ, zero, suc, ◌+◌, ◌≤◌, ◌<◌}
use mathlib.Core.Path.{◌≡◌, refl, ap, sym, ◌∙◌}
use mathlib.Core.List.{List, [], ◌∷◌, map}
use Rattle.std.specs.Prelude.{None, Some}
use native.Mathlib.Omega.{arith}
use lib.Dec.{eqb}
use lib.ListN.{length, get_or, length-map, get_or-map}
use Rattle.meaning.specs.Terms.{Head, arity, code, head_from, Tree, Forest, node, end, more, head_of, ty_of, is, Row, row_of, kind_no, n_no, type_no, word_no, size, sizes, tree_of, tree_at, grove, kids}
use Rattle.meaning.specs.Steps.{nth}
use Rattle.meaning.proofs.Trees.Parse.{tree-row, tree-at-zero, grove-more}
use Rattle.terms.proofs.Scan.{grove-none, grove-size, size-some}
use Rattle.terms.proofs.ByNumber.{kind-told}
use Rattle.put.proofs.Passing.{tree}
use Rattle.reduce.specs.Plan.{row_no}

-- rows that are one tree have it within them
pub whole_in : {a b : ℕ} → a ≡ b → a ≤ b
whole_in e = omega (arith, e)

grove-zero : (l : List Row) (i : ℕ) → grove l i 0 ≡ end
unfolding grove kids
grove-zero l i = refl

pub grove-one : (l : List Row) (i : ℕ) → grove l i 1 ≡ more (tree_at l i) end
grove-one l i = grove-more l i 0 ∙ ap (more (tree_at l i)) (grove-zero l (i + size (tree_at l i)))

pub grove-two : (l : List Row) (i : ℕ) → grove l i 2 ≡ more (tree_at l i) (more (tree_at l (i + size (tree_at l i))) end)
grove-two l i = grove-more l i 1 ∙ ap (more (tree_at l i)) (grove-one l (i + size (tree_at l i)))

pub grove-three : (l : List Row) (i : ℕ) → grove l i 3 ≡ more (tree_at l i) (more (tree_at l (i + size (tree_at l i))) (more (tree_at l (i + size (tree_at l i) + size (tree_at l (i + size (tree_at l i))))) end))
grove-three l i = grove-more l i 2 ∙ ap (more (tree_at l i)) (grove-two l (i + size (tree_at l i)))

-- the j-th of some trees, counted from 0, stands behind j of them
pub nth-grove : (l : List Row) (j at n : ℕ) → j < n → nth (suc j) (grove l at n) ≡ Some (tree_at l (at + sizes (grove l at j)))
unfolding nth
nth-grove l j at zero h = absurd (omega arith)
nth-grove l zero at (suc n) h = let e : at ≡ at + sizes (grove l at 0) = omega (arith, grove-none l at) in ap (nth 1) (grove-more l at n) ∙ ap (λ (x : ℕ). Some (tree_at l x)) e
nth-grove l (suc j) at (suc n) h =
    let s = size (tree_at l at) in
    let e : at + s + sizes (grove l (at + s) j) ≡ at + sizes (grove l at (suc j)) = omega (arith, grove-size l at j) in
    ap (nth (suc (suc j))) (grove-more l at n) ∙ nth-grove l j (at + s) n (omega arith) ∙ ap (λ (x : ℕ). Some (tree_at l x)) e

pub nth-none : {n : ℕ} (f : Forest n) (i : ℕ) → n < i → nth i f ≡ None
unfolding nth
nth-none end i h = refl
nth-none (more t f) zero h = refl
nth-none (more t f) (suc zero) h = absurd (omega arith)
nth-none (more t f) (suc (suc i)) h = nth-none f (suc i) (omega arith)

pub nth-zero : {n : ℕ} (f : Forest n) → nth 0 f ≡ None
unfolding nth
nth-zero end = refl
nth-zero (more t f) = refl

pub tree-grove : (l : List Row) (j at n : ℕ) → j < n → tree (grove l at n) j ≡ tree_at l (at + sizes (grove l at j))
unfolding tree
tree-grove l j at zero h = absurd (omega arith)
tree-grove l zero at (suc n) h = let e : at ≡ at + sizes (grove l at 0) = omega (arith, grove-none l at) in ap (λ (f : Forest (suc n)). tree f 0) (grove-more l at n) ∙ ap (tree_at l) e
tree-grove l (suc j) at (suc n) h =
    let s = size (tree_at l at) in
    let e : at + s + sizes (grove l (at + s) j) ≡ at + sizes (grove l at (suc j)) = omega (arith, grove-size l at j) in
    ap (λ (f : Forest (suc n)). tree f (suc j)) (grove-more l at n) ∙ tree-grove l j (at + s) n (omega arith) ∙ ap (tree_at l) e

-- some trees, and one of them, end where all end
pub grove-part : (l : List Row) (j at n : ℕ) → j < n → sizes (grove l at j) + size (tree_at l (at + sizes (grove l at j))) ≤ sizes (grove l at n)
grove-part l j at zero h = absurd (omega arith)
grove-part l zero at (suc n) h =
    let e : at + sizes (grove l at 0) ≡ at = omega (arith, grove-none l at) in
    rw e (omega (arith, grove-none l at, grove-size l at n))
grove-part l (suc j) at (suc n) h =
    let s = size (tree_at l at) in
    let e : at + sizes (grove l at (suc j)) ≡ at + s + sizes (grove l (at + s) j) = omega (arith, grove-size l at j) in
    rw e (omega (arith, grove-size l at j, grove-size l at n, grove-part l j (at + s) n (omega arith)))

pub grove-last : (l : List Row) (j at : ℕ) → sizes (grove l at (suc j)) ≡ sizes (grove l at j) + size (tree_at l (at + sizes (grove l at j)))
grove-last l zero at =
    let e : at + sizes (grove l at 0) ≡ at = omega (arith, grove-none l at) in
    rw e (omega (arith, grove-none l at, grove-size l at 0, grove-none l (at + size (tree_at l at))))
grove-last l (suc j) at =
    let s = size (tree_at l at) in
    let e : at + sizes (grove l at (suc j)) ≡ at + s + sizes (grove l (at + s) j) = omega (arith, grove-size l at j) in
    rw e (omega (arith, grove-size l at j, grove-size l at (suc j), grove-last l j (at + s)))

pub grove-less : (l : List Row) (at k n : ℕ) → k ≤ n → sizes (grove l at k) ≤ sizes (grove l at n)
grove-less l at zero n h = omega (arith, grove-none l at)
grove-less l at (suc k) n h = omega (arith, grove-last l k at, grove-part l k at n (omega arith))

-- the j-th of some trees that end within the rows, and the next
pub arg-in : (l : List Row) (first n j at m : ℕ) → j < n → at ≡ first + sizes (grove l first j) → first + sizes (grove l first n) ≤ m → at + size (tree_at l at) ≤ m
arg-in l first n j at m h e k = rw e (omega (arith, grove-part l j first n h, k))

pub arg-next : (l : List Row) (first j at to : ℕ) → at ≡ first + sizes (grove l first j) → to ≡ at + size (tree_at l at) → to ≡ first + sizes (grove l first (j + 1))
arg-next l first j at to e g =
    let n : j + 1 ≡ suc j = omega arith in
    rw n (g ∙ ap (λ (x : ℕ). x + size (tree_at l x)) e ∙ omega (arith, grove-last l j first))

-- the tree at a row, by the row's numbers
module _ (l : List (List ℕ)) where
  abbrev L : List Row
  L = map row_of l

  row_any : (k : List (List ℕ)) (j : ℕ) (x : List ℕ) → j < length k → get_or k j x ≡ get_or k j []
  row_any [] j x h = absurd (omega arith)
  row_any (y ∷ k) zero x h = refl
  row_any (y ∷ k) (suc j) x h = row_any k j x (omega arith)

  module _ (i : ℕ) (h : i < length l) where
    pub tree-made : tree_at L i ≡ node (head_from (kind_no (row_no l i)) (n_no (row_no l i)) (word_no (row_no l i))) (type_no (row_no l i)) (grove L (i + 1) (arity (head_from (kind_no (row_no l i)) (n_no (row_no l i)) (word_no (row_no l i)))))
    unfolding row_of
    tree-made =
        let r = row_no l i in
        tree-row L i (row_of r) (row_of r) (omega (arith, length-map l row_of)) (get_or-map row_of l i r ∙ ap row_of (row_any l i r h))

    pub kind-is : (x : ℕ) → 2 ≤ x → x ≤ 19 → is x (tree_at L i) ≡ eqb (kind_no (row_no l i)) x
    unfolding is head_of
    kind-is x a b = ap (λ (t : Tree). eqb (code (head_of t)) x) tree-made ∙ kind-told (kind_no (row_no l i)) (n_no (row_no l i)) (word_no (row_no l i)) x a b

    pub type-is : ty_of (tree_at L i) ≡ type_no (row_no l i)
    unfolding ty_of
    type-is = ap ty_of tree-made

    -- at a head that is known
    pub made_as : (g : Head) → head_from (kind_no (row_no l i)) (n_no (row_no l i)) (word_no (row_no l i)) ≡ g → tree_at L i ≡ node g (type_no (row_no l i)) (grove L (i + 1) (arity g))
    made_as g e = tree-made ∙ ap (λ (x : Head). node x (type_no (row_no l i)) (grove L (i + 1) (arity x))) e

    pub sized-as : (g : Head) → head_from (kind_no (row_no l i)) (n_no (row_no l i)) (word_no (row_no l i)) ≡ g → size (tree_at L i) ≡ 1 + sizes (grove L (i + 1) (arity g))
    unfolding size
    sized-as g e = ap size (made_as g e) ∙ omega arith

  -- the first tree, which ends within the rows
  module _ (inside : size (tree_of L) ≤ length l) where
    pub some-row : 0 < length l
    some-row = omega (arith, inside, size-some (tree_of L))

    module _ (g : Head) (e : head_from (kind_no (row_no l 0)) (n_no (row_no l 0)) (word_no (row_no l 0)) ≡ g) where
      pub root : tree_of L ≡ node g (type_no (row_no l 0)) (grove L 1 (arity g))
      root = sym (tree-at-zero L) ∙ made_as 0 some-row g e

      pub root-size : size (tree_of L) ≡ 1 + sizes (grove L 1 (arity g))
      root-size = ap size (sym (tree-at-zero L)) ∙ sized-as 0 some-row g e
