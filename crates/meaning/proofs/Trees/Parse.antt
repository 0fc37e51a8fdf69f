-- The trees that stand at each row of a list, whatever the rows are: where a tree's parts begin, and that rows and trees are
-- one-to-one. Assumes nothing.
use mathlib.Core.Path.{◌≡◌, refl, ap, sym, ◌∙◌}
use mathlib.Core.List.{List, [], ◌∷◌, ◌++◌, append_assoc, append-nil}
use Prim.Native.Nat.{ℕ, zero, suc, ◌+◌, ◌≤◌, ◌<◌}
use native.Mathlib.Omega.{arith}
use native.Mathlib.Numerals.{add-one}
use native.Mathlib.Nat.{add-zero, add-suc}
use lib.ListN.{length, take, drop, get_or, length-append}
use lib.Seq.{drop-nil, drop-cons, drop-drop}
use Rattle.meaning.specs.Terms.{arity, Tree, Forest, node, end, more, Row, flat, flats, size, sizes, blank, kids, trees, top, tree_at, tree_of, grove}

-- the trees of a forest, in front of others
unfoldable pub front : {n : ℕ} → Forest n → List Tree → List Tree
front end ts = ts
front (more t f) ts = t ∷ front f ts

pub sizes-split : (a k : ℕ) (ts : List Tree) → sizes (kids (k + a) ts) ≡ sizes (kids a ts) + sizes (kids k (drop a ts))
unfolding kids size
sizes-split zero k ts = rw (add-zero k) (omega arith)
sizes-split (suc a) k [] = let e = rw (drop-nil {A = Tree} a) at (sizes-split a k []) in rw (add-suc k a, drop-nil {A = Tree} (suc a)) (omega (arith, e))
sizes-split (suc a) k (t ∷ ts) = rw (add-suc k a) (omega (arith, sizes-split a k ts))

-- behind n trees stand the others
pub skip : (l : List Row) (n : ℕ) → trees (drop (sizes (kids n (trees l))) l) ≡ drop n (trees l)
unfolding kids trees size
skip [] n = rw (drop-nil {A = Row} (sizes (kids n [])), drop-nil {A = Tree} n)
skip (r ∷ l) zero = refl
skip (r ∷ l) (suc m) =
    let a = arity r.head in
    let e : suc (sizes (kids a (trees l))) + sizes (kids m (drop a (trees l))) ≡ suc (sizes (kids (m + a) (trees l))) = omega (arith, sizes-split a m (trees l)) in
    let q : m + a ≡ a + m = omega arith in
    ap (λ (x : ℕ). trees (drop x (r ∷ l))) e ∙ skip l (m + a) ∙ ap (λ (x : ℕ). drop x (trees l)) q ∙ sym (drop-drop m a (trees l))

kids-more : (n : ℕ) (ts : List Tree) → kids (suc n) ts ≡ more (top ts) (kids n (drop 1 ts))
unfolding kids top
kids-more n [] = refl
kids-more n (t ∷ ts) = refl

kids-one : (ts : List Tree) → sizes (kids 1 ts) ≡ size (top ts)
unfolding kids top size blank
kids-one [] = refl
kids-one (t ∷ ts) = omega arith

-- THE TWO LAWS of the link. Some trees from row i on: the one at row i, and the others behind its last row
pub grove-more : (l : List Row) (i n : ℕ) → grove l i (suc n) ≡ more (tree_at l i) (grove l (i + size (tree_at l i)) n)
unfolding grove tree_at
grove-more l i n =
    kids-more n (trees (drop i l))
    ∙ ap (λ (ts : List Tree). more (top (trees (drop i l))) (kids n ts)) (sym (skip (drop i l) 1) ∙ ap trees (ap (λ (x : ℕ). drop x (drop i l)) (kids-one (trees (drop i l))) ∙ drop-drop (size (top (trees (drop i l)))) i l))

-- the tree at row i is that row over the trees from the next row on
pub tree-row : (l : List Row) (i : ℕ) (d r : Row) → i < length l → get_or l i d ≡ r → tree_at l i ≡ node r.head r.type (grove l (i + 1) (arity r.head))
unfolding grove tree_at trees top
tree-row l i d r h e = rw (add-one, drop-cons l i d h, e) refl

-- what trees make of the rows of trees
kids-front : {n : ℕ} (f : Forest n) (ts : List Tree) → (kids n (front f ts) ≡ f) × (drop n (front f ts) ≡ ts)
unfolding kids front
kids-front end ts = (refl, refl)
kids-front (more t f) ts = (ap (λ g. more t g) (kids-front f ts).0, (kids-front f ts).1)

mutual
  unfolding flat trees front

  pub trees-flat : (t : Tree) (rs : List Row) → trees (flat t ++ rs) ≡ t ∷ trees rs
  trees-flat (node h ty f) rs = rw (trees-flats f rs) (rw ((kids-front f (trees rs)).0, (kids-front f (trees rs)).1) refl)

  pub trees-flats : {n : ℕ} (f : Forest n) (rs : List Row) → trees (flats f ++ rs) ≡ front f (trees rs)
  trees-flats end rs = refl
  trees-flats (more t f) rs = rw (append_assoc (flat t) (flats f) rs) (trees-flat t (flats f ++ rs) ∙ ap (λ ts. t ∷ ts) (trees-flats f rs))

-- trees that end within the rows have just these rows
kids-flats : (a k : ℕ) (ts : List Tree) → flats (kids (k + a) ts) ≡ flats (kids a ts) ++ flats (kids k (drop a ts))
unfolding kids flat
kids-flats zero k ts = rw (add-zero k) refl
kids-flats (suc a) k [] = let e = rw (drop-nil {A = Tree} a) at (kids-flats a k []) in rw (add-suc k a, drop-nil {A = Tree} (suc a), append_assoc) (ap (λ l. flat blank ++ l) e)
kids-flats (suc a) k (t ∷ ts) = rw (add-suc k a, append_assoc) (ap (λ l. flat t ++ l) (kids-flats a k ts))

pub kids-rows : (l : List Row) (n : ℕ) → sizes (kids n (trees l)) ≤ length l → flats (kids n (trees l)) ≡ take (sizes (kids n (trees l))) l
unfolding kids trees flat size blank
kids-rows [] zero h = refl
kids-rows [] (suc n) h = absurd (omega arith)
kids-rows (r ∷ l) zero h = refl
kids-rows (r ∷ l) (suc m) h =
    let a = arity r.head in
    let e : suc (sizes (kids a (trees l))) + sizes (kids m (drop a (trees l))) ≡ suc (sizes (kids (m + a) (trees l))) = omega (arith, sizes-split a m (trees l)) in
    ap (λ x. r ∷ x) (sym (kids-flats a m (trees l)) ∙ kids-rows l (m + a) (omega arith)) ∙ ap (λ (x : ℕ). take x (r ∷ l)) (sym e)

mutual
  unfolding flat size

  pub length-flat : (t : Tree) → length (flat t) ≡ size t
  length-flat (node h ty f) = ap suc (length-flats f)

  pub length-flats : {n : ℕ} (f : Forest n) → length (flats f) ≡ sizes f
  length-flats end = refl
  length-flats (more t f) = length-append (flat t) (flats f) ∙ cc (length-flat t, length-flats f)

-- the rows of a tree spell it: so one list of rows spells at most one tree
pub tree-of-flat : (t : Tree) → tree_of (flat t) ≡ t
unfolding tree_of top
tree-of-flat t = ap (λ l. top (trees l)) (sym (append-nil (flat t))) ∙ rw (trees-flat t []) refl

pub flat-inj : (t u : Tree) → flat t ≡ flat u → t ≡ u
flat-inj t u e = sym (tree-of-flat t) ∙ ap tree_of e ∙ tree-of-flat u

pub tree-at-zero : (l : List Row) → tree_at l 0 ≡ tree_of l
unfolding tree_at tree_of
tree-at-zero l = refl
