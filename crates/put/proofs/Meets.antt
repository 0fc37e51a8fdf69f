-- The rows that code counts and writes are those of the body with the arguments put for the names. Assumes nothing.
use Prim.Native.Nat.{ℕ, zero, suc, ◌+◌, ◌-◌, ◌≤◌, ◌<◌}
use mathlib.Core.Path.{◌≡◌, refl, ap, sym, ◌∙◌}
use mathlib.Core.List.{List, [], ◌∷◌, ◌++◌, map, append-nil}
use native.Mathlib.Omega.{arith}
use lib.ListN.{length, get_or, take, drop, length-drop, length-map, take-append-drop}
use Rattle.meaning.specs.Types.{Param, Form, names}
use Rattle.meaning.specs.Terms.{Tree, Forest, Row, flat, flats, size, sizes, raw, row_of, kids, trees, top, tree_at, blank}
use Rattle.meaning.specs.Steps.{assign, put}
use Rattle.meaning.proofs.Trees.Parse.{kids-rows}
use Rattle.put.specs.Put.{standing, run, arg_rows, put_rows}
use Rattle.put.proofs.Passing.{tree, pass-puts}

one-tree : (ts : List Tree) → (sizes (kids 1 ts) ≡ size (top ts)) × (flats (kids 1 ts) ≡ flat (top ts))
unfolding kids top size blank flat
one-tree [] = (refl, refl)
one-tree (t ∷ ts) = (omega arith, append-nil (flat t))

-- a tree that ends within the rows stands there
flat-stands : (l : List Row) (i : ℕ) → i + size (tree_at l i) ≤ length l → flat (tree_at l i) ≡ take (size (tree_at l i)) (drop i l)
unfolding tree_at
flat-stands l i h =
    let o = one-tree (trees (drop i l)) in
    sym o.1 ∙ kids-rows (drop i l) 1 (rw (length-drop i l) (omega (arith, o.0, h))) ∙ ap (λ (x : ℕ). take x (drop i l)) o.0

raw-part : (n i : ℕ) (l : List Row) → map raw (take n (drop i l)) ≡ take n (drop i (map raw l))
raw-part n zero l = raw-take n l
  where
    raw-take : (k : ℕ) (m : List Row) → map raw (take k m) ≡ take k (map raw m)
    raw-take zero m = refl
    raw-take (suc k) [] = refl
    raw-take (suc k) (r ∷ m) = ap (λ x. raw r ∷ x) (raw-take k m)
raw-part n (suc i) [] = none n
  where
    none : (k : ℕ) → map raw (take k []) ≡ take k []
    none zero = refl
    none (suc k) = refl
raw-part n (suc i) (r ∷ l) = raw-part n i l

-- a table whose rows are those of heads
module _ (l : List (List ℕ)) (exact : map raw (map row_of l) ≡ l) where
  abbrev L : List Row
  L = map row_of l

  pub stands : (i to : ℕ) → to ≡ i + size (tree_at L i) → to ≤ length l → standing l i to ≡ map raw (flat (tree_at L i))
  stands i to q h =
      let z : to - i ≡ size (tree_at L i) = omega arith in
      let k : i + size (tree_at L i) ≤ length L = rw (length-map l row_of) (omega arith) in
      sym (ap (map raw) (flat-stands L i k) ∙ raw-part (size (tree_at L i)) i L ∙ ap (λ (x : List (List ℕ)). take (size (tree_at L i)) (drop i x)) exact ∙ ap (λ (x : ℕ). take x (drop i l)) (sym z))

  -- THE MEANING of what is written: the body is the tree at row `body`, the j-th argument the j-th tree
  module _ {n : ℕ} (form : ℕ → Form) (body : ℕ) (bounds : List ℕ) (ps : List Param) (f : Forest n) (whole : body + size (tree_at L body) ≤ length l)
      (args : (j : ℕ) → j < length (take n (names ps)) → standing l (get_or bounds j 0) (get_or bounds (j + 1) 0) ≡ map raw (flat (tree f j))) where
    pub rows-put : put_rows form l body (take n (names ps)) bounds ≡ map raw (flat (put form (assign ps f) (tree_at L body)))
    unfolding put_rows
    rows-put =
        let k = size (tree_at L body) in
        let z : body + k - body ≡ k = omega arith in
        let s : take k (drop body l) ≡ map raw (flat (tree_at L body)) = ap (λ (x : ℕ). take x (drop body l)) (sym z) ∙ stands body (body + k) refl whole in
        let e : drop body l ≡ map raw (flat (tree_at L body)) ++ drop k (drop body l) = sym (take-append-drop k (drop body l)) ∙ ap (λ (x : List (List ℕ)). x ++ drop k (drop body l)) s in
        ap (λ (x : List (List ℕ)). run form (take n (names ps)) (arg_rows l bounds) x (0 ∷ [])) e
        ∙ pass-puts form ps f (arg_rows l bounds) args (tree_at L body) (drop k (drop body l))
