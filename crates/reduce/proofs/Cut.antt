-- The first rows of a table: trees that end within them are the same there. Assumes nothing.
use Prim.Native.Nat.{ℕ, zero, suc, ◌+◌, ◌*◌, ◌-◌, ◌≤◌, ◌<◌}
use mathlib.Core.Path.{◌≡◌, refl, ap, sym, ◌∙◌}
use mathlib.Core.List.{List, [], ◌∷◌, ◌++◌, map}
use Rattle.std.specs.Prelude.{Option, None, Some, IfSome}
use native.Mathlib.Omega.{arith}
use lib.ListN.{length, get_or, take, drop, take-append-drop}
use lib.Seq.{take-nil, take-take, get_or-take, length-take-le}
use Rattle.layout.specs.Rows.{row_table}
use Rattle.layout.proofs.Tables.{row-table-take, row-table-length}
use Rattle.layout.specs.declared.kinds.Kind.{Kind}
use Rattle.layout.specs.Kinds.{number_of}
use Rattle.meaning.specs.Types.{Form}
use Rattle.meaning.specs.Terms.{Tree, Forest, more, Row, flat, size, sizes, raw, row_of, kind_no, n_no, type_no, trees, top, tree_of, tree_at, grove, kids}
use Rattle.meaning.proofs.Trees.Parse.{trees-flat, grove-more, tree-at-zero}
use Rattle.meaning.proofs.Bytes.RowTables.{rows-raw}
use Rattle.terms.proofs.Scan.{grove-size, size-some}
use Rattle.put.specs.declared.Made.{Made}
use Rattle.put.proofs.Meets.{stands}
use Rattle.reduce.specs.Rule.{rule_of, Front, Redex}
use Rattle.reduce.specs.Plan.{row_no, rule_rows, Plans, ZipsFrom}
use Rattle.reduce.specs.Halves.{BoundsAt}
use Rattle.reduce.specs.Once.{MadeAtOnce}
use Rattle.reduce.specs.declared.Plan.TheVariants.{Leaf}
use Rattle.reduce.proofs.Roots.{grove-less}
use Rattle.reduce.proofs.Listed.{called-size}

drop-take : {A : Type 0} (m n : ℕ) (l : List A) → drop m (take n l) ≡ take (n - m) (drop m l)
drop-take zero n l = let z : n ≡ n - 0 = omega arith in ap (λ (x : ℕ). take x l) z
drop-take (suc m) zero l = let z : 0 - suc m ≡ 0 = omega arith in ap (λ (x : ℕ). take x (drop (suc m) l)) (sym z)
drop-take (suc m) (suc n) [] = sym (take-nil (suc n - suc m))
drop-take (suc m) (suc n) (x ∷ l) = let z : n - m ≡ suc n - suc m = omega arith in drop-take m n l ∙ ap (λ (k : ℕ). take k (drop m l)) z

row_drop : (n : ℕ) (l : List (List ℕ)) → map row_of (drop n l) ≡ drop n (map row_of l)
row_drop zero l = refl
row_drop (suc n) [] = refl
row_drop (suc n) (x ∷ l) = row_drop n l

row-append : (a b : List (List ℕ)) → map row_of (a ++ b) ≡ map row_of a ++ map row_of b
row-append [] b = refl
row-append (x ∷ a) b = ap (λ (l : List Row). row_of x ∷ l) (row-append a b)

row-take : (n : ℕ) (l : List (List ℕ)) → map row_of (take n l) ≡ take n (map row_of l)
row-take zero l = refl
row-take (suc n) [] = refl
row-take (suc n) (x ∷ l) = ap (λ (m : List Row). row_of x ∷ m) (row-take n l)

raw-take : (n : ℕ) (l : List Row) → map raw (take n l) ≡ take n (map raw l)
raw-take zero l = refl
raw-take (suc n) [] = refl
raw-take (suc n) (x ∷ l) = ap (λ (m : List (List ℕ)). raw x ∷ m) (raw-take n l)

module _ (l : List (List ℕ)) (exact : map raw (map row_of l) ≡ l) (N : ℕ) (fits : N ≤ length l) where
  abbrev L : List Row
  L = map row_of l

  abbrev L' : List Row
  L' = map row_of (take N l)

  -- A TREE that ends within the first rows
  pub tree-cut : (i : ℕ) → i + size (tree_at L i) ≤ N → tree_at L' i ≡ tree_at L i
  unfolding tree_at top
  tree-cut i h =
      let t = tree_at L i in
      let k = size t in
      let x = drop i (take N l) in
      let z : k ≡ i + k - i = omega arith in
      let s : take k x ≡ map raw (flat t) =
      ap (take k) (drop-take i N l) ∙ take-take k (N - i) (drop i l) (omega arith) ∙ ap (λ (n : ℕ). take n (drop i l)) z ∙ stands l exact i (i + k) refl (omega (arith, fits)) in
      let e : map row_of x ≡ flat t ++ map row_of (drop k x) = ap (map row_of) (sym (take-append-drop k x)) ∙ row-append (take k x) (drop k x) ∙ ap (λ (r : List Row). r ++ map row_of (drop k x)) (ap (map row_of) s ∙ rows-raw (flat t)) in
      ap (λ (r : List Row). top (trees r)) (sym (row_drop i (take N l)) ∙ e) ∙ ap top (trees-flat t (map row_of (drop k x)))

  -- and trees side by side
  pub grove-cut : (n at : ℕ) → at + sizes (grove L at n) ≤ N → grove L' at n ≡ grove L at n
  grove-cut zero at h = unfold grove in unfold kids in refl
  grove-cut (suc n) at h =
      let z = grove-size L at n in
      let t = tree-cut at (omega (arith, h, z)) in
      grove-more L' at n
      ∙ ap (λ (x : Tree). more x (grove L' (at + size x) n)) t
      ∙ ap (λ (f : Forest n). more (tree_at L at) f) (grove-cut n (at + size (tree_at L at)) (omega (arith, h, z)))
      ∙ sym (grove-more L at n)

-- THE ROWS OF THE FIRST TREE, cut off from those behind them
module _ (rows : List ℕ) (R : Front rows) (old : ℕ) (x : List ℕ) (o : old ≡ size (tree_of (map row_of (row_table rows)))) (c : x ≡ take (8 * old) rows) where
  abbrev T : List (List ℕ)
  T = row_table rows

  within : old ≤ length T
  within = omega (arith, o, R.inside)

  long : 8 * old ≤ length rows
  long = omega (arith, within, row-table-length rows)

  table-cut : row_table x ≡ take old T
  table-cut = ap row_table c ∙ row-table-take rows old long

  count_cut : length (row_table x) ≡ old
  count_cut = ap length table-cut ∙ length-take-le old T within

  cut-tree : tree_of (map row_of (row_table x)) ≡ tree_of (map row_of T)
  cut-tree =
      ap (λ (l : List (List ℕ)). tree_of (map row_of l)) table-cut
      ∙ sym (tree-at-zero (map row_of (take old T)))
      ∙ tree-cut T R.exact old within 0 (omega (arith, o, ap size (tree-at-zero (map row_of T))))
      ∙ tree-at-zero (map row_of T)

  row_cut : (i : ℕ) → i < old → row_no (row_table x) i ≡ row_no T i
  row_cut i h = ap (λ (l : List (List ℕ)). row_no l i) table-cut ∙ get_or-take old T i [] h

  -- what is made of them is made of the tree
  pub cut-made : (form : ℕ → Form) (to : List (List ℕ)) (o : Option Made) → IfSome o (λ m. MadeAtOnce form (row_table x) to m) → IfSome o (λ m. MadeAtOnce form T to m)
  cut-made form to None c = tt
  cut-made form to (Some m) c =
      record { whole = c.whole ∙ ap size cut-tree; made = c.made; rule = ap (rule_of form) (sym cut-tree) ∙ c.rule; count = c.count; front = c.front }

  -- a call of a zip
  module _ (e : kind_no (row_no T 0) ≡ 8) (q : kind_no (row_no T 1) ≡ 15) (first n : ℕ) (g : first ≡ 1 + size (tree_at (map row_of T) 1)) (i : n ≡ n_no (row_no T 0)) (few : n ≤ 8) where
    abbrev Rs : List Row
    Rs = map row_of T

    whole : old ≡ first + sizes (grove Rs first n)
    whole = o ∙ called-size T R.inside e ∙ sym (ap (λ (y : ℕ). y + sizes (grove Rs y n)) g ∙ ap (λ (k : ℕ). 1 + size (tree_at Rs 1) + sizes (grove Rs (1 + size (tree_at Rs 1)) k)) i)

    two : 1 < old
    two = omega (arith, whole, g, size-some (tree_at Rs 1))

    n-cut : n_no (row_no (row_table x) 0) ≡ n
    n-cut = ap (λ (r : List ℕ). n_no r) (row_cut 0 (omega (arith, two))) ∙ sym i

    cut-redex : Redex x
    cut-redex =
        record {
          few = omega (arith, ap length c, length-take-le (8 * old) rows long, R.few, within);
          exact = ap (λ (l : List (List ℕ)). map raw (map row_of l)) table-cut ∙ ap (map raw) (row-take old T) ∙ raw-take old (map row_of T) ∙ ap (take old) R.exact ∙ sym table-cut;
          one = ap size cut-tree ∙ sym o ∙ sym count_cut;
          name = λ k. absurd (omega (arith, k, e, ap (λ (r : List ℕ). kind_no r) (row_cut 0 (omega (arith, two)))));
          args = λ k. omega (arith, n-cut, few);
        }

    first-cut : tree_at (map row_of (row_table x)) 1 ≡ tree_at Rs 1
    first-cut = ap (λ (l : List (List ℕ)). tree_at (map row_of l) 1) table-cut ∙ tree-cut T R.exact old within 1 (omega (arith, whole, g))

    pub cut-zip : (bounds : List ℕ) → length bounds ≡ 9 → ((j : ℕ) → j ≤ n → get_or bounds j 0 ≡ first + sizes (grove Rs first j)) → Redex x × ZipsFrom (row_table x) first × BoundsAt (row_table x) first (n_no (row_no (row_table x) 0)) bounds
    cut-zip bounds b places = (
      cut-redex,
      (
        ap (λ (r : List ℕ). kind_no r) (row_cut 0 (omega (arith, two))) ∙ e,
        ap (λ (r : List ℕ). kind_no r) (row_cut 1 two) ∙ q,
        g ∙ ap (λ (t : Tree). 1 + size t) (sym first-cut),
      ),
      record {
        long = b;
        few = omega (arith, n-cut, few);
        places = λ j h.
            let k : j ≤ n = omega (arith, h, n-cut) in
            places j k ∙ ap (λ (f : Forest j). first + sizes f) (sym (ap (λ (l : List (List ℕ)). grove (map row_of l) first j) table-cut ∙ grove-cut T R.exact old within j first (omega (arith, whole, grove-less Rs first j n k))));
      },
    )

pub leaf-planned : (form : ℕ → Form) (l : List (List ℕ)) (k : Kind) → Plans form l (Leaf k) → rule_rows form l ≡ Some ((number_of k ∷ 0 ∷ type_no (row_no l 0) ∷ 0 ∷ []) ∷ [])
unfolding Plans
leaf-planned form l k p = p
