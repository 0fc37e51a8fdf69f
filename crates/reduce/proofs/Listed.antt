-- Arguments that are lists where a mask asks for them, one by one; a call of a zip of lists. Assumes nothing.
use Prim.Native.Nat.{ℕ, suc, ◌+◌, ◌-◌, ◌/◌, ◌≤◌, ◌<◌}
use mathlib.Core.Path.{◌≡◌, refl, ap, sym, ◌∙◌}
use mathlib.Core.Bool.{Bool, true, false, cond}
use mathlib.Core.List.{List, map}
use native.Mathlib.Omega.{arith}
use lib.ListN.{length}
use borrow.Author.Tests.{eq-eqb}
use Rattle.meaning.specs.Bytes.{◌∧ᵇ◌}
use Rattle.meaning.specs.Types.{low, rest}
use Rattle.meaning.specs.Terms.{apply, zip, code, n_of, head_from, Tree, node, more, head_of, is, Row, row_of, size, sizes, kind_no, n_no, type_no, word_no, tree_of, tree_at, grove, kids}
use Rattle.meaning.specs.Typing.{first_is}
use Rattle.meaning.specs.Steps.{is_list, ready}
use Rattle.meaning.proofs.Trees.Parse.{grove-more}
use Rattle.terms.proofs.Scan.{grove-size, size-some}
use Rattle.reduce.specs.Plan.{row_no}
use Rattle.reduce.specs.Lists.{zips, lists_below, zips_lists, tree_zips, tree_zips_lists}
use Rattle.reduce.proofs.Roots.{kind-is, made_as, root, root-size}

pub none-listed : (m : ℕ) (L : List Row) (at n : ℕ) → n ≡ 0 → true ≡ ready m (grove L at n)
unfolding ready grove kids
none-listed m L at n e = rw e refl

module _ (L : List Row) (h at k : ℕ) (some : 0 < k) where
  abbrev next : ℕ
  next = at + size (tree_at L at)

  abbrev asked : Bool
  asked = cond (low h) (is_list (tree_at L at)) true

  one : k ≡ suc (k - 1)
  one = omega arith

  listed : (j : ℕ) → k ≡ suc j → ready h (grove L at k) ≡ (asked ∧ᵇ ready (h / 2) (grove L next j))
  unfolding ready rest
  listed j e = rw (e, grove-more L at j) refl

  pub listed-size : sizes (grove L at k) ≡ size (tree_at L at) + sizes (grove L next (k - 1))
  listed-size = ap (λ (n : ℕ). sizes (grove L at n)) one ∙ grove-size L at (k - 1)

  pub listed_next : (to : ℕ) (b : Bool) → to ≡ next → b ≡ asked → b ≡ true → ready h (grove L at k) ≡ ready (h / 2) (grove L to (k - 1))
  unfolding ◌∧ᵇ◌
  listed_next to b q p t = listed (k - 1) one ∙ ap (λ (x : Bool). x ∧ᵇ ready (h / 2) (grove L next (k - 1))) (sym p ∙ t) ∙ ap (λ (x : ℕ). ready (h / 2) (grove L x (k - 1))) (sym q)

  pub listed-stop : (b : Bool) → b ≡ asked → b ≡ false → ready h (grove L at k) ≡ false
  unfolding ◌∧ᵇ◌
  listed-stop b p t = listed (k - 1) one ∙ ap (λ (x : Bool). x ∧ᵇ ready (h / 2) (grove L next (k - 1))) (sym p ∙ t)

  pub listed-last : (b : Bool) → k ≡ 1 → b ≡ asked → b ≡ ready h (grove L at k)
  listed-last b e p = let z : k - 1 ≡ 0 = omega arith in p ∙ sym (and-true asked) ∙ ap (λ (x : Bool). asked ∧ᵇ x) (none-listed (h / 2) L next (k - 1) z) ∙ sym (listed (k - 1) one)
    where
      and-true : (b : Bool) → (b ∧ᵇ true) ≡ b
      and-true true = unfold ◌∧ᵇ◌ in refl
      and-true false = unfold ◌∧ᵇ◌ in refl

-- A CALL OF A ZIP, by the first two rows
module _ (l : List (List ℕ)) (inside : size (tree_of (map row_of l)) ≤ length l) (e : kind_no (row_no l 0) ≡ 8) where
  abbrev L : List Row
  L = map row_of l

  abbrev N : ℕ → ℕ
  N i = n_no (row_no l i)

  abbrev first : ℕ
  first = 1 + size (tree_at L 1)

  head-call : head_from (kind_no (row_no l 0)) (N 0) (word_no (row_no l 0)) ≡ apply (N 0)
  unfolding head_from
  head-call = ap (λ (k : ℕ). head_from k (N 0) (word_no (row_no l 0))) e

  pub called-size : size (tree_of L) ≡ first + sizes (grove L first (N 0))
  called-size = root-size l inside (apply (N 0)) head-call ∙ omega (arith, grove-size L 1 (N 0))

  pub called_more : 1 < length l
  called_more = omega (arith, inside, called-size, size-some (tree_at L 1))

  called : tree_of L ≡ node (apply (N 0)) (type_no (row_no l 0)) (more (tree_at L 1) (grove L first (N 0)))
  called = root l inside (apply (N 0)) head-call ∙ ap (node (apply (N 0)) (type_no (row_no l 0))) (grove-more L 1 (N 0))

  module _ (q : kind_no (row_no l 1) ≡ 15) where
    fifteen : is 15 (tree_at L 1) ≡ true
    fifteen = kind-is l 1 called_more 15 (omega arith) (omega arith) ∙ eq-eqb (kind_no (row_no l 1)) 15 q

    masked : n_of (head_of (tree_at L 1)) ≡ N 1
    unfolding head_from head_of n_of
    masked = ap (λ (t : Tree). n_of (head_of t)) (made_as l 1 called_more (zip (N 1)) (ap (λ (k : ℕ). head_from k (N 1) (word_no (row_no l 1))) q))

    pub zips-told : tree_zips (tree_of L) ≡ true
    unfolding tree_zips zips code first_is ◌∧ᵇ◌
    zips-told = ap tree_zips called ∙ fifteen

    pub lists-told : ready (N 1) (grove L first (N 0)) ≡ true → tree_zips_lists (tree_of L) ≡ true
    unfolding tree_zips_lists zips_lists zips lists_below code first_is ◌∧ᵇ◌
    lists-told r = ap tree_zips_lists called ∙ rw (fifteen, masked) r
