-- What a call of a zip makes, by its parts. Assumes nothing.
use Prim.Native.Nat.{ℕ, suc, zero, ◌+◌, ◌-◌, ◌*◌, ◌/◌, ◌≤◌, ◌<◌}
use mathlib.Core.Path.{◌≡◌, refl, ap, sym, ◌∙◌, subst}
use mathlib.Core.Bool.{Bool, true, false, cond}
use mathlib.Core.List.{List, [], ◌∷◌, ◌++◌, map}
use native.Mathlib.Omega.{arith}
use lib.ListN.{length, length-map}
use Rattle.std.specs.Prelude.{None, Some}
use Rattle.layout.specs.declared.kinds.Kind.TheVariants as kind
use Rattle.layout.specs.Rows.{row_table}
use Rattle.layout.proofs.Tables.{row-table-length}
use Rattle.meaning.specs.Types.{Form, low, rest, elem_of}
use Rattle.meaning.specs.Terms.{Tree, Forest, node, end, more, flats, size, sizes, raw, row_of, type_no, n_no, tree_of, tree_at, grove}
use Rattle.meaning.specs.Steps.{nth, child, swap, kid, kids_at, ready, any_nil}
use Rattle.meaning.proofs.Trees.Parse.{length-flats}
use Rattle.put.specs.Put.{standing}
use Rattle.terms.proofs.Scan.{size-some}
use Rattle.reduce.specs.Plan.{row_no, rule_rows, half_rows, zip_rows, ZipsAt, Plans}
use Rattle.reduce.specs.Halves.{which_half, arguments, half_of, Halves, BoundsAt, Zipping}
use Rattle.reduce.proofs.Zipped.{zip-whole, plan-unready, plan-short, plan-zip}
use Rattle.reduce.proofs.Parted.{half-rows}
use Rattle.reduce.proofs.Filled.{zip_length, zip-same}
use Rattle.reduce.proofs.Cut.{leaf-planned}
use Rattle.reduce.proofs.Told.{zip-ready}
use Rattle.reduce.specs.Rule.{rule_of, rows_if}

-- A PART OF A TREE has no more rows than the tree
part-size : {n : ℕ} (i : ℕ) (f : Forest n) (t : Tree) → sizes f ≤ size t → size (swap (nth i f) t) ≤ size t
unfolding nth swap size
part-size i end t q = omega arith
part-size zero (more u f) t q = omega arith
part-size (suc zero) (more u f) t q = omega (arith, q)
part-size (suc (suc i)) (more u f) t q = part-size (suc i) f t (omega (arith, q))

kid-size : (i : ℕ) (t : Tree) → size (kid i t) ≤ size t
unfolding kid child size
kid-size i (node h u f) = part-size i f (node h u f) (omega arith)

kids-size : {n : ℕ} (i m : ℕ) (f : Forest n) → sizes (kids_at i m f) ≤ sizes f
unfolding kids_at size rest
kids-size i m end = omega arith
kids-size i m (more t f) = omega (arith, masked (low m), kids-size i (m / 2) f)
  where
    masked : (b : Bool) → size (cond b (kid i t) t) ≤ size t
    masked true = kid-size i t
    masked false = omega arith

pub half-short : (l : List (List ℕ)) (first n m : ℕ) (tails : Bool) → first + sizes (grove (map row_of l) first n) ≤ length l → length (half_of l first n m tails) ≤ length l
unfolding half_of
half-short l first n m tails h =
    let f = grove (map row_of l) first n in
    let k = kids_at (which_half tails) m f in
    omega (arith, length-map (flats k) raw, length-flats k, kids-size (which_half tails) m f, h)

-- A ZIP OF CONS
module _ (l : List (List ℕ)) (first : ℕ) (z : ZipsAt l first) where
  pub zips-halves : (bounds : List ℕ) → BoundsAt l first (n_no (row_no l 0)) bounds → Halves l first (n_no (row_no l 0)) (n_no (row_no l 1))
  zips-halves bounds b = record { few = omega (arith, b.few); inside = omega (arith, z.whole); lists = z.lists; full = z.full }

  module _ (form : ℕ → Form) where
    zips-same : (tails : Bool) → half_of l first (n_no (row_no l 0)) (n_no (row_no l 1)) tails ≡ half_rows form l (which_half tails) first
    zips-same tails = half-rows l first _ _ refl refl form tails

    pub zips-length : length (zip_rows form l first) ≡ 3 + (first - 2) + length (half_of l first (n_no (row_no l 0)) (n_no (row_no l 1)) false) + (first - 1) + length (half_of l first (n_no (row_no l 0)) (n_no (row_no l 1)) true)
    zips-length = omega (arith, zip_length form l first z.behind (omega (arith, z.whole)), ap length (zips-same false), ap length (zips-same true))

    -- the front row, and both sides behind it
    pub zips-sides : (ty i e : ℕ) → type_no (row_no l 0) ≡ ty → n_no (row_no l 0) ≡ i → e ≡ elem_of (form ty) → (a b c : List ℕ) → a ≡ 13 ∷ 0 ∷ ty ∷ 0 ∷ [] → b ≡ 8 ∷ i ∷ e ∷ 0 ∷ [] → c ≡ 8 ∷ i ∷ ty ∷ 0 ∷ []
        → (a ∷ (b ∷ (standing l 2 first ++ half_of l first (n_no (row_no l 0)) (n_no (row_no l 1)) false))) ++ (c ∷ (standing l 1 first ++ half_of l first (n_no (row_no l 0)) (n_no (row_no l 1)) true)) ≡ zip_rows form l first
    zips-sides ty i e p q r a b c x y w = rw (x, y, w) (zip-same form l first z.behind (omega (arith, z.whole)) ty i e _ _ p q r (zips-same false) (zips-same true))

-- A CALL OF A ZIP
module _ (rows : List ℕ) (first n m : ℕ) (bounds : List ℕ) (z : Zipping rows first n m bounds) where
  abbrev T : List (List ℕ)
  T = row_table rows

  abbrev F : Forest n
  F = arguments rows first n

  all : first + sizes (grove (map row_of T) first (n_no (row_no T 0))) ≡ length T
  all = zip-whole T z.redex.exact z.redex.one z.applied z.zips first z.behind

  pub whole : first + sizes F ≡ length T
  whole = ap (λ (x : ℕ). first + sizes (grove (map row_of T) first x)) (sym z.count) ∙ all

  pub behind-function : 2 ≤ first
  behind-function = omega (arith, z.behind, size-some (tree_at (map row_of T) 1))

  pub few-rows : length T ≤ 2048
  few-rows = omega (arith, z.redex.few, row-table-length rows)

  pub places-there : BoundsAt T first (n_no (row_no T 0)) bounds
  places-there = subst (λ (x : ℕ). BoundsAt T first x bounds) (sym z.count) z.places

  same-ready : ready m F ≡ ready (n_no (row_no T 1)) (grove (map row_of T) first (n_no (row_no T 0)))
  same-ready = rw (z.count, z.masked) refl

  same-nil : any_nil m F ≡ any_nil (n_no (row_no T 1)) (grove (map row_of T) first (n_no (row_no T 0)))
  same-nil = rw (z.count, z.masked) refl

  pub zips-at : ready m F ≡ true → any_nil m F ≡ false → ZipsAt T first
  zips-at r a = record { behind = behind-function; whole = all; lists = sym same-ready ∙ r; full = sym same-nil ∙ a }

  pub halves : ready m F ≡ true → any_nil m F ≡ false → Halves T first n m
  halves r a = record { few = omega (arith, z.places.few); inside = omega (arith, whole); lists = r; full = a }

  module _ (form : ℕ → Form) where
    pub stays : false ≡ ready m F → rule_rows form T ≡ None
    unfolding Plans
    stays r = plan-unready T z.redex.exact z.redex.one z.applied z.zips first z.behind form (r ∙ same-ready)

    pub nil-made : ready m F ≡ true → true ≡ any_nil m F → rule_rows form T ≡ Some ((12 ∷ 0 ∷ type_no (row_no T 0) ∷ 0 ∷ []) ∷ [])
    nil-made r a = leaf-planned form T kind.Nil (plan-short T z.redex.exact z.redex.one z.applied z.zips first z.behind form (sym r ∙ same-ready) (a ∙ same-nil))

    pub cons-made : ZipsAt T first → rule_rows form T ≡ Some (zip_rows form T first)
    cons-made a = plan-zip T z.redex.exact z.redex.one z.applied z.zips first z.behind form (sym a.lists) (sym a.full)

    -- what makes something has lists
    pub lists-if : (k : ℕ) → 0 < k → k ≡ 8 * length (rows_if (rule_of form (tree_of (map row_of T)))) → ready m F ≡ true
    lists-if k h e = same-ready ∙ sym (zip-ready form T z.redex.exact z.redex.one z.applied z.zips first z.behind k h e)

    -- whatever the masked arguments are
    pub half-same : (tails : Bool) → half_of T first n m tails ≡ half_rows form T (which_half tails) first
    half-same tails = half-rows T first n m z.count z.masked form tails

    pub cons-short : length (zip_rows form T first) ≤ 16384
    cons-short =
        let h = half-short T first n m in
        omega (arith, zip_length form T first behind-function (omega (arith, whole)), few-rows, h false (omega (arith, whole)), h true (omega (arith, whole)), ap length (half-same false), ap length (half-same true), whole)

    -- the front row, and both sides behind it
    pub sides : (ty i e : ℕ) → type_no (row_no T 0) ≡ ty → n_no (row_no T 0) ≡ i → e ≡ elem_of (form ty) → (a b c : List ℕ) → a ≡ 13 ∷ 0 ∷ ty ∷ 0 ∷ [] → b ≡ 8 ∷ i ∷ e ∷ 0 ∷ [] → c ≡ 8 ∷ i ∷ ty ∷ 0 ∷ []
        → (a ∷ (b ∷ (standing T 2 first ++ half_of T first n m false))) ++ (c ∷ (standing T 1 first ++ half_of T first n m true)) ≡ zip_rows form T first
    sides ty i e p q r a b c x y w =
        rw (x, y, w) (zip-same form T first behind-function (omega (arith, whole)) ty i e (half_of T first n m false) (half_of T first n m true) p q r (half-same false) (half-same true))
