-- A zip's arguments, one by one: where a head, a tail or the whole of each stands, and what is left. Assumes nothing.
use Prim.Native.Nat.{ℕ, suc, ◌+◌, ◌-◌, ◌/◌, ◌%◌, ◌≤◌, ◌<◌}
use mathlib.Core.Path.{◌≡◌, refl, ap, sym, ◌∙◌}
use mathlib.Core.Bool.{Bool, true, false, cond}
use mathlib.Core.List.{List, [], ◌++◌, map, map-append}
use native.Mathlib.Omega.{arith}
use lib.ListN.{length, get_or}
use borrow.Author.Tests.{eqb-true}
use Rattle.meaning.specs.Bytes.{◌∧ᵇ◌}
use Rattle.meaning.specs.Types.{low}
use Rattle.meaning.specs.Terms.{cons, head_from, Tree, node, end, more, is, Row, flat, flats, size, sizes, raw, row_of, kind_no, n_no, type_no, word_no, tree_at, grove, kids}
use Rattle.meaning.specs.Steps.{◌∨ᵇ◌, nth, child, kid, swap, is_list, ready, any_nil, kids_at}
use Rattle.meaning.proofs.Trees.Tests.{left, right, neither-l, neither-r}
use Rattle.terms.proofs.Scan.{grove-none, grove-size, size-some}
use Rattle.put.specs.Put.{standing}
use Rattle.put.proofs.Meets.{stands}
use Rattle.put.specs.declared.Span.{Span}
use Rattle.meaning.specs.Types.{Form}
use Rattle.reduce.specs.Plan.{row_no, half_rows}
use Rattle.reduce.specs.Halves.{which_half, half_of, Halves, HalfAt, BoundsAt}
use Rattle.reduce.proofs.Roots.{grove-two, grove-last, kind-is, made_as, sized-as, arg-in, arg-next}
use Rattle.reduce.proofs.Zipped.{low-is, low-not, ready_on, nil-on, kids-on}

-- One argument ---------------------------------------------------------------------------------------------------

module _ (l : List (List ℕ)) (exact : map raw (map row_of l) ≡ l) (at h : ℕ) (inside : at + size (tree_at (map row_of l) at) ≤ length l) where
  abbrev L : List Row
  L = map row_of l

  here : at < length l
  here = omega (arith, inside, size-some (tree_at L at))

  pub half-whole : (tails : Bool) (e : ℕ) → (h % 2 ≡ 1 → ⊥) → e ≡ at + size (tree_at L at) → HalfAt l at h tails (record { from = at; to = e })
  half-whole tails e p q =
      record {
        low_end = omega (arith, q);
        high_end = omega (arith, q, inside);
        rows = rw (low-not h p) (stands l exact at e q (omega (arith, q, inside)));
      }

  module _ (p : h % 2 ≡ 1) (full : low h ≡ true → is 13 (tree_at L at) ≡ true) where
    is-cons : kind_no (row_no l at) ≡ 13
    is-cons = eqb-true _ 13 (sym (kind-is l at here 13 (omega arith) (omega arith)) ∙ full (low-is h p))

    head-cons : head_from (kind_no (row_no l at)) (n_no (row_no l at)) (word_no (row_no l at)) ≡ cons
    unfolding head_from
    head-cons = ap (λ (k : ℕ). head_from k (n_no (row_no l at)) (word_no (row_no l at))) is-cons

    abbrev A : ℕ
    A = at + 1

    abbrev B : ℕ
    B = at + 1 + size (tree_at L (at + 1))

    cons-made : tree_at L at ≡ node cons (type_no (row_no l at)) (more (tree_at L A) (more (tree_at L B) end))
    cons-made = made_as l at here cons head-cons ∙ ap (node cons (type_no (row_no l at))) (grove-two L A)

    cons-size : at + size (tree_at L at) ≡ B + size (tree_at L B)
    cons-size = omega (arith, sized-as l at here cons head-cons, grove-size L A 1, grove-size L B 0, grove-none L (B + size (tree_at L B)))

    pub head-ends : at + 1 + size (tree_at L (at + 1)) ≤ length l
    head-ends = omega (arith, cons-size, inside)

    pub half-tail : (t e : ℕ) → t ≡ at + 1 + size (tree_at L (at + 1)) → e ≡ at + size (tree_at L at) → HalfAt l at h true (record { from = t; to = e })
    unfolding kid child nth swap
    half-tail t e q r =
        let g : e ≡ t + size (tree_at L t) = r ∙ cons-size ∙ ap (λ (x : ℕ). x + size (tree_at L x)) (sym q) in
        record {
          low_end = omega (arith, g);
          high_end = omega (arith, r, inside);
          rows = rw (low-is h p) (stands l exact t e g (omega (arith, r, inside)) ∙ ap (λ (x : ℕ). map raw (flat (tree_at L x))) q ∙ ap (λ (y : Tree). map raw (flat (kid 2 y))) (sym cons-made));
        }

    pub half-head : (t : ℕ) → t ≡ at + 1 + size (tree_at L (at + 1)) → HalfAt l at h false (record { from = at + 1; to = t })
    unfolding kid child nth swap
    half-head t q =
        record {
          low_end = omega (arith, q);
          high_end = omega (arith, q, head-ends);
          rows = rw (low-is h p) (stands l exact A t q (omega (arith, q, head-ends)) ∙ ap (λ (y : Tree). map raw (flat (kid 1 y))) (sym cons-made));
        }

-- where it ends, told by the bounds of all
pub bound-next : (l : List (List ℕ)) (first n : ℕ) (bounds : List ℕ) → BoundsAt l first n bounds → (j at e : ℕ) → j < n → at ≡ first + sizes (grove (map row_of l) first j) → e ≡ get_or bounds (j + 1) 0 → e ≡ at + size (tree_at (map row_of l) at)
bound-next l first n bounds d j at e h p q =
    let M = map row_of l in
    let m : j + 1 ≡ suc j = omega arith in
    let z : first + sizes (grove M first (suc j)) ≡ first + sizes (grove M first j) + size (tree_at M (first + sizes (grove M first j))) = omega (arith, grove-last M j first) in
    q ∙ d.places (j + 1) (omega arith) ∙ ap (λ (x : ℕ). first + sizes (grove M first x)) m ∙ z ∙ ap (λ (x : ℕ). x + size (tree_at M x)) (sym p)

-- All of them ----------------------------------------------------------------------------------------------------

-- j arguments were passed, the next stands at a row, under what is left of the mask
pub record Going (l : List (List ℕ)) (first n h at j : ℕ) : Type 0 where
  pub few : j ≤ n
  pub place : at ≡ first + sizes (grove (map row_of l) first j)
  pub lists : ready h (grove (map row_of l) at (n - j)) ≡ true
  pub full : any_nil h (grove (map row_of l) at (n - j)) ≡ false

-- the rows of those that are left
abbrev pub left_of : List (List ℕ) → ℕ → ℕ → ℕ → ℕ → Bool → List (List ℕ)
left_of l h at n j tails = map raw (flats (kids_at (which_half tails) h (grove (map row_of l) at (n - j))))

pub going_start : (l : List (List ℕ)) (first n m : ℕ) → Halves l first n m → Going l first n m first 0
going_start l first n m d =
    let z : n - 0 ≡ n = omega arith in
    record {
      few = omega arith;
      place = omega (arith, grove-none (map row_of l) first);
      lists = ap (λ (x : ℕ). ready m (grove (map row_of l) first x)) z ∙ d.lists;
      full = ap (λ (x : ℕ). any_nil m (grove (map row_of l) first x)) z ∙ d.full;
    }

pub left-start : (l : List (List ℕ)) (first n m : ℕ) (tails : Bool) → left_of l m first n 0 tails ≡ half_of l first n m tails
unfolding half_of
left-start l first n m tails = let z : n - 0 ≡ n = omega arith in ap (λ (x : ℕ). map raw (flats (kids_at (which_half tails) m (grove (map row_of l) first x)))) z

none_left : (i h : ℕ) (L : List Row) (at : ℕ) → map raw (flats (kids_at i h (grove L at 0))) ≡ []
unfolding kids_at grove kids flat
none_left i h L at = refl

pub left_end : (l : List (List ℕ)) (h at n j : ℕ) (tails : Bool) → n ≤ j → left_of l h at n j tails ≡ []
left_end l h at n j tails k = let z : n - j ≡ 0 = omega arith in rw z (none_left (which_half tails) h (map row_of l) at)

module _ {l : List (List ℕ)} {first n m : ℕ} (d : Halves l first n m) {h at j : ℕ} (go : Going l first n h at j) (more-to-come : j < n) where
  abbrev M : List Row
  M = map row_of l

  pub going-in : at + size (tree_at M at) ≤ length l
  going-in = arg-in M first n j at (length l) more-to-come go.place d.inside

  readies : (cond (low h) (is_list (tree_at M at)) true ∧ᵇ ready (h / 2) (grove M (at + size (tree_at M at)) (n - (j + 1)))) ≡ true
  readies = sym (ready_on M h at n j more-to-come) ∙ go.lists

  no-nils : ((low h ∧ᵇ is 12 (tree_at M at)) ∨ᵇ any_nil (h / 2) (grove M (at + size (tree_at M at)) (n - (j + 1)))) ≡ false
  no-nils = sym (nil-on M h at n j more-to-come) ∙ go.full

  -- a list that is not nil
  pub going-cons : low h ≡ true → is 13 (tree_at M at) ≡ true
  unfolding is_list ◌∨ᵇ◌ ◌∧ᵇ◌
  going-cons p =
      let a : is_list (tree_at M at) ≡ true = rw p at (left (cond (low h) (is_list (tree_at M at)) true) _ readies) in
      let b : is 12 (tree_at M at) ≡ false = rw p at (neither-l (low h ∧ᵇ is 12 (tree_at M at)) _ no-nils) in
      rw b at a

  pub going_next : (e : ℕ) → e ≡ at + size (tree_at M at) → Going l first n (h / 2) e (j + 1)
  going_next e q =
      record {
        few = omega arith;
        place = arg-next M first j at e go.place q;
        lists = rw q (right (cond (low h) (is_list (tree_at M at)) true) _ readies);
        full = rw q (neither-r (low h ∧ᵇ is 12 (tree_at M at)) _ no-nils);
      }

  module _ {tails : Bool} {s : Span} (at-half : HalfAt l at h tails s) (e : ℕ) (q : e ≡ at + size (tree_at M at)) where
    pub left-next : left_of l h at n j tails ≡ standing l s.from s.to ++ left_of l (h / 2) e n (j + 1) tails
    left-next =
        ap (map raw) (kids-on M h at n j more-to-come (which_half tails))
        ∙ map-append raw (flat (cond (low h) (kid (which_half tails) (tree_at M at)) (tree_at M at))) (flats (kids_at (which_half tails) (h / 2) (grove M (at + size (tree_at M at)) (n - (j + 1)))))
        ∙ ap (λ (x : List (List ℕ)). x ++ map raw (flats (kids_at (which_half tails) (h / 2) (grove M (at + size (tree_at M at)) (n - (j + 1)))))) (sym at-half.rows)
        ∙ ap (λ (y : ℕ). standing l s.from s.to ++ left_of l (h / 2) y n (j + 1) tails) (sym q)

-- Both halves of a zip -------------------------------------------------------------------------------------------

module _ (l : List (List ℕ)) (first n m : ℕ) (p : n_no (row_no l 0) ≡ n) (q : n_no (row_no l 1) ≡ m) where
  pub half-rows : (form : ℕ → Form) (tails : Bool) → half_of l first n m tails ≡ half_rows form l (which_half tails) first
  unfolding half_of half_rows
  half-rows form tails = rw (sym p, sym q) refl
