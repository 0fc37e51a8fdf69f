-- The rule of a zip, by its rows. Assumes nothing.
use Prim.Native.Nat.{ℕ, suc, ◌+◌, ◌-◌, ◌/◌, ◌%◌, ◌≤◌, ◌<◌}
use mathlib.Core.Path.{◌≡◌, refl, ap, sym, ◌∙◌}
use mathlib.Core.Bool.{Bool, true, false, cond}
use mathlib.Core.List.{List, [], ◌∷◌, ◌++◌, map, append-nil, append_assoc, map-append}
use Rattle.std.specs.Prelude.{None, Some}
use native.Mathlib.Omega.{arith}
use lib.Dec.{eqb}
use lib.ListN.{length}
use borrow.Author.Tests.{eq-eqb, ne_eqb}
use Rattle.layout.specs.declared.kinds.Kind.TheVariants as kind
use Rattle.meaning.specs.Bytes.{◌∧ᵇ◌}
use Rattle.meaning.specs.Types.{Form, elem_of, low, rest}
use Rattle.meaning.specs.Terms.{nil, cons, zip, apply, code, n_of, word_of, head_from, Tree, Forest, node, end, more, head_of, is, Row, flat, flats, size, sizes, raw, row_of, kind_no, n_no, type_no, word_no, tree_of, tree_at, grove, kids}
use Rattle.meaning.specs.Steps.{◌∨ᵇ◌, stay, nth, child, kid, swap, is_list, ready, any_nil, kids_at, send_step, zip_cons, zip_step, apply_step}
use Rattle.meaning.proofs.Trees.Parse.{grove-more}
use Rattle.terms.proofs.Scan.{grove-none, grove-size}
use Rattle.put.proofs.Meets.{stands}
use Rattle.reduce.specs.Rule.{quiet, rule_of}
use Rattle.reduce.specs.Plan.{rows_of, row_no, rule_rows, half_rows, zip_rows, Plans}
use Rattle.reduce.specs.declared.Plan.TheVariants.{Stays, Leaf}
use Rattle.reduce.proofs.Quiet.{send-quiet}
use Rattle.reduce.proofs.Roots.{whole_in, grove-one, kind-is, made_as, sized-as}
use Rattle.reduce.proofs.Given.{call-rule, call-size, call-more}

-- Steps by tests -------------------------------------------------------------------------------------------------

module _ {n : ℕ} (form : ℕ → Form) (u : ℕ) (c : Tree) (args : Forest n) where
  call_stays : is 6 c ≡ false → is 15 c ≡ false → quiet (apply_step form 0 u c args) ≡ None
  unfolding apply_step quiet
  call_stays e g = rw (e, g) (by_kind (is 7 c))
    where
      by_kind : (b : Bool) → quiet (cond b (send_step 0 u c args) stay) ≡ None
      by_kind true = send-quiet 0 u c args
      by_kind false = refl

  call-zips : is 6 c ≡ false → is 7 c ≡ false → is 15 c ≡ true → quiet (apply_step form 0 u c args) ≡ quiet (zip_step form u (n_of (head_of c)) c args)
  unfolding apply_step
  call-zips e f g = rw (e, f, g) refl

  module _ (m : ℕ) where
    zip-waits : ready m args ≡ false → quiet (zip_step form u m c args) ≡ None
    unfolding zip_step quiet
    zip-waits e = rw e refl

    zip_ends : ready m args ≡ true → any_nil m args ≡ true → quiet (zip_step form u m c args) ≡ Some (node nil u end)
    unfolding zip_step quiet
    zip_ends e g = rw (e, g) refl

    zip-goes : ready m args ≡ true → any_nil m args ≡ false → quiet (zip_step form u m c args) ≡ Some (zip_cons form u m c args)
    unfolding zip_step quiet
    zip-goes e g = rw (e, g) refl

zip-flat : {n : ℕ} (u elem : ℕ) (k c : Tree) (f g : Forest n)
    → map raw (flat (node cons u (more (node (apply n) elem (more k f)) (more (node (apply n) u (more c g)) end))))
    ≡ (13 ∷ 0 ∷ u ∷ 0 ∷ []) ∷ (8 ∷ n ∷ elem ∷ 0 ∷ []) ∷ (map raw (flat k) ++ (map raw (flats f) ++ ((8 ∷ n ∷ u ∷ 0 ∷ []) ∷ (map raw (flat c) ++ map raw (flats g)))))
unfolding flat raw code n_of word_of
zip-flat {n} u elem k c f g =
    let tail : map raw (flat c ++ flats g) ≡ map raw (flat c) ++ map raw (flats g) = map-append raw (flat c) (flats g) in
    let row : Row = record { head = apply n; type = u } in
    let inner : map raw ((flat k ++ flats f) ++ ((row ∷ (flat c ++ flats g)) ++ [])) ≡ map raw (flat k) ++ (map raw (flats f) ++ ((8 ∷ n ∷ u ∷ 0 ∷ []) ∷ (map raw (flat c) ++ map raw (flats g)))) =
    ap (λ (x : List Row). map raw ((flat k ++ flats f) ++ x)) (append-nil (row ∷ (flat c ++ flats g)))
    ∙ ap (map raw) (append_assoc (flat k) (flats f) (row ∷ (flat c ++ flats g)))
    ∙ map-append raw (flat k) (flats f ++ (row ∷ (flat c ++ flats g)))
    ∙ ap (λ (x : List (List ℕ)). map raw (flat k) ++ x) (map-append raw (flats f) (row ∷ (flat c ++ flats g)))
    ∙ ap (λ (x : List (List ℕ)). map raw (flat k) ++ (map raw (flats f) ++ ((8 ∷ n ∷ u ∷ 0 ∷ []) ∷ x))) tail in
    ap (λ (x : List (List ℕ)). (13 ∷ 0 ∷ u ∷ 0 ∷ []) ∷ (8 ∷ n ∷ elem ∷ 0 ∷ []) ∷ x) inner

-- By rows --------------------------------------------------------------------------------------------------------

module _ (l : List (List ℕ)) (exact : map raw (map row_of l) ≡ l) (one : size (tree_of (map row_of l)) ≡ length l) (e : kind_no (row_no l 0) ≡ 8) where
  abbrev L : List Row
  L = map row_of l

  abbrev K : ℕ → ℕ
  K i = kind_no (row_no l i)

  abbrev N : ℕ → ℕ
  N i = n_no (row_no l i)

  abbrev U : ℕ → ℕ
  U i = type_no (row_no l i)

  abbrev W : ℕ → ℕ
  W i = word_no (row_no l i)

  one-is : (x : ℕ) → 2 ≤ x → x ≤ 19 → is x (tree_at L 1) ≡ eqb (K 1) x
  one-is x a b = kind-is l 1 (call-more l exact (whole_in one) e) x a b

  pub plan-other-call : (form : ℕ → Form) → (K 1 ≡ 6 → ⊥) → (K 1 ≡ 15 → ⊥) → Plans form l Stays
  unfolding Plans rows_of
  plan-other-call form p q =
      ap rows_of (call-rule l exact (whole_in one) e form ∙ call_stays form (U 0) (tree_at L 1) (grove L (1 + size (tree_at L 1)) (N 0)) (one-is 6 (omega arith) (omega arith) ∙ ne_eqb (K 1) 6 p) (one-is 15 (omega arith) (omega arith) ∙ ne_eqb (K 1) 15 q))

  module _ (q : K 1 ≡ 15) (first : ℕ) (g : first ≡ 1 + size (tree_at L 1)) where
    head-zip : head_from (K 1) (N 1) (W 1) ≡ zip (N 1)
    unfolding head_from
    head-zip = ap (λ (k : ℕ). head_from k (N 1) (W 1)) q

    zip_made : tree_at L 1 ≡ node (zip (N 1)) (U 1) (more (tree_at L 2) end)
    zip_made = made_as l 1 (call-more l exact (whole_in one) e) (zip (N 1)) head-zip ∙ ap (node (zip (N 1)) (U 1)) (grove-one L 2)

    zip-size : first ≡ 2 + size (tree_at L 2)
    zip-size = omega (arith, g, sized-as l 1 (call-more l exact (whole_in one) e) (zip (N 1)) head-zip, grove-size L 2 0, grove-none L (2 + size (tree_at L 2)))

    pub zip-whole : first + sizes (grove L first (N 0)) ≡ length l
    zip-whole = ap (λ (x : ℕ). x + sizes (grove L x (N 0))) g ∙ call-size l exact (whole_in one) e ∙ one

    zip-rule : (form : ℕ → Form) → rule_of form (tree_of L) ≡ quiet (zip_step form (U 0) (N 1) (tree_at L 1) (grove L first (N 0)))
    unfolding head_of n_of
    zip-rule form =
        call-rule l exact (whole_in one) e form
        ∙ call-zips form (U 0) (tree_at L 1) (grove L (1 + size (tree_at L 1)) (N 0)) (one-is 6 (omega arith) (omega arith) ∙ ne_eqb (K 1) 6 (λ p. omega (arith, p, q))) (one-is 7 (omega arith) (omega arith) ∙ ne_eqb (K 1) 7 (λ p. omega (arith, p, q))) (one-is 15 (omega arith) (omega arith) ∙ eq-eqb (K 1) 15 q)
        ∙ ap (λ (x : ℕ). quiet (zip_step form (U 0) (n_of (head_of (tree_at L 1))) (tree_at L 1) (grove L x (N 0)))) (sym g)
        ∙ ap (λ (t : Tree). quiet (zip_step form (U 0) (n_of (head_of t)) (tree_at L 1) (grove L first (N 0)))) zip_made

    pub plan-unready : (form : ℕ → Form) → false ≡ ready (N 1) (grove L first (N 0)) → Plans form l Stays
    unfolding Plans rows_of
    plan-unready form r = ap rows_of (zip-rule form ∙ zip-waits form (U 0) (tree_at L 1) (grove L first (N 0)) (N 1) (sym r))

    pub plan-short : (form : ℕ → Form) → true ≡ ready (N 1) (grove L first (N 0)) → true ≡ any_nil (N 1) (grove L first (N 0)) → Plans form l (Leaf kind.Nil)
    unfolding Plans rows_of flat raw code n_of word_of
    plan-short form r a = ap rows_of (zip-rule form ∙ zip_ends form (U 0) (tree_at L 1) (grove L first (N 0)) (N 1) (sym r) (sym a))

    pub plan-zip : (form : ℕ → Form) → true ≡ ready (N 1) (grove L first (N 0)) → false ≡ any_nil (N 1) (grove L first (N 0)) → rule_rows form l ≡ Some (zip_rows form l first)
    unfolding rows_of zip_cons zip_rows half_rows kid child nth swap
    plan-zip form r a =
        let args = grove L first (N 0) in
        let t1 : first ≡ 1 + size (tree_at L 1) = g in
        let whole = zip-whole in
        ap rows_of (zip-rule form ∙ zip-goes form (U 0) (tree_at L 1) args (N 1) (sym r) (sym a))
        ∙ ap Some (zip-flat (U 0) (elem_of (form (U 0))) (kid 1 (tree_at L 1)) (tree_at L 1) (kids_at 1 (N 1) args) (kids_at 2 (N 1) args))
        ∙ ap (λ (k : Tree). Some ((13 ∷ 0 ∷ U 0 ∷ 0 ∷ []) ∷ (8 ∷ N 0 ∷ elem_of (form (U 0)) ∷ 0 ∷ []) ∷ (map raw (flat (kid 1 k)) ++ (map raw (flats (kids_at 1 (N 1) args)) ++ ((8 ∷ N 0 ∷ U 0 ∷ 0 ∷ []) ∷ (map raw (flat (tree_at L 1)) ++ map raw (flats (kids_at 2 (N 1) args)))))))) zip_made
        ∙ rw (stands l exact 2 first zip-size (omega (arith, whole)), stands l exact 1 first t1 (omega (arith, whole))) refl

-- Argument by argument -------------------------------------------------------------------------------------------

pub low-is : (h : ℕ) → h % 2 ≡ 1 → low h ≡ true
unfolding low
low-is h e = eq-eqb (h % 2) 1 e

pub low-not : (h : ℕ) → (h % 2 ≡ 1 → ⊥) → low h ≡ false
unfolding low
low-not h e = ne_eqb (h % 2) 1 e

module _ (l : List (List ℕ)) (at h : ℕ) (i : at < length l) where
  abbrev T : Tree
  T = tree_at (map row_of l) at

  pub ready-unmasked : (h % 2 ≡ 1 → ⊥) → true ≡ cond (low h) (is_list T) true
  ready-unmasked p = rw (low-not h p) refl

  pub ready-list : h % 2 ≡ 1 → (b : Bool) → b ≡ (eqb (kind_no (row_no l at)) 12 ∨ᵇ eqb (kind_no (row_no l at)) 13) → b ≡ cond (low h) (is_list T) true
  unfolding is_list
  ready-list p b q = rw (low-is h p, kind-is l at i 12 (omega arith) (omega arith), kind-is l at i 13 (omega arith) (omega arith)) q

  pub nil-unmasked : (h % 2 ≡ 1 → ⊥) → false ≡ (low h ∧ᵇ is 12 T)
  unfolding ◌∧ᵇ◌
  nil-unmasked p = rw (low-not h p) refl

  pub nil-masked : h % 2 ≡ 1 → (b : Bool) → b ≡ eqb (kind_no (row_no l at)) 12 → b ≡ (low h ∧ᵇ is 12 T)
  unfolding ◌∧ᵇ◌
  nil-masked p b q = rw (low-is h p, kind-is l at i 12 (omega arith) (omega arith)) q

pub list-nil : (k : ℕ) → k ≡ 12 → true ≡ (eqb k 12 ∨ᵇ eqb k 13)
unfolding ◌∨ᵇ◌
list-nil k e = rw (eq-eqb k 12 e) refl

pub list-other : (k : ℕ) → (k ≡ 12 → ⊥) → eqb k 13 ≡ (eqb k 12 ∨ᵇ eqb k 13)
unfolding ◌∨ᵇ◌
list-other k e = rw (ne_eqb k 12 e) refl

-- one argument and the others
module _ (L : List Row) (h at n j : ℕ) (inside : j < n) where
  abbrev next : ℕ
  next = at + size (tree_at L at)

  pub ready_on : ready h (grove L at (n - j)) ≡ (cond (low h) (is_list (tree_at L at)) true ∧ᵇ ready (h / 2) (grove L next (n - (j + 1))))
  unfolding ready rest
  ready_on = let k : n - j ≡ suc (n - (j + 1)) = omega arith in rw (k, grove-more L at (n - (j + 1))) refl

  pub nil-on : any_nil h (grove L at (n - j)) ≡ ((low h ∧ᵇ is 12 (tree_at L at)) ∨ᵇ any_nil (h / 2) (grove L next (n - (j + 1))))
  unfolding any_nil rest
  nil-on = let k : n - j ≡ suc (n - (j + 1)) = omega arith in rw (k, grove-more L at (n - (j + 1))) refl

  pub ready-next : (e : ℕ) (b : Bool) → e ≡ next → b ≡ cond (low h) (is_list (tree_at L at)) true → b ≡ true → ready h (grove L at (n - j)) ≡ ready (h / 2) (grove L e (n - (j + 1)))
  unfolding ◌∧ᵇ◌
  ready-next e b q p t =
      ready_on
      ∙ ap (λ (x : Bool). x ∧ᵇ ready (h / 2) (grove L next (n - (j + 1)))) (sym p ∙ t)
      ∙ ap (λ (x : ℕ). ready (h / 2) (grove L x (n - (j + 1)))) (sym q)

  pub ready-stop : (b : Bool) → b ≡ cond (low h) (is_list (tree_at L at)) true → b ≡ false → ready h (grove L at (n - j)) ≡ false
  unfolding ◌∧ᵇ◌
  ready-stop b p t = ready_on ∙ ap (λ (x : Bool). x ∧ᵇ ready (h / 2) (grove L next (n - (j + 1)))) (sym p ∙ t)

  pub nil-next : (e : ℕ) (b : Bool) → e ≡ next → b ≡ (low h ∧ᵇ is 12 (tree_at L at)) → b ≡ false → any_nil h (grove L at (n - j)) ≡ any_nil (h / 2) (grove L e (n - (j + 1)))
  unfolding ◌∨ᵇ◌
  nil-next e b q p t =
      nil-on
      ∙ ap (λ (x : Bool). x ∨ᵇ any_nil (h / 2) (grove L next (n - (j + 1)))) (sym p ∙ t)
      ∙ ap (λ (x : ℕ). any_nil (h / 2) (grove L x (n - (j + 1)))) (sym q)

  pub nil-stop : (b : Bool) → b ≡ (low h ∧ᵇ is 12 (tree_at L at)) → b ≡ true → any_nil h (grove L at (n - j)) ≡ true
  unfolding ◌∨ᵇ◌
  nil-stop b p t = nil-on ∙ ap (λ (x : Bool). x ∨ᵇ any_nil (h / 2) (grove L next (n - (j + 1)))) (sym p ∙ t)

  -- what is written for it, and for the others
  pub kids-on : (i : ℕ) → flats (kids_at i h (grove L at (n - j))) ≡ flat (cond (low h) (kid i (tree_at L at)) (tree_at L at)) ++ flats (kids_at i (h / 2) (grove L next (n - (j + 1))))
  unfolding kids_at rest flat
  kids-on i = let k : n - j ≡ suc (n - (j + 1)) = omega arith in rw (k, grove-more L at (n - (j + 1))) refl

no-ready : (x : ℕ) (M : List Row) (i : ℕ) → ready x (grove M i 0) ≡ true
unfolding ready grove kids
no-ready x M i = refl

no-nil : (x : ℕ) (M : List Row) (i : ℕ) → any_nil x (grove M i 0) ≡ false
unfolding any_nil grove kids
no-nil x M i = refl

pub ready-over : (h n j : ℕ) (L : List Row) (at : ℕ) → n ≤ j → ready h (grove L at (n - j)) ≡ true
ready-over h n j L at k = let z : n - j ≡ 0 = omega arith in rw z (no-ready h L at)

pub nil-over : (h n j : ℕ) (L : List Row) (at : ℕ) → n ≤ j → any_nil h (grove L at (n - j)) ≡ false
nil-over h n j L at k = let z : n - j ≡ 0 = omega arith in rw z (no-nil h L at)
