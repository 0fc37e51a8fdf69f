-- Rules that keep a part of the rows, or make one row, or project a list. Assumes nothing.
use Prim.Native.Nat.{ℕ, zero, suc, ◌+◌, ◌-◌, ◌≤◌, ◌<◌}
use mathlib.Core.Path.{◌≡◌, refl, ap, sym, ◌∙◌}
use mathlib.Core.Bool.{true, false}
use mathlib.Core.List.{List, [], ◌∷◌, ◌++◌, map, append-nil, map-append}
use Rattle.std.specs.Prelude.{Option, None, Some}
use native.Mathlib.Omega.{arith}
use lib.Dec.{eqb}
use lib.ListN.{length}
use borrow.Author.Tests.{eq-eqb, ne_eqb}
use Rattle.layout.specs.declared.kinds.Kind.TheVariants as kind
use Rattle.meaning.specs.Types.{Form, elem_of}
use Rattle.meaning.specs.Terms.{str, file, truth, Head, lit, var, lambda, foreign, apply, future, ite, fix, nil, cons, isnil, zip, tuple, project, lproject, bind, arity, code, n_of, word_of, head_from, Tree, Forest, node, end, more, is, Row, flat, size, sizes, raw, row_of, kind_no, n_no, type_no, word_no, tree_of, tree_at, grove}
use Rattle.meaning.specs.Steps.{nth, child, kid, swap, become, if_step, isnil_step, project_step, lproject_step, contract}
use Rattle.terms.proofs.Scan.{grove-none, grove-size, size-some}
use Rattle.terms.proofs.ByNumber.{kind-told}
use Rattle.put.proofs.Meets.{stands}
use Rattle.reduce.specs.Rule.{quiet, rule_of}
use Rattle.reduce.specs.Plan.{rows_of, row_no, pair_rows, Plans}
use Rattle.reduce.specs.declared.Plan.TheVariants.{Stays, Part, Leaf, Pair}
use Rattle.reduce.proofs.Roots.{whole_in, grove-one, grove-two, grove-three, nth-grove, nth-none, nth-zero, grove-part, kind-is, made_as, sized-as, root, root-size}

-- Steps by tests -------------------------------------------------------------------------------------------------

module _ (c a b : Tree) where
  pub if-then : is 3 c ≡ true → quiet (if_step c a b) ≡ Some a
  unfolding if_step quiet
  if-then e = rw e refl

  pub if-else : is 3 c ≡ false → is 4 c ≡ true → quiet (if_step c a b) ≡ Some b
  unfolding if_step quiet
  if-else e g = rw (e, g) refl

  if_none : is 3 c ≡ false → is 4 c ≡ false → quiet (if_step c a b) ≡ None
  unfolding if_step quiet
  if_none e g = rw (e, g) refl

module _ (u : ℕ) (c : Tree) where
  isnil-nil : is 12 c ≡ true → quiet (isnil_step u c) ≡ Some (node (lit (truth true)) u end)
  unfolding isnil_step quiet
  isnil-nil e = rw e refl

  isnil-cons : is 12 c ≡ false → is 13 c ≡ true → quiet (isnil_step u c) ≡ Some (node (lit (truth false)) u end)
  unfolding isnil_step quiet
  isnil-cons e g = rw (e, g) refl

  isnil-none : is 12 c ≡ false → is 13 c ≡ false → quiet (isnil_step u c) ≡ None
  unfolding isnil_step quiet
  isnil-none e g = rw (e, g) refl

quiet-become : (o : Option Tree) → quiet (become o) ≡ o
unfolding quiet become
quiet-become None = refl
quiet-become (Some t) = refl

module _ (i : ℕ) (c : Tree) where
  pub project-tuple : is 16 c ≡ true → quiet (project_step i c) ≡ child i c
  unfolding project_step
  project-tuple e = rw e (quiet-become (child i c))

  project-none : is 16 c ≡ false → quiet (project_step i c) ≡ None
  unfolding project_step quiet
  project-none e = rw e refl

module _ (form : ℕ → Form) (i u : ℕ) (c : Tree) where
  lproject-nil : is 12 c ≡ true → quiet (lproject_step form i u c) ≡ Some (node nil u end)
  unfolding lproject_step quiet
  lproject-nil e = rw e refl

  lproject-cons : is 12 c ≡ false → is 13 c ≡ true
      → quiet (lproject_step form i u c) ≡ Some (node cons u (more (node (project i) (elem_of (form u)) (more (kid 1 c) end)) (more (node (lproject i) u (more (kid 2 c) end)) end)))
  unfolding lproject_step quiet
  lproject-cons e g = rw (e, g) refl

  lproject-none : is 12 c ≡ false → is 13 c ≡ false → quiet (lproject_step form i u c) ≡ None
  unfolding lproject_step quiet
  lproject-none e g = rw (e, g) refl

pair-rows : (u elem i : ℕ) (a b : Tree)
    → map raw (flat (node cons u (more (node (project i) elem (more a end)) (more (node (lproject i) u (more b end)) end))))
    ≡ (13 ∷ 0 ∷ u ∷ 0 ∷ []) ∷ (17 ∷ i ∷ elem ∷ 0 ∷ []) ∷ (map raw (flat a) ++ ((18 ∷ i ∷ u ∷ 0 ∷ []) ∷ map raw (flat b)))
unfolding flat raw code n_of word_of
pair-rows u elem i a b =
    rw (append-nil (flat a), append-nil (flat b), append-nil (flat b))
    (ap (λ (x : List (List ℕ)). (13 ∷ 0 ∷ u ∷ 0 ∷ []) ∷ (17 ∷ i ∷ elem ∷ 0 ∷ []) ∷ x) (map-append raw (flat a) (record { head = lproject i; type = u } ∷ flat b)))

-- no rule but these reduces
module _ (form : ℕ → Form) (u : ℕ) where
  rest-stays : (h : Head) (f : Forest (arity h)) → eqb (code h) 8 ≡ false → eqb (code h) 10 ≡ false → eqb (code h) 11 ≡ false → eqb (code h) 14 ≡ false → eqb (code h) 17 ≡ false → eqb (code h) 18 ≡ false → eqb (code h) 19 ≡ false
      → rule_of form (node h u f) ≡ None
  unfolding rule_of contract quiet code
  rest-stays (lit (str w)) f a b c d e g i = refl
  rest-stays (lit (file w)) f a b c d e g i = refl
  rest-stays (lit (truth x)) f a b c d e g i = refl
  rest-stays (var x) f a b c d e g i = refl
  rest-stays lambda f a b c d e g i = refl
  rest-stays (foreign w) f a b c d e g i = refl
  rest-stays (apply n) f a b c d e g i = let z : ◌≡◌ {A = ℕ} 0 1 = cc in absurd (omega arith)
  rest-stays (future k) f a b c d e g i = refl
  rest-stays ite f a b c d e g i = let z : ◌≡◌ {A = ℕ} 0 1 = cc in absurd (omega arith)
  rest-stays fix f a b c d e g i = let z : ◌≡◌ {A = ℕ} 0 1 = cc in absurd (omega arith)
  rest-stays nil f a b c d e g i = refl
  rest-stays cons f a b c d e g i = refl
  rest-stays isnil f a b c d e g i = let z : ◌≡◌ {A = ℕ} 0 1 = cc in absurd (omega arith)
  rest-stays (zip m) f a b c d e g i = refl
  rest-stays (tuple n) f a b c d e g i = refl
  rest-stays (project j) f a b c d e g i = let z : ◌≡◌ {A = ℕ} 0 1 = cc in absurd (omega arith)
  rest-stays (lproject j) f a b c d e g i = let z : ◌≡◌ {A = ℕ} 0 1 = cc in absurd (omega arith)
  rest-stays (bind x) f a b c d e g i = let z : ◌≡◌ {A = ℕ} 0 1 = cc in absurd (omega arith)

-- Plans by rows --------------------------------------------------------------------------------------------------

module _ (l : List (List ℕ)) (exact : map raw (map row_of l) ≡ l) (one : size (tree_of (map row_of l)) ≡ length l) where
  abbrev L : List Row
  L = map row_of l

  abbrev K : ℕ → ℕ
  K i = kind_no (row_no l i)

  abbrev N : ℕ → ℕ
  N i = n_no (row_no l i)

  abbrev U : ℕ → ℕ
  U i = type_no (row_no l i)

  abbrev W : ℕ → ℕ
  W i = word_no (row_no l i)

  pub plan-rest : (form : ℕ → Form) → (K 0 ≡ 8 → ⊥) → (K 0 ≡ 10 → ⊥) → (K 0 ≡ 11 → ⊥) → (K 0 ≡ 14 → ⊥) → (K 0 ≡ 17 → ⊥) → (K 0 ≡ 18 → ⊥) → (K 0 ≡ 19 → ⊥) → Plans form l Stays
  unfolding Plans rows_of
  plan-rest form a b c d e f g =
      let h = head_from (K 0) (N 0) (W 0) in
      let t : (x : ℕ) → 2 ≤ x → x ≤ 19 → (K 0 ≡ x → ⊥) → eqb (code h) x ≡ false = λ x p q r. kind-told (K 0) (N 0) (W 0) x p q ∙ ne_eqb (K 0) x r in
      ap (λ (t : Tree). rows_of (rule_of form t)) (root l (whole_in one) h refl)
      ∙ ap rows_of (rest-stays form (U 0) h (grove L 1 (arity h)) (t 8 (omega arith) (omega arith) a) (t 10 (omega arith) (omega arith) b) (t 11 (omega arith) (omega arith) c) (t 14 (omega arith) (omega arith) d) (t 17 (omega arith) (omega arith) e) (t 18 (omega arith) (omega arith) f) (t 19 (omega arith) (omega arith) g))

  -- If
  module _ (e : K 0 ≡ 10) where
    head-if : head_from (K 0) (N 0) (W 0) ≡ ite
    unfolding head_from
    head-if = ap (λ (k : ℕ). head_from k (N 0) (W 0)) e

    abbrev A : ℕ
    A = 1 + size (tree_at L 1)

    if-rule : (form : ℕ → Form) → rule_of form (tree_of L) ≡ quiet (if_step (tree_at L 1) (tree_at L A) (tree_at L (A + size (tree_at L A))))
    unfolding rule_of contract
    if-rule form = ap (rule_of form) (root l (whole_in one) ite head-if ∙ ap (node ite (U 0)) (grove-three L 1))

    if-size : length l ≡ A + size (tree_at L A) + size (tree_at L (A + size (tree_at L A)))
    if-size =
        omega (arith, root-size l (whole_in one) ite head-if, grove-size L 1 2, grove-size L A 1, grove-size L (A + size (tree_at L A)) 0, grove-none L (A + size (tree_at L A) + size (tree_at L (A + size (tree_at L A)))))

    pub if-more : 1 < length l
    if-more = omega (arith, if-size, size-some (tree_at L 1), size-some (tree_at L A))

    leaf-size : (h : Head) → head_from (K 1) (N 1) (W 1) ≡ h → arity h ≡ 0 → A ≡ 2
    leaf-size h q z = omega (arith, sized-as l 1 if-more h q, ap (λ (n : ℕ). sizes (grove L 2 n)) z, grove-none L 2)

    true-size : K 1 ≡ 3 → A ≡ 2
    unfolding head_from
    true-size q = leaf-size (lit (truth true)) (ap (λ (k : ℕ). head_from k (N 1) (W 1)) q) refl

    false-size : K 1 ≡ 4 → A ≡ 2
    unfolding head_from
    false-size q = leaf-size (lit (truth false)) (ap (λ (k : ℕ). head_from k (N 1) (W 1)) q) refl

    pub plan-then : (form : ℕ → Form) → (to : ℕ) → K 1 ≡ 3 → to ≡ 2 + size (tree_at L 2) → Plans form l (Part 2 to)
    unfolding Plans rows_of
    plan-then form to q g =
        let z = true-size q in
        let i : is 3 (tree_at L 1) ≡ true = kind-is l 1 if-more 3 (omega arith) (omega arith) ∙ eq-eqb (K 1) 3 q in
        let s : length l ≡ 2 + size (tree_at L 2) + size (tree_at L (2 + size (tree_at L 2))) = rw z at if-size in
        (ap rows_of (if-rule form ∙ if-then (tree_at L 1) (tree_at L A) (tree_at L (A + size (tree_at L A))) i) ∙ ap (λ (x : ℕ). Some (map raw (flat (tree_at L x)))) z ∙ ap Some (sym (stands l exact 2 to g (omega (arith, s, g)))), omega (arith, g), omega (arith, s, g))

    pub plan-else : (form : ℕ → Form) → (from to : ℕ) → K 1 ≡ 4 → from ≡ 2 + size (tree_at L 2) → to ≡ length l → Plans form l (Part from to)
    unfolding Plans rows_of
    plan-else form from to q g h =
        let z = false-size q in
        let i : is 3 (tree_at L 1) ≡ false = kind-is l 1 if-more 3 (omega arith) (omega arith) ∙ ne_eqb (K 1) 3 (λ p. omega (arith, p, q)) in
        let j : is 4 (tree_at L 1) ≡ true = kind-is l 1 if-more 4 (omega arith) (omega arith) ∙ eq-eqb (K 1) 4 q in
        let s : length l ≡ 2 + size (tree_at L 2) + size (tree_at L (2 + size (tree_at L 2))) = rw z at if-size in
        let b : A + size (tree_at L A) ≡ from = ap (λ (x : ℕ). x + size (tree_at L x)) z ∙ sym g in
        let t : to ≡ from + size (tree_at L from) = h ∙ s ∙ ap (λ (x : ℕ). x + size (tree_at L x)) (sym g) in
        (ap rows_of (if-rule form ∙ if-else (tree_at L 1) (tree_at L A) (tree_at L (A + size (tree_at L A))) i j) ∙ ap (λ (x : ℕ). Some (map raw (flat (tree_at L x)))) b ∙ ap Some (sym (stands l exact from to t (omega (arith, h)))), omega (arith, t), omega (arith, h))

    pub plan-unless : (form : ℕ → Form) → (K 1 ≡ 3 → ⊥) → (K 1 ≡ 4 → ⊥) → Plans form l Stays
    unfolding Plans rows_of
    plan-unless form p q =
        let i : is 3 (tree_at L 1) ≡ false = kind-is l 1 if-more 3 (omega arith) (omega arith) ∙ ne_eqb (K 1) 3 p in
        let j : is 4 (tree_at L 1) ≡ false = kind-is l 1 if-more 4 (omega arith) (omega arith) ∙ ne_eqb (K 1) 4 q in
        ap rows_of (if-rule form ∙ if_none (tree_at L 1) (tree_at L A) (tree_at L (A + size (tree_at L A))) i j)

    -- the tree behind the condition ends within the rows
    pub true-in : K 1 ≡ 3 → 2 + size (tree_at L 2) ≤ length l
    true-in q = omega (arith, rw (true-size q) at if-size)

    pub false-in : K 1 ≡ 4 → 2 + size (tree_at L 2) ≤ length l
    false-in q = omega (arith, rw (false-size q) at if-size)

  -- rows with one tree
  module _ (g : Head) (a : arity g ≡ 1) (e : head_from (K 0) (N 0) (W 0) ≡ g) where
    one_size : length l ≡ 1 + size (tree_at L 1)
    one_size = omega (arith, root-size l (whole_in one) g e, ap (λ (n : ℕ). sizes (grove L 1 n)) a, grove-size L 1 0, grove-none L (1 + size (tree_at L 1)))

    one_more : 1 < length l
    one_more = omega (arith, one_size, size-some (tree_at L 1))

  -- Isnil
  module _ (e : K 0 ≡ 14) where
    head-isnil : head_from (K 0) (N 0) (W 0) ≡ isnil
    unfolding head_from
    head-isnil = ap (λ (k : ℕ). head_from k (N 0) (W 0)) e

    isnil-rule : (form : ℕ → Form) → rule_of form (tree_of L) ≡ quiet (isnil_step (U 0) (tree_at L 1))
    unfolding rule_of contract
    isnil-rule form = ap (rule_of form) (root l (whole_in one) isnil head-isnil ∙ ap (node isnil (U 0)) (grove-one L 1))

    pub isnil-more : 1 < length l
    isnil-more = one_more isnil refl head-isnil

    pub plan-yes : (form : ℕ → Form) → K 1 ≡ 12 → Plans form l (Leaf kind.True)
    unfolding Plans rows_of flat raw code n_of word_of
    plan-yes form q = ap rows_of (isnil-rule form ∙ isnil-nil (U 0) (tree_at L 1) (kind-is l 1 isnil-more 12 (omega arith) (omega arith) ∙ eq-eqb (K 1) 12 q))

    pub plan-no : (form : ℕ → Form) → K 1 ≡ 13 → Plans form l (Leaf kind.False)
    unfolding Plans rows_of flat raw code n_of word_of
    plan-no form q =
        ap rows_of (isnil-rule form ∙ isnil-cons (U 0) (tree_at L 1) (kind-is l 1 isnil-more 12 (omega arith) (omega arith) ∙ ne_eqb (K 1) 12 (λ p. omega (arith, p, q))) (kind-is l 1 isnil-more 13 (omega arith) (omega arith) ∙ eq-eqb (K 1) 13 q))

    pub plan-unknown : (form : ℕ → Form) → (K 1 ≡ 12 → ⊥) → (K 1 ≡ 13 → ⊥) → Plans form l Stays
    unfolding Plans rows_of
    plan-unknown form p q =
        ap rows_of (isnil-rule form ∙ isnil-none (U 0) (tree_at L 1) (kind-is l 1 isnil-more 12 (omega arith) (omega arith) ∙ ne_eqb (K 1) 12 p) (kind-is l 1 isnil-more 13 (omega arith) (omega arith) ∙ ne_eqb (K 1) 13 q))

  -- Project
  module _ (e : K 0 ≡ 17) where
    head-project : head_from (K 0) (N 0) (W 0) ≡ project (N 0)
    unfolding head_from
    head-project = ap (λ (k : ℕ). head_from k (N 0) (W 0)) e

    project-rule : (form : ℕ → Form) → rule_of form (tree_of L) ≡ quiet (project_step (N 0) (tree_at L 1))
    unfolding rule_of contract
    project-rule form = ap (rule_of form) (root l (whole_in one) (project (N 0)) head-project ∙ ap (node (project (N 0)) (U 0)) (grove-one L 1))

    pub project-more : 1 < length l
    project-more = one_more (project (N 0)) refl head-project

    pub plan-no-tuple : (form : ℕ → Form) → (K 1 ≡ 16 → ⊥) → Plans form l Stays
    unfolding Plans rows_of
    plan-no-tuple form q = ap rows_of (project-rule form ∙ project-none (N 0) (tree_at L 1) (kind-is l 1 project-more 16 (omega arith) (omega arith) ∙ ne_eqb (K 1) 16 q))

    module _ (q : K 1 ≡ 16) where
      head-tuple : head_from (K 1) (N 1) (W 1) ≡ tuple (N 1)
      unfolding head_from
      head-tuple = ap (λ (k : ℕ). head_from k (N 1) (W 1)) q

      tuple-rule : (form : ℕ → Form) → rule_of form (tree_of L) ≡ nth (N 0) (grove L 2 (N 1))
      unfolding child
      tuple-rule form =
          project-rule form
          ∙ project-tuple (N 0) (tree_at L 1) (kind-is l 1 project-more 16 (omega arith) (omega arith) ∙ eq-eqb (K 1) 16 q)
          ∙ ap (child (N 0)) (made_as l 1 project-more (tuple (N 1)) head-tuple)

      tuple-size : length l ≡ 2 + sizes (grove L 2 (N 1))
      tuple-size = omega (arith, one_size (project (N 0)) refl head-project, sized-as l 1 project-more (tuple (N 1)) head-tuple)

      pub plan-first : (form : ℕ → Form) → N 0 ≡ 0 → Plans form l Stays
      unfolding Plans rows_of
      plan-first form z = ap rows_of (tuple-rule form ∙ ap (λ (i : ℕ). nth i (grove L 2 (N 1))) z ∙ nth-zero (grove L 2 (N 1)))

      pub plan-beyond : (form : ℕ → Form) → N 1 < N 0 → Plans form l Stays
      unfolding Plans rows_of
      plan-beyond form h = ap rows_of (tuple-rule form ∙ nth-none (grove L 2 (N 1)) (N 0) h)

      module _ (some-place : N 0 ≡ 0 → ⊥) (inside : N 0 ≤ N 1) where
        element : sizes (grove L 2 (N 0 - 1)) + size (tree_at L (2 + sizes (grove L 2 (N 0 - 1)))) ≤ sizes (grove L 2 (N 1))
        element = grove-part L (N 0 - 1) 2 (N 1) (positive (N 0) (N 1) some-place inside)
          where
            positive : (i n : ℕ) → (i ≡ 0 → ⊥) → i ≤ n → i - 1 < n
            positive zero n z h = absurd (z refl)
            positive (suc i) n z h = omega arith

        -- the elements before it, and it, end within the rows
        pub before-in : 2 + sizes (grove L 2 (N 0 - 1)) ≤ length l
        before-in = omega (arith, element, tuple-size)

        pub element-in : (at : ℕ) → at ≡ 2 + sizes (grove L 2 (N 0 - 1)) → at + size (tree_at L at) ≤ length l
        element-in at g = rw g (omega (arith, element, tuple-size))

        pub plan-element : (form : ℕ → Form) → (at to : ℕ) → at ≡ 2 + sizes (grove L 2 (N 0 - 1)) → to ≡ at + size (tree_at L at) → Plans form l (Part at to)
        unfolding Plans rows_of
        plan-element form at to g h =
            let r = element-in at g in (
              ap rows_of (tuple-rule form ∙ found (N 0) (N 1) some-place inside) ∙ ap (λ (x : ℕ). Some (map raw (flat (tree_at L x)))) (sym g) ∙ ap Some (sym (stands l exact at to h (omega (arith, h, r)))),
              omega (arith, h),
              omega (arith, h, r),
            )
          where
            found : (i n : ℕ) → (i ≡ 0 → ⊥) → i ≤ n → nth i (grove L 2 n) ≡ Some (tree_at L (2 + sizes (grove L 2 (i - 1))))
            found zero n z h = absurd (z refl)
            found (suc i) n z h = let m : suc i - 1 ≡ i = omega arith in rw m (nth-grove L i 2 n (omega arith))

  -- List project
  module _ (e : K 0 ≡ 18) where
    head-lproject : head_from (K 0) (N 0) (W 0) ≡ lproject (N 0)
    unfolding head_from
    head-lproject = ap (λ (k : ℕ). head_from k (N 0) (W 0)) e

    lproject-rule : (form : ℕ → Form) → rule_of form (tree_of L) ≡ quiet (lproject_step form (N 0) (U 0) (tree_at L 1))
    unfolding rule_of contract
    lproject-rule form = ap (rule_of form) (root l (whole_in one) (lproject (N 0)) head-lproject ∙ ap (node (lproject (N 0)) (U 0)) (grove-one L 1))

    pub lproject-more : 1 < length l
    lproject-more = one_more (lproject (N 0)) refl head-lproject

    pub plan-empty : (form : ℕ → Form) → K 1 ≡ 12 → Plans form l (Leaf kind.Nil)
    unfolding Plans rows_of flat raw code n_of word_of
    plan-empty form q = ap rows_of (lproject-rule form ∙ lproject-nil form (N 0) (U 0) (tree_at L 1) (kind-is l 1 lproject-more 12 (omega arith) (omega arith) ∙ eq-eqb (K 1) 12 q))

    pub plan-no-list : (form : ℕ → Form) → (K 1 ≡ 12 → ⊥) → (K 1 ≡ 13 → ⊥) → Plans form l Stays
    unfolding Plans rows_of
    plan-no-list form p q =
        ap rows_of (lproject-rule form ∙ lproject-none form (N 0) (U 0) (tree_at L 1) (kind-is l 1 lproject-more 12 (omega arith) (omega arith) ∙ ne_eqb (K 1) 12 p) (kind-is l 1 lproject-more 13 (omega arith) (omega arith) ∙ ne_eqb (K 1) 13 q))

    module _ (q : K 1 ≡ 13) where
      head-cons : head_from (K 1) (N 1) (W 1) ≡ cons
      unfolding head_from
      head-cons = ap (λ (k : ℕ). head_from k (N 1) (W 1)) q

      cons-made : tree_at L 1 ≡ node cons (U 1) (more (tree_at L 2) (more (tree_at L (2 + size (tree_at L 2))) end))
      cons-made = made_as l 1 lproject-more cons head-cons ∙ ap (node cons (U 1)) (grove-two L 2)

      cons-size : length l ≡ 2 + size (tree_at L 2) + size (tree_at L (2 + size (tree_at L 2)))
      cons-size =
          omega (arith, one_size (lproject (N 0)) refl head-lproject, sized-as l 1 lproject-more cons head-cons, grove-size L 2 1, grove-size L (2 + size (tree_at L 2)) 0, grove-none L (2 + size (tree_at L 2) + size (tree_at L (2 + size (tree_at L 2)))))

      pub head_in : 2 + size (tree_at L 2) ≤ length l
      head_in = omega (arith, cons-size)

      pub plan-pair : (form : ℕ → Form) → (tail : ℕ) → tail ≡ 2 + size (tree_at L 2) → Plans form l (Pair tail)
      unfolding Plans rows_of pair_rows kid child nth swap
      plan-pair form tail g =
          let t : length l ≡ tail + size (tree_at L tail) = cons-size ∙ ap (λ (x : ℕ). x + size (tree_at L x)) (sym g) in
          let i : is 12 (tree_at L 1) ≡ false = kind-is l 1 lproject-more 12 (omega arith) (omega arith) ∙ ne_eqb (K 1) 12 (λ p. omega (arith, p, q)) in
          let j : is 13 (tree_at L 1) ≡ true = kind-is l 1 lproject-more 13 (omega arith) (omega arith) ∙ eq-eqb (K 1) 13 q in
          let m : tree_at L 1 ≡ node cons (U 1) (more (tree_at L 2) (more (tree_at L tail) end)) = cons-made ∙ ap (λ (x : ℕ). node cons (U 1) (more (tree_at L 2) (more (tree_at L x) end))) (sym g) in (
            ap rows_of (lproject-rule form ∙ lproject-cons form (N 0) (U 0) (tree_at L 1) i j)
                ∙ ap (λ (c : Tree). Some (map raw (flat (node cons (U 0) (more (node (project (N 0)) (elem_of (form (U 0))) (more (kid 1 c) end)) (more (node (lproject (N 0)) (U 0) (more (kid 2 c) end)) end)))))) m
                ∙ ap Some (pair-rows (U 0) (elem_of (form (U 0))) (N 0) (tree_at L 2) (tree_at L tail))
                ∙ rw (stands l exact 2 tail g (omega (arith, t)), stands l exact tail (length l) t (omega arith)) refl,
            omega (arith, g),
            omega (arith, t),
          )
