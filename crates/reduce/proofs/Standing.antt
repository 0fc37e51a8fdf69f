-- Rules that make the end of their tree, told by rows that may go on behind it. Assumes nothing.
use Prim.Native.Nat.{ℕ, zero, suc, ◌+◌, ◌≤◌, ◌<◌}
use mathlib.Core.Path.{◌≡◌, refl, ap, sym, ◌∙◌}
use mathlib.Core.Bool.{Bool, true, false, cond}
use mathlib.Core.List.{List, [], ◌∷◌, ◌++◌, map, append-nil}
use Rattle.std.specs.Prelude.{Option, None, Some}
use native.Mathlib.Omega.{arith}
use lib.Dec.{eqb}
use lib.ListN.{length, drop}
use lib.Seq.{drop-drop, drop-append_seam}
use borrow.Author.Tests.{eq-eqb, ne_eqb}
use Rattle.meaning.specs.Types.{Param, Form, params, find}
use Rattle.meaning.specs.Terms.{truth, Head, lit, lambda, apply, ite, tuple, project, arity, code, word_of, head_from, Tree, Forest, node, end, more, head_of, ty_of, is, Row, flat, flats, size, sizes, row_of, kind_no, n_no, type_no, word_no, tree_of, tree_at, grove}
use Rattle.meaning.specs.Steps.{Sub, veil, hide, hit, swap, assign, put, puts, nth, child, kid, project_step, apply_step, contract}
use Rattle.meaning.specs.Typing.{tys, scope}
use Rattle.meaning.proofs.Trees.Parse.{length-flat, tree-at-zero, grove-more}
use Rattle.terms.proofs.Scan.{grove-none, grove-size, size-some}
use Rattle.reduce.specs.Rule.{quiet, rule_of}
use Rattle.reduce.specs.Plan.{row_no}
use Rattle.reduce.specs.Behind.{StandsBehind}
use Rattle.reduce.proofs.Roots.{grove-one, grove-three, nth-grove, grove-last, grove-less, kind-is, made_as, sized-as}
use Rattle.reduce.proofs.Kept.{if-else, project-tuple}
use Rattle.reduce.proofs.Given.{call-goes}

-- WHERE NOTHING IS PUT the tree stays as it is
hit-none : (σ : Sub) → ((x : ℕ) → σ x ≡ None) → (h : Head) → hit σ h ≡ None
unfolding hit
hit-none σ e h = rw (e (word_of h)) (either (eqb (code h) 5))
  where
    either : (b : Bool) → cond {A = Option Tree} b None None ≡ None
    either true = refl
    either false = refl

hide-none : (ps : List Param) (σ : Sub) → ((x : ℕ) → σ x ≡ None) → (x : ℕ) → hide ps σ x ≡ None
unfolding hide veil
hide-none ps σ e x = rw (e x) (veiled (find ps x))
  where
    veiled : (o : Option ℕ) → veil o None ≡ None
    veiled None = refl
    veiled (Some t) = refl

module _ (form : ℕ → Form) where
  mutual
    unfolding put swap

    put-none : (t : Tree) (σ : Sub) → ((x : ℕ) → σ x ≡ None) → put form σ t ≡ t
    put-none (node h ty f) σ e = rw (hit-none σ e h) (ap (node h ty) (puts_none f (scope form h ty (tys f)) σ e))

    puts_none : {n : ℕ} (f : Forest n) (s : ℕ → List Param) (σ : Sub) → ((x : ℕ) → σ x ≡ None) → puts form s σ f ≡ f
    puts_none end s σ e = refl
    puts_none (more t f) s σ e = rw (put-none t (hide (s 0) σ) (hide-none (s 0) σ e), puts_none f (λ i. s (suc i)) σ e) refl

assign-none : (ps : List Param) (x : ℕ) → assign ps end x ≡ None
unfolding assign
assign-none [] x = refl
assign-none (p ∷ ps) x = refl

-- THE LAST OF SOME TREES stands behind the others
last-stands : (l : List Row) (j at : ℕ) → drop (sizes (grove l at j)) (flats (grove l at (suc j))) ≡ flat (tree_at l (at + sizes (grove l at j)))
unfolding flat
last-stands l zero at =
    let z : at + 0 ≡ at = omega arith in
    rw (grove-none l at, grove-one l at, z) (append-nil (flat (tree_at l at)))
last-stands l (suc j) at =
    let t = tree_at l at in
    let s = size t in
    let e : sizes (grove l at (suc j)) ≡ length (flat t) + sizes (grove l (at + s) j) = omega (arith, grove-size l at j, length-flat t) in
    let w : at + sizes (grove l at (suc j)) ≡ at + s + sizes (grove l (at + s) j) = omega (arith, grove-size l at j) in
    let d : drop (length (flat t) + sizes (grove l (at + s) j)) (flat t ++ flats (grove l (at + s) (suc j))) ≡ drop (sizes (grove l (at + s) j)) (flats (grove l (at + s) (suc j))) =
    sym (drop-drop (sizes (grove l (at + s) j)) (length (flat t)) (flat t ++ flats (grove l (at + s) (suc j)))) ∙ ap (drop (sizes (grove l (at + s) j))) (drop-append_seam (flat t) (flats (grove l (at + s) (suc j)))) in
    rw (w, e, grove-more l at (suc j)) (d ∙ last-stands l j (at + s))

-- the rows of a tree behind its first row
below-first : (h : Head) (u : ℕ) (f : Forest (arity h)) (n : ℕ) → drop (1 + n) (flat (node h u f)) ≡ drop n (flats f)
unfolding flat
below-first h u f n = let e : 1 + n ≡ suc n = omega arith in rw e refl

only-tree : (t : Tree) → flats (more t end) ≡ flat t
unfolding flat
only-tree t = append-nil (flat t)

module _ (l : List (List ℕ)) (inside : size (tree_of (map row_of l)) ≤ length l) where
  abbrev L : List Row
  L = map row_of l

  abbrev K : ℕ → ℕ
  K i = kind_no (row_no l i)

  abbrev N : ℕ → ℕ
  N i = n_no (row_no l i)

  abbrev U : ℕ → ℕ
  U i = type_no (row_no l i)

  abbrev W : ℕ → ℕ
  W i = word_no (row_no l i)

  pub first-there : 0 < length l
  first-there = omega (arith, inside, size-some (tree_of L))

  module _ (g : Head) (e : head_from (K 0) (N 0) (W 0) ≡ g) where
    first-tree : tree_of L ≡ node g (U 0) (grove L 1 (arity g))
    first-tree = sym (tree-at-zero L) ∙ made_as l 0 first-there g e

    first-size : 1 + sizes (grove L 1 (arity g)) ≤ length l
    first-size = omega (arith, inside, ap size (sym (tree-at-zero L)), sized-as l 0 first-there g e)

    second-there : (n : ℕ) → arity g ≡ suc n → 1 + size (tree_at L 1) ≤ length l
    second-there n a = omega (arith, first-size, ap (λ (i : ℕ). sizes (grove L 1 i)) a, grove-size L 1 n)

  -- A call of a native function without arguments
  module _ (e : K 0 ≡ 8) where
    head-call : head_from (K 0) (N 0) (W 0) ≡ apply (N 0)
    unfolding head_from
    head-call = ap (λ (k : ℕ). head_from k (N 0) (W 0)) e

    pub call-second : 1 < length l
    call-second = omega (arith, second-there (apply (N 0)) head-call (N 0) refl, size-some (tree_at L 1))

    pub body-stands : N 0 ≡ 0 → K 1 ≡ 6 → (form : ℕ → Form) → StandsBehind form (tree_of L) 2
    unfolding rule_of contract head_from kid child nth swap is code head_of ty_of flat
    body-stands z q form =
        let b = tree_at L 2 in
        let c : tree_at L 1 ≡ node lambda (U 1) (more b end) = made_as l 1 call-second lambda (ap (λ (k : ℕ). head_from k (N 1) (W 1)) q) ∙ ap (node lambda (U 1)) (grove-one L 2) in
        let t : tree_of L ≡ node (apply 0) (U 0) (more (node lambda (U 1) (more b end)) end) = first-tree (apply 0) (head-call ∙ ap apply z) ∙ ap (node (apply 0) (U 0)) (grove-one L 1 ∙ ap (λ (x : Tree). more x end) c) in
        let r : quiet (apply_step form 0 (U 0) (node lambda (U 1) (more b end)) end) ≡ Some b = call-goes form (U 0) (node lambda (U 1) (more b end)) end refl ∙ ap Some (put-none form b (assign (params (form (U 1))) end) (assign-none (params (form (U 1))))) in
        record {
          made = b;
          rule = ap (rule_of form) t ∙ r;
          rows = sym (ap (λ (x : Tree). drop 2 (flat x)) t ∙ ap (drop 1) (only-tree (node lambda (U 1) (more b end))) ∙ only-tree b);
        }

  -- If
  module _ (e : K 0 ≡ 10) where
    head-if : head_from (K 0) (N 0) (W 0) ≡ ite
    unfolding head_from
    head-if = ap (λ (k : ℕ). head_from k (N 0) (W 0)) e

    pub if-second : 1 < length l
    if-second = omega (arith, second-there ite head-if 2 refl, size-some (tree_at L 1))

    module _ (q : K 1 ≡ 4) where
      false-size : size (tree_at L 1) ≡ 1
      unfolding head_from
      false-size = omega (arith, sized-as l 1 if-second (lit (truth false)) (ap (λ (k : ℕ). head_from k (N 1) (W 1)) q), grove-none L 2)

      two_size : 1 + sizes (grove L 1 2) ≡ 2 + size (tree_at L 2)
      two_size =
          let z : 1 + size (tree_at L 1) ≡ 2 = omega (arith, false-size) in
          let g : sizes (grove L (1 + size (tree_at L 1)) 1) ≡ sizes (grove L 2 1) = ap (λ (i : ℕ). sizes (grove L i 1)) z in
          omega (arith, grove-size L 1 1, g, grove-size L 2 0, grove-none L (2 + size (tree_at L 2)), false-size)

      pub then-inside : 2 + size (tree_at L 2) ≤ length l
      then-inside = omega (arith, two_size, first-size ite head-if, grove-less L 1 2 3 (omega arith))

      pub else-stands : (n : ℕ) → n ≡ 2 + size (tree_at L 2) → (form : ℕ → Form) → StandsBehind form (tree_of L) n
      unfolding rule_of contract
      else-stands n g form =
          let A = 1 + size (tree_at L 1) in
          let b = tree_at L (A + size (tree_at L A)) in
          let i : is 3 (tree_at L 1) ≡ false = kind-is l 1 if-second 3 (omega arith) (omega arith) ∙ ne_eqb (K 1) 3 (λ p. omega (arith, p, q)) in
          let j : is 4 (tree_at L 1) ≡ true = kind-is l 1 if-second 4 (omega arith) (omega arith) ∙ eq-eqb (K 1) 4 q in
          let t = first-tree ite head-if in
          let w : A + size (tree_at L A) ≡ 1 + sizes (grove L 1 2) = omega (arith, grove-size L 1 1, grove-size L A 0, grove-none L (A + size (tree_at L A))) in
          let m : n ≡ 1 + sizes (grove L 1 2) = g ∙ sym two_size in
          record {
            made = b;
            rule = ap (rule_of form) (t ∙ ap (node ite (U 0)) (grove-three L 1)) ∙ if-else (tree_at L 1) (tree_at L A) b i j;
            rows = ap (λ (x : ℕ). flat (tree_at L x)) w ∙ sym (last-stands L 2 1) ∙ sym (below-first ite (U 0) (grove L 1 3) (sizes (grove L 1 2))) ∙ ap (λ (x : ℕ). drop x (flat (node ite (U 0) (grove L 1 3)))) (sym m) ∙ ap (λ (x : Tree). drop n (flat x)) (sym t);
          }

  -- Project
  module _ (e : K 0 ≡ 17) where
    head-project : head_from (K 0) (N 0) (W 0) ≡ project (N 0)
    unfolding head_from
    head-project = ap (λ (k : ℕ). head_from k (N 0) (W 0)) e

    pub tuple-there : 1 < length l
    tuple-there = omega (arith, second-there (project (N 0)) head-project 0 refl, size-some (tree_at L 1))

    module _ (q : K 1 ≡ 16) (j : ℕ) (last : N 0 ≡ suc j) (all : N 1 ≡ suc j) where
      head-tuple : head_from (K 1) (N 1) (W 1) ≡ tuple (suc j)
      unfolding head_from
      head-tuple = ap (λ (k : ℕ). head_from k (N 1) (W 1)) q ∙ ap tuple all

      tuple-made : tree_at L 1 ≡ node (tuple (suc j)) (U 1) (grove L 2 (suc j))
      tuple-made = made_as l 1 tuple-there (tuple (suc j)) head-tuple

      pub others-inside : 2 + sizes (grove L 2 j) ≤ length l
      others-inside = omega (arith, second-there (project (N 0)) head-project 0 refl, sized-as l 1 tuple-there (tuple (suc j)) head-tuple, grove-last L j 2)

      pub last-element : (n : ℕ) → n ≡ 2 + sizes (grove L 2 j) → (form : ℕ → Form) → StandsBehind form (tree_of L) n
      unfolding rule_of contract child is code head_of
      last-element n g form =
          let F = grove L 2 (suc j) in
          let t : tree_of L ≡ node (project (suc j)) (U 0) (more (node (tuple (suc j)) (U 1) F) end) = first-tree (project (suc j)) (head-project ∙ ap project last) ∙ ap (node (project (suc j)) (U 0)) (grove-one L 1 ∙ ap (λ (x : Tree). more x end) tuple-made) in
          let r : quiet (project_step (suc j) (node (tuple (suc j)) (U 1) F)) ≡ Some (tree_at L (2 + sizes (grove L 2 j))) = project-tuple (suc j) (node (tuple (suc j)) (U 1) F) refl ∙ nth-grove L j 2 (suc j) (omega arith) in
          let m : n ≡ 1 + (1 + sizes (grove L 2 j)) = g ∙ omega arith in
          record {
            made = tree_at L (2 + sizes (grove L 2 j));
            rule = ap (rule_of form) t ∙ r;
            rows = sym
                (ap (λ (x : Tree). drop n (flat x)) t
                ∙ ap (λ (x : ℕ). drop x (flat (node (project (suc j)) (U 0) (more (node (tuple (suc j)) (U 1) F) end)))) m
                ∙ below-first (project (suc j)) (U 0) (more (node (tuple (suc j)) (U 1) F) end) (1 + sizes (grove L 2 j))
                ∙ ap (drop (1 + sizes (grove L 2 j))) (only-tree (node (tuple (suc j)) (U 1) F))
                ∙ below-first (tuple (suc j)) (U 1) F (sizes (grove L 2 j))
                ∙ last-stands L j 2);
          }
