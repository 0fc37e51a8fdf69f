-- Rules that put arguments for names: let, a call of a native function, fix. Assumes nothing.
use Prim.Native.Nat.{ℕ, zero, suc, ◌+◌, ◌≤◌, ◌<◌, min}
use mathlib.Core.Path.{◌≡◌, refl, ap, sym, ◌∙◌}
use mathlib.Core.Bool.{true, false}
use mathlib.Core.List.{List, [], ◌∷◌, map, append-nil}
use Rattle.std.specs.Prelude.{None, Some}
use native.Mathlib.Omega.{arith}
use lib.ListN.{length, get_or, take, length-take}
use lib.Seq.{take_all}
use native.Mathlib.Decide.{dec_lt}
use borrow.Author.Tests.{eq-eqb, ne_eqb}
use Rattle.meaning.specs.Types.{Form, Param, params, names}
use Rattle.meaning.specs.Terms.{lambda, apply, fix, bind, code, n_of, word_of, head_from, Tree, Forest, node, end, more, ty_of, is, Row, flat, size, sizes, raw, row_of, kind_no, n_no, type_no, word_no, tree_of, tree_at, grove}
use Rattle.meaning.specs.Steps.{nth, child, kid, swap, assign, put, let_step, tie, fix_step, apply_step, contract}
use Rattle.meaning.proofs.Trees.Parse.{tree-at-zero}
use Rattle.terms.proofs.Scan.{grove-none, grove-size, size-some}
use Rattle.put.specs.Put.{standing, put_rows}
use Rattle.put.proofs.Passing.{tree}
use Rattle.put.proofs.Meets.{stands, rows-put}
use Rattle.reduce.specs.Rule.{quiet, rule_of}
use Rattle.reduce.specs.Plan.{rows_of, row_no, rule_rows, TiesAt, CallsAt, Plans}
use Rattle.reduce.specs.Given.{tie_row, EndsArgs, PutsRule}
use Rattle.reduce.specs.declared.Plan.TheVariants.{Stays}
use Rattle.reduce.proofs.Roots.{grove-one, grove-two, tree-grove, grove-part, grove-last, kind-is, type-is, made_as, sized-as, root, root-size}
use Rattle.meaning.proofs.Trees.Parse.{grove-more}

-- Steps by tests -------------------------------------------------------------------------------------------------

let-goes : (form : ℕ → Form) (x : ℕ) (a b : Tree) → quiet (let_step form x a b) ≡ Some (put form (assign (record { name = x; type = ty_of a } ∷ []) (more a end)) b)
unfolding let_step quiet
let-goes form x a b = refl

pub call-goes : {n : ℕ} (form : ℕ → Form) (u : ℕ) (c : Tree) (args : Forest n) → is 6 c ≡ true → quiet (apply_step form 0 u c args) ≡ Some (put form (assign (params (form (ty_of c))) args) (kid 1 c))
unfolding apply_step quiet
call-goes form u c args e = rw e refl

module _ (form : ℕ → Form) (u : ℕ) (c : Tree) where
  fix-stays : is 6 c ≡ false → quiet (fix_step form u c) ≡ None
  unfolding fix_step quiet
  fix-stays e = rw e refl

  fix-ties : is 6 c ≡ true → quiet (fix_step form u c) ≡ quiet (tie form u c (params (form (ty_of c))))
  unfolding fix_step
  fix-ties e = rw e refl

  -- a function without a name, and one with a first name
  tie-stays : (ps : List Param) → ps ≡ [] → quiet (tie form u c ps) ≡ None
  unfolding tie quiet
  tie-stays ps e = rw e refl

  pub tie-goes : (ps : List Param) → (ps ≡ [] → ⊥) → (p : Param) × (take 1 (names ps) ≡ p.name ∷ [])
      × (quiet (tie form u c ps) ≡ Some (node lambda u (more (put form (assign (p ∷ []) (more (node fix u (more c end)) end)) (kid 1 c)) end)))
  unfolding tie quiet names
  tie-goes [] e = absurd (e refl)
  tie-goes (p ∷ ps) e = (p, refl, refl)

lambda-rows : (u : ℕ) (t : Tree) → map raw (flat (node lambda u (more t end))) ≡ (6 ∷ 0 ∷ u ∷ 0 ∷ []) ∷ map raw (flat t)
unfolding flat raw code n_of word_of
lambda-rows u t = rw (append-nil (flat t)) refl

-- By rows --------------------------------------------------------------------------------------------------------

module _ (l : List (List ℕ)) (exact : map raw (map row_of l) ≡ l) (inside : size (tree_of (map row_of l)) ≤ length l) where
  abbrev L : List Row
  L = map row_of l

  abbrev K : ℕ → ℕ
  K i = kind_no (row_no l i)

  abbrev N : ℕ → ℕ
  N i = n_no (row_no l i)

  abbrev U : ℕ → ℕ
  U i = type_no (row_no l i)

  abbrev W : ℕ → ℕ
  W i = word_no (row_no l i)

  -- Let
  module _ (e : K 0 ≡ 19) where
    head-let : head_from (K 0) (N 0) (W 0) ≡ bind (W 0)
    unfolding head_from
    head-let = ap (λ (k : ℕ). head_from k (N 0) (W 0)) e

    let-size : size (tree_of L) ≡ 1 + size (tree_at L 1) + size (tree_at L (1 + size (tree_at L 1)))
    let-size =
        omega (arith, root-size l inside (bind (W 0)) head-let, grove-size L 1 1, grove-size L (1 + size (tree_at L 1)) 0, grove-none L (1 + size (tree_at L 1) + size (tree_at L (1 + size (tree_at L 1)))))

    pub bound-in : 1 + size (tree_at L 1) ≤ length l
    bound-in = omega (arith, let-size)

    module _ (body : ℕ) (g : body ≡ 1 + size (tree_at L 1)) where
      pub let-whole : body + size (tree_at L body) ≡ size (tree_of L)
      let-whole = ap (λ (x : ℕ). x + size (tree_at L x)) g ∙ sym let-size

      let-goes-to : (form : ℕ → Form) → rule_of form (tree_of L) ≡ Some (put form (assign (record { name = W 0; type = ty_of (tree_at L 1) } ∷ []) (more (tree_at L 1) end)) (tree_at L body))
      unfolding rule_of contract
      let-goes-to form =
          let a = tree_at L 1 in
          let t : tree_of L ≡ node (bind (W 0)) (U 0) (more a (more (tree_at L body) end)) = root l inside (bind (W 0)) head-let ∙ ap (node (bind (W 0)) (U 0)) (grove-two L 1) ∙ ap (λ (x : ℕ). node (bind (W 0)) (U 0) (more a (more (tree_at L x) end))) (sym g) in
          ap (rule_of form) t ∙ let-goes form (W 0) a (tree_at L body)

      pub let-rows : (form : ℕ → Form) (bs : List ℕ) → rule_rows form l ≡ Some (put_rows form l body (W 0 ∷ []) (1 ∷ body ∷ bs))
      unfolding rows_of names tree
      let-rows form bs =
          let a = tree_at L 1 in
          let p : Param = record { name = W 0; type = ty_of a } in
          let r = rows-put l exact {n = 1} form body (1 ∷ body ∷ bs) (p ∷ []) (more a end) (omega (arith, let-whole)) (λ j h. bound-stands j h) in
          ap rows_of (let-goes-to form) ∙ ap Some (sym r)
        where
          bound-stands : (j : ℕ) → j < 1 → standing l (get_or (1 ∷ body ∷ bs) j 0) (get_or (1 ∷ body ∷ bs) (j + 1) 0) ≡ map raw (flat (tree (more (tree_at L 1) end) j))
          bound-stands zero h = stands l exact 1 body g (omega (arith, let-whole))
          bound-stands (suc j) h = absurd (omega arith)

    pub let-goes-at : (form : ℕ → Form) → rule_of form (tree_of L) ≡ Some (put form (assign (record { name = W 0; type = ty_of (tree_at L 1) } ∷ []) (more (tree_at L 1) end)) (tree_at L (1 + size (tree_at L 1))))
    let-goes-at form = let-goes-to (1 + size (tree_at L 1)) refl form

  -- Fix
  module _ (e : K 0 ≡ 11) where
    head-fix : head_from (K 0) (N 0) (W 0) ≡ fix
    unfolding head_from
    head-fix = ap (λ (k : ℕ). head_from k (N 0) (W 0)) e

    fix-made : tree_of L ≡ node fix (U 0) (more (tree_at L 1) end)
    fix-made = root l inside fix head-fix ∙ ap (node fix (U 0)) (grove-one L 1)

    fix-rule : (form : ℕ → Form) → rule_of form (tree_of L) ≡ quiet (fix_step form (U 0) (tree_at L 1))
    unfolding rule_of contract
    fix-rule form = ap (rule_of form) fix-made

    fix-size : size (tree_of L) ≡ 1 + size (tree_at L 1)
    fix-size = omega (arith, root-size l inside fix head-fix, grove-size L 1 0, grove-none L (1 + size (tree_at L 1)))

    pub fix-more : 1 < length l
    fix-more = omega (arith, fix-size, size-some (tree_at L 1))

    pub plan-no-function : (form : ℕ → Form) → (K 1 ≡ 6 → ⊥) → Plans form l Stays
    unfolding Plans rows_of
    plan-no-function form q = ap rows_of (fix-rule form ∙ fix-stays form (U 0) (tree_at L 1) (kind-is l 1 fix-more 6 (omega arith) (omega arith) ∙ ne_eqb (K 1) 6 q))

    module _ (q : K 1 ≡ 6) where
      head-lambda : head_from (K 1) (N 1) (W 1) ≡ lambda
      unfolding head_from
      head-lambda = ap (λ (k : ℕ). head_from k (N 1) (W 1)) q

      function-made : tree_at L 1 ≡ node lambda (U 1) (more (tree_at L 2) end)
      function-made = made_as l 1 fix-more lambda head-lambda ∙ ap (node lambda (U 1)) (grove-one L 2)

      pub tied : (form : ℕ → Form) → rule_of form (tree_of L) ≡ quiet (tie form (U 0) (tree_at L 1) (params (form (U 1))))
      tied form =
          fix-rule form
          ∙ fix-ties form (U 0) (tree_at L 1) (kind-is l 1 fix-more 6 (omega arith) (omega arith) ∙ eq-eqb (K 1) 6 q)
          ∙ ap (λ (t : ℕ). quiet (tie form (U 0) (tree_at L 1) (params (form t)))) (type-is l 1 fix-more)

      pub plan-nameless : (form : ℕ → Form) → params (form (U 1)) ≡ [] → Plans form l Stays
      unfolding Plans rows_of
      plan-nameless form z = ap rows_of (tied form ∙ tie-stays form (U 0) (tree_at L 1) (params (form (U 1))) z)

      pub tie-whole : 2 + size (tree_at L 2) ≡ size (tree_of L)
      tie-whole = omega (arith, fix-size, sized-as l 1 fix-more lambda head-lambda, grove-size L 2 0, grove-none L (2 + size (tree_at L 2)))

      pub tie-rows : (form : ℕ → Form) (x n : ℕ) (bs : List ℕ) → take 1 (names (params (form (U 1)))) ≡ x ∷ [] → (params (form (U 1)) ≡ [] → ⊥) → n ≡ size (tree_of L)
          → rule_rows form l ≡ Some ((6 ∷ 0 ∷ U 0 ∷ 0 ∷ []) ∷ put_rows form l 2 (x ∷ []) (0 ∷ n ∷ bs))
      unfolding rows_of names tree kid child nth swap
      tie-rows form x n bs nm some-name ln =
          let (p, np, go-tie) = tie-goes form (U 0) (tree_at L 1) (params (form (U 1))) some-name in
          let same : x ≡ p.name = ap (λ (ys : List ℕ). get_or ys 0 0) (sym nm ∙ np) in
          let k1 : kid 1 (tree_at L 1) ≡ tree_at L 2 = ap (kid 1) function-made in
          let r = rows-put l exact {n = 1} form 2 (0 ∷ n ∷ bs) (p ∷ []) (more (tree_of L) end) (omega (arith, tie-whole)) (λ j h. fix-stands j h) in
          ap rows_of (tied form ∙ go-tie)
          ∙ ap Some (lambda-rows (U 0) (put form (assign (p ∷ []) (more (node fix (U 0) (more (tree_at L 1) end)) end)) (kid 1 (tree_at L 1))))
          ∙ ap (λ (t : Tree). Some ((6 ∷ 0 ∷ U 0 ∷ 0 ∷ []) ∷ map raw (flat (put form (assign (p ∷ []) (more t end)) (kid 1 (tree_at L 1)))))) (sym fix-made)
          ∙ ap (λ (t : Tree). Some ((6 ∷ 0 ∷ U 0 ∷ 0 ∷ []) ∷ map raw (flat (put form (assign (p ∷ []) (more (tree_of L) end)) t)))) k1
          ∙ ap (λ (rs : List (List ℕ)). Some ((6 ∷ 0 ∷ U 0 ∷ 0 ∷ []) ∷ rs)) (sym r)
          ∙ ap (λ (y : ℕ). Some ((6 ∷ 0 ∷ U 0 ∷ 0 ∷ []) ∷ put_rows form l 2 (y ∷ []) (0 ∷ n ∷ bs))) (sym same)
        where
          fix-stands : (j : ℕ) → j < 1 → standing l (get_or (0 ∷ n ∷ bs) j 0) (get_or (0 ∷ n ∷ bs) (j + 1) 0) ≡ map raw (flat (tree (more (tree_of L) end) j))
          fix-stands zero h =
              stands l exact 0 n (omega (arith, ln, ap size (tree-at-zero L))) (omega (arith, ln)) ∙ ap (λ (t : Tree). map raw (flat t)) (tree-at-zero L)
          fix-stands (suc j) h = absurd (omega arith)

  -- A call of a native function
  module _ (e : K 0 ≡ 8) where
    head-call : head_from (K 0) (N 0) (W 0) ≡ apply (N 0)
    unfolding head_from
    head-call = ap (λ (k : ℕ). head_from k (N 0) (W 0)) e

    abbrev F : ℕ
    F = 1 + size (tree_at L 1)

    pub call-made : tree_of L ≡ node (apply (N 0)) (U 0) (more (tree_at L 1) (grove L F (N 0)))
    call-made = root l inside (apply (N 0)) head-call ∙ ap (node (apply (N 0)) (U 0)) (grove-more L 1 (N 0))

    pub call-rule : (form : ℕ → Form) → rule_of form (tree_of L) ≡ quiet (apply_step form 0 (U 0) (tree_at L 1) (grove L F (N 0)))
    unfolding rule_of contract
    call-rule form = ap (rule_of form) call-made

    pub call-size : F + sizes (grove L F (N 0)) ≡ size (tree_of L)
    call-size = omega (arith, root-size l inside (apply (N 0)) head-call, grove-size L 1 (N 0))

    pub call-more : 1 < length l
    call-more = omega (arith, call-size, size-some (tree_at L 1))

    module _ (q : K 1 ≡ 6) where
      head-called : head_from (K 1) (N 1) (W 1) ≡ lambda
      unfolding head_from
      head-called = ap (λ (k : ℕ). head_from k (N 1) (W 1)) q

      called-made : tree_at L 1 ≡ node lambda (U 1) (more (tree_at L 2) end)
      called-made = made_as l 1 call-more lambda head-called ∙ ap (node lambda (U 1)) (grove-one L 2)

      called-size : size (tree_at L 1) ≡ 1 + size (tree_at L 2)
      called-size = omega (arith, sized-as l 1 call-more lambda head-called, grove-size L 2 0, grove-none L (2 + size (tree_at L 2)))

      pub call-whole : 2 + size (tree_at L 2) ≤ length l
      call-whole = omega (arith, called-size, call-size)

      module _ (first : ℕ) (g : first ≡ F) where
        pub args-whole : first + sizes (grove L first (N 0)) ≡ size (tree_of L)
        args-whole = ap (λ (x : ℕ). x + sizes (grove L x (N 0))) g ∙ call-size

        -- where each argument begins
        module _ (form : ℕ → Form) (bs : List ℕ) (begins : (j : ℕ) → j ≤ length (take (N 0) (names (params (form (U 1))))) → get_or bs j 0 ≡ first + sizes (grove L first j)) (few : length (take (N 0) (names (params (form (U 1))))) ≤ N 0) where
          pub call-within : (j : ℕ) → j < length (take (N 0) (names (params (form (U 1))))) → (get_or bs j 0 ≤ get_or bs (j + 1) 0) × (get_or bs (j + 1) 0 ≤ length l)
          call-within j h =
              let a = begins j (omega arith) in
              let b = begins (j + 1) (omega arith) in
              let n : j + 1 ≡ suc j = omega arith in
              let s = grove-last L j first in
              let b' : get_or bs (j + 1) 0 ≡ first + sizes (grove L first (suc j)) = b ∙ ap (λ (x : ℕ). first + sizes (grove L first x)) n in
              (omega (arith, a, b', s), omega (arith, b', s, grove-part L j first (N 0) (omega arith), args-whole))

          arg-stands : (j : ℕ) → j < length (take (N 0) (names (params (form (U 1))))) → standing l (get_or bs j 0) (get_or bs (j + 1) 0) ≡ map raw (flat (tree (grove L first (N 0)) j))
          arg-stands j h =
              let at = first + sizes (grove L first j) in
              let a = begins j (omega arith) in
              let n : j + 1 ≡ suc j = omega arith in
              let b : get_or bs (j + 1) 0 ≡ at + size (tree_at L at) = begins (j + 1) (omega arith) ∙ ap (λ (x : ℕ). first + sizes (grove L first x)) n ∙ omega (arith, grove-last L j first) in
              ap (λ (x : ℕ). standing l x (get_or bs (j + 1) 0)) a
              ∙ stands l exact at (get_or bs (j + 1) 0) b (call-within j h).1
              ∙ ap (λ (t : Tree). map raw (flat t)) (sym (tree-grove L j first (N 0) (omega arith)))

          pub call_rows : rule_rows form l ≡ Some (put_rows form l 2 (take (N 0) (names (params (form (U 1))))) bs)
          unfolding rows_of kid child nth swap
          call_rows =
              let r = rows-put l exact {n = N 0} form 2 bs (params (form (U 1))) (grove L first (N 0)) call-whole arg-stands in
              ap rows_of (call-rule form ∙ call-goes form (U 0) (tree_at L 1) (grove L F (N 0)) (kind-is l 1 call-more 6 (omega arith) (omega arith) ∙ eq-eqb (K 1) 6 q))
              ∙ ap (λ (x : ℕ). Some (map raw (flat (put form (assign (params (form (ty_of (tree_at L 1)))) (grove L x (N 0))) (kid 1 (tree_at L 1)))))) (sym g)
              ∙ ap (λ (x : ℕ). Some (map raw (flat (put form (assign (params (form x)) (grove L first (N 0))) (kid 1 (tree_at L 1)))))) (type-is l 1 call-more)
              ∙ ap (λ (t : Tree). Some (map raw (flat (put form (assign (params (form (U 1))) (grove L first (N 0))) (kid 1 t))))) called-made
              ∙ ap Some (sym r)

-- What code hands on ---------------------------------------------------------------------------------------------

pub names-length : (ps : List Param) → length (names ps) ≡ length ps
unfolding names
names-length [] = refl
names-length (p ∷ ps) = ap suc (names-length ps)

first-name : (ps : List Param) (x : ℕ) → (ps ≡ [] → ⊥) → x ≡ get_or (names ps) 0 0 → take 1 (names ps) ≡ x ∷ []
unfolding names
first-name [] x z e = absurd (z refl)
first-name (p ∷ ps) x z e = rw e refl

take-least : (n m : ℕ) (xs : List ℕ) → n ≡ min (length xs) m → take n xs ≡ take m xs
take-least n m xs e = elim (dec_lt m (length xs)) [
  | yes h ↦ let z : n ≡ m = omega (arith, e, h) in ap (λ (k : ℕ). take k xs) z
  | no h ↦ take_all n xs (omega (arith, e, h)) ∙ sym (take_all m xs (omega (arith, h)))
]

module _ (l : List (List ℕ)) (exact : map raw (map row_of l) ≡ l) (inside : size (tree_of (map row_of l)) ≤ length l) (short : length l ≤ 2048) where
  pub let-puts : (e : kind_no (row_no l 0) ≡ 19) (body : ℕ) → body ≡ 1 + size (tree_at (map row_of l) 1) → (form : ℕ → Form) (w b : ℕ) (ns bs : List ℕ) → w ≡ word_no (row_no l 0) → b ≡ body
      → PutsRule form l [] (record { body = body; count = 1; names = w ∷ ns; bounds = 1 ∷ b ∷ bs })
  let-puts e body g form w b ns bs p q =
      let whole = let-whole l exact inside e body g in
      record {
        few = omega arith;
        ready = record {
          few = short;
          whole = omega (arith, whole);
          eight = omega arith;
          bounded = omega arith;
          within = λ j h. bounds-in j h;
        };
        rows = rw (p, q) (let-rows l exact inside e body g form bs);
      }
    where
      bounds-in : (j : ℕ) → j < 1 → (get_or (1 ∷ b ∷ bs) j 0 ≤ get_or (1 ∷ b ∷ bs) (j + 1) 0) × (get_or (1 ∷ b ∷ bs) (j + 1) 0 ≤ length l)
      bounds-in zero h = (omega (arith, g, q), omega (arith, q, let-whole l exact inside e body g))
      bounds-in (suc j) h = absurd (omega arith)

  pub tie-puts : (form : ℕ → Form) → TiesAt form l → (x n u : ℕ) (ns bs : List ℕ) → type_no (row_no l 1) ≡ u → x ≡ get_or (names (params (form u))) 0 0 → n ≡ size (tree_of (map row_of l))
      → PutsRule form l (tie_row l ∷ []) (record { body = 2; count = 1; names = x ∷ ns; bounds = 0 ∷ n ∷ bs })
  tie-puts form (e, q, z) x n u ns bs t p r =
      let whole = tie-whole l exact inside e q in
      record {
        few = omega arith;
        ready = record {
          few = short;
          whole = omega (arith, whole);
          eight = omega arith;
          bounded = omega arith;
          within = λ j h. bounds-in j h;
        };
        rows = tie-rows l exact inside e q form x n bs (first-name (params (form (type_no (row_no l 1)))) x z (p ∙ ap (λ (y : ℕ). get_or (names (params (form y))) 0 0) (sym t))) z r;
      }
    where
      bounds-in : (j : ℕ) → j < 1 → (get_or (0 ∷ n ∷ bs) j 0 ≤ get_or (0 ∷ n ∷ bs) (j + 1) 0) × (get_or (0 ∷ n ∷ bs) (j + 1) 0 ≤ length l)
      bounds-in zero h = (omega arith, omega (arith, r))
      bounds-in (suc j) h = absurd (omega arith)

  -- as many names as the function has and arguments as the call has
  pub call-puts : (form : ℕ → Form) (first : ℕ) → CallsAt l first → (n m u : ℕ) (ns bs : List ℕ) → n_no (row_no l 0) ≡ m → type_no (row_no l 1) ≡ u
      → n ≡ min (length (params (form u))) m → n ≤ 8 → take n ns ≡ take n (names (params (form u))) → length ns ≡ 8 → length bs ≡ 9
      → ((j : ℕ) → j ≤ n → get_or bs j 0 ≡ first + sizes (grove (map row_of l) first j))
      → PutsRule form l [] (record { body = 2; count = n; names = ns; bounds = bs }) × EndsArgs l (record { body = 2; count = n; names = ns; bounds = bs })
  call-puts form first (e, q, g) n m u ns bs i t ln few nm ls lb begins =
      let ps = params (form (type_no (row_no l 1))) in
      let k = n_no (row_no l 0) in
      let least : n ≡ min (length ps) k = omega (arith, ln, i, ap (λ (y : ℕ). length (params (form y))) t) in
      let same : take n (names ps) ≡ take k (names ps) = take-least n k (names ps) (least ∙ ap (λ (x : ℕ). min x k) (sym (names-length ps))) in
      let lt : length (take k (names ps)) ≡ n = length-take k (names ps) ∙ omega (arith, least, names-length ps) in
      let all : take n ns ≡ take k (names ps) = nm ∙ ap (λ (y : ℕ). take n (names (params (form y)))) (sym t) ∙ same in
      let at : (j : ℕ) → j ≤ length (take k (names ps)) → get_or bs j 0 ≡ first + sizes (grove (map row_of l) first j) = λ j h. begins j (omega (arith, h, lt)) in
      let within = call-within l exact inside e q first g form bs at (omega (arith, lt, least)) in (
        record {
          few = omega (arith, few, ls);
          ready = record {
            few = short;
            whole = call-whole l exact inside e q;
            eight = rw all (omega (arith, lt, few));
            bounded = rw all (omega (arith, lt, few, lb));
            within = λ j h. within j (omega (arith, h, ap length all));
          };
          rows = rw all (call_rows l exact inside e q first g form bs at (omega (arith, lt, least)));
        },
        λ p. begins n (omega arith) ∙ ap (λ (x : ℕ). first + sizes (grove (map row_of l) first x)) p ∙ args-whole l exact inside e q first g,
      )
