-- Rules carried out in one pass, on rows that may go on behind the tree. Assumes nothing.
use Prim.Native.Nat.{ℕ, ◌+◌, ◌-◌, ◌≤◌, ◌<◌}
use mathlib.Core.Path.{◌≡◌, refl, ap, sym, ◌∙◌}
use mathlib.Core.Bool.{true}
use mathlib.Core.List.{List, [], ◌∷◌, ◌++◌, map}
use Rattle.std.specs.Prelude.{Option, None, Some, IfSome}
use native.Mathlib.Omega.{arith}
use native.Mathlib.Numerals.{add-one}
use lib.ListN.{length, take, drop, length-map}
use lib.Seq.{take_at}
use borrow.Author.Tests.{eq-eqb}
use Rattle.meaning.specs.Types.{Form, params}
use Rattle.meaning.specs.Terms.{truth, lit, ite, Tree, node, is, Row, flat, size, raw, head_from, row_of, kind_no, n_no, type_no, word_no, tree_of, tree_at, grove}
use Rattle.meaning.specs.Steps.{contract}
use Rattle.meaning.proofs.Trees.Tests.{none-some}
use Rattle.meaning.proofs.Trees.Parse.{length-flat}
use Rattle.terms.proofs.Scan.{grove-none, grove-size, size-some}
use Rattle.put.specs.Put.{standing, Passes}
use Rattle.put.specs.declared.Made.{Made}
use Rattle.put.proofs.Meets.{stands}
use Rattle.reduce.specs.Rule.{rule_of}
use Rattle.reduce.specs.Plan.{rows_of, row_no, rule_rows, TiesAt}
use Rattle.reduce.specs.Given.{tie_row, PutsRule}
use Rattle.reduce.specs.Once.{Goes, MadeAtOnce}
use Rattle.reduce.specs.declared.puts.Puts.{Puts}
use Rattle.reduce.proofs.Roots.{grove-three, kind-is, sized-as, root, root-size}
use Rattle.put.proofs.Short.{put-short}
use Rattle.reduce.proofs.Kept.{if-then}
use Rattle.reduce.proofs.Given.{let-goes-at, call-goes, call-rule, call-more, tied, tie-goes}

-- the tree whose rows a rule makes
rows_made : (o : Option Tree) (x : List (List ℕ)) → rows_of o ≡ Some x → (u : Tree) × (o ≡ Some u) × (map raw (flat u) ≡ x)
unfolding rows_of
rows_made None x e = absurd (none-some x e)
rows_made (Some u) x e = (u, refl, ap (λ (o : Option (List (List ℕ))). elim o [ None ↦ x | Some y ↦ y ]) e)

rows-size : (u : Tree) → length (map raw (flat u)) ≡ size u
rows-size u = length-map (flat u) raw ∙ length-flat u

module _ (form : ℕ → Form) (l to : List (List ℕ)) where
  pub made-at-once : (m : Made) (x : List (List ℕ)) → rule_rows form l ≡ Some x → m.end ≡ size (tree_of (map row_of l)) → m.rows ≡ length x → take m.rows to ≡ x → MadeAtOnce form l to m
  made-at-once m x e p q r =
      let (u, o, z) = rows_made (rule_of form (tree_of (map row_of l))) x e in
      record { whole = p; made = u; rule = o; count = q ∙ ap length (sym z) ∙ rows-size u; front = r ∙ sym z }

  -- what a pass made is what the rule makes
  module _ (p : Puts) (r : PutsRule form l [] p) where
    pub passed-once : (o : Option Made) → p.body + size (tree_at (map row_of l) p.body) ≡ size (tree_of (map row_of l)) → IfSome o (λ m. Passes form l p.body (take p.count p.names) p.bounds to m) → IfSome o (λ m. MadeAtOnce form l to m)
    passed-once None w c = tt
    passed-once (Some m) w c = made-at-once m _ r.rows (c.behind ∙ w) c.count c.front

    -- where the tree ends behind the arguments
    pub argued-once : (m : Made) (old : ℕ) → Passes form l p.body (take p.count p.names) p.bounds to m → old ≡ size (tree_of (map row_of l)) → MadeAtOnce form l to (record { end = old; rows = m.rows })
    argued-once m old c w = made-at-once _ _ r.rows w c.count c.front

    -- and as many names are put as there are arguments
    pub counted-once : (m : Made) (k old : ℕ) → p.count ≡ k → Passes form l p.body (take k p.names) p.bounds to m → old ≡ size (tree_of (map row_of l)) → MadeAtOnce form l to (record { end = old; rows = m.rows })
    counted-once m k old e c w = argued-once m old (rw e c) w

  -- behind a row of its own
  pub tied-once : (p : Puts) (r : PutsRule form l (tie_row l ∷ []) p) (m : Made) (old : ℕ) (rest : List (List ℕ)) → Passes form l p.body (take p.count p.names) p.bounds rest m → to ≡ tie_row l ∷ rest → old ≡ size (tree_of (map row_of l))
      → MadeAtOnce form l to (record { end = old; rows = m.rows + 1 })
  tied-once p r m old rest c t w = made-at-once _ _ r.rows w (omega (arith, c.count)) (rw (add-one m.rows, t) (ap (λ (y : List (List ℕ)). tie_row l ∷ y) c.front))

-- how many rows a pass made
pub pass-few : (form : ℕ → Form) (l : List (List ℕ)) (body : ℕ) (names bounds : List ℕ) (to : List (List ℕ)) (m : Made) → length l ≤ 2048 → Passes form l body names bounds to m → m.rows ≤ 4194304
pass-few form l body names bounds to m h c = omega (arith, c.count, put-short form l body names bounds h)

-- By rows --------------------------------------------------------------------------------------------------------

module _ (l : List (List ℕ)) (exact : map raw (map row_of l) ≡ l) (inside : size (tree_of (map row_of l)) ≤ length l) where
  abbrev L : List Row
  L = map row_of l

  abbrev K : ℕ → ℕ
  K i = kind_no (row_no l i)

  abbrev N : ℕ → ℕ
  N i = n_no (row_no l i)

  abbrev U : ℕ → ℕ
  U i = type_no (row_no l i)

  abbrev W : ℕ → ℕ
  W i = word_no (row_no l i)

  pub let-some : K 0 ≡ 19 → (form : ℕ → Form) → Goes form l
  let-some e form = (_, let-goes-at l exact inside e form)

  pub call-some : K 0 ≡ 8 → K 1 ≡ 6 → (form : ℕ → Form) → Goes form l
  call-some e q form = (_, call-rule l exact inside e form ∙ call-goes form (U 0) (tree_at L 1) (grove L (1 + size (tree_at L 1)) (N 0)) (kind-is l 1 (call-more l exact inside e) 6 (omega arith) (omega arith) ∙ eq-eqb (K 1) 6 q))

  pub tie-some : (form : ℕ → Form) → TiesAt form l → Goes form l
  tie-some form (e, q, z) = let (p, np, g) = tie-goes form (U 0) (tree_at L 1) (params (form (U 1))) z in (_, tied l exact inside e q form ∙ g)

  -- an if over true
  module _ (e : K 0 ≡ 10) where
    head-if : head_from (K 0) (N 0) (W 0) ≡ ite
    unfolding head_from
    head-if = ap (λ (k : ℕ). head_from k (N 0) (W 0)) e

    abbrev A : ℕ
    A = 1 + size (tree_at L 1)

    if-size : size (tree_of L) ≡ A + size (tree_at L A) + size (tree_at L (A + size (tree_at L A)))
    if-size =
        omega (arith, root-size l inside ite head-if, grove-size L 1 2, grove-size L A 1, grove-size L (A + size (tree_at L A)) 0, grove-none L (A + size (tree_at L A) + size (tree_at L (A + size (tree_at L A)))))

    pub if-two : 1 < length l
    if-two = omega (arith, inside, if-size, size-some (tree_at L 1), size-some (tree_at L A))

    module _ (q : K 1 ≡ 3) where
      true-size : A ≡ 2
      unfolding head_from
      true-size = omega (arith, sized-as l 1 if-two (lit (truth true)) (ap (λ (k : ℕ). head_from k (N 1) (W 1)) q), grove-none L 2)

      then-size : size (tree_of L) ≡ 2 + size (tree_at L 2) + size (tree_at L (2 + size (tree_at L 2)))
      then-size = rw true-size at if-size

      pub then-in : 2 + size (tree_at L 2) ≤ length l
      then-in = omega (arith, inside, then-size)

      if-goes : (form : ℕ → Form) → rule_of form (tree_of L) ≡ Some (tree_at L 2)
      unfolding rule_of contract
      if-goes form =
          let i : is 3 (tree_at L 1) ≡ true = kind-is l 1 if-two 3 (omega arith) (omega arith) ∙ eq-eqb (K 1) 3 q in
          ap (rule_of form) (root l inside ite head-if ∙ ap (node ite (U 0)) (grove-three L 1)) ∙ if-then (tree_at L 1) (tree_at L A) (tree_at L (A + size (tree_at L A))) i ∙ ap (λ (x : ℕ). Some (tree_at L x)) true-size

      pub if_some : (form : ℕ → Form) → Goes form l
      if_some form = (tree_at L 2, if-goes form)

      module _ (mid : ℕ) (g : mid ≡ 2 + size (tree_at L 2)) where
        pub else-in : mid + size (tree_at L mid) ≡ size (tree_of L)
        else-in = ap (λ (x : ℕ). x + size (tree_at L x)) g ∙ sym then-size

        pub then-once : (form : ℕ → Form) (to y : List (List ℕ)) (old : ℕ) → old ≡ mid + size (tree_at L mid) → mid - 2 ≤ length to → y ≡ take 0 to ++ (take (mid - 2) (drop 2 l) ++ drop (0 + (mid - 2)) to) → MadeAtOnce form l y (record { end = old; rows = mid - 2 })
        unfolding rows_of
        then-once form to y old w h e =
            let s = stands l exact 2 mid g (omega (arith, then-in, g)) in
            let n : length (standing l 2 mid) ≡ mid - 2 = ap length s ∙ rows-size (tree_at L 2) ∙ omega (arith, g) in
            made-at-once form l y _ (standing l 2 mid) (ap rows_of (if-goes form) ∙ ap Some (sym s)) (w ∙ else-in) (sym n) (ap (take (mid - 2)) e ∙ take_at (standing l 2 mid) (drop (0 + (mid - 2)) to) (mid - 2) n)
