-- What each plan says of the number of rows and of the rows. Assumes nothing.
use Prim.Native.Nat.{ℕ, ◌+◌, ◌*◌, ◌-◌, ◌<◌, ◌≤◌}
use mathlib.Core.Path.{◌≡◌, refl, ap, sym, ◌∙◌}
use mathlib.Core.Bool.{Bool, true, false}
use mathlib.Core.List.{List, [], ◌∷◌, ◌++◌, map, append-nil}
use Rattle.std.specs.Prelude.{Option, None, Some}
use native.Mathlib.Omega.{arith}
use lib.ListN.{length, take, drop, length-take, length-drop, length-map, drop_of_length-le}
use Rattle.layout.specs.Rows.{row_table}
use Rattle.layout.proofs.Tables.{row-table-append, row-table-take}
use Rattle.layout.specs.declared.kinds.Kind.{Kind}
use Rattle.layout.specs.Kinds.{number_of}
use Rattle.meaning.specs.Types.{Form}
use Rattle.meaning.specs.Terms.{Tree, flat, raw, row_of, kind_no, n_no, type_no, size, tree_of, tree_at, grove}
use Rattle.meaning.specs.Steps.{ready}
use Rattle.meaning.proofs.Trees.Parse.{length-flat}
use Rattle.put.specs.Put.{standing, put_rows}
use Rattle.put.proofs.Loops.{standing-length}
use Rattle.reduce.specs.Rule.{rule_of, size_if, rows_if}
use Rattle.reduce.specs.Plan.{rows_of, row_no, pair_rows, LetAt, CallsAt, TiesAt, ZipsFrom, Plans}
use Rattle.reduce.specs.Given.{tie_row, PutsRule}
use Rattle.reduce.specs.declared.puts.Puts.{Puts}
use Rattle.reduce.specs.declared.Plan.TheVariants.{Stays, Part, Leaf, Pair, Let, Call, Tie, Zip}
use Rattle.reduce.proofs.Filled.{pair-length}
use Rattle.reduce.proofs.Zipped.{plan-unready}

some_same : {A : Type 0} (a b : A) → ◌≡◌ {A = Option A} (Some a) (Some b) → a ≡ b
some_same a b e = cc

-- told by rows
pub size-told : (o : Option Tree) (X : List (List ℕ)) (n : ℕ) → rows_of o ≡ Some X → n ≡ length X → Some n ≡ size_if o
unfolding rows_of size_if
size-told None X n e q = let z : ◌≡◌ {A = ℕ} 0 1 = cc in absurd (omega arith)
size-told (Some t) X n e q = ap Some (q ∙ sym (ap length (some_same (map raw (flat t)) X e)) ∙ length-map (flat t) raw ∙ length-flat t)

pub none_told : (o : Option Tree) → rows_of o ≡ None → None ≡ size_if o
unfolding rows_of size_if
none_told None e = refl
none_told (Some t) e = let z : ◌≡◌ {A = ℕ} 0 1 = cc in absurd (omega arith)

pub rows_told : (o : Option Tree) (X : List (List ℕ)) → rows_of o ≡ Some X → rows_if o ≡ X
unfolding rows_of rows_if
rows_told None X e = let z : ◌≡◌ {A = ℕ} 0 1 = cc in absurd (omega arith)
rows_told (Some t) X e = some_same (map raw (flat t)) X e

pub no_rows : (o : Option Tree) → rows_of o ≡ None → length (rows_if o) ≡ 0
unfolding rows_of rows_if
no_rows None e = refl
no_rows (Some t) e = let z : ◌≡◌ {A = ℕ} 0 1 = cc in absurd (omega arith)

-- a table that is filled by one copy
pub whole-copied : (D X : List (List ℕ)) (n : ℕ) → length D ≡ n → take 0 D ++ (X ++ drop (0 + n) D) ≡ X
whole-copied D X n e =
    let z : 0 + n ≡ n = omega arith in
    let d : drop (0 + n) D ≡ [] = ap (λ (k : ℕ). drop k D) z ∙ drop_of_length-le D {i = n} (omega (arith, e)) in
    ap (λ (v : List (List ℕ)). X ++ v) d ∙ append-nil X

module _ (form : ℕ → Form) (l : List (List ℕ)) where
  abbrev O : Option Tree
  O = rule_of form (tree_of (map row_of l))

  pub count-stays : Plans form l Stays → None ≡ size_if (rule_of form (tree_of (map row_of l)))
  unfolding Plans
  count-stays p = none_told O p

  pub part-rises : (a b : ℕ) → Plans form l (Part a b) → (a ≤ b) × (b ≤ length l)
  unfolding Plans
  part-rises a b (e, h, k) = (h, k)

  pub count-part : (a b : ℕ) → Plans form l (Part a b) → Some (b - a) ≡ size_if (rule_of form (tree_of (map row_of l)))
  unfolding Plans
  count-part a b (e, h, k) = size-told O (standing l a b) (b - a) e (sym (standing-length l a b h k))

  pub count-leaf : (k : Kind) → Plans form l (Leaf k) → Some 1 ≡ size_if (rule_of form (tree_of (map row_of l)))
  unfolding Plans
  count-leaf k e = size-told O ((number_of k ∷ 0 ∷ type_no (row_no l 0) ∷ 0 ∷ []) ∷ []) 1 e refl

  pub pair-rises : (t : ℕ) → Plans form l (Pair t) → (2 ≤ t) × (t ≤ length l)
  unfolding Plans
  pair-rises t (e, h, k) = (h, k)

  pub count-pair : (t n : ℕ) → Plans form l (Pair t) → n ≡ length l → Some (n + 1) ≡ size_if (rule_of form (tree_of (map row_of l)))
  unfolding Plans
  count-pair t n (e, h, k) q = size-told O (pair_rows form l t) (n + 1) e (omega (arith, q, pair-length form l t h k, h, k))

  pub let-of : (b : ℕ) → Plans form l (Let b) → LetAt l b
  unfolding Plans
  let-of b p = p

  pub call-of : (f : ℕ) → Plans form l (Call f) → CallsAt l f
  unfolding Plans
  call-of f p = p

  pub tie-of : Plans form l Tie → TiesAt form l
  unfolding Plans
  tie-of p = p

  pub zip-of : (f : ℕ) → Plans form l (Zip f) → ZipsFrom l f
  unfolding Plans
  zip-of f p = p

  pub count-puts : (p : Puts) (n : ℕ) → PutsRule form l [] p → n ≡ length (put_rows form l p.body (take p.count p.names) p.bounds) → Some n ≡ size_if (rule_of form (tree_of (map row_of l)))
  count-puts p n d q = size-told O (put_rows form l p.body (take p.count p.names) p.bounds) n d.rows q

  pub count-tie : (p : Puts) (n : ℕ) → PutsRule form l (tie_row l ∷ []) p → n ≡ length (put_rows form l p.body (take p.count p.names) p.bounds) → Some (1 + n) ≡ size_if (rule_of form (tree_of (map row_of l)))
  count-tie p n d q = size-told O (tie_row l ∷ put_rows form l p.body (take p.count p.names) p.bounds) (1 + n) d.rows (omega (arith, q))

  -- the rows
  pub stays-none : Plans form l Stays → length (rows_if (rule_of form (tree_of (map row_of l)))) ≡ 0
  unfolding Plans
  stays-none p = no_rows O p

  pub part-rows : (a b : ℕ) → Plans form l (Part a b) → rows_if (rule_of form (tree_of (map row_of l))) ≡ standing l a b
  unfolding Plans
  part-rows a b (e, h, k) = rows_told O (standing l a b) e

  pub part-copied : (a b : ℕ) → Plans form l (Part a b) → (D E : List (List ℕ)) → length D ≡ length (rows_if (rule_of form (tree_of (map row_of l)))) → E ≡ take 0 D ++ (take (b - a) (drop a l) ++ drop (0 + (b - a)) D)
      → E ≡ rows_if (rule_of form (tree_of (map row_of l)))
  part-copied a b p D E n e =
      let rs = part-rows a b p in
      let h = part-rises a b p in
      e ∙ whole-copied D (standing l a b) (b - a) (n ∙ ap length rs ∙ standing-length l a b h.0 h.1) ∙ sym rs

  pub leaf-rows : (k : Kind) → Plans form l (Leaf k) → rows_if (rule_of form (tree_of (map row_of l))) ≡ (number_of k ∷ 0 ∷ type_no (row_no l 0) ∷ 0 ∷ []) ∷ []
  unfolding Plans
  leaf-rows k e = rows_told O ((number_of k ∷ 0 ∷ type_no (row_no l 0) ∷ 0 ∷ []) ∷ []) e

  pub pair-rows : (t : ℕ) → Plans form l (Pair t) → rows_if (rule_of form (tree_of (map row_of l))) ≡ pair_rows form l t
  unfolding Plans
  pair-rows t (e, h, k) = rows_told O (pair_rows form l t) e

  -- a zip that makes something has lists
  pub zip-ready : (exact : map raw (map row_of l) ≡ l) (one : size (tree_of (map row_of l)) ≡ length l) (e : kind_no (row_no l 0) ≡ 8) (q : kind_no (row_no l 1) ≡ 15) (first : ℕ) (g : first ≡ 1 + size (tree_at (map row_of l) 1)) (n : ℕ) → 0 < n → n ≡ 8 * length (rows_if (rule_of form (tree_of (map row_of l))))
      → true ≡ ready (n_no (row_no l 1)) (grove (map row_of l) first (n_no (row_no l 0)))
  zip-ready exact one e q first g n some-row k = by (ready (n_no (row_no l 1)) (grove (map row_of l) first (n_no (row_no l 0)))) refl
    where
      by : (b : Bool) → ready (n_no (row_no l 1)) (grove (map row_of l) first (n_no (row_no l 0))) ≡ b → true ≡ ready (n_no (row_no l 1)) (grove (map row_of l) first (n_no (row_no l 0)))
      by true p = sym p
      by false p = absurd (omega (arith, some-row, k, stays-none (plan-unready l exact one e q first g form (sym p))))

  pub put-rows : (p : Puts) → PutsRule form l [] p → rows_if (rule_of form (tree_of (map row_of l))) ≡ put_rows form l p.body (take p.count p.names) p.bounds
  put-rows p d = rows_told O (put_rows form l p.body (take p.count p.names) p.bounds) d.rows

  pub tied-rows : (p : Puts) → PutsRule form l (tie_row l ∷ []) p → rows_if (rule_of form (tree_of (map row_of l))) ≡ tie_row l ∷ put_rows form l p.body (take p.count p.names) p.bounds
  tied-rows p d = rows_told O (tie_row l ∷ put_rows form l p.body (take p.count p.names) p.bounds) d.rows

-- a row, and rows behind it, in bytes
pub tail-lent : (t ys : List ℕ) (r : List ℕ) (R : List (List ℕ)) (k : ℕ) → 8 ≤ length t → take 1 (row_table t) ≡ r ∷ [] → row_table ys ≡ R → length t - 8 ≤ k → row_table (take 8 t ++ (ys ++ drop k (drop 8 t))) ≡ r ∷ R
tail-lent t ys r R k h e q z =
    let d : drop k (drop 8 t) ≡ [] = drop-over k (drop 8 t) (rw length-drop z) in
    ap (λ (x : List ℕ). row_table (take 8 t ++ (ys ++ x))) d
    ∙ ap (λ (x : List ℕ). row_table (take 8 t ++ x)) (append-nil ys)
    ∙ row-table-append (take 8 t) ys 1 (length-take 8 t ∙ omega (arith, h))
    ∙ cc (row-table-take t 1 h, e, q)
  where
    drop-over : (n : ℕ) (x : List ℕ) → length x ≤ n → drop n x ≡ []
    drop-over n x g = drop_of_length-le x g
