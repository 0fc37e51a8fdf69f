-- The first row that fails typing, as a walk from row to row finds it. Assumes nothing.
use mathlib.Core.Path.{◌≡◌, refl, ap, sym, ◌∙◌}
use mathlib.Core.Logic.{⊎_elim}
use mathlib.Core.Bool.{true, false}
use mathlib.Core.List.{List, []}
use Rattle.std.specs.Prelude.{Option, None, Some}
use Prim.Native.Nat.{ℕ, zero, suc, ◌+◌, ◌-◌, ◌≤◌, ◌<◌}
use native.Mathlib.Omega.{arith}
use native.Mathlib.Numerals.{add-one}
use native.Mathlib.Nat.{add-zero, zero-add, add-suc}
use lib.ListN.{length, get_or, set, length-set}
use native.Mathlib.Decide.{dec_lt, ℕ_discrete}
use lib.Seq.{get_or-set_same, get_or-set_other, set_out}
use Rattle.meaning.specs.Types.{Form, Param, find, Ctx, empty, pick, ◌⹁◌}
use Rattle.meaning.specs.Terms.{arity, Tree, Forest, node, Row, size, sizes, kids, tree_at, grove}
use Rattle.meaning.specs.Typing.{tys, scope, stop, later, before, row_ok, first_bad, first_bads}
use Rattle.meaning.proofs.Trees.Parse.{grove-more, tree-row}
use Rattle.typing.specs.Scope.{binds, chain, around, walk, hand_on, Low, Inner}

later-add : (a b : ℕ) (o : Option ℕ) → later a (later b o) ≡ later (a + b) o
unfolding later
later-add a b None = refl
later-add a b (Some n) = let q : a + (b + n) ≡ a + b + n = omega arith in ap Some q

later-before : (a : ℕ) (o p : Option ℕ) → later a (before o p) ≡ before (later a o) (later a p)
unfolding later before
later-before a None p = refl
later-before a (Some n) p = refl

before-before : (o p q : Option ℕ) → before (before o p) q ≡ before o (before p q)
unfolding before
before-before None p q = refl
before-before (Some n) p q = refl

size-some : (t : Tree) → 1 ≤ size t
unfolding size
size-some (node h ty f) = omega arith

-- an array that differs only behind what a chain reads
module _ (form : ℕ → Form) (l : List Row) where
  pub chain-enough : (sc : List ℕ) (d e v : ℕ) → ((p : ℕ) → get_or sc p 0 ≤ p) → v ≤ d → v ≤ e → chain form l sc d v ≡ chain form l sc e v
  unfolding chain
  chain-enough sc zero zero v w h k = refl
  chain-enough sc zero (suc e) zero w h k = refl
  chain-enough sc zero (suc e) (suc v) w h k = absurd (omega arith)
  chain-enough sc (suc d) zero zero w h k = refl
  chain-enough sc (suc d) zero (suc v) w h k = absurd (omega arith)
  chain-enough sc (suc d) (suc e) zero w h k = refl
  chain-enough sc (suc d) (suc e) (suc b) w h k =
      ap (λ (Γ : Ctx). Γ ⹁ binds form (tree_at l b)) (chain-enough sc d e (get_or sc b 0) w (omega (arith, w b)) (omega (arith, w b)))

  pub chain-agree : (sc sc' : List ℕ) (i d v : ℕ) → ((p : ℕ) → p < i → get_or sc p 0 ≡ get_or sc' p 0) → ((p : ℕ) → get_or sc p 0 ≤ p) → v ≤ i → chain form
      l sc d v ≡ chain form l sc' d v
  unfolding chain
  chain-agree sc sc' i zero v e w h = refl
  chain-agree sc sc' i (suc d) zero e w h = refl
  chain-agree sc sc' i (suc d) (suc b) e w h =
      ap (λ (Γ : Ctx). Γ ⹁ binds form (tree_at l b))
      (chain-agree sc sc' i d (get_or sc b 0) e w (omega (arith, w b)) ∙ ap (chain form l sc' d) (e b (omega arith)))

  -- one binder more
  pub chain_more : (sc : List ℕ) (b : ℕ) → ((p : ℕ) → get_or sc p 0 ≤ p) → chain form l sc (suc b) (suc b) ≡ around form l sc b ⹁ binds form (tree_at l
      b)
  unfolding chain
  chain_more sc b w = ap (λ (Γ : Ctx). Γ ⹁ binds form (tree_at l b)) (chain-enough sc b (get_or sc b 0) (get_or sc b 0) w (w b) (omega arith))

  -- the walk reads only the entries of trees to come
  pub walk-agree : (sc sc' : List ℕ) (e n j : ℕ) → ((p : ℕ) → e ≤ p → around form l sc p ≡ around form l sc' p) → e ≤ j → walk form l sc n j ≡ walk
      form l sc' n j
  unfolding walk
  walk-agree sc sc' e zero j q h = refl
  walk-agree sc sc' e (suc n) j q h =
      ap (λ (Γ : Ctx). before (later j (first_bad form Γ (tree_at l j))) (walk form l sc n (j + size (tree_at l j)))) (q j h)
      ∙ ap (before (later j (first_bad form (around form l sc' j) (tree_at l j)))) (walk-agree sc sc' e n (j + size (tree_at l j)) q (omega arith))

low-set : (i j x : ℕ) (sc : List ℕ) → x ≤ i → i ≤ j → Low sc i → Low (set sc j x) i
low-set i j x sc h g w =
    record { own = λ p. at p (w.own p) (λ e. omega arith); all = λ p. at p (w.all p) (λ e. h) }
  where
    at : {b : ℕ} (p : ℕ) → get_or sc p 0 ≤ b → (p ≡ j → x ≤ b) → get_or (set sc j x) p 0 ≤ b
    at {b} p old new =
        elim (ℕ_discrete p j) [
          | yes e ↦ elim (dec_lt j (length sc)) [
            | yes q ↦ rw (e, get_or-set_same sc j x 0 q) (new e)
            | no q ↦ rw (set_out sc j x (omega arith)) old
          ]
          | no e ↦ rw (get_or-set_other sc j p x 0 e) old
        ]

-- what is written for the trees from row j on, and what stands
module _ (l : List Row) (v : ℕ → ℕ) where
  pub hand-before : (k m j p : ℕ) (sc : List ℕ) → p < j → get_or (hand_on l v k m j sc) p 0 ≡ get_or sc p 0
  unfolding hand_on
  hand-before k zero j p sc h = refl
  hand-before k (suc m) j p sc h =
      hand-before (suc k) m (j + size (tree_at l j)) p (set sc j (v k)) (omega arith) ∙ get_or-set_other sc j p (v k) 0 (λ e. omega arith)

  pub hand-after : (k m j p : ℕ) (sc : List ℕ) → j + sizes (grove l j m) ≤ p → get_or (hand_on l v k m j sc) p 0 ≡ get_or sc p 0
  unfolding hand_on size
  hand-after k zero j p sc h = refl
  hand-after k (suc m) j p sc h =
      let e : sizes (grove l j (suc m)) ≡ size (tree_at l j) + sizes (grove l (j + size (tree_at l j)) m) = ap sizes (grove-more l j m) in
      hand-after (suc k) m (j + size (tree_at l j)) p (set sc j (v k)) (omega arith)
      ∙ get_or-set_other sc j p (v k) 0 (λ q. omega (arith, size-some (tree_at l j)))

  -- the trees left of n, from the k-th value on
  pub hand_rest : (n k j : ℕ) (sc : List ℕ) → k < n → hand_on l v k (n - k) j sc ≡ hand_on l v (k + 1) (n - (k + 1)) (j + size (tree_at l j)) (set sc j (v k))
  unfolding hand_on
  hand_rest n k j sc h = let e : n - k ≡ suc (n - (k + 1)) = omega arith in rw (e, add-one k) refl

  pub hand_over : (n k j : ℕ) (sc : List ℕ) → n ≤ k → hand_on l v k (n - k) j sc ≡ sc
  unfolding hand_on
  hand_over n k j sc h = let e : n - k ≡ 0 = omega arith in rw e refl

  pub hand-length : (k m j : ℕ) (sc : List ℕ) → length (hand_on l v k m j sc) ≡ length sc
  unfolding hand_on
  hand-length k zero j sc = refl
  hand-length k (suc m) j sc = hand-length (suc k) m (j + size (tree_at l j)) (set sc j (v k)) ∙ length-set sc j (v k)

  -- each entry is an old one or one of the values
  pub hand-low : (i k m j : ℕ) (sc : List ℕ) → ((q : ℕ) → v q ≤ i) → i ≤ j → Low sc i → Low (hand_on l v k m j sc) i
  unfolding hand_on
  hand-low i k zero j sc h g w = w
  hand-low i k (suc m) j sc h g w = hand-low i (suc k) m (j + size (tree_at l j)) (set sc j (v k)) h (omega arith) (low-set i j (v k) sc (h k) g w)

module _ (form : ℕ → Form) (l : List Row) where
  -- the array has for each of m trees from row j on the binders around the row above, and the names that this row binds there
  abbrev Hands : List ℕ → Ctx → (ℕ → List Param) → ℕ → ℕ → Type 0
  Hands sc Γ s j zero = Unit {0}
  Hands sc Γ s j (suc m) = (around form l sc j ≡ Γ ⹁ s 0) × Hands sc Γ (λ q. s (suc q)) (j + size (tree_at l j)) m

  hands : (v : ℕ → ℕ) (Γ : Ctx) (s : ℕ → List Param) (k m j : ℕ) (sc sc' : List ℕ) → sc' ≡ hand_on l v k m j sc
      → j + sizes (grove l j m) ≤ length sc → ((q : ℕ) → chain form l sc' (v (k + q)) (v (k + q)) ≡ Γ ⹁ s q) → Hands sc' Γ s j m
  unfolding hand_on size
  hands v Γ s k zero j sc sc' e h g = tt
  hands v Γ s k (suc m) j sc sc' e h g =
      let z : sizes (grove l j (suc m)) ≡ size (tree_at l j) + sizes (grove l (j + size (tree_at l j)) m) = ap sizes (grove-more l j m) in
      let n = size-some (tree_at l j) in
      let j' = j + size (tree_at l j) in
      let b : get_or sc' j 0 ≡ v k = ap (λ (x : List ℕ). get_or x j 0) e ∙ hand-before l v (suc k) m j' j (set sc j (v k)) (omega arith) ∙ get_or-set_same
      sc j (v k) 0 (omega arith) in (
        ap (λ (x : ℕ). chain form l sc' x x) (b ∙ ap v (sym (add-zero k))) ∙ g 0,
        hands v Γ (λ q. s (suc q)) (suc k) m j' (set sc j (v k)) sc' e (rw length-set (omega arith))
            (λ q. let c : suc k + q ≡ k + suc q = omega arith in ap (λ (x : ℕ). chain form l sc' (v x) (v x)) c ∙ g (suc q)),
      )

  then-more : (j s : ℕ) (o p q : Option ℕ) → before (later j (before o (later s p))) q ≡ before (later j o) (before (later (j + s) p) q)
  then-more j s o p q =
      ap (λ (x : Option ℕ). before x q) (later-before j o (later s p) ∙ ap (before (later j o)) (later-add j s p))
      ∙ before-before (later j o) (later (j + s) p) q

  -- the children's first fault, and then that of the trees behind them
  kids-walk : (sc : List ℕ) (Γ : Ctx) (n a j : ℕ) (s : ℕ → List Param) → Hands sc Γ s j a
      → before (later j (first_bads form Γ s (grove l j a))) (walk form l sc n (j + sizes (grove l j a))) ≡ walk form l sc (n + a) j
  unfolding grove kids first_bad before later size
  kids-walk sc Γ n zero j s h = let e : j + 0 ≡ j = omega arith in rw (add-zero n, e) refl
  kids-walk sc Γ n (suc a) j s (b, h) =
      let t = tree_at l j in
      let g = grove l (j + size t) a in
      let c : j + (size t + sizes g) ≡ j + size t + sizes g = omega arith in
      ap (λ (f : Forest (suc a)). before (later j (first_bads form Γ s f)) (walk form l sc n (j + sizes f))) (grove-more l j a)
      ∙ then-more j (size t) (first_bad form (Γ ⹁ s 0) t) (first_bads form Γ (λ q. s (suc q)) g) (walk form l sc n (j + (size t + sizes g)))
      ∙ ap (λ (x : ℕ). before (later j (first_bad form (Γ ⹁ s 0) t)) (before (later (j + size t) (first_bads form Γ (λ q. s (suc q)) g)) (walk form l sc
      n x))) c
      ∙ ap (before (later j (first_bad form (Γ ⹁ s 0) t))) (kids-walk sc Γ n a (j + size t) (λ q. s (suc q)) h)
      ∙ ap (λ (Δ : Ctx). before (later j (first_bad form Δ t)) (walk form l sc (n + a) (j + size t))) (sym b)
      ∙ unfold walk in ap (λ (x : ℕ). walk form l sc x j) (sym (add-suc n a))

  plain : (Γ : Ctx) (ps : List Param) → ps ≡ [] → Γ ⹁ ps ≡ Γ
  unfolding ◌⹁◌ find pick
  plain Γ ps e = rw e refl

  -- a row that fails, the first of suc n trees
  module _ (sc : List ℕ) (i n : ℕ) (r : Row) (h : i < length l) (e : get_or l i r ≡ r) where
    pub walk_here : row_ok form (around form l sc i) r.head r.type (grove l (i + 1) (arity r.head)) ≡ false → walk form l sc (suc n) i ≡ Some
        i
    unfolding walk first_bad stop later before
    walk_here q = rw (tree-row l i r r h e) (rw q (ap Some (add-zero i)))

    -- a row that stands: its children are owed, below the binders that the array now has for them
    module _ (w : Low sc i) (v : ℕ → ℕ) (fits : i + 1 + sizes (grove l (i + 1) (arity r.head)) ≤ length sc) (inner : (q : ℕ) → Inner form r.head
        r.type (tys (grove l (i + 1) (arity r.head))) (get_or sc i 0) i v q) where
      abbrev pub handed : List ℕ
      handed = hand_on l v 0 (arity r.head) (i + 1) sc

      values_low : (q : ℕ) → v q ≤ suc i
      values_low q = ⊎_elim (λ x. omega (arith, x.0, w.all i)) (λ x. omega (arith, x.0)) (inner q)

      low-more : Low sc (suc i)
      low-more = record { own = w.own; all = λ p. omega (arith, w.all p) }

      pub handed-low : Low handed (suc i)
      handed-low = hand-low l v (suc i) 0 (arity r.head) (i + 1) sc values_low (omega arith) low-more

      below-same : (p : ℕ) → p < suc i → get_or sc p 0 ≡ get_or handed p 0
      below-same p b = sym (hand-before l v 0 (arity r.head) (i + 1) p sc (omega arith))

      here-same : around form l handed i ≡ around form l sc i
      here-same =
          ap (λ (x : ℕ). chain form l handed x x) (sym (below-same i (omega arith)))
          ∙ sym (chain-agree form l sc handed (suc i) (get_or sc i 0) (get_or sc i 0) below-same w.own (omega (arith, w.own i)))

      behind-same : (p : ℕ) → i + 1 + sizes (grove l (i + 1) (arity r.head)) ≤ p → around form l sc p ≡ around form l handed p
      behind-same p b =
          chain-agree form l sc handed (suc i) (get_or sc p 0) (get_or sc p 0) below-same w.own (omega (arith, w.all p))
          ∙ ap (λ (x : ℕ). chain form l handed x x) (sym (hand-after l v 0 (arity r.head) (i + 1) p sc b))

      inner-means : (q : ℕ) → chain form l handed (v q) (v q) ≡ around form l sc i ⹁ scope form r.head r.type (tys (grove l (i + 1) (arity r.head))) q
      unfolding binds
      inner-means q =
          ⊎_elim
          (λ x. ap (λ (y : ℕ). chain form l handed y y) (x.0 ∙ below-same i (omega arith)) ∙ here-same ∙ sym (plain (around form l sc i) _ x.1))
          (λ x.
          ap (λ (y : ℕ). chain form l handed y y) x.0
          ∙ chain_more form l handed i handed-low.own
          ∙ ap (λ (Γ : Ctx). Γ ⹁ binds form (tree_at l i)) here-same
          ∙ ap (λ (t : Tree). around form l sc i ⹁ binds form t) (tree-row l i r r h e)
          ∙ ap (λ (ps : List Param). around form l sc i ⹁ ps) (sym x.1))
          (inner q)

      pub walk-on : row_ok form (around form l sc i) r.head r.type (grove l (i + 1) (arity r.head)) ≡ true → walk form l sc (suc n) i ≡ walk
          form l handed (n + arity r.head) (i + 1)
      unfolding walk first_bad stop size
      walk-on q =
          let f = grove l (i + 1) (arity r.head) in
          let s = scope form r.head r.type (tys f) in
          let Γ = around form l sc i in
          let c : i + suc (sizes f) ≡ i + 1 + sizes f = omega arith in
          rw (tree-row l i r r h e)
          (rw q
          (ap (λ (x : ℕ). before (later i (later 1 (first_bads form Γ s f))) (walk form l sc n x)) c
          ∙ ap (λ (o : Option ℕ). before o (walk form l sc n (i + 1 + sizes f))) (later-add i 1 (first_bads form Γ s f))
          ∙ ap (before (later (i + 1) (first_bads form Γ s f))) (walk-agree form l sc handed (i + 1 + sizes f) n (i + 1 + sizes f) behind-same (omega
          arith))
          ∙ kids-walk handed Γ n (arity r.head) (i + 1) s
          (hands v Γ s 0 (arity r.head) (i + 1) sc handed refl fits (λ p. ap (λ (x : ℕ). chain form l handed (v x) (v x)) (zero-add p) ∙
          inner-means p))))

  alone : (o : Option ℕ) → before (later 0 o) None ≡ o
  unfolding before later
  alone None = refl
  alone (Some n) = ap Some (zero-add n)

  -- the whole tree, and no tree
  pub walk-all : (sc : List ℕ) → get_or sc 0 0 ≡ 0 → walk form l sc 1 0 ≡ first_bad form empty (tree_at l 0)
  unfolding walk chain
  walk-all sc e = rw e (alone (first_bad form empty (tree_at l 0)))

  pub walk_none : (sc : List ℕ) (i n : ℕ) → n ≡ 0 → walk form l sc n i ≡ None
  unfolding walk
  walk_none sc i zero e = refl
  walk_none sc i (suc n) e = absurd (omega arith)
