-- Where no row of a tree fails, each of its rows keeps its rule. Assumes nothing.
use mathlib.Core.Path.{◌≡◌, refl, ap, sym, ◌∙◌}
use mathlib.Core.Bool.{Bool, true, false, not, false≢true}
use mathlib.Core.List.{List, [], ◌∷◌}
use Rattle.std.specs.Prelude.{Option, None, Some}
use Prim.Native.Nat.{ℕ, zero, suc, ◌+◌, ◌*◌, ◌/◌, ◌<◌}
use native.Mathlib.Omega.{arith}
use native.Mathlib.Nat.{add-zero, add-suc}
use lib.ListN.{length, drop, length-map}
use Rattle.meaning.specs.Bytes.{read, term_row}
use Rattle.layout.specs.Rows.{row_table, term_rows}
use Rattle.layout.proofs.Tables.{row-table-length}
use Rattle.terms.specs.Tables.{Closed}
use Rattle.terms.proofs.Scan.{row-in}
use Rattle.rules.specs.Forms.{forms}
use Rattle.typing.proofs.Judging.{judged-any}
use Rattle.meaning.specs.Types.{Form, Param, Ctx, empty, ◌⹁◌}
use Rattle.meaning.specs.Terms.{arity, Tree, Row, size, sizes, kids, trees, top, blank, tree_at, tree_of, row_of}
use Rattle.meaning.specs.Typing.{tys, scope, stop, later, before, first_bad, first_bads}
use Rattle.meaning.proofs.Trees.Parse.{sizes-split, tree-at-zero}
use Rattle.typing.specs.Scope.{judged}

stop-none : (b : Bool) (o : Option ℕ) → stop b o ≡ None → (b ≡ true) × (o ≡ None)
unfolding stop
stop-none true o e = (refl, e)
stop-none false o e = let z : ◌≡◌ {A = ℕ} 0 1 = cc in absurd (omega arith)

later-none : (n : ℕ) (o : Option ℕ) → later n o ≡ None → o ≡ None
unfolding later
later-none n None e = refl
later-none n (Some i) e = let z : ◌≡◌ {A = ℕ} 0 1 = cc in absurd (omega arith)

before-none : (o p : Option ℕ) → before o p ≡ None → (o ≡ None) × (p ≡ None)
unfolding before
before-none None p e = (refl, e)
before-none (Some i) p e = let z : ◌≡◌ {A = ℕ} 0 1 = cc in absurd (omega arith)

module _ (form : ℕ → Form) where
  -- no row of a tree fails, below some names
  pub record Good (t : Tree) : Type 0 where
    pub names : Ctx
    pub right : first_bad form names t ≡ None

  -- the first n trees are such
  GoodN : ℕ → List Tree → Type 0
  GoodN zero ts = Unit {0}
  GoodN (suc n) [] = Unit {0}
  GoodN (suc n) (t ∷ ts) = Good t × GoodN n ts

  children-good : (Γ : Ctx) (s : ℕ → List Param) (n : ℕ) (ts : List Tree) → first_bads form Γ s (kids n ts) ≡ None → GoodN n ts
  unfolding GoodN first_bads kids
  children-good Γ s zero ts e = tt
  children-good Γ s (suc n) [] e = tt
  children-good Γ s (suc n) (t ∷ ts) e =
      let b = before-none (first_bad form (Γ ⹁ s 0) t) (later (size t) (first_bads form Γ (λ i. s (suc i)) (kids n ts))) e in
      (record { names = Γ ⹁ s 0; right = b.0 }, children-good Γ (λ i. s (suc i)) n ts (later-none (size t) _ b.1))

  both-good : (a n : ℕ) (ts : List Tree) → GoodN a ts → GoodN n (drop a ts) → GoodN (n + a) ts
  unfolding GoodN
  both-good zero n ts g h = rw (add-zero n) h
  both-good (suc a) n [] g h = rw (add-suc n a) tt
  both-good (suc a) n (t ∷ ts) g h = rw (add-suc n a) (g.0, both-good a n ts g.1 h)

  -- the first row of a tree keeps its rule below some names
  pub record Keeps (t : Tree) : Type 0 where
    pub names : Ctx
    pub right : judged form names t ≡ true

  everywhere : (rs : List Row) (n i : ℕ) → GoodN n (trees rs) → i < length rs → i < sizes (kids n (trees rs)) → Keeps (top (trees (drop i rs)))
  unfolding GoodN trees kids top size first_bad judged
  everywhere [] n i g h z = absurd (omega arith)
  everywhere (r ∷ rs) zero i g h z = absurd (omega arith)
  everywhere (r ∷ rs) (suc n) zero g h z =
      record { names = g.0.names; right = (stop-none _ _ g.0.right).0 }
  everywhere (r ∷ rs) (suc n) (suc i) g h z =
      let a = arity r.head in
      let f = children-good g.0.names (scope form r.head r.type (tys (kids a (trees rs)))) a (trees rs) (later-none 1 _ (stop-none _ _ g.0.right).1) in
      everywhere rs (n + a) i (both-good a n (trees rs) f g.1) (omega arith) (omega (arith, sizes-split a n (trees rs)))

  first-size : (ts : List Tree) → sizes (kids 1 ts) ≡ size (top ts)
  unfolding kids top size blank
  first-size [] = refl
  first-size (t ∷ ts) = omega arith

  first_good : (Γ : Ctx) (ts : List Tree) → first_bad form Γ (top ts) ≡ None → GoodN 1 ts
  unfolding GoodN top
  first_good Γ [] e = tt
  first_good Γ (t ∷ ts) e = (record { names = Γ; right = e }, tt)

  -- EACH ROW of a tree none of whose rows fails
  pub each_row : (l : List Row) (Γ : Ctx) (i : ℕ) → first_bad form Γ (tree_of l) ≡ None → size (tree_at l 0) ≡ length l → i < length l → Keeps (tree_at l i)
  unfolding tree_at
  each_row l Γ i e w h = everywhere l 1 i (first_good Γ (trees l) (ap (first_bad form Γ) (tree-at-zero l) ∙ e)) h (omega (arith, first-size (trees l), w))

-- so a row that breaks its rule, and that is no variable, shows that one fails
pub row-wrong : (s : List (List ℕ)) (b : List ℕ) (i k n ty w : ℕ) → i < length b / 8 → k ∷ n ∷ ty ∷ w ∷ [] ≡ read term_row (drop (8 * i) b) → (k ≡ 5 → ⊥) → Closed (term_rows b) (length b / 8)
    → (x : Bool) → x ≡ judged (forms s) empty (tree_at (term_rows b) i) → not x ≡ true → first_bad (forms s) empty (tree_of (term_rows b)) ≡ None → ⊥
row-wrong s b i k n ty w h e v closed x xe nx g =
    let r = row-in b i (k ∷ n ∷ ty ∷ w ∷ []) h e in
    let l = term_rows b in
    let rows : length l ≡ length b / 8 = length-map (row_table b) row_of ∙ row-table-length b in
    let kept = each_row (forms s) l empty i g (closed.one ∙ sym rows) r.0 in
    let t : x ≡ true = xe ∙ judged-any s b i k n ty w h e kept.names v ∙ kept.right in
    false≢true (sym (ap not t) ∙ nx)
