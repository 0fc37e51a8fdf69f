-- A pass over rows that hide none of the names: no tree owed has a mask, and rows that stand side by side are written at once. Assumes nothing.
use Prim.Native.Nat.{ℕ, zero, suc, ◌+◌, ◌-◌, ◌≤◌}
use mathlib.Core.Path.{◌≡◌, refl, ap, sym, ◌∙◌}
use mathlib.Core.Bool.{Bool, true, false, cond, false≢true}
use Rattle.std.specs.Prelude.{Option, None, Some}
use mathlib.Core.List.{List, [], ◌∷◌, ◌++◌, append_assoc}
use native.Mathlib.Omega.{arith}
use lib.Dec.{eqb}
use lib.ListN.{get_or, drop, replicate}
use lib.Seq.{take-add, drop-drop}
use borrow.Author.Tests.{eqb-false, ne_eqb}
use Rattle.meaning.specs.Types.{Form, low, rest}
use Rattle.meaning.specs.Terms.{arity, code, head_from, Row}
use Rattle.meaning.specs.Steps.{◌∨ᵇ◌}
use Rattle.put.specs.Put.{next, pick, mark, fan, at_place, binds, inner, after, standing, below, Descends, Bare, first_row, end_row, chosen}
use Rattle.std.specs.Prelude.{is_some}
use Rattle.put.proofs.Turning.{binds-none, binds-let}

-- NO MASK: nothing is hidden in any tree
abbrev pub unhidden : List ℕ
unhidden = replicate 2048 0

zero-at : (n k : ℕ) → ◌≡◌ {A = ℕ} (get_or (replicate n 0) k 0) 0
zero-at zero k = refl
zero-at (suc n) zero = refl
zero-at (suc n) (suc k) = zero-at n k

pub none_hidden : (k : ℕ) → get_or unhidden k 0 ≡ 0
none_hidden k = zero-at 2048 k

below_none : (n : ℕ) → below unhidden n ≡ replicate n 0
unfolding below
below_none zero = refl
below_none (suc n) = rw (none_hidden n, below_none n) refl

fan-none : (n k : ℕ) (g : ℕ → ℕ) → ((i : ℕ) → g i ≡ 0) → fan n g (replicate k 0) ≡ replicate (n + k) 0
unfolding fan
fan-none zero k g e = let z : 0 + k ≡ k = omega arith in rw z refl
fan-none (suc n) k g e = let z : suc n + k ≡ suc (n + k) = omega arith in rw (z, e 0, fan-none n k (λ i. g (suc i)) (λ i. e (suc i))) refl

pub mark-none : (b : ℕ → Bool) → ((y : ℕ) → b y ≡ false) → (ys : List ℕ) → mark b ys 0 ≡ 0
unfolding mark low rest ◌∨ᵇ◌
mark-none b e [] = refl
mark-none b e (y ∷ ys) = let z : mark b ys 0 ≡ 0 = mark-none b e ys in rw (e y, z) refl

-- a row that is no binder hides nothing
pub bare-other : (form : ℕ → Form) (names : List ℕ) (k n w ty : ℕ) → (k ≡ 6 → ⊥) → (k ≡ 19 → ⊥) → mark (binds form (head_from k n w) ty) names 0 ≡ 0
bare-other form names k n w ty p q = mark-none (binds form (head_from k n w) ty) (λ y. binds-none form k n w ty y p q) names

-- nor does a let whose name is none of them
next-none : (o : Option ℕ) → is_some (next o) ≡ false → is_some o ≡ false
unfolding next
next-none None e = refl
next-none (Some j) e = e

unpicked : (ys : List ℕ) (w : ℕ) (b : ℕ → Bool) → ((y : ℕ) → b y ≡ eqb y w) → is_some (pick ys 0 w) ≡ false → mark b ys 0 ≡ 0
unfolding pick mark low rest ◌∨ᵇ◌
unpicked [] w b e q = refl
unpicked (y ∷ ys) w b e q = by (eqb w y) refl (unpicked ys w b e) q
  where
    by : (c : Bool) → eqb w y ≡ c → (is_some (pick ys 0 w) ≡ false → mark b ys 0 ≡ 0) → is_some (cond c (Some 0) (next (pick ys 0 w))) ≡ false → mark b (y ∷ ys) 0 ≡ 0
    by true p ih q = absurd (false≢true (sym q))
    by false p ih q =
        let z : mark b ys 0 ≡ 0 = ih (next-none (pick ys 0 w) q) in
        let n : b y ≡ false = e y ∙ ne_eqb y w (λ r. eqb-false w y p (sym r)) in
        rw (n, z) refl

pub bare-let : (form : ℕ → Form) (names : List ℕ) (k n w ty : ℕ) → k ≡ 19 → is_some (pick names 0 w) ≡ false → mark (binds form (head_from k n w) ty) names 0 ≡ 0
bare-let form names k n w ty e q = unpicked names w (binds form (head_from k n w) ty) (λ y. binds-let form k n w ty y e) q

module _ (form : ℕ → Form) (names : List ℕ) (r : Row) (b : Bare form names r) where
  inner-none : (i : ℕ) → inner form names r.head r.type 0 i ≡ 0
  unfolding inner at_place
  inner-none i = by (eqb (code r.head) 6) (eqb (code r.head) 19) i
    where
      M : ℕ
      M = mark (binds form r.head r.type) names 0

      by : (a c : Bool) (i : ℕ) → cond a M (cond c (at_place i 0 M) 0) ≡ 0
      by true c i = b
      by false true zero = refl
      by false true (suc i) = b
      by false false i = refl

  pub bare-descends : (owed owed' : ℕ) → owed' ≡ owed - 1 + arity r.head → Descends form names r unhidden unhidden owed owed'
  unfolding after
  bare-descends owed owed' e =
      let a = arity r.head in
      let z : owed' ≡ a + (owed - 1) = omega (arith, e) in
      record {
        long = refl;
        owes = e;
        trees = below_none owed' ∙ ap (λ (n : ℕ). replicate n 0) z ∙ sym (fan-none a (owed - 1) (inner form names r.head r.type 0) inner-none) ∙ rw (none_hidden (owed - 1), below_none (owed - 1)) refl;
      }

-- what is copied for a row, where nothing is hidden
pub first-bare : (names bounds : List ℕ) (r : Row) (i k f : ℕ) → f ≡ first_row bounds i (chosen names r.head 0) → f ≡ first_row bounds i (chosen names r.head (get_or unhidden k 0))
first-bare names bounds r i k f e = rw (none_hidden k) e

pub end-bare : (names bounds : List ℕ) (r : Row) (i k t : ℕ) → t ≡ end_row bounds i (chosen names r.head 0) → t ≡ end_row bounds i (chosen names r.head (get_or unhidden k 0))
end-bare names bounds r i k t e = rw (none_hidden k) e

-- ROWS SIDE BY SIDE
pub standing-join : (l : List (List ℕ)) (a b c : ℕ) → a ≤ b → b ≤ c → standing l a b ++ standing l b c ≡ standing l a c
standing-join l a b c h k =
    let z : c - a ≡ (b - a) + (c - b) = omega arith in
    let y : a + (b - a) ≡ b = omega arith in
    let d : drop b l ≡ drop (b - a) (drop a l) = sym (drop-drop (b - a) a l ∙ ap (λ (i : ℕ). drop i l) y) in
    rw (z, d) (sym (take-add (b - a) (c - b) (drop a l)))

pub standing-none : (l : List (List ℕ)) (a : ℕ) → standing l a a ≡ []
standing-none l a = let z : a - a ≡ 0 = omega arith in rw z refl

-- a row that stands is written with those before it
pub pending_next : (l R R' P X : List (List ℕ)) (from i f t : ℕ) → from ≤ i → f ≡ i → t ≡ i + 1 → R ≡ standing l f t ++ R' → P ++ (standing l from i ++ R) ≡ X → P ++ (standing l from (i + 1) ++ R') ≡ X
pending_next l R R' P X from i f t h ef et r e =
    let s : standing l from i ++ R ≡ standing l from (i + 1) ++ R' =
    ap (λ (v : List (List ℕ)). standing l from i ++ v) (r ∙ ap (λ (a : ℕ). standing l a t ++ R') ef ∙ ap (λ (b : ℕ). standing l i b ++ R') et)
    ∙ sym (append_assoc (standing l from i) (standing l i (i + 1)) R') ∙ ap (λ (v : List (List ℕ)). v ++ R') (standing-join l from i (i + 1) h (omega arith)) in
    ap (λ (v : List (List ℕ)). P ++ v) (sym s) ∙ e
