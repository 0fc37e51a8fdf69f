-- One turn of each loop. Assumes nothing.
use Prim.Native.Nat.{ℕ, zero, suc, ◌+◌, ◌*◌, ◌-◌, ◌≤◌, ◌<◌}
use mathlib.Core.Path.{◌≡◌, refl, ap, sym, ◌∙◌}
use mathlib.Core.Bool.{Bool, true, false, cond}
use mathlib.Core.List.{List, [], ◌∷◌, ◌++◌}
use Rattle.std.specs.Prelude.{Option, None, Some}
use native.Mathlib.Omega.{arith}
use native.Mathlib.Numerals.{add-one}
use lib.Dec.{eqb}
use lib.ListN.{length, get_or, set, take, drop, replicate, drop_of_length-le, length-drop, length-set, length-replicate, get_or-append}
use Rattle.std.proofs.lemmas.List.{get_or-append_right, get_or-replicate}
use lib.Seq.{length-take-le, get_or-take, drop-cons, get_or-set_same, get_or-set_other}
use borrow.Author.Tests.{eq-eqb, ne_eqb}
use Rattle.meaning.specs.Types.{Form, params, find, low, rest}
use Rattle.meaning.specs.Terms.{arity, code, word_of, head_from, Row}
use Rattle.meaning.specs.Steps.{◌∨ᵇ◌}
use Rattle.terms.specs.Masks.{bit}
use Rattle.terms.proofs.ByNumber.{kind-told}
use Rattle.put.specs.Put.{next, pick, mark, fan, at_place, binds, inner, after, chosen, below, first_row, end_row, Descends}
use Rattle.std.specs.Prelude.{is_some}

-- The place of a name --------------------------------------------------------------------------------------------

unfoldable pub shift : ℕ → Option ℕ → Option ℕ
shift k None = None
shift k (Some j) = Some (k + j)

pub shift_none : (k : ℕ) (o : Option ℕ) → o ≡ None → shift k o ≡ None
unfolding shift
shift_none k o e = rw e refl

shift-next : (k : ℕ) (o : Option ℕ) → shift k (next o) ≡ shift (k + 1) o
unfolding shift next
shift-next k None = refl
shift-next k (Some j) = let e : k + suc j ≡ k + 1 + j = omega arith in ap Some e

pub shift_zero : (o : Option ℕ) → shift 0 o ≡ o
unfolding shift
shift_zero None = refl
shift_zero (Some j) = let e : 0 + j ≡ j = omega arith in ap Some e

pub pick_end : (ys : List ℕ) (k h x : ℕ) → length ys ≤ k → shift k (pick (drop k ys) h x) ≡ None
unfolding pick
pick_end ys k h x i = shift_none k _ (rw (drop_of_length-le ys i) refl)

-- What a row binds -----------------------------------------------------------------------------------------------

module _ (form : ℕ → Form) (k n w ty y : ℕ) where
  pub binds-fun : k ≡ 6 → binds form (head_from k n w) ty y ≡ is_some (find (params (form ty)) y)
  unfolding binds
  binds-fun e = rw (kind-told k n w 6 (omega arith) (omega arith), eq-eqb k 6 e) refl

  pub binds-let : k ≡ 19 → binds form (head_from k n w) ty y ≡ eqb y w
  unfolding binds head_from code word_of
  binds-let e = rw e refl

  pub binds-none : (k ≡ 6 → ⊥) → (k ≡ 19 → ⊥) → binds form (head_from k n w) ty y ≡ false
  unfolding binds
  binds-none p q = rw (kind-told k n w 6 (omega arith) (omega arith), kind-told k n w 19 (omega arith) (omega arith), ne_eqb k 6 p, ne_eqb k 19 q) refl

-- The rows that are copied ---------------------------------------------------------------------------------------

module _ (ys : List ℕ) (k n w m : ℕ) where
  pub chosen-var : k ≡ 5 → chosen ys (head_from k n w) m ≡ pick ys m w
  unfolding chosen head_from code word_of
  chosen-var e = rw e refl

  pub chosen_none : (k ≡ 5 → ⊥) → chosen ys (head_from k n w) m ≡ None
  unfolding chosen
  chosen_none e = rw (kind-told k n w 5 (omega arith) (omega arith), ne_eqb k 5 e) refl

module _ (bounds : List ℕ) (i : ℕ) (o : Option ℕ) where
  pub span-at : (j a b : ℕ) → o ≡ Some j → a ≡ get_or bounds j 0 → b ≡ get_or bounds (j + 1) 0 → (a ≡ first_row bounds i o) × (b ≡ end_row bounds i o)
  unfolding first_row end_row
  span-at j a b e p q = rw e (p, q)

  pub span-own : o ≡ None → (i ≡ first_row bounds i o) × (i + 1 ≡ end_row bounds i o)
  unfolding first_row end_row
  span-own e = rw e (refl, refl)

-- Masks ----------------------------------------------------------------------------------------------------------

pub or_left : (a b : Bool) → a ≡ true → true ≡ (a ∨ᵇ b)
unfolding ◌∨ᵇ◌
or_left a b e = rw e refl

pub or_right : (a b : Bool) → a ≡ false → b ≡ (a ∨ᵇ b)
unfolding ◌∨ᵇ◌
or_right a b e = rw e refl

unfoldable pub rests : ℕ → ℕ → ℕ
rests zero m = m
rests (suc k) m = rest (rests k m)

rests-in : (k m : ℕ) → rests k (rest m) ≡ rest (rests k m)
unfolding rests
rests-in zero m = refl
rests-in (suc k) m = ap rest (rests-in k m)

bit-rests : (j m : ℕ) → bit m j ≡ low (rests j m)
unfolding bit rests
bit-rests zero m = refl
bit-rests (suc j) m = bit-rests j (rest m) ∙ ap low (rests-in j m)

module _ (ys : List ℕ) (m k x y : ℕ) (i : k < length ys) (e : y ≡ get_or ys k 0) where
  front : drop k ys ≡ y ∷ drop (k + 1) ys
  front = rw (add-one k) (drop-cons ys k 0 i ∙ ap (λ (z : ℕ). z ∷ drop (suc k) ys) (sym e))

  pub pick-on : (y ≡ x → ⊥) → shift (k + 1) (pick (drop (k + 1) ys) (rests (k + 1) m) x) ≡ shift k (pick (drop k ys) (rests k m) x)
  unfolding pick rests
  pick-on n =
      let z : rests (k + 1) m ≡ rest (rests k m) = rw (add-one k) refl in
      rw (z, front, ne_eqb x y (λ q. n (sym q))) (sym (shift-next k (pick (drop (k + 1) ys) (rest (rests k m)) x)))

  pub pick-hidden : y ≡ x → bit m k ≡ true → shift k (pick (drop k ys) (rests k m) x) ≡ None
  unfolding pick
  pick-hidden q b = let l : low (rests k m) ≡ true = sym (bit-rests k m) ∙ b in shift_none k _ (rw (front, eq-eqb x y (sym q), l) refl)

  pub pick-here : y ≡ x → bit m k ≡ false → shift k (pick (drop k ys) (rests k m) x) ≡ Some k
  unfolding pick shift
  pick-here q b =
      let l : low (rests k m) ≡ false = sym (bit-rests k m) ∙ b in
      let z : k + 0 ≡ k = omega arith in
      rw (front, eq-eqb x y (sym q), l) (ap Some z)

module _ (b : ℕ → Bool) (ys : List ℕ) (m : ℕ) where
  pub mark-start : (k : ℕ) → length ys ≤ k → 0 ≡ mark b (drop k ys) (rests k m)
  unfolding mark
  mark-start k h = rw (drop_of_length-le ys h) refl

  pub mark-more : (k x y : ℕ) (h : Bool) → 0 < k → k ≤ length ys → y ≡ get_or ys (k - 1) 0 → h ≡ (bit m (k - 1) ∨ᵇ b y) → x ≡ mark b (drop k ys) (rests k m)
      → cond h 1 0 + 2 * x ≡ mark b (drop (k - 1) ys) (rests (k - 1) m)
  unfolding mark rests
  mark-more zero x y h p q e f g = absurd (omega arith)
  mark-more (suc j) x y h p q e f g =
      let z : suc j - 1 ≡ j = omega arith in
      let e' : y ≡ get_or ys j 0 = rw z at e in
      let f' : h ≡ (bit m j ∨ᵇ b y) = rw z at f in
      rw (z, drop-cons ys j 0 (omega arith), f', e', g, bit-rests j m) refl

  pub mark-end : (k x : ℕ) → k ≡ 0 → x ≡ mark b (drop k ys) (rests k m) → x ≡ mark b ys m
  unfolding rests
  mark-end k x e g = rw e at g

unfoldable room : ℕ → ℕ
room zero = 1
room (suc n) = 2 * room n

mark-room : (b : ℕ → Bool) (ys : List ℕ) (m n : ℕ) → length ys ≤ n → mark b ys m < room n
unfolding mark room
mark-room b [] m zero h = omega arith
mark-room b [] m (suc n) h = let q = mark-room b [] m n (omega arith) in omega (arith, q)
mark-room b (y ∷ ys) m zero h = absurd (omega arith)
mark-room b (y ∷ ys) m (suc n) h = by_bit (low m ∨ᵇ b y) (mark-room b ys (rest m) n (omega arith))
  where
    by_bit : (c : Bool) → mark b ys (rest m) < room n → cond c 1 0 + 2 * mark b ys (rest m) < 2 * room n
    by_bit true q = omega (arith, q)
    by_bit false q = omega (arith, q)

pub mark-small : (b : ℕ → Bool) (ys : List ℕ) (m k x : ℕ) → 0 < k → length ys ≤ 8 → x ≡ mark b (drop k ys) (rests k m) → x < 128
unfolding room
mark-small b ys m k x p h e = rw e (mark-room b (drop k ys) (rests k m) 7 (rw length-drop (omega arith)))

-- Behind a row ---------------------------------------------------------------------------------------------------

below_set : (s : List ℕ) (i v k : ℕ) → k ≤ i → below (set s i v) k ≡ below s k
unfolding below
below_set s i v zero h = refl
below_set s i v (suc k) h = rw (get_or-set_other s i k v 0 (λ q. omega arith), below_set s i v k (omega arith)) refl

below_top : (s : List ℕ) (k j v : ℕ) → k ≡ suc j → j < length s → below (set s j v) k ≡ v ∷ below s j
unfolding below
below_top s k j v e h = rw (e, get_or-set_same s j v 0 h, below_set s j v j (omega arith)) refl

pub below_on : (s : List ℕ) (k j : ℕ) → k ≡ suc j → below s k ≡ get_or s j 0 ∷ below s j
unfolding below
below_on s k j e = rw e refl

fan-same : (n : ℕ) (f g : ℕ → ℕ) (ms : List ℕ) → ((i : ℕ) → f i ≡ g i) → fan n f ms ≡ fan n g ms
unfolding fan
fan-same zero f g ms e = refl
fan-same (suc n) f g ms e = rw (e 0, fan-same n (λ i. f (suc i)) (λ i. g (suc i)) ms (λ i. e (suc i))) refl

-- the first masks, and behind them some that are all the same
module _ (masks : List ℕ) (top m a : ℕ) (R : List ℕ) (fits : top ≤ length masks) where
  abbrev X : List ℕ
  X = take top masks ++ (replicate a m ++ R)

  below-front : (k : ℕ) → k ≤ top → below X k ≡ below masks k
  unfolding below
  below-front zero h = refl
  below-front (suc k) h =
      let f : get_or X k 0 ≡ get_or masks k 0 = get_or-append (take top masks) (replicate a m ++ R) 0 k (rw (length-take-le top masks fits) h) ∙ get_or-take top masks k 0 h in
      rw (f, below-front k (omega arith)) refl

  filled-at : (j : ℕ) → j < a → get_or X (top + j) 0 ≡ m
  filled-at j h =
      let z : top + j - top ≡ j = omega arith in
      get_or-append_right (take top masks) (replicate a m ++ R) top (top + j) 0 (length-take-le top masks fits) (omega arith)
      ∙ ap (λ (i : ℕ). get_or (replicate a m ++ R) i 0) z
      ∙ get_or-append (replicate a m) R 0 j (rw length-replicate h)
      ∙ get_or-replicate a j m 0 h

  below-filled : (n : ℕ) → n ≤ a → below X (top + n) ≡ fan n (λ i. m) (below masks top)
  unfolding below fan
  below-filled zero h = let z : top + 0 ≡ top = omega arith in rw z (below-front top (omega arith))
  below-filled (suc n) h = let z : top + suc n ≡ suc (top + n) = omega arith in rw (z, filled-at n h, below-filled n (omega arith)) refl

pub let-two : (k n w : ℕ) → k ≡ 19 → arity (head_from k n w) ≡ 2
unfolding head_from
let-two k n w e = rw e refl

module _ (form : ℕ → Form) (names : List ℕ) (k n w ty : ℕ) (masks : List ℕ) (owed : ℕ) (some-owed : 0 < owed) (fits : owed ≤ length masks) where
  abbrev R : Row
  R = record { head = head_from k n w; type = ty }

  abbrev m : ℕ
  m = get_or masks (owed - 1) 0

  pub step-fun : (v a : ℕ) → k ≡ 6 → v ≡ mark (binds form (head_from k n w) ty) names m → a ≡ arity (head_from k n w) → Descends form names R masks (set masks (owed - 1) v) owed (owed - 1 + a)
  unfolding after fan inner head_from code
  step-fun v a e q p =
      let one : a ≡ 1 = rw e at p in
      record {
        long = length-set masks (owed - 1) v;
        owes = ap (λ (x : ℕ). owed - 1 + x) p;
        trees = below_top masks (owed - 1 + a) (owed - 1) v (omega arith) (omega arith) ∙ rw (q, e) refl;
      }

  pub step-let : (v a : ℕ) → k ≡ 19 → v ≡ mark (binds form (head_from k n w) ty) names m → a ≡ arity (head_from k n w) → owed - 1 + arity (head_from k n w) ≤ length masks
      → Descends form names R masks (set (set masks (owed - 1) v) owed m) owed (owed - 1 + a)
  unfolding after fan inner head_from code at_place
  step-let v a e q p h =
      let two : a ≡ 2 = rw e at p in
      let z : owed - 1 + a ≡ suc owed = omega arith in
      record {
        long = length-set (set masks (owed - 1) v) owed m ∙ length-set masks (owed - 1) v;
        owes = ap (λ (x : ℕ). owed - 1 + x) p;
        trees = below_top (set masks (owed - 1) v) (owed - 1 + a) owed m z (rw (length-set masks (owed - 1) v) (omega (arith, h, p))) ∙ ap (λ (x : List ℕ). m ∷ x) (below_top masks owed (owed - 1) v (omega arith) (omega arith)) ∙ rw (q, e) refl;
      }

  inner-other : (k ≡ 6 → ⊥) → (k ≡ 19 → ⊥) → (i : ℕ) → m ≡ inner form names (head_from k n w) ty m i
  unfolding inner
  inner-other p q i = rw (kind-told k n w 6 (omega arith) (omega arith), kind-told k n w 19 (omega arith) (omega arith), ne_eqb k 6 p, ne_eqb k 19 q) refl

  pub step_other : (ys rest : List ℕ) (a l : ℕ) → (k ≡ 6 → ⊥) → (k ≡ 19 → ⊥) → a ≡ arity (head_from k n w) → length (take (owed - 1) masks ++ (ys ++ rest)) ≡ length masks → ys ≡ replicate l m → l ≡ a
      → Descends form names R masks (take (owed - 1) masks ++ (ys ++ rest)) owed (owed - 1 + a)
  unfolding after
  step_other ys rest a l p q e g f z =
      record {
        long = g;
        owes = ap (λ (y : ℕ). owed - 1 + y) e;
        trees = ap (λ (y : List ℕ). below (take (owed - 1) masks ++ (y ++ rest)) (owed - 1 + a)) (f ∙ ap (λ (y : ℕ). replicate y m) z)
            ∙ below-filled masks (owed - 1) m a rest (omega arith) a (omega arith)
            ∙ ap (λ (y : ℕ). fan y (λ i. m) (below masks (owed - 1))) e
            ∙ fan-same (arity (head_from k n w)) (λ i. m) (inner form names (head_from k n w) ty m) (below masks (owed - 1)) (inner-other p q);
      }
