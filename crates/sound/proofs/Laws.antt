-- Tests joined, tests of every element, and bytes that are all zero. Assumes nothing.
use Prim.Native.Nat.{ℕ, zero, suc, ◌+◌, ◌*◌, ◌-◌, ◌<◌, ◌≤◌, max}
use mathlib.Core.Path.{◌≡◌, refl, ap, sym, ◌∙◌}
use mathlib.Core.Bool.{Bool, true, false, cond}
use mathlib.Core.List.{List, [], ◌∷◌, ◌++◌}
use Rattle.std.specs.Prelude.{Option, None, Some}
use native.Mathlib.Omega.{arith}
use native.Mathlib.Numerals.{add-one}
use borrow.Author.Tests.{eqb-false, not-true, eq-eqb, ne_eqb}
use lib.Dec.{eqb}
use lib.ListN.{length, get_or, take, drop, length-drop, drop_of_length-le}
use lib.Seq.{drop-cons, take-suc, take_all, take-add, length-take-le}
use Rattle.meaning.specs.Bytes.{◌∧ᵇ◌, zeros}
use Rattle.meaning.specs.Terms.{kind_no, type_no, word_no}
use Rattle.meaning.specs.Typing.{given}
use Rattle.meaning.specs.Records.{Entry, nothing, first_not, listed, future_listed}
use Rattle.meaning.specs.Entries.{no_future}
use Rattle.meaning.proofs.Trees.Tests.{left, right}

-- Tests joined ---------------------------------------------------------------------------------------------------

pub fails : (a b : Bool) → a ≡ false → (a ∧ᵇ b) ≡ false
unfolding ◌∧ᵇ◌
fails a b e = rw e refl

pub passes : (a b : Bool) → a ≡ true → (a ∧ᵇ b) ≡ b
unfolding ◌∧ᵇ◌
passes a b e = rw e refl

pub some-there : (o : Option ℕ) → (o ≡ None → ⊥) → false ≡ nothing o
unfolding nothing
some-there None n = absurd (n refl)
some-there (Some i) n = refl

-- A test of every element ----------------------------------------------------------------------------------------

module _ {A : Type 0} (p : A → Bool) where
  pub every_more : (x : A) (xs : List A) → nothing (first_not p (x ∷ xs)) ≡ (p x ∧ᵇ nothing (first_not p xs))
  unfolding nothing first_not ◌∧ᵇ◌
  every_more x xs = go (p x) (first_not p xs)
    where
      go : (b : Bool) (o : Option ℕ) → nothing (cond b (elim o [ None ↦ None | Some i ↦ Some (suc i) ]) (Some 0)) ≡ (b ∧ᵇ nothing o)
      go true None = refl
      go true (Some i) = refl
      go false o = refl

  module _ (l : List A) (i : ℕ) where
    module _ (d x : A) (h : i < length l) (e : get_or l i d ≡ x) where
      here : drop i l ≡ x ∷ drop (i + 1) l
      here = rw (add-one, drop-cons l i d, e)

      pub every-on : p x ≡ true → nothing (first_not p (drop i l)) ≡ nothing (first_not p (drop (i + 1) l))
      every-on q = rw here (every_more x (drop (i + 1) l) ∙ passes (p x) _ q)

      pub every-not : p x ≡ false → nothing (first_not p (drop i l)) ≡ false
      every-not q = rw here (every_more x (drop (i + 1) l) ∙ fails (p x) _ q)

    pub every-end : length l ≤ i → nothing (first_not p (drop i l)) ≡ true
    unfolding nothing first_not
    every-end h = rw (drop_of_length-le l h)

-- Futures --------------------------------------------------------------------------------------------------------

module _ (calls : List Entry) (r : List ℕ) where
  pub other-kind : (kind_no r ≡ 9 → ⊥) → future_listed calls r ≡ true
  unfolding future_listed
  other-kind n = rw (ne_eqb _ _ n)

  pub a-future : kind_no r ≡ 9 → future_listed calls r ≡ given (listed calls (word_no r)) (type_no r)
  unfolding future_listed
  a-future n = rw (eq-eqb _ _ n)

-- where there is no future, none is to be listed
pub none-to-list : (calls : List Entry) (rows : List (List ℕ)) → nothing (first_not no_future rows) ≡ true → nothing (first_not (future_listed calls) rows) ≡ true
unfolding no_future
none-to-list calls [] e = every-end (future_listed calls) [] 0 (omega arith)
none-to-list calls (r ∷ rows) e =
    let both = sym (every_more no_future r rows) ∙ e in
    let other = other-kind calls r (eqb-false _ _ (not-true _ (left _ _ both))) in
    every_more (future_listed calls) r rows ∙ passes _ _ other ∙ none-to-list calls rows (right _ _ both)

-- The greatest byte ---------------------------------------------------------------------------------------------

pub total : List ℕ → ℕ
total [] = 0
total (b ∷ s) = b + total s

total-joined : (s t : List ℕ) → total (s ++ t) ≡ total s + total t
unfolding total
total-joined [] t = omega arith
total-joined (b ∷ s) t = omega (arith, total-joined s t)

total-next : (s : List ℕ) (i : ℕ) → i < length s → total (take (i + 1) s) ≡ total (take i s) + get_or s i 0
unfolding total
total-next s i h =
    let e : take (i + 1) s ≡ take i s ++ (get_or s i 0 ∷ []) = rw add-one (take-suc s i 0 h) in
    omega (arith, ap total e, total-joined (take i s) (get_or s i 0 ∷ []))

-- a number is 0 only if all bytes are, and not more than their sum: so is the greatest of them
pub record Bounds (s : List ℕ) (m : ℕ) : Type 0 where
  pub none_left : m ≡ 0 → total s ≡ 0
  pub at_most : m ≤ total s

pub bounds-none : (s : List ℕ) → Bounds (take 0 s) 0
unfolding total
bounds-none s = record { none_left = λ e. refl; at_most = omega arith }

pub bounds-more : (s : List ℕ) (i m : ℕ) → i < length s → Bounds (take i s) m → Bounds (take (i + 1) s) (max m (get_or s i 0))
bounds-more s i m h e =
    let more = total-next s i h in
    record { none_left = λ z. omega (arith, e.none_left (omega arith)); at_most = omega (arith, e.at_most) }

zero-total : (s : List ℕ) → eqb (total s) 0 ≡ zeros s
unfolding total zeros ◌∧ᵇ◌
zero-total [] = refl
zero-total (zero ∷ s) = let e : 0 + total s ≡ total s = omega arith in rw e (zero-total s)
zero-total (suc b ∷ s) = ne_eqb (suc b + total s) 0 (λ e. omega arith) ∙ sym (fails (eqb (suc b) 0) (zeros s) (ne_eqb (suc b) 0 (λ e. omega arith)))

bounds-told : (s : List ℕ) (m : ℕ) → Bounds s m → eqb m 0 ≡ zeros s
bounds-told s m e = go m e ∙ zero-total s
  where
    go : (n : ℕ) → Bounds s n → eqb n 0 ≡ eqb (total s) 0
    go zero b = rw (b.none_left refl)
    go (suc n) b = ne_eqb (suc n) 0 (λ z. omega arith) ∙ sym (ne_eqb (total s) 0 (λ z. omega (arith, b.at_most)))

pub bounds-all : (s : List ℕ) (i m : ℕ) → length s ≤ i → Bounds (take i s) m → eqb m 0 ≡ zeros s
bounds-all s i m h e = bounds-told s m (rw (← (take_all i s h)) e)

-- the first bytes of four parts
abbrev pub fronts : List ℕ → List ℕ → List ℕ → List ℕ → ℕ → List ℕ
fronts a b c d i = take i a ++ take i b ++ take i c ++ take i d

total-four : (a b c d : List ℕ) → total (a ++ b ++ c ++ d) ≡ total a + total b + total c + total d
total-four a b c d = omega (arith, total-joined (a ++ b ++ c) d, total-joined (a ++ b) c, total-joined a b)

module _ (a b c d : List ℕ) where
  pub fronts-none : Bounds (fronts a b c d 0) 0
  unfolding total
  fronts-none = record { none_left = λ e. refl; at_most = omega arith }

  module _ (i m : ℕ) where
    pub fronts-more : i < length a → i < length b → i < length c → i < length d → Bounds (fronts a b c d i) m
        → Bounds (fronts a b c d (i + 1)) (max m (max (max (get_or a i 0) (get_or b i 0)) (max (get_or c i 0) (get_or d i 0))))
    fronts-more ha hb hc hd e =
        let so_far = total-four (take i a) (take i b) (take i c) (take i d) in
        let then = total-four (take (i + 1) a) (take (i + 1) b) (take (i + 1) c) (take (i + 1) d) in
        let na = total-next a i ha in
        let nb = total-next b i hb in
        let nc = total-next c i hc in
        let nd = total-next d i hd in
        record { none_left = λ z. omega (arith, e.none_left (omega arith)); at_most = omega (arith, e.at_most) }

    pub fronts-all : length a ≤ i → length b ≤ i → length c ≤ i → length d ≤ i → Bounds (fronts a b c d i) m → eqb m 0 ≡ zeros (a ++ b ++ c ++ d)
    fronts-all ha hb hc hd e = bounds-told (a ++ b ++ c ++ d) m (rw (← (take_all i a ha), ← (take_all i b hb), ← (take_all i c hc), ← (take_all i d hd)) e)

-- Bytes cut into parts --------------------------------------------------------------------------------------------

swapped : (a b c : Bool) → (a ∧ᵇ (b ∧ᵇ c)) ≡ (b ∧ᵇ (a ∧ᵇ c))
unfolding ◌∧ᵇ◌
swapped true b c = refl
swapped false true c = refl
swapped false false c = refl

-- the bytes behind may be asked first
zeros-joined : (s t : List ℕ) → zeros (s ++ t) ≡ (zeros t ∧ᵇ zeros s)
unfolding zeros ◌∧ᵇ◌
zeros-joined [] t = go (zeros t)
  where
    go : (b : Bool) → b ≡ (b ∧ᵇ true)
    go true = refl
    go false = refl
zeros-joined (b ∷ s) t = ap (λ (x : Bool). eqb b 0 ∧ᵇ x) (zeros-joined s t) ∙ swapped (eqb b 0) (zeros t) (zeros s)

next-part : (s : List ℕ) (p q : ℕ) → p ≤ q → take p s ++ take (q - p) (drop p s) ≡ take q s
next-part s p q h =
    let e : p + (q - p) ≡ q = omega arith in
    sym (take-add p (q - p) s) ∙ ap (λ (n : ℕ). take n s) e

-- four parts of one length, and what is behind them
abbrev pub quarters : List ℕ → ℕ → List ℕ
quarters s h = take h s ++ take (2 * h - h) (drop h s) ++ take (3 * h - 2 * h) (drop (2 * h) s) ++ take (4 * h - 3 * h) (drop (3 * h) s)

module _ (s : List ℕ) (h : ℕ) (room : 4 * h ≤ length s) where
  quarters-front : quarters s h ≡ take (4 * h) s
  quarters-front = rw (next-part s h (2 * h) (omega arith), next-part s (2 * h) (3 * h) (omega arith), next-part s (3 * h) (4 * h) (omega arith)) refl

  pub quarters-zero : zeros s ≡ (zeros (take (length s - 4 * h) (drop (4 * h) s)) ∧ᵇ zeros (quarters s h))
  quarters-zero =
      ap zeros (sym (next-part s (4 * h) (length s) room ∙ take_all (length s) s (omega arith)))
      ∙ zeros-joined (take (4 * h) s) (take (length s - 4 * h) (drop (4 * h) s))
      ∙ rw quarters-front refl

  part_length : (p q : ℕ) → q ≤ 4 * h → length (take (q - p) (drop p s)) ≡ q - p
  part_length p q k = length-take-le (q - p) (drop p s) (rw length-drop (omega arith))

  pub first-length : length (take h s) ≡ h
  first-length = length-take-le h s (omega arith)

  pub quarters-length : (length (take (2 * h - h) (drop h s)) ≡ length (take h s)) × (length (take (3 * h - 2 * h) (drop (2 * h) s)) ≡ length (take h s)) × (length (take (4 * h - 3 * h) (drop (3 * h) s)) ≡ length (take h s))
  quarters-length =
      let first = first-length in
      (omega (arith, part_length h (2 * h) (omega arith)), omega (arith, part_length (2 * h) (3 * h) (omega arith)), omega (arith, part_length (3 * h) (4 * h) (omega arith)))
