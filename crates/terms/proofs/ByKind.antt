-- The tables by kind: children, and the ranges of fields. Assumes nothing.
use Prim.Native.Nat.{ℕ, zero, suc, ◌+◌, ◌*◌, ◌/◌, ◌%◌, ◌^◌, ◌<◌, ◌≤◌}
use mathlib.Core.Path.{◌≡◌, refl, ap, sym, subst}
use mathlib.Core.Bool.{Bool, true, false, cond}
use mathlib.Core.List.{List, [], ◌∷◌}
use Rattle.std.specs.Prelude.{None}
use native.Mathlib.Omega.{arith}
use native.Mathlib.Decide.{ℕ_discrete, dec_lt}
use lib.Dec.{leb}
use borrow.Author.Tests.{ne_eqb, le-leb, lt-leb, lt-ltb}
use lib.ListN.{get_or}
use Rattle.meaning.specs.Bytes.{◌∧ᵇ◌, within}
use Rattle.meaning.specs.Terms.{lit, str, arity, head_from, kind_no, type_no, Fields, words-from, none-used, kind_fields, last_kind, within_one, fits, row_fault}
use Rattle.terms.specs.Tables.{unused, range_table, child_table}
use Rattle.terms.specs.declared.Ranges.{Ranges}

-- a fact of each number below n, by its cases
abbrev pub Below : (ℕ → Type 0) → ℕ → Type 0
Below P zero = Unit {0}
Below P (suc n) = Below P n × P n

pub below : (P : ℕ → Type 0) (n : ℕ) → Below P n → (k : ℕ) → k < n → P k
below P zero b k h = absurd (omega arith)
below P (suc n) (b, p) k h = elim (ℕ_discrete k n) [ yes e ↦ subst P (sym e) p | no e ↦ below P n b k (omega arith) ]

-- a number that is no kind
pub head-other : (k n w : ℕ) → 20 ≤ k → head_from k n w ≡ lit (str w)
unfolding head_from
head-other k n w h =
    rw (
      ne_eqb k 2 (omega arith),
      ne_eqb k 3 (omega arith),
      ne_eqb k 4 (omega arith),
      ne_eqb k 5 (omega arith),
      ne_eqb k 6 (omega arith),
      ne_eqb k 7 (omega arith),
      ne_eqb k 8 (omega arith),
      ne_eqb k 9 (omega arith),
      ne_eqb k 10 (omega arith),
      ne_eqb k 11 (omega arith),
      ne_eqb k 12 (omega arith),
      ne_eqb k 13 (omega arith),
      ne_eqb k 14 (omega arith),
      ne_eqb k 15 (omega arith),
      ne_eqb k 16 (omega arith),
      ne_eqb k 17 (omega arith),
      ne_eqb k 18 (omega arith),
      ne_eqb k 19 (omega arith),
    )
    refl

-- Children -------------------------------------------------------------------------------------------------------

-- two bits a kind: the children that n does not count
abbrev counts : ℕ → ℕ
counts k = 637138964480 / 2 ^ (2 * k) % 4

-- one bit a kind: 1 where n counts children
abbrev by_n : ℕ → ℕ
by_n k = 65792 / 2 ^ k % 2

abbrev Counted : ℕ → Type 0
Counted k = by_n k ≡ 1 → (counts k ≤ 1) × ((n w : ℕ) → counts k + n ≡ arity (head_from k n w))

counted-at : Below Counted 20
unfolding head_from
counted-at = ((((((((((((((((((((tt, (λ e. absurd (omega arith))), (λ e. absurd (omega arith))), (λ e. absurd (omega arith))), (λ e. absurd (omega arith))), (λ e. absurd (omega arith))), (λ e. absurd (omega arith))), (λ e. absurd (omega arith))), (λ e. absurd (omega arith))), (λ e. (omega arith, (λ n w. omega arith)))), (λ e. absurd (omega arith))), (λ e. absurd (omega arith))), (λ e. absurd (omega arith))), (λ e. absurd (omega arith))), (λ e. absurd (omega arith))), (λ e. absurd (omega arith))), (λ e. absurd (omega arith))), (λ e. (omega arith, (λ n w. omega arith)))), (λ e. absurd (omega arith))), (λ e. absurd (omega arith))), (λ e. absurd (omega arith)))

-- where n counts children, at most one more stands before them
pub arity-by-n : (k : ℕ) → k < 20 → Counted k
arity-by-n k h = below Counted 20 counted-at k h

abbrev Fixed : ℕ → Type 0
Fixed k = (by_n k ≡ 1 → ⊥) → (n w : ℕ) → counts k ≡ arity (head_from k n w)

fixed-at : Below Fixed 20
unfolding head_from
fixed-at = ((((((((((((((((((((tt, (λ e n w. refl)), (λ e n w. refl)), (λ e n w. refl)), (λ e n w. refl)), (λ e n w. refl)), (λ e n w. refl)), (λ e n w. refl)), (λ e n w. refl)), (λ e. absurd (e refl))), (λ e n w. refl)), (λ e n w. refl)), (λ e n w. refl)), (λ e n w. refl)), (λ e n w. refl)), (λ e n w. refl)), (λ e n w. refl)), (λ e. absurd (e refl))), (λ e n w. refl)), (λ e n w. refl)), (λ e n w. refl))

-- where n counts none, the kind alone tells
pub arity-fixed : (k : ℕ) → k < 20 → Fixed k
arity-fixed k h = below Fixed 20 fixed-at k h

abbrev Listed : ℕ → Type 0
Listed k = get_or child_table k 0 < 64 → (n w : ℕ) → get_or child_table k 0 ≡ arity (head_from k n w)

listed_at : Below Listed 20
unfolding head_from
listed_at = ((((((((((((((((((((tt, (λ e n w. refl)), (λ e n w. refl)), (λ e n w. refl)), (λ e n w. refl)), (λ e n w. refl)), (λ e n w. refl)), (λ e n w. refl)), (λ e n w. refl)), (λ e. absurd (omega arith))), (λ e n w. refl)), (λ e n w. refl)), (λ e n w. refl)), (λ e n w. refl)), (λ e n w. refl)), (λ e n w. refl)), (λ e n w. refl)), (λ e. absurd (omega arith))), (λ e n w. refl)), (λ e n w. refl)), (λ e n w. refl))

-- an entry of the table below 64 tells how many children a row of the kind has
pub arity-listed : (k : ℕ) → k < 20 → Listed k
arity-listed k h = below Listed 20 listed_at k h

abbrev Few : ℕ → Type 0
Few k = (k ≡ 8 → ⊥) → (k ≡ 16 → ⊥) → (n w : ℕ) → arity (head_from k n w) ≤ 3

few-at : Below Few 20
unfolding head_from
few-at = ((((((((((((((((((((tt, (λ a b n w. omega arith)), (λ a b n w. omega arith)), (λ a b n w. omega arith)), (λ a b n w. omega arith)), (λ a b n w. omega arith)), (λ a b n w. omega arith)), (λ a b n w. omega arith)), (λ a b n w. omega arith)), (λ a b n w. absurd (a refl))), (λ a b n w. omega arith)), (λ a b n w. omega arith)), (λ a b n w. omega arith)), (λ a b n w. omega arith)), (λ a b n w. omega arith)), (λ a b n w. omega arith)), (λ a b n w. omega arith)), (λ a b n w. absurd (b refl))), (λ a b n w. omega arith)), (λ a b n w. omega arith)), (λ a b n w. omega arith))

-- of the kinds whose children are not counted by n, none has more than three
pub arity-few : (k : ℕ) → Few k
arity-few k a b n w = elim (dec_lt k 20) [ yes h ↦ below Few 20 few-at k h a b n w | no h ↦ omega (arith, ap arity (head-other k n w (omega arith))) ]

-- Faults ---------------------------------------------------------------------------------------------------------

-- two ranges, test by test
module _ (k n t w low high least most : ℕ) where
  abbrev Fit : Bool → Type 0
  Fit b = b ≡ fits record { n_low = low; n_high = high; words = words-from least most } (k ∷ n ∷ t ∷ w ∷ [])

  pub few-n : n < low → Fit false
  unfolding fits within ◌∧ᵇ◌
  few-n a = rw (lt-leb low n a)

  pub many-n : low ≤ n → high < n → Fit false
  unfolding fits within ◌∧ᵇ◌
  many-n a b = rw (le-leb low n a, lt-leb n high b)

  pub few-word : low ≤ n → n ≤ high → w < least → Fit false
  unfolding fits within within_one ◌∧ᵇ◌
  few-word a b c = rw (le-leb low n a, le-leb n high b, lt-leb least w c)

  pub last_word : low ≤ n → n ≤ high → least ≤ w → Fit (leb w most)
  unfolding fits within within_one ◌∧ᵇ◌
  last_word a b c = rw (le-leb low n a, le-leb n high b, le-leb least w c) (same (leb w most))
    where
      same : (b : Bool) → b ≡ cond b true false
      same true = refl
      same false = refl

-- Ranges by a table ---------------------------------------------------------------------------------------------

abbrev pub asked_by : Ranges → Fields
asked_by a = record { n_low = a.n_least; n_high = a.n_most; words = words-from a.word_least a.word_most }

abbrev Ranged : ℕ → Type 0
Ranged k = asked_by (get_or range_table k unused) ≡ get_or kind_fields k none-used

ranged-at : Below Ranged 20
ranged-at = ((((((((((((((((((((tt, refl), refl), refl), refl), refl), refl), refl), refl), refl), refl), refl), refl), refl), refl), refl), refl), refl), refl), refl), refl)

-- a row in range
pub row-sane : (count : ℕ) (r : List ℕ) → (kind_no r ≡ 0 → ⊥) → kind_no r < 20 → fits (asked_by (get_or range_table (kind_no r) unused)) r ≡ true → type_no r < count → row_fault 1 count r ≡ None
unfolding row_fault within last_kind ◌∧ᵇ◌
row-sane count r kind few f t =
    let g : fits (get_or kind_fields (kind_no r) none-used) r ≡ true = rw (below Ranged 20 ranged-at (kind_no r) few) at f in
    rw (le-leb 1 (kind_no r) (omega (arith, kind)), le-leb (kind_no r) 19 (omega (arith, few)), g, lt-ltb (type_no r) count t) refl
