-- The numbers of a record's header by their places, and its tests. Assumes nothing.
use Prim.Native.Nat.{ℕ, suc, ◌-◌, ◌≤◌, ◌<◌}
use mathlib.Core.Path.{◌≡◌, refl, ap, sym, ◌∙◌}
use mathlib.Core.Bool.{Bool, true, false}
use mathlib.Core.List.{List, [], ◌∷◌}
use native.Mathlib.Omega.{arith}
use borrow.Author.Tests.{eq-eqb, ne_eqb, le-leb, lt-leb}
use lib.Dec.{eqb, leb}
use lib.ListN.{get_or, drop, take}
use Rattle.meaning.specs.Bytes.{◌∧ᵇ◌, within, number, read, record_head, Limits}
use Rattle.meaning.specs.Types.{same_numbers}
use Rattle.meaning.specs.Records.{head_no, type_count, row_count, open_count, next_number, program_type, record_mark, head_sound}
use Rattle.layout.proofs.Laws.{number-1, read-front}
use Rattle.sound.specs.Ready.{counts_fit}
use Rattle.sound.proofs.Laws.{fails, passes}

alone : (b : Bool) → (b ∧ᵇ true) ≡ b
unfolding ◌∧ᵇ◌
alone true = refl
alone false = refl

module _ (s : List ℕ) where
  head-numbers : read record_head s ≡ get_or s 0 0 ∷ get_or s 1 0 ∷ get_or s 2 0 ∷ number 2 (drop 3 s) ∷ get_or s 5 0 ∷ number 2 (drop 6 s) ∷ number 2 (drop 8 s) ∷ number 2 (drop 10 s) ∷ number 4 (drop 12 s) ∷ number 2 (drop 16 s) ∷ number 2 (drop 18 s) ∷ []
  unfolding read
  head-numbers =
      read-front 1 (1 ∷ 1 ∷ 2 ∷ 1 ∷ 2 ∷ 2 ∷ 2 ∷ 4 ∷ 2 ∷ 2 ∷ []) 0 1 s refl
      ∙ rw (read-front 1 (1 ∷ 2 ∷ 1 ∷ 2 ∷ 2 ∷ 2 ∷ 4 ∷ 2 ∷ 2 ∷ []) 1 2 s refl, read-front 1 (2 ∷ 1 ∷ 2 ∷ 2 ∷ 2 ∷ 4 ∷ 2 ∷ 2 ∷ []) 2 3 s refl, read-front 2 (1 ∷ 2 ∷ 2 ∷ 2 ∷ 4 ∷ 2 ∷ 2 ∷ []) 3 5 s refl, read-front 1 (2 ∷ 2 ∷ 2 ∷ 4 ∷ 2 ∷ 2 ∷ []) 5 6 s refl, read-front 2 (2 ∷ 2 ∷ 4 ∷ 2 ∷ 2 ∷ []) 6 8 s refl, read-front 2 (2 ∷ 4 ∷ 2 ∷ 2 ∷ []) 8 10 s refl, read-front 2 (4 ∷ 2 ∷ 2 ∷ []) 10 12 s refl, read-front 4 (2 ∷ 2 ∷ []) 12 16 s refl, read-front 2 (2 ∷ []) 16 18 s refl, number-1 0 s, number-1 1 s, number-1 2 s, number-1 5 s)

  pub edition-at : head_no 3 s ≡ number 2 (drop 3 s)
  edition-at = ap (λ (l : List ℕ). get_or l 3 0) head-numbers

  pub types-at : type_count s ≡ number 2 (drop 6 s)
  types-at = ap (λ (l : List ℕ). get_or l 5 0) head-numbers

  pub rows-at : row_count s ≡ number 2 (drop 8 s)
  rows-at = ap (λ (l : List ℕ). get_or l 6 0) head-numbers

  pub calls-at : open_count s ≡ number 2 (drop 10 s)
  calls-at = ap (λ (l : List ℕ). get_or l 7 0) head-numbers

  pub next-at : next_number s ≡ number 4 (drop 12 s)
  next-at = ap (λ (l : List ℕ). get_or l 8 0) head-numbers

  pub program-at : program_type s ≡ number 2 (drop 16 s)
  program-at = ap (λ (l : List ℕ). get_or l 9 0) head-numbers

  zeros-at : head_no 10 s ≡ number 2 (drop 18 s)
  zeros-at = ap (λ (l : List ℕ). get_or l 10 0) head-numbers

  -- the mark
  abbrev marked : Bool
  marked = same_numbers (take 5 (read record_head s)) record_mark

  marked_by : marked ≡ (eqb (get_or s 0 0) 84 ∧ᵇ eqb (get_or s 1 0) 67 ∧ᵇ eqb (get_or s 2 0) 82 ∧ᵇ eqb (head_no 3 s) 1 ∧ᵇ eqb (get_or s 5 0) 0 ∧ᵇ true)
  unfolding same_numbers
  marked_by = rw (edition-at, head-numbers)

  pub mark-first : (get_or s 0 0 ≡ 84 → ⊥) → marked ≡ false
  mark-first n = marked_by ∙ fails _ _ (ne_eqb _ _ n)

  module _ (a : get_or s 0 0 ≡ 84) where
    from_second : marked ≡ (eqb (get_or s 1 0) 67 ∧ᵇ eqb (get_or s 2 0) 82 ∧ᵇ eqb (head_no 3 s) 1 ∧ᵇ eqb (get_or s 5 0) 0 ∧ᵇ true)
    from_second = marked_by ∙ passes _ _ (eq-eqb _ _ a)

    pub mark-second : (get_or s 1 0 ≡ 67 → ⊥) → marked ≡ false
    mark-second n = from_second ∙ fails _ _ (ne_eqb _ _ n)

    module _ (b : get_or s 1 0 ≡ 67) where
      from-third : marked ≡ (eqb (get_or s 2 0) 82 ∧ᵇ eqb (head_no 3 s) 1 ∧ᵇ eqb (get_or s 5 0) 0 ∧ᵇ true)
      from-third = from_second ∙ passes _ _ (eq-eqb _ _ b)

      pub mark-third : (get_or s 2 0 ≡ 82 → ⊥) → marked ≡ false
      mark-third n = from-third ∙ fails _ _ (ne_eqb _ _ n)

      module _ (c : get_or s 2 0 ≡ 82) (v : ℕ) (f : v ≡ head_no 3 s) where
        from-version : marked ≡ (eqb v 1 ∧ᵇ eqb (get_or s 5 0) 0 ∧ᵇ true)
        from-version = from-third ∙ passes _ _ (eq-eqb _ _ c) ∙ rw (← f) refl

        pub other-edition : (v ≡ 1 → ⊥) → marked ≡ false
        other-edition n = from-version ∙ fails _ _ (ne_eqb _ _ n)

        pub zero-byte : v ≡ 1 → eqb (get_or s 5 0) 0 ≡ marked
        zero-byte n = sym (from-version ∙ passes _ _ (eq-eqb _ _ n) ∙ alone (eqb (get_or s 5 0) 0))

-- a number at least 1 and at most its limit
module _ (high n : ℕ) where
  too_few : n ≡ 0 → within 1 high n ≡ false
  unfolding within ◌∧ᵇ◌
  too_few e = rw e refl

  too_many : (n ≡ 0 → ⊥) → high < n → within 1 high n ≡ false
  unfolding within ◌∧ᵇ◌
  too_many z h = rw (le-leb 1 n (omega arith), lt-leb n high h)

  fits : (n ≡ 0 → ⊥) → n ≤ high → within 1 high n ≡ true
  unfolding within ◌∧ᵇ◌
  fits z h = rw (le-leb 1 n (omega arith), le-leb n high h)

-- the counts
module _ (m : Limits) (s : List ℕ) where
  module _ (t : ℕ) (e : t ≡ type_count s) where
    pub types-none : t ≡ 0 → counts_fit m s ≡ false
    unfolding counts_fit
    types-none z = fails _ _ (too_few _ _ (sym e ∙ z))

    pub types-over : (t ≡ 0 → ⊥) → m.types < t → counts_fit m s ≡ false
    unfolding counts_fit
    types-over z h = fails _ _ (rw (← e) (too_many m.types t z h))

    module _ (z : t ≡ 0 → ⊥) (h : t ≤ m.types) (r : ℕ) (f : r ≡ row_count s) where
      from-rows : counts_fit m s ≡ (within 1 m.rows r ∧ᵇ leb (open_count s) m.calls ∧ᵇ within 1 (suc m.last_number) (next_number s) ∧ᵇ eqb (head_no 10 s) 0)
      unfolding counts_fit
      from-rows = passes _ _ (rw (← e) (fits m.types t z h)) ∙ rw (← f) refl

      pub rows_none : r ≡ 0 → counts_fit m s ≡ false
      rows_none y = from-rows ∙ fails _ _ (too_few _ _ y)

      pub rows-over : (r ≡ 0 → ⊥) → m.rows < r → counts_fit m s ≡ false
      rows-over y k = from-rows ∙ fails _ _ (too_many _ _ y k)

      module _ (y : r ≡ 0 → ⊥) (k : r ≤ m.rows) (o : ℕ) (g : o ≡ open_count s) where
        from-calls : counts_fit m s ≡ (leb o m.calls ∧ᵇ within 1 (suc m.last_number) (next_number s) ∧ᵇ eqb (head_no 10 s) 0)
        from-calls = from-rows ∙ passes _ _ (fits _ _ y k) ∙ rw (← g) refl

        pub calls-over : m.calls < o → counts_fit m s ≡ false
        calls-over q = from-calls ∙ fails _ _ (lt-leb _ _ q)

        module _ (q : o ≤ m.calls) (x : ℕ) (i : x ≡ next_number s) where
          from_next : counts_fit m s ≡ (within 1 (suc m.last_number) x ∧ᵇ eqb (head_no 10 s) 0)
          from_next = from-calls ∙ passes _ _ (le-leb _ _ q) ∙ rw (← i) refl

          pub next-none : x ≡ 0 → counts_fit m s ≡ false
          next-none w = from_next ∙ fails _ _ (too_few _ _ w)

          pub next-over : (x ≡ 0 → ⊥) → m.last_number < x - 1 → counts_fit m s ≡ false
          next-over w u = from_next ∙ fails _ _ (too_many _ _ w (omega arith))

          pub counts-fit : (x ≡ 0 → ⊥) → x - 1 ≤ m.last_number → (v : ℕ) → v ≡ number 2 (drop 18 s) → eqb v 0 ≡ counts_fit m s
          counts-fit w u v j = sym (from_next ∙ passes _ _ (fits _ _ w (omega arith)) ∙ ap (λ (n : ℕ). eqb n 0) (zeros-at s ∙ sym j))

-- the two parts of the test
module _ (m : Limits) (s : List ℕ) where
  pub head-marked : marked s ≡ true → head_sound m s ≡ counts_fit m s
  unfolding head_sound counts_fit
  head-marked e = passes _ _ e

  pub head-unmarked : marked s ≡ false → head_sound m s ≡ false
  unfolding head_sound
  head-unmarked e = fails _ _ e
