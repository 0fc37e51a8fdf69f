-- The numbers of a file's header by their places, and its tests. Assumes nothing.
use Prim.Native.Nat.{ℕ, ◌≤◌, ◌<◌}
use mathlib.Core.Path.{◌≡◌, refl, ap, ◌∙◌}
use mathlib.Core.Bool.{true, false}
use mathlib.Core.List.{List, [], ◌∷◌}
use native.Mathlib.Omega.{arith}
use borrow.Author.Tests.{eq-eqb, ne_eqb, le-leb, lt-leb}
use lib.Dec.{eqb}
use lib.ListN.{get_or, drop}
use Rattle.meaning.specs.Bytes.{◌∧ᵇ◌, within, number, read, file_head, Limits}
use Rattle.meaning.specs.Types.{same_numbers}
use Rattle.meaning.specs.Entries.{file_no, file_type_count, file_row_count}
use Rattle.layout.proofs.Laws.{number-1, read-front}
use Rattle.tca.specs.Loads.{marked, counts_ok}

module _ (s : List ℕ) where
  head-numbers : read file_head s ≡ get_or s 0 0 ∷ get_or s 1 0 ∷ get_or s 2 0 ∷ number 2 (drop 3 s) ∷ get_or s 5 0 ∷ number 2 (drop 6 s) ∷ number 2 (drop 8 s) ∷ []
  unfolding read
  head-numbers =
      read-front 1 (1 ∷ 1 ∷ 2 ∷ 1 ∷ 2 ∷ 2 ∷ []) 0 1 s refl
      ∙ rw (read-front 1 (1 ∷ 2 ∷ 1 ∷ 2 ∷ 2 ∷ []) 1 2 s refl, read-front 1 (2 ∷ 1 ∷ 2 ∷ 2 ∷ []) 2 3 s refl, read-front 2 (1 ∷ 2 ∷ 2 ∷ []) 3 5 s refl, read-front 1 (2 ∷ 2 ∷ []) 5 6 s refl, read-front 2 (2 ∷ []) 6 8 s refl, number-1 0 s, number-1 1 s, number-1 2 s, number-1 5 s)

  pub version-at : file_no 3 s ≡ number 2 (drop 3 s)
  version-at = ap (λ (l : List ℕ). get_or l 3 0) head-numbers

  pub zero-at : file_no 4 s ≡ get_or s 5 0
  zero-at = ap (λ (l : List ℕ). get_or l 4 0) head-numbers

  pub types-at : file_type_count s ≡ number 2 (drop 6 s)
  types-at = ap (λ (l : List ℕ). get_or l 5 0) head-numbers

  pub rows-at : file_row_count s ≡ number 2 (drop 8 s)
  rows-at = ap (λ (l : List ℕ). get_or l 6 0) head-numbers

  -- the mark
  marked_by : marked s ≡ (eqb (get_or s 0 0) 84 ∧ᵇ eqb (get_or s 1 0) 67 ∧ᵇ eqb (get_or s 2 0) 65 ∧ᵇ true)
  unfolding marked same_numbers
  marked_by = rw head-numbers

  pub mark-first : (get_or s 0 0 ≡ 84 → ⊥) → marked s ≡ false
  unfolding ◌∧ᵇ◌
  mark-first n = rw (marked_by, ne_eqb _ _ n)

  module _ (a : get_or s 0 0 ≡ 84) where
    pub mark-second : (get_or s 1 0 ≡ 67 → ⊥) → marked s ≡ false
    unfolding ◌∧ᵇ◌
    mark-second n = rw (marked_by, eq-eqb _ _ a, ne_eqb _ _ n)

    module _ (b : get_or s 1 0 ≡ 67) where
      pub mark-third : (get_or s 2 0 ≡ 65 → ⊥) → marked s ≡ false
      unfolding ◌∧ᵇ◌
      mark-third n = rw (marked_by, eq-eqb _ _ a, eq-eqb _ _ b, ne_eqb _ _ n)

      pub mark-all : get_or s 2 0 ≡ 65 → marked s ≡ true
      unfolding ◌∧ᵇ◌
      mark-all c = rw (marked_by, eq-eqb _ _ a, eq-eqb _ _ b, eq-eqb _ _ c)

-- the zero byte and the counts
module _ (m : Limits) (s : List ℕ) (z : ℕ) (e : z ≡ get_or s 5 0) where
  pub count-byte : (z ≡ 0 → ⊥) → counts_ok m s ≡ false
  unfolding counts_ok ◌∧ᵇ◌
  count-byte n = rw (zero-at s, ← e, ne_eqb z 0 n)

  module _ (q : z ≡ 0) (t : ℕ) (f : t ≡ file_type_count s) where
    pub types-none : t ≡ 0 → counts_ok m s ≡ false
    unfolding counts_ok within ◌∧ᵇ◌
    types-none k = rw (zero-at s, ← e, q, ← f, k)

    pub types-over : m.types < t → counts_ok m s ≡ false
    unfolding counts_ok within ◌∧ᵇ◌
    types-over k = rw (zero-at s, ← e, q, ← f, le-leb 1 t (omega arith), lt-leb t m.types k)

    module _ (k : t ≡ 0 → ⊥) (l : t ≤ m.types) (r : ℕ) (g : r ≡ file_row_count s) where
      pub rows_none : r ≡ 0 → counts_ok m s ≡ false
      unfolding counts_ok within ◌∧ᵇ◌
      rows_none i = rw (zero-at s, ← e, q, ← f, le-leb 1 t (omega arith), le-leb t m.types l, ← g, i)

      pub rows-over : m.program_rows < r → counts_ok m s ≡ false
      unfolding counts_ok within ◌∧ᵇ◌
      rows-over i = rw (zero-at s, ← e, q, ← f, le-leb 1 t (omega arith), le-leb t m.types l, ← g, le-leb 1 r (omega arith), lt-leb r m.program_rows i)

      pub counts-fit : (r ≡ 0 → ⊥) → r ≤ m.program_rows → counts_ok m s ≡ true
      unfolding counts_ok within ◌∧ᵇ◌
      counts-fit i j = rw (zero-at s, ← e, q, ← f, le-leb 1 t (omega arith), le-leb t m.types l, ← g, le-leb 1 r (omega arith), le-leb r m.program_rows j)
