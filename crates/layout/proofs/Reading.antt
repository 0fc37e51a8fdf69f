-- The fields of a type by the numbers of its row. Assumes nothing.
use Prim.Native.Nat.{ℕ, zero, suc, ◌+◌, ◌*◌, ◌<◌, ◌≤◌, min}
use mathlib.Core.Path.{◌≡◌, refl, ap, ◌∙◌}
use mathlib.Core.List.{List, [], ◌∷◌}
use native.Mathlib.Omega.{arith}
use native.Mathlib.Decide.{dec_lt}
use lib.ListN.{length, get_or, take, drop, length-take, get_or-eq_default}
use lib.Seq.{get_or-drop}
use Rattle.layout.specs.Rows.{type_table}
use Rattle.layout.proofs.Tables.{type-table-length, type-table-at}
use Rattle.meaning.specs.Bytes.{read, type_row}
use Rattle.meaning.specs.Types.{Param, names, types, pairs, parts_no, parts}
use Rattle.layout.specs.Forms.{says, part_types}

pub says-in : (s : List ℕ) (t : ℕ) → 36 * t + 36 ≤ length s → says (type_table s) t ≡ read type_row (drop (36 * t) s)
unfolding says
says-in s t h = type-table-at s t [] h

pub says-out : (s : List ℕ) (t : ℕ) → length s < 36 * t + 36 → says (type_table s) t ≡ []
unfolding says
says-out s t h = get_or-eq_default (type_table s) [] {n = t} (omega (arith, type-table-length s))

pub no-parts : length (parts []) ≡ 0
unfolding parts pairs
no-parts = refl

eight : (s : List ℕ) → length (pairs (drop 3 (read type_row s))) ≡ 8
unfolding read pairs
eight s = refl

pub parts-length : (s : List ℕ) → length (parts (read type_row s)) ≡ min (parts_no (read type_row s)) 8
unfolding parts
parts-length s = length-take (parts_no (read type_row s)) (pairs (drop 3 (read type_row s))) ∙ rw (eight s) refl

names-take : (n k : ℕ) (ps : List Param) → k < n → get_or (names (take n ps)) k 0 ≡ get_or (names ps) k 0
unfolding names
names-take zero k ps h = absurd (omega arith)
names-take (suc n) k [] h = refl
names-take (suc n) zero (p ∷ ps) h = refl
names-take (suc n) (suc k) (p ∷ ps) h = names-take n k ps (omega arith)

types-take : (n k : ℕ) (ps : List Param) → k < n → get_or (types (take n ps)) k 0 ≡ get_or (types ps) k 0
unfolding types
types-take zero k ps h = absurd (omega arith)
types-take (suc n) k [] h = refl
types-take (suc n) zero (p ∷ ps) h = refl
types-take (suc n) (suc k) (p ∷ ps) h = types-take n k ps (omega arith)

names-pairs : (k : ℕ) (q : List ℕ) → k < length (pairs q) → get_or (names (pairs q)) k 0 ≡ get_or q (2 * k) 0
unfolding names pairs
names-pairs k [] h = absurd (omega arith)
names-pairs k (x ∷ []) h = absurd (omega arith)
names-pairs zero (x ∷ t ∷ q) h = refl
names-pairs (suc k) (x ∷ t ∷ q) h = let e : 2 * suc k ≡ suc (suc (2 * k)) = omega arith in rw e (names-pairs k q (omega arith))

types-pairs : (k : ℕ) (q : List ℕ) → k < length (pairs q) → get_or (types (pairs q)) k 0 ≡ get_or q (1 + 2 * k) 0
unfolding types pairs
types-pairs k [] h = absurd (omega arith)
types-pairs k (x ∷ []) h = absurd (omega arith)
types-pairs zero (x ∷ t ∷ q) h = refl
types-pairs (suc k) (x ∷ t ∷ q) h = let e : 1 + 2 * suc k ≡ suc (suc (1 + 2 * k)) = omega arith in rw e (types-pairs k q (omega arith))

-- the k-th part of a row
module _ (r : List ℕ) (k : ℕ) (h : k < length (parts r)) where
  within : (k < parts_no r) × (k < length (pairs (drop 3 r)))
  unfolding parts
  within = let e = length-take (parts_no r) (pairs (drop 3 r)) in (omega arith, omega arith)

  pub name-part : get_or (names (parts r)) k 0 ≡ get_or r (3 + 2 * k) 0
  unfolding parts
  name-part = names-take (parts_no r) k (pairs (drop 3 r)) within.0 ∙ names-pairs k (drop 3 r) within.1 ∙ get_or-drop 3 r (2 * k) 0

  pub type-part : get_or (part_types r) k 0 ≡ get_or r (4 + 2 * k) 0
  unfolding parts
  type-part =
      let e : 3 + (1 + 2 * k) ≡ 4 + 2 * k = omega arith in
      types-take (parts_no r) k (pairs (drop 3 r)) within.0
      ∙ types-pairs k (drop 3 r) within.1
      ∙ get_or-drop 3 r (1 + 2 * k) 0
      ∙ ap (λ (x : ℕ). get_or r x 0) e

-- a number that has a part is in the table, and its part is one of eight
pub part_in : (s : List ℕ) (t k : ℕ) → k < length (parts (says (type_table s) t)) → (36 * t + 36 ≤ length s) × (k < 8)
part_in s t k h =
    elim (dec_lt (length s) (36 * t + 36)) [
      | no q ↦ let g : 36 * t + 36 ≤ length s = omega arith in (g, omega (arith, parts-length (drop (36 * t) s), ap (λ (r : List ℕ). length (parts r)) (says-in s t g)))
      | yes q ↦ absurd (omega (arith, no-parts, ap (λ (r : List ℕ). length (parts r)) (says-out s t q)))
    ]

-- WHAT A NUMBER READS
pub ruleset reading = (says-in, says-out, no-parts, parts-length, name-part, type-part, part_in)
