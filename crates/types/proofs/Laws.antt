-- What the numbers of a type row say: the form of a type, and the list of its parts. Assumes nothing.
use Prim.Native.Nat.{ℕ, zero, suc, ◌+◌, ◌*◌, ◌/◌, ◌<◌, ◌≤◌, min}
use mathlib.Core.Path.{◌≡◌, refl, ap, ◌∙◌}
use mathlib.Core.List.{List, [], ◌∷◌}
use native.Mathlib.Omega.{arith}
use borrow.Author.Tests.{ne_eqb}
use lib.ListN.{length, take, drop, get_or, length-take, length-drop, get_or-eq_default}
use lib.Seq.{get_or-take, get_or-drop}
use Rattle.meaning.specs.Bytes.{width, read, reads, type_row}
use Rattle.meaning.specs.Types.{Str, File, Truth, ntv, frn, Param, absent, base, f_list, f_tuple, f_fun, types, names, pairs, form_no, parts_no, result_no, parts, form_row, form_of}
use Rattle.meaning.proofs.Bytes.Layouts.{reads_at}
use Rattle.layout.specs.Rows.{type_table}
use Rattle.layout.proofs.Tables.{type-table-length}
use Rattle.types.specs.Table.{type_at, first_names, first_types}

pub row-length : (s : List ℕ) → length (read type_row s) ≡ 19
unfolding read
row-length s = refl

-- Forms ----------------------------------------------------------------------------------------------------------

pub row_at : (s : List ℕ) (count t : ℕ) → t < count → get_or (reads type_row count s) t [] ≡ type_at s t
unfolding width
row_at s count t h = reads_at type_row count t s [] h

-- a number of the table has the form of its row; a number beyond has none
pub form-row : (s : List ℕ) (count t : ℕ) → t < count → form_of (reads type_row count s) t ≡ form_row (type_at s t)
unfolding form_of
form-row s count t h = ap form_row (row_at s count t h)

pub form-absent : (s : List ℕ) (t : ℕ) → length s / 36 ≤ t → form_of (type_table s) t ≡ absent
unfolding form_of form_row
form-absent s t h = rw (get_or-eq_default (type_table s) [] {n = t} (omega (arith, type-table-length s))) refl

-- which form a number makes: f is the row's first number
module _ (r : List ℕ) (f : ℕ) (e : f ≡ form_no r) where
  pub row-str : f ≡ 1 → form_row r ≡ base Str
  unfolding form_row
  row-str q = rw (← e, q)

  pub row-file : f ≡ 2 → form_row r ≡ base File
  unfolding form_row
  row-file q = rw (← e, q)

  pub row-truth : f ≡ 3 → form_row r ≡ base Truth
  unfolding form_row
  row-truth q = rw (← e, q)

  pub row_list : f ≡ 4 → form_row r ≡ f_list (result_no r)
  unfolding form_row
  row_list q = rw (← e, q)

  pub row-tuple : f ≡ 5 → form_row r ≡ f_tuple (types (parts r))
  unfolding form_row
  row-tuple q = rw (← e, q)

  pub row-native : f ≡ 6 → form_row r ≡ f_fun ntv (parts r) (result_no r)
  unfolding form_row
  row-native q = rw (← e, q)

  pub row-foreign : f ≡ 7 → form_row r ≡ f_fun frn (parts r) (result_no r)
  unfolding form_row
  row-foreign q = rw (← e, q)

  pub row-none : f ≡ 0 → form_row r ≡ absent
  unfolding form_row
  row-none q = rw (← e, q)

  pub row-beyond : 7 < f → form_row r ≡ absent
  unfolding form_row
  row-beyond q =
      rw (← e, ne_eqb f 1 (λ z. omega arith), ne_eqb f 2 (λ z. omega arith), ne_eqb f 3 (λ z. omega arith), ne_eqb f 4 (λ z. omega arith), ne_eqb f 5 (λ z. omega arith), ne_eqb f 6 (λ z. omega arith), ne_eqb f 7 (λ z. omega arith))

-- Parts ----------------------------------------------------------------------------------------------------------

pairs-length : (n : ℕ) (l : List ℕ) → length l ≡ 2 * n → length (pairs l) ≡ n
unfolding pairs
pairs-length zero [] e = refl
pairs-length zero (x ∷ l) e = absurd (omega arith)
pairs-length (suc n) [] e = absurd (omega arith)
pairs-length (suc n) (x ∷ []) e = absurd (omega arith)
pairs-length (suc n) (x ∷ t ∷ l) e = ap suc (pairs-length n l (omega arith))

pairs-at : (l : List ℕ) (k : ℕ) (d : Param) → 2 * k + 1 < length l → get_or (pairs l) k d ≡ record { name = get_or l (2 * k) 0; type = get_or l (2 * k + 1) 0 }
unfolding pairs
pairs-at [] k d h = absurd (omega arith)
pairs-at (x ∷ []) k d h = absurd (omega arith)
pairs-at (x ∷ t ∷ l) zero d h = refl
pairs-at (x ∷ t ∷ l) (suc k) d h =
    let e : 2 * suc k ≡ suc (suc (2 * k)) = omega arith in
    let f : suc (suc (2 * k)) + 1 ≡ suc (suc (2 * k + 1)) = omega arith in
    rw (e, f) (pairs-at l k d (omega arith))

pub names-length : (ps : List Param) → length (names ps) ≡ length ps
unfolding names
names-length [] = refl
names-length (p ∷ ps) = ap suc (names-length ps)

pub types-length : (ps : List Param) → length (types ps) ≡ length ps
unfolding types
types-length [] = refl
types-length (p ∷ ps) = ap suc (types-length ps)

names_at : (ps : List Param) (k : ℕ) (d : Param) → k < length ps → get_or (names ps) k 0 ≡ (get_or ps k d).name
unfolding names
names_at [] k d h = absurd (omega arith)
names_at (p ∷ ps) zero d h = refl
names_at (p ∷ ps) (suc k) d h = names_at ps k d (omega arith)

types-at : (ps : List Param) (k : ℕ) (d : Param) → k < length ps → get_or (types ps) k 0 ≡ (get_or ps k d).type
unfolding types
types-at [] k d h = absurd (omega arith)
types-at (p ∷ ps) zero d h = refl
types-at (p ∷ ps) (suc k) d h = types-at ps k d (omega arith)

blank : Param
blank = record { name = 0; type = 0 }

-- the first n pairs of a row: as many, and the k-th is the row's k-th name and type
module _ (r : List ℕ) (z : length r ≡ 19) where
  eight : length (pairs (drop 3 r)) ≡ 8
  eight = pairs-length 8 (drop 3 r) (rw length-drop (omega arith))

  pub first-length : (n : ℕ) → n ≤ 8 → length (take n (pairs (drop 3 r))) ≡ n
  first-length n h = rw length-take (omega (arith, eight))

  pub first-at : (n k : ℕ) (d : Param) → n ≤ 8 → k < n → get_or (take n (pairs (drop 3 r))) k d ≡ record { name = get_or r (3 + 2 * k) 0; type = get_or r (4 + 2 * k) 0 }
  first-at n k d h l =
      let e : 3 + (2 * k + 1) ≡ 4 + 2 * k = omega arith in
      get_or-take n (pairs (drop 3 r)) k d l
      ∙ pairs-at (drop 3 r) k d (rw length-drop (omega arith))
      ∙ rw (get_or-drop 3 r (2 * k) 0, get_or-drop 3 r (2 * k + 1) 0, e)

  -- the row's own parts: at most eight
  pub parts-length : (n : ℕ) → n ≡ parts_no r → length (parts r) ≡ min n 8
  unfolding parts
  parts-length n e = rw (← e, length-take) (ap (min n) eight)

  pub parts-few : length (parts r) ≤ 8
  parts-few = omega (arith, parts-length (parts_no r) refl)

  pub part_at : (k : ℕ) (d : Param) → k < length (parts r) → get_or (parts r) k d ≡ record { name = get_or r (3 + 2 * k) 0; type = get_or r (4 + 2 * k) 0 }
  unfolding parts
  part_at k d h =
      let e : 3 + (2 * k + 1) ≡ 4 + 2 * k = omega arith in
      let l : k < min (parts_no r) 8 = omega (arith, length-take (parts_no r) (pairs (drop 3 r)), eight) in
      get_or-take (parts_no r) (pairs (drop 3 r)) k d (omega arith)
      ∙ pairs-at (drop 3 r) k d (rw length-drop (omega arith))
      ∙ rw (get_or-drop 3 r (2 * k) 0, get_or-drop 3 r (2 * k + 1) 0, e)

  pub part_type : (k : ℕ) → k < length (parts r) → get_or (types (parts r)) k 0 ≡ get_or r (4 + 2 * k) 0
  part_type k h = types-at (parts r) k blank h ∙ ap (λ (p : Param). p.type) (part_at k blank h)

  module _ (n : ℕ) (h : n ≤ 8) where
    pub first-names : length (first_names n r) ≡ n
    first-names = names-length (take n (pairs (drop 3 r))) ∙ first-length n h

    pub first-types : length (first_types n r) ≡ n
    first-types = types-length (take n (pairs (drop 3 r))) ∙ first-length n h

    pub first-name : (k : ℕ) → k < n → get_or (first_names n r) k 0 ≡ get_or r (3 + 2 * k) 0
    first-name k l = names_at (take n (pairs (drop 3 r))) k blank (omega (arith, first-length n h)) ∙ ap (λ (p : Param). p.name) (first-at n k blank h l)

    pub first-type : (k : ℕ) → k < n → get_or (first_types n r) k 0 ≡ get_or r (4 + 2 * k) 0
    first-type k l = types-at (take n (pairs (drop 3 r))) k blank (omega (arith, first-length n h)) ∙ ap (λ (p : Param). p.type) (first-at n k blank h l)
