-- A type row that passes is told by its form: so two numbers of a table that passes have one form only if they are equal. Assumes nothing.
use Prim.Native.Nat.{ℕ, zero, suc, ◌+◌, ◌*◌, ◌≤◌, ◌<◌}
use mathlib.Core.Path.{◌≡◌, refl, ap, sym, ◌∙◌}
use mathlib.Core.Bool.{true}
use mathlib.Core.List.{List, [], ◌∷◌}
use Rattle.std.specs.Prelude.{None}
use native.Mathlib.Omega.{arith}
use borrow.Author.Tests.{eqb-true, leb-true}
use lib.ListN.{length, take, drop, get_or, length-drop}
use lib.Seq.{drop-drop, length-take-le}
use Rattle.meaning.specs.Bytes.{zeros}
use Rattle.meaning.specs.Types.{Base, Str, File, Truth, Side, ntv, frn, Param, absent, base, types, names, pairs, form_no, parts_no, result_no, parts, form_row, form_of, plain_ok, list_ok, tuple_ok, function_ok, fields_ok, type_ok, bad_type}
use Rattle.meaning.specs.Typing.{base_no}
use Rattle.meaning.specs.Records.{version}
use Rattle.meaning.proofs.Trees.Tests.{left, right, within-if}
use Rattle.meaning.proofs.Bytes.Layouts.{Wide, each_at}
use Rattle.meaning.proofs.Bytes.TypeTables.{formless, of_base, of_list, of_tuple, of_fun, row-form, side_no, list-row, tuple-row, fun-row, no-bad-type, equal-types, promised}

-- Lists of pairs -------------------------------------------------------------------------------------------------

zeros-told : (l m : List ℕ) → length l ≡ length m → zeros l ≡ true → zeros m ≡ true → l ≡ m
unfolding zeros
zeros-told [] [] h a b = refl
zeros-told [] (y ∷ m) h a b = absurd (omega arith)
zeros-told (x ∷ l) [] h a b = absurd (omega arith)
zeros-told (x ∷ l) (y ∷ m) h a b =
    let e : x ≡ y = eqb-true x 0 (left _ _ a) ∙ sym (eqb-true y 0 (left _ _ b)) in
    cc (zeros-told l m (omega arith) (right _ _ a) (right _ _ b))

-- numbers are told by the first n pairs of them, where zeros follow
pairs-told : (n : ℕ) (l m : List ℕ) → length l ≡ length m → 2 * n ≤ length l → take n (pairs l) ≡ take n (pairs m)
    → zeros (drop (2 * n) l) ≡ true → zeros (drop (2 * n) m) ≡ true → l ≡ m
unfolding pairs
pairs-told zero l m h k e a b = zeros-told l m h a b
pairs-told (suc n) [] m h k e a b = absurd (omega arith)
pairs-told (suc n) (x ∷ []) m h k e a b = absurd (omega arith)
pairs-told (suc n) (x ∷ t ∷ l) [] h k e a b = absurd (omega arith)
pairs-told (suc n) (x ∷ t ∷ l) (y ∷ []) h k e a b = absurd (omega arith)
pairs-told (suc n) (x ∷ t ∷ l) (y ∷ u ∷ m) h k e a b =
    let two : 2 * suc n ≡ suc (suc (2 * n)) = omega arith in
    let w : ◌≡◌ {A = Param} (record { name = x; type = t }) (record { name = y; type = u }) = cc in
    let p : x ≡ y = ap (λ (z : Param). z.name) w in
    let q : t ≡ u = ap (λ (z : Param). z.type) w in
    let r : take n (pairs l) ≡ take n (pairs m) = cc in
    cc (pairs-told n l m (omega arith) (omega arith) r (rw two at a) (rw two at b))

length_pairs : (n : ℕ) (l : List ℕ) → length l ≡ 2 * n → length (pairs l) ≡ n
unfolding pairs
length_pairs zero [] h = refl
length_pairs zero (x ∷ l) h = absurd (omega arith)
length_pairs (suc n) [] h = absurd (omega arith)
length_pairs (suc n) (x ∷ []) h = absurd (omega arith)
length_pairs (suc n) (x ∷ t ∷ l) h = ap suc (length_pairs n l (omega arith))

-- a tuple's parts, whose names are zero, are told by their types
unnamed_told : (ps qs : List Param) → types ps ≡ types qs → zeros (names ps) ≡ true → zeros (names qs) ≡ true → ps ≡ qs
unfolding types names zeros
unnamed_told [] [] e a b = refl
unnamed_told [] (q ∷ qs) e a b = cc
unnamed_told (p ∷ ps) [] e a b = cc
unnamed_told (p ∷ ps) (q ∷ qs) e a b =
    let x : p.name ≡ q.name = eqb-true p.name 0 (left _ _ a) ∙ sym (eqb-true q.name 0 (left _ _ b)) in
    let t : p.type ≡ q.type = cc in
    let r : types ps ≡ types qs = cc in
    let rest = unnamed_told ps qs r (right _ _ a) (right _ _ b) in
    λ i. record { name = x i; type = t i } ∷ rest i

-- Rows -----------------------------------------------------------------------------------------------------------

-- what the fields test leaves of a row's numbers
record Fields (r : List ℕ) : Type 0 where
  few : parts_no r ≤ 8
  behind : zeros (drop (3 + 2 * parts_no r) r) ≡ true

first_three : (r : List ℕ) → 3 ≤ length r → r ≡ form_no r ∷ parts_no r ∷ result_no r ∷ drop 3 r
first_three [] h = absurd (omega arith)
first_three (a ∷ []) h = absurd (omega arith)
first_three (a ∷ b ∷ []) h = absurd (omega arith)
first_three (a ∷ b ∷ c ∷ l) h = refl

module _ (r : List ℕ) (wide : length r ≡ 19) where
  parts-count : parts_no r ≤ 8 → length (parts r) ≡ parts_no r
  unfolding parts
  parts-count h = length-take-le (parts_no r) (pairs (drop 3 r)) (omega (arith, length_pairs 8 (drop 3 r) (omega (arith, length-drop 3 r))))

  parts-behind : Fields r → zeros (drop (2 * parts_no r) (drop 3 r)) ≡ true
  parts-behind f = rw (drop-drop (2 * parts_no r) 3 r) f.behind

  -- a row by its form: the numbers that are not told are zero
  module _ (i : ℕ) (ok : fields_ok i r ≡ true) where
    zeros-behind : zeros (drop (3 + 2 * parts_no r) r) ≡ true
    unfolding fields_ok
    zeros-behind = left _ _ ok

    plain_row : (b : Base) → form_no r ≡ base_no b → (parts_no r ≡ 0) × (result_no r ≡ 0)
    unfolding fields_ok plain_ok base_no
    plain_row b e = (eqb-true _ 0 (left _ _ (plain b e)), eqb-true _ 0 (right _ _ (plain b e)))
      where
        plain : (b : Base) → form_no r ≡ base_no b → plain_ok r ≡ true
        plain Str e = rw e at (right _ _ ok)
        plain File e = rw e at (right _ _ ok)
        plain Truth e = rw e at (right _ _ ok)

    list-fields : form_no r ≡ 4 → parts_no r ≡ 0
    unfolding fields_ok list_ok
    list-fields e = eqb-true _ 0 (left _ _ (rw e at (right _ _ ok)))

    tuple-fields : form_no r ≡ 5 → (parts_no r ≤ 8) × (result_no r ≡ 0) × (zeros (names (parts r)) ≡ true)
    unfolding fields_ok tuple_ok
    tuple-fields e =
        let k : tuple_ok i r ≡ true = rw e at (right _ _ ok) in
        ((within-if 1 8 (parts_no r) (left _ _ k)).1, eqb-true _ 0 (left _ _ (right _ _ k)), left _ _ (right _ _ (right _ _ k)))

    function-fields : (s : Side) → form_no r ≡ side_no s → parts_no r ≤ 8
    unfolding fields_ok function_ok side_no
    function-fields ntv e = leb-true (parts_no r) 8 (left _ _ (rw e at (right _ _ ok)))
    function-fields frn e = leb-true (parts_no r) 8 (left _ _ (rw e at (right _ _ ok)))

-- equal heads and parts, and zeros behind, make equal rows
rows_told : (r q : List ℕ) → length r ≡ 19 → length q ≡ 19 → Fields r → Fields q → form_no r ≡ form_no q → parts_no r ≡ parts_no q → result_no r ≡ result_no q → parts r ≡ parts q → r ≡ q
unfolding parts
rows_told r q h k f g a b c e =
    let d : drop 3 r ≡ drop 3 q =
    pairs-told (parts_no q) (drop 3 r) (drop 3 q) (omega (arith, length-drop 3 r, length-drop 3 q)) (omega (arith, g.few, length-drop 3 r))
    (rw b at e) (rw b at (parts-behind r h f)) (parts-behind q k g) in
    first_three r (omega arith) ∙ cc (a, b, c, d) ∙ sym (first_three q (omega arith))

base-row : (r : List ℕ) (b : Base) → form_row r ≡ base b → form_no r ≡ base_no b
base-row r b q = elim (row-form r) [
  | formless k f ↦ absurd (let z : ◌≡◌ {A = ℕ} 0 1 = cc in omega arith)
  | of_base c k f ↦ let z : c ≡ b = cc in k ∙ ap base_no z
  | of_list k f ↦ absurd (let z : ◌≡◌ {A = ℕ} 0 1 = cc in omega arith)
  | of_tuple k f ↦ absurd (let z : ◌≡◌ {A = ℕ} 0 1 = cc in omega arith)
  | of_fun s k f ↦ absurd (let z : ◌≡◌ {A = ℕ} 0 1 = cc in omega arith)
]

module _ (i j : ℕ) (r q : List ℕ) (h : length r ≡ 19) (k : length q ≡ 19) (f : fields_ok i r ≡ true) (g : fields_ok j q ≡ true) where
  alike : parts_no r ≤ 8 → form_no r ≡ form_no q → parts_no r ≡ parts_no q → result_no r ≡ result_no q → parts r ≡ parts q → r ≡ q
  alike n a b c e =
      rows_told r q h k (record { few = n; behind = zeros-behind r h i f }) (record { few = omega arith; behind = zeros-behind q k j g }) a b c e

  -- no part is told
  none_alike : form_no r ≡ form_no q → result_no r ≡ result_no q → parts_no r ≡ 0 → parts_no q ≡ 0 → r ≡ q
  unfolding parts
  none_alike a c m n = alike (omega arith) a (m ∙ sym n) c (rw (m, n) refl)

  -- all parts are told, and so how many there are
  some_alike : form_no r ≡ form_no q → result_no r ≡ result_no q → parts r ≡ parts q → parts_no r ≤ 8 → parts_no q ≤ 8 → r ≡ q
  some_alike a c e m n = alike m a (sym (parts-count r h m) ∙ ap length e ∙ parts-count q k n) c e

  pub row_told : form_row r ≡ form_row q → (form_row r ≡ absent → ⊥) → r ≡ q
  row_told e known = elim (row-form r) [
    | formless n o ↦ absurd (known o)
    | of_base b n o ↦
        let n' = base-row q b (sym e ∙ o) in
        let (a, c) = plain_row r h i f b n in
        let (a', c') = plain_row q k j g b n' in
        none_alike (n ∙ sym n') (c ∙ sym c') a a'
    | of_list n o ↦
        let (n', c) = list-row q (result_no r) (sym e ∙ o) in
        none_alike (n ∙ sym n') (sym c) (list-fields r h i f n) (list-fields q k j g n')
    | of_tuple n o ↦
        let (n', t) = tuple-row q (types (parts r)) (sym e ∙ o) in
        let (a, c, z) = tuple-fields r h i f n in
        let (a', c', z') = tuple-fields q k j g n' in
        some_alike (n ∙ sym n') (c ∙ sym c') (unnamed_told (parts r) (parts q) (sym t) z z') a a'
    | of_fun s n o ↦
        let (n', p, c) = fun-row q s (parts r) (result_no r) (sym e ∙ o) in
        some_alike (n ∙ sym n') (sym c) (sym p) (function-fields r h i f s n) (function-fields q k j g s n')
  ]

-- in a table that passes, equal forms have equal numbers
pub equal-forms : (rows : List (List ℕ)) → Wide 19 rows → bad_type version rows ≡ None → (t u : ℕ) → t < length rows → u < length rows → form_of rows t ≡ form_of rows u → t ≡ u
unfolding form_of type_ok
equal-forms rows wide pass t u h k e =
    equal-types version rows pass t u h k
    (row_told _ _ (get_or rows t []) (get_or rows u []) (each_at _ rows t [] wide h) (each_at _ rows u [] wide k)
    (left _ _ (right _ _ (no-bad-type version rows pass t h))) (left _ _ (right _ _ (no-bad-type version rows pass u k)))
    e (λ z. omega (arith, (promised rows pass).at t z)))
