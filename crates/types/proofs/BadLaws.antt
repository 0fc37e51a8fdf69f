-- The first bad row: each test of a row, and a turn of the loop over the table. Assumes nothing.
use Prim.Native.Nat.{ℕ, zero, suc, ◌+◌, ◌*◌, ◌/◌, ◌<◌, ◌≤◌}
use mathlib.Core.Path.{◌≡◌, refl, ap, sym, ◌∙◌}
use mathlib.Core.Logic.{inl}
use mathlib.Core.Bool.{Bool, true, false}
use mathlib.Core.List.{List, [], ◌∷◌}
use Rattle.std.specs.Prelude.{None, Some}
use native.Mathlib.Omega.{arith}
use native.Mathlib.Numerals.{add-one}
use native.Mathlib.Decide.{ℕ_discrete}
use borrow.Author.Tests.{ne_eqb, ltb-true, lt-leb, le-leb}
use lib.Dec.{ltb, leb}
use lib.ListN.{length, take, drop, get_or, replicate, drop_of_length-le}
use lib.Seq.{drop-cons, take-suc, length-take-le}
use Rattle.meaning.specs.Bytes.{◌∧ᵇ◌, within, zeros, Layout, width, reads, type_row}
use Rattle.meaning.specs.Types.{Form, form_no, parts_no, result_no, parts, types, names, form_of, every, below, ground_form, ground, last_form, names_ok, function_ok, fields_ok, fresh, ground_call, type_ok, bad_type_from, bad_type}
use Rattle.meaning.proofs.Trees.Tests.{left, right, both}
use Rattle.meaning.proofs.Bytes.Layouts.{length-reads}
use Rattle.meaning.proofs.Bytes.TypeTables.{ground-below}
use Rattle.layout.specs.Rows.{type_table}
use Rattle.types.specs.Table.{type_at, rows_before, parts_ground, own_ok, Truthful}
use Rattle.types.proofs.Laws.{row_at, form-row, form-absent}
use Rattle.types.proofs.Checks.{fields-function}
use Rattle.types.proofs.GroundLaws.{ground-parts, part_ground}
use Rattle.types.proofs.ChainLaws.{and-true, and-false}

-- a number beyond the table is not ground
pub ground-beyond : (s : List ℕ) (t : ℕ) → length s / 36 ≤ t → ground (form_of (type_table s)) t ≡ false
unfolding ground_form
ground-beyond s t h = ground-parts _ t ∙ ap (ground_form (part_ground (form_of (type_table s)) t)) (form-absent s t h)

-- Foreign functions ----------------------------------------------------------------------------------------------

module _ (form : ℕ → Form) (r : List ℕ) (f : ℕ) (e : f ≡ form_no r) where
  pub call-other : (f ≡ 7 → ⊥) → ground_call form r ≡ true
  unfolding ground_call
  call-other n = rw (← e, ne_eqb f 7 n)

  module _ (q : f ≡ 7) (v : ℕ) (g : v ≡ result_no r) where
    pub call-parts : ground form v ≡ true → ground_call form r ≡ parts_ground form r
    unfolding ground_call parts_ground ◌∧ᵇ◌
    call-parts k = rw (← e, q, ← g, k)

    pub call-result : ground form v ≡ false → ground_call form r ≡ false
    unfolding ground_call ◌∧ᵇ◌
    call-result k = rw (← e, q, ← g, k)

-- what is asked of a foreign function's row goes by the rows below it
every-agree : (p q : ℕ → Bool) (i : ℕ) (l : List ℕ) → every (below i) l ≡ true → ((t : ℕ) → t < i → p t ≡ q t) → every p l ≡ every q l
unfolding every
every-agree p q i [] b h = refl
every-agree p q i (x ∷ xs) b h =
    let c : ltb x i ≡ true = unfold below in left (ltb x i) (every (below i) xs) b in
    rw (h x (ltb-true x i c), every-agree p q i xs (right (below i x) (every (below i) xs) b) h)

every-last : (a b c d : Bool) → (a ∧ᵇ b ∧ᵇ c ∧ᵇ d) ≡ true → (b ≡ true) × (d ≡ true)
every-last a b c d e = (left b (c ∧ᵇ d) (right a (b ∧ᵇ c ∧ᵇ d) e), right c d (right b (c ∧ᵇ d) (right a (b ∧ᵇ c ∧ᵇ d) e)))

fields-zeros : (i : ℕ) (r : List ℕ) → fields_ok i r ≡ true → zeros (drop (3 + 2 * parts_no r) r) ≡ true
unfolding fields_ok
fields-zeros i r h = left _ _ h

call_below : (i : ℕ) (r : List ℕ) → form_no r ≡ 7 → fields_ok i r ≡ true → (result_no r < i) × (every (below i) (types (parts r)) ≡ true)
unfolding function_ok below
call_below i r e h =
    let z : function_ok i r ≡ true = sym (fields-function i r (form_no r) (parts_no r) refl refl (fields-zeros i r h) (omega arith) (omega arith)) ∙ h in
    let p = every-last (leb (parts_no r) 8) (below i (result_no r)) (names_ok (names (parts r))) (every (below i) (types (parts r))) z in
    (ltb-true (result_no r) i p.0, p.1)

forms-agree : (s : List ℕ) (i p : ℕ) → 36 * i ≤ length s → p < i → form_of (rows_before s i) p ≡ form_of (type_table s) p
forms-agree s i p h k = form-row s i p k ∙ sym (form-row s (length s / 36) p (omega arith))

call_same : (f g : ℕ → Form) (i : ℕ) (r : List ℕ) → form_no r ≡ 7 → (result_no r < i) × (every (below i) (types (parts r)) ≡ true) → ((t : ℕ) → t < i → ground f t ≡ ground g t) → ground_call f r ≡ ground_call g r
unfolding ground_call
call_same f g i r q b a = rw (q, a (result_no r) b.0, every-agree (ground f) (ground g) i (types (parts r)) b.1 a)

call-agree : (s : List ℕ) (i : ℕ) (r : List ℕ) → 36 * i ≤ length s → fields_ok i r ≡ true → ground_call (form_of (rows_before s i)) r ≡ ground_call (form_of (type_table s)) r
call-agree s i r h f =
    elim (ℕ_discrete (form_no r) 7) [
      | no n ↦ call-other _ r (form_no r) refl n ∙ sym (call-other _ r (form_no r) refl n)
      | yes q ↦ call_same _ _ i r q (call_below i r q f) (λ t l. ground-below _ _ t (λ p k. forms-agree s i p h (omega arith)))
    ]

-- A row --------------------------------------------------------------------------------------------------------

module _ (edition : ℕ) (form : ℕ → Form) (t : ℕ) (r : List ℕ) (f last : ℕ) (e : f ≡ form_no r) (g : last ≡ last_form edition) where
  pub own-none : f ≡ 0 → own_ok edition form t r ≡ false
  unfolding own_ok within ◌∧ᵇ◌
  own-none q = rw (← e, q)

  pub own-unknown : last < f → own_ok edition form t r ≡ false
  unfolding own_ok within ◌∧ᵇ◌
  own-unknown q = rw (← e, ← g, le-leb 1 f (omega arith), lt-leb f last q)

  module _ (a : f ≡ 0 → ⊥) (b : f ≤ last) where
    pub own-fields : fields_ok t r ≡ false → own_ok edition form t r ≡ false
    unfolding own_ok within ◌∧ᵇ◌
    own-fields q = rw (← e, ← g, le-leb 1 f (omega arith), le-leb f last b, q)

    pub own-call : fields_ok t r ≡ true → own_ok edition form t r ≡ ground_call form r
    unfolding own_ok within ◌∧ᵇ◌
    own-call q = rw (← e, ← g, le-leb 1 f (omega arith), le-leb f last b, q)

-- what is asked of a row, and that it is fresh
asked : (w f n g c : Bool) → (f ≡ true → g ≡ c) → (w ∧ᵇ f ∧ᵇ n ∧ᵇ g) ≡ ((w ∧ᵇ f ∧ᵇ c) ∧ᵇ n)
unfolding ◌∧ᵇ◌
asked false f n g c h = refl
asked true false n g c h = refl
asked true true false g c h = sym (and-false c)
asked true true true g c h = h refl ∙ sym (and-true c)

module _ (edition : ℕ) (s : List ℕ) (t : ℕ) (r : List ℕ) (h : 36 * t ≤ length s) where
  type-own : type_ok edition (rows_before s t) r ≡ (own_ok edition (form_of (type_table s)) t r ∧ᵇ fresh (rows_before s t) r)
  unfolding type_ok own_ok
  type-own = rw (length-reads type_row t s) (asked _ (fields_ok t r) _ _ _ (call-agree s t r h))

  type-bad : own_ok edition (form_of (type_table s)) t r ≡ false → type_ok edition (rows_before s t) r ≡ false
  type-bad q = type-own ∙ rw q (unfold ◌∧ᵇ◌ in refl)

  type-old : fresh (rows_before s t) r ≡ false → type_ok edition (rows_before s t) r ≡ false
  type-old q = type-own ∙ rw q (and-false (own_ok edition (form_of (type_table s)) t r))

  type-good : own_ok edition (form_of (type_table s)) t r ≡ true → fresh (rows_before s t) r ≡ true → type_ok edition (rows_before s t) r ≡ true
  type-good p q = type-own ∙ both _ _ p q

-- The table ------------------------------------------------------------------------------------------------------

rows_take : (l : Layout) (n i : ℕ) (s : List ℕ) → i ≤ n → take i (reads l n s) ≡ reads l i s
unfolding reads
rows_take l n zero s h = refl
rows_take l zero (suc i) s h = absurd (omega arith)
rows_take l (suc n) (suc i) s h = rw (rows_take l n i (drop (width l) s) (omega arith))

module _ (edition : ℕ) (rows : List (List ℕ)) (i : ℕ) where
  module _ (r : List ℕ) (h : i < length rows) (e : get_or rows i [] ≡ r) where
    bad-here : type_ok edition (take i rows) r ≡ false → bad_type_from edition (take i rows) (drop i rows) ≡ Some i
    unfolding bad_type_from
    bad-here q = rw (drop-cons rows i [] h, e, q, length-take-le i rows (omega arith))

    bad-on : type_ok edition (take i rows) r ≡ true → bad_type_from edition (take i rows) (drop i rows) ≡ bad_type_from edition (take (i + 1) rows) (drop (i + 1) rows)
    unfolding bad_type_from
    bad-on q = rw (add-one i, drop-cons rows i [] h, e, q, take-suc rows i [] h, e)

  pub bad-end : length rows ≤ i → bad_type_from edition (take i rows) (drop i rows) ≡ None
  unfolding bad_type_from
  bad-end h = rw (drop_of_length-le rows {i = i} h)

-- row i of the table that lent bytes are
module _ (edition : ℕ) (s : List ℕ) (i : ℕ) (h : i < length s / 36) where
  earlier : (b : Bool) → type_ok edition (rows_before s i) (type_at s i) ≡ b → type_ok edition (take i (type_table s)) (type_at s i) ≡ b
  earlier b q = rw (rows_take type_row (length s / 36) i s (omega arith)) q

  inside : i < length (type_table s)
  inside = omega (arith, length-reads type_row (length s / 36) s)

  from-here : type_ok edition (rows_before s i) (type_at s i) ≡ false → bad_type_from edition (take i (type_table s)) (drop i (type_table s)) ≡ Some i
  from-here q = bad-here edition (type_table s) i (type_at s i) inside (row_at s (length s / 36) i h) (earlier false q)

  pub bad-own : own_ok edition (form_of (type_table s)) i (type_at s i) ≡ false → bad_type_from edition (take i (type_table s)) (drop i (type_table s)) ≡ Some i
  bad-own q = from-here (type-bad edition s i (type_at s i) (omega arith) q)

  pub bad-old : fresh (rows_before s i) (type_at s i) ≡ false → bad_type_from edition (take i (type_table s)) (drop i (type_table s)) ≡ Some i
  bad-old q = from-here (type-old edition s i (type_at s i) (omega arith) q)

  pub bad-next : own_ok edition (form_of (type_table s)) i (type_at s i) ≡ true → fresh (rows_before s i) (type_at s i) ≡ true → bad_type_from edition (take i (type_table s)) (drop i (type_table s)) ≡ bad_type_from edition (take (i + 1) (type_table s)) (drop (i + 1) (type_table s))
  bad-next p q = bad-on edition (type_table s) i (type_at s i) inside (row_at s (length s / 36) i h) (earlier true (type-good edition s i (type_at s i) (omega arith) p q))

pub bad-all : (edition : ℕ) (rows : List (List ℕ)) → bad_type_from edition (take 0 rows) (drop 0 rows) ≡ bad_type edition rows
unfolding bad_type
bad-all edition rows = refl

-- a memo of zeros says nothing
zero-at : (n t : ℕ) → ◌≡◌ {A = ℕ} (get_or (replicate n 0) t 0) 0
zero-at zero t = refl
zero-at (suc n) zero = refl
zero-at (suc n) (suc t) = zero-at n t

pub says_nothing : (n : ℕ) (form : ℕ → Form) → Truthful (replicate n 0) form
unfolding Truthful
says_nothing n form t = inl (zero-at n t)
