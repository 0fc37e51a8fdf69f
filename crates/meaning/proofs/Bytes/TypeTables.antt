-- Type tables: the first bad row, what a table that passes promises of each type's form, and which types are ground. Assumes nothing.
use Prim.Native.Nat.{ℕ, zero, suc, ◌+◌, ◌≤◌, ◌<◌}
use mathlib.Core.Path.{◌≡◌, refl, ap, sym, ◌∙◌, fun_ext}
use mathlib.Core.Bool.{Bool, true, false, false≢true}
use mathlib.Core.List.{List, [], ◌∷◌, ◌++◌, append-nil}
use Rattle.std.specs.Prelude.{Option, None, Some}
use native.Mathlib.Omega.{arith}
use native.Mathlib.Decide.{ℕ_discrete, dec_lt}
use borrow.Author.Tests.{leb-true, lt-ltb, ltb-true, ne_eqb, not-true}
use lib.Dec.{eqb, ltb}
use lib.ListN.{length, take, get_or, length-append, get_or-eq_default}
use lib.Seq.{append_snoc, length-take-le, get_or-take}
use Rattle.meaning.specs.Bytes.{◌∧ᵇ◌}
use Rattle.meaning.specs.Types.{Base, Str, File, Truth, Side, ntv, frn, Param, Form, absent, base, f_list, f_tuple, f_fun, types, names, form_no, parts_no, result_no, parts, form_row, form_of, every, ground_form, ground_below, ground, last_form, distinct, below, list_ok, tuple_ok, names_ok, function_ok, fields_ok, fresh, ground_call, type_ok, bad_type_from, bad_type, same_numbers}
use Rattle.meaning.specs.Typing.{base_no}
use Rattle.meaning.specs.Records.{version}
use Rattle.meaning.proofs.Trees.Tests.{left, right, both, within-if, numbers-same, none-some}
use Rattle.meaning.proofs.Bytes.RowTables.{passes, Below, start, ◌▸◌, below_at}

-- Ground ---------------------------------------------------------------------------------------------------------

and-cong : (b x y : Bool) → (b ≡ true → x ≡ y) → (b ∧ᵇ x) ≡ (b ∧ᵇ y)
unfolding ◌∧ᵇ◌
and-cong true x y h = h refl
and-cong false x y h = refl

-- enough depth is as good as more, and only the forms of the numbers up to t count
deep : (form form' : ℕ → Form) (f g t : ℕ) → t < f → t < g → ((p : ℕ) → p ≤ t → form p ≡ form' p) → ground_below form f t ≡ ground_below form' g t
unfolding ground_below
deep form form' zero g t h k same = absurd (omega arith)
deep form form' (suc f) zero t h k same = absurd (omega arith)
deep form form' (suc f) (suc g) t h k same =
    ap (ground_form (λ p. ltb p t ∧ᵇ ground_below form f p)) (same t (omega arith))
    ∙ ap (λ (q : ℕ → Bool). ground_form q (form' t)) (fun_ext λ p. and-cong (ltb p t) _ _ (λ e.
    let b : p < t = ltb-true p t e in
    deep form form' f g p (omega arith) (omega arith) (λ q j. same q (omega arith))))

pub ground-below : (form form' : ℕ → Form) (t : ℕ) → ((p : ℕ) → p ≤ t → form p ≡ form' p) → ground form t ≡ ground form' t
unfolding ground
ground-below form form' t same = deep form form' (suc t) (suc t) t (omega arith) (omega arith) same

module _ (form : ℕ → Form) (t : ℕ) where
  -- a type is ground as its parts are, each of a smaller number
  pub ground-eq : ground form t ≡ ground_form (λ p. ltb p t ∧ᵇ ground form p) (form t)
  unfolding ground ground_below
  ground-eq =
      ap (λ (q : ℕ → Bool). ground_form q (form t)) (fun_ext λ p. and-cong (ltb p t) _ _ (λ e.
      let b : p < t = ltb-true p t e in
      deep form form t (suc p) p b (omega arith) (λ q j. refl)))

  pub ground-known : ground form t ≡ true → form t ≡ absent → ⊥
  unfolding ground_form
  ground-known g e = false≢true (rw (ground-eq, e) at g)

  pub ground-elem : (e : ℕ) → form t ≡ f_list e → ground form t ≡ true → (e < t) × (ground form e ≡ true)
  unfolding ground_form
  ground-elem e q g = let z : (ltb e t ∧ᵇ ground form e) ≡ true = rw (ground-eq, q) at g in (ltb-true e t (left _ _ z), right _ _ z)

  pub ground-parts : (ts : List ℕ) → form t ≡ f_tuple ts → ground form t ≡ true → every (λ p. ltb p t ∧ᵇ ground form p) ts ≡ true
  unfolding ground_form
  ground-parts ts q g = rw (ground-eq, q) at g

  pub ground-no-function : (s : Side) (ps : List Param) (r : ℕ) → form t ≡ f_fun s ps r → ground form t ≡ true → ⊥
  unfolding ground_form
  ground-no-function s ps r q g = false≢true (rw (ground-eq, q) at g)

  pub ground-base : (b : Base) → form t ≡ base b → ground form t ≡ true
  unfolding ground_form
  ground-base b q = rw (ground-eq, q) refl

-- Bad rows -------------------------------------------------------------------------------------------------------

module _ (edition : ℕ) where
  snoc-take : (old rs : List (List ℕ)) (r : List ℕ) (j : ℕ) → type_ok edition (old ++ (r ∷ []) ++ take j rs) (get_or rs j []) ≡ type_ok edition (old ++ take (suc j) (r ∷ rs)) (get_or (r ∷ rs) (suc j) [])
  snoc-take old rs r j = rw (append_snoc old r (take j rs)) refl

  no-bad-from : (old rs : List (List ℕ)) → bad_type_from edition old rs ≡ None → (j : ℕ) → j < length rs → type_ok edition (old ++ take j rs) (get_or rs j []) ≡ true
  unfolding bad_type_from
  no-bad-from old [] e j h = absurd (omega arith)
  no-bad-from old (r ∷ rs) e zero h = rw (append-nil old) (passes (type_ok edition old r) _ _ e).0
  no-bad-from old (r ∷ rs) e (suc j) h = sym (snoc-take old rs r j) ∙ no-bad-from (old ++ (r ∷ [])) rs (passes (type_ok edition old r) _ _ e).1 j (omega arith)

  none_from : (old rs : List (List ℕ)) → ((j : ℕ) → j < length rs → type_ok edition (old ++ take j rs) (get_or rs j []) ≡ true) → bad_type_from edition old rs ≡ None
  unfolding bad_type_from
  none_from old [] h = refl
  none_from old (r ∷ rs) h =
      let e : type_ok edition old r ≡ true = rw (append-nil old) at (h 0 (omega arith)) in
      rw e (none_from (old ++ (r ∷ [])) rs (λ j k. snoc-take old rs r j ∙ h (suc j) (omega arith)))

  first-from : (old rs : List (List ℕ)) (i : ℕ) → bad_type_from edition old rs ≡ Some i
      → (n : ℕ) × (i ≡ length old + n) × (n < length rs) × (type_ok edition (old ++ take n rs) (get_or rs n []) ≡ false)
      × ((j : ℕ) → j < n → type_ok edition (old ++ take j rs) (get_or rs j []) ≡ true)
  unfolding bad_type_from
  first-from old [] i e = absurd (none-some i e)
  first-from old (r ∷ rs) i e = go (type_ok edition old r) refl (first-from (old ++ (r ∷ [])) rs i)
    where
      go : (b : Bool) → type_ok edition old r ≡ b
          → (bad_type_from edition (old ++ (r ∷ [])) rs ≡ Some i
          → (n : ℕ) × (i ≡ length (old ++ (r ∷ [])) + n) × (n < length rs) × (type_ok edition (old ++ (r ∷ []) ++ take n rs) (get_or rs n []) ≡ false)
          × ((j : ℕ) → j < n → type_ok edition (old ++ (r ∷ []) ++ take j rs) (get_or rs j []) ≡ true))
          → (n : ℕ) × (i ≡ length old + n) × (n < suc (length rs)) × (type_ok edition (old ++ take n (r ∷ rs)) (get_or (r ∷ rs) n []) ≡ false)
          × ((j : ℕ) → j < n → type_ok edition (old ++ take j (r ∷ rs)) (get_or (r ∷ rs) j []) ≡ true)
      go false q rec =
          let z : length old ≡ i = let y : ◌≡◌ {A = Option ℕ} (Some (length old)) (Some i) = rw q at e in cc in
          (0, omega arith, omega arith, rw (append-nil old) q, λ j h. absurd (omega arith))
      go true q rec =
          let (n, a, b, c, d) = rec (rw q at e) in
          (suc n, omega (arith, a, length-append old (r ∷ [])), omega arith, sym (snoc-take old rs r n) ∙ c, earlier n d)
        where
          earlier : (n : ℕ) → ((j : ℕ) → j < n → type_ok edition (old ++ (r ∷ []) ++ take j rs) (get_or rs j []) ≡ true) → (j : ℕ) → j < suc n → type_ok edition (old ++ take j (r ∷ rs)) (get_or (r ∷ rs) j []) ≡ true
          earlier n d zero h = rw (append-nil old) q
          earlier n d (suc j) h = sym (snoc-take old rs r j) ∙ d j (omega arith)

  pub no-bad-type : (rows : List (List ℕ)) → bad_type edition rows ≡ None → (j : ℕ) → j < length rows → type_ok edition (take j rows) (get_or rows j []) ≡ true
  unfolding bad_type
  no-bad-type rows e = no-bad-from [] rows e

  pub none-bad : (rows : List (List ℕ)) → ((j : ℕ) → j < length rows → type_ok edition (take j rows) (get_or rows j []) ≡ true) → bad_type edition rows ≡ None
  unfolding bad_type
  none-bad rows h = none_from [] rows h

  -- refusal 6
  pub first-bad-type : (rows : List (List ℕ)) (i : ℕ) → bad_type edition rows ≡ Some i
      → (i < length rows) × (type_ok edition (take i rows) (get_or rows i []) ≡ false) × ((j : ℕ) → j < i → type_ok edition (take j rows) (get_or rows j []) ≡ true)
  unfolding bad_type
  first-bad-type rows i e =
      let (n, a, b, c, d) = first-from [] rows i e in
      let z : i ≡ n = omega arith in
      rw z (b, c, d)

  -- "so equal types have equal numbers"
  pub equal-types : (rows : List (List ℕ)) → bad_type edition rows ≡ None → (i j : ℕ) → i < length rows → j < length rows → get_or rows i [] ≡ get_or rows j [] → i ≡ j
  unfolding type_ok fresh
  equal-types rows e i j h k q = elim (ℕ_discrete i j) [
    | yes z ↦ z
    | no z ↦ absurd (elim (dec_lt i j) [ yes l ↦ apart i j k l q | no l ↦ apart j i h (omega arith) (sym q) ])
  ]
    where
      stale : (old : List (List ℕ)) (r : List ℕ) (i : ℕ) → fresh old r ≡ true → i < length old → get_or old i [] ≡ r → ⊥
      stale [] r i f h q = omega arith
      stale (s ∷ old) r zero f h q = false≢true (sym (not-true _ (left _ _ f)) ∙ ap (same_numbers s) (sym q) ∙ numbers-same s)
      stale (s ∷ old) r (suc i) f h q = stale old r i (right _ _ f) (omega arith) q

      apart : (i j : ℕ) → j < length rows → i < j → get_or rows i [] ≡ get_or rows j [] → ⊥
      apart i j h l q =
          stale (take j rows) (get_or rows j []) i
          (left _ _ (right _ _ (right _ _ (no-bad-type rows e j h))))
          (omega (arith, length-take-le j rows (omega arith)))
          (get_or-take j rows i [] l ∙ q)

-- What a table promises ------------------------------------------------------------------------------------------

-- form 6 or 7
unfoldable pub side_no : Side → ℕ
side_no ntv = 6
side_no frn = 7

-- what a row's form number makes of it
pub data RowForm (r : List ℕ) : Type 0 where
  formless : (1 ≤ form_no r → 8 ≤ form_no r) → form_row r ≡ absent → RowForm r
  of_base : (b : Base) → form_no r ≡ base_no b → form_row r ≡ base b → RowForm r
  of_list : form_no r ≡ 4 → form_row r ≡ f_list (result_no r) → RowForm r
  of_tuple : form_no r ≡ 5 → form_row r ≡ f_tuple (types (parts r)) → RowForm r
  of_fun : (s : Side) → form_no r ≡ side_no s → form_row r ≡ f_fun s (parts r) (result_no r) → RowForm r

pub row-form : (r : List ℕ) → RowForm r
unfolding form_row side_no base_no
row-form r = elim (dec_lt (form_no r) 8) [
  | yes h ↦ below_at (λ k. form_no r ≡ k → RowForm r) 8 known (form_no r) h refl
  | no h ↦ formless (λ l. omega arith) (let other : (k : ℕ) → k < 8 → eqb (form_no r) k ≡ false = λ k l. ne_eqb (form_no r) k (λ e. omega arith) in rw (other 1 (omega arith), other 2 (omega arith), other 3 (omega arith), other 4 (omega arith), other 5 (omega arith), other 6 (omega arith), other 7 (omega arith)) refl)
]
  where
    known : Below (λ k. form_no r ≡ k → RowForm r) 8
    known =
        start
        ▸ (λ e. formless (λ l. omega arith) (rw e refl))
        ▸ (λ e. of_base Str e (rw e refl))
        ▸ (λ e. of_base File e (rw e refl))
        ▸ (λ e. of_base Truth e (rw e refl))
        ▸ (λ e. of_list e (rw e refl))
        ▸ (λ e. of_tuple e (rw e refl))
        ▸ (λ e. of_fun ntv e (rw e refl))
        ▸ (λ e. of_fun frn e (rw e refl))

-- what every type of a table of so many keeps
pub record Promises (form : ℕ → Form) (count : ℕ) : Type 0 where
  pub elem : {t e : ℕ} → form t ≡ f_list e → e < t
  pub tuple : {t : ℕ} {ts : List ℕ} → form t ≡ f_tuple ts → every (below t) ts ≡ true
  pub result : {t r : ℕ} {s : Side} {ps : List Param} → form t ≡ f_fun s ps r → r < t
  pub args : {t r : ℕ} {s : Side} {ps : List Param} → form t ≡ f_fun s ps r → every (below t) (types ps) ≡ true
  pub names : {t r : ℕ} {s : Side} {ps : List Param} → form t ≡ f_fun s ps r → distinct (names ps) ≡ true
  pub call : {t r : ℕ} {ps : List Param} → form t ≡ f_fun frn ps r → (ground form r ≡ true) × (every (ground form) (types ps) ≡ true)
  pub beyond : (t : ℕ) → count ≤ t → form t ≡ absent
  pub at : (t : ℕ) → form t ≡ absent → count ≤ t

pub below-if : (i t : ℕ) → below i t ≡ true → t < i
unfolding below
below-if i t e = ltb-true t i e

pub below_of : (i t : ℕ) → t < i → below i t ≡ true
unfolding below
below_of i t h = lt-ltb t i h

every_map : (p q q' : ℕ → Bool) (xs : List ℕ) → ((x : ℕ) → p x ≡ true → q x ≡ true → q' x ≡ true) → every p xs ≡ true → every q xs ≡ true → every q' xs ≡ true
unfolding every
every_map p q q' [] k a b = refl
every_map p q q' (x ∷ xs) k a b = both _ _ (k x (left _ _ a) (left _ _ b)) (every_map p q q' xs k (right _ _ a) (right _ _ b))

form-beyond : (rows : List (List ℕ)) (t : ℕ) → length rows ≤ t → form_of rows t ≡ absent
unfolding form_of form_row
form-beyond rows t h = rw (get_or-eq_default rows [] h) refl

-- what the fields of row i keep, by its form
fields-list : (i : ℕ) (r : List ℕ) → form_no r ≡ 4 → fields_ok i r ≡ true → below i (result_no r) ≡ true
unfolding fields_ok list_ok
fields-list i r e k = right _ _ (rw e at (right _ _ k))

fields-tuple : (i : ℕ) (r : List ℕ) → form_no r ≡ 5 → fields_ok i r ≡ true → every (below i) (types (parts r)) ≡ true
unfolding fields_ok tuple_ok
fields-tuple i r e k = right _ _ (right _ _ (right _ _ (rw e at (right _ _ k))))

record FunFields (i : ℕ) (r : List ℕ) : Type 0 where
  few : parts_no r ≤ 8
  result : below i (result_no r) ≡ true
  distinct : distinct (names (parts r)) ≡ true
  args : every (below i) (types (parts r)) ≡ true

fields-fun : (i : ℕ) (r : List ℕ) (s : Side) → form_no r ≡ side_no s → fields_ok i r ≡ true → FunFields i r
unfolding fields_ok side_no function_ok names_ok
fields-fun i r s e k = go s e
  where
    kept : function_ok i r ≡ true → FunFields i r
    kept k =
        let a = right _ _ k in
        let b = right _ _ a in
        record { few = leb-true (parts_no r) 8 (left _ _ k); result = left _ _ a; distinct = right _ _ (left _ _ b); args = right _ _ b }

    go : (s : Side) → form_no r ≡ side_no s → FunFields i r
    go ntv e = kept (rw e at (right _ _ k))
    go frn e = kept (rw e at (right _ _ k))

-- a form tells its row
pub list-row : (r : List ℕ) (e : ℕ) → form_row r ≡ f_list e → (form_no r ≡ 4) × (result_no r ≡ e)
list-row r e q = elim (row-form r) [
  | formless k f ↦ absurd (let z : ◌≡◌ {A = ℕ} 0 1 = cc in omega arith)
  | of_base b k f ↦ absurd (let z : ◌≡◌ {A = ℕ} 0 1 = cc in omega arith)
  | of_list k f ↦ (k, cc)
  | of_tuple k f ↦ absurd (let z : ◌≡◌ {A = ℕ} 0 1 = cc in omega arith)
  | of_fun s k f ↦ absurd (let z : ◌≡◌ {A = ℕ} 0 1 = cc in omega arith)
]

pub tuple-row : (r ts : List ℕ) → form_row r ≡ f_tuple ts → (form_no r ≡ 5) × (types (parts r) ≡ ts)
tuple-row r ts q = elim (row-form r) [
  | formless k f ↦ absurd (let z : ◌≡◌ {A = ℕ} 0 1 = cc in omega arith)
  | of_base b k f ↦ absurd (let z : ◌≡◌ {A = ℕ} 0 1 = cc in omega arith)
  | of_list k f ↦ absurd (let z : ◌≡◌ {A = ℕ} 0 1 = cc in omega arith)
  | of_tuple k f ↦ (k, cc)
  | of_fun s k f ↦ absurd (let z : ◌≡◌ {A = ℕ} 0 1 = cc in omega arith)
]

pub fun-row : (r : List ℕ) (s : Side) (ps : List Param) (u : ℕ) → form_row r ≡ f_fun s ps u → (form_no r ≡ side_no s) × (parts r ≡ ps) × (result_no r ≡ u)
fun-row r s ps u q = elim (row-form r) [
  | formless k f ↦ absurd (let z : ◌≡◌ {A = ℕ} 0 1 = cc in omega arith)
  | of_base b k f ↦ absurd (let z : ◌≡◌ {A = ℕ} 0 1 = cc in omega arith)
  | of_list k f ↦ absurd (let z : ◌≡◌ {A = ℕ} 0 1 = cc in omega arith)
  | of_tuple k f ↦ absurd (let z : ◌≡◌ {A = ℕ} 0 1 = cc in omega arith)
  | of_fun v k f ↦ let z : v ≡ s = cc in (k ∙ ap side_no z, cc, cc)
]

module _ (rows : List (List ℕ)) (pass : bad_type version rows ≡ None) where
  -- a row with a form number stands in the table
  stands : (t : ℕ) → 1 ≤ form_no (get_or rows t []) → t < length rows
  stands t h = elim (dec_lt t (length rows)) [
    | yes l ↦ l
    | no l ↦ let z : get_or rows t [] ≡ [] = get_or-eq_default rows [] (omega arith) in absurd (omega (arith, ap (λ (r : List ℕ). form_no r) z))
  ]

  fields_at : (t : ℕ) → t < length rows → fields_ok t (get_or rows t []) ≡ true
  unfolding type_ok
  fields_at t h =
      rw (length-take-le t rows (omega arith)) at (left _ _ (right _ _ (no-bad-type version rows pass t h)))

  record FunAt (t : ℕ) (s : Side) (ps : List Param) (u : ℕ) : Type 0 where
    stands : t < length rows
    form : form_no (get_or rows t []) ≡ side_no s
    params : parts (get_or rows t []) ≡ ps
    result : result_no (get_or rows t []) ≡ u
    fields : FunFields t (get_or rows t [])

  fun-at : (t : ℕ) (s : Side) (ps : List Param) (u : ℕ) → form_of rows t ≡ f_fun s ps u → FunAt t s ps u
  unfolding form_of side_no
  fun-at t s ps u q =
      let (a, b, c) = fun-row (get_or rows t []) s ps u q in
      let h = stands t (omega (arith, a, some-side s)) in
      record { stands = h; form = a; params = b; result = c; fields = fields-fun t (get_or rows t []) s a (fields_at t h) }
    where
      some-side : (s : Side) → 6 ≤ side_no s
      some-side ntv = omega arith
      some-side frn = omega arith

  -- a type is ground among the earlier ones if it is among all
  ground-earlier : (t p : ℕ) → p < t → ground (form_of (take t rows)) p ≡ ground (form_of rows) p
  unfolding form_of
  ground-earlier t p h = ground-below _ _ p (λ q l. ap form_row (get_or-take t rows q [] (omega arith)))

  ground-call : (t : ℕ) (ps : List Param) (u : ℕ) → form_of rows t ≡ f_fun frn ps u → (ground (form_of rows) u ≡ true) × (every (ground (form_of rows)) (types ps) ≡ true)
  unfolding type_ok ground_call side_no
  ground-call t ps u q =
      let d = fun-at t frn ps u q in
      let g : (ground (form_of (take t rows)) u ∧ᵇ every (ground (form_of (take t rows))) (types ps)) ≡ true =
      rw (d.form, d.params, d.result) at (right _ _ (right _ _ (right _ _ (no-bad-type version rows pass t d.stands)))) in
      let r : u < t = rw d.result at (below-if _ _ d.fields.result) in (
        sym (ground-earlier t u r) ∙ left _ _ g,
        every_map (below t) _ _ (types ps) (λ x b g. sym (ground-earlier t x (below-if t x b)) ∙ g) (rw d.params at d.fields.args) (right _ _ g),
      )

  form-known : (t : ℕ) → form_of rows t ≡ absent → length rows ≤ t
  unfolding form_of type_ok last_form
  form-known t q = elim (dec_lt t (length rows)) [
    | no h ↦ omega arith
    | yes h ↦ let (a, b) = within-if 1 7 (form_no (get_or rows t [])) (left _ _ (no-bad-type version rows pass t h)) in elim (row-form (get_or rows t [])) [
      | formless k f ↦ absurd (omega (arith, k a))
      | of_base b k f ↦ absurd (let z : ◌≡◌ {A = ℕ} 0 1 = cc in omega arith)
      | of_list k f ↦ absurd (let z : ◌≡◌ {A = ℕ} 0 1 = cc in omega arith)
      | of_tuple k f ↦ absurd (let z : ◌≡◌ {A = ℕ} 0 1 = cc in omega arith)
      | of_fun s k f ↦ absurd (let z : ◌≡◌ {A = ℕ} 0 1 = cc in omega arith)
    ]
  ]

  pub promised : Promises (form_of rows) (length rows)
  unfolding form_of
  promised =
      record {
        elem = λ {t} {e} q.
            let (a, b) = list-row (get_or rows t []) e q in
            rw b at (below-if t _ (fields-list t _ a (fields_at t (stands t (omega arith)))));
        tuple = λ {t} {ts} q.
            let (a, b) = tuple-row (get_or rows t []) ts q in
            rw b at (fields-tuple t _ a (fields_at t (stands t (omega arith))));
        result = λ {t} {r} {s} {ps} q. let d = fun-at t s ps r q in rw d.result at (below-if t _ d.fields.result);
        args = λ {t} {r} {s} {ps} q. let d = fun-at t s ps r q in rw d.params at d.fields.args;
        names = λ {t} {r} {s} {ps} q. let d = fun-at t s ps r q in rw d.params at d.fields.distinct;
        call = λ {t} {r} {ps} q. ground-call t ps r q;
        beyond = λ t h. form-beyond rows t h;
        at = λ t q. form-known t q;
      }
