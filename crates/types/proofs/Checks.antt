-- A turn of each loop over a type row or the table. Assumes nothing.
use Prim.Native.Nat.{ℕ, zero, suc, ◌+◌, ◌*◌, ◌<◌, ◌≤◌, max}
use mathlib.Core.Path.{◌≡◌, refl, ap, sym, ◌∙◌}
use mathlib.Core.Bool.{Bool, true, false}
use mathlib.Core.List.{List, ◌∷◌}
use native.Mathlib.Omega.{arith}
use native.Mathlib.Decide.{ℕ_discrete, dec_lt}
use native.Mathlib.Numerals.{add-one}
use borrow.Author.Tests.{eq-eqb, ne_eqb, lt-ltb, le-ltb, le-leb, lt-leb}
use lib.Dec.{eqb, ltb}
use lib.ListN.{length, drop, get_or, drop_of_length-le, get_or-eq_default}
use lib.Seq.{drop-cons}
use Rattle.meaning.specs.Bytes.{◌∧ᵇ◌, within, zeros}
use Rattle.meaning.specs.Types.{form_no, parts_no, result_no, parts, last_form, every, nonzero, member, distinct, below, plain_ok, list_ok, tuple_ok, names_ok, function_ok, form_fields, fields_ok, same_numbers}
use Rattle.types.specs.Table.{first_names, first_types, HeadWord, PairWord}
use Rattle.types.proofs.Laws.{row-length, first-name, first-type, first-names as names-long, first-types as types-long}

pub last-other : (e : ℕ) → (e ≡ 1 → ⊥) → last_form e ≡ 0
unfolding last_form
last-other zero h = refl
last-other (suc zero) h = absurd (h refl)
last-other (suc (suc e)) h = refl

-- a test of all elements from the k-th on, where v is the k-th
module _ (l : List ℕ) (k v : ℕ) (h : k < length l) (e : get_or l k 0 ≡ v) where
  pub zeros-no : (v ≡ 0 → ⊥) → zeros (drop k l) ≡ false
  unfolding zeros ◌∧ᵇ◌
  zeros-no n = rw (drop-cons l k 0 h, e, ne_eqb v 0 n)

  pub zeros-on : v ≡ 0 → zeros (drop k l) ≡ zeros (drop (k + 1) l)
  unfolding zeros ◌∧ᵇ◌
  zeros-on q = rw (add-one k, drop-cons l k 0 h, e, eq-eqb v 0 q)

  pub below-no : (t : ℕ) → t ≤ v → every (below t) (drop k l) ≡ false
  unfolding every below ◌∧ᵇ◌
  below-no t n = rw (drop-cons l k 0 h, e, le-ltb v t n)

  pub below_on : (t : ℕ) → v < t → every (below t) (drop k l) ≡ every (below t) (drop (k + 1) l)
  unfolding every below ◌∧ᵇ◌
  below_on t q = rw (add-one k, drop-cons l k 0 h, e, lt-ltb v t q)

  pub member-yes : (x : ℕ) → v ≡ x → member x (drop k l) ≡ true
  unfolding member
  member-yes x q = rw (drop-cons l k 0 h, e, eq-eqb x v (sym q))

  pub member-on : (x : ℕ) → (v ≡ x → ⊥) → member x (drop k l) ≡ member x (drop (k + 1) l)
  unfolding member
  member-on x n = rw (add-one k, drop-cons l k 0 h, e, ne_eqb x v (λ q. n (sym q)))

  pub names-zero : v ≡ 0 → names_ok (drop k l) ≡ false
  unfolding names_ok every nonzero ◌∧ᵇ◌
  names-zero q = rw (drop-cons l k 0 h, e, lt-leb 1 v (omega arith))

  names-and : (b c : Bool) → (b ∧ᵇ false ∧ᵇ c) ≡ false
  unfolding ◌∧ᵇ◌
  names-and true c = refl
  names-and false c = refl

  pub names-twice : member v (drop (k + 1) l) ≡ true → names_ok (drop k l) ≡ false
  unfolding names_ok distinct
  names-twice q = let q' = rw add-one at q in rw (drop-cons l k 0 h, e, q') (names-and (every nonzero (v ∷ drop (suc k) l)) _)

  pub names-on : (v ≡ 0 → ⊥) → member v (drop (k + 1) l) ≡ false → names_ok (drop k l) ≡ names_ok (drop (k + 1) l)
  unfolding names_ok distinct every nonzero ◌∧ᵇ◌
  names-on n q = let q' = rw add-one at q in rw (add-one k, drop-cons l k 0 h, e, le-leb 1 v (omega arith), q')

-- the end of such a loop
module _ (l : List ℕ) (k : ℕ) (h : length l ≤ k) where
  pub zeros-end : zeros (drop k l) ≡ true
  unfolding zeros
  zeros-end = rw (drop_of_length-le l {i = k} h)

  pub below_end : (t : ℕ) → every (below t) (drop k l) ≡ true
  unfolding every
  below_end t = rw (drop_of_length-le l {i = k} h)

  pub member-end : (x : ℕ) → member x (drop k l) ≡ false
  unfolding member
  member-end x = rw (drop_of_length-le l {i = k} h)

  pub names-end : names_ok (drop k l) ≡ true
  unfolding names_ok every distinct ◌∧ᵇ◌
  names-end = rw (drop_of_length-le l {i = k} h)

-- the numbers of a row behind its first k pairs, where v is the k-th pair
module _ (r : List ℕ) (z : length r ≡ 19) (k : ℕ) where
  name-zero : k < 8 → get_or r (3 + 2 * k) 0 ≡ 0 → zeros (drop (3 + 2 * k) r) ≡ zeros (drop (4 + 2 * k) r)
  name-zero h q =
      let f : 3 + 2 * k + 1 ≡ 4 + 2 * k = omega arith in
      zeros-on r (3 + 2 * k) _ (omega arith) refl q ∙ ap (λ (x : ℕ). zeros (drop x r)) f

  module _ (v : ℕ) (h : k < 8) (w : PairWord r k v) where
    pub rest-no : (v ≡ 0 → ⊥) → zeros (drop (3 + 2 * k) r) ≡ false
    rest-no n =
        elim (ℕ_discrete (get_or r (3 + 2 * k) 0) 0) [
          | no a ↦ zeros-no r (3 + 2 * k) _ (omega arith) refl a
          | yes q ↦ name-zero h q ∙ zeros-no r (4 + 2 * k) _ (omega arith) refl (λ p. n (omega arith))
        ]

    pub rest-on : v ≡ 0 → zeros (drop (3 + 2 * k) r) ≡ zeros (drop (3 + 2 * (k + 1)) r)
    rest-on q =
        let g : 4 + 2 * k + 1 ≡ 3 + 2 * (k + 1) = omega arith in
        name-zero h (omega arith) ∙ zeros-on r (4 + 2 * k) _ (omega arith) refl (omega arith) ∙ ap (λ (x : ℕ). zeros (drop x r)) g

  pub rest_end : 8 ≤ k → zeros (drop (3 + 2 * k) r) ≡ true
  rest_end h = zeros-end r (3 + 2 * k) (omega arith)

-- one pair more, where those behind the first n count and the greatest so far is known
pub rest-step : (r : List ℕ) (z : length r ≡ 19) (n k most w : ℕ) → k < 8 → (k < n → w ≡ 0) → (n ≤ k → PairWord r k w)
    → (eqb most 0 ∧ᵇ zeros (drop (3 + 2 * max n k) r)) ≡ zeros (drop (3 + 2 * n) r) → (eqb (max most w) 0 ∧ᵇ zeros (drop (3 + 2 * max n (k + 1)) r)) ≡ zeros (drop (3 + 2 * n) r)
unfolding ◌∧ᵇ◌
rest-step r z n k most w few none pair inv = elim (dec_lt k n) [ yes h ↦ early h | no h ↦ late (omega arith) ]
  where
    never : (b : Bool) → (b ∧ᵇ false) ≡ false
    never true = refl
    never false = refl

    early : k < n → (eqb (max most w) 0 ∧ᵇ zeros (drop (3 + 2 * max n (k + 1)) r)) ≡ zeros (drop (3 + 2 * n) r)
    early h =
        let a : max most w ≡ most = omega (arith, none h) in
        let b : max n (k + 1) ≡ max n k = omega arith in
        rw (a, b) inv

    late : n ≤ k → (eqb (max most w) 0 ∧ᵇ zeros (drop (3 + 2 * max n (k + 1)) r)) ≡ zeros (drop (3 + 2 * n) r)
    late h =
        let p = pair h in
        let m : max n k ≡ k = omega arith in
        let m1 : max n (k + 1) ≡ k + 1 = omega arith in
        let i : (eqb most 0 ∧ᵇ zeros (drop (3 + 2 * k) r)) ≡ zeros (drop (3 + 2 * n) r) = ap (λ (j : ℕ). eqb most 0 ∧ᵇ zeros (drop (3 + 2 * j) r)) (sym m) ∙ inv in
        elim (ℕ_discrete w 0) [
          | yes q ↦ let a : max most w ≡ most = omega (arith, q) in rw (a, m1) (ap (λ (b : Bool). eqb most 0 ∧ᵇ b) (sym (rest-on r z k w few p q)) ∙ i)
          | no f ↦ let e : eqb (max most w) 0 ≡ false = ne_eqb (max most w) 0 (omega (arith, f)) in rw e (sym (never (eqb most 0)) ∙ ap (λ (b : Bool). eqb most 0 ∧ᵇ b) (sym (rest-no r z k w few p f)) ∙ i)
        ]

-- before the first pair, and behind the last
pub rest-none : (r : List ℕ) (n : ℕ) → (eqb 0 0 ∧ᵇ zeros (drop (3 + 2 * max n 0) r)) ≡ zeros (drop (3 + 2 * n) r)
unfolding ◌∧ᵇ◌
rest-none r n = let a : max n 0 ≡ n = omega arith in ap (λ (i : ℕ). zeros (drop (3 + 2 * i) r)) a

pub rest_all : (r : List ℕ) (z : length r ≡ 19) (n k most : ℕ) → 8 ≤ k → (eqb most 0 ∧ᵇ zeros (drop (3 + 2 * max n k) r)) ≡ zeros (drop (3 + 2 * n) r) → eqb most 0 ≡ zeros (drop (3 + 2 * n) r)
unfolding ◌∧ᵇ◌
rest_all r z n k most h inv = always (eqb most 0) ∙ ap (λ (b : Bool). eqb most 0 ∧ᵇ b) (sym (rest_end r z (max n k) (omega arith))) ∙ inv
  where
    always : (b : Bool) → b ≡ (b ∧ᵇ true)
    always true = refl
    always false = refl

-- Fields by form -------------------------------------------------------------------------------------------------

module _ (i : ℕ) (r : List ℕ) (n : ℕ) (g : n ≡ parts_no r) where
  pub tuple-none : n ≡ 0 → tuple_ok i r ≡ false
  unfolding tuple_ok within ◌∧ᵇ◌
  tuple-none q = rw (← g, q)

  pub tuple-many : 8 < n → tuple_ok i r ≡ false
  unfolding tuple_ok within ◌∧ᵇ◌
  tuple-many q = rw (← g, le-leb 1 n (omega arith), lt-leb n 8 q)

  pub function-many : 8 < n → function_ok i r ≡ false
  unfolding function_ok ◌∧ᵇ◌
  function-many q = rw (← g, lt-leb n 8 q)

  module _ (h : n ≤ 8) where
    module _ (k : 1 ≤ n) (v : ℕ) (e : v ≡ result_no r) where
      pub tuple-result : (v ≡ 0 → ⊥) → tuple_ok i r ≡ false
      unfolding tuple_ok within ◌∧ᵇ◌
      tuple-result q = rw (← g, le-leb 1 n k, le-leb n 8 h, ← e, ne_eqb v 0 q)

      pub tuple-names : v ≡ 0 → zeros (first_names n r) ≡ false → tuple_ok i r ≡ false
      unfolding tuple_ok within parts ◌∧ᵇ◌
      tuple-names q f = rw (← g, le-leb 1 n k, le-leb n 8 h, ← e, eq-eqb v 0 q, f)

      pub tuple-parts : v ≡ 0 → zeros (first_names n r) ≡ true → tuple_ok i r ≡ every (below i) (first_types n r)
      unfolding tuple_ok within parts ◌∧ᵇ◌
      tuple-parts q f = rw (← g, le-leb 1 n k, le-leb n 8 h, ← e, eq-eqb v 0 q, f)

    module _ (v : ℕ) (e : v ≡ result_no r) where
      pub function-result : i ≤ v → function_ok i r ≡ false
      unfolding function_ok below ◌∧ᵇ◌
      function-result q = rw (← g, le-leb n 8 h, ← e, le-ltb v i q)

      pub function-names : v < i → names_ok (first_names n r) ≡ false → function_ok i r ≡ false
      unfolding function_ok below parts ◌∧ᵇ◌
      function-names q f = rw (← g, le-leb n 8 h, ← e, lt-ltb v i q, f)

      pub function-parts : v < i → names_ok (first_names n r) ≡ true → function_ok i r ≡ every (below i) (first_types n r)
      unfolding function_ok parts ◌∧ᵇ◌
      function-parts q f =
          let b : below i v ≡ true = unfold below in lt-ltb v i q in
          rw (← g, le-leb n 8 h, ← e, b, f)

module _ (r : List ℕ) (n : ℕ) (g : n ≡ parts_no r) where
  pub plain-parts : (n ≡ 0 → ⊥) → plain_ok r ≡ eqb n 0
  unfolding plain_ok ◌∧ᵇ◌
  plain-parts q = rw (← g, ne_eqb n 0 q)

  pub plain-result : (v : ℕ) → v ≡ result_no r → n ≡ 0 → plain_ok r ≡ eqb v 0
  unfolding plain_ok ◌∧ᵇ◌
  plain-result v e q = rw (← g, eq-eqb n 0 q, ← e)

  pub list-parts : (i : ℕ) → (n ≡ 0 → ⊥) → list_ok i r ≡ eqb n 0
  unfolding list_ok ◌∧ᵇ◌
  list-parts i q = rw (← g, ne_eqb n 0 q)

  pub list-result : (i v : ℕ) → v ≡ result_no r → n ≡ 0 → list_ok i r ≡ ltb v i
  unfolding list_ok below ◌∧ᵇ◌
  list-result i v e q = rw (← g, eq-eqb n 0 q, ← e)

plain-line : (i : ℕ) (r : List ℕ) (f : ℕ) → 1 ≤ f → f < 4 → get_or (form_fields i r) f false ≡ plain_ok r
plain-line i r zero h k = absurd (omega arith)
plain-line i r (suc zero) h k = refl
plain-line i r (suc (suc zero)) h k = refl
plain-line i r (suc (suc (suc zero))) h k = refl
plain-line i r (suc (suc (suc (suc f)))) h k = absurd (omega arith)

function-line : (i : ℕ) (r : List ℕ) (f : ℕ) → 6 ≤ f → f < 8 → get_or (form_fields i r) f false ≡ function_ok i r
function-line i r f h k = elim (ℕ_discrete f 6) [ yes e ↦ rw e refl | no e ↦ let q : f ≡ 7 = omega arith in rw q refl ]

module _ (i : ℕ) (r : List ℕ) (f n : ℕ) (e : f ≡ form_no r) (g : n ≡ parts_no r) where
  pub fields-rest : zeros (drop (3 + 2 * n) r) ≡ false → fields_ok i r ≡ false
  unfolding fields_ok ◌∧ᵇ◌
  fields-rest q = rw (← g, q)

  module _ (q : zeros (drop (3 + 2 * n) r) ≡ true) where
    pub fields-none : f ≡ 0 → fields_ok i r ≡ false
    unfolding fields_ok ◌∧ᵇ◌
    fields-none h = rw (← g, q, ← e, h)

    pub fields-other : 8 ≤ f → fields_ok i r ≡ false
    unfolding fields_ok ◌∧ᵇ◌
    fields-other h = rw (← g, q, ← e) (get_or-eq_default (form_fields i r) false {n = f} h)

    pub fields-plain : 1 ≤ f → f < 4 → fields_ok i r ≡ plain_ok r
    unfolding fields_ok ◌∧ᵇ◌
    fields-plain h k = rw (← g, q, ← e) (plain-line i r f h k)

    pub fields-list : f ≡ 4 → fields_ok i r ≡ list_ok i r
    unfolding fields_ok ◌∧ᵇ◌
    fields-list h = rw (← g, q, ← e, h)

    pub fields-tuple : f ≡ 5 → fields_ok i r ≡ tuple_ok i r
    unfolding fields_ok ◌∧ᵇ◌
    fields-tuple h = rw (← g, q, ← e, h)

    pub fields-function : 6 ≤ f → f < 8 → fields_ok i r ≡ function_ok i r
    unfolding fields_ok ◌∧ᵇ◌
    fields-function h k = rw (← g, q, ← e) (function-line i r f h k)

-- Equal rows -----------------------------------------------------------------------------------------------------

module _ (l m : List ℕ) (j : ℕ) (h : j < length l) (k : j < length m) where
  same-no : (get_or l j 0 ≡ get_or m j 0 → ⊥) → same_numbers (drop j l) (drop j m) ≡ false
  unfolding same_numbers ◌∧ᵇ◌
  same-no n = rw (drop-cons l j 0 h, drop-cons m j 0 k, ne_eqb (get_or l j 0) (get_or m j 0) n)

  same-on : get_or l j 0 ≡ get_or m j 0 → same_numbers (drop j l) (drop j m) ≡ same_numbers (drop (suc j) l) (drop (suc j) m)
  unfolding same_numbers ◌∧ᵇ◌
  same-on q = rw (drop-cons l j 0 h, drop-cons m j 0 k, eq-eqb (get_or l j 0) (get_or m j 0) q)

module _ (r q : List ℕ) (z : length r ≡ 19) (y : length q ≡ 19) where
  -- two rows with other heads, and with the same, where v and w are the heads
  module _ (v w : ℕ) (a : HeadWord r v) (b : HeadWord q w) where
    pub heads-no : (v ≡ w → ⊥) → same_numbers r q ≡ false
    heads-no n =
        elim (ℕ_discrete (get_or r 0 0) (get_or q 0 0)) [
          | no e ↦ same-no r q 0 (omega arith) (omega arith) e
          | yes e ↦ same-on r q 0 (omega arith) (omega arith) e ∙ elim (ℕ_discrete (get_or r 1 0) (get_or q 1 0)) [
            | no f ↦ same-no r q 1 (omega arith) (omega arith) f
            | yes f ↦ same-on r q 1 (omega arith) (omega arith) f ∙ same-no r q 2 (omega arith) (omega arith) (λ g. n (omega arith))
          ]
        ]

    pub heads-on : v ≡ w → same_numbers r q ≡ same_numbers (drop 3 r) (drop 3 q)
    heads-on e =
        same-on r q 0 (omega arith) (omega arith) (omega arith)
        ∙ same-on r q 1 (omega arith) (omega arith) (omega arith)
        ∙ same-on r q 2 (omega arith) (omega arith) (omega arith)

  module _ (k : ℕ) where
    name-same : k < 8 → get_or r (3 + 2 * k) 0 ≡ get_or q (3 + 2 * k) 0 → same_numbers (drop (3 + 2 * k) r) (drop (3 + 2 * k) q) ≡ same_numbers (drop (4 + 2 * k) r) (drop (4 + 2 * k) q)
    name-same h p =
        let c : suc (3 + 2 * k) ≡ 4 + 2 * k = omega arith in
        same-on r q (3 + 2 * k) (omega arith) (omega arith) p ∙ ap (λ (d : ℕ). same_numbers (drop d r) (drop d q)) c

    -- the same of their k-th pairs v and w
    module _ (h : k < 8) (v w : ℕ) (a : PairWord r k v) (b : PairWord q k w) where
      pub pairs-no : (v ≡ w → ⊥) → same_numbers (drop (3 + 2 * k) r) (drop (3 + 2 * k) q) ≡ false
      pairs-no n =
          elim (ℕ_discrete (get_or r (3 + 2 * k) 0) (get_or q (3 + 2 * k) 0)) [
            | no e ↦ same-no r q (3 + 2 * k) (omega arith) (omega arith) e
            | yes e ↦ name-same h e ∙ same-no r q (4 + 2 * k) (omega arith) (omega arith) (λ g. n (omega arith))
          ]

      pub pairs-on : v ≡ w → same_numbers (drop (3 + 2 * k) r) (drop (3 + 2 * k) q) ≡ same_numbers (drop (3 + 2 * (k + 1)) r) (drop (3 + 2 * (k + 1)) q)
      pairs-on e =
          let c : suc (4 + 2 * k) ≡ 3 + 2 * (k + 1) = omega arith in
          name-same h (omega arith) ∙ same-on r q (4 + 2 * k) (omega arith) (omega arith) (omega arith) ∙ ap (λ (d : ℕ). same_numbers (drop d r) (drop d q)) c

    pub pairs_end : 8 ≤ k → same_numbers (drop (3 + 2 * k) r) (drop (3 + 2 * k) q) ≡ true
    unfolding same_numbers
    pairs_end h = rw (drop_of_length-le r {i = 3 + 2 * k} (omega arith), drop_of_length-le q {i = 3 + 2 * k} (omega arith))

-- what the loops over a row's names and types are proved by
pub ruleset name_steps = (zeros-no, zeros-on, zeros-end, member-yes, member-on, member-end, names-zero, names-twice, names-on, names-end, row-length, names-long, first-name)

pub ruleset part_steps = (below-no, below_on, below_end, row-length, types-long, first-type)
