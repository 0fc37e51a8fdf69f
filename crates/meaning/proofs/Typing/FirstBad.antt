-- The check says what the rules say, and names the first row whose own rule fails. Assumes nothing.
use Prim.Native.Nat.{ℕ, zero, suc, ◌+◌, ◌≤◌, ◌<◌}
use mathlib.Core.Path.{◌≡◌, refl, ap, sym, ◌∙◌}
use mathlib.Core.Bool.{Bool, true, false, false≢true}
use mathlib.Core.Logic.{◌↔◌}
use mathlib.Core.List.{List, [], ◌∷◌, ◌++◌}
use Rattle.std.specs.Prelude.{Option, None, Some}
use native.Mathlib.Omega.{arith}
use lib.Dec.{eqb}
use lib.ListN.{length, get_or, length-append}
use borrow.Author.Tests.{eq-eqb, eqb-true}
use Rattle.meaning.specs.Bytes.{◌∧ᵇ◌}
use Rattle.meaning.specs.Types.{Base, Str, File, Truth, Side, ntv, frn, Param, Form, absent, base, f_list, f_tuple, f_fun, types, Ctx, ◌⹁◌, rest}
use Rattle.meaning.specs.Terms.{Head, lit, var, lambda, foreign, apply, future, ite, fix, nil, cons, isnil, zip, tuple, project, lproject, bind, arity, Tree, Forest, node, end, more, size, sizes}
use Rattle.meaning.specs.Typing.{Tys, ⟨⟩, ◌▹◌, tys, lit_base, base_no, is_base, when_list, when_tuple, when_fun, when_more, same_side, same_params, given, stop, before, later, Masked, Zipped, Rule, scope, Typed, TypedF, masked_ok, zipped_ok, rule_ok, row_ok, first_bad, first_bads}
use Rattle.meaning.proofs.Trees.Tests.{both, left, right, eq-same, numbers-is, numbers-same, none-some}

-- Tests on forms -------------------------------------------------------------------------------------------------

side-is : (s u : Side) → same_side s u ≡ true → s ≡ u
unfolding same_side
side-is ntv ntv t = refl
side-is ntv frn t = absurd (false≢true t)
side-is frn ntv t = absurd (false≢true t)
side-is frn frn t = refl

side_same : (s : Side) → same_side s s ≡ true
unfolding same_side
side_same ntv = refl
side_same frn = refl

params_is : (a b : List Param) → same_params a b ≡ true → a ≡ b
unfolding same_params
params_is [] [] t = refl
params_is [] (y ∷ ys) t = absurd (false≢true t)
params_is (x ∷ xs) [] t = absurd (false≢true t)
params_is (x ∷ xs) (y ∷ ys) t =
    let p : x.name ≡ y.name = eqb-true _ _ (left _ _ t) in
    let q : x.type ≡ y.type = eqb-true _ _ (left _ _ (right _ _ t)) in
    let r : xs ≡ ys = params_is xs ys (right _ _ (right _ _ t)) in
    λ i. record { name = p i; type = q i } ∷ r i

params_same : (a : List Param) → same_params a a ≡ true
unfolding same_params
params_same [] = refl
params_same (x ∷ xs) = both _ _ (eq-same x.name) (both _ _ (eq-same x.type) (params_same xs))

pub given_is : (o : Option ℕ) (t : ℕ) → given o t ≡ true → o ≡ Some t
unfolding given
given_is None t p = absurd (false≢true p)
given_is (Some u) t p = ap Some (eqb-true u t p)

pub given-of : (o : Option ℕ) (t : ℕ) → o ≡ Some t → given o t ≡ true
unfolding given
given-of o t e = rw e (eq-same t)

same_base : (b c : Base) → eqb (base_no c) (base_no b) ≡ true → c ≡ b
unfolding base_no
same_base Str Str t = refl
same_base Str File t = absurd (false≢true t)
same_base Str Truth t = absurd (false≢true t)
same_base File Str t = absurd (false≢true t)
same_base File File t = refl
same_base File Truth t = absurd (false≢true t)
same_base Truth Str t = absurd (false≢true t)
same_base Truth File t = absurd (false≢true t)
same_base Truth Truth t = refl

base-is : (b : Base) (f : Form) → is_base b f ≡ true → f ≡ base b
unfolding is_base
base-is b absent t = absurd (false≢true t)
base-is b (base c) t = ap base (same_base b c t)
base-is b (f_list e) t = absurd (false≢true t)
base-is b (f_tuple ts) t = absurd (false≢true t)
base-is b (f_fun s ps r) t = absurd (false≢true t)

base-of : (b : Base) (f : Form) → f ≡ base b → is_base b f ≡ true
unfolding is_base
base-of b f e = rw e (eq-same (base_no b))

list-if : (f : Form) (k : ℕ → Bool) → when_list f k ≡ true → (e : ℕ) × (f ≡ f_list e) × (k e ≡ true)
unfolding when_list
list-if absent k t = absurd (false≢true t)
list-if (base b) k t = absurd (false≢true t)
list-if (f_list e) k t = (e, refl, t)
list-if (f_tuple ts) k t = absurd (false≢true t)
list-if (f_fun s ps r) k t = absurd (false≢true t)

list_of : (f : Form) (k : ℕ → Bool) (e : ℕ) → f ≡ f_list e → k e ≡ true → when_list f k ≡ true
unfolding when_list
list_of f k e q t = rw q t

tuple-if : (f : Form) (k : List ℕ → Bool) → when_tuple f k ≡ true → (ts : List ℕ) × (f ≡ f_tuple ts) × (k ts ≡ true)
unfolding when_tuple
tuple-if absent k t = absurd (false≢true t)
tuple-if (base b) k t = absurd (false≢true t)
tuple-if (f_list e) k t = absurd (false≢true t)
tuple-if (f_tuple ts) k t = (ts, refl, t)
tuple-if (f_fun s ps r) k t = absurd (false≢true t)

tuple-of : (f : Form) (k : List ℕ → Bool) (ts : List ℕ) → f ≡ f_tuple ts → k ts ≡ true → when_tuple f k ≡ true
unfolding when_tuple
tuple-of f k ts q t = rw q t

fun-if : (f : Form) (k : Side → List Param → ℕ → Bool) → when_fun f k ≡ true → (s : Side) × (ps : List Param) × (r : ℕ) × (f ≡ f_fun s ps r) × (k s ps r ≡ true)
unfolding when_fun
fun-if absent k t = absurd (false≢true t)
fun-if (base b) k t = absurd (false≢true t)
fun-if (f_list e) k t = absurd (false≢true t)
fun-if (f_tuple ts) k t = absurd (false≢true t)
fun-if (f_fun s ps r) k t = (s, ps, r, refl, t)

fun-of : (f : Form) (k : Side → List Param → ℕ → Bool) (s : Side) (ps : List Param) (r : ℕ) → f ≡ f_fun s ps r → k s ps r ≡ true → when_fun f k ≡ true
unfolding when_fun
fun-of f k s ps r q t = rw q t

more-if : (ps : List Param) (k : Param → List Param → Bool) → when_more ps k ≡ true → (p : Param) × (qs : List Param) × (ps ≡ p ∷ qs) × (k p qs ≡ true)
unfolding when_more
more-if [] k t = absurd (false≢true t)
more-if (p ∷ ps) k t = (p, ps, refl, t)

more_of : (ps : List Param) (k : Param → List Param → Bool) (p : Param) (qs : List Param) → ps ≡ p ∷ qs → k p qs ≡ true → when_more ps k ≡ true
unfolding when_more
more_of ps k p qs e t = rw e t

-- Findings -------------------------------------------------------------------------------------------------------

stop-none : (b : Bool) (o : Option ℕ) → stop b o ≡ None → (b ≡ true) × (o ≡ None)
unfolding stop
stop-none true o e = (refl, e)
stop-none false o e = (cc, cc)

before-none : (a b : Option ℕ) → before a b ≡ None → (a ≡ None) × (b ≡ None)
unfolding before
before-none None b e = (refl, e)
before-none (Some i) b e = (e, cc)

later-none : (n : ℕ) (o : Option ℕ) → later n o ≡ None → o ≡ None
unfolding later
later-none n None e = refl
later-none n (Some i) e = cc

later-zero : (o : Option ℕ) → later 0 o ≡ o
unfolding later
later-zero None = refl
later-zero (Some i) = ap Some (omega arith)

later-before : (n : ℕ) (a b : Option ℕ) → later 1 (before a (later n b)) ≡ before (later 1 a) (later (suc n) b)
unfolding later before
later-before n None None = refl
later-before n None (Some i) = ap Some (omega arith)
later-before n (Some i) b = refl

-- the first place that is false
unfoldable pub first_false : List Bool → Option ℕ
first_false [] = None
first_false (b ∷ l) = stop b (later 1 (first_false l))

first-false-append : (a b : List Bool) → first_false (a ++ b) ≡ before (first_false a) (later (length a) (first_false b))
unfolding first_false stop before
first-false-append [] b = sym (later-zero (first_false b))
first-false-append (true ∷ a) b = ap (later 1) (first-false-append a b) ∙ later-before (length a) (first_false a) (first_false b)
first-false-append (false ∷ a) b = refl

pub first-false-at : (l : List Bool) (i : ℕ) → first_false l ≡ Some i → (i < length l) × (get_or l i true ≡ false) × ((j : ℕ) → j < i → get_or l j true ≡ true)
unfolding first_false stop later
first-false-at [] i e = (absurd (none-some i e), cc, λ j h. cc)
first-false-at (false ∷ l) i e = let q : i ≡ 0 = cc in (omega arith, rw q refl, λ j h. absurd (omega arith))
first-false-at (true ∷ l) i e = in-the-rest (first_false l) (first-false-at l) e
  where
    earlier : (j : ℕ) → ((m : ℕ) → m < j → get_or l m true ≡ true) → i ≤ suc j → (m : ℕ) → m < i → get_or (true ∷ l) m true ≡ true
    earlier j c g zero h = refl
    earlier j c g (suc m) h = c m (omega arith)

    in-the-rest : (o : Option ℕ) → ((j : ℕ) → o ≡ Some j → (j < length l) × (get_or l j true ≡ false) × ((m : ℕ) → m < j → get_or l m true ≡ true)) → later 1 o ≡ Some i
        → (i < length (true ∷ l)) × (get_or (true ∷ l) i true ≡ false) × ((j : ℕ) → j < i → get_or (true ∷ l) j true ≡ true)
    in-the-rest None ih e = (absurd (none-some i e), cc, λ j h. cc)
    in-the-rest (Some j) ih e =
        let q : 1 + j ≡ i = cc in
        let d : i ≡ suc j = omega arith in
        let (a, b, c) = ih j refl in
        (omega arith, rw d b, earlier j c (omega arith))

-- Rules ----------------------------------------------------------------------------------------------------------

module _ (form : ℕ → Form) where
  masked-if : (b : Bool) (t u : ℕ) → (masked_ok form b t u ≡ true) → Masked form b t u
  unfolding masked_ok Masked
  masked-if true t u p = let r = list-if (form u) (λ e. eqb e t) p in r.1 ∙ ap f_list (eqb-true r.0 t r.2)
  masked-if false t u p = eqb-true u t p

  masked-of : (b : Bool) (t u : ℕ) → Masked form b t u → (masked_ok form b t u ≡ true)
  unfolding masked_ok Masked
  masked-of true t u p = list_of (form u) (λ e. eqb e t) t p (eq-same t)
  masked-of false t u p = eq-eqb u t p

  zipped-if : (m : ℕ) (ps qs : List Param) → (zipped_ok form m ps qs ≡ true) → Zipped form m ps qs
  unfolding zipped_ok Zipped
  zipped-if m [] [] t = eqb-true m 0 t
  zipped-if m [] (q ∷ qs) t = absurd (false≢true t)
  zipped-if m (p ∷ ps) [] t = absurd (false≢true t)
  zipped-if m (p ∷ ps) (q ∷ qs) t = (eqb-true _ _ (left _ _ t), masked-if _ _ _ (left _ _ (right _ _ t)), zipped-if (rest m) ps qs (right _ _ (right _ _ t)))

  zipped-of : (m : ℕ) (ps qs : List Param) → Zipped form m ps qs → zipped_ok form m ps qs ≡ true
  unfolding zipped_ok Zipped
  zipped-of m [] [] z = eq-eqb m 0 z
  zipped-of m [] (q ∷ qs) z = absurd z
  zipped-of m (p ∷ ps) [] z = absurd z
  zipped-of m (p ∷ ps) (q ∷ qs) (a, b, c) = both _ _ (eq-eqb _ _ a) (both _ _ (masked-of _ _ _ b) (zipped-of (rest m) ps qs c))

  -- the parts of a fix row's test
  fix-within : (ty c : ℕ) (q : Param) (qs : List Param) (r : ℕ) → form c ≡ f_fun ntv (q ∷ qs) r → q.type ≡ ty
      → when_fun (form ty) (λ s' ps' r'. same_side s' ntv ∧ᵇ (same_params ps' qs ∧ᵇ eqb r' r)) ≡ true
      → (x : ℕ) × (ps : List Param) × (r : ℕ) × (form c ≡ f_fun ntv (record { name = x; type = ty } ∷ ps) r) × (form ty ≡ f_fun ntv ps r)
  fix-within ty c q qs r e d t =
      let (s', ps', r', e', p) = fun-if _ _ t in
      let d₁ : q ≡ record { name = q.name; type = ty } = λ i. record { name = q.name; type = d i } in
      let d₂ = side-is s' ntv (left _ _ p) in
      let d₃ = params_is ps' qs (left _ _ (right _ _ p)) in
      let d₄ = eqb-true r' r (right _ _ (right _ _ p)) in
      (q.name, qs, r, cc, cc)

  fix-if : (ty c : ℕ) (s : Side) (ps : List Param) (r : ℕ) → form c ≡ f_fun s ps r → s ≡ ntv
      → when_more ps (λ p qs. eqb p.type ty ∧ᵇ when_fun (form ty) (λ s' ps' r'. same_side s' ntv ∧ᵇ (same_params ps' qs ∧ᵇ eqb r' r))) ≡ true
      → (x : ℕ) × (ps : List Param) × (r : ℕ) × (form c ≡ f_fun ntv (record { name = x; type = ty } ∷ ps) r) × (form ty ≡ f_fun ntv ps r)
  fix-if ty c s ps r e d t =
      let (q, qs, e', p) = more-if _ _ t in
      fix-within ty c q qs r (cc) (eqb-true _ _ (left _ _ p)) (right _ _ p)

  pub rule-if : (Γ : Ctx) (h : Head) (ty : ℕ) (us : Tys (arity h)) → (rule_ok form Γ h ty us ≡ true) → Rule form Γ h ty us
  unfolding rule_ok Rule
  rule-if Γ (lit l) ty ⟨⟩ t = base-is (lit_base l) (form ty) t
  rule-if Γ (var x) ty ⟨⟩ t = given_is (Γ x) ty t
  rule-if Γ lambda ty (b ▹ ⟨⟩) t =
      let (s, ps, r, e, p) = fun-if _ _ t in
      (ps, cc (side-is s ntv (left _ _ p), eqb-true r b (right _ _ p)))
  rule-if Γ (foreign w) ty ⟨⟩ t =
      let (s, ps, r, e, p) = fun-if _ _ t in
      (ps, r, cc (side-is s frn p))
  rule-if Γ (apply n) ty (c ▹ us) t =
      let (s, ps, r, e, p) = fun-if _ _ t in
      (s, ps, cc (eqb-true r ty (left _ _ p)), numbers-is _ _ (right _ _ p))
  rule-if Γ (future k) ty ⟨⟩ t = tt
  rule-if Γ ite ty (c ▹ a ▹ b ▹ ⟨⟩) t = search (left, right, base-is, eqb-true)
  rule-if Γ fix ty (c ▹ ⟨⟩) t = let (s, ps, r, e, p) = fun-if _ _ t in fix-if ty c s ps r e (side-is s ntv (left _ _ p)) (right _ _ p)
  rule-if Γ nil ty ⟨⟩ t = let (e, q, p) = list-if _ _ t in (e, q)
  rule-if Γ cons ty (a ▹ b ▹ ⟨⟩) t =
      let (e, q, p) = list-if _ _ (left _ _ t) in
      (cc (eqb-true e a p), eqb-true b ty (right _ _ t))
  rule-if Γ isnil ty (c ▹ ⟨⟩) t =
      let (e, q, p) = list-if _ _ (right _ _ t) in
      (base-is Truth (form ty) (left _ _ t), (e, q))
  rule-if Γ (zip m) ty (c ▹ ⟨⟩) t =
      let (s, ps, r, e, p) = fun-if _ _ t in
      let (s', qs, u, e₂, p₂) = fun-if _ _ p in
      let (el, e₃, p₃) = list-if _ _ (left _ _ (right _ _ p₂)) in
      (s, ps, r, qs, u, e, cc (side-is s' s (left _ _ p₂)), cc (eqb-true el r p₃), zipped-if m ps qs (right _ _ (right _ _ p₂)))
  rule-if Γ (tuple n) ty us t = let (ts, e, p) = tuple-if _ _ t in e ∙ ap f_tuple (numbers-is _ _ p)
  rule-if Γ (project i) ty (c ▹ ⟨⟩) t = let (ts, e, p) = tuple-if _ _ t in (ts, e, given_is _ _ p)
  rule-if Γ (lproject i) ty (c ▹ ⟨⟩) t =
      let (e, q, p) = list-if _ _ t in
      let (ts, q₂, p₂) = tuple-if _ _ p in
      let (r, q₃, p₃) = list-if _ _ p₂ in
      (e, ts, r, q, q₂, given_is _ _ p₃, q₃)
  rule-if Γ (bind x) ty (a ▹ b ▹ ⟨⟩) t = eqb-true b ty t

  pub rule-of : (Γ : Ctx) (h : Head) (ty : ℕ) (us : Tys (arity h)) → Rule form Γ h ty us → rule_ok form Γ h ty us ≡ true
  unfolding rule_ok Rule
  rule-of Γ (lit l) ty ⟨⟩ e = base-of _ _ e
  rule-of Γ (var x) ty ⟨⟩ e = given-of _ _ e
  rule-of Γ lambda ty (b ▹ ⟨⟩) (ps, e) = fun-of _ _ _ _ _ e (both _ _ (side_same ntv) (eq-same b))
  rule-of Γ (foreign w) ty ⟨⟩ (ps, r, e) = fun-of _ _ _ _ _ e (side_same frn)
  rule-of Γ (apply n) ty (c ▹ us) (s, ps, e, q) = fun-of _ _ _ _ _ e (both _ _ (eq-same ty) (rw q (numbers-same (types ps))))
  rule-of Γ (future k) ty ⟨⟩ u = refl
  rule-of Γ ite ty (c ▹ a ▹ b ▹ ⟨⟩) (e, p, q) = both _ _ (base-of _ _ e) (both _ _ (eq-eqb _ _ p) (eq-eqb _ _ q))
  rule-of Γ fix ty (c ▹ ⟨⟩) (x, ps, r, e, q) = fun-of _ _ _ _ _ e (both _ _ (side_same ntv) (more_of _ _ _ _ refl (both _ _ (eq-same ty) (fun-of _ _ _ _ _ q (both _ _ (side_same ntv) (both _ _ (params_same ps) (eq-same r)))))))
  rule-of Γ nil ty ⟨⟩ (e, q) = list_of _ _ _ q refl
  rule-of Γ cons ty (a ▹ b ▹ ⟨⟩) (e, q) = both _ _ (list_of _ _ _ e (eq-same a)) (eq-eqb _ _ q)
  rule-of Γ isnil ty (c ▹ ⟨⟩) (e, q) = both _ _ (base-of _ _ e) (list_of _ _ _ q.1 refl)
  rule-of Γ (zip m) ty (c ▹ ⟨⟩) (s, ps, r, qs, u, e, e₂, e₃, z) =
      fun-of _ _ _ _ _ e (fun-of _ _ _ _ _ e₂ (both _ _ (side_same s) (both _ _ (list_of _ _ _ e₃ (eq-same r)) (zipped-of m ps qs z))))
  rule-of Γ (tuple n) ty us e = tuple-of _ _ _ e (numbers-same _)
  rule-of Γ (project i) ty (c ▹ ⟨⟩) (ts, e, q) = tuple-of _ _ _ e (given-of _ _ q)
  rule-of Γ (lproject i) ty (c ▹ ⟨⟩) (e, ts, r, q, q₂, q₃, q₄) = list_of _ _ _ q (tuple-of _ _ _ q₂ (list_of _ _ _ q₄ (given-of _ _ q₃)))
  rule-of Γ (bind x) ty (a ▹ b ▹ ⟨⟩) e = eq-eqb _ _ e

  mutual
    unfolding first_bad Typed row_ok

    pub typed-if : (Γ : Ctx) (t : Tree) → first_bad form Γ t ≡ None → Typed form Γ t
    typed-if Γ (node h ty f) e =
        let (a, b) = stop-none _ _ e in
        (rule-if Γ h ty (tys f) (left _ _ a), right _ _ a, typeds-if Γ (scope form h ty (tys f)) f (later-none _ _ b))

    pub typeds-if : {n : ℕ} (Γ : Ctx) (s : ℕ → List Param) (f : Forest n) → first_bads form Γ s f ≡ None → TypedF form Γ s f
    typeds-if Γ s end e = tt
    typeds-if Γ s (more t f) e =
        let (a, b) = before-none _ _ e in
        (typed-if (Γ ⹁ s 0) t a, typeds-if Γ (λ i. s (suc i)) f (later-none _ _ b))

  mutual
    unfolding first_bad Typed row_ok stop before later

    pub typed-of : (Γ : Ctx) (t : Tree) → Typed form Γ t → first_bad form Γ t ≡ None
    typed-of Γ (node h ty f) (r, b, k) = rw (both _ _ (rule-of Γ h ty (tys f) r) b, typeds-of Γ (scope form h ty (tys f)) f k)

    pub typeds-of : {n : ℕ} (Γ : Ctx) (s : ℕ → List Param) (f : Forest n) → TypedF form Γ s f → first_bads form Γ s f ≡ None
    typeds-of Γ s end k = refl
    typeds-of Γ s (more t f) (a, k) = rw (typed-of (Γ ⹁ s 0) t a, typeds-of Γ (λ i. s (suc i)) f k)

  pub checked : (Γ : Ctx) (t : Tree) → (first_bad form Γ t ≡ None) ↔ Typed form Γ t
  checked Γ t = (typed-if Γ t, typed-of Γ t)

  -- The first row that fails -------------------------------------------------------------------------------------

  -- each row's own verdict, in the order of the rows
  unfoldable mutual
    pub verdicts : Ctx → Tree → List Bool
    verdicts Γ (node h ty f) = row_ok form Γ h ty f ∷ verdicts_in Γ (scope form h ty (tys f)) f

    pub verdicts_in : {n : ℕ} → Ctx → (ℕ → List Param) → Forest n → List Bool
    verdicts_in Γ s end = []
    verdicts_in Γ s (more t f) = verdicts (Γ ⹁ s 0) t ++ verdicts_in Γ (λ i. s (suc i)) f

  mutual
    unfolding verdicts size

    pub length-verdicts : (Γ : Ctx) (t : Tree) → length (verdicts Γ t) ≡ size t
    length-verdicts Γ (node h ty f) = ap suc (length-verdicts-in Γ (scope form h ty (tys f)) f)

    length-verdicts-in : {n : ℕ} (Γ : Ctx) (s : ℕ → List Param) (f : Forest n) → length (verdicts_in Γ s f) ≡ sizes f
    length-verdicts-in Γ s end = refl
    length-verdicts-in Γ s (more t f) =
        length-append (verdicts (Γ ⹁ s 0) t) (verdicts_in Γ (λ i. s (suc i)) f) ∙ cc (length-verdicts (Γ ⹁ s 0) t, length-verdicts-in Γ (λ i. s (suc i)) f)

  mutual
    unfolding verdicts first_bad first_false

    pub first-bad : (Γ : Ctx) (t : Tree) → first_bad form Γ t ≡ first_false (verdicts Γ t)
    first-bad Γ (node h ty f) = ap (λ o. stop (row_ok form Γ h ty f) (later 1 o)) (first-bads Γ (scope form h ty (tys f)) f)

    first-bads : {n : ℕ} (Γ : Ctx) (s : ℕ → List Param) (f : Forest n) → first_bads form Γ s f ≡ first_false (verdicts_in Γ s f)
    first-bads Γ s end = refl
    first-bads Γ s (more t f) =
        cc (
          first-bad (Γ ⹁ s 0) t,
          first-bads Γ (λ i. s (suc i)) f,
          length-verdicts (Γ ⹁ s 0) t,
          first-false-append (verdicts (Γ ⹁ s 0) t) (verdicts_in Γ (λ i. s (suc i)) f),
        )
