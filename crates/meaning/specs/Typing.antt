-- Typing, row by row: the paper's rules 3 to 34 with the house rules, as a relation over rows and as a check that names the first
-- row that fails. Assumes nothing.
use Rattle.std.specs.Prelude.{ℕ, zero, suc, ◌+◌, ◌≡◌, Bool, true, false, cond, List, [], ◌∷◌, eqb}
use Rattle.std.specs.Prelude.{Option, None, Some}
use Rattle.meaning.specs.Bytes.{◌∧ᵇ◌}
use Rattle.meaning.specs.Types.{Base, Str, File, Truth, Side, ntv, frn, Param, Form, absent, base, f_list, f_tuple, f_fun, params, types, Ctx, ◌⹁◌, place, low, rest, same_numbers}
use Rattle.meaning.specs.Terms.{Lit, str, file, truth, Head, lit, var, lambda, foreign, apply, future, ite, fix, nil, cons, isnil, zip, tuple, project, lproject, bind, arity, code, Tree, Forest, node, end, more, ty_of, is, size}

-- the types that a row's children state, in order
pub data Tys : ℕ → Type 0 where
  ⟨⟩ : Tys zero
  ◌▹◌ : {n : ℕ} → ℕ → Tys n → Tys (suc n)

infixr 30 ◌▹◌
unfoldable pub list : {n : ℕ} → Tys n → List ℕ
list ⟨⟩ = []
list (t ▹ ts) = t ∷ list ts

unfoldable pub tys : {n : ℕ} → Forest n → Tys n
tys end = ⟨⟩
tys (more t f) = ty_of t ▹ tys f

-- "Literals have their own type"
unfoldable pub lit_base : Lit → Base
lit_base (str w) = Str
lit_base (file w) = File
lit_base (truth b) = Truth

-- house, fix: "the child row is kind 6"
unfoldable pub first_is : {n : ℕ} → ℕ → Forest n → Bool
first_is k end = false
first_is k (more t f) = is k t

unfoldable pub below_ok : (h : Head) → Forest (arity h) → Bool
below_ok h f = cond (eqb (code h) 11) (first_is 6 f) true

-- Tests on forms -------------------------------------------------------------------------------------------------

unfoldable pub base_no : Base → ℕ
base_no Str = 1
base_no File = 2
base_no Truth = 3

unfoldable pub is_base : Base → Form → Bool
is_base b absent = false
is_base b (base c) = eqb (base_no c) (base_no b)
is_base b (f_list e) = false
is_base b (f_tuple ts) = false
is_base b (f_fun s ps r) = false

unfoldable pub when_list : Form → (ℕ → Bool) → Bool
when_list absent k = false
when_list (base b) k = false
when_list (f_list e) k = k e
when_list (f_tuple ts) k = false
when_list (f_fun s ps r) k = false

unfoldable pub when_tuple : Form → (List ℕ → Bool) → Bool
when_tuple absent k = false
when_tuple (base b) k = false
when_tuple (f_list e) k = false
when_tuple (f_tuple ts) k = k ts
when_tuple (f_fun s ps r) k = false

unfoldable pub when_fun : Form → (Side → List Param → ℕ → Bool) → Bool
when_fun absent k = false
when_fun (base b) k = false
when_fun (f_list e) k = false
when_fun (f_tuple ts) k = false
when_fun (f_fun s ps r) k = k s ps r

unfoldable pub when_more : List Param → (Param → List Param → Bool) → Bool
when_more [] k = false
when_more (p ∷ ps) k = k p ps

unfoldable pub same_side : Side → Side → Bool
same_side ntv ntv = true
same_side ntv frn = false
same_side frn ntv = false
same_side frn frn = true

unfoldable pub same_params : List Param → List Param → Bool
same_params [] [] = true
same_params [] (q ∷ qs) = false
same_params (p ∷ ps) [] = false
same_params (p ∷ ps) (q ∷ qs) = eqb p.name q.name ∧ᵇ eqb p.type q.type ∧ᵇ same_params ps qs

unfoldable pub given : Option ℕ → ℕ → Bool
given None t = false
given (Some u) t = eqb u t

-- The first of several findings ----------------------------------------------------------------------------------

unfoldable pub stop : Bool → Option ℕ → Option ℕ
stop true o = o
stop false o = Some 0

unfoldable pub before : Option ℕ → Option ℕ → Option ℕ
before None o = o
before (Some i) o = Some i

unfoldable pub later : ℕ → Option ℕ → Option ℕ
later n None = None
later n (Some i) = Some (n + i)

module _ (form : ℕ → Form) where
  -- Rules --------------------------------------------------------------------------------------------------------

  -- "List around each masked argument": the argument's type p within, q outside
  unfoldable pub Masked : Bool → ℕ → ℕ → Type 0
  Masked true p q = form q ≡ f_list p
  Masked false p q = q ≡ p

  -- "mask within the child's arguments; same .. names"
  unfoldable pub Zipped : ℕ → List Param → List Param → Type 0
  Zipped m [] [] = m ≡ 0
  Zipped m [] (q ∷ qs) = ⊥
  Zipped m (p ∷ ps) [] = ⊥
  Zipped m (p ∷ ps) (q ∷ qs) = (q.name ≡ p.name) × Masked (low m) p.type q.type × Zipped (rest m) ps qs

  -- A row fails if its own rule fails, given the types stated by its children and the binders around it: the rule of a row of
  -- type ty over the types of its children, a line a kind (Paper.antt has the paper's numbers)
  unfoldable pub Rule : Ctx → (h : Head) → ℕ → Tys (arity h) → Type 0
  Rule Γ (lit l) ty ⟨⟩ = form ty ≡ base (lit_base l)
  Rule Γ (var x) ty ⟨⟩ = Γ x ≡ Some ty
  Rule Γ lambda ty (b ▹ ⟨⟩) = (ps : List Param) × (form ty ≡ f_fun ntv ps b)
  Rule Γ (foreign w) ty ⟨⟩ = (ps : List Param) × (r : ℕ) × (form ty ≡ f_fun frn ps r)
  Rule Γ (apply n) ty (c ▹ us) = (s : Side) × (ps : List Param) × (form c ≡ f_fun s ps ty) × (list us ≡ types ps)
  Rule Γ (future k) ty ⟨⟩ = Unit {0}
  Rule Γ ite ty (c ▹ a ▹ b ▹ ⟨⟩) = (form c ≡ base Truth) × (a ≡ ty) × (b ≡ ty)
  Rule Γ fix ty (c ▹ ⟨⟩) =
      (x : ℕ) × (ps : List Param) × (r : ℕ) × (form c ≡ f_fun ntv (record { name = x; type = ty } ∷ ps) r) × (form ty ≡ f_fun ntv ps r)
  Rule Γ nil ty ⟨⟩ = (e : ℕ) × (form ty ≡ f_list e)
  Rule Γ cons ty (a ▹ b ▹ ⟨⟩) = (form ty ≡ f_list a) × (b ≡ ty)
  Rule Γ isnil ty (c ▹ ⟨⟩) = (form ty ≡ base Truth) × ((e : ℕ) × (form c ≡ f_list e))
  Rule Γ (zip m) ty (c ▹ ⟨⟩) =
      (s : Side) × (ps : List Param) × (r : ℕ) × (qs : List Param) × (u : ℕ)
      × (form c ≡ f_fun s ps r) × (form ty ≡ f_fun s qs u) × (form u ≡ f_list r) × Zipped m ps qs
  Rule Γ (tuple n) ty us = form ty ≡ f_tuple (list us)
  Rule Γ (project i) ty (c ▹ ⟨⟩) = (ts : List ℕ) × (form c ≡ f_tuple ts) × (place i ts ≡ Some ty)
  Rule Γ (lproject i) ty (c ▹ ⟨⟩) =
      (e : ℕ) × (ts : List ℕ) × (r : ℕ) × (form c ≡ f_list e) × (form e ≡ f_tuple ts) × (place i ts ≡ Some r) × (form ty ≡ f_list r)
  Rule Γ (bind x) ty (a ▹ b ▹ ⟨⟩) = b ≡ ty

  -- "A native function binds its type's names in its body; let binds its name, with the bound term's type, in its body only":
  -- the names that a row binds in its i-th child, counted from 0
  unfoldable pub scope : (h : Head) → ℕ → Tys (arity h) → ℕ → List Param
  scope (lit l) ty ts i = []
  scope (var x) ty ts i = []
  scope lambda ty ts i = params (form ty)
  scope (foreign w) ty ts i = []
  scope (apply n) ty ts i = []
  scope (future k) ty ts i = []
  scope ite ty ts i = []
  scope fix ty ts i = []
  scope nil ty ts i = []
  scope cons ty ts i = []
  scope isnil ty ts i = []
  scope (zip m) ty ts i = []
  scope (tuple n) ty ts i = []
  scope (project j) ty ts i = []
  scope (lproject j) ty ts i = []
  scope (bind x) ty (a ▹ b ▹ ⟨⟩) zero = []
  scope (bind x) ty (a ▹ b ▹ ⟨⟩) (suc i) = record { name = x; type = a } ∷ []

  -- every row keeps its rule
  unfoldable mutual
    pub Typed : Ctx → Tree → Type 0
    Typed Γ (node h ty f) = Rule Γ h ty (tys f) × (below_ok h f ≡ true) × TypedF Γ (scope h ty (tys f)) f

    pub TypedF : {n : ℕ} → Ctx → (ℕ → List Param) → Forest n → Type 0
    TypedF Γ s end = Unit {0}
    TypedF Γ s (more t f) = Typed (Γ ⹁ s 0) t × TypedF Γ (λ i. s (suc i)) f

  -- The same as tests --------------------------------------------------------------------------------------------

  unfoldable pub masked_ok : Bool → ℕ → ℕ → Bool
  masked_ok true p q = when_list (form q) (λ e. eqb e p)
  masked_ok false p q = eqb q p

  unfoldable pub zipped_ok : ℕ → List Param → List Param → Bool
  zipped_ok m [] [] = eqb m 0
  zipped_ok m [] (q ∷ qs) = false
  zipped_ok m (p ∷ ps) [] = false
  zipped_ok m (p ∷ ps) (q ∷ qs) = eqb q.name p.name ∧ᵇ (masked_ok (low m) p.type q.type ∧ᵇ zipped_ok (rest m) ps qs)

  unfoldable pub rule_ok : Ctx → (h : Head) → ℕ → Tys (arity h) → Bool
  rule_ok Γ (lit l) ty ⟨⟩ = is_base (lit_base l) (form ty)
  rule_ok Γ (var x) ty ⟨⟩ = given (Γ x) ty
  rule_ok Γ lambda ty (b ▹ ⟨⟩) = when_fun (form ty) (λ s ps r. same_side s ntv ∧ᵇ eqb r b)
  rule_ok Γ (foreign w) ty ⟨⟩ = when_fun (form ty) (λ s ps r. same_side s frn)
  rule_ok Γ (apply n) ty (c ▹ us) = when_fun (form c) (λ s ps r. eqb r ty ∧ᵇ same_numbers (list us) (types ps))
  rule_ok Γ (future k) ty ⟨⟩ = true
  rule_ok Γ ite ty (c ▹ a ▹ b ▹ ⟨⟩) = is_base Truth (form c) ∧ᵇ (eqb a ty ∧ᵇ eqb b ty)
  rule_ok Γ fix ty (c ▹ ⟨⟩) =
      when_fun (form c) (λ s ps r. same_side s ntv ∧ᵇ when_more ps (λ p qs. eqb p.type ty
      ∧ᵇ when_fun (form ty) (λ s' ps' r'. same_side s' ntv ∧ᵇ (same_params ps' qs ∧ᵇ eqb r' r))))
  rule_ok Γ nil ty ⟨⟩ = when_list (form ty) (λ e. true)
  rule_ok Γ cons ty (a ▹ b ▹ ⟨⟩) = when_list (form ty) (λ e. eqb e a) ∧ᵇ eqb b ty
  rule_ok Γ isnil ty (c ▹ ⟨⟩) = is_base Truth (form ty) ∧ᵇ when_list (form c) (λ e. true)
  rule_ok Γ (zip m) ty (c ▹ ⟨⟩) =
      when_fun (form c) (λ s ps r. when_fun (form ty) (λ s' qs u. same_side s' s ∧ᵇ (when_list (form u) (λ e. eqb e r) ∧ᵇ zipped_ok m ps qs)))
  rule_ok Γ (tuple n) ty us = when_tuple (form ty) (λ ts. same_numbers ts (list us))
  rule_ok Γ (project i) ty (c ▹ ⟨⟩) = when_tuple (form c) (λ ts. given (place i ts) ty)
  rule_ok Γ (lproject i) ty (c ▹ ⟨⟩) = when_list (form c) (λ e. when_tuple (form e) (λ ts. when_list (form ty) (λ r. given (place i ts) r)))
  rule_ok Γ (bind x) ty (a ▹ b ▹ ⟨⟩) = eqb b ty

  unfoldable pub row_ok : Ctx → (h : Head) → ℕ → Forest (arity h) → Bool
  row_ok Γ h ty f = rule_ok Γ h ty (tys f) ∧ᵇ below_ok h f

  -- refusals 9 and 15: "first row that fails typing", counted from the tree's first row
  unfoldable mutual
    pub first_bad : Ctx → Tree → Option ℕ
    first_bad Γ (node h ty f) = stop (row_ok Γ h ty f) (later 1 (first_bads Γ (scope h ty (tys f)) f))

    pub first_bads : {n : ℕ} → Ctx → (ℕ → List Param) → Forest n → Option ℕ
    first_bads Γ s end = None
    first_bads Γ s (more t f) = before (first_bad (Γ ⹁ s 0) t) (later (size t) (first_bads Γ (λ i. s (suc i)) f))
