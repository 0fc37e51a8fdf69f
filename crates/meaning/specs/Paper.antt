-- The paper's types as trees, what a type's number stands for, and the paper's typing rules among its rules 3 to 34: `Has Γ t T` says that
-- t has type T where names have the types in Γ. The numbers that are not here (5, 6, 12, 14, 19, 21, 26, 28, 33) are its grammar of
-- terms: our `Head`. What the paper writes on a term (the arguments of a function, the type of a future, of nil, cons, isnil and zip, of
-- a let's name) is in the types that rows state. House: each row states its type; "names at an application aren't repeated" (11); "a
-- future has the type it states" (13's ground type is asked of the open list); a written function stands below fix (20). Assumes nothing.
use Rattle.std.specs.Prelude.{ℕ, zero, suc, ◌≤◌, ◌≡◌, Bool, true, false, cond, List, [], ◌∷◌, eqb}
use Rattle.std.specs.Prelude.{Option, None, Some}
use Rattle.meaning.specs.Bytes.{◌∧ᵇ◌}
use Rattle.meaning.specs.Types.{Base, Str, File, Truth, Side, ntv, frn, Param, Form, absent, base, f_list, f_tuple, f_fun, low, rest}
use Rattle.meaning.specs.Terms.{str, file, truth, Head, lit, var, lambda, foreign, apply, future, ite, fix, nil, cons, isnil, zip, tuple, project, lproject, bind, arity, Tree, Forest, node, end, more}

-- Types ----------------------------------------------------------------------------------------------------------

-- the paper's 2, 7, 15, 22, 29: Str, File and Bool; lists; tuples, by their elements; functions, by their side, their arguments with
-- their names, and their result
mutual
  pub data Ty : Type 0 where
    t_base : Base → Ty
    t_list : Ty → Ty
    t_tuple : Elems → Ty
    t_fun : Side → Args → Ty → Ty

  pub data Elems : Type 0 where
    no_elem : Elems
    elem : Ty → Elems → Elems

  pub data Args : Type 0 where
    no_arg : Args
    arg : ℕ → Ty → Args → Args

-- the paper's U, ground types: Str, File and Bool, lists and tuples of such
unfoldable mutual
  pub is_ground : Ty → Bool
  is_ground (t_base b) = true
  is_ground (t_list T) = is_ground T
  is_ground (t_tuple Ts) = all_ground Ts
  is_ground (t_fun s ps T) = false

  pub all_ground : Elems → Bool
  all_ground no_elem = true
  all_ground (elem T Ts) = is_ground T ∧ᵇ all_ground Ts

-- what a type's number stands for, where q says what the numbers of its parts stand for
unfoldable pub elems_from : (ℕ → Ty) → List ℕ → Elems
elems_from q [] = no_elem
elems_from q (t ∷ ts) = elem (q t) (elems_from q ts)

unfoldable pub args_from : (ℕ → Ty) → List Param → Args
args_from q [] = no_arg
args_from q (p ∷ ps) = arg p.name (q p.type) (args_from q ps)

unfoldable pub type_from : (ℕ → Ty) → Form → Ty
type_from q absent = t_base Str
type_from q (base b) = t_base b
type_from q (f_list e) = t_list (q e)
type_from q (f_tuple ts) = t_tuple (elems_from q ts)
type_from q (f_fun s ps r) = t_fun s (args_from q ps) (q r)

-- by going down: "Each type referred to has a smaller number than its user". A number beyond the table makes a Str; no row of legal
-- form states one
unfoldable pub type_below : (ℕ → Form) → ℕ → ℕ → Ty
type_below form zero t = t_base Str
type_below form (suc d) t = type_from (type_below form d) (form t)

unfoldable pub type_of : (ℕ → Form) → ℕ → Ty
type_of form t = type_below form (suc t) t

-- Contexts, arguments, elements ----------------------------------------------------------------------------------

-- the type of a name; "The innermost binder wins"
unfoldable pub named : Args → ℕ → Option Ty
named no_arg x = None
named (arg y T Γ) x = cond (eqb x y) (Some T) (named Γ x)

-- names bound inside those of Γ
infixl 20 ◌⊹◌
unfoldable pub ◌⊹◌ : Args → Args → Args
Γ ⊹ no_arg = Γ
Γ ⊹ arg x T ps = arg x T (Γ ⊹ ps)

unfoldable pub arg_types : Args → Elems
arg_types no_arg = no_elem
arg_types (arg x T ps) = elem T (arg_types ps)

-- the i-th, counted from 1
unfoldable pub elem_at : ℕ → Elems → Option Ty
elem_at i no_elem = None
elem_at zero (elem T Ts) = None
elem_at (suc zero) (elem T Ts) = Some T
elem_at (suc (suc i)) (elem T Ts) = elem_at (suc i) Ts

-- "mask within the child's arguments"; "List around each masked argument", the names as they are
unfoldable pub covered : ℕ → Args → Bool
covered m no_arg = eqb m 0
covered m (arg x T ps) = covered (rest m) ps

unfoldable pub lifted : ℕ → Args → Args
lifted m no_arg = no_arg
lifted m (arg x T ps) = arg x (cond (low m) (t_list T) T) (lifted (rest m) ps)

-- Rules ----------------------------------------------------------------------------------------------------------

module _ (stands : ℕ → Ty) where
  mutual
    -- house: "every row states its own type"
    pub data Has : Args → Tree → Ty → Type 0 where
      row : {Γ : Args} {h : Head} {n : ℕ} {f : Forest (arity h)} {T : Ty}
          → ByRule Γ h f T
          → stands n ≡ T
          → Has Γ (node h n f) T

    pub data ByRule : Args → (h : Head) → Forest (arity h) → Ty → Type 0 where
      -- 3
      r_str : {Γ : Args} {w : ℕ} → ByRule Γ (lit (str w)) end (t_base Str)
      -- 4
      r_file : {Γ : Args} {w : ℕ} → ByRule Γ (lit (file w)) end (t_base File)
      -- 16, 17
      r_truth : {Γ : Args} {b : Bool} → ByRule Γ (lit (truth b)) end (t_base Truth)
      -- 8
      r_var : {Γ : Args} {x : ℕ} {T : Ty} → named Γ x ≡ Some T → ByRule Γ (var x) end T
      -- 9
      r_native : {Γ ps : Args} {b : Tree} {T : Ty}
          → Has (Γ ⊹ ps) b T
          → ByRule Γ lambda (more b end) (t_fun ntv ps T)
      -- 10
      r_foreign : {Γ ps : Args} {w : ℕ} {T : Ty}
          → all_ground (arg_types ps) ≡ true
          → is_ground T ≡ true
          → ByRule Γ (foreign w) end (t_fun frn ps T)
      -- 11
      r_apply : {Γ ps : Args} {n : ℕ} {s : Side} {c : Tree} {args : Forest n} {T : Ty}
          → Has Γ c (t_fun s ps T)
          → HasAll n Γ args (arg_types ps)
          → ByRule Γ (apply n) (more c args) T
      -- 13
      r_future : {Γ : Args} {k : ℕ} {T : Ty} → ByRule Γ (future k) end T
      -- 18
      r_if : {Γ : Args} {c a b : Tree} {T : Ty}
          → Has Γ c (t_base Truth)
          → Has Γ a T
          → Has Γ b T
          → ByRule Γ ite (more c (more a (more b end))) T
      -- 20, and house: a written function below
      r_fix : {Γ ps : Args} {n x : ℕ} {b : Tree} {T : Ty}
          → Has Γ (node lambda n (more b end)) (t_fun ntv (arg x (t_fun ntv ps T) ps) T)
          → ByRule Γ fix (more (node lambda n (more b end)) end) (t_fun ntv ps T)
      -- 23
      r_nil : {Γ : Args} {T : Ty} → ByRule Γ nil end (t_list T)
      -- 24
      r_cons : {Γ : Args} {a b : Tree} {T : Ty}
          → Has Γ a T
          → Has Γ b (t_list T)
          → ByRule Γ cons (more a (more b end)) (t_list T)
      -- 25
      r_isnil : {Γ : Args} {c : Tree} {T : Ty} → Has Γ c (t_list T) → ByRule Γ isnil (more c end) (t_base Truth)
      -- 27
      r_zip : {Γ ps qs : Args} {m : ℕ} {s : Side} {c : Tree} {T : Ty}
          → 1 ≤ m
          → covered m ps ≡ true
          → Has Γ c (t_fun s ps T)
          → lifted m ps ≡ qs
          → ByRule Γ (zip m) (more c end) (t_fun s qs (t_list T))
      -- 30
      r_tuple : {Γ : Args} {n : ℕ} {f : Forest n} {Ts : Elems} → HasAll n Γ f Ts → ByRule Γ (tuple n) f (t_tuple Ts)
      -- 31
      r_project : {Γ : Args} {i : ℕ} {c : Tree} {Ts : Elems} {T : Ty}
          → Has Γ c (t_tuple Ts)
          → elem_at i Ts ≡ Some T
          → ByRule Γ (project i) (more c end) T
      -- 32
      r_lproject : {Γ : Args} {i : ℕ} {c : Tree} {Ts : Elems} {T : Ty}
          → Has Γ c (t_list (t_tuple Ts))
          → elem_at i Ts ≡ Some T
          → ByRule Γ (lproject i) (more c end) (t_list T)
      -- 34
      r_let : {Γ : Args} {x : ℕ} {a b : Tree} {U T : Ty}
          → Has Γ a U
          → Has (Γ ⊹ arg x U no_arg) b T
          → ByRule Γ (bind x) (more a (more b end)) T

    pub data HasAll : (n : ℕ) → Args → Forest n → Elems → Type 0 where
      r_end : {Γ : Args} → HasAll 0 Γ end no_elem
      r_more : {n : ℕ} {Γ : Args} {t : Tree} {f : Forest n} {T : Ty} {Ts : Elems}
          → Has Γ t T
          → HasAll n Γ f Ts
          → HasAll (suc n) Γ (more t f) (elem T Ts)
