-- What the numbers of a table that passes stand for: each the tree of its form, and two numbers one tree only if they are equal.
-- Assumes nothing.
use Prim.Native.Nat.{ℕ, zero, suc, ◌<◌}
use mathlib.Core.Path.{◌≡◌, refl, ap, sym, ◌∙◌}
use mathlib.Core.Bool.{Bool, true}
use mathlib.Core.Logic.{◌↔◌}
use mathlib.Core.List.{List, [], ◌∷◌}
use Rattle.std.specs.Prelude.{None}
use native.Mathlib.Omega.{arith}
use borrow.Author.Tests.{lt-ltb}
use lib.Dec.{ltb}
use lib.ListN.{length}
use Rattle.meaning.specs.Bytes.{◌∧ᵇ◌}
use Rattle.meaning.specs.Types.{Base, Side, Param, Form, absent, base, f_list, f_tuple, f_fun, types, every, below, ground_form, ground, form_of, bad_type}
use Rattle.meaning.specs.Paper.{Ty, t_base, t_list, t_tuple, t_fun, Elems, Args, is_ground, all_ground, elems_from, args_from, type_from, type_below, type_of}
use Rattle.meaning.specs.Records.{version}
use Rattle.meaning.proofs.Trees.Tests.{left, right, both}
use Rattle.meaning.proofs.Bytes.Layouts.{Wide}
use Rattle.meaning.proofs.Bytes.TypeTables.{Promises, promised, below-if, ground-eq}
use Rattle.meaning.proofs.Bytes.TypeRows.{equal-forms}

-- the parts of a form are below a number
unfoldable pub PartsBelow : ℕ → Form → Type 0
PartsBelow t absent = Unit {0}
PartsBelow t (base b) = Unit {0}
PartsBelow t (f_list e) = e < t
PartsBelow t (f_tuple ts) = every (below t) ts ≡ true
PartsBelow t (f_fun s ps r) = (every (below t) (types ps) ≡ true) × (r < t)

-- Two readings that agree below a number -------------------------------------------------------------------------

module _ (p q : ℕ → Ty) (t : ℕ) (same : (n : ℕ) → n < t → p n ≡ q n) where
  elems-agree : (ts : List ℕ) → every (below t) ts ≡ true → elems_from p ts ≡ elems_from q ts
  unfolding elems_from every
  elems-agree [] h = refl
  elems-agree (n ∷ ts) h = cc (same n (below-if t n (left _ _ h)), elems-agree ts (right _ _ h))

  args-agree : (ps : List Param) → every (below t) (types ps) ≡ true → args_from p ps ≡ args_from q ps
  unfolding args_from every types
  args-agree [] h = refl
  args-agree (n ∷ ps) h = cc (same n.type (below-if t n.type (left _ _ h)), args-agree ps (right _ _ h))

  types-agree : (f : Form) → PartsBelow t f → type_from p f ≡ type_from q f
  unfolding type_from PartsBelow
  types-agree absent h = refl
  types-agree (base b) h = refl
  types-agree (f_list e) h = ap t_list (same e h)
  types-agree (f_tuple ts) h = ap t_tuple (elems-agree ts h)
  types-agree (f_fun s ps r) (h, k) = cc (args-agree ps h, same r k)

-- of types that are ground together
module _ (g : ℕ → Bool) (q : ℕ → Ty) (t : ℕ) (same : (n : ℕ) → n < t → g n ≡ is_ground (q n)) where
  all-agree : (ts : List ℕ) → every (below t) ts ≡ true → every (λ p. ltb p t ∧ᵇ g p) ts ≡ all_ground (elems_from q ts)
  unfolding elems_from every is_ground ◌∧ᵇ◌
  all-agree [] h = refl
  all-agree (n ∷ ts) h =
      let l : n < t = below-if t n (left (below t n) (every (below t) ts) h) in
      let k = all-agree ts (right (below t n) (every (below t) ts) h) in
      rw (lt-ltb n t l, same n l, k) refl

  ground-agree : (f : Form) → (f ≡ absent → ⊥) → PartsBelow t f → ground_form (λ p. ltb p t ∧ᵇ g p) f ≡ is_ground (type_from q f)
  unfolding ground_form type_from is_ground PartsBelow ◌∧ᵇ◌
  ground-agree absent k h = absurd (k refl)
  ground-agree (base b) k h = refl
  ground-agree (f_list e) k h = rw (lt-ltb e t h, same e h) refl
  ground-agree (f_tuple ts) k h = all-agree ts h
  ground-agree (f_fun s ps r) k h = refl

-- Trees back to forms --------------------------------------------------------------------------------------------

module _ (q : ℕ → Ty) where
  pub is_base_lem : (f : Form) (b : Base) → (f ≡ absent → ⊥) → type_from q f ≡ t_base b → f ≡ base b
  unfolding type_from
  is_base_lem absent b k e = absurd (k refl)
  is_base_lem (base c) b k e = let z : c ≡ b = cc in ap base z
  is_base_lem (f_list u) b k e = cc
  is_base_lem (f_tuple ts) b k e = cc
  is_base_lem (f_fun s ps r) b k e = cc

  pub is-list : (f : Form) (E : Ty) → type_from q f ≡ t_list E → (e : ℕ) × (f ≡ f_list e) × (q e ≡ E)
  unfolding type_from
  is-list absent E e = absurd (let z : ◌≡◌ {A = ℕ} 0 1 = cc in omega arith)
  is-list (base c) E e = absurd (let z : ◌≡◌ {A = ℕ} 0 1 = cc in omega arith)
  is-list (f_list u) E e = (u, refl, cc)
  is-list (f_tuple ts) E e = absurd (let z : ◌≡◌ {A = ℕ} 0 1 = cc in omega arith)
  is-list (f_fun s ps r) E e = absurd (let z : ◌≡◌ {A = ℕ} 0 1 = cc in omega arith)

  pub is-tuple : (f : Form) (Ts : Elems) → type_from q f ≡ t_tuple Ts → (ts : List ℕ) × (f ≡ f_tuple ts) × (elems_from q ts ≡ Ts)
  unfolding type_from
  is-tuple absent Ts e = absurd (let z : ◌≡◌ {A = ℕ} 0 1 = cc in omega arith)
  is-tuple (base c) Ts e = absurd (let z : ◌≡◌ {A = ℕ} 0 1 = cc in omega arith)
  is-tuple (f_list u) Ts e = absurd (let z : ◌≡◌ {A = ℕ} 0 1 = cc in omega arith)
  is-tuple (f_tuple ts) Ts e = (ts, refl, cc)
  is-tuple (f_fun s ps r) Ts e = absurd (let z : ◌≡◌ {A = ℕ} 0 1 = cc in omega arith)

  pub is-fun : (f : Form) (s : Side) (Ps : Args) (R : Ty) → type_from q f ≡ t_fun s Ps R → (ps : List Param) × (r : ℕ) × (f ≡ f_fun s ps r) × (args_from q ps ≡ Ps) × (q r ≡ R)
  unfolding type_from
  is-fun absent s Ps R e = absurd (let z : ◌≡◌ {A = ℕ} 0 1 = cc in omega arith)
  is-fun (base c) s Ps R e = absurd (let z : ◌≡◌ {A = ℕ} 0 1 = cc in omega arith)
  is-fun (f_list u) s Ps R e = absurd (let z : ◌≡◌ {A = ℕ} 0 1 = cc in omega arith)
  is-fun (f_tuple ts) s Ps R e = absurd (let z : ◌≡◌ {A = ℕ} 0 1 = cc in omega arith)
  is-fun (f_fun v ps r) s Ps R e = let z : v ≡ s = cc in (ps, r, ap (λ (x : Side). f_fun x ps r) z, cc, cc)

  -- numbers below t and below u that stand for equal types are equal
  module _ (t u : ℕ) (one : (n m : ℕ) → n < t → m < u → q n ≡ q m → n ≡ m) where
    pub same-elems : (ts us : List ℕ) → every (below t) ts ≡ true → every (below u) us ≡ true → elems_from q ts ≡ elems_from q us → ts ≡ us
    unfolding elems_from every
    same-elems [] [] h k e = refl
    same-elems [] (m ∷ us) h k e = cc
    same-elems (n ∷ ts) [] h k e = cc
    same-elems (n ∷ ts) (m ∷ us) h k e =
        cc (one n m (below-if t n (left _ _ h)) (below-if u m (left _ _ k)) (cc), same-elems ts us (right _ _ h) (right _ _ k) (cc))

    pub same_args : (ps qs : List Param) → every (below t) (types ps) ≡ true → every (below u) (types qs) ≡ true → args_from q ps ≡ args_from q qs → ps ≡ qs
    unfolding args_from every types
    same_args [] [] h k e = refl
    same_args [] (m ∷ qs) h k e = cc
    same_args (n ∷ ps) [] h k e = cc
    same_args (n ∷ ps) (m ∷ qs) h k e =
        let x : n.name ≡ m.name = cc in
        let y : n.type ≡ m.type = one n.type m.type (below-if t n.type (left _ _ h)) (below-if u m.type (left _ _ k)) (cc) in
        let rest = same_args ps qs (right _ _ h) (right _ _ k) (cc) in
        λ i. record { name = x i; type = y i } ∷ rest i

    same-form : (f g : Form) → PartsBelow t f → PartsBelow u g → (f ≡ absent → ⊥) → (g ≡ absent → ⊥) → type_from q f ≡ type_from q g → f ≡ g
    unfolding type_from PartsBelow
    same-form absent g h k a b e = absurd (a refl)
    same-form (base c) g h k a b e = sym (is_base_lem g c b (sym e))
    same-form (f_list n) g h k a b e =
        let (m, o, p) = is-list g (q n) (sym e) in
        ap f_list (one n m h (rw o at k) (sym p)) ∙ sym o
    same-form (f_tuple ts) g h k a b e =
        let (us, o, p) = is-tuple g (elems_from q ts) (sym e) in
        ap f_tuple (same-elems ts us h (rw o at k) (sym p)) ∙ sym o
    same-form (f_fun s ps r) g (h, i) k a b e =
        let (qs, v, o, p, w) = is-fun g s (args_from q ps) (q r) (sym e) in
        let z : PartsBelow u (f_fun s qs v) = rw o at k in
        let x : ps ≡ qs = same_args ps qs h z.0 (sym p) in
        let y : r ≡ v = one r v i z.1 (sym w) in
        cc

-- A table that passes --------------------------------------------------------------------------------------------

module _ (form : ℕ → Form) (count : ℕ) (good : Promises form count) where
  pub parts_below_lem : (t : ℕ) (f : Form) → form t ≡ f → PartsBelow t f
  unfolding PartsBelow
  parts_below_lem t absent e = tt
  parts_below_lem t (base b) e = tt
  parts_below_lem t (f_list n) e = good.elem e
  parts_below_lem t (f_tuple ts) e = good.tuple e
  parts_below_lem t (f_fun s ps r) e = (good.args e, good.result e)

  -- enough depth is as good as more
  type-deep : (d e t : ℕ) → t < d → t < e → type_below form d t ≡ type_below form e t
  unfolding type_below
  type-deep zero e t h k = absurd (omega arith)
  type-deep (suc d) zero t h k = absurd (omega arith)
  type-deep (suc d) (suc e) t h k =
      types-agree (type_below form d) (type_below form e) t (λ n l. type-deep d e n (omega arith) (omega arith)) (form t) (parts_below_lem t (form t) refl)

  -- a number stands for its form, over what its parts stand for
  pub type-eq : (t : ℕ) → type_of form t ≡ type_from (type_of form) (form t)
  unfolding type_of type_below
  type-eq t =
      types-agree (type_below form t) (λ n. type_below form (suc n) n) t (λ n l. type-deep t (suc n) n l (omega arith)) (form t) (parts_below_lem t (form t) refl)

  -- a type is ground by the table exactly if it is as a tree
  ground-deep : (d t : ℕ) → t < d → t < count → ground form t ≡ is_ground (type_of form t)
  ground-deep zero t h k = absurd (omega arith)
  ground-deep (suc d) t h k =
      ground-eq form t
      ∙ ground-agree (ground form) (type_of form) t (λ n l. ground-deep d n (omega arith) (omega arith)) (form t) (λ z. omega (arith, good.at t z)) (parts_below_lem t (form t) refl)
      ∙ ap is_ground (sym (type-eq t))

  pub ground-tree : (t : ℕ) → t < count → ground form t ≡ is_ground (type_of form t)
  ground-tree t h = ground-deep (suc t) t (omega arith) h

  pub ground-trees : (ts : List ℕ) → every (below count) ts ≡ true → every (ground form) ts ≡ true → all_ground (elems_from (type_of form) ts) ≡ true
  unfolding every is_ground elems_from
  ground-trees [] h g = refl
  ground-trees (t ∷ ts) h g =
      both _ _ (sym (ground-tree t (below-if count t (left _ _ h))) ∙ left _ _ g) (ground-trees ts (right _ _ h) (right _ _ g))

  module _ (one : (t u : ℕ) → t < count → u < count → form t ≡ form u → t ≡ u) where
    one_below : (d t u : ℕ) → t < d → t < count → u < count → type_of form t ≡ type_of form u → t ≡ u
    one_below zero t u l h k e = absurd (omega arith)
    one_below (suc d) t u l h k e =
        one t u h k
        (same-form (type_of form) t u (λ n m a b q. one_below d n m (omega arith) (omega arith) (omega arith) q) (form t) (form u)
        (parts_below_lem t (form t) refl) (parts_below_lem u (form u) refl)
        (λ z. omega (arith, good.at t z)) (λ z. omega (arith, good.at u z))
        (sym (type-eq t) ∙ e ∙ type-eq u))

    -- "so equal types have equal numbers"
    pub one_number : (t u : ℕ) → t < count → u < count → type_of form t ≡ type_of form u → t ≡ u
    one_number t u h k e = one_below (suc t) t u (omega arith) h k e

-- two numbers of a table that passes stand for one type exactly if they are equal
module _ (rows : List (List ℕ)) (wide : Wide 19 rows) (pass : bad_type version rows ≡ None) where
  pub one-of-table : (t u : ℕ) → t < length rows → u < length rows → type_of (form_of rows) t ≡ type_of (form_of rows) u → t ≡ u
  one-of-table = one_number (form_of rows) (length rows) (promised rows pass) (equal-forms rows wide pass)

  pub equal-numbers : (t u : ℕ) → t < length rows → u < length rows → (type_of (form_of rows) t ≡ type_of (form_of rows) u) ↔ (t ≡ u)
  equal-numbers t u h k = (one-of-table t u h k, ap (type_of (form_of rows)))
