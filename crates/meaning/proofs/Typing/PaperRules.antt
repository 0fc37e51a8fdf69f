-- The rules of the rows, over numbers, say what the paper's rules say of the types that the numbers stand for. Assumes nothing.
use Prim.Native.Nat.{ℕ, zero, suc, ◌≤◌, ◌<◌}
use mathlib.Core.Path.{◌≡◌, refl, ap, sym, ◌∙◌, subst}
use mathlib.Core.Bool.{Bool, true, false, cond}
use mathlib.Core.List.{List, [], ◌∷◌}
use Rattle.std.specs.Prelude.{Option, None, Some}
use native.Mathlib.Omega.{arith}
use borrow.Author.Tests.{eq-eqb, eqb-true}
use lib.Dec.{eqb}
use Rattle.meaning.specs.Types.{Base, Side, ntv, Param, Form, absent, base, f_list, f_tuple, f_fun, params, types, every, below, Ctx, empty, pick, find, ◌⹁◌, place, low, rest}
use Rattle.meaning.specs.Terms.{str, file, truth, Head, lit, var, lambda, foreign, apply, future, ite, fix, nil, cons, isnil, zip, tuple, project, lproject, bind, arity, code, is, head_of, Tree, Forest, node, end, more, ty_of}
use Rattle.meaning.specs.Typing.{lit_base, list, tys, first_is, below_ok, Zipped, Masked, Rule, scope, Typed, TypedF}
use Rattle.meaning.specs.Paper.{Ty, t_base, t_list, t_tuple, t_fun, Elems, elem, Args, no_arg, arg, elems_from, args_from, type_from, type_of, named, ◌⊹◌, arg_types, elem_at, covered, lifted, Has, ByRule, HasAll, row, r_str, r_file, r_truth, r_var, r_native, r_foreign, r_apply, r_future, r_if, r_fix, r_nil, r_cons, r_isnil, r_zip, r_tuple, r_project, r_lproject, r_let, r_end, r_more}
use Rattle.meaning.proofs.Trees.Tests.{left, right, both, none-some}
use Rattle.meaning.proofs.Trees.ByKind.{lambda-is, below-lit}
use Rattle.meaning.proofs.Trees.EachRow.{Fact, Every, Everys}
use Rattle.meaning.proofs.Bytes.TypeTables.{Promises, below-if, below_of}
use Rattle.meaning.proofs.Typing.TypeTrees.{PartsBelow, parts_below_lem, type-eq, ground-tree, ground-trees, is_base_lem, is-list, is-tuple, is-fun, same-elems, same_args}

-- what is asked of each row: its type stands in a table of so many, and a zip's mask is not empty
abbrev pub InTable : ℕ → Fact
InTable count h u = (u < count) × ((m : ℕ) → h ≡ zip m → 1 ≤ m)

-- all below a number are below a greater one
every-up : (t count : ℕ) → t ≤ count → (ts : List ℕ) → every (below t) ts ≡ true → every (below count) ts ≡ true
unfolding every
every-up t count h [] e = refl
every-up t count h (n ∷ ts) e =
    let l = below-if t n (left _ _ e) in
    both _ _ (below_of count n (omega arith)) (every-up t count h ts (right _ _ e))

-- the types that rows state stand in the table
pub ty_below : (count : ℕ) (t : Tree) → Every (InTable count) t → ty_of t < count
unfolding ty_of Every
ty_below count (node h u f) (i, _) = i.0

tys-below : {n : ℕ} (count : ℕ) (f : Forest n) → Everys (InTable count) f → every (below count) (list (tys f)) ≡ true
unfolding tys list every Everys
tys-below count end d = refl
tys-below count (more t f) (i, d) = both _ _ (below_of count (ty_of t) (ty_below count t i)) (tys-below count f d)

-- Numbers against trees --------------------------------------------------------------------------------------------

module _ (q : ℕ → Ty) where
  arg-types : (ps : List Param) → elems_from q (types ps) ≡ arg_types (args_from q ps)
  unfolding elems_from args_from arg_types types
  arg-types [] = refl
  arg-types (p ∷ ps) = ap (elem (q p.type)) (arg-types ps)

  elem-at : (i : ℕ) (ts : List ℕ) (u : ℕ) → place i ts ≡ Some u → elem_at i (elems_from q ts) ≡ Some (q u)
  unfolding place elem_at elems_from
  elem-at i [] u e = absurd (none-some u e)
  elem-at zero (t ∷ ts) u e = absurd (none-some u e)
  elem-at (suc zero) (t ∷ ts) u e = let z : t ≡ u = cc in cc
  elem-at (suc (suc i)) (t ∷ ts) u e = elem-at (suc i) ts u e

  at-elem : (count i : ℕ) (ts : List ℕ) (T : Ty) → every (below count) ts ≡ true → elem_at i (elems_from q ts) ≡ Some T → (u : ℕ) × (place i ts ≡ Some u) × (u < count) × (q u ≡ T)
  unfolding place elem_at elems_from every
  at-elem count i [] T h e = absurd (none-some T e)
  at-elem count zero (t ∷ ts) T h e = absurd (none-some T e)
  at-elem count (suc zero) (t ∷ ts) T h e = (t, refl, below-if count t (left _ _ h), cc)
  at-elem count (suc (suc i)) (t ∷ ts) T h e = at-elem count (suc i) ts T (right _ _ h) e

  -- what a name means as a number and as a type
  pub data Alike (count : ℕ) : Option ℕ → Option Ty → Type 0 where
    unbound : Alike count None None
    bound : (n : ℕ) → n < count → Alike count (Some n) (Some (q n))

  abbrev pub Agrees : ℕ → Ctx → Args → Type 0
  Agrees count Γ Δ = (x : ℕ) → Alike count (Γ x) (named Δ x)

  pub agrees-empty : (count : ℕ) → Agrees count empty no_arg
  unfolding empty named
  agrees-empty count x = unbound

  agrees-more : (count : ℕ) (Γ : Ctx) (Δ : Args) (ps : List Param) → every (below count) (types ps) ≡ true → Agrees count Γ Δ → Agrees count (Γ ⹁ ps) (Δ ⊹ args_from q ps)
  unfolding ◌⹁◌ ◌⊹◌ args_from find types every named pick
  agrees-more count Γ Δ [] h a x = a x
  agrees-more count Γ Δ (p ∷ ps) h a x = by_name (eqb x p.name) (agrees-more count Γ Δ ps (right _ _ h) a x)
    where
      by_name : (b : Bool) → Alike count (pick (find ps x) (Γ x)) (named (Δ ⊹ args_from q ps) x)
          → Alike count (pick (cond b (Some p.type) (find ps x)) (Γ x)) (cond b (Some (q p.type)) (named (Δ ⊹ args_from q ps) x))
      by_name true k = bound p.type (below-if count p.type (left _ _ h))
      by_name false k = k

  alike-type : {count : ℕ} {o : Option ℕ} {T : Option Ty} → Alike count o T → (u : ℕ) → o ≡ Some u → T ≡ Some (q u)
  alike-type unbound u e = absurd (none-some u e)
  alike-type (bound n h) u e = let z : n ≡ u = cc in cc

  alike-number : {count : ℕ} {o : Option ℕ} {O : Option Ty} → Alike count o O → (T : Ty) → O ≡ Some T → (n : ℕ) × (o ≡ Some n) × (n < count) × (q n ≡ T)
  alike-number unbound T e = absurd (none-some T e)
  alike-number (bound n h) T e = (n, refl, h, cc)

-- A table that passes --------------------------------------------------------------------------------------------

module _ (form : ℕ → Form) (count : ℕ) (good : Promises form count) where
  abbrev stands : ℕ → Ty
  stands = type_of form

  told : (u : ℕ) (f : Form) → form u ≡ f → stands u ≡ type_from stands f
  told u f e = type-eq form count good u ∙ ap (type_from stands) e

  abbrev none-bound : ℕ → List Param
  none-bound i = []

  -- the names that a row binds have types of the table
  scope-below : (h : Head) (u : ℕ) (f : Forest (arity h)) → u < count → Everys (InTable count) f → (i : ℕ) → every (below count) (types (scope form h u (tys f) i)) ≡ true
  unfolding scope tys ty_of types every Everys params PartsBelow
  scope-below (lit l) u f h d i = refl
  scope-below (var x) u f h d i = refl
  scope-below lambda u f h d i = by_form (form u) (parts_below_lem form count good u (form u) refl)
    where
      by_form : (g : Form) → PartsBelow u g → every (below count) (types (params g)) ≡ true
      by_form absent k = refl
      by_form (base b) k = refl
      by_form (f_list e) k = refl
      by_form (f_tuple ts) k = refl
      by_form (f_fun s ps r) k = every-up u count (omega arith) (types ps) k.0
  scope-below (foreign w) u f h d i = refl
  scope-below (apply n) u f h d i = refl
  scope-below (future k) u f h d i = refl
  scope-below ite u f h d i = refl
  scope-below fix u f h d i = refl
  scope-below nil u f h d i = refl
  scope-below cons u f h d i = refl
  scope-below isnil u f h d i = refl
  scope-below (zip m) u f h d i = refl
  scope-below (tuple n) u f h d i = refl
  scope-below (project j) u f h d i = refl
  scope-below (lproject j) u f h d i = refl
  scope-below (bind x) u (more (node g v k) (more b end)) h d zero = refl
  scope-below (bind x) u (more (node g v k) (more b end)) h (((l, _), _), _) (suc i) = both _ _ (below_of count v l) refl

  -- From the rows to a derivation ----------------------------------------------------------------------------------

  unfoldable Derivs : {n : ℕ} → Args → (ℕ → List Param) → Forest n → Type 0
  Derivs Δ s end = Unit {0}
  Derivs Δ s (more t f) = Has stands (Δ ⊹ args_from stands (s 0)) t (stands (ty_of t)) × Derivs Δ (λ i. s (suc i)) f

  all-has : {n : ℕ} (Δ : Args) (f : Forest n) → Derivs Δ none-bound f → HasAll stands n Δ f (elems_from stands (list (tys f)))
  unfolding Derivs list tys ◌⊹◌ args_from elems_from
  all-has Δ end d = r_end
  all-has Δ (more t f) (h, d) = r_more h (all-has Δ f d)

  -- "List around each masked argument"
  zipped-lifted : (m : ℕ) (ps qs : List Param) → Zipped form m ps qs → (args_from stands qs ≡ lifted m (args_from stands ps)) × (covered m (args_from stands ps) ≡ true)
  unfolding Zipped Masked args_from lifted covered type_from
  zipped-lifted m [] [] z = (refl, eq-eqb m 0 z)
  zipped-lifted m [] (q ∷ qs) z = absurd z
  zipped-lifted m (p ∷ ps) [] z = absurd z
  zipped-lifted m (p ∷ ps) (q ∷ qs) (e, k, z) =
      let (a, b) = zipped-lifted (rest m) ps qs z in
      (cc (masked (low m) p.type q.type k), b)
    where
      masked : (b : Bool) (n o : ℕ) → Masked form b n o → stands o ≡ cond b (t_list (stands n)) (stands n)
      masked true n o k = told o _ k
      masked false n o k = ap stands k

  fix-has : (Δ : Args) (c : Tree) (n x : ℕ) (b : Tree) (Ps : Args) (R : Ty) → c ≡ node lambda n (more b end) → Has stands Δ c (t_fun ntv (arg x (t_fun ntv Ps R) Ps) R)
      → ByRule stands Δ fix (more c end) (t_fun ntv Ps R)
  fix-has Δ c n x b Ps R q h = rw q (r_fix (rw q at h))

  node-has : (Γ : Ctx) (Δ : Args) (h : Head) (u : ℕ) (f : Forest (arity h)) → Agrees stands count Γ Δ → InTable count h u → Rule form Γ h u (tys f) → below_ok h f ≡ true
      → Derivs Δ (scope form h u (tys f)) f → ByRule stands Δ h f (stands u)
  unfolding Rule lit_base Derivs scope tys ty_of below_ok first_is code params list ◌⊹◌ args_from type_from
  node-has Γ Δ (lit (str x)) u end a i r w d = rw (told u _ r) r_str
  node-has Γ Δ (lit (file x)) u end a i r w d = rw (told u _ r) r_file
  node-has Γ Δ (lit (truth b)) u end a i r w d = rw (told u _ r) r_truth
  node-has Γ Δ (var x) u end a i r w d = r_var (alike-type stands (a x) u r)
  node-has Γ Δ lambda u (more b end) a i (ps, e) w (h, _) = rw (told u _ e) (r_native (rw (ap params e) at h))
  node-has Γ Δ (foreign x) u end a i (ps, r, e) w d =
      let (g, gs) = good.call e in
      let l : every (below count) (types ps) ≡ true = every-up u count (omega (arith, i.0)) (types ps) (good.args e) in
      rw (told u _ e)
      (r_foreign (rw (arg-types stands ps) at (ground-trees form count good (types ps) l gs)) (sym (ground-tree form count good r (omega (arith, i.0, good.result e))) ∙ g))
  node-has Γ Δ (apply n) u (more c args) a i (s, ps, e, q) w (h, d) =
      r_apply (rw (told (ty_of c) _ e) at h) (rw (q, arg-types stands ps) at (all-has Δ args d))
  node-has Γ Δ (future k) u end a i r w d = r_future
  node-has Γ Δ ite u (more c (more x (more y end))) a i (e, ex, ey) w (h, (hx, (hy, _))) = r_if (rw (told (ty_of c) _ e) at h) (rw ex at hx) (rw ey at hy)
  node-has Γ Δ fix u (more c end) a i (x, ps, r, e, e') w (h, _) =
      let (b, q) = lambda-is c w in
      let t = told (ty_of c) _ e ∙ ap (λ (z : Ty). t_fun ntv (arg x z (args_from stands ps)) (stands r)) (told u _ e') in
      rw (told u _ e') (fix-has Δ c (ty_of c) x b (args_from stands ps) (stands r) q (rw t at h))
  node-has Γ Δ nil u end a i (el, e) w d = rw (told u _ e) r_nil
  node-has Γ Δ cons u (more x (more y end)) a i (e, e') w (hx, (hy, _)) = rw (told u _ e) (r_cons hx (rw (e', told u _ e) at hy))
  node-has Γ Δ isnil u (more c end) a i (e, (el, e')) w (h, _) = rw (told u _ e) (r_isnil (rw (told (ty_of c) _ e') at h))
  node-has Γ Δ (zip m) u (more c end) a i (s, ps, r, qs, l, e₁, e₂, e₃, z) w (h, _) =
      let (x, y) = zipped-lifted m ps qs z in
      rw (told u _ e₂, told l _ e₃, x) (r_zip (i.1 m refl) y (rw (told (ty_of c) _ e₁) at h) refl)
  node-has Γ Δ (tuple n) u f a i e w d = rw (told u _ e) (r_tuple (all-has Δ f d))
  node-has Γ Δ (project i) u (more c end) a k (ts, e, e') w (h, _) = r_project (rw (told (ty_of c) _ e) at h) (elem-at stands i ts u e')
  node-has Γ Δ (lproject i) u (more c end) a k (el, ts, r, e₁, e₂, e₃, e₄) w (h, _) =
      rw (told u _ e₄) (r_lproject (rw (told (ty_of c) _ e₁, told el _ e₂) at h) (elem-at stands i ts r e₃))
  node-has Γ Δ (bind x) u (more c (more b end)) a i e w (hc, (hb, _)) = r_let hc (rw e at hb)

  mutual
    unfolding Typed Derivs ty_of Every

    pub typed-has : (Γ : Ctx) (Δ : Args) (t : Tree) → Agrees stands count Γ Δ → Every (InTable count) t → Typed form Γ t → Has stands Δ t (stands (ty_of t))
    typed-has Γ Δ (node h u f) a (i, is) (r, w, d) =
        row (node-has Γ Δ h u f a i r w (typeds-have Γ Δ (scope form h u (tys f)) f a (scope-below h u f i.0 is) is d)) refl

    typeds-have : {n : ℕ} (Γ : Ctx) (Δ : Args) (s : ℕ → List Param) (f : Forest n) → Agrees stands count Γ Δ → ((i : ℕ) → every (below count) (types (s i)) ≡ true) → Everys (InTable count) f
        → TypedF form Γ s f → Derivs Δ s f
    typeds-have Γ Δ s end a k is d = tt
    typeds-have Γ Δ s (more t f) a k (i, is) (p, d) =
        (typed-has (Γ ⹁ s 0) (Δ ⊹ args_from stands (s 0)) t (agrees-more stands count Γ Δ (s 0) (k 0) a) i p, typeds-have Γ Δ (λ j. s (suc j)) f a (λ j. k (suc j)) is d)

  -- From a derivation to the rows ----------------------------------------------------------------------------------

  module _ (one : (t u : ℕ) → t < count → u < count → type_of form t ≡ type_of form u → t ≡ u) where
    base-told : (u : ℕ) (b : Base) → u < count → stands u ≡ t_base b → form u ≡ base b
    base-told u b h e = is_base_lem stands (form u) b (λ z. omega (arith, good.at u z)) (sym (type-eq form count good u) ∙ e)

    list-told : (u : ℕ) (E : Ty) → u < count → stands u ≡ t_list E → (e : ℕ) × (form u ≡ f_list e) × (e < count) × (stands e ≡ E)
    list-told u E h e =
        let (n, o, p) = is-list stands (form u) E (sym (type-eq form count good u) ∙ e) in
        (n, o, omega (arith, good.elem o), p)

    tuple_told : (u : ℕ) (Ts : Elems) → u < count → stands u ≡ t_tuple Ts → (ts : List ℕ) × (form u ≡ f_tuple ts) × (every (below count) ts ≡ true) × (elems_from stands ts ≡ Ts)
    tuple_told u Ts h e =
        let (ts, o, p) = is-tuple stands (form u) Ts (sym (type-eq form count good u) ∙ e) in
        (ts, o, every-up u count (omega arith) ts (good.tuple o), p)

    record FunTold (u : ℕ) (s : Side) (Ps : Args) (R : Ty) : Type 0 where
      args : List Param
      result : ℕ
      of-form : form u ≡ f_fun s args result
      args-below : every (below count) (types args) ≡ true
      result-below : result < count
      args_are : args_from stands args ≡ Ps
      result-is : stands result ≡ R

    fun-told : (u : ℕ) (s : Side) (Ps : Args) (R : Ty) → u < count → stands u ≡ t_fun s Ps R → FunTold u s Ps R
    fun-told u s Ps R h e =
        let (ps, r, o, p, q) = is-fun stands (form u) s Ps R (sym (type-eq form count good u) ∙ e) in
        record {
          args = ps;
          result = r;
          of-form = o;
          args-below = every-up u count (omega arith) (types ps) (good.args o);
          result-below = omega (arith, good.result o);
          args_are = p;
          result-is = q;
        }

    one_list : (ts us : List ℕ) → every (below count) ts ≡ true → every (below count) us ≡ true → elems_from stands ts ≡ elems_from stands us → ts ≡ us
    one_list = same-elems stands count count one

    one-args : (ps qs : List Param) → every (below count) (types ps) ≡ true → every (below count) (types qs) ≡ true → args_from stands ps ≡ args_from stands qs → ps ≡ qs
    one-args = same_args stands count count one

    masked-told : (b : Bool) (n o : ℕ) → n < count → o < count → stands o ≡ cond b (t_list (stands n)) (stands n) → Masked form b n o
    unfolding Masked
    masked-told true n o h k e =
        let (v, p, l, q) = list-told o (stands n) k e in
        p ∙ ap f_list (one v n l h q)
    masked-told false n o h k e = one o n k h e

    lifted-zipped : (m : ℕ) (ps qs : List Param) → every (below count) (types ps) ≡ true → every (below count) (types qs) ≡ true
        → args_from stands qs ≡ lifted m (args_from stands ps) → covered m (args_from stands ps) ≡ true → Zipped form m ps qs
    unfolding Zipped args_from lifted covered types every
    lifted-zipped m [] [] h k e c = eqb-true m 0 c
    lifted-zipped m [] (q ∷ qs) h k e c = absurd (let z : ◌≡◌ {A = ℕ} 0 1 = cc in omega arith)
    lifted-zipped m (p ∷ ps) [] h k e c = absurd (let z : ◌≡◌ {A = ℕ} 0 1 = cc in omega arith)
    lifted-zipped m (p ∷ ps) (q ∷ qs) h k e c = (
      cc,
      masked-told (low m) p.type q.type (below-if count p.type (left _ _ h)) (below-if count q.type (left _ _ k)) (cc),
      lifted-zipped (rest m) ps qs (right _ _ h) (right _ _ k) (cc) c,
    )

    -- a function whose arguments stand for at least one
    first-arg : (ps : List Param) (x : ℕ) (T : Ty) (Ps : Args) → args_from stands ps ≡ arg x T Ps → (t : ℕ) × (qs : List Param) × (ps ≡ record { name = x; type = t } ∷ qs) × (stands t ≡ T) × (args_from stands qs ≡ Ps)
    unfolding args_from
    first-arg [] x T Ps e = absurd (let z : ◌≡◌ {A = ℕ} 0 1 = cc in omega arith)
    first-arg (p ∷ ps) x T Ps e = let z : p.name ≡ x = cc in (p.type, ps, (λ i. record { name = z i; type = p.type } ∷ ps), cc, cc)

    -- "its first argument has a native function type with exactly the other names and types, in order, and the same result"
    fix-told : (n u x : ℕ) (Ps : Args) (T : Ty) → n < count → u < count → stands n ≡ t_fun ntv (arg x (t_fun ntv Ps T) Ps) T → stands u ≡ t_fun ntv Ps T
        → (ps : List Param) × (r : ℕ) × (form n ≡ f_fun ntv (record { name = x; type = u } ∷ ps) r) × (form u ≡ f_fun ntv ps r)
    unfolding types every
    fix-told n u x Ps T h k e e' =
        let t = fun-told n ntv (arg x (t_fun ntv Ps T) Ps) T h e in
        let v = fun-told u ntv Ps T k e' in
        let (w, qs, o, y, z) = first-arg t.args x (t_fun ntv Ps T) Ps t.args_are in
        let b : every (below count) (w ∷ types qs) ≡ true = rw o at t.args-below in
        let p : w ≡ u = one w u (below-if count w (left _ _ b)) k (y ∙ sym e') in
        let q : qs ≡ v.args = one-args qs v.args (right _ _ b) v.args-below (z ∙ sym v.args_are) in
        let r : t.result ≡ v.result = one t.result v.result t.result-below v.result-below (t.result-is ∙ sym v.result-is) in
        let a : t.args ≡ record { name = x; type = u } ∷ v.args = o ∙ (λ i. record { name = x; type = p i } ∷ q i) in
        (v.args, v.result, t.of-form ∙ cc, v.of-form)

    mutual
      unfolding Typed Rule lit_base scope tys ty_of below_ok first_is is code head_of list params Every ◌⹁◌ pick find ◌⊹◌ args_from elems_from types every

      pub has-typed : {Δ : Args} {t : Tree} {T : Ty} → Has stands Δ t T → (Γ : Ctx) → Agrees stands count Γ Δ → Every (InTable count) t → Typed form Γ t × (stands (ty_of t) ≡ T)
      has-typed (row {n} r e) Γ a (i, d) = (rule-typed r Γ n a i.0 e d, e)

      rule-typed : {Δ : Args} {h : Head} {f : Forest (arity h)} {T : Ty} → ByRule stands Δ h f T → (Γ : Ctx) (u : ℕ) → Agrees stands count Γ Δ → u < count → stands u ≡ T → Everys (InTable count) f
          → Rule form Γ h u (tys f) × (below_ok h f ≡ true) × TypedF form Γ (scope form h u (tys f)) f
      rule-typed (r_str {w}) Γ u a i e d = (base-told u _ i e, below-lit (str w) end, tt)
      rule-typed (r_file {w}) Γ u a i e d = (base-told u _ i e, below-lit (file w) end, tt)
      rule-typed (r_truth {b}) Γ u a i e d = (base-told u _ i e, below-lit (truth b) end, tt)
      rule-typed (r_var {x} {T} q) Γ u a i e d =
          let (n, o, l, p) = alike-number stands (a x) T q in
          (o ∙ ap Some (one n u l i (p ∙ sym e)), refl, tt)
      rule-typed (r_native {Γ = Δ} {ps = Ps} {b} {T} h) Γ u a i e (ib, _) =
          let t = fun-told u ntv Ps T i e in
          let (k, q) = has-typed h (Γ ⹁ t.args) (subst (λ (z : Args). Agrees stands count (Γ ⹁ t.args) (Δ ⊹ z)) t.args_are (agrees-more stands count Γ Δ t.args t.args-below a)) ib in
          let r : t.result ≡ ty_of b = one t.result (ty_of b) t.result-below (ty_below count b ib) (t.result-is ∙ sym q) in
          ((t.args, t.of-form ∙ ap (f_fun ntv t.args) r), refl, (rw t.of-form k, tt))
      rule-typed (r_foreign {ps = Ps} {T} g gs) Γ u a i e d = let t = fun-told u _ Ps T i e in ((t.args, t.result, t.of-form), refl, tt)
      rule-typed (r_apply {ps = Ps} {s} {c} {args} {T} h hs) Γ u a i e (ic, ia) =
          let (k, q) = has-typed h Γ a ic in
          let t = fun-told (ty_of c) s Ps T (ty_below count c ic) q in
          let (ks, qs) = all_typed hs Γ a ia in
          let r : t.result ≡ u = one t.result u t.result-below i (t.result-is ∙ sym e) in
          let l : list (tys args) ≡ types t.args =
          one_list (list (tys args)) (types t.args) (tys-below count args ia) t.args-below (qs ∙ ap arg_types (sym t.args_are) ∙ sym (arg-types stands t.args)) in
          ((s, t.args, t.of-form ∙ ap (f_fun s t.args) r, l), refl, (k, ks))
      rule-typed r_future Γ u a i e d = (tt, refl, tt)
      rule-typed (r_if {c} {a = x} {b = y} hc hx hy) Γ u a i e (ic, (ix, (iy, _))) =
          let (kc, qc) = has-typed hc Γ a ic in
          let (kx, qx) = has-typed hx Γ a ix in
          let (ky, qy) = has-typed hy Γ a iy in
          ((base-told (ty_of c) _ (ty_below count c ic) qc, one (ty_of x) u (ty_below count x ix) i (qx ∙ sym e), one (ty_of y) u (ty_below count y iy) i (qy ∙ sym e)), refl, (kc, (kx, (ky, tt))))
      rule-typed (r_fix {ps = Ps} {n} {x} {b} {T} h) Γ u a i e (ic, _) =
          let (k, q) = has-typed h Γ a ic in
          let (ps, r, o, o') = fix-told n u x Ps T ic.0.0 i q e in
          ((x, ps, r, o, o'), refl, (k, tt))
      rule-typed (r_nil {T}) Γ u a i e d = let (n, o, l, p) = list-told u T i e in ((n, o), refl, tt)
      rule-typed (r_cons {a = x} {b = y} {T} hx hy) Γ u a i e (ix, (iy, _)) =
          let (kx, qx) = has-typed hx Γ a ix in
          let (ky, qy) = has-typed hy Γ a iy in
          let (n, o, l, p) = list-told u T i e in
          ((o ∙ ap f_list (one n (ty_of x) l (ty_below count x ix) (p ∙ sym qx)), one (ty_of y) u (ty_below count y iy) i (qy ∙ sym e)), refl, (kx, (ky, tt)))
      rule-typed (r_isnil {c} {T} h) Γ u a i e (ic, _) =
          let (k, q) = has-typed h Γ a ic in
          let (n, o, l, p) = list-told (ty_of c) T (ty_below count c ic) q in
          ((base-told u _ i e, (n, o)), refl, (k, tt))
      rule-typed (r_zip {ps = Ps} {qs = Qs} {m} {s} {c} {T} g y h x) Γ u a i e (ic, _) =
          let (k, q) = has-typed h Γ a ic in
          let t = fun-told (ty_of c) s Ps T (ty_below count c ic) q in
          let v = fun-told u s Qs (t_list T) i e in
          let (n, o, l, p) = list-told v.result T v.result-below v.result-is in
          let r : n ≡ t.result = one n t.result l t.result-below (p ∙ sym t.result-is) in
          let z = lifted-zipped m t.args v.args t.args-below v.args-below (v.args_are ∙ sym x ∙ ap (lifted m) (sym t.args_are)) (rw t.args_are y) in
          ((s, t.args, t.result, v.args, v.result, t.of-form, v.of-form, o ∙ ap f_list r, z), refl, (k, tt))
      rule-typed (r_tuple {f} {Ts} hs) Γ u a i e d =
          let (ks, qs) = all_typed hs Γ a d in
          let (ts, o, l, p) = tuple_told u Ts i e in
          (o ∙ ap f_tuple (one_list ts (list (tys f)) l (tys-below count f d) (p ∙ sym qs)), refl, ks)
      rule-typed (r_project {i = j} {c} {Ts} {T} h y) Γ u a i e (ic, _) =
          let (k, q) = has-typed h Γ a ic in
          let (ts, o, l, p) = tuple_told (ty_of c) Ts (ty_below count c ic) q in
          let (v, z, w, x) = at-elem stands count j ts T l (rw p y) in
          ((ts, o, z ∙ ap Some (one v u w i (x ∙ sym e))), refl, (k, tt))
      rule-typed (r_lproject {i = j} {c} {Ts} {T} h y) Γ u a i e (ic, _) =
          let (k, q) = has-typed h Γ a ic in
          let (n, o, l, p) = list-told (ty_of c) (t_tuple Ts) (ty_below count c ic) q in
          let (ts, o', l', p') = tuple_told n Ts l p in
          let (v, z, w, x) = at-elem stands count j ts T l' (rw p' y) in
          let (n'', o'', l'', p'') = list-told u T i e in
          let r : n'' ≡ v = one n'' v l'' w (p'' ∙ sym x) in
          ((n, ts, v, o, o', z, o'' ∙ ap f_list r), refl, (k, tt))
      rule-typed (r_let {Γ = Δ} {x} {a = c} {b} {U} {T} hc hb) Γ u a i e (ic, (ib, _)) =
          let (kc, qc) = has-typed hc Γ a ic in
          let ps : List Param = record { name = x; type = ty_of c } ∷ [] in
          let (kb, qb) = has-typed hb (Γ ⹁ ps) (subst (λ (z : Ty). Agrees stands count (Γ ⹁ ps) (Δ ⊹ arg x z no_arg)) qc (agrees-more stands count Γ Δ ps (both _ _ (below_of count (ty_of c) (ty_below count c ic)) refl) a)) ib in
          (one (ty_of b) u (ty_below count b ib) i (qb ∙ sym e), refl, (kc, (kb, tt)))

      all_typed : {n : ℕ} {Δ : Args} {f : Forest n} {Ts : Elems} → HasAll stands n Δ f Ts → (Γ : Ctx) → Agrees stands count Γ Δ → Everys (InTable count) f
          → TypedF form Γ none-bound f × (elems_from stands (list (tys f)) ≡ Ts)
      all_typed r_end Γ a d = (tt, refl)
      all_typed (r_more h hs) Γ a (i, d) =
          let (k, q) = has-typed h Γ a i in
          let (ks, qs) = all_typed hs Γ a d in
          ((k, ks), cc)
