-- A rule keeps the type wherever it is applied, so a step does. Assumes nothing.
use Prim.Native.Nat.{ℕ, zero, suc}
use mathlib.Core.Path.{◌≡◌, refl, ap, sym, ◌∙◌}
use mathlib.Core.Bool.{Bool, true, false, cond}
use mathlib.Core.List.{List, [], ◌∷◌, cons≢nil}
use Rattle.std.specs.Prelude.{Option, None, Some}
use lib.Dec.{eqb}
use Rattle.meaning.specs.Bytes.{◌∧ᵇ◌}
use Rattle.meaning.specs.Types.{Truth, Side, ntv, frn, Param, Form, base, f_list, f_tuple, f_fun, params, types, elem_of, find, empty, pick, ◌⹁◌, place, low, rest}
use Rattle.meaning.specs.Terms.{Head, lit, var, lambda, foreign, apply, future, ite, fix, nil, cons, isnil, zip, tuple, project, lproject, bind, arity, code, n_of, Tree, Forest, node, end, more, head_of, ty_of, is}
use Rattle.meaning.specs.Typing.{list, tys, lit_base, below_ok, Masked, Zipped, Rule, scope, Typed, TypedF}
use Rattle.meaning.specs.Steps.{◌∨ᵇ◌, swap, assign, put, values, Call, Out, stay, go, nth, child, kid, become, if_step, isnil_step, project_step, is_list, ready, any_nil, kids_at, lproject_step, tie, fix_step, send_step, zip_cons, zip_step, apply_step, let_step, contract, Places, step}
use Rattle.meaning.proofs.Trees.Tests.{left, right, neither-l, neither-r, none-some}
use Rattle.meaning.proofs.Trees.ByKind.{lambda-is, foreign-is, cons-is, zip-is, tuple_is}
use Rattle.meaning.proofs.Typing.Putting.{Fit, Fits, put_typed}
use Rattle.meaning.proofs.Steps.FreeOrder.{Follows, FollowsIn, root, inside, this, that, may-bare, may-fix, step-free}

-- no names bound at any place
abbrev pub bare : ℕ → List Param
bare i = []

closed-name : (o : Option ℕ) {ty : ℕ} → pick o None ≡ Some ty → o ≡ Some ty
unfolding pick
closed-name None e = e
closed-name (Some t) e = e

module _ (form : ℕ → Form) where
  -- What a typed tree of a kind is made of -----------------------------------------------------------------------

  pub lambda-parts : (c : Tree) → is 6 c ≡ true → Typed form empty c → ((ps : List Param) × (form (ty_of c) ≡ f_fun ntv ps (ty_of (kid 1 c)))) × Typed form (empty ⹁ params (form (ty_of c))) (kid 1 c)
  unfolding Typed Rule scope tys ty_of kid child nth swap
  lambda-parts c e k = let (b, q) = lambda-is c e in let (r, w, (d, z)) = rw q at k in rw q (r, d)

  pub foreign-parts : (c : Tree) → is 7 c ≡ true → Typed form empty c → (ps : List Param) × (r : ℕ) × (form (ty_of c) ≡ f_fun frn ps r)
  unfolding Typed Rule tys
  foreign-parts c e k = (rw (foreign-is c e) at k).0

  pub cons-parts : (c : Tree) → is 13 c ≡ true → Typed form empty c
      → (form (ty_of c) ≡ f_list (ty_of (kid 1 c))) × (ty_of (kid 2 c) ≡ ty_of c) × Typed form empty (kid 1 c) × Typed form empty (kid 2 c)
  unfolding Typed Rule scope tys ty_of kid child nth swap ◌⹁◌ pick find
  cons-parts c e k = let (a, b, q) = cons-is c e in let ((r, r'), w, (ka, (kb, z))) = rw q at k in rw q (r, r', ka, kb)

  pub zip-parts : (c : Tree) → is 15 c ≡ true → Typed form empty c
      → ((s : Side) × (ps : List Param) × (r : ℕ) × (qs : List Param) × (u : ℕ) × (form (ty_of (kid 1 c)) ≡ f_fun s ps r) × (form (ty_of c) ≡ f_fun s qs u) × (form u ≡ f_list r) × Zipped form (n_of (head_of c)) ps qs)
      × Typed form empty (kid 1 c)
  unfolding Typed Rule scope tys ty_of head_of n_of kid child nth swap ◌⹁◌ pick find
  zip-parts c e k = let (z, q) = zip-is c e in let (r, w, (d, _)) = rw q at k in rw q (r, d)

  pub tuple-parts : (c : Tree) → is 16 c ≡ true → Typed form empty c → (n : ℕ) × (f : Forest n) × ((i : ℕ) → child i c ≡ nth i f) × (form (ty_of c) ≡ f_tuple (list (tys f))) × TypedF form empty bare f
  unfolding Typed Rule scope child
  tuple-parts c e k = let (f, q) = tuple_is c e in let (r, w, d) = rw q at k in (n_of (head_of c), f, λ i. ap (child i) q, r, d)

  -- What reduces at a row ----------------------------------------------------------------------------------------

  unfoldable pub Keeps : ℕ → Out → Type 0
  Keeps u stay = Unit {0}
  Keeps u (go c t) = Typed form empty t × (ty_of t ≡ u)

  cond-keeps : (u : ℕ) (b : Bool) (o p : Out) → (b ≡ true → Keeps u o) → (b ≡ false → Keeps u p) → Keeps u (cond b o p)
  cond-keeps u true o p h k = h refl
  cond-keeps u false o p h k = k refl

  -- arguments of the types of the names fit
  assign-fits : {n : ℕ} (ps : List Param) (f : Forest n) → TypedF form empty bare f → list (tys f) ≡ types ps → (x ty : ℕ) (g : Option ℕ) → find ps x ≡ Some ty → Fit form (assign ps f x) g ty
  unfolding Fit assign find types tys list Typed ◌⹁◌ pick
  assign-fits [] f k e x ty g q = absurd (none-some ty q)
  assign-fits (p ∷ ps) end k e x ty g q = cc
  assign-fits (p ∷ ps) (more t f) (a, k) e x ty g q = by_name (eqb x p.name) (assign-fits ps f k (cc) x ty g) q
    where
      by_name : (b : Bool) → (find ps x ≡ Some ty → Fit form (assign ps f x) g ty) → cond b (Some p.type) (find ps x) ≡ Some ty → Fit form (cond b (Some t) (assign ps f x)) g ty
      by_name true ih q = (a, cc)
      by_name false ih q = ih q

  if-keeps : (u : ℕ) (c a b : Tree) → Typed form empty a → ty_of a ≡ u → Typed form empty b → ty_of b ≡ u → Keeps u (if_step c a b)
  unfolding if_step Keeps
  if-keeps u c a b ka ea kb eb = cond-keeps u (is 3 c) _ _ (λ _. (ka, ea)) (λ _. cond-keeps u (is 4 c) _ _ (λ _. (kb, eb)) (λ _. tt))

  isnil-keeps : (u : ℕ) (c : Tree) → form u ≡ base Truth → Keeps u (isnil_step u c)
  unfolding isnil_step Keeps Typed Rule lit_base below_ok code tys ty_of
  isnil-keeps u c e = cond-keeps u (is 12 c) _ _ (λ _. ((e, refl, tt), refl)) (λ _. cond-keeps u (is 13 c) _ _ (λ _. ((e, refl, tt), refl)) (λ _. tt))

  nth-keeps : {n : ℕ} (u i : ℕ) (f : Forest n) → TypedF form empty bare f → place i (list (tys f)) ≡ Some u → Keeps u (become (nth i f))
  unfolding become nth Keeps Typed place list tys ◌⹁◌ pick find
  nth-keeps u i end k e = tt
  nth-keeps u zero (more t f) k e = tt
  nth-keeps u (suc zero) (more t f) (a, k) e = (a, cc)
  nth-keeps u (suc (suc i)) (more t f) (a, k) e = nth-keeps u (suc i) f k e

  project-keeps : (u i : ℕ) (c : Tree) (ts : List ℕ) → Typed form empty c → form (ty_of c) ≡ f_tuple ts → place i ts ≡ Some u → Keeps u (project_step i c)
  unfolding project_step Keeps
  project-keeps u i c ts k e q = cond-keeps u (is 16 c) _ _ (λ g. below g) (λ _. tt)
    where
      below : is 16 c ≡ true → Keeps u (become (child i c))
      below g = let (n, f, s, r, d) = tuple-parts c g k in let l : ts ≡ list (tys f) = cc in rw (s i) (nth-keeps u i f d (rw (← l) q))

  lproject-keeps : (u i : ℕ) (c : Tree) (el : ℕ) (ts : List ℕ) (r : ℕ) → Typed form empty c → form (ty_of c) ≡ f_list el → form el ≡ f_tuple ts → place i ts ≡ Some r → form u ≡ f_list r → Keeps u (lproject_step form i u c)
  unfolding lproject_step Keeps Typed Rule scope ty_of tys below_ok code ◌⹁◌ pick find elem_of
  lproject-keeps u i c el ts r k e₁ e₂ e₃ e₄ =
      cond-keeps u (is 12 c) _ _ (λ _. (((r, e₄), refl, tt), refl))
      (λ _. cond-keeps u (is 13 c) _ _
      (λ g.
      let (q, q', kx, ky) = cons-parts c g k in
      let d : elem_of (form u) ≡ r = ap elem_of e₄ in
      (((cc, refl), refl, (((ts, cc, cc), refl, (kx, tt)), (((el, ts, r, cc, e₂, e₃, e₄), refl, (ky, tt)), tt))), refl))
      (λ _. tt))

  applied : {n : ℕ} (u : ℕ) (c : Tree) (args : Forest n) (s : Side) (ps : List Param) → is 6 c ≡ true → Typed form empty c → form (ty_of c) ≡ f_fun s ps u → list (tys args) ≡ types ps → TypedF form empty bare args
      → Keeps u (go None (put form (assign (params (form (ty_of c))) args) (kid 1 c)))
  unfolding Keeps empty ◌⹁◌ params
  applied u c args s ps g kc e q ka =
      let ((ps', r), kb) = lambda-parts c g kc in
      let d : ps ≡ params (form (ty_of c)) = sym (ap params e) in
      let (k, t) = put_typed form (assign (params (form (ty_of c))) args) (empty ⹁ params (form (ty_of c))) empty (kid 1 c)
      (λ x w h. assign-fits (params (form (ty_of c))) args ka (q ∙ ap types d) x w None (closed-name (find (params (form (ty_of c))) x) h)) kb in
      let l : ty_of (kid 1 c) ≡ u = cc in
      (k, t ∙ l)

  let-keeps : (u x : ℕ) (a b : Tree) → Typed form empty a → Typed form (empty ⹁ (record { name = x; type = ty_of a } ∷ [])) b → ty_of b ≡ u → Keeps u (let_step form x a b)
  unfolding let_step Keeps Typed tys list types empty ◌⹁◌ pick find
  let-keeps u x a b ka kb e =
      let ps : List Param = record { name = x; type = ty_of a } ∷ [] in
      let (k, t) = put_typed form (assign ps (more a end)) (empty ⹁ ps) empty b (λ y w g. assign-fits ps (more a end) (ka, tt) refl y w None (closed-name (find ps y) g)) kb in
      (k, t ∙ e)

  -- the fix term for the first name, the others as they are
  tie-fits : (p : Param) (ps : List Param) (t : Tree) → Typed form empty t → ty_of t ≡ p.type → Fits form (assign (p ∷ []) (more t end)) (empty ⹁ (p ∷ ps)) (empty ⹁ ps)
  unfolding Fit assign find ◌⹁◌ pick
  tie-fits p ps t k e x ty g = by_name (eqb x p.name) g
    where
      by_name : (b : Bool) → pick (cond b (Some p.type) (find ps x)) (empty x) ≡ Some ty → Fit form (cond b (Some t) None) (pick (find ps x) (empty x)) ty
      by_name true g = (k, cc)
      by_name false g = g

  tie-keeps : (u : ℕ) (c : Tree) (qs : List Param) → params (form (ty_of c)) ≡ qs → is 6 c ≡ true → Typed form empty (node fix u (more c end)) → Keeps u (tie form u c qs)
  unfolding tie Keeps Typed Rule scope tys ty_of below_ok code ◌⹁◌ pick find params
  tie-keeps u c [] q g k = tt
  tie-keeps u c (p ∷ ps) q g ((x, ps₀, r, e, e'), w, (kc, z)) =
      let self : Tree = node fix u (more c end) in
      let ((ps₁, e₁), kb) = lambda-parts c g kc in
      let d : params (form (ty_of c)) ≡ record { name = x; type = u } ∷ ps₀ = ap params e in
      let d₁ : u ≡ p.type = cc in
      let d₂ : params (form u) ≡ ps = ap params e' ∙ cc in
      let (k, t) = put_typed form (assign (p ∷ []) (more self end)) (empty ⹁ (p ∷ ps)) (empty ⹁ ps) (kid 1 c)
      (tie-fits p ps self ((x, ps₀, r, e, e'), w, (kc, z)) d₁) (rw q at kb) in
      (((ps₀, cc), refl, (rw d₂ k, tt)), refl)

  fix-keeps : (u : ℕ) (c : Tree) → Typed form empty (node fix u (more c end)) → Keeps u (fix_step form u c)
  unfolding fix_step Keeps
  fix-keeps u c k = cond-keeps u (is 6 c) _ _ (λ g. tie-keeps u c (params (form (ty_of c))) refl g k) (λ _. tt)

  -- an argument of a zip gives its head and its tail where the mask has it, and itself elsewhere
  part-typed : (b : Bool) (t : Tree) (p q : ℕ) → Typed form empty t → ty_of t ≡ q → Masked form b p q → cond b (is_list t) true ≡ true → (b ∧ᵇ is 12 t) ≡ false
      → (Typed form empty (cond b (kid 1 t) t) × (ty_of (cond b (kid 1 t) t) ≡ p)) × (Typed form empty (cond b (kid 2 t) t) × (ty_of (cond b (kid 2 t) t) ≡ q))
  unfolding Masked ◌∧ᵇ◌ is_list ◌∨ᵇ◌
  part-typed false t p q k e z g d = ((k, cc), (k, e))
  part-typed true t p q k e z g d =
      let l : is 13 t ≡ true = rw d at g in
      let (r, r', kx, ky) = cons-parts t l k in
      ((kx, cc), (ky, cc))

  parts_typed : {n : ℕ} (m : ℕ) (ps qs : List Param) (f : Forest n) → TypedF form empty bare f → list (tys f) ≡ types qs → Zipped form m ps qs → ready m f ≡ true → any_nil m f ≡ false
      → (TypedF form empty bare (kids_at 1 m f) × (list (tys (kids_at 1 m f)) ≡ types ps)) × (TypedF form empty bare (kids_at 2 m f) × (list (tys (kids_at 2 m f)) ≡ types qs))
  unfolding Zipped Typed tys list types kids_at ready any_nil ◌⹁◌ pick find
  parts_typed m [] [] end k e z g d = ((tt, refl), (tt, refl))
  parts_typed m [] [] (more t f) k e z g d = absurd (cons≢nil e)
  parts_typed m [] (q ∷ qs) f k e z g d = absurd z
  parts_typed m (p ∷ ps) [] f k e z g d = absurd z
  parts_typed m (p ∷ ps) (q ∷ qs) end k e z g d = ((tt, cc), (tt, cc))
  parts_typed m (p ∷ ps) (q ∷ qs) (more t f) (a, k) e (z₁, z₂, z₃) g d =
      let ((ha, he), (ta, te)) = part-typed (low m) t p.type q.type a (cc) z₂ (left _ _ g) (neither-l _ _ d) in
      let ((hs, hes), (ts, tes)) = parts_typed (rest m) ps qs f k (cc) z₃ (right _ _ g) (neither-r _ _ d) in
      (((ha, hs), cc), ((ta, ts), cc))

  zip-keeps : {n : ℕ} (u : ℕ) (c : Tree) (args : Forest n) → is 15 c ≡ true → Typed form empty (node (apply n) u (more c args)) → Keeps u (zip_step form u (n_of (head_of c)) c args)
  unfolding zip_step zip_cons Keeps Typed Rule scope tys ty_of list below_ok code ◌⹁◌ pick find elem_of
  zip-keeps u c args h ((s, qs, e, l), w, (kc, ka)) =
      let ((s', ps, r, qs', u', e₁, e₂, e₃, z), kz) = zip-parts c h kc in
      let d₁ : qs ≡ qs' = cc in
      let d₂ : form u ≡ f_list r = cc in
      let d₃ : elem_of (form u) ≡ r = ap elem_of d₂ in
      cond-keeps u (ready (n_of (head_of c)) args) _ _
      (λ g. cond-keeps u (any_nil (n_of (head_of c)) args) _ _ (λ _. (((r, d₂), refl, tt), refl))
      (λ d.
      let ((hs, hes), (ts, tes)) = parts_typed (n_of (head_of c)) ps qs' args ka (l ∙ ap types d₁) z g d in
      (((cc, refl), refl, (((s', ps, cc, hes), refl, (kz, hs)), (((s, qs, e, cc), refl, (kc, ts)), tt))), refl)))
      (λ _. tt)

  send-keeps : {n : ℕ} (k u : ℕ) (c : Tree) (args : Forest n) → Keeps u (send_step k u c args)
  unfolding send_step Keeps Typed Rule below_ok code tys ty_of
  send-keeps k u c args = cond-keeps u (values args) _ _ (λ _. ((tt, refl, tt), refl)) (λ _. tt)

  apply-keeps : {n : ℕ} (k u : ℕ) (c : Tree) (args : Forest n) → Typed form empty (node (apply n) u (more c args)) → Keeps u (apply_step form k u c args)
  unfolding apply_step Keeps Typed Rule scope tys ◌⹁◌ pick find
  apply-keeps k u c args ((s, ps, e, l), w, (kc, ka)) =
      cond-keeps u (is 6 c) _ _ (λ g. applied u c args s ps g kc e l ka)
      (λ _. cond-keeps u (is 7 c) _ _ (λ _. send-keeps k u c args)
      (λ _. cond-keeps u (is 15 c) _ _ (λ g. zip-keeps u c args g ((s, ps, e, l), w, (kc, ka))) (λ _. tt)))

  pub contract-keeps : (k : ℕ) (h : Head) (u : ℕ) (f : Forest (arity h)) → Typed form empty (node h u f) → Keeps u (contract form k h u f)
  unfolding contract Keeps Typed Rule scope tys ty_of ◌⹁◌ pick find
  contract-keeps k (lit l) u f t = tt
  contract-keeps k (var x) u f t = tt
  contract-keeps k lambda u f t = tt
  contract-keeps k (foreign w) u f t = tt
  contract-keeps k (apply n) u (more c args) t = apply-keeps k u c args t
  contract-keeps k (future j) u f t = tt
  contract-keeps k ite u (more c (more a (more b end))) ((e, ea, eb), w, (kc, (ka, (kb, z)))) = if-keeps u c a b ka ea kb eb
  contract-keeps k fix u (more c end) t = fix-keeps u c t
  contract-keeps k nil u f t = tt
  contract-keeps k cons u f t = tt
  contract-keeps k isnil u (more c end) ((e, _), w, _) = isnil-keeps u c e
  contract-keeps k (zip m) u f t = tt
  contract-keeps k (tuple n) u f t = tt
  contract-keeps k (project i) u (more c end) ((ts, e, q), w, (kc, z)) = project-keeps u i c ts kc e q
  contract-keeps k (lproject i) u (more c end) ((el, ts, r, e₁, e₂, e₃, e₄), w, (kc, z)) = lproject-keeps u i c el ts r kc e₁ e₂ e₃ e₄
  contract-keeps k (bind x) u (more a (more b end)) (e, w, (ka, (kb, z))) = let-keeps u x a b ka kb e

  -- Inside a row ---------------------------------------------------------------------------------------------------

  mutual
    unfolding Typed tys ty_of Keeps below_ok ◌⹁◌ pick find

    pub follows-typed : {k : ℕ} {c : Option Call} {t t' : Tree} → Follows form k c t t' → Typed form empty t → Typed form empty t' × (ty_of t' ≡ ty_of t)
    follows-typed (root {k} {c} {h} {u} {f} {t} e) d = rw e at (contract-keeps k h u f d)
    follows-typed (inside {h} {u} {f} {g} p) (r, b, d) =
        let (d', e, (i, l)) = follows-in p (scope form h u (tys f)) (may-bare form h u f (tys f)) d in
        ((rw e r, rw (may-fix form h f i l) refl, rw e d'), refl)

    follows-in : {n k : ℕ} {c : Option Call} {a : Places} {f g : Forest n} → FollowsIn form n k c a f g → (s : ℕ → List Param) → ((i : ℕ) → a i ≡ true → s i ≡ []) → TypedF form empty s f
        → TypedF form empty s g × (tys g ≡ tys f) × ((i : ℕ) × (a i ≡ true))
    follows-in (this {t} {t'} {f} e p) s w (q, d) =
        let (q', o) = follows-typed p (rw (w 0 e) at q) in ((rw (w 0 e) q', d), cc, (0, e))
    follows-in (that p) s w (q, d) =
        let (d', o, (i, l)) = follows-in p (λ i. s (suc i)) (λ i. w (suc i)) d in ((q, d'), cc, (suc i, l))

  -- a step of a closed typed tree is typed, at the same type
  pub preservation : (k : ℕ) (t : Tree) (c : Option Call) (u : Tree) → Typed form empty t → step form k t ≡ go c u → Typed form empty u × (ty_of u ≡ ty_of t)
  preservation k t c u d e = follows-typed (step-free form k c t u e) d
