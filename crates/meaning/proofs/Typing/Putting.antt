-- Putting closed trees for names keeps types, and so does a reply's value put for a future. Assumes nothing.
use Prim.Native.Nat.{ℕ, suc}
use mathlib.Core.Path.{◌≡◌, refl, ap}
use mathlib.Core.Bool.{Bool, true, false, cond}
use mathlib.Core.List.{List}
use Rattle.std.specs.Prelude.{Option, None, Some}
use lib.Dec.{eqb}
use borrow.Author.Tests.{eqb-true}
use Rattle.meaning.specs.Bytes.{◌∧ᵇ◌}
use Rattle.meaning.specs.Types.{Param, Form, find, Ctx, empty, pick, ◌⹁◌}
use Rattle.meaning.specs.Terms.{Head, lit, var, lambda, foreign, apply, future, ite, fix, nil, cons, isnil, zip, tuple, project, lproject, bind, arity, code, word_of, head_from, Tree, Forest, node, end, more, head_of, ty_of, is}
use Rattle.meaning.specs.Typing.{Tys, ⟨⟩, ◌▹◌, tys, first_is, below_ok, Rule, scope, Typed, TypedF}
use Rattle.meaning.specs.Steps.{Sub, veil, hide, swap, hit, put, puts, due, settle, settles}
use Rattle.meaning.proofs.Trees.Tests.{left, right, none-some}
use Rattle.meaning.proofs.Trees.EachRow.{Every, Everys, Due, Listed}
use Rattle.meaning.proofs.Trees.ByKind.{head-is}

-- where something is put stands a variable
pub hit-is : (σ : Sub) (h : Head) (v : Tree) → hit σ h ≡ Some v → (h ≡ var (word_of h)) × (σ (word_of h) ≡ Some v)
unfolding hit head_from
hit-is σ h v e = by_kind (eqb (code h) 5) refl e
  where
    by_kind : (b : Bool) → eqb (code h) 5 ≡ b → cond b (σ (word_of h)) None ≡ Some v → (h ≡ var (word_of h)) × (σ (word_of h) ≡ Some v)
    by_kind true p e = (head-is 5 h p, e)
    by_kind false p e = absurd (none-some v e)

-- and where a value is due, a future of its number
pub due-is : (k : ℕ) (v : Tree) (h : Head) (o : Tree) → due k v h ≡ Some o → (h ≡ future k) × (v ≡ o)
unfolding due head_from
due-is k v h o e = by_kind (eqb (code h) 9 ∧ᵇ eqb (word_of h) k) refl e
  where
    by_kind : (b : Bool) → (eqb (code h) 9 ∧ᵇ eqb (word_of h) k) ≡ b → cond b (Some v) None ≡ Some o → (h ≡ future k) × (v ≡ o)
    by_kind true p e = (cc (head-is 9 h (left _ _ p), eqb-true (word_of h) k (right _ _ p)), cc)
    by_kind false p e = absurd (none-some o e)

-- a written function stays where it stands
lambda-stays : (σ : Sub) (h : Head) → eqb (code h) 6 ≡ true → hit σ h ≡ None
unfolding hit code head_from
lambda-stays σ h e = ap (hit σ) (head-is 6 h e)

lambda-rests : (k : ℕ) (v : Tree) (h : Head) → eqb (code h) 6 ≡ true → due k v h ≡ None
unfolding due code head_from ◌∧ᵇ◌
lambda-rests k v h e = ap (due k v) (head-is 6 h e)

module _ (form : ℕ → Form) where
  -- a rule looks at the names around it only at a variable
  rule-at : (Γ Δ : Ctx) (h : Head) (ty : ℕ) (us : Tys (arity h)) → ((x : ℕ) → h ≡ var x → Γ x ≡ Some ty → Δ x ≡ Some ty) → Rule form Γ h ty us → Rule form Δ h ty us
  unfolding Rule
  rule-at Γ Δ (lit l) ty ⟨⟩ k r = r
  rule-at Γ Δ (var x) ty ⟨⟩ k r = k x refl r
  rule-at Γ Δ lambda ty (b ▹ ⟨⟩) k r = r
  rule-at Γ Δ (foreign w) ty ⟨⟩ k r = r
  rule-at Γ Δ (apply n) ty (c ▹ us) k r = r
  rule-at Γ Δ (future j) ty ⟨⟩ k r = r
  rule-at Γ Δ ite ty (c ▹ a ▹ b ▹ ⟨⟩) k r = r
  rule-at Γ Δ fix ty (c ▹ ⟨⟩) k r = r
  rule-at Γ Δ nil ty ⟨⟩ k r = r
  rule-at Γ Δ cons ty (a ▹ b ▹ ⟨⟩) k r = r
  rule-at Γ Δ isnil ty (c ▹ ⟨⟩) k r = r
  rule-at Γ Δ (zip m) ty (c ▹ ⟨⟩) k r = r
  rule-at Γ Δ (tuple n) ty us k r = r
  rule-at Γ Δ (project i) ty (c ▹ ⟨⟩) k r = r
  rule-at Γ Δ (lproject i) ty (c ▹ ⟨⟩) k r = r
  rule-at Γ Δ (bind y) ty (a ▹ b ▹ ⟨⟩) k r = r

  -- at a variable the rule is that the name has the type
  rule-name : (Γ : Ctx) (h : Head) (ty : ℕ) (us : Tys (arity h)) (x : ℕ) → h ≡ var x → Rule form Γ h ty us → Γ x ≡ Some ty
  unfolding Rule
  rule-name Γ (lit l) ty us x e r = cc
  rule-name Γ (var y) ty ⟨⟩ x e r = let q : y ≡ x = cc in rw (← q) r
  rule-name Γ lambda ty us x e r = cc
  rule-name Γ (foreign w) ty us x e r = cc
  rule-name Γ (apply n) ty us x e r = cc
  rule-name Γ (future j) ty us x e r = cc
  rule-name Γ ite ty us x e r = cc
  rule-name Γ fix ty us x e r = cc
  rule-name Γ nil ty us x e r = cc
  rule-name Γ cons ty us x e r = cc
  rule-name Γ isnil ty us x e r = cc
  rule-name Γ (zip m) ty us x e r = cc
  rule-name Γ (tuple n) ty us x e r = cc
  rule-name Γ (project i) ty us x e r = cc
  rule-name Γ (lproject i) ty us x e r = cc
  rule-name Γ (bind y) ty us x e r = cc

  -- More names do no harm ----------------------------------------------------------------------------------------

  abbrev pub Wider : Ctx → Ctx → Type 0
  Wider Γ Δ = (x ty : ℕ) → Γ x ≡ Some ty → Δ x ≡ Some ty

  wider-under : (Γ Δ : Ctx) (ps : List Param) → Wider Γ Δ → Wider (Γ ⹁ ps) (Δ ⹁ ps)
  unfolding ◌⹁◌ pick
  wider-under Γ Δ ps w x ty e = by_name (find ps x) e
    where
      by_name : (o : Option ℕ) → pick o (Γ x) ≡ Some ty → pick o (Δ x) ≡ Some ty
      by_name None e = w x ty e
      by_name (Some u) e = e

  mutual
    unfolding Typed

    pub weaken : (Γ Δ : Ctx) (t : Tree) → Wider Γ Δ → Typed form Γ t → Typed form Δ t
    weaken Γ Δ (node h ty f) w (r, b, k) = (rule-at Γ Δ h ty (tys f) (λ x _. w x ty) r, b, weakens Γ Δ (scope form h ty (tys f)) f w k)

    weakens : {n : ℕ} (Γ Δ : Ctx) (s : ℕ → List Param) (f : Forest n) → Wider Γ Δ → TypedF form Γ s f → TypedF form Δ s f
    weakens Γ Δ s end w k = tt
    weakens Γ Δ s (more t f) w (a, k) = (weaken (Γ ⹁ s 0) (Δ ⹁ s 0) t (wider-under Γ Δ (s 0) w) a, weakens Γ Δ (λ i. s (suc i)) f w k)

  pub weaken-closed : (Γ : Ctx) (t : Tree) → Typed form empty t → Typed form Γ t
  unfolding empty
  weaken-closed Γ t k = weaken empty Γ t (λ x ty e. cc) k

  -- Putting ------------------------------------------------------------------------------------------------------

  -- what is put for a name is closed and of its type; a name for which nothing is put keeps its type
  unfoldable pub Fit : Option Tree → Option ℕ → ℕ → Type 0
  Fit None g ty = g ≡ Some ty
  Fit (Some v) g ty = Typed form empty v × (ty_of v ≡ ty)

  abbrev pub Fits : Sub → Ctx → Ctx → Type 0
  Fits σ Γ Δ = (x ty : ℕ) → Γ x ≡ Some ty → Fit (σ x) (Δ x) ty

  fits_under : (σ : Sub) (Γ Δ : Ctx) (ps : List Param) → Fits σ Γ Δ → Fits (hide ps σ) (Γ ⹁ ps) (Δ ⹁ ps)
  unfolding ◌⹁◌ pick hide veil Fit
  fits_under σ Γ Δ ps w x ty e = by_name (find ps x) e
    where
      by_name : (o : Option ℕ) → pick o (Γ x) ≡ Some ty → Fit (veil o (σ x)) (pick o (Δ x)) ty
      by_name None e = w x ty e
      by_name (Some u) e = e

  below_put : {n : ℕ} (s : ℕ → List Param) (σ : Sub) (b : Bool) (f : Forest n) → cond b (first_is 6 f) true ≡ true → cond b (first_is 6 (puts form s σ f)) true ≡ true
  unfolding first_is is head_of put swap
  below_put s σ true end e = e
  below_put s σ true (more (node h ty f) g) e = rw (lambda-stays (hide (s 0) σ) h e) e
  below_put s σ false f e = refl

  put-node : (σ : Sub) (Γ Δ : Ctx) (h : Head) (ty : ℕ) (f g : Forest (arity h)) → Fits σ Γ Δ → Rule form Γ h ty (tys f) → below_ok h g ≡ true
      → TypedF form Δ (scope form h ty (tys f)) g → tys g ≡ tys f → (o : Option Tree) → hit σ h ≡ o
      → Typed form Δ (swap o (node h ty g)) × (ty_of (swap o (node h ty g)) ≡ ty)
  unfolding Typed swap ty_of hit code word_of Fit
  put-node σ Γ Δ h ty f g w r b k e None q =
      (rw e (rule-at Γ Δ h ty (tys f) (λ x p d. let n : σ x ≡ None = rw p at q in rw n at (w x ty d)) r, b, k), refl)
  put-node σ Γ Δ h ty f g w r b k e (Some v) q =
      let (p, n) = hit-is σ h v q in
      let (c, d) = rw n at (w (word_of h) ty (rule-name Γ h ty (tys f) (word_of h) p r)) in
      (weaken-closed Δ v c, d)

  mutual
    unfolding Typed put tys below_ok ty_of

    pub put_typed : (σ : Sub) (Γ Δ : Ctx) (t : Tree) → Fits σ Γ Δ → Typed form Γ t → Typed form Δ (put form σ t) × (ty_of (put form σ t) ≡ ty_of t)
    put_typed σ Γ Δ (node h ty f) w (r, b, k) =
        let s = scope form h ty (tys f) in
        let (k', e) = puts-typed σ Γ Δ s f w k in
        put-node σ Γ Δ h ty f (puts form s σ f) w r (below_put s σ (eqb (code h) 11) f b) k' e (hit σ h) refl

    puts-typed : {n : ℕ} (σ : Sub) (Γ Δ : Ctx) (s : ℕ → List Param) (f : Forest n) → Fits σ Γ Δ → TypedF form Γ s f → TypedF form Δ s (puts form s σ f) × (tys (puts form s σ f) ≡ tys f)
    puts-typed σ Γ Δ s end w k = (tt, refl)
    puts-typed σ Γ Δ s (more t f) w (a, k) =
        let (a', e) = put_typed (hide (s 0) σ) (Γ ⹁ s 0) (Δ ⹁ s 0) t (fits_under σ Γ Δ (s 0) w) a in
        let (k', e') = puts-typed σ Γ Δ (λ i. s (suc i)) f w k in
        ((a', k'), cc)

  -- Settling -----------------------------------------------------------------------------------------------------

  below-settle : {n : ℕ} (k : ℕ) (v : Tree) (b : Bool) (f : Forest n) → cond b (first_is 6 f) true ≡ true → cond b (first_is 6 (settles k v f)) true ≡ true
  unfolding first_is is head_of settle swap
  below-settle k v true end e = e
  below-settle k v true (more (node h ty f) g) e = rw (lambda-rests k v h e) e
  below-settle k v false f e = refl

  settle-node : (Φ : ℕ → Option ℕ) (Γ : Ctx) (k : ℕ) (v : Tree) (h : Head) (ty : ℕ) (f g : Forest (arity h)) → Φ k ≡ Some (ty_of v) → Typed form empty v → Due Φ h ty → Rule form Γ h ty (tys f) → below_ok h g ≡ true
      → TypedF form Γ (scope form h ty (tys f)) g → tys g ≡ tys f → (o : Option Tree) → due k v h ≡ o
      → Typed form Γ (swap o (node h ty g)) × (ty_of (swap o (node h ty g)) ≡ ty)
  unfolding Typed swap ty_of
  settle-node Φ Γ k v h ty f g l c a r b d e None q = (rw e (r, b, d), refl)
  settle-node Φ Γ k v h ty f g l c a r b d e (Some u) q =
      let (p, p') = due-is k v h u q in
      let m : Φ k ≡ Some ty = a k p in
      rw (← p') (weaken-closed Γ v c, cc)

  mutual
    unfolding Typed Every settle tys below_ok ty_of

    pub settle-typed : (Φ : ℕ → Option ℕ) (k : ℕ) (v : Tree) → Φ k ≡ Some (ty_of v) → Typed form empty v → (Γ : Ctx) (t : Tree) → Listed Φ t → Typed form Γ t → Typed form Γ (settle k v t) × (ty_of (settle k v t) ≡ ty_of t)
    settle-typed Φ k v l c Γ (node h ty f) (a, j) (r, b, d) =
        let (d', e) = settles-typed Φ k v l c Γ (scope form h ty (tys f)) f j d in
        settle-node Φ Γ k v h ty f (settles k v f) l c a r (below-settle k v (eqb (code h) 11) f b) d' e (due k v h) refl

    settles-typed : {n : ℕ} (Φ : ℕ → Option ℕ) (k : ℕ) (v : Tree) → Φ k ≡ Some (ty_of v) → Typed form empty v → (Γ : Ctx) (s : ℕ → List Param) (f : Forest n) → Everys (Due Φ) f → TypedF form Γ s f
        → TypedF form Γ s (settles k v f) × (tys (settles k v f) ≡ tys f)
    settles-typed Φ k v l c Γ s end j d = (tt, refl)
    settles-typed Φ k v l c Γ s (more t f) (i, j) (a, d) =
        let (a', e) = settle-typed Φ k v l c (Γ ⹁ s 0) t i a in
        let (d', e') = settles-typed Φ k v l c Γ (λ i. s (suc i)) f j d in
        ((a', d'), cc)
