-- The paper's free order: one rule at any place that the congruence rules allow; a step is one such. Assumes nothing.
use Prim.Native.Nat.{ℕ, zero, suc}
use mathlib.Core.Path.{◌≡◌, refl, sym}
use mathlib.Core.Bool.{Bool, true, false, cond}
use mathlib.Core.List.{[]}
use Rattle.std.specs.Prelude.{Option}
use lib.Dec.{eqb}
use Rattle.meaning.specs.Types.{Form, low, rest}
use Rattle.meaning.specs.Terms.{Head, lit, var, lambda, foreign, apply, future, ite, fix, nil, cons, isnil, zip, tuple, project, lproject, bind, arity, code, n_of, Tree, Forest, node, end, more, head_of, is}
use Rattle.meaning.specs.Typing.{Tys, scope}
use Rattle.meaning.specs.Steps.{◌∨ᵇ◌, Call, Out, stay, go, is_list, contract, Places, nowhere, everywhere, first, unless, behind, unready, apply_looks, looks, Outs, stays, goes, or_else, wrap, tail_goes, head_goes, visit, step, steps}
use Rattle.meaning.proofs.Trees.Tests.{left}

-- the places of a mask
unfoldable pub masked : ℕ → Places
masked m zero = low m
masked m (suc i) = masked (rest m) i

unfoldable pub apply_may : Tree → Places
apply_may c =
    cond (is 6 c) nowhere
    (cond (is 7 c) (behind everywhere)
    (cond (is 15 c) (behind (masked (n_of (head_of c)))) first))

-- the places that the congruence rules allow, 49 to 57 and the house rule of zip
unfoldable pub may : (h : Head) → Forest (arity h) → Places
may (lit l) f = nowhere
may (var x) f = nowhere
may lambda f = nowhere
may (foreign w) f = nowhere
may (apply n) (more c args) = apply_may c
may (future k) f = nowhere
may ite f = first
may fix f = nowhere
may nil f = nowhere
may cons f = everywhere
may isnil f = first
may (zip m) f = nowhere
may (tuple n) f = everywhere
may (project j) f = first
may (lproject j) f = first
may (bind x) f = nowhere

unready-masked : {n : ℕ} (m : ℕ) (f : Forest n) (i : ℕ) → unready m f i ≡ true → masked m i ≡ true
unfolding unready masked
unready-masked m end i e = cc
unready-masked m (more t f) zero e = left _ _ e
unready-masked m (more t f) (suc i) e = unready-masked (rest m) f i e

behind_more : (a b : Places) → ((i : ℕ) → a i ≡ true → b i ≡ true) → (i : ℕ) → behind a i ≡ true → behind b i ≡ true
unfolding behind
behind_more a b w zero e = e
behind_more a b w (suc i) e = w i e

unless-first : (b : Bool) (i : ℕ) → unless b i ≡ true → first i ≡ true
unfolding unless nowhere
unless-first true i e = cc
unless-first false i e = e

apply-may : {n : ℕ} (c : Tree) (args : Forest n) (i : ℕ) → apply_looks c args i ≡ true → apply_may c i ≡ true
unfolding apply_looks apply_may
apply-may c args i e = by_kind (is 6 c) (is 7 c) (is 15 c) e
  where
    by_kind : (p q r : Bool) → cond p nowhere (cond q (behind everywhere) (cond r (behind (unready (n_of (head_of c)) args)) first)) i ≡ true
        → cond p nowhere (cond q (behind everywhere) (cond r (behind (masked (n_of (head_of c)))) first)) i ≡ true
    by_kind true q r e = e
    by_kind false true r e = e
    by_kind false false true e = behind_more (unready (n_of (head_of c)) args) (masked (n_of (head_of c))) (unready-masked (n_of (head_of c)) args) i e
    by_kind false false false e = e

looks-may : (h : Head) (f : Forest (arity h)) (i : ℕ) → looks h f i ≡ true → may h f i ≡ true
unfolding looks may
looks-may (lit l) f i e = e
looks-may (var x) f i e = e
looks-may lambda f i e = e
looks-may (foreign w) f i e = e
looks-may (apply n) (more c args) i e = apply-may c args i e
looks-may (future k) f i e = e
looks-may ite (more c f) i e = unless-first (is 3 c ∨ᵇ is 4 c) i e
looks-may fix f i e = e
looks-may nil f i e = e
looks-may cons f i e = e
looks-may isnil (more c f) i e = unless-first (is_list c) i e
looks-may (zip m) f i e = e
looks-may (tuple n) f i e = e
looks-may (project j) (more c f) i e = unless-first (is 16 c) i e
looks-may (lproject j) (more c f) i e = unless-first (is_list c) i e
looks-may (bind x) f i e = e

module _ (form : ℕ → Form) where
  mutual
    pub data Follows : ℕ → Option Call → Tree → Tree → Type 0 where
      root : {k : ℕ} {c : Option Call} {h : Head} {u : ℕ} {f : Forest (arity h)} {t : Tree} → contract form k h u f ≡ go c t → Follows k c (node h u f) t
      inside : {k : ℕ} {c : Option Call} {h : Head} {u : ℕ} {f g : Forest (arity h)} → FollowsIn (arity h) k c (may h f) f g → Follows k c (node h u f) (node h u g)

    pub data FollowsIn : (n : ℕ) → ℕ → Option Call → Places → Forest n → Forest n → Type 0 where
      this : {n k : ℕ} {c : Option Call} {a : Places} {t t' : Tree} {f : Forest n} → a 0 ≡ true → Follows k c t t' → FollowsIn (suc n) k c a (more t f) (more t' f)
      that : {n k : ℕ} {c : Option Call} {a : Places} {t : Tree} {f g : Forest n} → FollowsIn n k c (λ i. a (suc i)) f g → FollowsIn (suc n) k c a (more t f) (more t g)

  -- not under a binder
  pub may-bare : (h : Head) (u : ℕ) (f : Forest (arity h)) (us : Tys (arity h)) (i : ℕ) → may h f i ≡ true → scope form h u us i ≡ []
  unfolding may scope nowhere
  may-bare (lit l) u f us i e = refl
  may-bare (var x) u f us i e = refl
  may-bare lambda u f us i e = cc
  may-bare (foreign w) u f us i e = refl
  may-bare (apply n) u f us i e = refl
  may-bare (future k) u f us i e = refl
  may-bare ite u f us i e = refl
  may-bare fix u f us i e = refl
  may-bare nil u f us i e = refl
  may-bare cons u f us i e = refl
  may-bare isnil u f us i e = refl
  may-bare (zip m) u f us i e = refl
  may-bare (tuple n) u f us i e = refl
  may-bare (project j) u f us i e = refl
  may-bare (lproject j) u f us i e = refl
  may-bare (bind x) u f us i e = cc

  pub looks-bare : (h : Head) (u : ℕ) (f : Forest (arity h)) (us : Tys (arity h)) (i : ℕ) → looks h f i ≡ true → scope form h u us i ≡ []
  looks-bare h u f us i e = may-bare h u f us i (looks-may h f i e)

  -- nor below fix, the one row that asks for a kind below it
  pub may-fix : (h : Head) (f : Forest (arity h)) (i : ℕ) → may h f i ≡ true → eqb (code h) 11 ≡ false
  unfolding may nowhere code
  may-fix (lit l) f i e = cc
  may-fix (var x) f i e = refl
  may-fix lambda f i e = refl
  may-fix (foreign w) f i e = refl
  may-fix (apply n) f i e = refl
  may-fix (future k) f i e = refl
  may-fix ite f i e = refl
  may-fix fix f i e = sym e
  may-fix nil f i e = refl
  may-fix cons f i e = refl
  may-fix isnil f i e = refl
  may-fix (zip m) f i e = refl
  may-fix (tuple n) f i e = refl
  may-fix (project j) f i e = refl
  may-fix (lproject j) f i e = refl
  may-fix (bind x) f i e = refl

  -- a step is one of the free order
  unfoldable Shown : ℕ → Tree → Out → Type 0
  Shown k t stay = Unit {0}
  Shown k t (go c t') = Follows k c t t'

  unfoldable ShownIn : {n : ℕ} → ℕ → Places → Forest n → Outs n → Type 0
  ShownIn k a f stays = Unit {0}
  ShownIn {n} k a f (goes c g) = FollowsIn n k c a f g

  wider : {n k : ℕ} {c : Option Call} {a : Places} {f g : Forest n} (b : Places) → ((i : ℕ) → a i ≡ true → b i ≡ true) → FollowsIn n k c a f g → FollowsIn n k c b f g
  wider b w (this e p) = this (w 0 e) p
  wider b w (that p) = that (wider (λ i. b (suc i)) (λ i. w (suc i)) p)

  or-shown : (k : ℕ) (h : Head) (u : ℕ) (f : Forest (arity h)) (o : Out) (r : Outs (arity h)) → contract form k h u f ≡ o → ShownIn k (looks h f) f r → Shown k (node h u f) (or_else o (wrap h u r))
  unfolding or_else wrap Shown ShownIn
  or-shown k h u f stay stays e s = tt
  or-shown k h u f stay (goes c g) e s = inside (wider (may h f) (looks-may h f) s)
  or-shown k h u f (go c t) r e s = root e

  visit-shown : {n : ℕ} (k : ℕ) (a : Places) (b : Bool) (o : Out) (t : Tree) (f : Forest n) (r : Outs n) → a 0 ≡ b → Shown k t o → ShownIn k (λ i. a (suc i)) f r → ShownIn k a (more t f) (visit b o t f r)
  unfolding visit head_goes tail_goes Shown ShownIn
  visit-shown k a false o t f stays e p q = tt
  visit-shown k a false o t f (goes c g) e p q = that q
  visit-shown k a true stay t f stays e p q = tt
  visit-shown k a true stay t f (goes c g) e p q = that q
  visit-shown k a true (go c t') t f r e p q = this e p

  mutual
    unfolding step ShownIn

    step_follows : (k : ℕ) (t : Tree) → Shown k t (step form k t)
    step_follows k (node h u f) = or-shown k h u f (contract form k h u f) (steps form k (looks h f) f) refl (steps-follow k (looks h f) f)

    steps-follow : {n : ℕ} (k : ℕ) (a : Places) (f : Forest n) → ShownIn k a f (steps form k a f)
    steps-follow k a end = tt
    steps-follow k a (more t f) = visit-shown k a (a 0) (step form k t) t f (steps form k (λ i. a (suc i)) f) refl (step_follows k t) (steps-follow k (λ i. a (suc i)) f)

  pub step-free : (k : ℕ) (c : Option Call) (t u : Tree) → step form k t ≡ go c u → Follows k c t u
  unfolding Shown
  step-free k c t u e = rw e at (step_follows k t)
