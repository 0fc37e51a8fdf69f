-- What a row does that waits for something below it, and one that does not; that both go by heads alone. Assumes nothing.
use Prim.Native.Nat.{ℕ, zero, suc, ◌<◌}
use mathlib.Core.Path.{◌≡◌, refl, ap, sym, ◌∙◌}
use mathlib.Core.Bool.{Bool, true, false, cond, not, false≢true}
use mathlib.Core.List.{List, [], ◌∷◌, ◌++◌}
use Rattle.std.specs.Prelude.{None}
use native.Mathlib.Omega.{arith}
use lib.Dec.{eqb}
use borrow.Author.Tests.{eqb-true}
use lib.ListN.{length}
use Rattle.meaning.specs.Bytes.{◌∧ᵇ◌}
use Rattle.meaning.specs.Types.{Form, low, rest}
use Rattle.meaning.specs.Terms.{Head, lit, var, lambda, foreign, apply, future, ite, fix, nil, cons, isnil, zip, tuple, project, lproject, bind, arity, code, n_of, Tree, Forest, node, end, more, head_of, is, kids}
use Rattle.meaning.specs.Steps.{◌∨ᵇ◌, value, values, Out, stay, go, if_step, isnil_step, project_step, send_step, is_list, ready, lproject_step, zip_step, apply_step, contract, Places, nowhere, everywhere, first, unless, behind, unready, apply_looks, looks, Outs, stays, or_else, wrap, tail_goes, head_goes, visit, step, steps}
use Rattle.meaning.specs.Typing.{first_is}
use Rattle.meaning.proofs.Trees.Tests.{left, right}
use Rattle.meaning.proofs.Steps.Progress.{value_stays}
use Rattle.search.specs.Frames.{waits, zips, lists_below, zips_lists, Rests}

or-stay : (o : Out) → or_else o stay ≡ o
unfolding or_else
or-stay stay = refl
or-stay (go c t) = refl

pub not-true : (b : Bool) → not b ≡ true → b ≡ false
not-true true e = sym e
not-true false e = refl

not-false : (b : Bool) → not b ≡ false → b ≡ true
not-false true e = refl
not-false false e = sym e

-- where nothing is looked at, or all are values, nothing steps
unvisited : {n : ℕ} (b : Bool) (o : Out) (t : Tree) (f : Forest n) (r : Outs n) → (b ≡ true → o ≡ stay) → r ≡ stays → visit b o t f r ≡ stays
unfolding visit head_goes tail_goes
unvisited false o t f r p e = rw e refl
unvisited true o t f r p e = rw (p refl, e) refl

two-stay : (p q : Bool) (a b : Tree) → (p ∨ᵇ q) ≡ false → cond p (go None a) (cond q (go None b) stay) ≡ stay
unfolding ◌∨ᵇ◌
two-stay true q a b e = absurd (false≢true (sym e))
two-stay false true a b e = absurd (false≢true (sym e))
two-stay false false a b e = refl

unless-none : (b : Bool) (i : ℕ) → b ≡ true → unless b i ≡ false
unfolding unless nowhere
unless-none b i e = rw e refl

unready-none : {n : ℕ} (m : ℕ) (f : Forest n) (i : ℕ) → ready m f ≡ true → unready m f i ≡ false
unfolding unready ready ◌∧ᵇ◌
unready-none m end i e = refl
unready-none m (more t f) zero e = by_mask (low m) (is_list t) (left (cond (low m) (is_list t) true) (ready (rest m) f) e)
  where
    by_mask : (b l : Bool) → cond b l true ≡ true → (b ∧ᵇ not l) ≡ false
    by_mask false l e = refl
    by_mask true l e = rw e refl
unready-none m (more t f) (suc i) e = unready-none (rest m) f i (right (cond (low m) (is_list t) true) (ready (rest m) f) e)

behind-none : (a : Places) (i : ℕ) → ((j : ℕ) → a j ≡ false) → behind a i ≡ false
unfolding behind
behind-none a zero e = refl
behind-none a (suc i) e = e i

lambda-none : {n : ℕ} (c : Tree) (args : Forest n) (i : ℕ) → is 6 c ≡ true → apply_looks c args i ≡ false
unfolding apply_looks nowhere
lambda-none c args i e = rw e refl

-- a row that does not wait looks nowhere
looks-none : (h : Head) (f : Forest (arity h)) (i : ℕ) → waits h f ≡ false → looks h f i ≡ false
unfolding waits looks nowhere
looks-none (lit l) f i e = refl
looks-none (var x) f i e = refl
looks-none lambda f i e = refl
looks-none (foreign w) f i e = refl
looks-none (apply n) (more c args) i e = lambda-none c args i (not-false (is 6 c) e)
looks-none (future k) f i e = refl
looks-none ite (more c f) i e = unless-none _ i (not-false _ e)
looks-none fix f i e = refl
looks-none nil f i e = refl
looks-none cons f i e = absurd (false≢true (sym e))
looks-none isnil (more c f) i e = unless-none _ i (not-false _ e)
looks-none (zip m) f i e = refl
looks-none (tuple n) f i e = absurd (false≢true (sym e))
looks-none (project j) (more c f) i e = unless-none _ i (not-false _ e)
looks-none (lproject j) (more c f) i e = unless-none _ i (not-false _ e)
looks-none (bind x) f i e = refl

-- nor does a zip whose lists are there
zip-none : {n : ℕ} (c : Tree) (args : Forest n) (i : ℕ) → is 15 c ≡ true → ready (n_of (head_of c)) args ≡ true → apply_looks c args i ≡ false
unfolding apply_looks is
zip-none c args i e v =
    let k : code (head_of c) ≡ 15 = eqb-true (code (head_of c)) 15 e in
    rw k (behind-none (unready (n_of (head_of c)) args) i (λ j. unready-none (n_of (head_of c)) args j v))

zips-none : (h : Head) (f : Forest (arity h)) (i : ℕ) → zips_lists h f ≡ true → looks h f i ≡ false
unfolding zips_lists zips lists_below first_is looks nowhere code ◌∧ᵇ◌
zips-none (apply n) (more c args) i e = zip-none c args i (left (is 15 c) (ready (n_of (head_of c)) args) e) (right (is 15 c) (ready (n_of (head_of c)) args) e)
zips-none (lit l) f i e = refl
zips-none (var x) f i e = refl
zips-none lambda f i e = refl
zips-none (foreign w) f i e = refl
zips-none (future k) f i e = refl
zips-none ite f i e = absurd (false≢true e)
zips-none fix f i e = refl
zips-none nil f i e = refl
zips-none cons f i e = absurd (false≢true e)
zips-none isnil f i e = absurd (false≢true e)
zips-none (zip m) f i e = refl
zips-none (tuple n) f i e = absurd (false≢true e)
zips-none (project j) f i e = absurd (false≢true e)
zips-none (lproject j) f i e = absurd (false≢true e)
zips-none (bind x) f i e = refl

-- a row whose own rule is tried where it stands looks nowhere
rests-none : (h : Head) (f : Forest (arity h)) (i : ℕ) → Rests h f → looks h f i ≡ false
rests-none h f i r = by-wait (waits h f) refl
  where
    by-wait : (b : Bool) → waits h f ≡ b → looks h f i ≡ false
    by-wait true e = zips-none h f i (r e)
    by-wait false e = looks-none h f i e

module _ (form : ℕ → Form) (k : ℕ) where
  none-step : {n : ℕ} (a : Places) (f : Forest n) → ((i : ℕ) → a i ≡ false) → steps form k a f ≡ stays
  unfolding step
  none-step a end e = refl
  none-step a (more t f) e = unvisited (a 0) _ t f _ (λ q. absurd (false≢true (sym (e 0) ∙ q))) (none-step (λ i. a (suc i)) f (λ i. e (suc i)))

  values-stay : {n : ℕ} (a : Places) (f : Forest n) → values f ≡ true → steps form k a f ≡ stays
  unfolding step value
  values-stay a end e = refl
  values-stay a (more t f) e = unvisited (a 0) _ t f _ (λ q. value_stays form k t (left _ _ e)) (values-stay (λ i. a (suc i)) f (right _ _ e))

  -- THE TWO KINDS OF ROW. One whose own rule is tried where it stands does what that does
  pub resting-row : (h : Head) (u : ℕ) (f : Forest (arity h)) → Rests h f → step form k (node h u f) ≡ contract form k h u f
  unfolding step wrap
  resting-row h u f e = ap (λ (r : Outs (arity h)). or_else (contract form k h u f) (wrap h u r)) (none-step (looks h f) f (λ i. rests-none h f i e)) ∙ or-stay _

  ready-last : (v : Bool) (o r : Out) → (v ≡ true → r ≡ stay) → or_else (cond v o stay) r ≡ or_else r (cond v o stay)
  unfolding or_else
  ready-last true o r e = rw (e refl) (or-stay o)
  ready-last false o r e = sym (or-stay r)

  args-stay : {n : ℕ} (u : ℕ) (c : Tree) (args : Forest n) (a : Places) → values args ≡ true → wrap (apply n) u (steps form k (behind a) (more c args)) ≡ stay
  unfolding step wrap behind visit tail_goes
  args-stay u c args a v = rw (values-stay a args v) refl

  first-stays : (o r : Out) → o ≡ stay → or_else o r ≡ or_else r o
  unfolding or_else
  first-stays o r e = rw e (sym (or-stay r))

  -- a call whose arguments are values, a zip whose masked arguments are lists: nothing below steps
  call-last : {n : ℕ} (u : ℕ) (c : Tree) (args : Forest n) (r : Out) → (values args ≡ true → r ≡ stay) → or_else (send_step k u c args) r ≡ or_else r (send_step k u c args)
  unfolding send_step
  call-last u c args r e = ready-last (values args) _ r e

  zip-last : {n : ℕ} (u m : ℕ) (c : Tree) (args : Forest n) (r : Out) → (ready m args ≡ true → r ≡ stay) → or_else (zip_step form u m c args) r ≡ or_else r (zip_step form u m c args)
  unfolding zip_step
  zip-last u m c args r e = ready-last (ready m args) _ r e

  apply-last : {n : ℕ} (u : ℕ) (c : Tree) (args : Forest n) → is 6 c ≡ false
      → or_else (apply_step form k u c args) (wrap (apply n) u (steps form k (apply_looks c args) (more c args))) ≡ or_else (wrap (apply n) u (steps form k (apply_looks c args) (more c args))) (apply_step form k u c args)
  unfolding apply_step apply_looks wrap or_else
  apply-last {n} u c args e = rw e (by_kind (is 7 c) (is 15 c))
    where
      below : Places → Out
      below a = wrap (apply n) u (steps form k a (more c args))

      by_kind : (q z : Bool)
          → or_else (cond q (send_step k u c args) (cond z (zip_step form u (n_of (head_of c)) c args) stay)) (below (cond q (behind everywhere) (cond z (behind (unready (n_of (head_of c)) args)) first)))
          ≡ or_else (below (cond q (behind everywhere) (cond z (behind (unready (n_of (head_of c)) args)) first))) (cond q (send_step k u c args) (cond z (zip_step form u (n_of (head_of c)) c args) stay))
      by_kind true z = call-last u c args _ (args-stay u c args everywhere)
      by_kind false true = zip-last u (n_of (head_of c)) c args _ (λ v. ap (wrap (apply n) u) (none-step _ (more c args) (λ i. behind-none _ i (λ j. unready-none (n_of (head_of c)) args j v))))
      by_kind false false = sym (or-stay _)

  -- the rule of a row that waits stays, if it is no application
  pub waiting_stays : (h : Head) (u : ℕ) (f : Forest (arity h)) → waits h f ≡ true → eqb (code h) 8 ≡ false → contract form k h u f ≡ stay
  unfolding waits contract code if_step isnil_step project_step lproject_step is_list
  waiting_stays (lit l) u f e q = refl
  waiting_stays (var x) u f e q = refl
  waiting_stays lambda u f e q = refl
  waiting_stays (foreign w) u f e q = refl
  waiting_stays (apply n) u f e q = absurd (false≢true (sym q))
  waiting_stays (future j) u f e q = refl
  waiting_stays ite u (more c (more a (more b end))) e q = two-stay (is 3 c) (is 4 c) a b (not-true _ e)
  waiting_stays fix u f e q = absurd (false≢true e)
  waiting_stays nil u f e q = refl
  waiting_stays cons u f e q = refl
  waiting_stays isnil u (more c end) e q = two-stay (is 12 c) (is 13 c) _ _ (not-true _ e)
  waiting_stays (zip m) u f e q = refl
  waiting_stays (tuple n) u f e q = refl
  waiting_stays (project i) u (more c end) e q = rw (not-true (is 16 c) e) refl
  waiting_stays (lproject i) u (more c end) e q = two-stay (is 12 c) (is 13 c) _ _ (not-true _ e)
  waiting_stays (bind x) u f e q = absurd (false≢true e)

  -- one that waits does what the first place below it does that it looks at, and at last what its own rule does
  pub waiting-row : (h : Head) (u : ℕ) (f : Forest (arity h)) → waits h f ≡ true → step form k (node h u f) ≡ or_else (wrap h u (steps form k (looks h f) f)) (contract form k h u f)
  unfolding step waits contract looks if_step isnil_step project_step lproject_step is_list
  waiting-row (lit l) u f e = absurd (false≢true e)
  waiting-row (var x) u f e = absurd (false≢true e)
  waiting-row lambda u f e = absurd (false≢true e)
  waiting-row (foreign w) u f e = absurd (false≢true e)
  waiting-row (apply n) u (more c args) e = apply-last u c args (not-true (is 6 c) e)
  waiting-row (future j) u f e = absurd (false≢true e)
  waiting-row ite u (more c (more a (more b end))) e = first-stays _ _ (two-stay (is 3 c) (is 4 c) a b (not-true _ e))
  waiting-row fix u f e = absurd (false≢true e)
  waiting-row nil u f e = absurd (false≢true e)
  waiting-row cons u f e = first-stays stay _ refl
  waiting-row isnil u (more c end) e = first-stays _ _ (two-stay (is 12 c) (is 13 c) _ _ (not-true _ e))
  waiting-row (zip m) u f e = absurd (false≢true e)
  waiting-row (tuple n) u f e = first-stays stay _ refl
  waiting-row (project i) u (more c end) e = first-stays _ _ (rw (not-true (is 16 c) e) refl)
  waiting-row (lproject i) u (more c end) e = first-stays _ _ (two-stay (is 12 c) (is 13 c) _ _ (not-true _ e))
  waiting-row (bind x) u f e = absurd (false≢true e)

-- By heads alone -------------------------------------------------------------------------------------------------

unfoldable pub heads : {n : ℕ} → Forest n → List Head
heads end = []
heads (more t f) = head_of t ∷ heads f

list-heads : (t s : Tree) → head_of t ≡ head_of s → is_list t ≡ is_list s
unfolding is_list is
list-heads t s e = rw e refl

unready-heads : {n : ℕ} (m : ℕ) (f g : Forest n) → heads f ≡ heads g → (i : ℕ) → unready m f i ≡ unready m g i
unfolding unready heads
unready-heads m end end e i = refl
unready-heads m (more t f) (more s g) e zero = cc (list-heads t s (cc))
unready-heads m (more t f) (more s g) e (suc i) = unready-heads (rest m) f g (cc) i

behind-same : (a b : Places) → ((i : ℕ) → a i ≡ b i) → (i : ℕ) → behind a i ≡ behind b i
unfolding behind
behind-same a b e zero = refl
behind-same a b e (suc i) = e i

apply-same : {n : ℕ} (c : Tree) (f g : Forest n) (i : ℕ) → behind (unready (n_of (head_of c)) f) i ≡ behind (unready (n_of (head_of c)) g) i → apply_looks c f i ≡ apply_looks c g i
unfolding apply_looks
apply-same c f g i e = by_kind (is 6 c) (is 7 c) (is 15 c)
  where
    by_kind : (p q r : Bool) → cond p nowhere (cond q (behind everywhere) (cond r (behind (unready (n_of (head_of c)) f)) first)) i
        ≡ cond p nowhere (cond q (behind everywhere) (cond r (behind (unready (n_of (head_of c)) g)) first)) i
    by_kind true q r = refl
    by_kind false true r = refl
    by_kind false false true = e
    by_kind false false false = refl

apply-heads : {n : ℕ} (c d : Tree) (f : Forest n) (i : ℕ) → head_of c ≡ head_of d → apply_looks c f i ≡ apply_looks d f i
unfolding apply_looks is
apply-heads c d f i e = rw e refl

-- the head of the first tree, of which alone it hangs whether a row waits
unfoldable pub first_head : {n : ℕ} → Forest n → Head
first_head end = nil
first_head (more t f) = head_of t

pub waits-first : (h : Head) (f g : Forest (arity h)) → first_head f ≡ first_head g → waits h f ≡ waits h g
unfolding waits first_head is
waits-first (lit l) f g e = refl
waits-first (var x) f g e = refl
waits-first lambda f g e = refl
waits-first (foreign w) f g e = refl
waits-first (apply n) (more c f) (more d g) e = rw e refl
waits-first (future k) f g e = refl
waits-first ite (more c f) (more d g) e = rw e refl
waits-first fix f g e = refl
waits-first nil f g e = refl
waits-first cons f g e = refl
waits-first isnil (more c f) (more d g) e = ap not (list-heads c d e)
waits-first (zip m) f g e = refl
waits-first (tuple n) f g e = refl
waits-first (project i) (more c f) (more d g) e = rw e refl
waits-first (lproject i) (more c f) (more d g) e = ap not (list-heads c d e)
waits-first (bind x) f g e = refl

pub zips-first : (h : Head) (f g : Forest (arity h)) → first_head f ≡ first_head g → zips h f ≡ zips h g
unfolding zips first_is first_head is
zips-first h f g e = ap (λ (b : Bool). eqb (code h) 8 ∧ᵇ b) (same f g e)
  where
    same : {n : ℕ} (f g : Forest n) → first_head f ≡ first_head g → first_is 15 f ≡ first_is 15 g
    same end end e = refl
    same (more t f) (more s g) e = rw e refl

pub looks-heads : (h : Head) (f g : Forest (arity h)) → heads f ≡ heads g → (i : ℕ) → looks h f i ≡ looks h g i
unfolding looks heads is
looks-heads (lit l) f g e i = refl
looks-heads (var x) f g e i = refl
looks-heads lambda f g e i = refl
looks-heads (foreign w) f g e i = refl
looks-heads (apply n) (more c f) (more d g) e i = apply-heads c d f i (cc) ∙ apply-same d f g i (behind-same _ _ (unready-heads (n_of (head_of d)) f g (cc)) i)
looks-heads (future k) f g e i = refl
looks-heads ite (more c f) (more d g) e i = let q : head_of c ≡ head_of d = cc in rw q refl
looks-heads fix f g e i = refl
looks-heads nil f g e i = refl
looks-heads cons f g e i = refl
looks-heads isnil (more c f) (more d g) e i = ap (λ (b : Bool). unless b i) (list-heads c d (cc))
looks-heads (zip m) f g e i = refl
looks-heads (tuple n) f g e i = refl
looks-heads (project j) (more c f) (more d g) e i = let q : head_of c ≡ head_of d = cc in rw q refl
looks-heads (lproject j) (more c f) (more d g) e i = ap (λ (b : Bool). unless b i) (list-heads c d (cc))
looks-heads (bind x) f g e i = refl

-- Trees before the one at the search -----------------------------------------------------------------------------

pub heads-kids : (n : ℕ) (B : List Tree) (t s : Tree) (ts : List Tree) → head_of t ≡ head_of s → heads (kids n (B ++ (t ∷ ts))) ≡ heads (kids n (B ++ (s ∷ ts)))
unfolding heads kids
heads-kids zero B t s ts e = refl
heads-kids (suc n) [] t s ts e = rw e refl
heads-kids (suc n) (b ∷ B) t s ts e = ap (λ (l : List Head). head_of b ∷ l) (heads-kids n B t s ts e)

pub first-kids : (n : ℕ) (B : List Tree) (t s : Tree) (ts : List Tree) → head_of t ≡ head_of s → first_head (kids n (B ++ (t ∷ ts))) ≡ first_head (kids n (B ++ (s ∷ ts)))
unfolding first_head kids
first-kids zero B t s ts e = refl
first-kids (suc n) [] t s ts e = e
first-kids (suc n) (b ∷ B) t s ts e = refl

pub first-before : (n : ℕ) (b : Tree) (B : List Tree) (t s : Tree) (ts : List Tree) → first_head (kids n (b ∷ (B ++ (t ∷ ts)))) ≡ first_head (kids n (b ∷ (B ++ (s ∷ ts))))
unfolding first_head kids
first-before zero b B t s ts = refl
first-before (suc n) b B t s ts = refl

unready-before : (n m : ℕ) (B : List Tree) (t s : Tree) (ts : List Tree) (i : ℕ) → i < length B → unready m (kids n (B ++ (t ∷ ts))) i ≡ unready m (kids n (B ++ (s ∷ ts))) i
unfolding unready kids
unready-before n m [] t s ts i h = absurd (omega arith)
unready-before zero m (b ∷ B) t s ts i h = refl
unready-before (suc n) m (b ∷ B) t s ts zero h = refl
unready-before (suc n) m (b ∷ B) t s ts (suc i) h = unready-before n (rest m) B t s ts i (omega arith)

behind-before : (n m : ℕ) (B : List Tree) (t s : Tree) (ts : List Tree) (i : ℕ) → i < suc (length B) → behind (unready m (kids n (B ++ (t ∷ ts)))) i ≡ behind (unready m (kids n (B ++ (s ∷ ts)))) i
unfolding behind
behind-before n m B t s ts zero h = refl
behind-before n m B t s ts (suc i) h = unready-before n m B t s ts i (omega arith)

-- which of them are looked at does not hang on the tree at the search
pub looks-before : (h : Head) (B : List Tree) (t s : Tree) (ts : List Tree) (i : ℕ) → i < length B → looks h (kids (arity h) (B ++ (t ∷ ts))) i ≡ looks h (kids (arity h) (B ++ (s ∷ ts))) i
unfolding looks kids
looks-before h [] t s ts i q = absurd (omega arith)
looks-before (lit l) (b ∷ B) t s ts i q = refl
looks-before (var x) (b ∷ B) t s ts i q = refl
looks-before lambda (b ∷ B) t s ts i q = refl
looks-before (foreign w) (b ∷ B) t s ts i q = refl
looks-before (apply n) (b ∷ B) t s ts i q = apply-same b (kids n (B ++ (t ∷ ts))) (kids n (B ++ (s ∷ ts))) i (behind-before n (n_of (head_of b)) B t s ts i q)
looks-before (future k) (b ∷ B) t s ts i q = refl
looks-before ite (b ∷ B) t s ts i q = refl
looks-before fix (b ∷ B) t s ts i q = refl
looks-before nil (b ∷ B) t s ts i q = refl
looks-before cons (b ∷ B) t s ts i q = refl
looks-before isnil (b ∷ B) t s ts i q = refl
looks-before (zip m) (b ∷ B) t s ts i q = refl
looks-before (tuple n) (b ∷ B) t s ts i q = refl
looks-before (project j) (b ∷ B) t s ts i q = refl
looks-before (lproject j) (b ∷ B) t s ts i q = refl
looks-before (bind x) (b ∷ B) t s ts i q = refl
