-- What is said in prose of steps, binders and replies, each sentence as it holds for every term.
use Prim.Native.Nat.{ℕ}
use mathlib.Core.Path.{◌≡◌, refl, ap, sym, ◌∙◌}
use mathlib.Core.Bool.{Bool, true, false, cond, false≢true}
use mathlib.Core.List.{List, [], ◌∷◌, ◌++◌, append_assoc, append-nil}
use mathlib.Core.Logic.{◌↔◌}
use Rattle.std.specs.Prelude.{Option, None, Some}
use borrow.Author.Tests.{eqb-true}
use lib.Dec.{eqb}
use Rattle.meaning.specs.Bytes.{◌∧ᵇ◌}
use Rattle.meaning.specs.Types.{ntv, Param, Form, f_fun, params, elem_of, member, Ctx, find, pick, ◌⹁◌}
use Rattle.meaning.specs.Terms.{str, file, truth, Head, lit, var, lambda, foreign, apply, future, ite, fix, nil, cons, isnil, zip, tuple, project, lproject, bind, arity, code, n_of, word_of, Tree, Forest, node, end, more, head_of, ty_of, is, Row, flat, flats}
use Rattle.meaning.specs.Typing.{tys, below_ok, Rule, scope, Typed}
use Rattle.meaning.specs.Steps.{◌∨ᵇ◌, Sub, veil, hide, swap, assign, put, due, settle, settles, values, Call, Out, stay, go, child, kid, become, if_step, isnil_step, project_step, send_step, is_list, ready, any_nil, lproject_step, tie, fix_step, zip_cons, zip_step, apply_step, let_step, contract, nowhere, everywhere, first, unless, behind, unready, apply_looks, looks, stays, goes, or_else, wrap, tail_goes, head_goes, visit, step, steps}
use Rattle.meaning.proofs.Trees.Tests.{left}

-- a kind is one kind
not-kind : (i j : ℕ) (t : Tree) → is j t ≡ true → eqb j i ≡ false → is i t ≡ false
unfolding is
not-kind i j t e q = rw (eqb-true (code (head_of t)) j e) q

-- Steps ------------------------------------------------------------------------------------------------------------

module _ (form : ℕ → Form) where
  -- "outer before inner": a row that reduces does so before anything below it
  pub at_once : (k : ℕ) (h : Head) (u : ℕ) (f : Forest (arity h)) (c : Option Call) (t : Tree) → contract form k h u f ≡ go c t → step form k (node h u f) ≡ go c t
  unfolding step or_else
  at_once k h u f c t e = rw e refl

  -- "put the arguments or bound term, unevaluated, for the free names at once"
  pub let-at-once : (k x u : ℕ) (a b : Tree) → step form k (node (bind x) u (more a (more b end))) ≡ go None (put form (assign (record { name = x; type = ty_of a } ∷ []) (more a end)) b)
  unfolding contract let_step
  let-at-once k x u a b = at_once k (bind x) u (more a (more b end)) None _ refl

  pub native-at-once : {n : ℕ} (k u : ℕ) (c : Tree) (args : Forest n) → is 6 c ≡ true
      → step form k (node (apply n) u (more c args)) ≡ go None (put form (assign (params (form (ty_of c))) args) (kid 1 c))
  unfolding contract apply_step
  native-at-once {n} k u c args e = at_once k (apply n) u (more c args) None _ (rw e refl)

  -- "Apply of a foreign function: .. else the first argument that can step does"
  pub foreign-waits : {n : ℕ} (k u : ℕ) (c : Tree) (args : Forest n) → is 7 c ≡ true → values args ≡ false
      → step form k (node (apply n) u (more c args)) ≡ wrap (apply n) u (tail_goes c (steps form k everywhere args))
  unfolding step contract apply_step send_step or_else looks apply_looks behind visit
  foreign-waits {n} k u c args e v = rw (not-kind 6 7 c e refl, e, v) refl

  -- "all arguments values, then the whole becomes a future with the next number and a call is sent"
  pub foreign-sends : {n : ℕ} (k u : ℕ) (c : Tree) (args : Forest n) → is 7 c ≡ true → values args ≡ true
      → step form k (node (apply n) u (more c args)) ≡ go (Some (record { tool = word_of (head_of c); rows = flats args; result = u })) (node (future k) u end)
  unfolding contract apply_step send_step
  foreign-sends {n} k u c args e v = at_once k (apply n) u (more c args) _ _ (rw (not-kind 6 7 c e refl, e, v) refl)

  -- "Apply of a zip: the first masked argument that is neither nil nor cons and can step does", also where another is nil
  pub zip-waits : {n : ℕ} (k u : ℕ) (c : Tree) (args : Forest n) → is 15 c ≡ true → ready (n_of (head_of c)) args ≡ false
      → step form k (node (apply n) u (more c args)) ≡ wrap (apply n) u (tail_goes c (steps form k (unready (n_of (head_of c)) args) args))
  unfolding step contract apply_step zip_step or_else looks apply_looks behind visit
  zip-waits {n} k u c args e r = rw (not-kind 6 15 c e refl, not-kind 7 15 c e refl, e, r) refl

  -- "When all are nil or cons: any nil gives nil; otherwise a cons of the inner function on the heads and the same zip on the tails"
  pub zip-nil : {n : ℕ} (k u : ℕ) (c : Tree) (args : Forest n) → is 15 c ≡ true → ready (n_of (head_of c)) args ≡ true → any_nil (n_of (head_of c)) args ≡ true
      → step form k (node (apply n) u (more c args)) ≡ go None (node nil u end)
  unfolding contract apply_step zip_step
  zip-nil {n} k u c args e r v = at_once k (apply n) u (more c args) None _ (rw (not-kind 6 15 c e refl, not-kind 7 15 c e refl, e, r, v) refl)

  pub zip-cons : {n : ℕ} (k u : ℕ) (c : Tree) (args : Forest n) → is 15 c ≡ true → ready (n_of (head_of c)) args ≡ true → any_nil (n_of (head_of c)) args ≡ false
      → step form k (node (apply n) u (more c args)) ≡ go None (zip_cons form u (n_of (head_of c)) c args)
  unfolding contract apply_step zip_step
  zip-cons {n} k u c args e r v = at_once k (apply n) u (more c args) None _ (rw (not-kind 6 15 c e refl, not-kind 7 15 c e refl, e, r, v) refl)

  -- "when the child is true or false, nil or cons, a tuple, nil or cons, they reduce at once, elements unevaluated"
  pub if-true : (k u : ℕ) (c a b : Tree) → is 3 c ≡ true → step form k (node ite u (more c (more a (more b end)))) ≡ go None a
  unfolding contract if_step
  if-true k u c a b e = at_once k ite u (more c (more a (more b end))) None a (rw e refl)

  pub if-false : (k u : ℕ) (c a b : Tree) → is 4 c ≡ true → step form k (node ite u (more c (more a (more b end)))) ≡ go None b
  unfolding contract if_step
  if-false k u c a b e = at_once k ite u (more c (more a (more b end))) None b (rw (not-kind 3 4 c e refl, e) refl)

  pub isnil-nil : (k u : ℕ) (c : Tree) → is 12 c ≡ true → step form k (node isnil u (more c end)) ≡ go None (node (lit (truth true)) u end)
  unfolding contract isnil_step
  isnil-nil k u c e = at_once k isnil u (more c end) None _ (rw e refl)

  pub isnil-cons : (k u : ℕ) (c : Tree) → is 13 c ≡ true → step form k (node isnil u (more c end)) ≡ go None (node (lit (truth false)) u end)
  unfolding contract isnil_step
  isnil-cons k u c e = at_once k isnil u (more c end) None _ (rw (not-kind 12 13 c e refl, e) refl)

  pub project-tuple : (k u i : ℕ) (c t : Tree) → is 16 c ≡ true → child i c ≡ Some t → step form k (node (project i) u (more c end)) ≡ go None t
  unfolding contract project_step become
  project-tuple k u i c t e q = at_once k (project i) u (more c end) None t (rw (e, q) refl)

  pub lproject-nil : (k u i : ℕ) (c : Tree) → is 12 c ≡ true → step form k (node (lproject i) u (more c end)) ≡ go None (node nil u end)
  unfolding contract lproject_step
  lproject-nil k u i c e = at_once k (lproject i) u (more c end) None _ (rw e refl)

  -- "List project of a cons gives a cons of the projected head and the list-projected tail"
  pub lproject-cons : (k u i : ℕ) (c : Tree) → is 13 c ≡ true
      → step form k (node (lproject i) u (more c end))
      ≡ go None (node cons u (more (node (project i) (elem_of (form u)) (more (kid 1 c) end)) (more (node (lproject i) u (more (kid 2 c) end)) end)))
  unfolding contract lproject_step
  lproject-cons k u i c e = at_once k (lproject i) u (more c end) None _ (rw (not-kind 12 13 c e refl, e) refl)

  -- "Fix of a function: the function of the remaining arguments, the first name replaced in its body by the fix term"
  pub fix-at-once : (k u : ℕ) (c : Tree) (p : Param) (ps : List Param) → is 6 c ≡ true → params (form (ty_of c)) ≡ p ∷ ps
      → step form k (node fix u (more c end)) ≡ go None (node lambda u (more (put form (assign (p ∷ []) (more (node fix u (more c end)) end)) (kid 1 c)) end))
  unfolding contract fix_step tie
  fix-at-once k u c p ps e q = at_once k fix u (more c end) None _ (rw (e, q) refl)

  -- a child's step, in its place
  abbrev pub in_place : Out → (Tree → Tree) → Out
  in_place stay around = stay
  in_place (go c t) around = go c (around t)

  only-first : {n : ℕ} (k : ℕ) (f : Forest n) → steps form k nowhere f ≡ stays
  unfolding steps nowhere visit tail_goes
  only-first k end = refl
  only-first k (more t f) = rw (only-first k f) refl

  -- "Otherwise the child steps"
  pub if-waits : (k u : ℕ) (c a b : Tree) → is 3 c ≡ false → is 4 c ≡ false
      → step form k (node ite u (more c (more a (more b end)))) ≡ in_place (step form k c) (λ x. node ite u (more x (more a (more b end))))
  unfolding step contract if_step or_else looks unless first visit head_goes tail_goes wrap ◌∨ᵇ◌
  if-waits k u c a b e q = rw (e, q) (by-child (step form k c))
    where
      by-child : (o : Out) → wrap ite u (head_goes o c (more a (more b end)) stays) ≡ in_place o (λ x. node ite u (more x (more a (more b end))))
      by-child stay = refl
      by-child (go d t) = refl

  pub isnil-waits : (k u : ℕ) (c : Tree) → is_list c ≡ false → step form k (node isnil u (more c end)) ≡ in_place (step form k c) (λ x. node isnil u (more x end))
  unfolding step contract isnil_step is_list or_else looks unless first visit head_goes tail_goes wrap ◌∨ᵇ◌
  isnil-waits k u c e = by_kind (is 12 c) (is 13 c) e (step form k c)
    where
      by_kind : (p q : Bool) → p ∨ᵇ q ≡ false → (o : Out)
          → or_else (cond p (go None (node (lit (truth true)) u end)) (cond q (go None (node (lit (truth false)) u end)) stay)) (wrap isnil u (visit (unless (p ∨ᵇ q) 0) o c end stays))
          ≡ in_place o (λ x. node isnil u (more x end))
      by_kind true q e o = absurd (false≢true (sym e))
      by_kind false true e o = absurd (false≢true (sym e))
      by_kind false false e stay = refl
      by_kind false false e (go d t) = refl

  pub project-waits : (k u i : ℕ) (c : Tree) → is 16 c ≡ false → step form k (node (project i) u (more c end)) ≡ in_place (step form k c) (λ x. node (project i) u (more x end))
  unfolding step contract project_step or_else looks unless first visit head_goes tail_goes wrap
  project-waits k u i c e = rw e (by-child (step form k c))
    where
      by-child : (o : Out) → wrap (project i) u (head_goes o c end stays) ≡ in_place o (λ x. node (project i) u (more x end))
      by-child stay = refl
      by-child (go d t) = refl

  pub lproject-waits : (k u i : ℕ) (c : Tree) → is 12 c ≡ false → is 13 c ≡ false
      → step form k (node (lproject i) u (more c end)) ≡ in_place (step form k c) (λ x. node (lproject i) u (more x end))
  unfolding step contract lproject_step is_list or_else looks unless first visit head_goes tail_goes wrap ◌∨ᵇ◌
  lproject-waits k u i c e q = rw (e, q) (by-child (step form k c))
    where
      by-child : (o : Out) → wrap (lproject i) u (head_goes o c end stays) ≡ in_place o (λ x. node (lproject i) u (more x end))
      by-child stay = refl
      by-child (go d t) = refl

  -- "Apply of anything else: its function steps"
  pub apply-waits : {n : ℕ} (k u : ℕ) (c : Tree) (args : Forest n) → is 6 c ≡ false → is 7 c ≡ false → is 15 c ≡ false
      → step form k (node (apply n) u (more c args)) ≡ in_place (step form k c) (λ x. node (apply n) u (more x args))
  unfolding step contract apply_step or_else looks apply_looks first nowhere visit head_goes tail_goes wrap
  apply-waits {n} k u c args e q r = rw (e, q, r, only-first k args) (by-child (step form k c))
    where
      by-child : (o : Out) → wrap (apply n) u (head_goes o c args stays) ≡ in_place o (λ x. node (apply n) u (more x args))
      by-child stay = refl
      by-child (go d t) = refl

  -- "Cons and tuple: the first child that can step"
  pub cons-steps : (k u : ℕ) (f : Forest 2) → step form k (node cons u f) ≡ wrap cons u (steps form k everywhere f)
  unfolding step contract or_else looks
  cons-steps k u f = refl

  pub tuple-steps : {n : ℕ} (k u : ℕ) (f : Forest n) → step form k (node (tuple n) u f) ≡ wrap (tuple n) u (steps form k everywhere f)
  unfolding step contract or_else looks
  tuple-steps k u f = refl

  pub first-steps : {n : ℕ} (k : ℕ) (c : Option Call) (t t' : Tree) (f : Forest n) → step form k t ≡ go c t' → steps form k everywhere (more t f) ≡ goes c (more t' f)
  unfolding steps everywhere visit head_goes
  first-steps k c t t' f e = rw e refl

  pub next-steps : {n : ℕ} (k : ℕ) (t : Tree) (f : Forest n) → step form k t ≡ stay → steps form k everywhere (more t f) ≡ tail_goes t (steps form k everywhere f)
  unfolding steps everywhere visit head_goes
  next-steps k t f e = rw e refl

  -- "Nothing else steps"
  pub nothing-else : (k : ℕ) (h : Head) (u : ℕ) (f : Forest (arity h)) → member (code h) (1 ∷ 2 ∷ 3 ∷ 4 ∷ 5 ∷ 6 ∷ 7 ∷ 9 ∷ 12 ∷ 15 ∷ []) ≡ true → step form k (node h u f) ≡ stay
  unfolding step contract or_else looks wrap nowhere visit tail_goes code member
  nothing-else k (lit l) u end e = refl
  nothing-else k (var x) u end e = refl
  nothing-else k lambda u (more b end) e = refl
  nothing-else k (foreign w) u end e = refl
  nothing-else k (apply n) u f e = absurd (false≢true e)
  nothing-else k (future j) u end e = refl
  nothing-else k ite u f e = absurd (false≢true e)
  nothing-else k fix u f e = absurd (false≢true e)
  nothing-else k nil u end e = refl
  nothing-else k cons u f e = absurd (false≢true e)
  nothing-else k isnil u f e = absurd (false≢true e)
  nothing-else k (zip m) u (more b end) e = refl
  nothing-else k (tuple n) u f e = absurd (false≢true e)
  nothing-else k (project i) u f e = absurd (false≢true e)
  nothing-else k (lproject i) u f e = absurd (false≢true e)
  nothing-else k (bind x) u f e = absurd (false≢true e)

-- Names ------------------------------------------------------------------------------------------------------------

-- "A hidden name stays"; what is not hidden is put
pub hidden-stays : (ps : List Param) (σ : Sub) (x t : ℕ) → find ps x ≡ Some t → hide ps σ x ≡ None
unfolding hide veil
hidden-stays ps σ x t e = rw e refl

pub seen-put : (ps : List Param) (σ : Sub) (x : ℕ) → find ps x ≡ None → hide ps σ x ≡ σ x
unfolding hide veil
seen-put ps σ x e = rw e refl

-- "The innermost binder wins"
pub innermost-wins : (Γ : Ctx) (ps : List Param) (x t : ℕ) → find ps x ≡ Some t → (Γ ⹁ ps) x ≡ Some t
unfolding ◌⹁◌ pick
innermost-wins Γ ps x t e = rw e refl

pub others-mean : (Γ : Ctx) (ps : List Param) (x : ℕ) → find ps x ≡ None → (Γ ⹁ ps) x ≡ Γ x
unfolding ◌⹁◌ pick
others-mean Γ ps x e = rw e refl

module _ (form : ℕ → Form) (Γ : Ctx) where
  -- "let binds its name, with the bound term's type, in its body only"
  pub let-binds : (x ty : ℕ) (a b : Tree)
      → Typed form Γ (node (bind x) ty (more a (more b end))) ↔ ((ty_of b ≡ ty) × Typed form Γ a × Typed form (Γ ⹁ (record { name = x; type = ty_of a } ∷ [])) b)
  unfolding Typed Rule scope tys below_ok code ◌⹁◌ pick find
  let-binds x ty a b = ((λ d. (d.0, d.2.0, d.2.1.0)), (λ d. (d.0, refl, (d.1, (d.2, tt)))))

  -- "A native function binds its type's names in its body"
  pub function-binds : (ty : ℕ) (ps : List Param) (b : Tree) → form ty ≡ f_fun ntv ps (ty_of b) → Typed form Γ (node lambda ty (more b end)) ↔ Typed form (Γ ⹁ ps) b
  unfolding Typed Rule scope tys params below_ok code
  function-binds ty ps b e = ((λ d. rw e at d.2.0), (λ d. ((ps, e), refl, (rw e d, tt))))

-- Replies ----------------------------------------------------------------------------------------------------------

-- "replaces every future of its number by its rows": each row of kind 9 with that number, and no other
unfoldable pub settled_rows : ℕ → List Row → List Row → List Row
settled_rows k vs [] = []
settled_rows k vs (r ∷ l) = cond (eqb (code r.head) 9 ∧ᵇ eqb (word_of r.head) k) (vs ++ settled_rows k vs l) (r ∷ settled_rows k vs l)

settled-append : (k : ℕ) (vs a b : List Row) → settled_rows k vs (a ++ b) ≡ settled_rows k vs a ++ settled_rows k vs b
unfolding settled_rows
settled-append k vs [] b = refl
settled-append k vs (r ∷ a) b = by_row (eqb (code r.head) 9 ∧ᵇ eqb (word_of r.head) k) (settled-append k vs a b)
  where
    by_row : (t : Bool) → settled_rows k vs (a ++ b) ≡ settled_rows k vs a ++ settled_rows k vs b
        → cond t (vs ++ settled_rows k vs (a ++ b)) (r ∷ settled_rows k vs (a ++ b)) ≡ cond t (vs ++ settled_rows k vs a) (r ∷ settled_rows k vs a) ++ settled_rows k vs b
    by_row true e = ap (λ (l : List Row). vs ++ l) e ∙ sym (append_assoc vs (settled_rows k vs a) (settled_rows k vs b))
    by_row false e = ap (λ (l : List Row). r ∷ l) e

-- a row of kind 9 has no children
future-bare : (h : Head) (f : Forest (arity h)) → eqb (code h) 9 ≡ true → flats f ≡ []
unfolding code flats
future-bare (lit (str w)) f e = absurd (false≢true e)
future-bare (lit (file w)) f e = absurd (false≢true e)
future-bare (lit (truth true)) f e = absurd (false≢true e)
future-bare (lit (truth false)) f e = absurd (false≢true e)
future-bare (var x) f e = absurd (false≢true e)
future-bare lambda f e = absurd (false≢true e)
future-bare (foreign w) f e = absurd (false≢true e)
future-bare (apply n) f e = absurd (false≢true e)
future-bare (future k) end e = refl
future-bare ite f e = absurd (false≢true e)
future-bare fix f e = absurd (false≢true e)
future-bare nil f e = absurd (false≢true e)
future-bare cons f e = absurd (false≢true e)
future-bare isnil f e = absurd (false≢true e)
future-bare (zip m) f e = absurd (false≢true e)
future-bare (tuple n) f e = absurd (false≢true e)
future-bare (project i) f e = absurd (false≢true e)
future-bare (lproject i) f e = absurd (false≢true e)
future-bare (bind x) f e = absurd (false≢true e)

settle-row : (k : ℕ) (v : Tree) (h : Head) (u : ℕ) (f g : Forest (arity h)) (t : Bool) → (eqb (code h) 9 ∧ᵇ eqb (word_of h) k) ≡ t → flats g ≡ settled_rows k (flat v) (flats f)
    → flat (swap (cond t (Some v) None) (node h u g)) ≡ cond t (flat v ++ settled_rows k (flat v) (flats f)) (record { head = h; type = u } ∷ settled_rows k (flat v) (flats f))
unfolding swap flat settled_rows
settle-row k v h u f g true e q = rw (future-bare h f (left _ _ e)) (sym (append-nil (flat v)))
settle-row k v h u f g false e q = ap (λ (l : List Row). record { head = h; type = u } ∷ l) q

mutual
  unfolding settle flat settled_rows due

  pub settle-flat : (k : ℕ) (v t : Tree) → flat (settle k v t) ≡ settled_rows k (flat v) (flat t)
  settle-flat k v (node h u f) = settle-row k v h u f (settles k v f) (eqb (code h) 9 ∧ᵇ eqb (word_of h) k) refl (settles-flat k v f)

  pub settles-flat : {n : ℕ} (k : ℕ) (v : Tree) (f : Forest n) → flats (settles k v f) ≡ settled_rows k (flat v) (flats f)
  settles-flat k v end = refl
  settles-flat k v (more t f) = rw (settle-flat k v t, settles-flat k v f) (sym (settled-append k (flat v) (flat t) (flats f)))
