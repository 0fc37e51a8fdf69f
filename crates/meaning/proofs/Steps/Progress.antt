-- A closed typed tree is a value, or steps, or waits for a future where the rules look; a value never steps. Assumes nothing.
use Prim.Native.Nat.{ℕ, zero, suc}
use mathlib.Core.Path.{◌≡◌, refl, ap, sym, ◌∙◌}
use mathlib.Core.Bool.{Bool, true, false, cond, not, false≢true}
use mathlib.Core.List.{List, [], ◌∷◌, cons≢nil}
use Rattle.std.specs.Prelude.{Option, None, Some}
use lib.Dec.{eqb}
use Rattle.meaning.specs.Bytes.{◌∧ᵇ◌}
use Rattle.meaning.specs.Types.{Str, File, Truth, Side, ntv, frn, Param, Form, absent, base, f_list, f_tuple, f_fun, params, types, find, member, empty, pick, ◌⹁◌, place, low, rest}
use Rattle.meaning.specs.Terms.{str, file, truth, Head, lit, var, lambda, foreign, apply, future, ite, fix, nil, cons, isnil, zip, tuple, project, lproject, bind, arity, code, n_of, word_of, head_from, Tree, Forest, node, end, more, head_of, ty_of, is}
use Rattle.meaning.specs.Typing.{list, tys, lit_base, first_is, below_ok, Masked, Zipped, Rule, scope, Typed, TypedF}
use Rattle.meaning.specs.Steps.{◌∨ᵇ◌, assign, put, value, values, Call, Out, stay, go, nth, kid, become, if_step, isnil_step, project_step, is_list, ready, any_nil, lproject_step, tie, fix_step, send_step, zip_cons, zip_step, apply_step, let_step, contract, Places, nowhere, everywhere, first, unless, behind, unready, apply_looks, looks, Outs, stays, goes, or_else, wrap, tail_goes, head_goes, visit, step, steps, Awaited, earlier, awaited, awaited_in}
use Rattle.meaning.proofs.Trees.Tests.{both, left, right, or_l, or_r, none-some}
use Rattle.meaning.proofs.Trees.EachRow.{Every, Everys, Due, Listed}
use Rattle.meaning.proofs.Trees.ByKind.{head-is}
use Rattle.meaning.proofs.Steps.FreeOrder.{looks-bare}
use Rattle.meaning.proofs.Steps.Preservation.{bare, zip-parts, tuple-parts}

-- Values -----------------------------------------------------------------------------------------------------------

-- the kinds that the values of a type have
unfoldable pub kinds_of : Form → List ℕ
kinds_of absent = []
kinds_of (base Str) = 1 ∷ []
kinds_of (base File) = 2 ∷ []
kinds_of (base Truth) = 3 ∷ 4 ∷ []
kinds_of (f_list e) = 12 ∷ 13 ∷ []
kinds_of (f_tuple ts) = 16 ∷ []
kinds_of (f_fun ntv ps r) = 6 ∷ 15 ∷ []
kinds_of (f_fun frn ps r) = 7 ∷ 15 ∷ []

zip-kind : (s : Side) (ps : List Param) (r : ℕ) → member 15 (kinds_of (f_fun s ps r)) ≡ true
unfolding kinds_of member
zip-kind ntv ps r = refl
zip-kind frn ps r = refl

among_two : (p q : Bool) → cond p true (cond q true false) ≡ true → (p ∨ᵇ q) ≡ true
unfolding ◌∨ᵇ◌
among_two true q e = refl
among_two false true e = refl
among_two false false e = e

one_of : (x a : ℕ) → member x (a ∷ []) ≡ true → eqb x a ≡ true
unfolding member
one_of x a e = by-test (eqb x a) e
  where
    by-test : (p : Bool) → cond p true false ≡ true → p ≡ true
    by-test true e = refl
    by-test false e = e

one_of_two : (x a b : ℕ) → member x (a ∷ b ∷ []) ≡ true → (eqb x a ∨ᵇ eqb x b) ≡ true
unfolding member
one_of_two x a b e = among_two (eqb x a) (eqb x b) e

one-of-fun : (x : ℕ) (s : Side) (ps : List Param) (r : ℕ) → member x (kinds_of (f_fun s ps r)) ≡ true → (eqb x 6 ∨ᵇ (eqb x 7 ∨ᵇ eqb x 15)) ≡ true
unfolding kinds_of ◌∨ᵇ◌
one-of-fun x ntv ps r e = by-test (eqb x 6) (one_of_two x 6 15 e)
  where
    by-test : (p : Bool) → (p ∨ᵇ eqb x 15) ≡ true → (p ∨ᵇ (eqb x 7 ∨ᵇ eqb x 15)) ≡ true
    by-test true e = refl
    by-test false e = or_r (eqb x 7) (eqb x 15) e
one-of-fun x frn ps r e = or_r (eqb x 6) _ (one_of_two x 7 15 e)

-- Outcomes ---------------------------------------------------------------------------------------------------------

unfoldable moved : Out → Bool
moved stay = false
moved (go c t) = true

unfoldable moved_f : {n : ℕ} → Outs n → Bool
moved_f stays = false
moved_f (goes c f) = true

unfoldable found : Option Awaited → Bool
found None = false
found (Some e) = true

moved-is : (o : Out) → moved o ≡ true → (c : Option Call) × (u : Tree) × (o ≡ go c u)
unfolding moved
moved-is stay e = absurd (false≢true e)
moved-is (go c u) e = (c, u, refl)

found-is : (o : Option Awaited) → found o ≡ true → (e : Awaited) × (o ≡ Some e)
unfolding found
found-is None e = absurd (false≢true e)
found-is (Some x) e = (x, refl)

found-or : (a b : Option Awaited) → found (earlier a b) ≡ (found a ∨ᵇ found b)
unfolding found earlier ◌∨ᵇ◌
found-or None b = refl
found-or (Some e) b = refl

found-cond : (b : Bool) (o : Option Awaited) → found (cond b o None) ≡ (b ∧ᵇ found o)
unfolding found ◌∧ᵇ◌
found-cond true o = refl
found-cond false o = refl

found_first : (b : Bool) (e : Awaited) (o : Option Awaited) → found (cond b (Some e) o) ≡ (b ∨ᵇ found o)
unfolding found ◌∨ᵇ◌
found_first true e o = refl
found_first false e o = refl

or-moved-l : (a b : Out) → moved a ≡ true → moved (or_else a b) ≡ true
unfolding moved or_else
or-moved-l stay b e = cc
or-moved-l (go c t) b e = refl

or-moved-r : (a b : Out) → moved b ≡ true → moved (or_else a b) ≡ true
unfolding moved or_else
or-moved-r stay b e = e
or-moved-r (go c t) b e = refl

wrap-moved : (h : Head) (u : ℕ) (o : Outs (arity h)) → moved_f o ≡ true → moved (wrap h u o) ≡ true
unfolding moved moved_f wrap
wrap-moved h u stays e = cc
wrap-moved h u (goes c f) e = refl

tail-moved : {n : ℕ} (t : Tree) (r : Outs n) → moved_f r ≡ true → moved_f (tail_goes t r) ≡ true
unfolding moved_f tail_goes
tail-moved t stays e = cc
tail-moved t (goes c f) e = refl

head-moved : {n : ℕ} (o : Out) (t : Tree) (f : Forest n) (r : Outs n) → moved o ≡ true → moved_f (head_goes o t f r) ≡ true
unfolding moved moved_f head_goes
head-moved stay t f r e = cc
head-moved (go c t') t f r e = refl

either-moved : {n : ℕ} (o : Out) (t : Tree) (f : Forest n) (r : Outs n) → moved_f r ≡ true → moved_f (head_goes o t f r) ≡ true
unfolding moved_f head_goes
either-moved stay t f r e = tail-moved t r e
either-moved (go c t') t f r e = refl

unvisited : {n : ℕ} (b : Bool) (t : Tree) (f : Forest n) → visit b stay t f stays ≡ stays
unfolding visit head_goes tail_goes
unvisited true t f = refl
unvisited false t f = refl

-- one of two tests decides
two-moved : (p q : Bool) (a b : Tree) → (p ∨ᵇ q) ≡ true → moved (cond p (go None a) (cond q (go None b) stay)) ≡ true
unfolding moved ◌∨ᵇ◌
two-moved true q a b e = refl
two-moved false true a b e = refl
two-moved false false a b e = e

-- the trees at some places are values
unfoldable values_at : {n : ℕ} → Places → Forest n → Bool
values_at a end = true
values_at a (more t f) = cond (a 0) (value t) true ∧ᵇ values_at (λ i. a (suc i)) f

all-values : {n : ℕ} (f : Forest n) → values_at everywhere f ≡ true → values f ≡ true
unfolding values_at everywhere value
all-values end e = refl
all-values (more t f) e = both _ _ (left _ _ e) (all-values f (right _ _ e))

-- a child that has to step before the row reduces, and is a value, is one at which it reduces
seen : {n : ℕ} (b : Bool) (c : Tree) (f : Forest n) → (value c ≡ true → b ≡ true) → values_at (unless b) (more c f) ≡ true → b ≡ true
unfolding values_at first unless
seen true c f k e = refl
seen false c f k e = k (left _ _ e)

data Going (v m w : Bool) : Type 0 where
  is-done : v ≡ true → Going v m w
  is-moving : m ≡ true → Going v m w
  is-waiting : w ≡ true → Going v m w

module _ (form : ℕ → Form) where
  -- Canonical forms ------------------------------------------------------------------------------------------------

  pub canonical : (c : Tree) → Typed form empty c → value c ≡ true → member (code (head_of c)) (kinds_of (form (ty_of c))) ≡ true
  unfolding Typed Rule tys ty_of head_of code member kinds_of value lit_base ◌∧ᵇ◌
  canonical (node (lit (str w)) ty end) (e, _, _) v = rw e
  canonical (node (lit (file w)) ty end) (e, _, _) v = rw e
  canonical (node (lit (truth true)) ty end) (e, _, _) v = rw e
  canonical (node (lit (truth false)) ty end) (e, _, _) v = rw e
  canonical (node (var x) ty f) k v = absurd (false≢true v)
  canonical (node lambda ty (more b end)) ((ps, e), _, _) v = rw e
  canonical (node (foreign w) ty end) ((ps, r, e), _, _) v = rw e
  canonical (node (apply n) ty f) k v = absurd (false≢true v)
  canonical (node (future j) ty f) k v = absurd (false≢true v)
  canonical (node ite ty f) k v = absurd (false≢true v)
  canonical (node fix ty f) k v = absurd (false≢true v)
  canonical (node nil ty end) ((r, e), _, _) v = rw e
  canonical (node cons ty (more a (more b end))) ((e, _), _, _) v = rw e
  canonical (node isnil ty f) k v = absurd (false≢true v)
  canonical (node (zip m) ty (more c end)) ((s, ps, r, qs, u, e₁, e₂, e₃, z), _, _) v = rw e₂ (zip-kind s qs u)
  canonical (node (tuple n) ty f) (e, _, _) v = rw e
  canonical (node (project i) ty f) k v = absurd (false≢true v)
  canonical (node (lproject i) ty f) k v = absurd (false≢true v)
  canonical (node (bind x) ty f) k v = absurd (false≢true v)

  truth-seen : (c : Tree) → Typed form empty c → form (ty_of c) ≡ base Truth → value c ≡ true → (is 3 c ∨ᵇ is 4 c) ≡ true
  unfolding kinds_of is
  truth-seen c k e v = one_of_two _ 3 4 (rw e at (canonical c k v))

  list-seen : (c : Tree) (el : ℕ) → Typed form empty c → form (ty_of c) ≡ f_list el → value c ≡ true → is_list c ≡ true
  unfolding kinds_of is is_list
  list-seen c el k e v = one_of_two _ 12 13 (rw e at (canonical c k v))

  tuple-seen : (c : Tree) (ts : List ℕ) → Typed form empty c → form (ty_of c) ≡ f_tuple ts → value c ≡ true → is 16 c ≡ true
  unfolding kinds_of is
  tuple-seen c ts k e v = one_of _ 16 (rw e at (canonical c k v))

  fun-seen : (c : Tree) (s : Side) (ps : List Param) (r : ℕ) → Typed form empty c → form (ty_of c) ≡ f_fun s ps r → value c ≡ true → (is 6 c ∨ᵇ (is 7 c ∨ᵇ is 15 c)) ≡ true
  unfolding is
  fun-seen c s ps r k e v = one-of-fun _ s ps r (rw e at (canonical c k v))

  -- Where every place that the rules look at holds a value, the row reduces --------------------------------------

  nth-moves : {n : ℕ} (i u : ℕ) (f : Forest n) → place i (list (tys f)) ≡ Some u → moved (become (nth i f)) ≡ true
  unfolding moved become nth place list tys
  nth-moves i u end e = cc
  nth-moves zero u (more t f) e = cc
  nth-moves (suc zero) u (more t f) e = refl
  nth-moves (suc (suc i)) u (more t f) e = nth-moves (suc i) u f e

  project-moves : (i u : ℕ) (c : Tree) (ts : List ℕ) → Typed form empty c → form (ty_of c) ≡ f_tuple ts → place i ts ≡ Some u → is 16 c ≡ true → moved (project_step i c) ≡ true
  unfolding project_step
  project-moves i u c ts k e q g =
      let (n, f, s, r, d) = tuple-parts form c g k in
      let l : ts ≡ list (tys f) = cc in
      rw (g, s i) (nth-moves i u f (rw (← l) q))

  -- a masked argument that is a value is nil or cons
  part-ready : (b : Bool) (t : Tree) (p q : ℕ) → Typed form empty t → ty_of t ≡ q → Masked form b p q → cond (b ∧ᵇ not (is_list t)) (value t) true ≡ true → cond b (is_list t) true ≡ true
  unfolding ◌∧ᵇ◌ Masked
  part-ready false t p q k e z g = refl
  part-ready true t p q k e z g = by_kind (is_list t) refl g
    where
      by_kind : (l : Bool) → is_list t ≡ l → cond (not l) (value t) true ≡ true → l ≡ true
      by_kind true d g = refl
      by_kind false d g = sym d ∙ list-seen t p k (cc) g

  parts-ready : {n : ℕ} (m : ℕ) (ps qs : List Param) (f : Forest n) → TypedF form empty bare f → list (tys f) ≡ types qs → Zipped form m ps qs → values_at (unready m f) f ≡ true → ready m f ≡ true
  unfolding Zipped Typed tys list types ready unready values_at ◌⹁◌ pick find
  parts-ready m ps qs end k e z g = refl
  parts-ready m [] [] (more t f) k e z g = absurd (cons≢nil e)
  parts-ready m [] (q ∷ qs) (more t f) k e z g = absurd z
  parts-ready m (p ∷ ps) [] (more t f) k e z g = absurd z
  parts-ready m (p ∷ ps) (q ∷ qs) (more t f) (a, k) e (z₁, z₂, z₃) g =
      both _ _ (part-ready (low m) t p.type q.type a (cc) z₂ (left _ _ g)) (parts-ready (rest m) ps qs f k (cc) z₃ (right _ _ g))

  zip-moves : {n : ℕ} (u m : ℕ) (c : Tree) (args : Forest n) → ready m args ≡ true → moved (zip_step form u m c args) ≡ true
  unfolding zip_step moved
  zip-moves u m c args e = rw e (by-nil (any_nil m args))
    where
      by-nil : (b : Bool) → moved (cond b (go None (node nil u end)) (go None (zip_cons form u m c args))) ≡ true
      by-nil true = refl
      by-nil false = refl

  zip-ready : {n : ℕ} (u : ℕ) (c : Tree) (args : Forest n) → is 15 c ≡ true → Typed form empty (node (apply n) u (more c args)) → values_at (unready (n_of (head_of c)) args) args ≡ true → ready (n_of (head_of c)) args ≡ true
  unfolding Typed Rule tys scope ◌⹁◌ pick find
  zip-ready u c args h ((s, qs, e, l), w, (kc, ka)) g =
      let ((s', ps, r, qs', u', e₁, e₂, e₃, z), kz) = zip-parts form c h kc in
      let d : qs ≡ qs' = cc in
      parts-ready (n_of (head_of c)) ps qs' args ka (l ∙ ap types d) z g

  send-moves : {n : ℕ} (k u : ℕ) (c : Tree) (args : Forest n) → values args ≡ true → moved (send_step k u c args) ≡ true
  unfolding send_step moved
  send-moves k u c args e = rw e refl

  apply-moves : {n : ℕ} (k u : ℕ) (c : Tree) (args : Forest n) → Typed form empty (node (apply n) u (more c args)) → values_at (apply_looks c args) (more c args) ≡ true → moved (apply_step form k u c args) ≡ true
  unfolding apply_step apply_looks moved values_at nowhere behind everywhere first ◌∨ᵇ◌ Typed Rule tys scope ◌⹁◌ pick find
  apply-moves {n} k u c args t g = by_kind (is 6 c) (is 7 c) (is 15 c) refl refl refl t g
    where
      by_kind : (p q r : Bool) → is 6 c ≡ p → is 7 c ≡ q → is 15 c ≡ r → Typed form empty (node (apply n) u (more c args))
          → values_at (cond p nowhere (cond q (behind everywhere) (cond r (behind (unready (n_of (head_of c)) args)) first))) (more c args) ≡ true
          → moved (cond p (go None (put form (assign (params (form (ty_of c))) args) (kid 1 c))) (cond q (send_step k u c args) (cond r (zip_step form u (n_of (head_of c)) c args) stay))) ≡ true
      by_kind true q r a b d t g = refl
      by_kind false true r a b d t g = send-moves k u c args (all-values args (right _ _ g))
      by_kind false false true a b d t g = zip-moves u (n_of (head_of c)) c args (zip-ready u c args d t (right _ _ g))
      by_kind false false false a b d ((s, ps, e, l), w, (kc, ka)) g = rw (a, b, d) at (fun-seen c s ps u kc e (left _ _ g))

  tie-moves : (u : ℕ) (c : Tree) (p : Param) (ps qs : List Param) → qs ≡ p ∷ ps → moved (tie form u c qs) ≡ true
  unfolding moved tie
  tie-moves u c p ps qs e = rw e refl

  fix-moves : (u : ℕ) (c : Tree) → Typed form empty (node fix u (more c end)) → moved (fix_step form u c) ≡ true
  unfolding fix_step Typed Rule tys below_ok code first_is params
  fix-moves u c ((x, ps, r, e, _), w, k) = rw w (tie-moves u c (record { name = x; type = u }) ps (params (form (ty_of c))) (ap params e))

  list-moves : (c a b : Tree) → is_list c ≡ true → moved (cond (is 12 c) (go None a) (cond (is 13 c) (go None b) stay)) ≡ true
  unfolding is_list
  list-moves c a b e = two-moved (is 12 c) (is 13 c) a b e

  settled : (k : ℕ) (h : Head) (u : ℕ) (f : Forest (arity h)) → Typed form empty (node h u f) → values_at (looks h f) f ≡ true → Going (value (node h u f)) (moved (contract form k h u f)) (eqb (code h) 9)
  unfolding contract looks moved Typed Rule tys value member code ◌∧ᵇ◌ scope ◌⹁◌ pick find empty if_step isnil_step lproject_step let_step
  settled k (lit (str w)) u f t g = is-done refl
  settled k (lit (file w)) u f t g = is-done refl
  settled k (lit (truth true)) u f t g = is-done refl
  settled k (lit (truth false)) u f t g = is-done refl
  settled k (var x) u end (r, _, _) g = absurd (none-some u r)
  settled k lambda u f t g = is-done refl
  settled k (foreign w) u f t g = is-done refl
  settled k (apply n) u (more c args) t g = is-moving (apply-moves k u c args t g)
  settled k (future j) u f t g = is-waiting refl
  settled k ite u (more c (more a (more b end))) ((e, _, _), w, (kc, _)) g = is-moving (two-moved (is 3 c) (is 4 c) _ _ (seen _ c (more a (more b end)) (truth-seen c kc e) g))
  settled k fix u (more c end) t g = is-moving (fix-moves u c t)
  settled k nil u f t g = is-done refl
  settled k cons u f t g = is-done (all-values f g)
  settled k isnil u (more c end) ((e, (el, q)), w, (kc, _)) g = is-moving (list-moves c _ _ (seen _ c end (list-seen c el kc q) g))
  settled k (zip m) u f t g = is-done refl
  settled k (tuple n) u f t g = is-done (all-values f g)
  settled k (project i) u (more c end) ((ts, e, q), w, (kc, _)) g = is-moving (project-moves i u c ts kc e q (seen _ c end (tuple-seen c ts kc e) g))
  settled k (lproject i) u (more c end) ((el, ts, r, e₁, e₂, e₃, e₄), w, (kc, _)) g = is-moving (list-moves c _ _ (seen _ c end (list-seen c el kc e₁) g))
  settled k (bind x) u (more a (more b end)) t g = is-moving refl

  -- One step -------------------------------------------------------------------------------------------------------

  node-goes : (k : ℕ) (h : Head) (u : ℕ) (f : Forest (arity h)) → Typed form empty (node h u f) → Going (values_at (looks h f) f) (moved_f (steps form k (looks h f) f)) (found (awaited_in (looks h f) f))
      → Going (value (node h u f)) (moved (step form k (node h u f))) (found (awaited (node h u f)))
  unfolding step awaited
  node-goes k h u f t (is-done e) = by-root (settled k h u f t e)
    where
      by-root : Going (value (node h u f)) (moved (contract form k h u f)) (eqb (code h) 9) → Going (value (node h u f)) (moved (step form k (node h u f))) (found (awaited (node h u f)))
      by-root (is-done e) = is-done e
      by-root (is-moving e) = is-moving (or-moved-l _ _ e)
      by-root (is-waiting e) = is-waiting (found_first (eqb (code h) 9) _ _ ∙ or_l _ _ e)
  node-goes k h u f t (is-moving e) = is-moving (or-moved-r _ _ (wrap-moved h u _ e))
  node-goes k h u f t (is-waiting e) = is-waiting (found_first (eqb (code h) 9) _ _ ∙ or_r _ _ e)

  visit-goes : {n : ℕ} (b : Bool) (v w vs ws : Bool) (o : Out) (t : Tree) (f : Forest n) (r : Outs n) → (b ≡ true → Going v (moved o) w) → Going vs (moved_f r) ws
      → Going (cond b v true ∧ᵇ vs) (moved_f (visit b o t f r)) ((b ∧ᵇ w) ∨ᵇ ws)
  unfolding visit ◌∧ᵇ◌
  visit-goes false v w vs ws o t f r p (is-done e) = is-done e
  visit-goes false v w vs ws o t f r p (is-moving e) = is-moving (tail-moved t r e)
  visit-goes false v w vs ws o t f r p (is-waiting e) = is-waiting (or_r false ws e)
  visit-goes true v w vs ws o t f r p q = by_first (p refl) q
    where
      by_first : Going v (moved o) w → Going vs (moved_f r) ws → Going (v ∧ᵇ vs) (moved_f (head_goes o t f r)) (w ∨ᵇ ws)
      by_first (is-done d) (is-done e) = is-done (both _ _ d e)
      by_first (is-done d) (is-moving e) = is-moving (either-moved o t f r e)
      by_first (is-done d) (is-waiting e) = is-waiting (or_r _ _ e)
      by_first (is-moving d) q = is-moving (head-moved o t f r d)
      by_first (is-waiting d) q = is-waiting (or_l _ _ d)

  mutual
    unfolding Typed steps values_at awaited_in ◌⹁◌ pick find

    goes_on : (k : ℕ) (t : Tree) → Typed form empty t → Going (value t) (moved (step form k t)) (found (awaited t))
    goes_on k (node h u f) (r, b, d) = node-goes k h u f (r, b, d) (goes-on-in k (looks h f) (scope form h u (tys f)) f (looks-bare form h u f (tys f)) d)

    goes-on-in : {n : ℕ} (k : ℕ) (a : Places) (s : ℕ → List Param) (f : Forest n) → ((i : ℕ) → a i ≡ true → s i ≡ []) → TypedF form empty s f → Going (values_at a f) (moved_f (steps form k a f)) (found (awaited_in a f))
    goes-on-in k a s end w d = is-done refl
    goes-on-in k a s (more t f) w (p, d) =
        let g = visit-goes (a 0) (value t) (found (awaited t)) _ _ (step form k t) t f _ (λ e. goes_on k t (rw (w 0 e) at p)) (goes-on-in k (λ i. a (suc i)) (λ i. s (suc i)) f (λ i. w (suc i)) d) in
        rw (found-or (cond (a 0) (awaited t) None) (awaited_in (λ i. a (suc i)) f), found-cond (a 0) (awaited t)) g

  pub data Progress (k : ℕ) (t : Tree) : Type 0 where
    done : value t ≡ true → Progress k t
    moves : (c : Option Call) (u : Tree) → step form k t ≡ go c u → Progress k t
    waits : (e : Awaited) → awaited t ≡ Some e → Progress k t

  pub progress : (k : ℕ) (t : Tree) → Typed form empty t → Progress k t
  progress k t d = named (goes_on k t d)
    where
      named : Going (value t) (moved (step form k t)) (found (awaited t)) → Progress k t
      named (is-done e) = done e
      named (is-moving e) = let (c, u, q) = moved-is (step form k t) e in moves c u q
      named (is-waiting e) = let (x, q) = found-is (awaited t) e in waits x q

  -- A value never steps ------------------------------------------------------------------------------------------

  mutual
    unfolding value member code ◌∧ᵇ◌ step contract looks or_else wrap visit nowhere tail_goes head_goes

    pub value_stays : (k : ℕ) (t : Tree) → value t ≡ true → step form k t ≡ stay
    value_stays k (node (lit l) u end) e = refl
    value_stays k (node (var x) u f) e = absurd (false≢true e)
    value_stays k (node lambda u (more b end)) e = refl
    value_stays k (node (foreign w) u end) e = refl
    value_stays k (node (apply n) u f) e = absurd (false≢true e)
    value_stays k (node (future j) u f) e = absurd (false≢true e)
    value_stays k (node ite u f) e = absurd (false≢true e)
    value_stays k (node fix u f) e = absurd (false≢true e)
    value_stays k (node nil u end) e = refl
    value_stays k (node cons u f) e = ap (wrap cons u) (values-stay k everywhere f e)
    value_stays k (node isnil u f) e = absurd (false≢true e)
    value_stays k (node (zip m) u (more c end)) e = refl
    value_stays k (node (tuple n) u f) e = ap (wrap (tuple n) u) (values-stay k everywhere f e)
    value_stays k (node (project i) u f) e = absurd (false≢true e)
    value_stays k (node (lproject i) u f) e = absurd (false≢true e)
    value_stays k (node (bind x) u f) e = absurd (false≢true e)

    values-stay : {n : ℕ} (k : ℕ) (a : Places) (f : Forest n) → values f ≡ true → steps form k a f ≡ stays
    values-stay k a end e = refl
    values-stay k a (more t f) e = rw (value_stays k t (left (value t) (values f) e), values-stay k (λ i. a (suc i)) f (right (value t) (values f) e)) (unvisited (a 0) t f)

-- What is awaited is listed ----------------------------------------------------------------------------------------

by_kind : (Φ : ℕ → Option ℕ) (h : Head) (u : ℕ) (o : Option Awaited) (e : Awaited) → Due Φ h u → (o ≡ Some e → Φ e.number ≡ Some e.type) → (b : Bool) → eqb (code h) 9 ≡ b
    → cond b (Some (record { number = word_of h; type = u })) o ≡ Some e → Φ e.number ≡ Some e.type
unfolding head_from
by_kind Φ h u o e a k true p q = let d : record { number = word_of h; type = u } ≡ e = cc in rw (← d) (a (word_of h) (head-is 9 h p))
by_kind Φ h u o e a k false p q = k q

first_found : (Φ : ℕ → Option ℕ) (e : Awaited) (b : Bool) (o p : Option Awaited) → (o ≡ Some e → Φ e.number ≡ Some e.type) → (p ≡ Some e → Φ e.number ≡ Some e.type)
    → earlier (cond b o None) p ≡ Some e → Φ e.number ≡ Some e.type
unfolding earlier
first_found Φ e true None p h k q = k q
first_found Φ e true (Some x) p h k q = h q
first_found Φ e false o p h k q = k q

mutual
  unfolding awaited Every head_from

  pub awaited-listed : (Φ : ℕ → Option ℕ) (t : Tree) (e : Awaited) → Listed Φ t → awaited t ≡ Some e → Φ e.number ≡ Some e.type
  awaited-listed Φ (node h u f) e (a, d) q = by_kind Φ h u (awaited_in (looks h f) f) e a (λ p. awaited-in-listed Φ (looks h f) f e d p) (eqb (code h) 9) refl q

  awaited-in-listed : {n : ℕ} (Φ : ℕ → Option ℕ) (a : Places) (f : Forest n) (e : Awaited) → Everys (Due Φ) f → awaited_in a f ≡ Some e → Φ e.number ≡ Some e.type
  awaited-in-listed Φ a end e d q = absurd (none-some e q)
  awaited-in-listed Φ a (more t f) e (c, d) q =
      first_found Φ e (a 0) (awaited t) (awaited_in (λ i. a (suc i)) f) (λ p. awaited-listed Φ t e c p) (λ p. awaited-in-listed Φ (λ i. a (suc i)) f e d p) q
