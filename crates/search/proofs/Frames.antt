-- A RESUMED SEARCH: what the whole does is what the tree at the search does, put back; entering, passing, leaving and reducing keep it.
-- Assumes nothing.
use Prim.Native.Nat.{ℕ, zero, suc, ◌<◌}
use mathlib.Core.Path.{◌≡◌, refl, ap, sym, ◌∙◌, subst}
use mathlib.Core.Bool.{Bool, true, false, cond, not, false≢true}
use mathlib.Core.List.{List, [], ◌∷◌, ◌++◌, append_assoc}
use Rattle.std.specs.Prelude.{Option, None, Some}
use native.Mathlib.Omega.{arith}
use lib.ListN.{length, drop}
use lib.Seq.{drop_at}
use Rattle.meaning.specs.Bytes.{◌∧ᵇ◌}
use Rattle.meaning.specs.Types.{Form, member, low, rest}
use Rattle.meaning.specs.Typing.{first_is}
use lib.Dec.{eqb}
use borrow.Author.Tests.{eqb-true}
use Rattle.meaning.specs.Terms.{str, file, truth, Head, lit, var, lambda, foreign, apply, future, ite, fix, nil, cons, isnil, zip, tuple, project, lproject, bind, arity, code, n_of, word_of, Tree, Forest, node, end, more, head_of, is, flats, kids, top}
use Rattle.meaning.specs.Steps.{value, values, value_kinds, made_of_values, Call, Out, stay, go, ready, send_step, zip_step, apply_step, contract, Places, everywhere, behind, unready, apply_looks, is_list, any_nil, zip_cons, looks, Outs, stays, goes, or_else, wrap, tail_goes, head_goes, visit, step, steps}
use Rattle.search.specs.Frames.{waits, zips, zips_lists, Rests, Frame, below, close, around, entered, passed_by, calm, Still, Stands, Looked, Open, Passed}
use Rattle.search.proofs.OneRow.{not-true, waiting-row, waits-first, zips-first, looks-heads, heads-kids, first-kids, first-before, looks-before}

-- Trees in a list ------------------------------------------------------------------------------------------------

-- behind a frame the same trees stand, whatever stands at the search
tail-kept : (n : ℕ) (B : List Tree) (t s : Tree) (ts : List Tree) → length B < n → drop n (B ++ (t ∷ ts)) ≡ drop n (B ++ (s ∷ ts))
tail-kept zero B t s ts h = absurd (omega arith)
tail-kept (suc n) [] t s ts h = refl
tail-kept (suc n) (b ∷ B) t s ts h = tail-kept n B t s ts (omega arith)

calm-same : (z : Bool) (a b : Places) (B : List Tree) → ((i : ℕ) → i < length B → a i ≡ b i) → calm z a B ≡ calm z b B
unfolding calm
calm-same z a b [] e = refl
calm-same z a b (t ∷ B) e = rw (e 0 (omega arith), calm-same z (λ i. a (suc i)) (λ i. b (suc i)) B (λ i h. e (suc i) (omega arith))) refl

pub and-true : (b : Bool) → (b ∧ᵇ true) ≡ b
unfolding ◌∧ᵇ◌
and-true true = refl
and-true false = refl

pub and-false : (b : Bool) → (b ∧ᵇ false) ≡ false
unfolding ◌∧ᵇ◌
and-false true = refl
and-false false = refl

and_assoc : (a b c : Bool) → ((a ∧ᵇ b) ∧ᵇ c) ≡ (a ∧ᵇ (b ∧ᵇ c))
unfolding ◌∧ᵇ◌
and_assoc true b c = refl
and_assoc false b c = refl

calm_more : (z : Bool) (a : Places) (B : List Tree) (t : Tree) → calm z a (B ++ (t ∷ [])) ≡ (calm z a B ∧ᵇ cond (a (length B)) (z ∧ᵇ value t) true)
unfolding calm
calm_more z a [] t = unfold ◌∧ᵇ◌ in and-true _
calm_more z a (b ∷ B) t = rw (calm_more z (λ i. a (suc i)) B t) (sym (and_assoc _ _ _))

calm-values : (n : ℕ) (B ts : List Tree) → length B ≡ n → calm true everywhere B ≡ values (kids n (B ++ ts))
unfolding calm value kids everywhere ◌∧ᵇ◌
calm-values zero [] ts e = refl
calm-values zero (b ∷ B) ts e = absurd (omega arith)
calm-values (suc n) [] ts e = absurd (omega arith)
calm-values (suc n) (b ∷ B) ts e = ap (λ (v : Bool). value b ∧ᵇ v) (calm-values n B ts (omega arith))

module _ (form : ℕ → Form) (k : ℕ) where
  still-same : (a b : Places) (B : List Tree) → ((i : ℕ) → i < length B → a i ≡ b i) → Still form k a B → Still form k b B
  unfolding Still
  still-same a b [] e s = tt
  still-same a b (t ∷ B) e (s, r) = ((λ q. s (e 0 (omega arith) ∙ q)), still-same (λ i. a (suc i)) (λ i. b (suc i)) B (λ i h. e (suc i) (omega arith)) r)

  still-more : (a : Places) (B : List Tree) (t : Tree) → Still form k a B → (a (length B) ≡ true → step form k t ≡ stay) → Still form k a (B ++ (t ∷ []))
  unfolding Still
  still-more a [] t s e = (e, tt)
  still-more a (b ∷ B) t (s, r) e = (s, still-more (λ i. a (suc i)) B t r e)

  visit-on : {n : ℕ} (b : Bool) (o : Out) (t : Tree) (f : Forest n) (r : Outs n) (c : Option Call) (g : Forest n) → (b ≡ true → o ≡ stay) → r ≡ goes c g → visit b o t f r ≡ goes c (more t g)
  unfolding visit head_goes tail_goes
  visit-on false o t f r c g p e = rw e refl
  visit-on true o t f r c g p e = rw (p refl, e) refl

  visit-none : {n : ℕ} (b : Bool) (o : Out) (t : Tree) (f : Forest n) (r : Outs n) → (b ≡ true → o ≡ stay) → r ≡ stays → visit b o t f r ≡ stays
  unfolding visit head_goes tail_goes
  visit-none false o t f r p e = rw e refl
  visit-none true o t f r p e = rw (p refl, e) refl

  -- behind trees that do not step, the tree at the search does
  steps-at : (n : ℕ) (a : Places) (B : List Tree) (t t' : Tree) (ts : List Tree) (c : Option Call) → length B < n → Still form k a B → a (length B) ≡ true → step form k t ≡ go c t'
      → steps form k a (kids n (B ++ (t ∷ ts))) ≡ goes c (kids n (B ++ (t' ∷ ts)))
  unfolding step kids Still visit head_goes
  steps-at zero a B t t' ts c h s l e = absurd (omega arith)
  steps-at (suc n) a [] t t' ts c h s l e = rw (l, e) refl
  steps-at (suc n) a (b ∷ B) t t' ts c h (s, r) l e =
      visit-on (a 0) (step form k b) b (kids n (B ++ (t ∷ ts))) _ c (kids n (B ++ (t' ∷ ts))) s (steps-at n (λ i. a (suc i)) B t t' ts c (omega arith) r l e)

  steps-none : (n : ℕ) (a : Places) (B ts : List Tree) → length B ≡ n → Still form k a B → steps form k a (kids n (B ++ ts)) ≡ stays
  unfolding step kids Still
  steps-none zero a [] ts e s = refl
  steps-none zero a (b ∷ B) ts e s = absurd (omega arith)
  steps-none (suc n) a [] ts e s = absurd (omega arith)
  steps-none (suc n) a (b ∷ B) ts e (s, r) = visit-none (a 0) (step form k b) b (kids n (B ++ ts)) _ s (steps-none n (λ i. a (suc i)) B ts (omega arith) r)

  -- One frame ------------------------------------------------------------------------------------------------------

  frame-goes : (F : Frame) (t t' : Tree) (ts : List Tree) (c : Option Call) → Stands form k F (t ∷ ts) → Looked F (t ∷ ts) → step form k t ≡ go c t'
      → step form k (node F.head F.type (below F (t ∷ ts))) ≡ go c (node F.head F.type (below F (t' ∷ ts)))
  unfolding below wrap or_else
  frame-goes F t t' ts c d l e =
      waiting-row form k F.head F.type (below F (t ∷ ts)) d.waiting
      ∙ rw (steps-at (arity F.head) (looks F.head (below F (t ∷ ts))) F.before t t' ts c l.inside d.still l.seen e) refl

  zips-kept : (h : Head) (B : List Tree) (t s : Tree) (ts : List Tree) (a : Places) → calm (not (zips h (kids (arity h) (B ++ (s ∷ ts))))) a B ≡ calm (not (zips h (kids (arity h) (B ++ (t ∷ ts))))) a B
  unfolding calm
  zips-kept h [] t s ts a = refl
  zips-kept h (b ∷ B) t s ts a = ap (λ (z : Bool). calm (not z) a (b ∷ B)) (zips-first h (kids (arity h) (b ∷ (B ++ (s ∷ ts)))) (kids (arity h) (b ∷ (B ++ (t ∷ ts)))) (first-before (arity h) b B s t ts))

  -- whatever comes to stand at the search, the frame stands if its row still waits
  stands-kept : (F : Frame) (t s : Tree) (ts : List Tree) → Stands form k F (t ∷ ts) → waits F.head (below F (s ∷ ts)) ≡ true → Stands form k F (s ∷ ts)
  unfolding below
  stands-kept F t s ts d w =
      let same = looks-before F.head F.before t s ts in
      record { waiting = w; still = still-same _ _ F.before same d.still; told = sym (calm-same _ _ _ F.before same) ∙ zips-kept F.head F.before t s ts _ ∙ d.told }

  stands-heads : (F : Frame) (t s : Tree) (ts : List Tree) → head_of t ≡ head_of s → Stands form k F (t ∷ ts) → Stands form k F (s ∷ ts)
  unfolding below
  stands-heads F t s ts e d =
      stands-kept F t s ts d (sym (waits-first F.head _ _ (first-kids (arity F.head) F.before t s ts e)) ∙ d.waiting)

  looked-heads : (F : Frame) (t s : Tree) (ts : List Tree) → head_of t ≡ head_of s → Looked F (t ∷ ts) → Looked F (s ∷ ts)
  unfolding below
  looked-heads F t s ts e l =
      record { inside = l.inside; seen = sym (looks-heads F.head _ _ (heads-kids (arity F.head) F.before t s ts e) (length F.before)) ∙ l.seen }

  open-heads : (Fs : List Frame) (t s : Tree) (ts : List Tree) → head_of t ≡ head_of s → Open Fs (t ∷ ts) → Open Fs (s ∷ ts)
  unfolding Open
  open-heads [] t s ts e o = tt
  open-heads (F ∷ Fs) t s ts e o = looked-heads F t s ts e o

  -- THE LAWS -------------------------------------------------------------------------------------------------------

  pub started : (ts : List Tree) → Open [] ts × Passed form k [] ts
  unfolding Open Passed
  started ts = (tt, tt)

  -- what the tree at the search does, the whole does
  pub found : (Fs : List Frame) (t t' : Tree) (ts : List Tree) (c : Option Call) → Open Fs (t ∷ ts) → Passed form k Fs (t ∷ ts) → step form k t ≡ go c t'
      → step form k (top (around Fs (t ∷ ts))) ≡ go c (top (around Fs (t' ∷ ts)))
  unfolding Open Passed around close top
  found [] t t' ts c o p e = e
  found (F ∷ Fs) t t' ts c l (d, o, p) e =
      let w = found Fs (node F.head F.type (below F (t ∷ ts))) (node F.head F.type (below F (t' ∷ ts))) (drop (arity F.head) (F.before ++ (t ∷ ts))) c o p (frame-goes F t t' ts c d l e) in
      w ∙ ap (λ (x : List Tree). go c (top (around Fs (node F.head F.type (below F (t' ∷ ts)) ∷ x)))) (tail-kept (arity F.head) F.before t t' ts l.inside)

  -- a row that waits is entered: its first tree is at the search
  pub entering : (Fs : List Frame) (h : Head) (u : ℕ) (ts : List Tree) → Open Fs (close (entered h u) ts) → Passed form k Fs (close (entered h u) ts) → waits h (kids (arity h) ts) ≡ true
      → Passed form k (entered h u ∷ Fs) ts
  unfolding Passed Still calm below
  entering Fs h u ts o p w = (record { waiting = w; still = tt; told = refl }, o, p)

  pub close_passed : (F : Frame) (t : Tree) (v : Bool) (ts : List Tree) → close (passed_by F t v) ts ≡ close F (t ∷ ts)
  unfolding close below
  close_passed F t v ts = rw (append_assoc F.before (t ∷ []) ts) refl

  -- a tree that the rules do not look at, or that does not step, is passed: the next tree of the frame is at the search
  pub passing : (F : Frame) (Fs : List Frame) (t : Tree) (v : Bool) (ts : List Tree) → Passed form k (F ∷ Fs) (t ∷ ts)
      → (looks F.head (below F (t ∷ ts)) (length F.before) ≡ true → step form k t ≡ stay)
      → cond (looks F.head (below F (t ∷ ts)) (length F.before)) (not (zips F.head (below F (t ∷ ts))) ∧ᵇ value t) true ≡ v
      → Passed form k (passed_by F t v ∷ Fs) ts
  unfolding Passed below
  passing F Fs t v ts (d, o, p) s e =
      let q : below (passed_by F t v) ts ≡ below F (t ∷ ts) = ap (kids (arity F.head)) (append_assoc F.before (t ∷ []) ts) in
      let a = looks F.head (below F (t ∷ ts)) in (
        record {
          waiting = ap (waits F.head) q ∙ d.waiting;
          still = subst (λ (f : Forest (arity F.head)). Still form k (looks F.head f) (F.before ++ (t ∷ []))) (sym q) (still-more a F.before t d.still s);
          told = ap (λ (f : Forest (arity F.head)). calm (not (zips F.head f)) (looks F.head f) (F.before ++ (t ∷ []))) q ∙ calm_more (not (zips F.head (below F (t ∷ ts)))) a F.before t ∙ cc (d.told, e);
        },
        rw (close_passed F t v ts) o,
        rw (close_passed F t v ts) p,
      )

  -- a frame with no tree to come is left: its own rule is what is left to try
  pub close-left : (F : Frame) (ts : List Tree) → length F.before ≡ arity F.head → close F ts ≡ node F.head F.type (below F ts) ∷ ts
  unfolding close
  close-left F ts e = rw (drop_at F.before ts (arity F.head) e) refl

  pub leaving : (F : Frame) (Fs : List Frame) (ts : List Tree) → Passed form k (F ∷ Fs) ts → length F.before ≡ arity F.head
      → Open Fs (close F ts) × Passed form k Fs (close F ts) × (step form k (node F.head F.type (below F ts)) ≡ contract form k F.head F.type (below F ts))
  unfolding Passed below wrap or_else
  leaving F Fs ts (d, o, p) e =
      (o, p, waiting-row form k F.head F.type (below F ts) d.waiting ∙ rw (steps-none (arity F.head) (looks F.head (below F ts)) F.before ts e d.still) refl)

  -- another tree comes to stand at the search: the frames further out stand, at the frame's tree made anew
  pub outward : (Fs : List Frame) (t s : Tree) (ts : List Tree) → head_of t ≡ head_of s → Open Fs (t ∷ ts) → Passed form k Fs (t ∷ ts) → Open Fs (s ∷ ts) × Passed form k Fs (s ∷ ts)
  unfolding Open Passed close
  outward [] t s ts e o p = (tt, tt)
  outward (F ∷ Fs) t s ts e l (d, o, p) =
      let r = outward Fs (node F.head F.type (below F (t ∷ ts))) (node F.head F.type (below F (s ∷ ts))) (drop (arity F.head) (F.before ++ (t ∷ ts))) (unfold head_of in refl) o p in
      let q = rw (tail-kept (arity F.head) F.before t s ts l.inside) at r in
      (looked-heads F t s ts e l, (stands-heads F t s ts e d, q.0, q.1))

  pub parent : (F : Frame) (Fs : List Frame) (t s : Tree) (ts : List Tree) → length F.before < arity F.head → Passed form k (F ∷ Fs) (t ∷ ts) → Open Fs (close F (s ∷ ts)) × Passed form k Fs (close F (s ∷ ts))
  unfolding Passed close
  parent F Fs t s ts h (d, o, p) =
      let r = outward Fs (node F.head F.type (below F (t ∷ ts))) (node F.head F.type (below F (s ∷ ts))) (drop (arity F.head) (F.before ++ (t ∷ ts))) (unfold head_of in refl) o p in
      rw (tail-kept (arity F.head) F.before t s ts h) at r

  -- and the frame itself, if its row still waits
  pub reducing : (F : Frame) (Fs : List Frame) (t s : Tree) (ts : List Tree) → length F.before < arity F.head → Passed form k (F ∷ Fs) (t ∷ ts) → waits F.head (below F (s ∷ ts)) ≡ true
      → Passed form k (F ∷ Fs) (s ∷ ts)
  unfolding Passed
  reducing F Fs t s ts h (d, o, p) w = let q = parent F Fs t s ts h (d, o, p) in (stands-kept F t s ts d w, q.0, q.1)

-- Values ---------------------------------------------------------------------------------------------------------

-- a row that does not wait is a value by its kind
value-at-once : (h : Head) (u : ℕ) (f : Forest (arity h)) → waits h f ≡ false → value (node h u f) ≡ member (code h) value_kinds
unfolding value waits member code ◌∧ᵇ◌
value-at-once (lit (str w)) u f e = refl
value-at-once (lit (file w)) u f e = refl
value-at-once (lit (truth true)) u f e = refl
value-at-once (lit (truth false)) u f e = refl
value-at-once (var x) u f e = refl
value-at-once lambda u f e = refl
value-at-once (foreign w) u f e = refl
value-at-once (apply n) u f e = refl
value-at-once (future j) u f e = refl
value-at-once ite u f e = refl
value-at-once fix u f e = refl
value-at-once nil u f e = refl
value-at-once cons u f e = absurd (false≢true (sym e))
value-at-once isnil u f e = refl
value-at-once (zip m) u f e = refl
value-at-once (tuple n) u f e = absurd (false≢true (sym e))
value-at-once (project i) u f e = refl
value-at-once (lproject i) u f e = refl
value-at-once (bind x) u f e = refl

-- so is a zip's
value-zip : (h : Head) (u : ℕ) (f : Forest (arity h)) → zips_lists h f ≡ true → value (node h u f) ≡ member (code h) value_kinds
unfolding value zips_lists zips member code ◌∧ᵇ◌
value-zip (apply n) u f e = refl
value-zip (lit (str w)) u f e = absurd (false≢true e)
value-zip (lit (file w)) u f e = absurd (false≢true e)
value-zip (lit (truth true)) u f e = absurd (false≢true e)
value-zip (lit (truth false)) u f e = absurd (false≢true e)
value-zip (var x) u f e = absurd (false≢true e)
value-zip lambda u f e = absurd (false≢true e)
value-zip (foreign w) u f e = absurd (false≢true e)
value-zip (future k) u f e = absurd (false≢true e)
value-zip ite u f e = absurd (false≢true e)
value-zip fix u f e = absurd (false≢true e)
value-zip nil u f e = absurd (false≢true e)
value-zip cons u f e = absurd (false≢true e)
value-zip isnil u f e = absurd (false≢true e)
value-zip (zip m) u f e = absurd (false≢true e)
value-zip (tuple n) u f e = absurd (false≢true e)
value-zip (project j) u f e = absurd (false≢true e)
value-zip (lproject j) u f e = absurd (false≢true e)
value-zip (bind x) u f e = absurd (false≢true e)

pub value-resting : (h : Head) (u : ℕ) (f : Forest (arity h)) → Rests h f → value (node h u f) ≡ member (code h) value_kinds
value-resting h u f r = by-wait (waits h f) refl
  where
    by-wait : (b : Bool) → waits h f ≡ b → value (node h u f) ≡ member (code h) value_kinds
    by-wait true e = value-zip h u f (r e)
    by-wait false e = value-at-once h u f e

-- a row that waits is one if it is made of values and all of these were passed
waiting-value : (h : Head) (u : ℕ) (B ts : List Tree) → length B ≡ arity h → waits h (kids (arity h) (B ++ ts)) ≡ true
    → value (node h u (kids (arity h) (B ++ ts))) ≡ (member (code h) made_of_values ∧ᵇ calm (not (zips h (kids (arity h) (B ++ ts)))) (looks h (kids (arity h) (B ++ ts))) B)
unfolding value waits member code looks ◌∧ᵇ◌ zips
waiting-value (lit l) u B ts n e = absurd (false≢true e)
waiting-value (var x) u B ts n e = absurd (false≢true e)
waiting-value lambda u B ts n e = absurd (false≢true e)
waiting-value (foreign w) u B ts n e = absurd (false≢true e)
waiting-value (apply m) u B ts n e = refl
waiting-value (future j) u B ts n e = absurd (false≢true e)
waiting-value ite u B ts n e = refl
waiting-value fix u B ts n e = absurd (false≢true e)
waiting-value nil u B ts n e = absurd (false≢true e)
waiting-value cons u B ts n e = sym (calm-values 2 B ts n)
waiting-value isnil u B ts n e = refl
waiting-value (zip m) u B ts n e = absurd (false≢true e)
waiting-value (tuple m) u B ts n e = sym (calm-values m B ts n)
waiting-value (project i) u B ts n e = refl
waiting-value (lproject i) u B ts n e = refl
waiting-value (bind x) u B ts n e = absurd (false≢true e)

-- WHAT A FRAME'S FLAG TELLS when its trees are passed -------------------------------------------------------------

-- the arguments of a call are values; the masked arguments of a zip are lists
kinds-differ : (i j : ℕ) (t : Tree) → is i t ≡ true → eqb i j ≡ false → is j t ≡ false
unfolding is
kinds-differ i j t e d = rw (eqb-true (code (head_of t)) i e) d

calm-ready : (n m : ℕ) (B ts : List Tree) → length B ≡ n → calm false (unready m (kids n (B ++ ts))) B ≡ ready m (kids n (B ++ ts))
unfolding calm kids unready ready ◌∧ᵇ◌
calm-ready zero m [] ts e = refl
calm-ready zero m (b ∷ B) ts e = absurd (omega arith)
calm-ready (suc n) m [] ts e = absurd (omega arith)
calm-ready (suc n) m (b ∷ B) ts e = cc (by_mask (low m) (is_list b), calm-ready n (rest m) B ts (omega arith))
  where
    by_mask : (p q : Bool) → cond (p ∧ᵇ not q) false true ≡ cond p q true
    by_mask true true = refl
    by_mask true false = refl
    by_mask false q = refl

module _ (n u : ℕ) (b : Tree) (B ts : List Tree) (e : length B ≡ n) where
  abbrev call : Forest (suc n)
  call = kids (suc n) (b ∷ (B ++ ts))

  calm-call : is 7 b ≡ true → calm (not (zips (apply n) call)) (looks (apply n) call) (b ∷ B) ≡ values (kids n (B ++ ts))
  unfolding calm zips looks apply_looks kids first_is code behind ◌∧ᵇ◌
  calm-call q =
      let z : zips (apply n) call ≡ false = kinds-differ 7 15 b q refl in
      ap (λ (w : Bool). calm (not w) (looks (apply n) call) (b ∷ B)) z ∙ rw (kinds-differ 7 15 b q refl, kinds-differ 7 6 b q refl, q) (calm-values n B ts e)

  calm-zip : is 15 b ≡ true → calm (not (zips (apply n) call)) (looks (apply n) call) (b ∷ B) ≡ ready (n_of (head_of b)) (kids n (B ++ ts))
  unfolding calm zips looks apply_looks kids first_is code behind ◌∧ᵇ◌
  calm-zip q =
      let z : zips (apply n) call ≡ true = q in
      ap (λ (w : Bool). calm (not w) (looks (apply n) call) (b ∷ B)) z ∙ rw (kinds-differ 15 7 b q refl, kinds-differ 15 6 b q refl, q) (calm-ready n (n_of (head_of b)) B ts e)

  module _ (form : ℕ → Form) (k : ℕ) (v : Bool) (d : Stands form k (record { head = apply n; type = u; before = b ∷ B; clear = v }) ts) where
    -- a call is sent if nothing in it is stuck
    pub call-left : is 7 b ≡ true
        → contract form k (apply n) u call ≡ cond v (go (Some (record { tool = word_of (head_of b); rows = flats (kids n (B ++ ts)); result = u })) (node (future k) u end)) stay
    unfolding below contract apply_step send_step kids
    call-left q = rw (kinds-differ 7 6 b q refl, q, sym (calm-call q), d.told) refl

    -- a zip reduces if nothing in it was looked at
    pub zip-left : is 15 b ≡ true
        → contract form k (apply n) u call ≡ cond v (cond (any_nil (n_of (head_of b)) (kids n (B ++ ts))) (go None (node nil u end)) (go None (zip_cons form u (n_of (head_of b)) b (kids n (B ++ ts))))) stay
    unfolding below contract apply_step zip_step kids
    zip-left q = rw (kinds-differ 15 6 b q refl, kinds-differ 15 7 b q refl, q, sym (calm-zip q), d.told) refl

    -- an application of anything else stays
    pub other-left : is 7 b ≡ false → is 15 b ≡ false → contract form k (apply n) u call ≡ stay
    unfolding below contract apply_step waits kids
    other-left p q = rw (p, q, not-true (is 6 b) d.waiting) refl

module _ (form : ℕ → Form) (k : ℕ) (F : Frame) (ts : List Tree) (n : length F.before ≡ arity F.head) where
  -- whether the frame's tree is a value
  pub value-left : Stands form k F ts → value (node F.head F.type (below F ts)) ≡ (member (code F.head) made_of_values ∧ᵇ F.clear)
  unfolding below
  value-left d = waiting-value F.head F.type F.before ts n d.waiting ∙ ap (λ (b : Bool). member (code F.head) made_of_values ∧ᵇ b) d.told

  -- EVERYTHING IS PASSED: the whole does not step, and whether it is a value is told by the flag
  pub ended : Passed form k (F ∷ []) ts → contract form k F.head F.type (below F ts) ≡ stay
      → (step form k (top (around (F ∷ []) ts)) ≡ stay) × (value (top (around (F ∷ []) ts)) ≡ (member (code F.head) made_of_values ∧ᵇ F.clear))
  unfolding Passed around close top
  ended (d, o, p) e = ((leaving form k F [] ts (d, o, p) n).2 ∙ e, value-left d)

  -- a rule that comes last is the whole's step
  pub opened : (Fs : List Frame) (c : Option Call) (s : Tree) → Passed form k (F ∷ Fs) ts → contract form k F.head F.type (below F ts) ≡ go c s
      → step form k (top (around (F ∷ Fs) ts)) ≡ go c (top (around Fs (s ∷ ts)))
  unfolding Passed around close below
  opened Fs c s (d, o, p) e =
      let (o', p', l) = leaving form k F Fs ts (d, o, p) n in
      let q = drop_at F.before ts (arity F.head) n in
      rw q (found form k Fs (node F.head F.type (below F ts)) s ts c (rw q at o') (rw q at p') (l ∙ e))
