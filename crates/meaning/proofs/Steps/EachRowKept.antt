-- What holds of every row goes on holding, if the rows that the rules make have it: futures listed, fields and type numbers in range.
-- Assumes nothing.
use Prim.Native.Nat.{ℕ, zero, suc, ◌≤◌, ◌<◌}
use mathlib.Core.Path.{◌≡◌, refl, ap, sym}
use mathlib.Core.Bool.{Bool, true, false, cond}
use mathlib.Core.List.{List, [], ◌∷◌, ◌++◌}
use Rattle.std.specs.Prelude.{Option, None, Some}
use native.Mathlib.Omega.{arith}
use lib.Dec.{eqb}
use lib.ListN.{get_or}
use borrow.Author.Tests.{lt-ltb, ltb-true}
use Rattle.meaning.specs.Bytes.{◌∧ᵇ◌, within}
use Rattle.meaning.specs.Types.{Param, Form, absent, base, f_list, f_tuple, f_fun, params, elem_of, find, low, rest}
use Rattle.meaning.specs.Terms.{truth, Head, lit, var, lambda, foreign, apply, future, ite, fix, nil, cons, isnil, zip, tuple, project, lproject, bind, arity, code, n_of, word_of, none-used, kind_fields, last_kind, raw, within_one, fits, row_fault, Tree, Forest, node, end, more, head_of, ty_of, is, Row, flat}
use Rattle.meaning.specs.Typing.{tys, scope}
use Rattle.meaning.specs.Steps.{Sub, veil, hide, swap, hit, assign, put, puts, due, settle, settles, values, Call, Out, stay, go, nth, child, kid, become, if_step, isnil_step, project_step, ready, any_nil, kids_at, lproject_step, tie, fix_step, send_step, zip_cons, zip_step, apply_step, let_step, contract, Places, step}
use Rattle.meaning.specs.Records.{version}
use Rattle.meaning.specs.declared.Fault.TheVariants.{Kind, Field, Number}
use Rattle.meaning.proofs.Trees.Tests.{within_of, both, none-some}
use Rattle.meaning.proofs.Bytes.RowTables.{legal, range-one}
use Rattle.meaning.proofs.Trees.EachRow.{Fact, Every, Everys, AllRows, every-rows, rows_left, rows_right, Due, Listed}
use Rattle.meaning.proofs.Typing.Putting.{hit-is, due-is}
use Rattle.meaning.proofs.Steps.FreeOrder.{Follows, FollowsIn, root, inside, this, that, step-free}
use Rattle.meaning.proofs.Steps.RowsStand.{Changed, step-changes}
use Rattle.meaning.proofs.Steps.Sends.{root-sends}

unveiled : (o : Option ℕ) (p : Option Tree) (v : Tree) → veil o p ≡ Some v → p ≡ Some v
unfolding veil
unveiled None p v e = e
unveiled (Some t) p v e = cc

module _ (P : Fact) where
  -- a fact of each row of all that is put
  abbrev pub EverySub : Sub → Type 0
  EverySub σ = (x : ℕ) (v : Tree) → σ x ≡ Some v → Every P v

  -- what a send has to bring: the fact of its own future, at the type that the call names
  unfoldable pub New : ℕ → Option Call → Type 0
  New k None = Unit {0}
  New k (Some c) = P (future k) c.result

  unfoldable EveryOut : ℕ → Out → Type 0
  EveryOut k stay = Unit {0}
  EveryOut k (go c t) = New k c → Every P t

  pub new-of : (k : ℕ) (c : Option Call) → ((d : Call) → c ≡ Some d → P (future k) d.result) → New k c
  unfolding New
  new-of k None w = tt
  new-of k (Some d) w = w d refl

  cond-every : (k : ℕ) (b : Bool) (o p : Out) → EveryOut k o → EveryOut k p → EveryOut k (cond b o p)
  cond-every k true o p h q = h
  cond-every k false o p h q = q

  swap-every : (o : Option Tree) (t : Tree) → ((v : Tree) → o ≡ Some v → Every P v) → Every P t → Every P (swap o t)
  unfolding swap
  swap-every None t w k = k
  swap-every (Some v) t w k = w v refl

  nth-every : {n : ℕ} (i : ℕ) (f : Forest n) → Everys P f → (v : Tree) → nth i f ≡ Some v → Every P v
  unfolding nth Every
  nth-every i end d v e = absurd (none-some v e)
  nth-every zero (more t f) d v e = absurd (none-some v e)
  nth-every (suc zero) (more t f) (c, d) v e = let q : t ≡ v = cc in rw (← q) c
  nth-every (suc (suc i)) (more t f) (c, d) v e = nth-every (suc i) f d v e

  child-every : (i : ℕ) (t : Tree) → Every P t → (v : Tree) → child i t ≡ Some v → Every P v
  unfolding child Every
  child-every i (node h u f) (p, d) = nth-every i f d

  kid-every : (i : ℕ) (t : Tree) → Every P t → Every P (kid i t)
  unfolding kid
  kid-every i t d = swap-every (child i t) t (child-every i t d) d

  kids_every : {n : ℕ} (i m : ℕ) (f : Forest n) → Everys P f → Everys P (kids_at i m f)
  unfolding kids_at Every
  kids_every i m end d = tt
  kids_every i m (more t f) (c, d) = (chosen (low m), kids_every i (rest m) f d)
    where
      chosen : (b : Bool) → Every P (cond b (kid i t) t)
      chosen true = kid-every i t c
      chosen false = c

  become-every : (k : ℕ) (o : Option Tree) → ((v : Tree) → o ≡ Some v → Every P v) → EveryOut k (become o)
  unfolding become EveryOut
  become-every k None w = tt
  become-every k (Some v) w = λ _. w v refl

  assign-every : {n : ℕ} (ps : List Param) (f : Forest n) → Everys P f → EverySub (assign ps f)
  unfolding assign Every
  assign-every [] f d x v e = absurd (none-some v e)
  assign-every (p ∷ ps) end d x v e = absurd (none-some v e)
  assign-every (p ∷ ps) (more t f) (c, d) x v e = by_name (eqb x p.name) (assign-every ps f d x v) e
    where
      by_name : (b : Bool) → (assign ps f x ≡ Some v → Every P v) → cond b (Some t) (assign ps f x) ≡ Some v → Every P v
      by_name true ih e = let q : t ≡ v = cc in rw (← q) c
      by_name false ih e = ih e

  -- Settling -----------------------------------------------------------------------------------------------------

  mutual
    unfolding Every settle

    pub settle-every : (k : ℕ) (v t : Tree) → Every P v → Every P t → Every P (settle k v t)
    settle-every k v (node h u f) w (p, d) = swap-every (due k v h) _ (λ o e. let (_, q) = due-is k v h o e in rw (← q) w) (p, settles-every k v f w d)

    settles-every : {n : ℕ} (k : ℕ) (v : Tree) (f : Forest n) → Every P v → Everys P f → Everys P (settles k v f)
    settles-every k v end w d = tt
    settles-every k v (more t f) w (c, d) = (settle-every k v t w c, settles-every k v f w d)

  module _ (form : ℕ → Form) where
    mutual
      unfolding Every put hide

      pub put-every : (σ : Sub) (t : Tree) → EverySub σ → Every P t → Every P (put form σ t)
      put-every σ (node h u f) w (p, d) = swap-every (hit σ h) _ (λ v e. w (word_of h) v (hit-is σ h v e).1) (p, puts-every (scope form h u (tys f)) σ f w d)

      puts-every : {n : ℕ} (s : ℕ → List Param) (σ : Sub) (f : Forest n) → EverySub σ → Everys P f → Everys P (puts form s σ f)
      puts-every s σ end w d = tt
      puts-every s σ (more t f) w (c, d) = (put-every (hide (s 0) σ) t (λ x v q. w x v (unveiled (find (s 0) x) (σ x) v q)) c, puts-every (λ i. s (suc i)) σ f w d)

    -- Steps ------------------------------------------------------------------------------------------------------

    -- the rows that the rules make, from the row that they reduce
    pub record Makes : Type 0 where
      pub truths : (b : Bool) (u : ℕ) → P isnil u → P (lit (truth b)) u
      pub zip_nil : (n u : ℕ) → P (apply n) u → P nil u
      pub zip_cons : (n u : ℕ) → P (apply n) u → P cons u
      pub zip_head : (n u : ℕ) → P (apply n) u → P (apply n) (elem_of (form u))
      pub map_nil : (i u : ℕ) → P (lproject i) u → P nil u
      pub map_cons : (i u : ℕ) → P (lproject i) u → P cons u
      pub map_head : (i u : ℕ) → P (lproject i) u → P (project i) (elem_of (form u))
      pub tied : (u : ℕ) → P fix u → P lambda u

    module _ (k : ℕ) (ok : Makes) where
      zip-every : {n : ℕ} (u m : ℕ) (c : Tree) (args : Forest n) → P (apply n) u → Every P c → Everys P args → EveryOut k (zip_step form u m c args)
      unfolding zip_step zip_cons EveryOut Every
      zip-every {n} u m c args r p d =
          cond-every k (ready m args) _ _
          (cond-every k (any_nil m args) _ _ (λ _. (ok.zip_nil n u r, tt))
          (λ _. (ok.zip_cons n u r, ((ok.zip_head n u r, (kid-every 1 c p, kids_every 1 m args d)), ((r, (p, kids_every 2 m args d)), tt)))))
          tt

      send-every : {n : ℕ} (u : ℕ) (c : Tree) (args : Forest n) → EveryOut k (send_step k u c args)
      unfolding send_step EveryOut New Every
      send-every u c args = cond-every k (values args) _ _ (λ p. (p, tt)) tt

      apply-every : {n : ℕ} (u : ℕ) (c : Tree) (args : Forest n) → P (apply n) u → Every P c → Everys P args → EveryOut k (apply_step form k u c args)
      unfolding apply_step EveryOut
      apply-every u c args r p d =
          cond-every k (is 6 c) _ _ (λ _. put-every (assign (params (form (ty_of c))) args) (kid 1 c) (assign-every (params (form (ty_of c))) args d) (kid-every 1 c p))
          (cond-every k (is 7 c) _ _ (send-every u c args) (cond-every k (is 15 c) _ _ (zip-every u (n_of (head_of c)) c args r p d) tt))

      isnil-every : (u : ℕ) (c : Tree) → P isnil u → EveryOut k (isnil_step u c)
      unfolding isnil_step EveryOut Every
      isnil-every u c r = cond-every k (is 12 c) _ _ (λ _. (ok.truths true u r, tt)) (cond-every k (is 13 c) _ _ (λ _. (ok.truths false u r, tt)) tt)

      lproject-every : (u i : ℕ) (c : Tree) → P (lproject i) u → Every P c → EveryOut k (lproject_step form i u c)
      unfolding lproject_step EveryOut Every
      lproject-every u i c r p =
          cond-every k (is 12 c) _ _ (λ _. (ok.map_nil i u r, tt))
          (cond-every k (is 13 c) _ _ (λ _. (ok.map_cons i u r, ((ok.map_head i u r, (kid-every 1 c p, tt)), ((r, (kid-every 2 c p, tt)), tt)))) tt)

      tie-every : (u : ℕ) (c : Tree) (ps : List Param) → P fix u → Every P c → EveryOut k (tie form u c ps)
      unfolding tie EveryOut Every
      tie-every u c [] r q = tt
      tie-every u c (p ∷ ps) r q = λ _. (ok.tied u r, (put-every _ (kid 1 c) (assign-every (p ∷ []) _ ((r, (q, tt)), tt)) (kid-every 1 c q), tt))

      contract-every : (h : Head) (u : ℕ) (f : Forest (arity h)) → P h u → Everys P f → EveryOut k (contract form k h u f)
      unfolding contract if_step project_step fix_step let_step EveryOut Every
      contract-every (lit l) u f r d = tt
      contract-every (var x) u f r d = tt
      contract-every lambda u f r d = tt
      contract-every (foreign w) u f r d = tt
      contract-every (apply n) u (more c args) r (p, d) = apply-every u c args r p d
      contract-every (future j) u f r d = tt
      contract-every ite u (more c (more a (more b end))) r (p, (q, (t, _))) = cond-every k (is 3 c) _ _ (λ _. q) (cond-every k (is 4 c) _ _ (λ _. t) tt)
      contract-every fix u (more c end) r (p, _) = cond-every k (is 6 c) _ _ (tie-every u c (params (form (ty_of c))) r p) tt
      contract-every nil u f r d = tt
      contract-every cons u f r d = tt
      contract-every isnil u (more c end) r (p, _) = isnil-every u c r
      contract-every (zip m) u f r d = tt
      contract-every (tuple n) u f r d = tt
      contract-every (project i) u (more c end) r (p, _) = cond-every k (is 16 c) _ _ (become-every k (child i c) (child-every i c p)) tt
      contract-every (lproject i) u (more c end) r (p, _) = lproject-every u i c r p
      contract-every (bind x) u (more a (more b end)) r (p, (q, _)) = λ _. put-every _ b (assign-every _ (more a end) (p, tt)) q

    mutual
      unfolding Every EveryOut

      pub follows-every : {k : ℕ} {c : Option Call} {t u : Tree} → Follows form k c t u → Makes → New k c → Every P t → Every P u
      follows-every (root {k} {h} {u} {f} e) ok w (p, d) = (rw e at (contract-every k ok h u f p d)) w
      follows-every (inside p) ok w (r, d) = (r, follows-everys p ok w d)

      follows-everys : {n k : ℕ} {c : Option Call} {a : Places} {f g : Forest n} → FollowsIn form n k c a f g → Makes → New k c → Everys P f → Everys P g
      follows-everys (this e p) ok w (c, d) = (follows-every p ok w c, d)
      follows-everys (that p) ok w (c, d) = (c, follows-everys p ok w d)

    pub step-every : (k : ℕ) (t : Tree) (c : Option Call) (u : Tree) → Makes → New k c → Every P t → step form k t ≡ go c u → Every P u
    step-every k t c u ok w d e = follows-every (step-free form k c t u e) ok w d

    -- the row that a step changes has the fact
    pub changed_row : (k : ℕ) (c : Option Call) (t : Tree) (us : List Row) → (d : Changed form k c (flat t) us) → Every P t → P d.head d.type
    unfolding AllRows flat
    changed_row k c t us d p =
        let old = node d.head d.type d.below in
        (rows_left P (flat old) d.after (rows_right P d.before (flat old ++ d.after) (rw d.was at (every-rows P t p)))).0

-- Futures listed ---------------------------------------------------------------------------------------------------

-- in a list in which the sent call, if any, stands already
pub listed-step : (form : ℕ → Form) (Φ : ℕ → Option ℕ) (k : ℕ) (t : Tree) (c : Option Call) (u : Tree) → ((d : Call) → c ≡ Some d → Φ k ≡ Some d.result) → Listed Φ t → step form k t ≡ go c u → Listed Φ u
listed-step form Φ k t c u w d e =
    step-every (Due Φ) form k t c u
    (record {
      truths = λ b u p j q. cc;
      zip_nil = λ n u p j q. cc;
      zip_cons = λ n u p j q. cc;
      zip_head = λ n u p j q. cc;
      map_nil = λ i u p j q. cc;
      map_cons = λ i u p j q. cc;
      map_head = λ i u p j q. cc;
      tied = λ u p j q. cc;
    })
    (new-of (Due Φ) k c (λ a q j p. let n : k ≡ j = cc in rw (← n) (w a q))) d e

-- Kinds, fields and type numbers in range --------------------------------------------------------------------------

abbrev in_range : Head → Bool
in_range h = fits (get_or kind_fields (code h) none-used) (raw (record { head = h; type = 0 }))

legal-if : (count : ℕ) (h : Head) (u : ℕ) → legal count h u → (within 1 (last_kind version) (code h) ≡ true) × (in_range h ≡ true) × (u < count)
unfolding row_fault raw fits
legal-if count h u e = let (a, b, c) = all-passed _ _ _ e in (a, b, ltb-true u count c)
  where
    all-passed : (a b c : Bool) → cond a (cond b (cond c None (Some Number)) (Some Field)) (Some Kind) ≡ None → (a ≡ true) × (b ≡ true) × (c ≡ true)
    all-passed true true true e = (refl, refl, refl)
    all-passed true true false e = absurd (none-some Number (sym e))
    all-passed true false c e = absurd (none-some Field (sym e))
    all-passed false b c e = absurd (none-some Kind (sym e))

legal-of : (count : ℕ) (h : Head) (u : ℕ) → within 1 (last_kind version) (code h) ≡ true → in_range h ≡ true → u < count → legal count h u
unfolding row_fault raw fits
legal-of count h u a b c = rw (a, b, lt-ltb u count c) refl

-- what the type table promises of the parts of a type
pub record Parts (form : ℕ → Form) (count : ℕ) : Type 0 where
  pub elem : (t e : ℕ) → t < count → form t ≡ f_list e → e < count

module _ (form : ℕ → Form) (count : ℕ) where
  elem_below : Parts form count → (u : ℕ) → u < count → elem_of (form u) < count
  unfolding elem_of
  elem_below ps u h = by_form (form u) refl
    where
      by_form : (f : Form) → form u ≡ f → elem_of f < count
      by_form absent e = omega arith
      by_form (base b) e = omega arith
      by_form (f_list el) e = ps.elem u el h e
      by_form (f_tuple ts) e = omega arith
      by_form (f_fun s qs r) e = omega arith

  truth-legal : (b : Bool) (u : ℕ) → u < count → legal count (lit (truth b)) u
  unfolding fits within_one raw last_kind within code n_of word_of ◌∧ᵇ◌
  truth-legal true u h = legal-of count (lit (truth true)) u refl refl h
  truth-legal false u h = legal-of count (lit (truth false)) u refl refl h

  future-legal : (k u : ℕ) → 1 ≤ k → k ≤ 65535 → u < count → legal count (future k) u
  unfolding fits raw last_kind code n_of word_of
  future-legal k u a b h = legal-of count (future k) u (within_of 1 19 9 (omega arith) (omega arith)) (both _ _ (within_of 0 0 0 (omega arith) (omega arith)) (range-one 1 65535 k a b)) h

  legal-makes : Parts form count → Makes (legal count) form
  unfolding fits within_one raw last_kind within code n_of word_of ◌∧ᵇ◌
  legal-makes ps =
      record {
        truths = λ b u p. truth-legal b u (legal-if count isnil u p).2;
        zip_nil = λ n u p. legal-of count nil u refl refl (legal-if count (apply n) u p).2;
        zip_cons = λ n u p. legal-of count cons u refl refl (legal-if count (apply n) u p).2;
        zip_head = λ n u p. let (a, b, c) = legal-if count (apply n) u p in legal-of count (apply n) (elem_of (form u)) a b (elem_below ps u c);
        map_nil = λ i u p. legal-of count nil u refl refl (legal-if count (lproject i) u p).2;
        map_cons = λ i u p. legal-of count cons u refl refl (legal-if count (lproject i) u p).2;
        map_head = λ i u p. let (a, b, c) = legal-if count (lproject i) u p in legal-of count (project i) (elem_of (form u)) refl b (elem_below ps u c);
        tied = λ u p. legal-of count lambda u refl refl (legal-if count fix u p).2;
      }

  -- the type of a sent call is one of the table
  pub sent-legal : (k : ℕ) (t : Tree) (c : Call) (u : Tree) → Every (legal count) t → step form k t ≡ go (Some c) u → c.result < count
  unfolding ty_of
  sent-legal k t c u p e =
      let d = step-changes form k (Some c) t u e in
      let l = legal-if count d.head d.type (changed_row (legal count) form k (Some c) t (flat u) d p) in
      let q : d.type ≡ c.result = ap ty_of (root-sends form k c d.head d.type d.below d.new d.rule).was in
      omega (arith, l.2)

  pub legal-step : Parts form count → (k : ℕ) (t : Tree) (c : Option Call) (u : Tree) → ((d : Call) → c ≡ Some d → (1 ≤ k) × (k ≤ 65535)) → Every (legal count) t → step form k t ≡ go c u → Every (legal count) u
  legal-step ps k t c u w p e =
      step-every (legal count) form k t c u (legal-makes ps)
      (new-of (legal count) k c (λ d q. future-legal k d.result (w d q).0 (w d q).1 (sent-legal k t d u p (rw q at e)))) p e
