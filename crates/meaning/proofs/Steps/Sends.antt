-- What a step that sends a call does: where, of which type, with which rows. Assumes nothing.
use Prim.Native.Nat.{ℕ, suc, ◌+◌, ◌<◌}
use mathlib.Core.Path.{◌≡◌, refl, ap, sym, ◌∙◌}
use mathlib.Core.Bool.{Bool, true, false, cond}
use mathlib.Core.List.{List, [], ◌∷◌, ◌++◌, append_assoc, append-nil}
use Rattle.std.specs.Prelude.{Option, None, Some}
use native.Mathlib.Omega.{arith}
use lib.ListN.{length, length-append}
use Rattle.meaning.specs.Types.{frn, Param, Form, f_fun, types, params, find, empty, pick, ◌⹁◌}
use Rattle.meaning.specs.Terms.{Head, lit, var, lambda, foreign, apply, future, ite, fix, nil, cons, isnil, zip, tuple, project, lproject, bind, arity, n_of, word_of, Tree, Forest, node, end, more, head_of, ty_of, is, Row, flat, flats, size, sizes}
use Rattle.meaning.specs.Typing.{list, tys, Rule, scope, Typed, TypedF}
use Rattle.meaning.specs.Steps.{values, Call, Out, stay, go, child, become, if_step, isnil_step, project_step, ready, any_nil, lproject_step, tie, fix_step, send_step, zip_step, apply_step, let_step, contract, Places, step}
use Rattle.meaning.proofs.Trees.Parse.{length-flat, length-flats}
use Rattle.meaning.proofs.Trees.ByKind.{foreign-is}
use Rattle.meaning.proofs.Steps.Preservation.{bare, foreign-parts}
use Rattle.meaning.proofs.Steps.FreeOrder.{Follows, FollowsIn, root, inside, this, that, may-bare, step-free}
use Rattle.meaning.proofs.Steps.RowsStand.{step-changes}

-- an application of a tool to values becomes the future of the next number, of the type that the application states
pub record Sending (k : ℕ) (c : Call) (t u : Tree) : Type 0 where
  pub count : ℕ
  pub function : Tree
  pub args : Forest count
  pub was : t ≡ node (apply count) c.result (more function args)
  pub becomes : u ≡ node (future k) c.result end
  pub tool : is 7 function ≡ true
  pub named : c.tool ≡ word_of (head_of function)
  pub ready : values args ≡ true
  pub sent : c.rows ≡ flats args

unfoldable SendingOut : ℕ → Tree → Out → Type 0
SendingOut k t stay = Unit {0}
SendingOut k t (go None u) = Unit {0}
SendingOut k t (go (Some c) u) = Sending k c t u

cond-sending : (k : ℕ) (t : Tree) (b : Bool) (o p : Out) → (b ≡ true → SendingOut k t o) → SendingOut k t p → SendingOut k t (cond b o p)
cond-sending k t true o p h q = h refl
cond-sending k t false o p h q = q

become-quiet : (k : ℕ) (t : Tree) (o : Option Tree) → SendingOut k t (become o)
unfolding SendingOut become
become-quiet k t None = tt
become-quiet k t (Some v) = tt

module _ (form : ℕ → Form) where
  tie-quiet : (k : ℕ) (t : Tree) (u : ℕ) (c : Tree) (ps : List Param) → SendingOut k t (tie form u c ps)
  unfolding SendingOut tie
  tie-quiet k t u c [] = tt
  tie-quiet k t u c (p ∷ ps) = tt

  apply-sending : {n : ℕ} (k u : ℕ) (c : Tree) (args : Forest n) → SendingOut k (node (apply n) u (more c args)) (apply_step form k u c args)
  unfolding SendingOut apply_step send_step zip_step
  apply-sending {n} k u c args =
      let t = node (apply n) u (more c args) in
      cond-sending k t (is 6 c) _ _ (λ _. tt)
      (cond-sending k t (is 7 c) _ _
      (λ e. cond-sending k t (values args) _ _
      (λ v. record { count = n; function = c; args = args; was = refl; becomes = refl; tool = e; named = refl; ready = v; sent = refl }) tt)
      (cond-sending k t (is 15 c) _ _
      (λ _. cond-sending k t (ready (n_of (head_of c)) args) _ _ (λ _. cond-sending k t (any_nil (n_of (head_of c)) args) _ _ (λ _. tt) tt) tt) tt))

  contract-sending : (k : ℕ) (h : Head) (u : ℕ) (f : Forest (arity h)) → SendingOut k (node h u f) (contract form k h u f)
  unfolding contract SendingOut if_step isnil_step project_step lproject_step fix_step let_step
  contract-sending k (lit l) u f = tt
  contract-sending k (var x) u f = tt
  contract-sending k lambda u f = tt
  contract-sending k (foreign w) u f = tt
  contract-sending k (apply n) u (more c args) = apply-sending k u c args
  contract-sending k (future j) u f = tt
  contract-sending k ite u (more c (more a (more b end))) = let t = node ite u (more c (more a (more b end))) in cond-sending k t (is 3 c) _ _ (λ _. tt) (cond-sending k t (is 4 c) _ _ (λ _. tt) tt)
  contract-sending k fix u (more c end) = cond-sending k (node fix u (more c end)) (is 6 c) _ _ (λ _. tie-quiet k _ u c (params (form (ty_of c)))) tt
  contract-sending k nil u f = tt
  contract-sending k cons u f = tt
  contract-sending k isnil u (more c end) = let t = node isnil u (more c end) in cond-sending k t (is 12 c) _ _ (λ _. tt) (cond-sending k t (is 13 c) _ _ (λ _. tt) tt)
  contract-sending k (zip m) u f = tt
  contract-sending k (tuple n) u f = tt
  contract-sending k (project i) u (more c end) = cond-sending k (node (project i) u (more c end)) (is 16 c) _ _ (λ _. become-quiet k _ (child i c)) tt
  contract-sending k (lproject i) u (more c end) = let t = node (lproject i) u (more c end) in cond-sending k t (is 12 c) _ _ (λ _. tt) (cond-sending k t (is 13 c) _ _ (λ _. tt) tt)
  contract-sending k (bind x) u (more a (more b end)) = tt

  pub root-sends : (k : ℕ) (c : Call) (h : Head) (u : ℕ) (f : Forest (arity h)) (v : Tree) → contract form k h u f ≡ go (Some c) v → Sending k c (node h u f) v
  unfolding SendingOut
  root-sends k c h u f v e = rw e at (contract-sending k h u f)

  -- Where a call is sent from -----------------------------------------------------------------------------------

  -- the application stands among the rows, typed below no name
  pub record Sender (k : ℕ) (c : Call) (rows : List Row) : Type 0 where
    pub old : Tree
    pub new : Tree
    pub sending : Sending k c old new
    pub typed : Typed form empty old
    pub before : List Row
    pub after : List Row
    pub stands : rows ≡ before ++ (flat old ++ after)

  unfoldable SentFrom : ℕ → Option Call → List Row → Type 0
  SentFrom k None rows = Unit {0}
  SentFrom k (Some c) rows = Sender k c rows

  from-ahead : (k : ℕ) (c : Option Call) (p rows : List Row) → SentFrom k c rows → SentFrom k c (p ++ rows)
  unfolding SentFrom
  from-ahead k None p rows d = tt
  from-ahead k (Some c) p rows d =
      record {
        old = d.old;
        new = d.new;
        sending = d.sending;
        typed = d.typed;
        before = p ++ d.before;
        after = d.after;
        stands = ap (λ l. p ++ l) d.stands ∙ simp append_assoc;
      }

  from_then : (k : ℕ) (c : Option Call) (rows q : List Row) → SentFrom k c rows → SentFrom k c (rows ++ q)
  unfolding SentFrom
  from_then k None rows q d = tt
  from_then k (Some c) rows q d =
      record {
        old = d.old;
        new = d.new;
        sending = d.sending;
        typed = d.typed;
        before = d.before;
        after = d.after ++ q;
        stands = ap (λ l. l ++ q) d.stands ∙ simp append_assoc;
      }

  root-from : (k : ℕ) (c : Option Call) (h : Head) (u : ℕ) (f : Forest (arity h)) (v : Tree) → contract form k h u f ≡ go c v → Typed form empty (node h u f) → SentFrom k c (flat (node h u f))
  unfolding SentFrom
  root-from k None h u f v e d = tt
  root-from k (Some c) h u f v e d =
      record { old = node h u f; new = v; sending = root-sends k c h u f v e; typed = d; before = []; after = []; stands = sym (append-nil (flat (node h u f))) }

  mutual
    unfolding Typed ◌⹁◌ pick find flat

    follows-from : {k : ℕ} {c : Option Call} {t u : Tree} → Follows form k c t u → Typed form empty t → SentFrom k c (flat t)
    follows-from (root {k} {c} {h} {u} {f} {t} e) d = root-from k c h u f t e d
    follows-from (inside {k} {c} {h} {u} {f} p) (r, b, d) =
        from-ahead k c (record { head = h; type = u } ∷ []) (flats f) (follows-from-in p (scope form h u (tys f)) (may-bare form h u f (tys f)) d)

    follows-from-in : {n k : ℕ} {c : Option Call} {a : Places} {f g : Forest n} → FollowsIn form n k c a f g → (s : ℕ → List Param) → ((i : ℕ) → a i ≡ true → s i ≡ []) → TypedF form empty s f → SentFrom k c (flats f)
    follows-from-in (this {k} {c} {t} {f} e p) s w (q, d) = from_then k c (flat t) (flats f) (follows-from p (rw (w 0 e) at q))
    follows-from-in (that {k} {c} {t} {f} p) s w (q, d) = from-ahead k c (flat t) (flats f) (follows-from-in p (λ i. s (suc i)) (λ i. w (suc i)) d)

  pub sent-from : (k : ℕ) (t : Tree) (c : Call) (u : Tree) → Typed form empty t → step form k t ≡ go (Some c) u → Sender k c (flat t)
  unfolding SentFrom
  sent-from k t c u d e = follows-from (step-free form k (Some c) t u e) d

  -- What is sent: closed values of the tool's argument types -------------------------------------------------------

  pub record Arguments (c : Call) : Type 0 where
    pub count : ℕ
    pub args : Forest count
    pub rows : c.rows ≡ flats args
    pub params : List Param
    pub tool_type : ℕ
    pub tool-typed : form tool_type ≡ f_fun frn params c.result
    pub all-values : values args ≡ true
    pub closed : TypedF form empty bare args
    pub of_types : list (tys args) ≡ types params

  pub sending-args : (k : ℕ) (c : Call) (t u : Tree) → Sending k c t u → Typed form empty t → Arguments c
  unfolding Typed Rule tys scope list ◌⹁◌ pick find
  sending-args k c t u s d =
      let ((sd, ps, q, l), w, (kc, ka)) = rw s.was at d in
      let (ps', r, q') = foreign-parts form s.function s.tool kc in
      record { count = s.count; args = s.args; rows = s.sent; params = ps; tool_type = ty_of s.function; tool-typed = cc; all-values = s.ready; closed = ka; of_types = l }

  pub sent-arguments : (k : ℕ) (t : Tree) (c : Call) (u : Tree) → Typed form empty t → step form k t ≡ go (Some c) u → Arguments c
  sent-arguments k t c u d e = let s = sent-from k t c u d e in sending-args k c s.old s.new s.sending s.typed

  -- the result type of a sent call is that of some foreign function
  pub sent-type : (k : ℕ) (t : Tree) (c : Call) (u : Tree) → Typed form empty t → step form k t ≡ go (Some c) u → (ps : List Param) × (f : ℕ) × (form f ≡ f_fun frn ps c.result)
  sent-type k t c u d e = let a = sent-arguments k t c u d e in (a.params, a.tool_type, a.tool-typed)

  -- The size of a sent call --------------------------------------------------------------------------------------

  sending-size : (k : ℕ) (c : Call) (t u : Tree) → Sending k c t u → size u + length c.rows + 1 ≡ size t
  unfolding size
  sending-size k c t u s =
      let one : size s.function ≡ 1 = ap size (foreign-is s.function s.tool) in
      let all : length c.rows ≡ sizes s.args = ap length s.sent ∙ length-flats s.args in
      omega (arith, ap size s.was, ap size s.becomes)

  -- an application with its tool and its arguments becomes one row
  pub send-smaller : (k : ℕ) (t : Tree) (c : Call) (u : Tree) → step form k t ≡ go (Some c) u → size u + length c.rows + 1 ≡ size t
  send-smaller k t c u e =
      let d = step-changes form k (Some c) t u e in
      let old = node d.head d.type d.below in
      let s = sending-size k c old d.new (root-sends k c d.head d.type d.below d.new d.rule) in
      let p : size t ≡ length d.before + (size old + length d.after) = sym (length-flat t) ∙ ap length d.was ∙ around d.before d.after old in
      let q : size u ≡ length d.before + (size d.new + length d.after) = sym (length-flat u) ∙ ap length d.is ∙ around d.before d.after d.new in
      omega arith
    where
      around : (a b : List Row) (v : Tree) → length (a ++ (flat v ++ b)) ≡ length a + (size v + length b)
      around a b v = length-append a (flat v ++ b) ∙ ap (λ n. length a + n) (length-append (flat v) b ∙ ap (λ n. n + length b) (length-flat v))

  -- so its argument rows are fewer than the tree's
  pub sent-args : (k : ℕ) (t : Tree) (c : Call) (u : Tree) → step form k t ≡ go (Some c) u → length c.rows < size t
  sent-args k t c u e = omega (arith, send-smaller k t c u e)
