-- Steps: names replaced at once, futures settled, values, what reduces at a row, where the rules look below it. Assumes nothing.
use Rattle.std.specs.Prelude.{ℕ, zero, suc, Bool, true, false, cond, not, List, [], ◌∷◌, eqb}
use Rattle.std.specs.Prelude.{Option, None, Some}
use Rattle.meaning.specs.Bytes.{◌∧ᵇ◌}
use Rattle.meaning.specs.Types.{Param, Form, params, find, elem_of, low, rest, member}
use Rattle.meaning.specs.Terms.{truth, Head, lit, var, lambda, foreign, apply, future, ite, fix, nil, cons, isnil, zip, tuple, project, lproject, bind, arity, code, n_of, word_of, Tree, Forest, node, end, more, head_of, ty_of, is, Row, flats}
use Rattle.meaning.specs.Typing.{tys, scope}

infixr 30 ◌∨ᵇ◌
unfoldable pub ◌∨ᵇ◌ : Bool → Bool → Bool
true ∨ᵇ b = true
false ∨ᵇ b = b

-- Putting trees for names and for futures ------------------------------------------------------------------------

-- what is put for each name
abbrev pub Sub : Type 0
Sub = ℕ → Option Tree

unfoldable pub veil : Option ℕ → Option Tree → Option Tree
veil None o = o
veil (Some t) o = None

-- "A hidden name stays"
unfoldable pub hide : List Param → Sub → Sub
hide ps σ x = veil (find ps x) (σ x)

unfoldable pub swap : Option Tree → Tree → Tree
swap None t = t
swap (Some v) t = v

-- what is put at a row: at a variable, what is put for its name
unfoldable pub hit : Sub → Head → Option Tree
hit σ h = cond (eqb (code h) 5) (σ (word_of h)) None

-- the i-th argument for the i-th name
unfoldable pub assign : {n : ℕ} → List Param → Forest n → Sub
assign [] f x = None
assign (p ∷ ps) end x = None
assign (p ∷ ps) (more t f) x = cond (eqb x p.name) (Some t) (assign ps f x)

-- "put the arguments or bound term, unevaluated, for the free names at once"
module _ (form : ℕ → Form) where
  unfoldable mutual
    pub put : Sub → Tree → Tree
    put σ (node h ty f) = swap (hit σ h) (node h ty (puts (scope form h ty (tys f)) σ f))

    pub puts : {n : ℕ} → (ℕ → List Param) → Sub → Forest n → Forest n
    puts s σ end = end
    puts s σ (more t f) = more (put (hide (s 0) σ) t) (puts (λ i. s (suc i)) σ f)

-- "An accepted reply replaces every future of its number by its rows"
unfoldable pub due : ℕ → Tree → Head → Option Tree
due k v h = cond (eqb (code h) 9 ∧ᵇ eqb (word_of h) k) (Some v) None

unfoldable mutual
  pub settle : ℕ → Tree → Tree → Tree
  settle k v (node h ty f) = swap (due k v h) (node h ty (settles k v f))

  pub settles : {n : ℕ} → ℕ → Tree → Forest n → Forest n
  settles k v end = end
  settles k v (more t f) = more (settle k v t) (settles k v f)

-- Values ---------------------------------------------------------------------------------------------------------

-- "Values: kinds 1 to 4, 6, 7, 12, 15; cons and tuple of values"
abbrev pub value_kinds : List ℕ
value_kinds = 1 ∷ 2 ∷ 3 ∷ 4 ∷ 6 ∷ 7 ∷ 12 ∷ 15 ∷ []

abbrev pub made_of_values : List ℕ
made_of_values = 13 ∷ 16 ∷ []

unfoldable mutual
  pub value : Tree → Bool
  value (node h ty f) = cond (member (code h) value_kinds) true (member (code h) made_of_values ∧ᵇ values f)

  pub values : {n : ℕ} → Forest n → Bool
  values end = true
  values (more t f) = value t ∧ᵇ values f

-- The rules that reduce at a row ---------------------------------------------------------------------------------

-- a call as it is sent: tool, argument rows, result type
pub record Call : Type 0 where
  pub tool : ℕ
  pub rows : List Row
  pub result : ℕ

-- no step; or the tree after it, with the call that it sends, if any
pub data Out : Type 0 where
  stay : Out
  go : Option Call → Tree → Out

-- the i-th tree, counted from 1
unfoldable pub nth : {n : ℕ} → ℕ → Forest n → Option Tree
nth i end = None
nth zero (more t f) = None
nth (suc zero) (more t f) = Some t
nth (suc (suc i)) (more t f) = nth (suc i) f

unfoldable pub child : ℕ → Tree → Option Tree
child i (node h ty f) = nth i f

-- a child that is known to stand there
unfoldable pub kid : ℕ → Tree → Tree
kid i t = swap (child i t) t

unfoldable pub become : Option Tree → Out
become None = stay
become (Some t) = go None t

-- "when the child is true or false"; the paper's 38, 39
unfoldable pub if_step : Tree → Tree → Tree → Out
if_step c a b = cond (is 3 c) (go None a) (cond (is 4 c) (go None b) stay)

-- "nil or cons", "elements unevaluated"; the paper's 41, 42
unfoldable pub isnil_step : ℕ → Tree → Out
isnil_step u c = cond (is 12 c) (go None (node (lit (truth true)) u end)) (cond (is 13 c) (go None (node (lit (truth false)) u end)) stay)

-- "a tuple"; the paper's 45
unfoldable pub project_step : ℕ → Tree → Out
project_step i c = cond (is 16 c) (become (child i c)) stay

-- "Apply of a foreign function: all arguments values, then the whole becomes a future with the next number and a call is sent";
-- the paper's 37
unfoldable pub send_step : {n : ℕ} → ℕ → ℕ → Tree → Forest n → Out
send_step k u c args =
    cond (values args) (go (Some (record { tool = word_of (head_of c); rows = flats args; result = u })) (node (future k) u end)) stay

-- over the masked arguments of a zip: all are nil or cons; one is nil; the heads; the tails
unfoldable pub is_list : Tree → Bool
is_list t = is 12 t ∨ᵇ is 13 t

unfoldable pub ready : {n : ℕ} → ℕ → Forest n → Bool
ready m end = true
ready m (more t f) = cond (low m) (is_list t) true ∧ᵇ ready (rest m) f

unfoldable pub any_nil : {n : ℕ} → ℕ → Forest n → Bool
any_nil m end = false
any_nil m (more t f) = (low m ∧ᵇ is 12 t) ∨ᵇ any_nil (rest m) f

unfoldable pub kids_at : {n : ℕ} → ℕ → ℕ → Forest n → Forest n
kids_at i m end = end
kids_at i m (more t f) = more (cond (low m) (kid i t) t) (kids_at i (rest m) f)

module _ (form : ℕ → Form) where
  -- "List project of a cons gives a cons of the projected head and the list-projected tail"; the paper's 46, 47
  unfoldable pub lproject_step : ℕ → ℕ → Tree → Out
  lproject_step i u c =
      cond (is 12 c) (go None (node nil u end))
      (cond (is 13 c)
      (go None (node cons u (more (node (project i) (elem_of (form u)) (more (kid 1 c) end)) (more (node (lproject i) u (more (kid 2 c) end)) end))))
      stay)

  -- "Fix of a function: the function of the remaining arguments, the first name replaced in its body by the fix term"; the paper's 40
  unfoldable pub tie : ℕ → Tree → List Param → Out
  tie u c [] = stay
  tie u c (p ∷ ps) = go None (node lambda u (more (put form (assign (p ∷ []) (more (node fix u (more c end)) end)) (kid 1 c)) end))

  unfoldable pub fix_step : ℕ → Tree → Out
  fix_step u c = cond (is 6 c) (tie u c (params (form (ty_of c)))) stay

  -- "When all are nil or cons: any nil gives nil; otherwise a cons of the inner function on the heads and the same zip on the
  -- tails, other arguments in both"; house in place of the paper's 43, its 44
  unfoldable pub zip_cons : {n : ℕ} → ℕ → ℕ → Tree → Forest n → Tree
  zip_cons {n} u m c args =
      node cons u (more (node (apply n) (elem_of (form u)) (more (kid 1 c) (kids_at 1 m args))) (more (node (apply n) u (more c (kids_at 2 m args))) end))

  unfoldable pub zip_step : {n : ℕ} → ℕ → ℕ → Tree → Forest n → Out
  zip_step u m c args = cond (ready m args) (cond (any_nil m args) (go None (node nil u end)) (go None (zip_cons u m c args))) stay

  -- the paper's 35, 36 (all arguments at once), 37, 44
  unfoldable pub apply_step : {n : ℕ} → ℕ → ℕ → Tree → Forest n → Out
  apply_step k u c args =
      cond (is 6 c) (go None (put form (assign (params (form (ty_of c))) args) (kid 1 c)))
      (cond (is 7 c) (send_step k u c args)
      (cond (is 15 c) (zip_step u (n_of (head_of c)) c args) stay))

  -- the paper's 48
  unfoldable pub let_step : ℕ → Tree → Tree → Out
  let_step x a b = go None (put form (assign (record { name = x; type = ty_of a } ∷ []) (more a end)) b)

  -- what reduces at a row of type u, where k is the next number. "Nothing else steps"
  unfoldable pub contract : ℕ → (h : Head) → ℕ → Forest (arity h) → Out
  contract k (lit l) u f = stay
  contract k (var x) u f = stay
  contract k lambda u f = stay
  contract k (foreign w) u f = stay
  contract k (apply n) u (more c args) = apply_step k u c args
  contract k (future j) u f = stay
  contract k ite u (more c (more a (more b end))) = if_step c a b
  contract k fix u (more c end) = fix_step u c
  contract k nil u f = stay
  contract k cons u f = stay
  contract k isnil u (more c end) = isnil_step u c
  contract k (zip m) u f = stay
  contract k (tuple n) u f = stay
  contract k (project i) u (more c end) = project_step i c
  contract k (lproject i) u (more c end) = lproject_step i u c
  contract k (bind x) u (more a (more b end)) = let_step x a b

-- Where the rules look below a row -------------------------------------------------------------------------------

-- places among a row's children, counted from 0. Where the row itself reduces they are none, or, of a call that is sent, hold values
-- only; and none lies below a binder, so what is put for a name is closed
abbrev pub Places : Type 0
Places = ℕ → Bool

unfoldable pub nowhere : Places
nowhere i = false

unfoldable pub everywhere : Places
everywhere i = true

unfoldable pub first : Places
first zero = true
first (suc i) = false

-- "Otherwise the child steps"
unfoldable pub unless : Bool → Places
unless true = nowhere
unless false = first

unfoldable pub behind : Places → Places
behind a zero = false
behind a (suc i) = a i

-- "the first masked argument that is neither nil nor cons and can step does"
unfoldable pub unready : {n : ℕ} → ℕ → Forest n → Places
unready m end i = false
unready m (more t f) zero = low m ∧ᵇ not (is_list t)
unready m (more t f) (suc i) = unready (rest m) f i

-- of an application, by its function: "else the first argument that can step does"; "Apply of anything else: its function steps"; the
-- paper's 49, 50
unfoldable pub apply_looks : {n : ℕ} → Tree → Forest n → Places
apply_looks c args =
    cond (is 6 c) nowhere
    (cond (is 7 c) (behind everywhere)
    (cond (is 15 c) (behind (unready (n_of (head_of c)) args)) first))

-- the paper's congruence rules 51 to 57, house for zip
unfoldable pub looks : (h : Head) → Forest (arity h) → Places
looks (lit l) f = nowhere
looks (var x) f = nowhere
looks lambda f = nowhere
looks (foreign w) f = nowhere
looks (apply n) (more c args) = apply_looks c args
looks (future k) f = nowhere
looks ite (more c f) = unless (is 3 c ∨ᵇ is 4 c)
looks fix f = nowhere
looks nil f = nowhere
looks cons f = everywhere
looks isnil (more c f) = unless (is_list c)
looks (zip m) f = nowhere
looks (tuple n) f = everywhere
looks (project i) (more c f) = unless (is 16 c)
looks (lproject i) (more c f) = unless (is_list c)
looks (bind x) f = nowhere

-- One step -------------------------------------------------------------------------------------------------------

pub data Outs : ℕ → Type 0 where
  stays : {n : ℕ} → Outs n
  goes : {n : ℕ} → Option Call → Forest n → Outs n

unfoldable pub or_else : Out → Out → Out
or_else stay o = o
or_else (go c t) o = go c t

unfoldable pub wrap : (h : Head) → ℕ → Outs (arity h) → Out
wrap h u stays = stay
wrap h u (goes c f) = go c (node h u f)

unfoldable pub tail_goes : {n : ℕ} → Tree → Outs n → Outs (suc n)
tail_goes t stays = stays
tail_goes t (goes c f) = goes c (more t f)

unfoldable pub head_goes : {n : ℕ} → Out → Tree → Forest n → Outs n → Outs (suc n)
head_goes stay t f r = tail_goes t r
head_goes (go c t') t f r = goes c (more t' f)

unfoldable pub visit : {n : ℕ} → Bool → Out → Tree → Forest n → Outs n → Outs (suc n)
visit true o t f r = head_goes o t f r
visit false o t f r = tail_goes t r

-- "A step is made at the first fitting place, outer before inner"
module _ (form : ℕ → Form) where
  unfoldable mutual
    pub step : ℕ → Tree → Out
    step k (node h u f) = let r = wrap h u (steps k (looks h f) f) in or_else (contract form k h u f) r

    pub steps : {n : ℕ} → ℕ → Places → Forest n → Outs n
    steps k a end = stays
    steps k a (more t f) =
        let o = step k t in
        let r = steps k (λ i. a (suc i)) f in
        visit (a 0) o t f r

-- Waiting --------------------------------------------------------------------------------------------------------

-- a future that is awaited: its number, and the type that it states
pub record Awaited : Type 0 where
  pub number : ℕ
  pub type : ℕ

unfoldable pub earlier : Option Awaited → Option Awaited → Option Awaited
earlier None o = o
earlier (Some e) o = Some e

-- the first future that stands where the rules look
unfoldable mutual
  pub awaited : Tree → Option Awaited
  awaited (node h u f) = cond (eqb (code h) 9) (Some (record { number = word_of h; type = u })) (awaited_in (looks h f) f)

  pub awaited_in : {n : ℕ} → Places → Forest n → Option Awaited
  awaited_in a end = None
  awaited_in a (more t f) = earlier (cond (a 0) (awaited t) None) (awaited_in (λ i. a (suc i)) f)
