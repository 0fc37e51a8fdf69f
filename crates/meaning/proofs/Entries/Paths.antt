-- The path of a run: the states that it passes through, its answer and the call that it sends; that a run on bytes goes such a path, that there is
-- only one, and that the term is alive at every state of it. Assumes nothing.
use Prim.Native.Nat.{ℕ, zero, suc, ◌≤◌, ◌<◌}
use mathlib.Core.Path.{◌≡◌, refl, ap, sym, ◌∙◌}
use mathlib.Core.Bool.{true}
use mathlib.Core.List.{List, [], ◌∷◌}
use Rattle.std.specs.Prelude.{Option, None, Some}
use native.Mathlib.Omega.{arith}
use lib.ListN.{length}
use Rattle.meaning.specs.Bytes.{Limits, record_bytes, padded}
use Rattle.meaning.specs.Terms.{Tree}
use Rattle.meaning.specs.Steps.{Call}
use Rattle.meaning.specs.Records.{State, record_of, state_of, sound}
use Rattle.meaning.specs.Entries.{stepped, sent, Try, halt, pass, try, Ended, letter_of, again, ended, onward, runs, next_state, after_steps, lent, ran_out, run}
use Rattle.meaning.specs.declared.Answer.{Answer}
use Rattle.meaning.specs.declared.Answer.TheVariants.{Sent, Budget}
use Rattle.meaning.specs.Answers.{ended_by}
use Rattle.meaning.proofs.Bytes.Layouts.{AllBytes, Each}
use Rattle.meaning.proofs.Bytes.Records.{Good, good-state}
use Rattle.meaning.proofs.Entries.Running.{Halts, behind_step, PassesTo, halts-when, passes-when, halts-of, passes_of, passes_none, passes-next}
use Rattle.meaning.proofs.Entries.OpenList.{each_more}
use Rattle.meaning.proofs.Entries.GoodStays.{Board, step_stays}
use Rattle.meaning.proofs.Entries.Alive.{Of, Lives, lives-state}

-- The promise ------------------------------------------------------------------------------------------------------

-- from state s, with a budget: the states behind s, one for each step made; the answer; the bytes of the call sent, if one is
pub data RunPath (m : Limits) : ℕ → State → List State → Answer → List ℕ → Type 0 where
  -- VALUE, WAITING, HELD, NUMBERS or ROOM: the first line of the table that holds
  ends-halted : {budget : ℕ} {s : State} {a : Answer} → Halts m s a → RunPath m budget s [] a []
  -- none of them holds, and BUDGET does: the budget's steps are made
  ends-spent : {s u : State} {c : Option Call} → PassesTo m s c u → RunPath m 0 s [] Budget []
  -- none of them holds: the step is made and sends. "A send counts as a step and ends the run with 2 SENT"
  ends-sent : {budget : ℕ} {s u : State} {c : Call} → PassesTo m s (Some c) u → RunPath m (suc budget) s (u ∷ []) (Sent s.next) (letter_of s.next c)
  -- none of them holds: the step is made and sends nothing, and the run goes on
  goes_on : {budget : ℕ} {s u : State} {us : List State} {a : Answer} {l : List ℕ} → PassesTo m s None u → RunPath m budget u us a l → RunPath m (suc budget) s (u ∷ us) a l

-- the last state
unfoldable pub last_state : State → List State → State
last_state s [] = s
last_state s (u ∷ us) = last_state u us

-- what a run on bytes comes to: answer, steps made, and every byte of record and work buffer. "The work buffer then holds the call and zeros; after
-- other answers .. only zeros"
pub record Walk (m : Limits) (kept : List ℕ) (budget : ℕ) (a : Answer) (n : ℕ) (kept' work' : List ℕ) : Type 0 where
  pub states : List State
  pub letter : List ℕ
  pub path : RunPath m budget (state_of m kept) states a letter
  pub made : length states ≡ n
  pub kept-bytes : kept' ≡ record_of m (last_state (state_of m kept) states)
  pub work-bytes : work' ≡ padded m.work_bytes letter

-- A run goes a path ------------------------------------------------------------------------------------------------

pub record Traced (m : Limits) (budget : ℕ) (s : State) (e : Ended) : Type 0 where
  pub states : List State
  pub path : RunPath m budget s states e.answer e.letter
  pub made : length states ≡ e.made
  pub last : last_state s states ≡ e.state

ended-traced : (m : Limits) (s : State) (t : Try) → try m s ≡ t → Traced m 0 s (ended s t)
unfolding ended last_state
ended-traced m s (halt a) e = record { states = []; path = ends-halted (halts-when m s a e); made = refl; last = refl }
ended-traced m s (pass c u) e = record { states = []; path = ends-spent (passes-when m s c u e); made = refl; last = refl }

onward-traced : (m : Limits) (b : ℕ) (s : State) (k : State → Ended) (t : Try) → try m s ≡ t → ((u : State) → Traced m b u (k u)) → Traced m (suc b) s (onward s t k)
unfolding onward again last_state
onward-traced m b s k (halt a) e h = record { states = []; path = ends-halted (halts-when m s a e); made = refl; last = refl }
onward-traced m b s k (pass None u) e h =
    let w = h u in
    record { states = u ∷ w.states; path = goes_on (passes-when m s None u e) w.path; made = ap suc w.made; last = w.last }
onward-traced m b s k (pass (Some c) u) e h = record { states = u ∷ []; path = ends-sent (passes-when m s (Some c) u e); made = refl; last = refl }

pub run-traced : (m : Limits) (budget : ℕ) (s : State) → Traced m budget s (runs m budget s)
unfolding runs
run-traced m zero s = ended-traced m s (try m s) refl
run-traced m (suc b) s = onward-traced m b s (λ u. runs m b u) (try m s) refl (λ u. run-traced m b u)

-- on bytes: a run on a sound record answers, and goes a path
pub run-walks : (m : Limits) (kept work : List ℕ) (budget : ℕ) → lent m kept work ≡ true → sound m kept ≡ true
    → (a : Answer) × (n : ℕ) × ((run m kept work budget).answer ≡ ended_by a n) × Walk m kept budget a n (run m kept work budget).record' (run m kept work budget).work'
unfolding run ran_out
run-walks m kept work budget l s =
    let e = runs m budget (state_of m kept) in
    let w = run-traced m budget (state_of m kept) in
    rw (l, s)
    (e.answer, e.made, refl, record { states = w.states; letter = e.letter; path = w.path; made = w.made; kept-bytes = ap (record_of m) (sym w.last); work-bytes = refl })

-- There is only one ------------------------------------------------------------------------------------------------

-- a path by what is tried at its first state
unfoldable Turn : Limits → ℕ → State → Try → List State → Answer → List ℕ → Type 0
Turn m b s (halt x) us a l = (us ≡ []) × (a ≡ x) × (l ≡ [])
Turn m zero s (pass c u) us a l = (us ≡ []) × (a ≡ Budget) × (l ≡ [])
Turn m (suc b) s (pass (Some c) u) us a l = (us ≡ u ∷ []) × (a ≡ Sent s.next) × (l ≡ letter_of s.next c)
Turn m (suc b) s (pass None u) us a l = (vs : List State) × (us ≡ u ∷ vs) × RunPath m b u vs a l

turn : (m : Limits) {b : ℕ} {s : State} {us : List State} {a : Answer} {l : List ℕ} → RunPath m b s us a l → Turn m b s (try m s) us a l
unfolding Turn
turn m (ends-halted {budget} {s} {a} h) = rw (halts-of m s a h) (refl, refl, refl)
turn m (ends-spent {s} {u} {c} p) = rw (passes_of m s c u p) (refl, refl, refl)
turn m (ends-sent {budget} {s} {u} {c} p) = rw (passes_of m s (Some c) u p) (refl, refl, refl)
turn m (goes_on {budget} {s} {u} {us} p w) = rw (passes_of m s None u p) (us, refl, w)

abbrev Same : List State → List State → Answer → Answer → List ℕ → List ℕ → Type 0
Same us vs a c l k = (us ≡ vs) × (a ≡ c) × (l ≡ k)

turn_one : (m : Limits) (b : ℕ) (s : State) (t : Try) (us vs : List State) (a c : Answer) (l k : List ℕ)
    → ((u : State) (us vs : List State) → RunPath m b u us a l → RunPath m b u vs c k → Same us vs a c l k)
    → Turn m (suc b) s t us a l → Turn m (suc b) s t vs c k → Same us vs a c l k
unfolding Turn
turn_one m b s (halt x) us vs a c l k h (e₁, e₂, e₃) (q₁, q₂, q₃) = (cc, cc, cc)
turn_one m b s (pass (Some d) u) us vs a c l k h (e₁, e₂, e₃) (q₁, q₂, q₃) = (cc, cc, cc)
turn_one m b s (pass None u) us vs a c l k h (us', e, w) (vs', q, x) = let (p₁, p₂, p₃) = h u us' vs' w x in (cc, p₂, p₃)

turn-none : (m : Limits) (s : State) (t : Try) (us vs : List State) (a c : Answer) (l k : List ℕ) → Turn m 0 s t us a l → Turn m 0 s t vs c k → Same us vs a c l k
unfolding Turn
turn-none m s (halt x) us vs a c l k (e₁, e₂, e₃) (q₁, q₂, q₃) = (cc, cc, cc)
turn-none m s (pass d u) us vs a c l k (e₁, e₂, e₃) (q₁, q₂, q₃) = (cc, cc, cc)

pub path-one : (m : Limits) (budget : ℕ) (s : State) (us vs : List State) (a c : Answer) (l k : List ℕ) → RunPath m budget s us a l → RunPath m budget s vs c k → (us ≡ vs) × (a ≡ c) × (l ≡ k)
path-one m zero s us vs a c l k p q = turn-none m s (try m s) us vs a c l k (turn m p) (turn m q)
path-one m (suc b) s us vs a c l k p q = turn_one m b s (try m s) us vs a c l k (λ u us vs. path-one m b u us vs a c l k) (turn m p) (turn m q)

-- so where VALUE, WAITING, HELD, NUMBERS or ROOM holds, a run goes no further
pub path-at-stop : (m : Limits) (budget : ℕ) (s : State) (x : Answer) (us : List State) (a : Answer) (l : List ℕ) → Halts m s x → RunPath m budget s us a l → (us ≡ []) × (a ≡ x) × (l ≡ [])
path-at-stop m budget s x us a l h p = path-one m budget s us [] a x l [] p (ends-halted h)

-- and it stops at a send
pub path-at-send : (m : Limits) (budget : ℕ) (s : State) (c : Call) (u : State) (us : List State) (a : Answer) (l : List ℕ) → PassesTo m s (Some c) u → RunPath m (suc budget) s us a l
    → (us ≡ u ∷ []) × (a ≡ Sent s.next) × (l ≡ letter_of s.next c)
path-at-send m budget s c u us a l h p = path-one m (suc budget) s us (u ∷ []) a (Sent s.next) l (letter_of s.next c) p (ends-sent h)

-- so answer, steps, and every byte of record and work buffer are settled, with the states on the way
pub walk-one : (m : Limits) (kept : List ℕ) (budget : ℕ) (a c : Answer) (n j : ℕ) (x y z t : List ℕ) → (v : Walk m kept budget a n x y) → (w : Walk m kept budget c j z t)
    → (v.states ≡ w.states) × (a ≡ c) × (n ≡ j) × (x ≡ z) × (y ≡ t)
walk-one m kept budget a c n j x y z t v w =
    let (e, q, r) = path-one m budget (state_of m kept) v.states w.states a c v.letter w.letter v.path w.path in (
      e,
      q,
      sym v.made ∙ ap length e ∙ w.made,
      v.kept-bytes ∙ ap (λ (us : List State). record_of m (last_state (state_of m kept) us)) e ∙ sym w.kept-bytes,
      v.work-bytes ∙ ap (padded m.work_bytes) r ∙ sym w.work-bytes,
    )

-- Along a path -----------------------------------------------------------------------------------------------------

-- what every step that is made keeps, holds at each state
pub path-keeps : (m : Limits) (P : State → Type 0) → ((s u : State) (c : Option Call) → PassesTo m s c u → P s → P u)
    → {b : ℕ} {s : State} {us : List State} {a : Answer} {l : List ℕ} → RunPath m b s us a l → P s → Each P us
unfolding Each
path-keeps m P h (ends-halted e) p = tt
path-keeps m P h (ends-spent q) p = tt
path-keeps m P h (ends-sent {budget} {s} {u} {c} q) p = (h s u (Some c) q p, tt)
path-keeps m P h (goes_on {budget} {s} {u} q w) p = let r = h s u None q p in (r, path-keeps m P h w r)

pub each_last : (P : State → Type 0) (s : State) (us : List State) → P s → Each P us → P (last_state s us)
unfolding Each last_state
each_last P s [] p d = p
each_last P s (u ∷ us) p (q, d) = each_last P u us q d

pub run-keeps : (m : Limits) (P : State → Type 0) → ((s u : State) (c : Option Call) → PassesTo m s c u → P s → P u) → (budget : ℕ) (s : State) → P s → P (runs m budget s).state
run-keeps m P h budget s p = let w = run-traced m budget s in rw (← w.last) (each_last P s w.states p (path-keeps m P h w.path p))

-- at each of s0 .. s(n-1): none of VALUE, WAITING, HELD, NUMBERS and ROOM holds, the budget is not spent, and the next state is the defined one
unfoldable pub state_at : State → List State → ℕ → State
state_at s us zero = s
state_at s [] (suc i) = s
state_at s (u ∷ us) (suc i) = state_at u us i

pub record Goes (m : Limits) (budget : ℕ) (s : State) (us : List State) (i : ℕ) : Type 0 where
  pub no_line : (x : Answer) → Halts m (state_at s us i) x → ⊥
  pub unspent : i < budget
  pub next : next_state (state_at s us i) ≡ Some (state_at s us (suc i))

passes-goes : (m : Limits) (b : ℕ) (s u : State) (c : Option Call) (us : List State) → PassesTo m s c u → Goes m (suc b) s (u ∷ us) 0
unfolding state_at
passes-goes m b s u c us p = record { no_line = passes_none m s c u p; unspent = omega arith; next = passes-next m s c u p }

goes_later : (m : Limits) (b : ℕ) (s u : State) (us : List State) (i : ℕ) → Goes m b u us i → Goes m (suc b) s (u ∷ us) (suc i)
unfolding state_at
goes_later m b s u us i g = record { no_line = g.no_line; unspent = omega (arith, g.unspent); next = g.next }

pub path-goes : (m : Limits) {b : ℕ} {s : State} {us : List State} {a : Answer} {l : List ℕ} → RunPath m b s us a l → (i : ℕ) → i < length us → Goes m b s us i
path-goes m (ends-halted h) i k = absurd (omega arith)
path-goes m (ends-spent p) i k = absurd (omega arith)
path-goes m (ends-sent {budget} {s} {u} {c} p) zero k = passes-goes m budget s u (Some c) [] p
path-goes m (ends-sent p) (suc i) k = absurd (omega arith)
path-goes m (goes_on {budget} {s} {u} {us} p w) zero k = passes-goes m budget s u None us p
path-goes m (goes_on {budget} {s} {u} {us} p w) (suc i) k = goes_later m budget s u us i (path-goes m w i (omega arith))

-- so the last state is that behind exactly the defined steps, and they are within the budget
no_step : (s : State) → after_steps 0 s ≡ Some s
unfolding after_steps
no_step s = refl

first_then : (n : ℕ) (s u : State) (o : Option State) → next_state s ≡ Some u → after_steps n u ≡ o → after_steps (suc n) s ≡ o
unfolding after_steps
first_then n s u o e q = rw (e, after_steps) q

pub path-makes : (m : Limits) {b : ℕ} {s : State} {us : List State} {a : Answer} {l : List ℕ} → RunPath m b s us a l → after_steps (length us) s ≡ Some (last_state s us)
unfolding last_state
path-makes m (ends-halted {budget} {s} h) = no_step s
path-makes m (ends-spent {s} p) = no_step s
path-makes m (ends-sent {budget} {s} {u} {c} p) = first_then 0 s u (Some u) (passes-next m s (Some c) u p) (no_step u)
path-makes m (goes_on {budget} {s} {u} {us} p w) = first_then (length us) s u (Some (last_state u us)) (passes-next m s None u p) (path-makes m w)

pub path-within : (m : Limits) {b : ℕ} {s : State} {us : List State} {a : Answer} {l : List ℕ} → RunPath m b s us a l → length us ≤ b
path-within m (ends-halted h) = omega arith
path-within m (ends-spent p) = omega arith
path-within m (ends-sent p) = omega arith
path-within m (goes_on p w) = omega (arith, path-within m w)

-- "A run makes exactly the defined steps, in order, as many as it reports"
pub run-makes : (m : Limits) (budget : ℕ) (s : State) → after_steps (runs m budget s).made s ≡ Some (runs m budget s).state
run-makes m budget s = let w = run-traced m budget s in rw (← w.made, ← w.last) (path-makes m w.path)

pub run-within : (m : Limits) (budget : ℕ) (s : State) → (runs m budget s).made ≤ budget
run-within m budget s = let w = run-traced m budget s in omega (arith, path-within m w.path, w.made)

-- how a path ends: an answer of the table holds of its last state; or the budget is spent and a step could be made; or its last step sent a call
-- under the number that was next
pub data PathEnds (m : Limits) (budget : ℕ) (s : State) (us : List State) (a : Answer) (l : List ℕ) : Type 0 where
  stopped : Halts m (last_state s us) a → l ≡ [] → PathEnds m budget s us a l
  spent : a ≡ Budget → length us ≡ budget → (c : Option Call) (u : State) → PassesTo m (last_state s us) c u → l ≡ [] → PathEnds m budget s us a l
  called : (n : ℕ) (p : State) (c : Call) → length us ≡ suc n → after_steps n s ≡ Some p → PassesTo m p (Some c) (last_state s us)
      → a ≡ Sent p.next → l ≡ letter_of p.next c → PathEnds m budget s us a l

ending-later : (m : Limits) (b : ℕ) (s u : State) (us : List State) (a : Answer) (l : List ℕ) → next_state s ≡ Some u → PathEnds m b u us a l → PathEnds m (suc b) s (u ∷ us) a l
unfolding last_state
ending-later m b s u us a l q (stopped x y) = stopped x y
ending-later m b s u us a l q (spent x n c v y z) = spent x (ap suc n) c v y z
ending-later m b s u us a l q (called n p c x y z v w) = called (suc n) p c (ap suc x) (first_then n s u (Some p) q y) z v w

pub path-ends : (m : Limits) {b : ℕ} {s : State} {us : List State} {a : Answer} {l : List ℕ} → RunPath m b s us a l → PathEnds m b s us a l
unfolding last_state
path-ends m (ends-halted h) = stopped h refl
path-ends m (ends-spent {s} {u} {c} p) = spent refl refl c u p refl
path-ends m (ends-sent {budget} {s} {u} {c} p) = called 0 s c refl (no_step s) p refl refl
path-ends m (goes_on {budget} {s} {u} {us} {a} {l} p w) = ending-later m budget s u us a l (passes-next m s None u p) (path-ends m w)

-- a run halts early only after a send, at the budget, or at one of three limits, in the order of the answers before a step
pub run_ends : (m : Limits) (budget : ℕ) (s : State) → (us : List State) × PathEnds m budget s us (runs m budget s).answer (runs m budget s).letter × (length us ≡ (runs m budget s).made) × (last_state s us ≡ (runs m budget s).state)
run_ends m budget s = let w = run-traced m budget s in (w.states, path-ends m w.path, w.made, w.last)

-- Alive at every state ---------------------------------------------------------------------------------------------

behind-of : (types : List (List ℕ)) (p : ℕ) (s : State) (c : Option Call) (u : Tree) → Of types p s → Of types p (behind_step s c u)
unfolding behind_step stepped sent
behind-of types p s None u h = record { same-types = h.same-types; same-program = h.same-program }
behind-of types p s (Some c) u h = record { same-types = h.same-types; same-program = h.same-program }

pub step_of : (m : Limits) (types : List (List ℕ)) (p : ℕ) (s u : State) (c : Option Call) → PassesTo m s c u → Of types p s → Of types p u
step_of m types p s u c q h = rw q.state (behind-of types p s c q.tree h)

pub path-lives : (m : Limits) → Board m → (types : List (List ℕ)) (p : ℕ) {b : ℕ} {s : State} {us : List State} {a : Answer} {l : List ℕ}
    → RunPath m b s us a l → Good m s → Of types p s → Each (Lives m types p) (s ∷ us)
unfolding Each
path-lives m k types p {s} {us} w g o =
    let lives : (u : State) → Good m u × Of types p u → Lives m types p u = λ u h. lives-state m k.small types p u h.0 h.1 in
    (lives s (g, o), each_more (λ u. Good m u × Of types p u) (Lives m types p) us lives (path-keeps m (λ u. Good m u × Of types p u) (λ v u c q h. (step_stays m k v u c q h.0, step_of m types p v u c q h.1)) w (g, o)))

-- "at each moment": the states of a run's path on bytes, the first and the last among them
pub walk-lives : (m : Limits) → Board m → (kept : List ℕ) → length kept ≡ record_bytes m → AllBytes kept → sound m kept ≡ true
    → {budget n : ℕ} {a : Answer} {x y : List ℕ} → (w : Walk m kept budget a n x y)
    → Each (Lives m (state_of m kept).types (state_of m kept).program) (state_of m kept ∷ w.states)
walk-lives m k kept n h s w =
    path-lives m k (state_of m kept).types (state_of m kept).program w.path (good-state m kept k.small n h s) (record { same-types = refl; same-program = refl })
