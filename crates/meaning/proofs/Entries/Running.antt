-- Before a step: each answer is given exactly when what it says holds, and a step is made exactly when none is.
-- Assumes nothing.
use Prim.Native.Nat.{ℕ, ◌≤◌, ◌<◌}
use mathlib.Core.Path.{◌≡◌, refl, ap, sym, ◌∙◌}
use mathlib.Core.Bool.{Bool, true, false, cond}
use Rattle.std.specs.Prelude.{Option, None, Some}
use native.Mathlib.Omega.{arith}
use borrow.Author.Tests.{ltb-true, ltb-false, leb-true, leb-false, lt-ltb, le-ltb, le-leb, lt-leb}
use lib.Dec.{leb, ltb}
use lib.ListN.{length}
use Rattle.meaning.specs.Bytes.{Limits}
use Rattle.meaning.specs.Types.{form_of}
use Rattle.meaning.specs.Terms.{Tree, size}
use Rattle.meaning.specs.Steps.{Call, Out, stay, go, value, step}
use Rattle.meaning.specs.Records.{State}
use Rattle.meaning.specs.Entries.{send_meets, Try, halt, pass, need, unmet, stepped, sent, try_out, try, on_step, next_state}
use Rattle.meaning.specs.declared.Answer.{Answer}
use Rattle.meaning.specs.declared.Answer.TheVariants.{Value, Waiting, Sent, Held, Budget, Room, Numbers}

abbrev pub step_of : State → Out
step_of s = step (form_of s.types) s.next s.tree

-- a send finds the list not full and a number left
unfoldable pub MaySend : Limits → State → Option Call → Type 0
MaySend m s None = Unit {0}
MaySend m s (Some c) = (length s.calls < m.calls) × (s.next ≤ m.last_number)

-- what it meets: HELD exactly if the list is full, NUMBERS exactly if it is not and no number is left
pub data SendMeets (m : Limits) (s : State) : Type 0 where
  meets-nothing : send_meets m s ≡ None → length s.calls < m.calls → s.next ≤ m.last_number → SendMeets m s
  meets-held : send_meets m s ≡ Some Held → m.calls ≤ length s.calls → SendMeets m s
  meets-numbers : send_meets m s ≡ Some Numbers → length s.calls < m.calls → m.last_number < s.next → SendMeets m s

pub send-meets : (m : Limits) (s : State) → SendMeets m s
unfolding send_meets
send-meets m s = by-calls (ltb (length s.calls) m.calls) refl
  where
    by_number : ltb (length s.calls) m.calls ≡ true → (b : Bool) → leb s.next m.last_number ≡ b → SendMeets m s
    by_number p true q = meets-nothing (rw (p, q) refl) (ltb-true _ _ p) (leb-true _ _ q)
    by_number p false q = meets-numbers (rw (p, q) refl) (ltb-true _ _ p) (leb-false _ _ q)

    by-calls : (b : Bool) → ltb (length s.calls) m.calls ≡ b → SendMeets m s
    by-calls true p = by_number p (leb s.next m.last_number) refl
    by-calls false p = meets-held (rw p refl) (ltb-false _ _ p)

pub nothing-meets : (m : Limits) (s : State) → length s.calls < m.calls → s.next ≤ m.last_number → send_meets m s ≡ None
unfolding send_meets
nothing-meets m s a b = rw (lt-ltb (length s.calls) m.calls a, le-leb s.next m.last_number b) refl

pub held-meets : (m : Limits) (s : State) → m.calls ≤ length s.calls → send_meets m s ≡ Some Held
unfolding send_meets
held-meets m s h = rw (le-ltb (length s.calls) m.calls h) refl

pub numbers-meets : (m : Limits) (s : State) → length s.calls < m.calls → m.last_number < s.next → send_meets m s ≡ Some Numbers
unfolding send_meets
numbers-meets m s a b = rw (lt-ltb (length s.calls) m.calls a, lt-leb s.next m.last_number b) refl

-- "Before each step, in this order": when each answer is given
unfoldable pub Halts : Limits → State → Answer → Type 0
Halts m s Value = value s.tree ≡ true
Halts m s Waiting = (value s.tree ≡ false) × (step_of s ≡ stay)
Halts m s (Sent k) = ⊥
Halts m s Held = (value s.tree ≡ false) × ((c : Call) × (u : Tree) × (step_of s ≡ go (Some c) u) × (m.calls ≤ length s.calls))
Halts m s Budget = ⊥
Halts m s Room = (value s.tree ≡ false) × ((c : Option Call) × (u : Tree) × (step_of s ≡ go c u) × MaySend m s c × (m.rows < size u))
Halts m s Numbers = (value s.tree ≡ false) × ((c : Call) × (u : Tree) × (step_of s ≡ go (Some c) u) × (length s.calls < m.calls) × (m.last_number < s.next))

-- the state behind a step
unfoldable pub behind_step : State → Option Call → Tree → State
behind_step s None u = stepped s u
behind_step s (Some c) u = sent s c u

-- when a step is made, and the state behind it
pub record PassesTo (m : Limits) (s : State) (c : Option Call) (s' : State) : Type 0 where
  pub open-term : value s.tree ≡ false
  pub tree : Tree
  pub steps : step_of s ≡ go c tree
  pub may : MaySend m s c
  pub room : size tree ≤ m.rows
  pub state : s' ≡ behind_step s c tree

-- a try tells the truth
unfoldable pub Tried : Limits → State → Try → Type 0
Tried m s (halt a) = Halts m s a
Tried m s (pass c u) = PassesTo m s c u

-- Tries -----------------------------------------------------------------------------------------

room-tells : (m : Limits) (s : State) (c : Option Call) (u : Tree) → value s.tree ≡ false → step_of s ≡ go c u → MaySend m s c → (b : Bool) → leb (size u) m.rows ≡ b
    → Tried m s (need b Room (pass c (behind_step s c u)))
unfolding Tried need Halts
room-tells m s c u v e k true q = record { open-term = v; tree = u; steps = e; may = k; room = leb-true _ _ q; state = refl }
room-tells m s c u v e k false q = (v, (c, u, e, k, leb-false _ _ q))

send-tells : (m : Limits) (s : State) (c : Call) (u : Tree) → value s.tree ≡ false → step_of s ≡ go (Some c) u → SendMeets m s
    → Tried m s (unmet (send_meets m s) (need (leb (size u) m.rows) Room (pass (Some c) (behind_step s (Some c) u))))
unfolding Tried unmet Halts MaySend
send-tells m s c u v e (meets-nothing q a b) = rw q (room-tells m s (Some c) u v e (a, b) (leb (size u) m.rows) refl)
send-tells m s c u v e (meets-held q a) = rw q (v, (c, u, e, a))
send-tells m s c u v e (meets-numbers q a b) = rw q (v, (c, u, e, a, b))

out-tells : (m : Limits) (s : State) (o : Out) → value s.tree ≡ false → step_of s ≡ o → Tried m s (try_out m s o)
unfolding Tried try_out Halts MaySend behind_step
out-tells m s stay v e = (v, e)
out-tells m s (go None u) v e = room-tells m s None u v e tt (leb (size u) m.rows) refl
out-tells m s (go (Some c) u) v e = send-tells m s c u v e (send-meets m s)

value_tells : (m : Limits) (s : State) (b : Bool) → value s.tree ≡ b → Tried m s (cond b (halt Value) (try_out m s (step_of s)))
unfolding Tried Halts
value_tells m s true q = q
value_tells m s false q = out-tells m s (step_of s) q refl

try-tells : (m : Limits) (s : State) → Tried m s (try m s)
unfolding try
try-tells m s = value_tells m s (value s.tree) refl

-- the answers before a step, in their order, each exactly when what it says holds
pub halts-when : (m : Limits) (s : State) (a : Answer) → try m s ≡ halt a → Halts m s a
unfolding Tried
halts-when m s a e = rw e at (try-tells m s)

pub passes-when : (m : Limits) (s : State) (c : Option Call) (u : State) → try m s ≡ pass c u → PassesTo m s c u
unfolding Tried
passes-when m s c u e = rw e at (try-tells m s)

-- and the other way round
pub halts-of : (m : Limits) (s : State) (a : Answer) → Halts m s a → try m s ≡ halt a
unfolding Halts MaySend try try_out need unmet
halts-of m s Value v = rw v refl
halts-of m s Waiting (v, e) = rw (v, e) refl
halts-of m s (Sent k) z = absurd z
halts-of m s Held (v, (c, u, e, h)) = rw (v, e, held-meets m s h) refl
halts-of m s Budget z = absurd z
halts-of m s Room (v, (None, u, e, k, h)) = rw (v, e, lt-leb (size u) m.rows h) refl
halts-of m s Room (v, (Some c, u, e, (k, n), h)) = rw (v, e, nothing-meets m s k n, lt-leb (size u) m.rows h) refl
halts-of m s Numbers (v, (c, u, e, k, h)) = rw (v, e, numbers-meets m s k h) refl

pub passes_of : (m : Limits) (s : State) (c : Option Call) (u : State) → PassesTo m s c u → try m s ≡ pass c u
unfolding MaySend try try_out need unmet behind_step
passes_of m s None u p = rw (p.open-term, p.steps, le-leb (size p.tree) m.rows p.room) (ap (pass None) (sym p.state))
passes_of m s (Some c) u p =
    rw (p.open-term, p.steps, nothing-meets m s p.may.0 p.may.1, le-leb (size p.tree) m.rows p.room)
    (ap (pass (Some c)) (sym p.state))

-- so where a step is made, none of them holds
pub passes_none : (m : Limits) (s : State) (c : Option Call) (u : State) → PassesTo m s c u → (a : Answer) → Halts m s a → ⊥
passes_none m s c u p a h = halt-pass a c u (sym (halts-of m s a h) ∙ passes_of m s c u p)
  where
    halt-pass : (a : Answer) (c : Option Call) (u : State) → halt a ≡ pass c u → ⊥
    halt-pass a c u e = let z : ◌≡◌ {A = ℕ} 0 1 = cc in omega arith

on_step_lem : (s : State) (c : Option Call) (t : Tree) → on_step s (go c t) ≡ Some (behind_step s c t)
unfolding on_step behind_step
on_step_lem s None t = refl
on_step_lem s (Some c) t = refl

-- a step that is made is the defined one
pub passes-next : (m : Limits) (s : State) (c : Option Call) (u : State) → PassesTo m s c u → next_state s ≡ Some u
unfolding next_state
passes-next m s c u p =
    ap (on_step s) p.steps ∙ on_step_lem s c p.tree ∙ ap Some (sym p.state)
