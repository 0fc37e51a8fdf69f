-- What a run does next, by what its term does next. Assumes nothing.
use Prim.Native.Nat.{ℕ, zero, suc, ◌+◌, ◌-◌, ◌<◌, ◌≤◌}
use mathlib.Core.Path.{◌≡◌, refl, ap, sym, ◌∙◌}
use mathlib.Core.Bool.{Bool, true, false}
use mathlib.Core.List.{[]}
use Rattle.std.specs.Prelude.{Option, None, Some}
use native.Mathlib.Omega.{arith}
use lib.ListN.{length}
use Rattle.meaning.specs.Bytes.{Limits}
use Rattle.meaning.specs.Types.{Form, form_of}
use Rattle.meaning.specs.Terms.{Tree, size}
use Rattle.meaning.specs.Steps.{Call, Out, stay, go, value, step}
use Rattle.meaning.specs.Records.{State}
use Rattle.meaning.specs.Entries.{Ended, halt, pass, try, runs, ended, onward, again, stepped, sent, letter_of}
use Rattle.meaning.specs.declared.Answer.{Answer}
use Rattle.meaning.specs.declared.Answer.TheVariants.{Value, Waiting, Sent, Held, Budget, Room, Numbers}
use Rattle.meaning.proofs.Steps.Progress.{value_stays}
use Rattle.meaning.proofs.Bytes.Records.{Good}
use Rattle.meaning.proofs.Entries.Running.{Halts, PassesTo, MaySend, behind_step, halts-of, passes_of}
use Rattle.meaning.proofs.Entries.GoodStays.{Board, step_stays}
use Rattle.runs.specs.Going.{later, OnTheWay}

-- what steps is no value
pub steps-no-value : (form : ℕ → Form) (k : ℕ) (t : Tree) (c : Option Call) (u : Tree) → step form k t ≡ go c u → value t ≡ false
steps-no-value form k t c u e = by (value t) refl
  where
    by : (b : Bool) → value t ≡ b → b ≡ false
    by false q = refl
    by true q = absurd (stay-goes (sym (value_stays form k t q) ∙ e))
      where
        stay-goes : stay ≡ go c u → ⊥
        stay-goes z = let y : ◌≡◌ {A = ℕ} 0 1 = ap (λ (o : Out). elim o [ stay ↦ 0 | go d v ↦ 1 ]) z in absurd (omega arith)

-- how a run from here ends
abbrev stopped : Answer → State → Ended
stopped a s = record { answer = a; made = 0; state = s; letter = [] }

module _ (m : Limits) (s : State) where
  halts : (b : ℕ) (a : Answer) → try m s ≡ halt a → runs m b s ≡ stopped a s
  unfolding runs ended onward
  halts zero a e = rw e refl
  halts (suc b) a e = rw e refl

  spent : (c : Option Call) (u : State) → try m s ≡ pass c u → runs m 0 s ≡ stopped Budget s
  unfolding runs ended
  spent c u e = rw e refl

  one_more : (b : ℕ) (u : State) → try m s ≡ pass None u → runs m (suc b) s ≡ again (runs m b u)
  unfolding runs onward
  one_more b u e = rw e refl

  sends : (b : ℕ) (c : Call) (u : State) → try m s ≡ pass (Some c) u → runs m (suc b) s ≡ record { answer = Sent s.next; made = 1; state = u; letter = letter_of s.next c }
  unfolding runs onward
  sends b c u e = rw e refl

-- THE ANSWERS, by what the term does
module _ (m : Limits) (budget made : ℕ) (s : State) (t : Tree) (w : OnTheWay m budget made s t) where
  abbrev here : State
  here = stepped s t

  at-end : (a : Answer) → try m here ≡ halt a → runs m budget s ≡ record { answer = a; made = made; state = here; letter = [] }
  unfolding later
  at-end a e = let z : made + 0 ≡ made = omega arith in w.goes_on ∙ rw (halts m here (budget - made) a e, z) refl

  pub ends-value : value t ≡ true → runs m budget s ≡ record { answer = Value; made = made; state = here; letter = [] }
  unfolding stepped Halts
  ends-value v = at-end Value (halts-of m here Value v)

  pub ends-waiting : value t ≡ false → step (form_of s.types) s.next t ≡ stay → runs m budget s ≡ record { answer = Waiting; made = made; state = here; letter = [] }
  unfolding stepped Halts
  ends-waiting v e = at-end Waiting (halts-of m here Waiting (v, e))

  -- a step that sends nothing
  module _ (u : Tree) (e : step (form_of s.types) s.next t ≡ go None u) where
    pub ends-room : m.rows < size u → runs m budget s ≡ record { answer = Room; made = made; state = here; letter = [] }
    unfolding stepped Halts MaySend
    ends-room h = at-end Room (halts-of m here Room (steps-no-value (form_of s.types) s.next t None u e, (None, u, e, tt, h)))

    passes : size u ≤ m.rows → PassesTo m here None (stepped s u)
    unfolding stepped MaySend behind_step
    passes h = record { open-term = steps-no-value (form_of s.types) s.next t None u e; tree = u; steps = e; may = tt; room = h; state = refl }

    pub ends-budget : size u ≤ m.rows → made ≡ budget → runs m budget s ≡ record { answer = Budget; made = made; state = here; letter = [] }
    unfolding later
    ends-budget h q =
        let z : made + 0 ≡ made = omega arith in
        let b : budget - made ≡ 0 = omega arith in
        w.goes_on ∙ rw (b, spent m here None (stepped s u) (passes_of m here None (stepped s u) (passes h)), z) refl

    pub step-on : size u ≤ m.rows → (made ≡ budget → ⊥) → OnTheWay m budget (made + 1) s u
    unfolding later again
    step-on h q =
        let b : budget - made ≡ suc (budget - (made + 1)) = omega (arith, w.few, q) in
        let x = one_more m here (budget - (made + 1)) (stepped s u) (passes_of m here None (stepped s u) (passes h)) in
        let z : made + suc (runs m (budget - (made + 1)) (stepped s u)).made ≡ made + 1 + (runs m (budget - (made + 1)) (stepped s u)).made = omega arith in
        record { few = omega (arith, w.few, q); goes_on = w.goes_on ∙ rw (b, x, z) refl }

    pub step-good : Board m → size u ≤ m.rows → Good m here → Good m (stepped s u)
    step-good b h g = step_stays m b here (stepped s u) None (passes h) g

  -- a call
  module _ (c : Call) (u : Tree) (e : step (form_of s.types) s.next t ≡ go (Some c) u) where
    pub ends_held : m.calls ≤ length s.calls → runs m budget s ≡ record { answer = Held; made = made; state = here; letter = [] }
    unfolding stepped Halts
    ends_held h = at-end Held (halts-of m here Held (steps-no-value (form_of s.types) s.next t (Some c) u e, (c, u, e, h)))

    pub ends-numbers : length s.calls < m.calls → m.last_number < s.next → runs m budget s ≡ record { answer = Numbers; made = made; state = here; letter = [] }
    unfolding stepped Halts
    ends-numbers h n = at-end Numbers (halts-of m here Numbers (steps-no-value (form_of s.types) s.next t (Some c) u e, (c, u, e, h, n)))

    passes-call : length s.calls < m.calls → s.next ≤ m.last_number → size u ≤ m.rows → PassesTo m here (Some c) (sent s c u)
    unfolding stepped MaySend behind_step sent
    passes-call h n r = record { open-term = steps-no-value (form_of s.types) s.next t (Some c) u e; tree = u; steps = e; may = (h, n); room = r; state = refl }

    pub ends-call-budget : length s.calls < m.calls → s.next ≤ m.last_number → size u ≤ m.rows → made ≡ budget → runs m budget s ≡ record { answer = Budget; made = made; state = here; letter = [] }
    unfolding later
    ends-call-budget h n r q =
        let z : made + 0 ≡ made = omega arith in
        let b : budget - made ≡ 0 = omega arith in
        w.goes_on ∙ rw (b, spent m here (Some c) (sent s c u) (passes_of m here (Some c) (sent s c u) (passes-call h n r)), z) refl

    pub ends-sent : length s.calls < m.calls → s.next ≤ m.last_number → size u ≤ m.rows → (made ≡ budget → ⊥)
        → runs m budget s ≡ record { answer = Sent s.next; made = made + 1; state = sent s c u; letter = letter_of s.next c }
    unfolding later stepped
    ends-sent h n r q =
        let b : budget - made ≡ suc (budget - (made + 1)) = omega (arith, w.few, q) in
        w.goes_on ∙ rw (b, sends m here (budget - (made + 1)) c (sent s c u) (passes_of m here (Some c) (sent s c u) (passes-call h n r))) refl

-- it begins
pub begins : (m : Limits) (budget : ℕ) (s : State) → OnTheWay m budget 0 s s.tree
unfolding later stepped
begins m budget s =
    let z : budget - 0 ≡ budget = omega arith in
    let y : 0 + (runs m budget s).made ≡ (runs m budget s).made = omega arith in
    record { few = omega arith; goes_on = rw (z, y) refl }
