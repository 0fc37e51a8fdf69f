-- A good state stays good: behind a step that a run makes, and behind a reply that is taken. Assumes nothing.
use Prim.Native.Nat.{ℕ, ◌+◌, ◌*◌, ◌≤◌}
use mathlib.Core.Path.{◌≡◌, refl, ap, sym, ◌∙◌}
use mathlib.Core.Bool.{false≢true}
use mathlib.Core.List.{List, [], ◌∷◌, ◌++◌}
use Rattle.std.specs.Prelude.{Option, None, Some}
use native.Mathlib.Omega.{arith}
use borrow.Author.Tests.{eq-eqb}
use lib.ListN.{length}
use Rattle.meaning.specs.Bytes.{◌∧ᵇ◌, Limits, arm}
use Rattle.meaning.specs.Types.{form_of, member, empty}
use Rattle.meaning.specs.Terms.{Head, future, arity, code, word_of, Tree, Forest, node, end, more, ty_of, flat, size}
use Rattle.meaning.specs.Typing.{Typed}
use Rattle.meaning.specs.Steps.{Call, go, swap, due, settle, settles}
use Rattle.meaning.specs.Records.{State, Entry, listed}
use Rattle.meaning.specs.Entries.{stepped, sent, without, reply_number, reply_tree, replied_state, reply_verdict}
use Rattle.std.specs.Prelude.{Ok}
use Rattle.meaning.proofs.Trees.Tests.{none-some}
use Rattle.meaning.proofs.Trees.EachRow.{Fact, Every, Everys, Due, Listed, every-rows, rows-every, all-rows-map}
use Rattle.meaning.proofs.Bytes.Layouts.{Each}
use Rattle.meaning.proofs.Bytes.RowTables.{legal}
use Rattle.meaning.proofs.Bytes.TypeTables.{promised}
use Rattle.meaning.proofs.Typing.Putting.{settle-typed, due-is}
use Rattle.meaning.proofs.Steps.Preservation.{preservation}
use Rattle.meaning.proofs.Bytes.Records.{Small, arm-small, Good}
use Rattle.meaning.proofs.Typing.GroundValues.{Plain}
use Rattle.meaning.proofs.Steps.Sends.{sent-type}
use Rattle.meaning.proofs.Steps.EachRowKept.{Parts, legal-step, listed-step}
use Rattle.meaning.proofs.Entries.Running.{step_of, MaySend, behind_step, PassesTo}
use Rattle.meaning.proofs.Entries.OpenList.{each_append, each_more, rises-with, listed-with, listed-new, length-with, each-without, length_without, rises-without, listed-without}
use Rattle.meaning.proofs.Entries.Replying.{reply-tree, accepted-reply, plain-reply}

-- what a reply settles: a row that stays keeps what is known of it, and the value put brings its own
module _ (P Q : Fact) (k : ℕ) (v : Tree) (keeps : (h : Head) (u : ℕ) → due k v h ≡ None → P h u → Q h u) (new : Every Q v) where
  settle-row : (h : Head) (u : ℕ) (f : Forest (arity h)) (o : Option Tree) → due k v h ≡ o → P h u → Everys Q f → Every Q (swap o (node h u f))
  unfolding swap Every
  settle-row h u f None e p d = (keeps h u e p, d)
  settle-row h u f (Some w) e p d = let q = (due-is k v h w e).1 in rw (← q) new

  mutual
    unfolding Every settle

    pub settle-rows : (t : Tree) → Every P t → Every Q (settle k v t)
    settle-rows (node h u f) (p, d) = settle-row h u (settles k v f) (due k v h) refl p (settles-rows f d)

    settles-rows : {n : ℕ} (f : Forest n) → Everys P f → Everys Q (settles k v f)
    settles-rows end d = tt
    settles-rows (more t f) (p, d) = (settle-rows t p, settles-rows f d)

due-other : (k j : ℕ) (v : Tree) → due k v (future j) ≡ None → j ≡ k → ⊥
unfolding due code word_of ◌∧ᵇ◌
due-other k j v e q =
    let f : due k v (future j) ≡ Some v = rw (eq-eqb j k q) refl in
    none-some v (sym e ∙ f)

-- Replies --------------------------------------------------------------------------------------------------------

-- a reply holds no future
plain-due : (Φ : ℕ → Option ℕ) (h : Head) (u : ℕ) → Plain h u → Due Φ h u
unfolding member code
plain-due Φ h u p k e = absurd (false≢true (rw e at p))

plain-listed : (Φ : ℕ → Option ℕ) (v : Tree) → Every Plain v → Listed Φ v
plain-listed Φ v p = rows-every (Due Φ) v (all-rows-map Plain (Due Φ) (flat v) (plain-due Φ) (every-rows Plain v p))

-- the futures that are left are still listed
listed-settled : (calls : List Entry) (k : ℕ) (v t : Tree) → Every Plain v → Listed (listed calls) t → Listed (listed (without k calls)) (settle k v t)
listed-settled calls k v t p d =
    settle-rows (Due (listed calls)) (Due (listed (without k calls))) k v
    (λ h u e a j q. listed-without k j calls (due-other k j v (ap (due k v) (sym q) ∙ e)) ∙ a j q)
    (plain-listed (listed (without k calls)) v p) t d

pub reply-stays : (m : Limits) (s : State) (answer : List ℕ) → Good m s → reply_verdict m s answer ≡ Ok tt → Good m (replied_state s answer)
unfolding replied_state
reply-stays m s answer g e =
    let (l, a) = accepted-reply m s answer e in
    let form = form_of s.types in
    let o = reply-tree (length s.types) answer l.one-tree in
    let p = plain-reply m s answer g a in
    let (d, q) = settle-typed form (listed s.calls) (reply_number answer) (reply_tree answer) (a.open-call ∙ ap Some (sym a.of-type)) a.typed empty s.tree g.listed g.typed in
    record {
      types_some = g.types_some;
      types_many = g.types_many;
      types_wide = g.types_wide;
      types_pass = g.types_pass;
      rows_many = a.fits;
      legal_rows = settle-rows (legal (length s.types)) (legal (length s.types)) (reply_number answer) (reply_tree answer) (λ h u _ x. x) o.legal-rows s.tree g.legal_rows;
      typed = d;
      calls_many = omega (arith, length_without (reply_number answer) s.calls, g.calls_many);
      calls_rise = rises-without (reply_number answer) s.calls 0 g.calls_rise;
      calls_below = each-without _ (reply_number answer) s.calls g.calls_below;
      calls_ground = each-without _ (reply_number answer) s.calls g.calls_ground;
      next_low = g.next_low;
      next_high = g.next_high;
      listed = listed-settled s.calls (reply_number answer) (reply_tree answer) s.tree p g.listed;
      program = q ∙ g.program;
    }

-- Steps ----------------------------------------------------------------------------------------------------------

-- what is asked of a board: its counts fit their fields, its numbers are numbers of calls, a program fits it, a call its work buffer
pub record Board (m : Limits) : Type 0 where
  pub small : Small m
  pub numbers : m.last_number ≤ 65535
  pub programs : m.program_rows ≤ m.rows
  pub letters : 16 + 8 * m.rows ≤ m.work_bytes

pub arm-board : Board arm
arm-board = record { small = arm-small; numbers = omega arith; programs = omega arith; letters = omega arith }

-- the types that the table's lists are of stand in the table
parts : (m : Limits) (s : State) → Good m s → Parts (form_of s.types) (length s.types)
parts m s g = record { elem = λ t e h q. omega (arith, (promised s.types g.types_pass).elem q) }

numbered : (m : Limits) (s : State) (c : Option Call) → Board m → Good m s → MaySend m s c → (d : Call) → c ≡ Some d → (1 ≤ s.next) × (s.next ≤ 65535)
unfolding MaySend
numbered m s None b g k d e = absurd (none-some d e)
numbered m s (Some c) b g k d e = (g.next_low, omega (arith, b.numbers, k.1))

-- behind a step, whatever it does to the list
module _ (m : Limits) (b : Board m) (s : State) (g : Good m s) (c : Option Call) (u : Tree) (e : step_of s ≡ go c u) (may : MaySend m s c) where
  tree-legal : Every (legal (length s.types)) u
  tree-legal = legal-step (form_of s.types) (length s.types) (parts m s g) s.next s.tree c u (numbered m s c b g may) g.legal_rows e

  tree-typed : Typed (form_of s.types) empty u × (ty_of u ≡ ty_of s.tree)
  tree-typed = preservation (form_of s.types) s.next s.tree c u g.typed e

quiet-stays : (m : Limits) (b : Board m) (s : State) → Good m s → (u : Tree) → step_of s ≡ go None u → size u ≤ m.rows → Good m (stepped s u)
unfolding stepped MaySend
quiet-stays m b s g u e h =
    let (d, q) = tree-typed m b s g None u e tt in
    record {
      types_some = g.types_some;
      types_many = g.types_many;
      types_wide = g.types_wide;
      types_pass = g.types_pass;
      rows_many = h;
      legal_rows = tree-legal m b s g None u e tt;
      typed = d;
      calls_many = g.calls_many;
      calls_rise = g.calls_rise;
      calls_below = g.calls_below;
      calls_ground = g.calls_ground;
      next_low = g.next_low;
      next_high = g.next_high;
      listed = listed-step (form_of s.types) (listed s.calls) s.next s.tree None u (λ d x. absurd (none-some d x)) g.listed e;
      program = q ∙ g.program;
    }

abbrev entered : State → Call → Entry
entered s c = record { number = s.next; type = c.result }

listed_more : (calls : List Entry) (e : Entry) (t : Tree) → Listed (listed calls) t → Listed (listed (calls ++ (e ∷ []))) t
listed_more calls e t d =
    rows-every (Due (listed (calls ++ (e ∷ [])))) t (all-rows-map (Due (listed calls)) (Due (listed (calls ++ (e ∷ [])))) (flat t) (λ h u a k q. listed-with calls e k u (a k q)) (every-rows (Due (listed calls)) t d))

some-call : (c d : Call) → Some c ≡ Some d → c ≡ d
some-call c d e = cc

send-stays : (m : Limits) (b : Board m) (s : State) → Good m s → (c : Call) (u : Tree) → step_of s ≡ go (Some c) u → MaySend m s (Some c) → size u ≤ m.rows → Good m (sent s c u)
unfolding sent MaySend Each
send-stays m b s g c u e may h =
    let form = form_of s.types in
    let (d, q) = tree-typed m b s g (Some c) u e may in
    let (ps, f, r) = sent-type form s.next s.tree c u g.typed e in
    let new = listed-new s.calls (entered s c) g.calls_below in
    record {
      types_some = g.types_some;
      types_many = g.types_many;
      types_wide = g.types_wide;
      types_pass = g.types_pass;
      rows_many = h;
      legal_rows = tree-legal m b s g (Some c) u e may;
      typed = d;
      calls_many = omega (arith, may.0, length-with s.calls (entered s c));
      calls_rise = rises-with s.calls (entered s c) 0 g.next_low g.calls_below g.calls_rise;
      calls_below = each_append _ s.calls (entered s c ∷ []) (each_more _ _ s.calls (λ x l. omega arith) g.calls_below) (omega arith, tt);
      calls_ground = each_append _ s.calls (entered s c ∷ []) g.calls_ground (((promised s.types g.types_pass).call r).0, tt);
      next_low = omega arith;
      next_high = omega (arith, may.1);
      listed = listed-step form (listed (s.calls ++ (entered s c ∷ []))) s.next s.tree (Some c) u (λ d x. new ∙ ap (λ (y : Call). Some y.result) (some-call c d x)) (listed_more s.calls (entered s c) s.tree g.listed) e;
      program = q ∙ g.program;
    }

behind-stays : (m : Limits) (b : Board m) (s : State) → Good m s → (c : Option Call) (u : Tree) → step_of s ≡ go c u → MaySend m s c → size u ≤ m.rows → Good m (behind_step s c u)
unfolding behind_step
behind-stays m b s g None u e may h = quiet-stays m b s g u e h
behind-stays m b s g (Some c) u e may h = send-stays m b s g c u e may h

pub step_stays : (m : Limits) → Board m → (s u : State) (c : Option Call) → PassesTo m s c u → Good m s → Good m u
step_stays m b s u c p g = rw p.state (behind-stays m b s g c p.tree p.steps p.may p.room)
