-- Each call is answered at most once: in a history no two accepted replies have one number. Assumes nothing.
use Prim.Native.Nat.{ℕ, ◌<◌}
use mathlib.Core.Path.{◌≡◌, refl, ap, sym, ◌∙◌}
use mathlib.Core.Bool.{Bool, true, false, cond, not}
use mathlib.Core.List.{List, [], ◌∷◌, ◌++◌}
use Rattle.std.specs.Prelude.{Option, None, Some}
use native.Mathlib.Omega.{arith}
use borrow.Author.Tests.{eqb-true, ne_eqb}
use lib.Dec.{eqb}
use lib.ListN.{length}
use Rattle.meaning.specs.Bytes.{Limits, record_bytes}
use Rattle.meaning.specs.Types.{member, distinct}
use Rattle.meaning.specs.Terms.{Tree}
use Rattle.meaning.specs.Steps.{Call}
use Rattle.meaning.specs.Records.{State, Entry, record_of, sound, listed}
use Rattle.meaning.specs.Entries.{load, stepped, sent, reply_number, without, replied_state, reply_verdict, replied_out, reply, Move, running, replying, after_move}
use Rattle.meaning.specs.declared.Refusal.{Refusal}
use Rattle.meaning.specs.declared.Refusal.TheVariants.{Length}
use Rattle.meaning.specs.Answers.{Verdict}
use Rattle.std.specs.Prelude.{Ok, Err}
use Rattle.meaning.proofs.Trees.Tests.{both, none-some}
use Rattle.meaning.proofs.Bytes.Layouts.{AllBytes}
use Rattle.meaning.proofs.Bytes.Records.{Good}
use Rattle.meaning.proofs.Entries.OpenList.{gone, listed-fact}
use Rattle.meaning.proofs.Entries.Replying.{accepted-reply}
use Rattle.meaning.proofs.Entries.Running.{behind_step, PassesTo}
use Rattle.meaning.proofs.Entries.GoodStays.{Board}
use Rattle.meaning.proofs.Entries.OnGoodStates.{reply-good, reply-short}
use Rattle.meaning.proofs.Entries.Paths.{run-keeps}
use Rattle.meaning.proofs.Entries.Histories.{taken, behind_move, Holds, move-holds, load-holds, sound-holds}

-- the numbers of the replies that a history takes, in order
unfoldable pub settled_in : Verdict → ℕ → List ℕ
settled_in (Ok tt) k = k ∷ []
settled_in (Err r) k = []

unfoldable pub settled_by : Limits → List ℕ → Move → List ℕ
settled_by m b (running budget work) = []
settled_by m b (replying answer work) = settled_in (reply m b work answer).verdict (reply_number answer)

unfoldable pub settled_numbers : Limits → List ℕ → List Move → List ℕ
settled_numbers m b [] = []
settled_numbers m b (v ∷ vs) = settled_by m b v ++ settled_numbers m (after_move m b v) vs

-- A number that was given and is not listed ------------------------------------------------------------------------

pub record Shut (k : ℕ) (s : State) : Type 0 where
  pub given : k < s.next
  pub unlisted : listed s.calls k ≡ None

none-with : (es : List Entry) (e : Entry) (k : ℕ) → (e.number ≡ k → ⊥) → listed es k ≡ None → listed (es ++ (e ∷ [])) k ≡ None
unfolding listed
none-with [] e k n q = rw (ne_eqb e.number k n) refl
none-with (x ∷ es) e k n q = go (eqb x.number k) q (none-with es e k n)
  where
    go : (b : Bool) → cond b (Some x.type) (listed es k) ≡ None → (listed es k ≡ None → listed (es ++ (e ∷ [])) k ≡ None) → cond b (Some x.type) (listed (es ++ (e ∷ [])) k) ≡ None
    go true q h = absurd (none-some x.type (sym q))
    go false q h = h q

none-without : (j k : ℕ) (es : List Entry) → listed es k ≡ None → listed (without j es) k ≡ None
unfolding listed without
none-without j k [] q = refl
none-without j k (x ∷ es) q = go (eqb x.number j) (eqb x.number k) refl q (none-without j k es)
  where
    go : (a b : Bool) → eqb x.number k ≡ b → cond b (Some x.type) (listed es k) ≡ None → (listed es k ≡ None → listed (without j es) k ≡ None) → listed (cond a es (x ∷ without j es)) k ≡ None
    go a true e q h = absurd (none-some x.type (sym q))
    go true false e q h = q
    go false false e q h = rw e (h q)

-- stays so: numbers are given rising
behind-shut : (k : ℕ) (s : State) (c : Option Call) (u : Tree) → Shut k s → Shut k (behind_step s c u)
unfolding behind_step stepped sent
behind-shut k s None u h = record { given = h.given; unlisted = h.unlisted }
behind-shut k s (Some c) u h =
    record { given = omega (arith, h.given); unlisted = none-with s.calls (record { number = s.next; type = c.result }) k (λ e. omega (arith, h.given)) h.unlisted }

step-shut : (m : Limits) (k : ℕ) (s u : State) (c : Option Call) → PassesTo m s c u → Shut k s → Shut k u
step-shut m k s u c p h = rw p.state (behind-shut k s c p.tree h)

taken-shut : (k : ℕ) (v : Verdict) (s : State) (answer : List ℕ) → Shut k s → Shut k (taken v (replied_state s answer) s)
unfolding taken replied_state
taken-shut k (Ok tt) s answer h = record { given = h.given; unlisted = none-without (reply_number answer) k s.calls h.unlisted }
taken-shut k (Err r) s answer h = h

cond-shut : (k : ℕ) (t : Bool) (new old : State) → Shut k new → Shut k old → Shut k (cond t new old)
cond-shut k true new old h g = h
cond-shut k false new old h g = g

pub move-shut : (m : Limits) (k : ℕ) (s : State) → Shut k s → (v : Move) → Shut k (behind_move m s v)
unfolding behind_move
move-shut m k s h (running budget work) = cond-shut k (eqb (length work) m.work_bytes) _ s (run-keeps m (Shut k) (step-shut m k) budget s h) h
move-shut m k s h (replying answer work) = cond-shut k (eqb (length work) m.work_bytes) _ s (taken-shut k (reply_verdict m s answer) s answer h) h

-- One call ---------------------------------------------------------------------------------------------------------

-- what a reply's verdict tells: it was open, and is shut behind it
pub data Settling (m : Limits) (s : State) (v : Move) (ks : List ℕ) : Type 0 where
  settles-none : ks ≡ [] → Settling m s v ks
  settles-one : (k t : ℕ) → ks ≡ k ∷ [] → listed s.calls k ≡ Some t → Shut k (behind_move m s v) → Settling m s v ks

replied-verdict : (m : Limits) (s : State) (answer kept work : List ℕ) (v : Verdict) → (replied_out m s answer kept work v).verdict ≡ v
unfolding replied_out
replied-verdict m s answer kept work v = refl

accepted-shut : (m : Limits) (s : State) (answer : List ℕ) → Good m s → reply_verdict m s answer ≡ Ok tt
    → (t : ℕ) × (listed s.calls (reply_number answer) ≡ Some t) × Shut (reply_number answer) (replied_state s answer)
unfolding replied_state
accepted-shut m s answer g e =
    let a = (accepted-reply m s answer e).1 in
    (a.type, a.open-call, record { given = listed-fact (λ (x : Entry). x.number < s.next) s.calls (reply_number answer) a.type g.calls_below a.open-call; unlisted = gone (reply_number answer) s.calls 0 g.calls_rise })

verdict-settles : (m : Limits) (s : State) (answer work : List ℕ) (v : Verdict) → Good m s → reply_verdict m s answer ≡ v → eqb (length work) m.work_bytes ≡ true
    → Settling m s (replying answer work) (settled_in v (reply_number answer))
unfolding settled_in behind_move taken
verdict-settles m s answer work (Ok tt) g q e = let (t, l, h) = accepted-shut m s answer g q in settles-one (reply_number answer) t refl l (rw (e, q) h)
verdict-settles m s answer work (Err r) g q e = settles-none refl

refused-settles : (m : Limits) (s : State) (v : Move) (r : Refusal) (k : ℕ) → Settling m s v (settled_in (Err r) k)
unfolding settled_in
refused-settles m s v r k = settles-none refl

move-settles : (m : Limits) (b : Board m) (s : State) → Good m s → (v : Move) → Settling m s v (settled_by m (record_of m s) v)
unfolding settled_by
move-settles m b s g (running budget work) = settles-none refl
move-settles m b s g (replying answer work) = go (eqb (length work) m.work_bytes) refl
  where
    go : (t : Bool) → eqb (length work) m.work_bytes ≡ t → Settling m s (replying answer work) (settled_in (reply m (record_of m s) work answer).verdict (reply_number answer))
    go true e =
        rw (reply-good m b.small s g work answer (eqb-true _ _ e), replied-verdict m s answer (record_of m s) work (reply_verdict m s answer))
        (verdict-settles m s answer work (reply_verdict m s answer) g refl e)
    go false e =
        rw (reply-short m b.small s g work answer e, replied-verdict m s answer (record_of m s) work (Err Length)) (refused-settles m s (replying answer work) Length (reply_number answer))

-- Histories --------------------------------------------------------------------------------------------------------

-- a number that is shut is not settled again
not-again : (k : ℕ) (m : Limits) (s : State) (v : Move) (ks js : List ℕ) → Settling m s v ks → Shut k s → member k js ≡ false → member k (ks ++ js) ≡ false
unfolding member
not-again k m s v ks js (settles-none e) h q = rw e q
not-again k m s v ks js (settles-one j t e l d) h q = rw (e, ne_eqb k j (λ i. none-some t (sym h.unlisted ∙ ap (listed s.calls) i ∙ l))) q

pub shut-stays : (m : Limits) → Board m → (types : List (List ℕ)) (p k : ℕ) (b : List ℕ) (vs : List Move) → (h : Holds m types p b) → Shut k h.state → member k (settled_numbers m b vs) ≡ false
unfolding settled_numbers member move-holds
shut-stays m w types p k b [] h d = refl
shut-stays m w types p k b (v ∷ vs) h d =
    not-again k m h.state v (settled_by m b v) (settled_numbers m (after_move m b v) vs) (rw h.bytes (move-settles m w h.state h.good v)) d
    (shut-stays m w types p k (after_move m b v) vs (move-holds m w types p b v h) (move-shut m k h.state d v))

distinct-then : (m : Limits) (s : State) (v : Move) (ks js : List ℕ) → Settling m s v ks → ((k : ℕ) → Shut k (behind_move m s v) → member k js ≡ false) → distinct js ≡ true → distinct (ks ++ js) ≡ true
unfolding distinct
distinct-then m s v ks js (settles-none e) h q = rw e q
distinct-then m s v ks js (settles-one k t e l d) h q = rw e (both _ _ (ap not (h k d)) q)

pub holds-settle-once : (m : Limits) → Board m → (types : List (List ℕ)) (p : ℕ) (b : List ℕ) (vs : List Move) → Holds m types p b → distinct (settled_numbers m b vs) ≡ true
unfolding settled_numbers distinct move-holds
holds-settle-once m w types p b [] h = refl
holds-settle-once m w types p b (v ∷ vs) h =
    let after = move-holds m w types p b v h in
    distinct-then m h.state v (settled_by m b v) (settled_numbers m (after_move m b v) vs) (rw h.bytes (move-settles m w h.state h.good v))
    (λ k d. shut-stays m w types p k (after_move m b v) vs after d) (holds-settle-once m w types p (after_move m b v) vs after)

-- "no reply serves two": from an accepted load, whatever runs and replies follow
pub settled-once : (m : Limits) (k : Board m) (file kept : List ℕ) (bytes : AllBytes file) (accepted : (load m file kept).verdict ≡ Ok tt) (vs : List Move)
    → distinct (settled_numbers m (load m file kept).record' vs) ≡ true
settled-once m k file kept bytes accepted vs = holds-settle-once m k _ _ _ vs (load-holds m k file kept bytes accepted)

-- and from any sound record
pub sound-settled-once : (m : Limits) (k : Board m) (b : List ℕ) (long : length b ≡ record_bytes m) (bytes : AllBytes b) (is-sound : sound m b ≡ true) (vs : List Move)
    → distinct (settled_numbers m b vs) ≡ true
sound-settled-once m k b long bytes is-sound vs = holds-settle-once m k _ _ b vs (sound-holds m k b long bytes is-sound)
