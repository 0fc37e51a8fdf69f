-- Histories: from an accepted load, after any runs and replies, refused ones included, and at every state of each run's path, the
-- record is sound, the types are the file's, and the term is alive under the program's type; and no number is sent twice. Assumes nothing.
use Prim.Native.Nat.{ℕ, suc, ◌≤◌, ◌<◌}
use mathlib.Core.Path.{◌≡◌, refl, ap, sym, ◌∙◌}
use mathlib.Core.Bool.{Bool, true, false, cond, not}
use mathlib.Core.List.{List, [], ◌∷◌, ◌++◌}
use Rattle.std.specs.Prelude.{Option, None, Some}
use native.Mathlib.Omega.{arith}
use borrow.Author.Tests.{eqb-true, ne_eqb}
use lib.Dec.{eqb}
use lib.ListN.{length}
use Rattle.meaning.specs.Bytes.{Limits, record_bytes}
use Rattle.meaning.specs.Types.{member, distinct}
use Rattle.meaning.specs.Terms.{ty_of}
use Rattle.meaning.specs.Steps.{Call}
use Rattle.meaning.specs.Records.{State, record_of, state_of, sound}
use Rattle.meaning.specs.Entries.{leaves, load, file_types, file_tree, loaded_state, RunOut, Ended, stepped, sent, runs, ran_out, rejected, run, Replied, replied_state, replied_out, reply_verdict, reply, Move, running, replying, after_move, after, sent_in, sent_by, sends}
use Rattle.meaning.specs.declared.Refusal.{Refusal}
use Rattle.meaning.specs.declared.Refusal.TheVariants.{Length}
use Rattle.meaning.specs.Answers.{Verdict}
use Rattle.std.specs.Prelude.{Ok, Err}
use Rattle.meaning.specs.declared.Answer.{Answer}
use Rattle.meaning.specs.declared.Answer.TheVariants.{Value, Waiting, Sent, Held, Budget, Room, Numbers}
use Rattle.meaning.specs.Answers.{ended_by}
use Rattle.meaning.proofs.Trees.Tests.{both}
use Rattle.meaning.proofs.Bytes.Layouts.{AllBytes, Each}
use Rattle.meaning.proofs.Bytes.Records.{Good, good-state, record-state, state-record}
use Rattle.meaning.proofs.Entries.Running.{Halts, behind_step, PassesTo}
use Rattle.meaning.proofs.Entries.GoodStays.{Board, step_stays, reply-stays}
use Rattle.meaning.proofs.Entries.OnGoodStates.{load-writes, run-good, run_short, reply-good, reply-short}
use Rattle.meaning.proofs.Entries.Alive.{Of, Alive, Lives, lives-state}
use Rattle.meaning.proofs.Entries.Paths.{RunPath, ends-halted, ends-spent, ends-sent, goes_on, last_state, Walk, run-traced, run-keeps, step_of, path-lives}
use Rattle.meaning.proofs.Bytes.Files.{loaded-good}

-- One call -------------------------------------------------------------------------------------------------------

-- the state behind a call on the bytes of a state
unfoldable pub taken : Verdict → State → State → State
taken (Ok tt) new old = new
taken (Err r) new old = old

unfoldable pub behind_move : Limits → State → Move → State
behind_move m s (running budget work) = cond (eqb (length work) m.work_bytes) (runs m budget s).state s
behind_move m s (replying answer work) = cond (eqb (length work) m.work_bytes) (taken (reply_verdict m s answer) (replied_state s answer) s) s

leaves-taken : (m : Limits) (v : Verdict) (new old : State) → leaves v (record_of m new) (record_of m old) ≡ record_of m (taken v new old)
unfolding leaves taken
leaves-taken m (Ok tt) new old = refl
leaves-taken m (Err r) new old = refl

ran-record : (m : Limits) (e : Ended) → (ran_out m e).record' ≡ record_of m e.state
unfolding ran_out
ran-record m e = refl

rejected-record : (r : Refusal) (kept work : List ℕ) → (rejected r kept work).record' ≡ kept
unfolding rejected
rejected-record r kept work = refl

replied-record : (m : Limits) (s : State) (answer kept work : List ℕ) (v : Verdict) → (replied_out m s answer kept work v).record' ≡ leaves v (record_of m (replied_state s answer)) kept
unfolding replied_out
replied-record m s answer kept work v = refl

-- a call leaves the bytes of that state
pub move-bytes : (m : Limits) (b : Board m) (s : State) → Good m s → (v : Move) → after_move m (record_of m s) v ≡ record_of m (behind_move m s v)
unfolding after_move behind_move taken
move-bytes m b s g (running budget work) = go (eqb (length work) m.work_bytes) refl
  where
    go : (t : Bool) → eqb (length work) m.work_bytes ≡ t → (run m (record_of m s) work budget).record' ≡ record_of m (cond t (runs m budget s).state s)
    go true e = ap (λ (o : RunOut). o.record') (run-good m b.small s g work budget (eqb-true _ _ e)) ∙ ran-record m (runs m budget s)
    go false e = ap (λ (o : RunOut). o.record') (run_short m b.small s g work budget e) ∙ rejected-record Length (record_of m s) work
move-bytes m b s g (replying answer work) = go (eqb (length work) m.work_bytes) refl
  where
    go : (t : Bool) → eqb (length work) m.work_bytes ≡ t
        → (reply m (record_of m s) work answer).record' ≡ record_of m (cond t (taken (reply_verdict m s answer) (replied_state s answer) s) s)
    go true e = ap (λ (o : Replied). o.record') (reply-good m b.small s g work answer (eqb-true _ _ e)) ∙ replied-record m s answer (record_of m s) work (reply_verdict m s answer)
        ∙ leaves-taken m (reply_verdict m s answer) (replied_state s answer) s
    go false e = ap (λ (o : Replied). o.record') (reply-short m b.small s g work answer e) ∙ replied-record m s answer (record_of m s) work (Err Length)
        ∙ leaves-taken m (Err Length) (replied_state s answer) s

taken-good : (m : Limits) (v : Verdict) (new old : State) → (v ≡ Ok tt → Good m new) → Good m old → Good m (taken v new old)
unfolding taken
taken-good m (Ok tt) new old h g = h refl
taken-good m (Err r) new old h g = g

cond-good : (m : Limits) (t : Bool) (new old : State) → Good m new → Good m old → Good m (cond t new old)
cond-good m true new old h g = h
cond-good m false new old h g = g

-- which is good again
pub move-good : (m : Limits) (b : Board m) (s : State) → Good m s → (v : Move) → Good m (behind_move m s v)
unfolding behind_move
move-good m b s g (running budget work) = cond-good m (eqb (length work) m.work_bytes) _ s (run-keeps m (Good m) (step_stays m b) budget s g) g
move-good m b s g (replying answer work) =
    cond-good m (eqb (length work) m.work_bytes) _ s (taken-good m (reply_verdict m s answer) _ s (λ e. reply-stays m s answer g e) g) g

-- and of the same program
taken_of : (types : List (List ℕ)) (p : ℕ) (v : Verdict) (s : State) (answer : List ℕ) → Of types p s → Of types p (taken v (replied_state s answer) s)
unfolding taken replied_state
taken_of types p (Ok tt) s answer h = record { same-types = h.same-types; same-program = h.same-program }
taken_of types p (Err r) s answer h = h

cond_of : (types : List (List ℕ)) (p : ℕ) (t : Bool) (new old : State) → Of types p new → Of types p old → Of types p (cond t new old)
cond_of types p true new old h g = h
cond_of types p false new old h g = g

pub move-of : (m : Limits) (types : List (List ℕ)) (p : ℕ) (s : State) → Of types p s → (v : Move) → Of types p (behind_move m s v)
unfolding behind_move
move-of m types p s h (running budget work) = cond_of types p (eqb (length work) m.work_bytes) _ s (run-keeps m (Of types p) (step_of m types p) budget s h) h
move-of m types p s h (replying answer work) = cond_of types p (eqb (length work) m.work_bytes) _ s (taken_of types p (reply_verdict m s answer) s answer h) h

-- Histories ------------------------------------------------------------------------------------------------------

-- the record holds a good state of a program
pub record Holds (m : Limits) (types : List (List ℕ)) (p : ℕ) (b : List ℕ) : Type 0 where
  pub state : State
  pub good : Good m state
  pub of-program : Of types p state
  pub bytes : b ≡ record_of m state

unfoldable pub move-holds : (m : Limits) → Board m → (types : List (List ℕ)) (p : ℕ) (b : List ℕ) (v : Move) → Holds m types p b → Holds m types p (after_move m b v)
move-holds m k types p b v h =
    record {
      state = behind_move m h.state v;
      good = move-good m k h.state h.good v;
      of-program = move-of m types p h.state h.of-program v;
      bytes = ap (λ (x : List ℕ). after_move m x v) h.bytes ∙ move-bytes m k h.state h.good v;
    }

pub history-holds : (m : Limits) → Board m → (types : List (List ℕ)) (p : ℕ) (b : List ℕ) (vs : List Move) → Holds m types p b → Holds m types p (after m b vs)
unfolding after
history-holds m k types p b [] h = h
history-holds m k types p b (v ∷ vs) h = history-holds m k types p (after_move m b v) vs (move-holds m k types p b v h)

pub holds-alive : (m : Limits) → Board m → (types : List (List ℕ)) (p : ℕ) (b : List ℕ) → Holds m types p b → Alive m types p b
holds-alive m k types p b h = rw h.bytes (lives-state m k.small types p h.state h.good h.of-program).alive

-- and so does every state on the path of a run
pub holds-walks : (m : Limits) → Board m → (types : List (List ℕ)) (p : ℕ) (b : List ℕ) → Holds m types p b
    → {budget n : ℕ} {a : Answer} {x y : List ℕ} → (w : Walk m b budget a n x y) → Each (Lives m types p) (state_of m b ∷ w.states)
holds-walks m k types p b h w =
    let e : state_of m b ≡ h.state = ap (state_of m) h.bytes ∙ state-record m h.state k.small h.good in
    path-lives m k types p w.path (rw e h.good) (rw e h.of-program)

-- From a load ------------------------------------------------------------------------------------------------------

module _ (m : Limits) (k : Board m) (file kept : List ℕ) (bytes : AllBytes file) (accepted : (load m file kept).verdict ≡ Ok tt) where
  pub load-holds : Holds m (file_types file) (ty_of (file_tree file)) (load m file kept).record'
  unfolding load loaded_state
  load-holds =
      record {
        state = loaded_state file;
        good = loaded-good m file (length kept) accepted bytes k.programs;
        of-program = record { same-types = refl; same-program = refl };
        bytes = load-writes m file kept accepted;
      }

  -- after any runs and replies, refused ones included
  pub alive : (vs : List Move) → Alive m (file_types file) (ty_of (file_tree file)) (after m (load m file kept).record' vs)
  alive vs = holds-alive m k (file_types file) (ty_of (file_tree file)) _ (history-holds m k (file_types file) (ty_of (file_tree file)) _ vs load-holds)

  -- and at every state that a run after them passes through
  pub alive-within : (vs : List Move) → {budget n : ℕ} {a : Answer} {x y : List ℕ} → (w : Walk m (after m (load m file kept).record' vs) budget a n x y)
      → Each (Lives m (file_types file) (ty_of (file_tree file))) (state_of m (after m (load m file kept).record' vs) ∷ w.states)
  alive-within vs w = holds-walks m k (file_types file) (ty_of (file_tree file)) _ (history-holds m k (file_types file) (ty_of (file_tree file)) _ vs load-holds) w

-- From any sound record, however it came about ---------------------------------------------------------------------

module _ (m : Limits) (k : Board m) (b : List ℕ) (long : length b ≡ record_bytes m) (bytes : AllBytes b) (is-sound : sound m b ≡ true) where
  pub sound-holds : Holds m (state_of m b).types (state_of m b).program b
  sound-holds =
      record {
        state = state_of m b;
        good = good-state m b k.small long bytes is-sound;
        of-program = record { same-types = refl; same-program = refl };
        bytes = sym (record-state m b k.small long bytes is-sound);
      }

  pub sound-alive : (vs : List Move) → Alive m (state_of m b).types (state_of m b).program (after m b vs)
  sound-alive vs = holds-alive m k (state_of m b).types (state_of m b).program _ (history-holds m k (state_of m b).types (state_of m b).program b vs sound-holds)

-- Numbers --------------------------------------------------------------------------------------------------------

-- numbers from `low` on, each above the one before
unfoldable pub Climbs : ℕ → List ℕ → Type 0
Climbs low [] = Unit {0}
Climbs low (k ∷ ks) = (low ≤ k) × Climbs (suc k) ks

climbs-lower : (low high : ℕ) (ks : List ℕ) → low ≤ high → Climbs high ks → Climbs low ks
unfolding Climbs
climbs-lower low high [] h c = tt
climbs-lower low high (k ∷ ks) h (a, c) = (omega arith, c)

-- what a call sends: nothing, the next number no smaller; or one number, the next one behind it
pub data Sends (low high : ℕ) (ks : List ℕ) : Type 0 where
  silent : ks ≡ [] → low ≤ high → Sends low high ks
  one : (k : ℕ) → ks ≡ k ∷ [] → low ≤ k → high ≡ suc k → Sends low high ks

sends-then : (low high : ℕ) (ks js : List ℕ) → Sends low high ks → Climbs high js → Climbs low (ks ++ js)
unfolding Climbs
sends-then low high ks js (silent e h) c = rw e (climbs-lower low high js h c)
sends-then low high ks js (one k e h q) c = rw e (h, rw (← q) c)

sends_lower : (low mid high : ℕ) (ks : List ℕ) → low ≤ mid → Sends mid high ks → Sends low high ks
sends_lower low mid high ks h (silent e q) = silent e (omega arith)
sends_lower low mid high ks h (one k e q r) = one k e (omega arith) r

stopped-silent : (m : Limits) (s : State) (a : Answer) (n : ℕ) → Halts m s a → sent_in (ended_by a n) ≡ []
unfolding Halts sent_in
stopped-silent m s Value n h = refl
stopped-silent m s Waiting n h = refl
stopped-silent m s (Sent k) n h = absurd h
stopped-silent m s Held n h = refl
stopped-silent m s Budget n h = refl
stopped-silent m s Room n h = refl
stopped-silent m s Numbers n h = refl

step-next : (m : Limits) (s u : State) (c : Option Call) → PassesTo m s c u → s.next ≤ u.next
unfolding behind_step stepped sent
step-next m s u c p = rw p.state (later c)
  where
    later : (c : Option Call) → s.next ≤ (behind_step s c p.tree).next
    later None = omega arith
    later (Some c) = omega arith

-- along a path
path-sends : (m : Limits) (n : ℕ) {b : ℕ} {s : State} {us : List State} {a : Answer} {l : List ℕ} → RunPath m b s us a l → Sends s.next (last_state s us).next (sent_in (ended_by a n))
unfolding last_state sent_in behind_step sent
path-sends m n (ends-halted {budget} {s} {a} h) = silent (stopped-silent m s a n h) (omega arith)
path-sends m n (ends-spent p) = silent refl (omega arith)
path-sends m n (ends-sent {budget} {s} {u} {c} p) = one s.next refl (omega arith) (ap (λ (q : State). q.next) p.state)
path-sends m n (goes_on {budget} {s} {u} {us} p w) = sends_lower s.next u.next (last_state u us).next _ (step-next m s u None p) (path-sends m n w)

run-sends : (m : Limits) (budget : ℕ) (s : State) → Sends s.next (runs m budget s).state.next (sent_in (ended_by (runs m budget s).answer (runs m budget s).made))
run-sends m budget s = let w = run-traced m budget s in rw (← w.last) (path-sends m (runs m budget s).made w.path)

ran-answer : (m : Limits) (e : Ended) → (ran_out m e).answer ≡ ended_by e.answer e.made
unfolding ran_out
ran-answer m e = refl

rejected-silent : (r : Refusal) (kept work : List ℕ) → sent_in (rejected r kept work).answer ≡ []
unfolding rejected sent_in
rejected-silent r kept work = refl

taken_next : (v : Verdict) (s : State) (answer : List ℕ) → s.next ≤ (taken v (replied_state s answer) s).next
unfolding taken replied_state
taken_next (Ok tt) s answer = omega arith
taken_next (Err r) s answer = omega arith

cond-next : (t : Bool) (new old : State) → old.next ≤ new.next → old.next ≤ (cond t new old).next
cond-next true new old h = h
cond-next false new old h = omega arith

move-sends : (m : Limits) (b : Board m) (s : State) → Good m s → (v : Move) → Sends s.next (behind_move m s v).next (sent_by m (record_of m s) v)
unfolding sent_by behind_move
move-sends m b s g (running budget work) = go (eqb (length work) m.work_bytes) refl
  where
    go : (t : Bool) → eqb (length work) m.work_bytes ≡ t → Sends s.next (cond t (runs m budget s).state s).next (sent_in (run m (record_of m s) work budget).answer)
    go true e = rw (run-good m b.small s g work budget (eqb-true _ _ e), ran-answer m (runs m budget s)) (run-sends m budget s)
    go false e = silent (ap (λ (o : RunOut). sent_in o.answer) (run_short m b.small s g work budget e) ∙ rejected-silent Length (record_of m s) work) (omega arith)
move-sends m b s g (replying answer work) = silent refl (cond-next (eqb (length work) m.work_bytes) _ s (taken_next (reply_verdict m s answer) s answer))

pub sends-climb : (m : Limits) → Board m → (types : List (List ℕ)) (p : ℕ) (b : List ℕ) (vs : List Move) → (h : Holds m types p b) → Climbs h.state.next (sends m b vs)
unfolding sends Climbs move-holds
sends-climb m k types p b [] h = tt
sends-climb m k types p b (v ∷ vs) h =
    sends-then h.state.next (behind_move m h.state v).next (sent_by m b v) (sends m (after_move m b v) vs)
    (rw h.bytes (move-sends m k h.state h.good v)) (sends-climb m k types p (after_move m b v) vs (move-holds m k types p b v h))

climbs-fresh : (x low : ℕ) (ks : List ℕ) → x < low → Climbs low ks → member x ks ≡ false
unfolding Climbs member
climbs-fresh x low [] h c = refl
climbs-fresh x low (k ∷ ks) h (a, c) = rw (ne_eqb x k (λ e. omega arith)) (climbs-fresh x (suc k) ks (omega arith) c)

climbs-distinct : (low : ℕ) (ks : List ℕ) → Climbs low ks → distinct ks ≡ true
unfolding Climbs distinct
climbs-distinct low [] c = refl
climbs-distinct low (k ∷ ks) (a, c) = both _ _ (ap not (climbs-fresh k (suc k) ks (omega arith) c)) (climbs-distinct (suc k) ks c)

-- "every call sent has its own number": no number is sent twice in a history
pub sent-once : (m : Limits) → Board m → (file kept : List ℕ) → AllBytes file → (load m file kept).verdict ≡ Ok tt → (vs : List Move)
    → distinct (sends m (load m file kept).record' vs) ≡ true
sent-once m k file kept h e vs = climbs-distinct _ _ (sends-climb m k (file_types file) (ty_of (file_tree file)) _ vs (load-holds m k file kept h e))
