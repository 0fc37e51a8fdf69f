-- What the entries' statements settle: two outcomes that satisfy one are equal; and on bytes, a run leaves the record of the term after
-- exactly the steps that it reports, a reply is taken exactly for an open call, and what it leaves. Assumes nothing.
use Prim.Native.Nat.{ℕ, ◌≤◌}
use mathlib.Core.Path.{◌≡◌, refl, ap, sym, ◌∙◌}
use mathlib.Core.Bool.{Bool, true, false, cond}
use mathlib.Core.Logic.{◌↔◌}
use mathlib.Core.List.{List, []}
use Rattle.std.specs.Prelude.{Option, None, Some}
use native.Mathlib.Omega.{arith}
use borrow.Author.Tests.{eqb-true}
use lib.ListN.{replicate}
use Rattle.meaning.specs.Bytes.{Limits, padded}
use Rattle.meaning.specs.Terms.{future, Tree, flat}
use Rattle.meaning.specs.Records.{State, record_of, state_of, sound, listed}
use Rattle.meaning.specs.Entries.{leaves, Ended, runs, after_steps, lent, ran_out, rejected, run, LegalReply, reply_number, reply_verdict, Replied, replied_state, replied_out, reply, LoadSays, RunSays, ReplySays}
use Rattle.meaning.specs.declared.Refusal.{Refusal}
use Rattle.meaning.specs.declared.Refusal.TheVariants.{Length, Unsound}
use Rattle.meaning.specs.Answers.{Verdict}
use Rattle.std.specs.Prelude.{Ok, Err}
use Rattle.meaning.specs.declared.Answer.{Answer}
use Rattle.meaning.specs.Answers.{Run}
use Rattle.meaning.specs.Answers.{ended_by}
use Rattle.meaning.proofs.Trees.Tests.{left, none-some}
use Rattle.meaning.proofs.Trees.EachRow.{Every, Due, Listed, every-rows, rows-every, all-rows-map}
use Rattle.meaning.proofs.Bytes.Layouts.{AllBytes, padded-none}
use Rattle.meaning.proofs.Bytes.Records.{Small, Good, good-state, state-record}
use Rattle.meaning.proofs.Entries.Paths.{last_state, Walk, run-walks, path-keeps, each_last, path-makes, path-within, PathEnds, path-ends}
use Rattle.meaning.proofs.Entries.OpenList.{gone, listed-without}
use Rattle.meaning.proofs.Entries.InOrder.{never-accepted}
use Rattle.meaning.proofs.Entries.Replying.{Answers, takes}
use Rattle.meaning.proofs.Entries.GoodStays.{Board, step_stays, reply-stays}

-- "Two outcomes that satisfy it are proved equal" ------------------------------------------------------------------

pub load_one : (m : Limits) (file kept : List ℕ) (v w : Verdict) (a b : List ℕ) → LoadSays m file kept v a → LoadSays m file kept w b → (v ≡ w) × (a ≡ b)
load_one m file kept v w a b p q = (cc, cc)

pub run-one : (m : Limits) (kept work : List ℕ) (budget : ℕ) (r t : Run) (a b c d : List ℕ) → RunSays m kept work budget r a b → RunSays m kept work budget t c d → (r ≡ t) × (a ≡ c) × (b ≡ d)
run-one m kept work budget r t a b c d p q = (cc, cc, cc)

pub reply-one : (m : Limits) (kept work answer : List ℕ) (v w : Verdict) (a b c d : List ℕ) → ReplySays m kept work answer v a b → ReplySays m kept work answer w c d → (v ≡ w) × (a ≡ c) × (b ≡ d)
reply-one m kept work answer v w a b c d p q = (cc, cc, cc)

-- Runs on bytes ----------------------------------------------------------------------------------------------------

-- an answered run was lent the right buffers and a sound record
pub record Answered (m : Limits) (kept work : List ℕ) (budget : ℕ) : Type 0 where
  pub buffers : lent m kept work ≡ true
  pub is-sound : sound m kept ≡ true
  pub outcome : run m kept work budget ≡ ran_out m (runs m budget (state_of m kept))

never-ran : (r : Refusal) (a : Answer) (n : ℕ) → Err r ≡ ended_by a n → ⊥
never-ran r a n e = let z : ◌≡◌ {A = ℕ} 0 1 = cc in omega arith

answered-if : (m : Limits) (e : Ended) (kept work : List ℕ) (a : Answer) (n : ℕ) (x y : Bool)
    → (cond x (cond y (ran_out m e) (rejected Unsound kept work)) (rejected Length kept work)).answer ≡ ended_by a n
    → (x ≡ true) × (y ≡ true) × (cond x (cond y (ran_out m e) (rejected Unsound kept work)) (rejected Length kept work) ≡ ran_out m e)
unfolding rejected
answered-if m e kept work a n true true q = (refl, refl, refl)
answered-if m e kept work a n true false q = absurd (never-ran Unsound a n q)
answered-if m e kept work a n false y q = absurd (never-ran Length a n q)

pub answered : (m : Limits) (kept work : List ℕ) (budget : ℕ) (a : Answer) (n : ℕ) → (run m kept work budget).answer ≡ ended_by a n → Answered m kept work budget
unfolding run
answered m kept work budget a n q =
    let (x, y, z) = answered-if m (runs m budget (state_of m kept)) kept work a n (lent m kept work) (sound m kept) q in
    record { buffers = x; is-sound = y; outcome = z }

-- on bytes: the record after a run that reports n steps is that of the state after exactly n defined steps
pub record Reported (m : Limits) (kept work : List ℕ) (budget : ℕ) (a : Answer) (n : ℕ) : Type 0 where
  pub walk : Walk m kept budget a n (run m kept work budget).record' (run m kept work budget).work'
  pub state : State
  pub last : last_state (state_of m kept) walk.states ≡ state
  pub good : Good m state
  pub steps : after_steps n (state_of m kept) ≡ Some state
  pub within : n ≤ budget
  pub record-bytes : (run m kept work budget).record' ≡ record_of m state
  pub record-state : state_of m (run m kept work budget).record' ≡ state
  pub ends : PathEnds m budget (state_of m kept) walk.states a walk.letter

ran-same : (a b : Answer) (n k : ℕ) → ended_by a n ≡ ended_by b k → (a ≡ b) × (n ≡ k)
ran-same a b n k e = (ap answer_in e, ap steps_in e)
  where
    answer_in : Run → Answer
    answer_in (Ok r) = r.answer
    answer_in (Err x) = a

    steps_in : Run → ℕ
    steps_in (Ok r) = r.steps
    steps_in (Err x) = n

-- an answered run went a path
pub answered-walk : (m : Limits) (kept work : List ℕ) (budget : ℕ) (a : Answer) (n : ℕ) → (run m kept work budget).answer ≡ ended_by a n
    → Walk m kept budget a n (run m kept work budget).record' (run m kept work budget).work'
answered-walk m kept work budget a n q =
    let x = answered m kept work budget a n q in
    let (b, j, e, w) = run-walks m kept work budget x.buffers x.is-sound in
    let (u, v) = ran-same b a j n (sym e ∙ q) in
    record { states = w.states; letter = w.letter; path = rw u at w.path; made = w.made ∙ v; kept-bytes = w.kept-bytes; work-bytes = w.work-bytes }

pub run-reports : (m : Limits) → Board m → (kept work : List ℕ) (budget : ℕ) (a : Answer) (n : ℕ) → AllBytes kept → (run m kept work budget).answer ≡ ended_by a n → Reported m kept work budget a n
unfolding lent
run-reports m k kept work budget a n h q =
    let x = answered m kept work budget a n q in
    let w = answered-walk m kept work budget a n q in
    let s = state_of m kept in
    let g = good-state m kept k.small (eqb-true _ _ (left _ _ x.buffers)) h x.is-sound in
    let f = each_last (Good m) s w.states g (path-keeps m (Good m) (step_stays m k) w.path g) in
    record {
      walk = w;
      state = last_state s w.states;
      last = refl;
      good = f;
      steps = ap (λ (i : ℕ). after_steps i s) (sym w.made) ∙ path-makes m w.path;
      within = omega (arith, path-within m w.path, w.made);
      record-bytes = w.kept-bytes;
      record-state = ap (state_of m) w.kept-bytes ∙ state-record m (last_state s w.states) k.small f;
      ends = path-ends m w.path;
    }

-- what a run's contract comes to: every outcome that it allows on a sound record is a walk
pub says_walks : (m : Limits) (kept work : List ℕ) (budget : ℕ) (r : Run) (kept' work' : List ℕ) → RunSays m kept work budget r kept' work' → lent m kept work ≡ true → sound m kept ≡ true
    → (a : Answer) × (n : ℕ) × (r ≡ ended_by a n) × Walk m kept budget a n kept' work'
says_walks m kept work budget r kept' work' p l s =
    let (a, n, e, w) = run-walks m kept work budget l s in
    (a, n, p.answer ∙ e, record { states = w.states; letter = w.letter; path = w.path; made = w.made; kept-bytes = p.kept-bytes ∙ w.kept-bytes; work-bytes = p.work-bytes ∙ w.work-bytes })

-- Replies on bytes -------------------------------------------------------------------------------------------------

pub reply-verdict : (m : Limits) (kept work answer : List ℕ) → lent m kept work ≡ true → sound m kept ≡ true → (reply m kept work answer).verdict ≡ reply_verdict m (state_of m kept) answer
unfolding reply replied_out
reply-verdict m kept work answer l s = rw (l, s) refl

-- on bytes: "On a sound record a reply of legal form is accepted exactly if .."
pub reply-accepts : (m : Limits) → Small m → (kept work answer : List ℕ) → AllBytes kept → lent m kept work ≡ true → sound m kept ≡ true → LegalReply m (state_of m kept) answer
    → ((reply m kept work answer).verdict ≡ Ok tt) ↔ Answers m (state_of m kept) answer
unfolding lent
reply-accepts m k kept work answer h l s f =
    let g = good-state m kept k (eqb-true _ _ (left _ _ l)) h s in
    let e = reply-verdict m kept work answer l s in
    let t = takes m (state_of m kept) answer g f in
    ((λ q. t.0 (sym e ∙ q)), (λ a. e ∙ t.1 a))

-- what an accepted reply leaves. "An accepted reply replaces every future of its number by its rows and takes the entry out"; the work buffer holds
-- "only zeros"
pub record Settled (m : Limits) (kept answer kept' work' : List ℕ) : Type 0 where
  pub kept-bytes : kept' ≡ record_of m (replied_state (state_of m kept) answer)
  pub state : state_of m kept' ≡ replied_state (state_of m kept) answer
  pub work-bytes : work' ≡ replicate m.work_bytes 0
  pub none_left : Every (λ h u. h ≡ future (reply_number answer) → ⊥) (state_of m kept').tree
  pub entry_gone : listed (state_of m kept').calls (reply_number answer) ≡ None
  pub others-stand : (k : ℕ) → (k ≡ reply_number answer → ⊥) → listed (state_of m kept').calls k ≡ listed (state_of m kept).calls k

-- a number that is not listed stands nowhere
unlisted : (Φ : ℕ → Option ℕ) (k : ℕ) (t : Tree) → Φ k ≡ None → Listed Φ t → Every (λ h u. h ≡ future k → ⊥) t
unlisted Φ k t e d = rows-every _ t (all-rows-map (Due Φ) _ (flat t) (λ h u p q. none-some u (sym e ∙ p k q)) (every-rows (Due Φ) t d))

accepted-if : (m : Limits) (s : State) (answer kept work : List ℕ) (v : Verdict) (a b : Bool)
    → (cond a (cond b (replied_out m s answer kept work v) (replied_out m s answer kept work (Err Unsound))) (replied_out m s answer kept work (Err Length))).verdict ≡ Ok tt
    → (a ≡ true) × (b ≡ true) × (v ≡ Ok tt) × (cond a (cond b (replied_out m s answer kept work v) (replied_out m s answer kept work (Err Unsound))) (replied_out m s answer kept work (Err Length)) ≡ replied_out m s answer kept work v)
unfolding replied_out
accepted-if m s answer kept work v true true q = (refl, refl, q, refl)
accepted-if m s answer kept work v true false q = absurd (never-accepted Unsound q)
accepted-if m s answer kept work v false b q = absurd (never-accepted Length q)

replied-parts : (m : Limits) (s : State) (answer kept work : List ℕ) (v : Verdict) → v ≡ Ok tt
    → ((replied_out m s answer kept work v).record' ≡ record_of m (replied_state s answer)) × ((replied_out m s answer kept work v).work' ≡ padded m.work_bytes [])
unfolding replied_out leaves
replied-parts m s answer kept work v e = rw e (refl, refl)

pub reply-settles : (m : Limits) → Board m → (kept work answer : List ℕ) → AllBytes kept → (reply m kept work answer).verdict ≡ Ok tt
    → Settled m kept answer (reply m kept work answer).record' (reply m kept work answer).work'
unfolding reply lent replied_state
reply-settles m k kept work answer h q =
    let s = state_of m kept in
    let (l, d, v, e) = accepted-if m s answer kept work (reply_verdict m s answer) (lent m kept work) (sound m kept) q in
    let (b, w) = replied-parts m s answer kept work (reply_verdict m s answer) v in
    let g = good-state m kept k.small (eqb-true _ _ (left _ _ l)) h d in
    let f = reply-stays m s answer g v in
    let r : (reply m kept work answer).record' ≡ record_of m (replied_state s answer) = ap (λ (o : Replied). o.record') e ∙ b in
    let t : state_of m (reply m kept work answer).record' ≡ replied_state s answer = ap (state_of m) r ∙ state-record m (replied_state s answer) k.small f in
    let n = gone (reply_number answer) s.calls 0 g.calls_rise in
    record {
      kept-bytes = r;
      state = t;
      work-bytes = ap (λ (o : Replied). o.work') e ∙ w ∙ padded-none m.work_bytes;
      none_left = rw t (unlisted (listed (replied_state s answer).calls) (reply_number answer) (replied_state s answer).tree n f.listed);
      entry_gone = ap (λ (x : State). listed x.calls (reply_number answer)) t ∙ n;
      others-stand = λ i z. ap (λ (x : State). listed x.calls i) t ∙ listed-without (reply_number answer) i s.calls z;
    }
