-- What leaves the box: a call that a run sends fits the work buffer and is read back from it; its arguments are closed values of the tool's argument
-- types, data throughout; and every call gives the buffers back at their length. Assumes nothing.
use Prim.Native.Nat.{ℕ, ◌-◌, ◌≤◌, ◌<◌}
use mathlib.Core.Path.{◌≡◌, refl, ap, sym, ◌∙◌}
use mathlib.Core.Bool.{Bool, true, false, cond}
use mathlib.Core.List.{List, [], ◌∷◌, ◌++◌, map}
use Rattle.std.specs.Prelude.{None, Some}
use native.Mathlib.Omega.{arith}
use borrow.Author.Tests.{eqb-true}
use lib.ListN.{length, drop, get_or, replicate}
use Rattle.meaning.specs.Bytes.{width, read, reads, padded, term_row, call_head, Limits}
use Rattle.meaning.specs.Types.{form_of}
use Rattle.meaning.specs.Terms.{apply, foreign, n_of, word_of, Tree, Row, flat, flats, ty_of, raw, row_of}
use Rattle.meaning.specs.Steps.{Call}
use Rattle.meaning.specs.Records.{State, state_of, sound, listed}
use Rattle.meaning.specs.Entries.{leaves, loaded_state, load, sent, letter_of, runs, lent, ran_out, rejected, run, reply_kind, replied_state, reply_verdict, replied_out, reply}
use Rattle.meaning.specs.declared.Refusal.TheVariants.{Length, Unsound}
use Rattle.meaning.specs.Answers.{Verdict}
use Rattle.std.specs.Prelude.{Ok, Err}
use Rattle.meaning.specs.declared.Answer.{Answer}
use Rattle.meaning.specs.declared.Answer.TheVariants.{Sent, Budget}
use Rattle.meaning.specs.Answers.{ended_by}
use Rattle.meaning.proofs.Trees.Tests.{left, right}
use Rattle.meaning.proofs.Trees.ByKind.{foreign-is}
use Rattle.meaning.proofs.Trees.EachRow.{AllRows, every-rows, everys-rows, rows_left, rows_right}
use Rattle.meaning.proofs.Bytes.Layouts.{AllBytes, padded-none, padded-length, pow256, Fits, Each, AllFit}
use Rattle.meaning.proofs.Bytes.RowTables.{legal, rows-raw}
use Rattle.meaning.proofs.Bytes.TypeTables.{promised}
use Rattle.meaning.proofs.Bytes.Records.{Good, rows_fit, record-length, good-state, state-record}
use Rattle.meaning.proofs.Bytes.Files.{LetterFits, letter-length, letter-head, letter-numbers, loaded-good}
use Rattle.meaning.proofs.Typing.GroundValues.{Plain, grounds-plain}
use Rattle.meaning.proofs.Steps.Sends.{Sender, sent-from, Arguments, sending-args, sent-args}
use Rattle.meaning.proofs.Entries.Loading.{accepted-legal}
use Rattle.meaning.proofs.Entries.OpenList.{listed-new}
use Rattle.meaning.proofs.Entries.Running.{Halts, behind_step, PassesTo}
use Rattle.meaning.proofs.Entries.GoodStays.{Board, step_stays, reply-stays}
use Rattle.meaning.proofs.Entries.Alive.{Of}
use Rattle.meaning.proofs.Entries.Paths.{RunPath, ends-halted, ends-spent, ends-sent, goes_on, last_state, run-traced, path-keeps, each_last, step_of}
use Rattle.meaning.proofs.Entries.Reports.{answered, answered-walk}

-- A send on a good state -------------------------------------------------------------------------------------------

module _ (m : Limits) (k : Board m) (s : State) (g : Good m s) (c : Call) (u : State) (p : PassesTo m s (Some c) u) where
  sender : Sender (form_of s.types) s.next c (flat s.tree)
  sender = sent-from (form_of s.types) s.next s.tree c p.tree g.typed p.steps

  pub arguments : Arguments (form_of s.types) c
  arguments = sending-args (form_of s.types) s.next c sender.old sender.new sender.sending sender.typed

  -- they are of a foreign function's argument types, so ground, so data
  pub plain-arguments : AllRows Plain c.rows
  plain-arguments =
      let a = arguments in
      let grounds = ((promised s.types g.types_pass).call a.tool-typed).1 in
      rw a.rows (everys-rows Plain a.args (grounds-plain (form_of s.types) a.args (rw a.of_types grounds) a.all-values a.closed))

  -- the rows of the application: its own, the tool's, the arguments'
  application : flat sender.old ≡ record { head = apply sender.sending.count; type = c.result } ∷ (record { head = foreign c.tool; type = ty_of sender.sending.function } ∷ c.rows)
  unfolding flat
  application =
      let d = sender.sending in
      ap flat d.was
      ∙ ap (λ (f : Tree). record { head = apply d.count; type = c.result } ∷ (flat f ++ flats d.args)) (foreign-is d.function d.tool)
      ∙ ap (λ (w : ℕ). record { head = apply d.count; type = c.result } ∷ (record { head = foreign w; type = ty_of d.function } ∷ flats d.args)) (sym d.named)
      ∙ ap (λ (l : List Row). record { head = apply d.count; type = c.result } ∷ (record { head = foreign c.tool; type = ty_of d.function } ∷ l)) (sym d.sent)

  fitting : AllFit term_row (map raw (flat sender.old))
  fitting =
      let all = rw sender.stands at (every-rows (legal (length s.types)) s.tree g.legal_rows) in
      rows_fit (length s.types) (flat sender.old) (omega (arith, g.types_many, k.small.types))
      (rows_left (legal (length s.types)) (flat sender.old) sender.after (rows_right (legal (length s.types)) sender.before (flat sender.old ++ sender.after) all))

  few : length c.rows < m.rows
  few = omega (arith, sent-args (form_of s.types) s.next s.tree c p.tree p.steps, g.rows_many)

  -- number, tool, count, result type and rows fit their fields
  pub letter-fits : LetterFits s.next c
  unfolding Each Fits pow256 raw n_of word_of
  letter-fits =
      let ((a₁, (a₂, (a₃, a₄))), ((b₁, (b₂, (b₃, (b₄, b₅)))), rest)) = rw application at fitting in
      record {
        number = omega (arith, g.next_high, k.small.numbers);
        tool = omega arith;
        rows_many = omega (arith, few, k.small.rows);
        result = omega arith;
        rows = rest;
      }

  -- "a sent call fits the work buffer"
  pub letter-room : length (letter_of s.next c) ≤ m.work_bytes
  unfolding width
  letter-room = omega (arith, letter-length s.next c, few, k.letters)

-- On a path --------------------------------------------------------------------------------------------------------

-- the state from which a path's call is sent
record Called (m : Limits) (s : State) (us : List State) (k : ℕ) (l : List ℕ) : Type 0 where
  from : State
  call : Call
  passes : PassesTo m from (Some call) (last_state s us)
  good : Good m from
  of-program : Of s.types s.program from
  number : from.next ≡ k
  letter : l ≡ letter_of k call

sent-same : (j k : ℕ) → Sent j ≡ Sent k → j ≡ k
sent-same j k e = cc

budget-sent : (k : ℕ) → Budget ≡ Sent k → ⊥
budget-sent k e = let z : ◌≡◌ {A = ℕ} 0 1 = cc in omega arith

halts-sent : (m : Limits) (s : State) (a : Answer) (k : ℕ) → a ≡ Sent k → Halts m s a → ⊥
unfolding Halts
halts-sent m s a k e h = rw e at h

path-called : (m : Limits) → Board m → {b : ℕ} {s : State} {us : List State} {a : Answer} {l : List ℕ} → RunPath m b s us a l → Good m s → (k : ℕ) → a ≡ Sent k → Called m s us k l
unfolding last_state
path-called m b (ends-halted {budget} {s} {a} h) g k e = absurd (halts-sent m s a k e h)
path-called m b (ends-spent p) g k e = absurd (budget-sent k e)
path-called m b (ends-sent {budget} {s} {u} {c} p) g k e =
    let q = sent-same s.next k e in
    record { from = s; call = c; passes = p; good = g; of-program = record { same-types = refl; same-program = refl }; number = q; letter = ap (λ (i : ℕ). letter_of i c) q }
path-called m b (goes_on {budget} {s} {u} {us} p w) g k e =
    let d = path-called m b w (step_stays m b s u None p g) k e in
    let o = step_of m s.types s.program s u None p (record { same-types = refl; same-program = refl }) in
    record {
      from = d.from;
      call = d.call;
      passes = d.passes;
      good = d.good;
      of-program = record { same-types = d.of-program.same-types ∙ o.same-types; same-program = d.of-program.same-program ∙ o.same-program };
      number = d.number;
      letter = d.letter;
    }

path-letter : (m : Limits) → Board m → {b : ℕ} {s : State} {us : List State} {a : Answer} {l : List ℕ} → RunPath m b s us a l → Good m s → length l ≤ m.work_bytes
path-letter m b (ends-halted h) g = omega arith
path-letter m b (ends-spent p) g = omega arith
path-letter m b (ends-sent {budget} {s} {u} {c} p) g = letter-room m b s g c u p
path-letter m b (goes_on {budget} {s} {u} p w) g = path-letter m b w (step_stays m b s u None p g)

path-silent : (m : Limits) {b : ℕ} {s : State} {us : List State} {a : Answer} {l : List ℕ} → RunPath m b s us a l → ((k : ℕ) → a ≡ Sent k → ⊥) → l ≡ []
path-silent m (ends-halted h) q = refl
path-silent m (ends-spent p) q = refl
path-silent m (ends-sent {budget} {s} p) q = absurd (q s.next refl)
path-silent m (goes_on p w) q = path-silent m w q

-- On bytes ---------------------------------------------------------------------------------------------------------

-- the argument rows that a work buffer holds
abbrev pub sent_rows : List ℕ → List (List ℕ)
sent_rows work = reads term_row (get_or (read call_head work) 2 0) (drop (width call_head) work)

-- what a run that answers SENT k has left
pub record Posted (m : Limits) (kept : List ℕ) (k : ℕ) (kept' work' : List ℕ) : Type 0 where
  pub call : Call
  -- it fits, with zeros behind it
  pub fits : length (letter_of k call) ≤ m.work_bytes
  pub bytes : work' ≡ padded m.work_bytes (letter_of k call)
  -- read back: number, tool, row count, result type; the rows
  pub head : read call_head work' ≡ k ∷ call.tool ∷ length call.rows ∷ call.result ∷ []
  pub rows : map row_of (sent_rows work') ≡ call.rows
  -- closed values of the tool's argument types; of kinds 1 to 4, 12, 13 and 16 only
  pub arguments : Arguments (form_of (state_of m kept).types) call
  pub kinds : Each (λ r. reply_kind r ≡ true) (sent_rows work')
  -- the call is open under its result type
  pub entered : listed (state_of m kept').calls k ≡ Some call.result

plain-kinds : (l : List Row) → AllRows Plain l → Each (λ r. reply_kind r ≡ true) (map raw l)
unfolding AllRows Each reply_kind raw
plain-kinds [] d = tt
plain-kinds (r ∷ l) (e, d) = (e, plain-kinds l d)

sent-listed : (m : Limits) (s u : State) (c : Call) → Good m s → PassesTo m s (Some c) u → listed u.calls s.next ≡ Some c.result
unfolding behind_step sent
sent-listed m s u c g p = rw p.state (listed-new s.calls (record { number = s.next; type = c.result }) g.calls_below)

module _ (m : Limits) (k : Board m) (kept work : List ℕ) (budget : ℕ) (bytes : AllBytes kept) where
  pub run-posts : (number n : ℕ) → (run m kept work budget).answer ≡ ended_by (Sent number) n → Posted m kept number (run m kept work budget).record' (run m kept work budget).work'
  unfolding lent padded
  run-posts number n q =
      let x = answered m kept work budget (Sent number) n q in
      let w = answered-walk m kept work budget (Sent number) n q in
      let s = state_of m kept in
      let g = good-state m kept k.small (eqb-true _ _ (left _ _ x.buffers)) bytes x.is-sound in
      let d = path-called m k w.path g number refl in
      let last = last_state s w.states in
      let c = d.call in
      let zs : List ℕ = replicate (m.work_bytes - length (letter_of number c)) 0 in
      let f : LetterFits number c = rw d.number at (letter-fits m k d.from d.good c last d.passes) in
      let r : length (letter_of number c) ≤ m.work_bytes = rw d.number at (letter-room m k d.from d.good c last d.passes) in
      let b : (run m kept work budget).work' ≡ letter_of number c ++ zs = w.work-bytes ∙ ap (padded m.work_bytes) d.letter in
      let h : read call_head (run m kept work budget).work' ≡ number ∷ c.tool ∷ length c.rows ∷ c.result ∷ [] = ap (read call_head) b ∙ letter-head number c f zs in
      let i : sent_rows (run m kept work budget).work' ≡ map raw c.rows =
      ap (λ (j : ℕ). reads term_row j (drop (width call_head) (run m kept work budget).work')) (ap (λ (l : List ℕ). get_or l 2 0) h)
      ∙ ap (λ (y : List ℕ). reads term_row (length c.rows) (drop (width call_head) y)) b
      ∙ letter-numbers number c f zs in
      let j : state_of m (run m kept work budget).record' ≡ last = ap (state_of m) w.kept-bytes ∙ state-record m last k.small (step_stays m k d.from last (Some c) d.passes d.good) in
      record {
        call = c;
        fits = r;
        bytes = b;
        head = h;
        rows = ap (map row_of) i ∙ rows-raw c.rows;
        arguments = rw d.of-program.same-types at (arguments m k d.from d.good c last d.passes);
        kinds = rw i (plain-kinds c.rows (plain-arguments m k d.from d.good c last d.passes));
        entered = ap (λ (y : State). listed y.calls number) j ∙ ap (λ (y : ℕ). listed last.calls y) (sym d.number) ∙ sent-listed m d.from last c d.good d.passes;
      }

  -- "after other answers .. only zeros"
  pub run-silent : (a : Answer) (n : ℕ) → (run m kept work budget).answer ≡ ended_by a n → ((number : ℕ) → a ≡ Sent number → ⊥) → (run m kept work budget).work' ≡ replicate m.work_bytes 0
  run-silent a n q quiet =
      let w = answered-walk m kept work budget a n q in
      w.work-bytes ∙ ap (padded m.work_bytes) (path-silent m w.path quiet) ∙ padded-none m.work_bytes

-- The buffers keep their length ------------------------------------------------------------------------------------

leaves-length : (v : Verdict) (new old : List ℕ) → (v ≡ Ok tt → length new ≡ length old) → length (leaves v new old) ≡ length old
unfolding leaves
leaves-length (Ok tt) new old h = h refl
leaves-length (Err r) new old h = refl

pub load-lengths : (m : Limits) → Board m → (file kept : List ℕ) → AllBytes file → length (load m file kept).record' ≡ length kept
unfolding load
load-lengths m k file kept h =
    leaves-length _ _ kept
    (λ e. record-length m (loaded_state file) k.small (loaded-good m file (length kept) e h k.programs) ∙ sym (accepted-legal m file (length kept) e).0)

pub run-lengths : (m : Limits) → Board m → (kept work : List ℕ) (budget : ℕ) → AllBytes kept
    → (length (run m kept work budget).record' ≡ length kept) × (length (run m kept work budget).work' ≡ length work)
unfolding run lent ran_out rejected
run-lengths m k kept work budget h = go (lent m kept work) (sound m kept) refl refl
  where
    go : (a b : Bool) → lent m kept work ≡ a → sound m kept ≡ b
        → (length (cond a (cond b (ran_out m (runs m budget (state_of m kept))) (rejected Unsound kept work)) (rejected Length kept work)).record' ≡ length kept)
        × (length (cond a (cond b (ran_out m (runs m budget (state_of m kept))) (rejected Unsound kept work)) (rejected Length kept work)).work' ≡ length work)
    go true true e q =
        let n = eqb-true (length kept) _ (left _ _ e) in
        let g = good-state m kept k.small n h q in
        let w = run-traced m budget (state_of m kept) in
        let f : Good m (runs m budget (state_of m kept)).state = rw w.last at (each_last (Good m) (state_of m kept) w.states g (path-keeps m (Good m) (step_stays m k) w.path g)) in
        (record-length m (runs m budget (state_of m kept)).state k.small f ∙ sym n, padded-length m.work_bytes (runs m budget (state_of m kept)).letter (path-letter m k w.path g) ∙ sym (eqb-true (length work) _ (right _ _ e)))
    go true false e q = (refl, refl)
    go false b e q = (refl, refl)

pub reply-lengths : (m : Limits) → Board m → (kept work answer : List ℕ) → AllBytes kept
    → (length (reply m kept work answer).record' ≡ length kept) × (length (reply m kept work answer).work' ≡ length work)
unfolding reply lent replied_out leaves
reply-lengths m k kept work answer h = go (lent m kept work) (sound m kept) refl refl
  where
    s : State
    s = state_of m kept

    go : (a b : Bool) → lent m kept work ≡ a → sound m kept ≡ b
        → (length (cond a (cond b (replied_out m s answer kept work (reply_verdict m s answer)) (replied_out m s answer kept work (Err Unsound))) (replied_out m s answer kept work (Err Length))).record' ≡ length kept)
        × (length (cond a (cond b (replied_out m s answer kept work (reply_verdict m s answer)) (replied_out m s answer kept work (Err Unsound))) (replied_out m s answer kept work (Err Length))).work' ≡ length work)
    go true true e q =
        let n = eqb-true (length kept) _ (left _ _ e) in
        let g = good-state m kept k.small n h q in (
          leaves-length (reply_verdict m s answer) _ kept (λ v. record-length m (replied_state s answer) k.small (reply-stays m s answer g v) ∙ sym n),
          leaves-length (reply_verdict m s answer) _ work (λ v. padded-length m.work_bytes [] (omega arith) ∙ sym (eqb-true (length work) _ (right _ _ e))),
        )
    go true false e q = (refl, refl)
    go false b e q = (refl, refl)
