-- A refusal leaves every lent byte as it was, and its number is one of the entry's.
use Prim.Native.Nat.{ℕ}
use mathlib.Core.Path.{◌≡◌, refl}
use mathlib.Core.Bool.{Bool, true, false, cond}
use mathlib.Core.List.{List, [], ◌∷◌}
use mathlib.Core.Logic.{inl, inr}
use Rattle.std.specs.Prelude.{Option}
use lib.ListN.{length}
use native.Mathlib.Omega.{arith}
use Rattle.meaning.specs.Bytes.{Limits}
use Rattle.meaning.specs.Types.{member}
use Rattle.meaning.specs.Answers.{refusal_number}
use Rattle.meaning.specs.Records.{State, sound, state_of}
use Rattle.meaning.specs.Entries.{leaves, load, RunOut, Ended, runs, run, rejected, ran_out, lent, Replied, reply, replied_out, reply_verdict}
use Rattle.meaning.specs.declared.Fault.{Fault}
use Rattle.meaning.specs.Terms.{Shape}
use Rattle.meaning.specs.declared.Refusal.{Refusal}
use Rattle.meaning.specs.declared.Refusal.TheVariants.{Length, Size, Mark, Version, Count, TypeRow, Row, Future, Typing, Unsound, Header, NotOpen, ReplyRow, ReplyKind, ReplyTyping, ReplyRoom}
use Rattle.meaning.specs.Answers.{Verdict}
use Rattle.std.specs.Prelude.{Ok, Err}
use Rattle.meaning.specs.Answers.{Run}
use Rattle.meaning.proofs.Entries.InOrder.{Line, First, fact_line, find_line, shape_line, load_lines, reply_lines, load-in-order, reply-in-order}

leaves-old : (v : Verdict) (r : Refusal) (new old : List ℕ) → v ≡ Err r → leaves v new old ≡ old
unfolding leaves
leaves-old v r new old e = rw e refl

-- "Refusals .. change no byte", of each entry and for every input
pub load-refused : (m : Limits) (file kept : List ℕ) (r : Refusal) → (load m file kept).verdict ≡ Err r → (load m file kept).record' ≡ kept
unfolding load
load-refused m file kept r e = leaves-old _ r _ kept e

pub record Untouched (o : RunOut) (kept work : List ℕ) : Type 0 where
  pub record_same : o.record' ≡ kept
  pub work-same : o.work' ≡ work

ran-rejects : (m : Limits) (e : Ended) (r : Refusal) → (ran_out m e).answer ≡ Err r → ◌≡◌ {A = ℕ} 0 1
unfolding ran_out
ran-rejects m e r q = cc

run-untouched : (m : Limits) (e : Ended) (kept work : List ℕ) (r : Refusal) (a b : Bool)
    → (cond a (cond b (ran_out m e) (rejected Unsound kept work)) (rejected Length kept work)).answer ≡ Err r
    → Untouched (cond a (cond b (ran_out m e) (rejected Unsound kept work)) (rejected Length kept work)) kept work
unfolding rejected
run-untouched m e kept work r true true q = absurd (omega (arith, ran-rejects m e r q))
run-untouched m e kept work r true false q = record { record_same = refl; work-same = refl }
run-untouched m e kept work r false b q = record { record_same = refl; work-same = refl }

pub run-refused : (m : Limits) (kept work : List ℕ) (budget : ℕ) (r : Refusal) → (run m kept work budget).answer ≡ Err r → Untouched (run m kept work budget) kept work
unfolding run
run-refused m kept work budget r q = run-untouched m (runs m budget (state_of m kept)) kept work r (lent m kept work) (sound m kept) q

pub record Unchanged (o : Replied) (kept work : List ℕ) : Type 0 where
  pub record_same : o.record' ≡ kept
  pub work-same : o.work' ≡ work

replied-unchanged : (m : Limits) (s : State) (answer kept work : List ℕ) (v : Verdict) (r : Refusal) → (replied_out m s answer kept work v).verdict ≡ Err r → Unchanged (replied_out m s answer kept work v) kept work
unfolding replied_out
replied-unchanged m s answer kept work v r q = record { record_same = leaves-old v r _ kept q; work-same = leaves-old v r _ work q }

reply-untouched : (m : Limits) (s : State) (answer kept work : List ℕ) (v : Verdict) (r : Refusal) (a b : Bool)
    → (cond a (cond b (replied_out m s answer kept work v) (replied_out m s answer kept work (Err Unsound))) (replied_out m s answer kept work (Err Length))).verdict ≡ Err r
    → Unchanged (cond a (cond b (replied_out m s answer kept work v) (replied_out m s answer kept work (Err Unsound))) (replied_out m s answer kept work (Err Length))) kept work
reply-untouched m s answer kept work v r true true q = replied-unchanged m s answer kept work v r q
reply-untouched m s answer kept work v r true false q = replied-unchanged m s answer kept work (Err Unsound) r q
reply-untouched m s answer kept work v r false b q = replied-unchanged m s answer kept work (Err Length) r q

pub reply-refused : (m : Limits) (kept work answer : List ℕ) (r : Refusal) → (reply m kept work answer).verdict ≡ Err r → Unchanged (reply m kept work answer) kept work
unfolding reply
reply-refused m kept work answer r q = reply-untouched m (state_of m kept) answer kept work (reply_verdict m (state_of m kept) answer) r (lent m kept work) (sound m kept) q

-- Which refusals an entry gives ----------------------------------------------------------------------------------

unfoldable pub Among : List ℕ → Verdict → Type 0
Among ns (Ok tt) = Unit {0}
Among ns (Err r) = member (refusal_number r) ns ≡ true

pub among-refused : (ns : List ℕ) (r : Refusal) → member (refusal_number r) ns ≡ true → Among ns (Err r)
unfolding Among
among-refused ns r e = e

pub among-accepted : (ns : List ℕ) → Among ns (Ok tt)
unfolding Among
among-accepted ns = tt

-- of a verdict by lines, if each line gives such refusals only
unfoldable pub LinesAmong : List ℕ → List Line → Type 0
LinesAmong ns [] = Unit {0}
LinesAmong ns (l ∷ ls) = ((r : Refusal) → l.gives r → member (refusal_number r) ns ≡ true) × LinesAmong ns ls

first-among : (ns : List ℕ) (ls : List Line) (v : Verdict) → LinesAmong ns ls → First ls v → Among ns v
unfolding LinesAmong First
first-among ns [] v k e = rw e (among-accepted ns)
first-among ns (l ∷ ls) v (h, k) (inl (r, g, e)) = rw e (among-refused ns r (h r g))
first-among ns (l ∷ ls) v (h, k) (inr (a, f)) = first-among ns ls v k f

test-among : (ns : List ℕ) (P : Type 0) (r : Refusal) → member (refusal_number r) ns ≡ true → (x : Refusal) → (fact_line P r).gives x → member (refusal_number x) ns ≡ true
test-among ns P r e x (_, q) = rw q e

found_among : (ns : List ℕ) (o : Option ℕ) (f : ℕ → Refusal) → ((i : ℕ) → member (refusal_number (f i)) ns ≡ true) → (x : Refusal) → (find_line o f).gives x → member (refusal_number x) ns ≡ true
found_among ns o f e x (i, _, q) = rw q (e i)

shaped-among : (ns : List ℕ) (s : Shape) (f : Fault → ℕ → Refusal) → ((g : Fault) (i : ℕ) → member (refusal_number (f g i)) ns ≡ true) → (x : Refusal) → (shape_line s f).gives x → member (refusal_number x) ns ≡ true
shaped-among ns s f e x (g, i, _, q) = rw q (e g i)

abbrev pub load_numbers : List ℕ
load_numbers = 1 ∷ 2 ∷ 3 ∷ 4 ∷ 5 ∷ 6 ∷ 7 ∷ 8 ∷ 9 ∷ []

-- load: one of 1 to 9
pub load-among : (m : Limits) (file kept : List ℕ) → Among load_numbers (load m file kept).verdict
unfolding LinesAmong member
load-among m file kept =
    first-among load_numbers (load_lines m file (length kept)) _ (
      test-among load_numbers _ Length refl,
      (
        test-among load_numbers _ Size refl,
        (
          test-among load_numbers _ Mark refl,
          (
            test-among load_numbers _ Version refl,
            (
              test-among load_numbers _ Count refl,
              (
                test-among load_numbers _ Size refl,
                (
                  found_among load_numbers _ TypeRow (λ i. refl),
                  (
                    shaped-among load_numbers _ Row (λ g i. refl),
                    (
                      found_among load_numbers _ Future (λ i. refl),
                      (found_among load_numbers _ Typing (λ i. refl), tt),
                    ),
                  ),
                ),
              ),
            ),
          ),
        ),
      ),
    )
    (load-in-order m file kept)

abbrev pub reply_numbers : List ℕ
reply_numbers = 1 ∷ 10 ∷ 11 ∷ 12 ∷ 13 ∷ 14 ∷ 15 ∷ 16 ∷ []

-- reply: 1, 10 or 11 to 16
pub reply-among : (m : Limits) (kept work answer : List ℕ) → Among reply_numbers (reply m kept work answer).verdict
unfolding LinesAmong member
reply-among m kept work answer =
    first-among reply_numbers (reply_lines m kept work answer) _ (
      test-among reply_numbers _ Length refl,
      (
        test-among reply_numbers _ Unsound refl,
        (
          test-among reply_numbers _ Header refl,
          (
            test-among reply_numbers _ NotOpen refl,
            (
              shaped-among reply_numbers _ ReplyRow (λ g i. refl),
              (
                found_among reply_numbers _ ReplyKind (λ i. refl),
                (
                  found_among reply_numbers _ ReplyTyping (λ i. refl),
                  (test-among reply_numbers _ ReplyRoom refl, tt),
                ),
              ),
            ),
          ),
        ),
      ),
    )
    (reply-in-order m kept work answer)

unfoldable pub RunAmong : Run → Type 0
RunAmong (Ok r) = Unit {0}
RunAmong (Err r) = member (refusal_number r) (1 ∷ 10 ∷ []) ≡ true

-- run: 1 or 10
pub run-among : (m : Limits) (kept work : List ℕ) (budget : ℕ) → RunAmong (run m kept work budget).answer
unfolding run rejected ran_out RunAmong member
run-among m kept work budget = go (lent m kept work) (sound m kept)
  where
    go : (a b : Bool) → RunAmong (cond a (cond b (ran_out m (runs m budget (state_of m kept))) (rejected Unsound kept work)) (rejected Length kept work)).answer
    go true true = tt
    go true false = refl
    go false b = refl
