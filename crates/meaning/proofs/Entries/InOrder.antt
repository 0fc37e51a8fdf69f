-- The order of refusals: each entry's lines in their order; the verdict is the first that applies, and there is only one.
use Prim.Native.Nat.{ℕ, ◌+◌, ◌*◌, ◌≤◌}
use mathlib.Core.Path.{◌≡◌, refl, ap, sym, ◌∙◌}
use mathlib.Core.Bool.{Bool, true, false, cond, false≢true}
use mathlib.Core.List.{List, [], ◌∷◌}
use mathlib.Core.Logic.{◌⊎◌, inl, inr}
use Rattle.std.specs.Prelude.{Option, None, Some}
use native.Mathlib.Omega.{arith}
use borrow.Author.Tests.{eqb-true, eq-eqb, leb-true, le-leb}
use lib.Dec.{eqb}
use lib.ListN.{length, take}
use Rattle.meaning.specs.Bytes.{◌∧ᵇ◌, within, width, read, file_head, type_row, term_row, reply_head, Limits, record_bytes}
use Rattle.meaning.specs.Types.{form_of, bad_type, empty}
use Rattle.meaning.specs.Terms.{shape, size}
use Rattle.meaning.specs.Typing.{first_bad}
use Rattle.meaning.specs.Steps.{settle}
use Rattle.meaning.specs.Records.{State, version, state_of, sound, listed, first_not}
use Rattle.meaning.specs.Entries.{require, refuse, refuse_shape, file_no, file_edition, file_type_count, file_row_count, file_types, file_rows, file_tree, no_future, program_verdict, load_verdict, load, lent, Ended, ran_out, rejected, run, runs, reply_no, reply_number, reply_count, reply_rows, reply_tree, reply_head_ok, reply_kind, reply_bad, answer_verdict, reply_verdict, replied_out, reply}
use Rattle.meaning.specs.declared.Fault.{Fault}
use Rattle.meaning.specs.Terms.{Shape}
use Rattle.meaning.specs.declared.Refusal.{Refusal}
use Rattle.meaning.specs.declared.Refusal.TheVariants.{Length, Size, Mark, Version, Count, TypeRow, Row, Future, Typing, Unsound, Header, NotOpen, ReplyRow, ReplyKind, ReplyTyping, ReplyRoom}
use Rattle.meaning.specs.Answers.{Verdict}
use Rattle.std.specs.Prelude.{Ok, Err}
use Rattle.meaning.proofs.Bytes.RowTables.{bad-parts}
use Rattle.meaning.proofs.Trees.Tests.{both, left, right, within-if, within_of, numbers-is, numbers-same, none-some}
use Rattle.meaning.specs.Answers.{Run}

-- Lines ------------------------------------------------------------------------------------------------------------

-- a line of the table: what it asks for, and the refusals that it gives where that fails
pub record Line : Type 1 where
  pub asks : Type 0
  pub gives : Refusal → Type 0

-- a fact that holds or not
abbrev pub fact_line : Type 0 → Refusal → Line
fact_line P r = record { asks = P; gives = λ x. (P → ⊥) × (x ≡ r) }

-- nothing is found, or something at a place
abbrev pub find_line : Option ℕ → (ℕ → Refusal) → Line
find_line o f = record { asks = o ≡ None; gives = λ x. (i : ℕ) × (o ≡ Some i) × (x ≡ f i) }

-- one tree, or a fault at a place
abbrev pub shape_line : Shape → (Fault → ℕ → Refusal) → Line
shape_line s f = record { asks = s ≡ (Ok tt); gives = λ x. (g : Fault) × (i : ℕ) × (s ≡ Err (g, i)) × (x ≡ f g i) }

-- the verdict by lines in order: the first whose asking fails gives the refusal; accepted where none fails
unfoldable pub First : List Line → Verdict → Type 0
First [] v = v ≡ Ok tt
First (l ∷ ls) v = ((r : Refusal) × l.gives r × (v ≡ Err r)) ⊎ (l.asks × First ls v)

-- "Load: 1, 2 (under 10), 3, 4, 5, 2, 6, 7, 8, 9"
abbrev pub load_lines : Limits → List ℕ → ℕ → List Line
load_lines m file room =
    fact_line (room ≡ record_bytes m) Length
    ∷ fact_line (width file_head ≤ length file) Size
    ∷ fact_line (take 3 (read file_head file) ≡ 84 ∷ 67 ∷ 65 ∷ []) Mark
    ∷ fact_line (file_edition file ≡ version) Version
    ∷ fact_line ((file_no 4 file ≡ 0) × ((1 ≤ file_type_count file) × (file_type_count file ≤ m.types)) × ((1 ≤ file_row_count file) × (file_row_count file ≤ m.program_rows))) Count
    ∷ fact_line (length file ≡ width file_head + width type_row * file_type_count file + width term_row * file_row_count file) Size
    ∷ find_line (bad_type (file_edition file) (file_types file)) TypeRow
    ∷ shape_line (shape (file_edition file) (file_type_count file) (file_rows file)) Row
    ∷ find_line (first_not no_future (file_rows file)) Future
    ∷ find_line (first_bad (form_of (file_types file)) empty (file_tree file)) Typing
    ∷ []

-- "Run: 1, 10"
abbrev pub run_lines : Limits → List ℕ → List ℕ → List Line
run_lines m kept work = fact_line ((length kept ≡ record_bytes m) × (length work ≡ m.work_bytes)) Length ∷ fact_line (sound m kept ≡ true) Unsound ∷ []

-- the type under which a number is listed
abbrev pub listed_type : Option ℕ → ℕ
listed_type None = 0
listed_type (Some t) = t

-- "11 to 16"
abbrev pub answer_lines : Limits → State → List ℕ → List Line
answer_lines m s answer =
    fact_line ((width reply_head ≤ length answer) × ((1 ≤ reply_count answer) × (reply_count answer ≤ m.reply_rows)) × (reply_no 2 answer ≡ 0) × (length answer ≡ width reply_head + width term_row * reply_count answer)) Header
    ∷ fact_line ((t : ℕ) × (listed s.calls (reply_number answer) ≡ Some t)) NotOpen
    ∷ shape_line (shape version (length s.types) (reply_rows answer)) ReplyRow
    ∷ find_line (first_not reply_kind (reply_rows answer)) ReplyKind
    ∷ find_line (reply_bad (form_of s.types) (listed_type (listed s.calls (reply_number answer))) (reply_tree answer)) ReplyTyping
    ∷ fact_line (size (settle (reply_number answer) (reply_tree answer) s.tree) ≤ m.rows) ReplyRoom
    ∷ []

-- "Reply: 1, 10, then 11 to 16"
abbrev pub reply_lines : Limits → List ℕ → List ℕ → List ℕ → List Line
reply_lines m kept work answer =
    fact_line ((length kept ≡ record_bytes m) × (length work ≡ m.work_bytes)) Length ∷ fact_line (sound m kept ≡ true) Unsound ∷ answer_lines m (state_of m kept) answer

-- By lines ---------------------------------------------------------------------------------------------------------

first-require : (ls : List Line) (P : Type 0) (b : Bool) (r : Refusal) (v : Verdict) → (b ≡ true → P) → (P → b ≡ true) → First ls v → First (fact_line P r ∷ ls) (require b r v)
unfolding First require
first-require ls P true r v h k f = inr (h refl, f)
first-require ls P false r v h k f = inl (r, ((λ p. false≢true (k p)), refl), refl)

pub first-refuse : (ls : List Line) (o : Option ℕ) (g : ℕ → Refusal) (v : Verdict) → First ls v → First (find_line o g ∷ ls) (refuse o g v)
unfolding First refuse
first-refuse ls None g v f = inr (refl, f)
first-refuse ls (Some i) g v f = inl (g i, (i, refl, refl), refl)

pub first-shape : (ls : List Line) (s : Shape) (g : Fault → ℕ → Refusal) (v : Verdict) → First ls v → First (shape_line s g ∷ ls) (refuse_shape s g v)
unfolding First refuse_shape
first-shape ls (Ok tt) g v f = inr (refl, f)
first-shape ls (Err (x, i)) g v f = inl (g x i, (x, i, refl, refl), refl)

first-fails : (ls : List Line) (P : Type 0) (r : Refusal) → (P → ⊥) → First (fact_line P r ∷ ls) (Err r)
unfolding First
first-fails ls P r h = inl (r, (h, refl), refl)

pub line-holds : (l : Line) (ls : List Line) (v : Verdict) → l.asks → First ls v → First (l ∷ ls) v
unfolding First
line-holds l ls v p f = inr (p, f)

pub lines-done : First [] (Ok tt)
unfolding First
lines-done = refl

-- where a verdict accepts, every line has what it asks for
unfoldable pub AllAsk : List Line → Type 0
AllAsk [] = Unit {0}
AllAsk (l ∷ ls) = l.asks × AllAsk ls

pub never-accepted : (r : Refusal) → ◌≡◌ {A = Verdict} (Err r) (Ok tt) → ⊥
never-accepted r e = let z : ◌≡◌ {A = ℕ} 0 1 = cc in omega arith

pub first-accepted : (ls : List Line) (v : Verdict) → First ls v → v ≡ Ok tt → AllAsk ls
unfolding First AllAsk
first-accepted [] v f e = tt
first-accepted (l ∷ ls) v (inl (r, g, q)) e = absurd (never-accepted r (sym q ∙ e))
first-accepted (l ∷ ls) v (inr (a, f)) e = (a, first-accepted ls v f e)

-- Load -------------------------------------------------------------------------------------------------------------

count-told : (m : Limits) (z t r : ℕ) → (eqb z 0 ∧ᵇ within 1 m.types t ∧ᵇ within 1 m.program_rows r) ≡ true
    → (z ≡ 0) × ((1 ≤ t) × (t ≤ m.types)) × ((1 ≤ r) × (r ≤ m.program_rows))
count-told m z t r e = (eqb-true _ _ (left _ _ e), within-if _ _ _ (left _ _ (right _ _ e)), within-if _ _ _ (right _ _ (right _ _ e)))

pub verdict-in-order : (m : Limits) (file : List ℕ) (room : ℕ) → First (load_lines m file room) (load_verdict m file room)
unfolding load_verdict program_verdict
verdict-in-order m file room =
    first-require _ _ _ Length _ (eqb-true room (record_bytes m)) (eq-eqb room (record_bytes m))
    (first-require _ _ _ Size _ (leb-true (width file_head) (length file)) (le-leb (width file_head) (length file))
    (first-require _ _ _ Mark _ (numbers-is _ _) (λ e. rw e (numbers-same (84 ∷ 67 ∷ 65 ∷ [])))
    (first-require _ _ _ Version _ (eqb-true (file_edition file) version) (eq-eqb (file_edition file) version)
    (first-require _ _ _ Count _ (count-told m (file_no 4 file) (file_type_count file) (file_row_count file))
    (λ p. both _ _ (eq-eqb (file_no 4 file) 0 p.0) (both _ _ (within_of 1 m.types (file_type_count file) p.1.0 p.1.1) (within_of 1 m.program_rows (file_row_count file) p.2.0 p.2.1)))
    (first-require _ _ _ Size _ (eqb-true (length file) _) (eq-eqb (length file) _)
    (first-refuse _ (bad_type (file_edition file) (file_types file)) TypeRow _
    (first-shape _ (shape (file_edition file) (file_type_count file) (file_rows file)) Row _
    (first-refuse _ (first_not no_future (file_rows file)) Future _
    (first-refuse _ (first_bad (form_of (file_types file)) empty (file_tree file)) Typing _ lines-done)))))))))

pub load-in-order : (m : Limits) (file kept : List ℕ) → First (load_lines m file (length kept)) (load m file kept).verdict
unfolding load
load-in-order m file kept = verdict-in-order m file (length kept)

-- Run --------------------------------------------------------------------------------------------------------------

-- a run's refusal, as a verdict
abbrev pub run_verdict : Run → Verdict
run_verdict (Ok r) = Ok tt
run_verdict (Err r) = Err r

lent-told : (m : Limits) (kept work : List ℕ) → lent m kept work ≡ true → (length kept ≡ record_bytes m) × (length work ≡ m.work_bytes)
unfolding lent
lent-told m kept work e = (eqb-true _ _ (left _ _ e), eqb-true _ _ (right _ _ e))

lent_of : (m : Limits) (kept work : List ℕ) → (length kept ≡ record_bytes m) × (length work ≡ m.work_bytes) → lent m kept work ≡ true
unfolding lent
lent_of m kept work (a, b) = both _ _ (eq-eqb _ _ a) (eq-eqb _ _ b)

run-verdict : (m : Limits) (e : Ended) (kept work : List ℕ) (a b : Bool)
    → run_verdict (cond a (cond b (ran_out m e) (rejected Unsound kept work)) (rejected Length kept work)).answer ≡ require a Length (require b Unsound (Ok tt))
unfolding ran_out rejected require
run-verdict m e kept work true true = refl
run-verdict m e kept work true false = refl
run-verdict m e kept work false b = refl

pub run-in-order : (m : Limits) (kept work : List ℕ) (budget : ℕ) → First (run_lines m kept work) (run_verdict (run m kept work budget).answer)
unfolding run
run-in-order m kept work budget =
    rw (run-verdict m (runs m budget (state_of m kept)) kept work (lent m kept work) (sound m kept))
    (first-require _ _ _ Length _ (lent-told m kept work) (lent_of m kept work)
    (first-require _ _ _ Unsound _ (λ e. e) (λ e. e) lines-done))

-- Reply ------------------------------------------------------------------------------------------------------------

pub header-told : (m : Limits) (answer : List ℕ) → reply_head_ok m answer ≡ true
    → (width reply_head ≤ length answer) × ((1 ≤ reply_count answer) × (reply_count answer ≤ m.reply_rows)) × (reply_no 2 answer ≡ 0) × (length answer ≡ width reply_head + width term_row * reply_count answer)
unfolding reply_head_ok
header-told m answer e =
    let f = right _ _ e in
    let g = right _ _ f in
    (leb-true _ _ (left _ _ e), within-if _ _ _ (left _ _ f), eqb-true _ _ (left _ _ g), eqb-true _ _ (right _ _ g))

pub header_of : (m : Limits) (answer : List ℕ)
    → (width reply_head ≤ length answer) × ((1 ≤ reply_count answer) × (reply_count answer ≤ m.reply_rows)) × (reply_no 2 answer ≡ 0) × (length answer ≡ width reply_head + width term_row * reply_count answer)
    → reply_head_ok m answer ≡ true
unfolding reply_head_ok
header_of m answer (a, (b, c), d, e) = both _ _ (le-leb _ _ a) (both _ _ (within_of _ _ _ b c) (both _ _ (eq-eqb _ _ d) (eq-eqb _ _ e)))

-- the lines behind the header, by the type under which the number is listed
open-in-order : (m : Limits) (s : State) (answer : List ℕ) (o : Option ℕ)
    → First
    (fact_line ((t : ℕ) × (o ≡ Some t)) NotOpen
    ∷ shape_line (shape version (length s.types) (reply_rows answer)) ReplyRow
    ∷ find_line (first_not reply_kind (reply_rows answer)) ReplyKind
    ∷ find_line (reply_bad (form_of s.types) (listed_type o) (reply_tree answer)) ReplyTyping
    ∷ fact_line (size (settle (reply_number answer) (reply_tree answer) s.tree) ≤ m.rows) ReplyRoom
    ∷ []) (answer_verdict m s answer o)
unfolding answer_verdict
open-in-order m s answer None = first-fails _ _ NotOpen (λ p. none-some p.0 p.1)
open-in-order m s answer (Some t) =
    line-holds (fact_line ((y : ℕ) × (Some t ≡ Some y)) NotOpen) _ _ (t, refl)
    (first-shape _ (shape version (length s.types) (reply_rows answer)) ReplyRow _
    (first-refuse _ (first_not reply_kind (reply_rows answer)) ReplyKind _
    (first-refuse _ (reply_bad (form_of s.types) t (reply_tree answer)) ReplyTyping _
    (first-require _ _ _ ReplyRoom _ (leb-true _ m.rows) (le-leb _ m.rows) lines-done))))

pub answer-in-order : (m : Limits) (s : State) (answer : List ℕ) → First (answer_lines m s answer) (reply_verdict m s answer)
unfolding reply_verdict
answer-in-order m s answer = first-require _ _ _ Header _ (header-told m answer) (header_of m answer) (open-in-order m s answer (listed s.calls (reply_number answer)))

reply-verdict : (m : Limits) (s : State) (answer kept work : List ℕ) (v : Verdict) (a b : Bool)
    → (cond a (cond b (replied_out m s answer kept work v) (replied_out m s answer kept work (Err Unsound))) (replied_out m s answer kept work (Err Length))).verdict
    ≡ require a Length (require b Unsound v)
unfolding replied_out require
reply-verdict m s answer kept work v true true = refl
reply-verdict m s answer kept work v true false = refl
reply-verdict m s answer kept work v false b = refl

pub reply-in-order : (m : Limits) (kept work answer : List ℕ) → First (reply_lines m kept work answer) (reply m kept work answer).verdict
unfolding reply
reply-in-order m kept work answer =
    rw (reply-verdict m (state_of m kept) answer kept work (reply_verdict m (state_of m kept) answer) (lent m kept work) (sound m kept))
    (first-require _ _ _ Length _ (lent-told m kept work) (lent_of m kept work)
    (first-require _ _ _ Unsound _ (λ e. e) (λ e. e) (answer-in-order m (state_of m kept) answer)))

-- There is only one verdict ----------------------------------------------------------------------------------------

-- a line gives at most one refusal, and none where what it asks for holds
pub record Sharp (l : Line) : Type 0 where
  pub never_both : (r : Refusal) → l.asks → l.gives r → ⊥
  pub one-refusal : (r t : Refusal) → l.gives r → l.gives t → r ≡ t

unfoldable pub AllSharp : List Line → Type 0
AllSharp [] = Unit {0}
AllSharp (l ∷ ls) = Sharp l × AllSharp ls

pub test-sharp : (P : Type 0) (r : Refusal) → Sharp (fact_line P r)
test-sharp P r = record { never_both = λ x p g. g.0 p; one-refusal = λ x y g h. g.1 ∙ sym h.1 }

some_one : (o : Option ℕ) (i j : ℕ) → o ≡ Some i → o ≡ Some j → i ≡ j
some_one o i j p q = cc

bad-one : (s : Shape) (g h : Fault) (i j : ℕ) → s ≡ Err (g, i) → s ≡ Err (h, j) → (g ≡ h) × (i ≡ j)
bad-one s g h i j p q = bad-parts h g i j (sym p ∙ q)

whole-bad : (s : Shape) (g : Fault) (i : ℕ) → s ≡ Ok tt → s ≡ Err (g, i) → ⊥
whole-bad s g i p q = let z : ◌≡◌ {A = ℕ} 0 1 = cc in omega arith

pub found-sharp : (o : Option ℕ) (f : ℕ → Refusal) → Sharp (find_line o f)
found-sharp o f =
    record {
      never_both = λ x p g. none-some g.0 (sym p ∙ g.1);
      one-refusal = λ x y g h. g.2 ∙ ap f (some_one o g.0 h.0 g.1 h.1) ∙ sym h.2;
    }

pub shaped-sharp : (s : Shape) (f : Fault → ℕ → Refusal) → Sharp (shape_line s f)
shaped-sharp s f =
    record {
      never_both = λ x p g. whole-bad s g.0 g.1 p g.2;
      one-refusal = λ x y g h.
          let (a, b) = bad-one s g.0 h.0 g.1 h.1 g.2 h.2 in
          g.3 ∙ ap (λ (z : Fault). f z g.1) a ∙ ap (f h.0) b ∙ sym h.3;
    }

pub first_one : (ls : List Line) (v w : Verdict) → AllSharp ls → First ls v → First ls w → v ≡ w
unfolding First AllSharp
first_one [] v w k p q = p ∙ sym q
first_one (l ∷ ls) v w (s, k) (inl (r, g, e)) (inl (t, h, f)) = e ∙ ap Err (s.one-refusal r t g h) ∙ sym f
first_one (l ∷ ls) v w (s, k) (inl (r, g, e)) (inr (a, q)) = absurd (s.never_both r a g)
first_one (l ∷ ls) v w (s, k) (inr (a, p)) (inl (t, h, f)) = absurd (s.never_both t a h)
first_one (l ∷ ls) v w (s, k) (inr (a, p)) (inr (b, q)) = first_one ls v w k p q

-- so each entry's lines settle its verdict
pub load-order-one : (m : Limits) (file : List ℕ) (room : ℕ) → AllSharp (load_lines m file room)
unfolding AllSharp
load-order-one m file room =
    (test-sharp _ _, (test-sharp _ _, (test-sharp _ _, (test-sharp _ _, (test-sharp _ _, (test-sharp _ _, (found-sharp _ _, (shaped-sharp _ _, (found-sharp _ _, (found-sharp _ _, tt))))))))))

pub answer-order-one : (m : Limits) (s : State) (answer : List ℕ) → AllSharp (answer_lines m s answer)
unfolding AllSharp
answer-order-one m s answer = (test-sharp _ _, (test-sharp _ _, (shaped-sharp _ _, (found-sharp _ _, (found-sharp _ _, (test-sharp _ _, tt))))))

pub reply-order-one : (m : Limits) (kept work answer : List ℕ) → AllSharp (reply_lines m kept work answer)
unfolding AllSharp
reply-order-one m kept work answer = (test-sharp _ _, (test-sharp _ _, answer-order-one m (state_of m kept) answer))
