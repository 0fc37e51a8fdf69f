-- Load, run and reply as total functions: from all bytes lent and all numbers passed to all bytes after and all numbers returned;
-- and histories of calls. Assumes nothing.
use Rattle.std.specs.Prelude.{ℕ, zero, suc, ◌+◌, ◌*◌, ◌≤◌, ◌≡◌, Bool, true, false, cond, not, List, [], ◌∷◌, ◌++◌, map, eqb, leb, ltb, length, take, drop, get_or}
use Rattle.std.specs.Prelude.{Option, None, Some}
use Rattle.meaning.specs.Bytes.{◌∧ᵇ◌, within, width, read, write, reads, writes, padded, file_head, type_row, term_row, reply_head, call_head, Limits, record_bytes}
use Rattle.meaning.specs.Types.{Form, form_of, bad_type, same_numbers, empty, member}
use Rattle.meaning.specs.Terms.{Tree, ty_of, size, kind_no, raw, row_of, shape, tree_of}
use Rattle.meaning.specs.Typing.{stop, first_bad}
use Rattle.meaning.specs.Steps.{Call, Out, stay, go, value, step, settle}
use Rattle.meaning.specs.Records.{State, Entry, version, record_of, state_of, sound, listed, first_not}
use Rattle.meaning.specs.declared.Fault.{Fault}
use Rattle.meaning.specs.Terms.{Shape}
use Rattle.meaning.specs.declared.Refusal.{Refusal}
use Rattle.meaning.specs.declared.Refusal.TheVariants.{Length, Size, Mark, Version, Count, TypeRow, Row, Future, Typing, Unsound, Header, NotOpen, ReplyRow, ReplyKind, ReplyTyping, ReplyRoom}
use Rattle.meaning.specs.Answers.{Verdict}
use Rattle.std.specs.Prelude.{Ok, Err}
use Rattle.meaning.specs.declared.Answer.{Answer}
use Rattle.meaning.specs.declared.Answer.TheVariants.{Value, Waiting, Sent, Held, Budget, Room, Numbers}
use Rattle.meaning.specs.Answers.{Run}
use Rattle.meaning.specs.Answers.{ended_by}

-- refused unless a test holds; refused at the place found; or what follows
unfoldable pub require : Bool → Refusal → Verdict → Verdict
require true r v = v
require false r v = Err r

unfoldable pub refuse : Option ℕ → (ℕ → Refusal) → Verdict → Verdict
refuse None r v = v
refuse (Some i) r v = Err (r i)

unfoldable pub refuse_shape : Shape → (Fault → ℕ → Refusal) → Verdict → Verdict
refuse_shape (Ok tt) r v = v
refuse_shape (Err (f, i)) r v = Err (r f i)

-- what an accepting call leaves; "Refusals .. change no byte"
unfoldable pub leaves : Verdict → List ℕ → List ℕ → List ℕ
leaves (Ok tt) new old = new
leaves (Err r) new old = old

-- Load -----------------------------------------------------------------------------------------------------------

pub record Loaded : Type 0 where
  pub verdict : Verdict
  pub record' : List ℕ

abbrev pub file_no : ℕ → List ℕ → ℕ
file_no i file = get_or (read file_head file) i 0

-- the edition that a file says it is of
abbrev pub file_edition : List ℕ → ℕ
file_edition file = file_no 3 file

abbrev pub file_type_count : List ℕ → ℕ
file_type_count file = file_no 5 file

abbrev pub file_row_count : List ℕ → ℕ
file_row_count file = file_no 6 file

unfoldable pub file_types : List ℕ → List (List ℕ)
file_types file = reads type_row (file_type_count file) (drop (width file_head) file)

unfoldable pub file_rows : List ℕ → List (List ℕ)
file_rows file = reads term_row (file_row_count file) (drop (width file_head + width type_row * file_type_count file) file)

unfoldable pub file_tree : List ℕ → Tree
file_tree file = tree_of (map row_of (file_rows file))

unfoldable pub no_future : List ℕ → Bool
no_future r = not (eqb (kind_no r) 9)

-- refusals 6, 7, 8, 9
unfoldable pub program_verdict : List ℕ → Verdict
program_verdict file =
    refuse (bad_type (file_edition file) (file_types file)) TypeRow
    (refuse_shape (shape (file_edition file) (file_type_count file) (file_rows file)) Row
    (refuse (first_not no_future (file_rows file)) Future
    (refuse (first_bad (form_of (file_types file)) empty (file_tree file)) Typing (Ok tt))))

-- "Load: 1, 2 (under 10), 3, 4, 5, 2, 6, 7, 8, 9"
unfoldable pub load_verdict : Limits → List ℕ → ℕ → Verdict
load_verdict m file room =
    require (eqb room (record_bytes m)) Length
    (require (leb (width file_head) (length file)) Size
    (require (same_numbers (take 3 (read file_head file)) (84 ∷ 67 ∷ 65 ∷ [])) Mark
    (require (eqb (file_edition file) version) Version
    (require (eqb (file_no 4 file) 0 ∧ᵇ within 1 m.types (file_type_count file) ∧ᵇ within 1 m.program_rows (file_row_count file)) Count
    (require (eqb (length file) (width file_head + width type_row * file_type_count file + width term_row * file_row_count file)) Size
    (program_verdict file))))))

-- "A program is of legal form if it meets nothing before 9" (the record's length is the caller's)
pub record LegalFile (m : Limits) (file : List ℕ) : Type 0 where
  pub long : width file_head ≤ length file
  pub mark : take 3 (read file_head file) ≡ 84 ∷ 67 ∷ 65 ∷ []
  pub edition : file_edition file ≡ version
  pub zero-byte : file_no 4 file ≡ 0
  pub types-some : 1 ≤ file_type_count file
  pub types-many : file_type_count file ≤ m.types
  pub rows-some : 1 ≤ file_row_count file
  pub rows-many : file_row_count file ≤ m.program_rows
  pub size : length file ≡ width file_head + width type_row * file_type_count file + width term_row * file_row_count file
  pub types-good : bad_type (file_edition file) (file_types file) ≡ None
  pub one-tree : shape (file_edition file) (file_type_count file) (file_rows file) ≡ Ok tt
  pub no-future : first_not no_future (file_rows file) ≡ None

-- "An accepted load writes a fresh record: the file's types and rows, next number 1, no open call, row 0's type as program type"
unfoldable pub loaded_state : List ℕ → State
loaded_state file = record { types = file_types file; tree = file_tree file; calls = []; next = 1; program = ty_of (file_tree file) }

unfoldable pub load : Limits → List ℕ → List ℕ → Loaded
load m file kept =
    record {
      verdict = load_verdict m file (length kept);
      record' = leaves (load_verdict m file (length kept)) (record_of m (loaded_state file)) kept;
    }

-- Run ------------------------------------------------------------------------------------------------------------

-- what a step that sends meets: "3 HELD .. 64 are open", or else "6 NUMBERS .. the next number is 65,536", or nothing
unfoldable pub send_meets : Limits → State → Option Answer
send_meets m s =
    cond (ltb (length s.calls) m.calls)
    (cond (leb s.next m.last_number) None (Some Numbers)) (Some Held)

-- before a step: an answer that ends the run, or the state behind the step and the call that it sends
pub data Try : Type 0 where
  halt : Answer → Try
  pass : Option Call → State → Try

unfoldable pub need : Bool → Answer → Try → Try
need true a t = t
need false a t = halt a

unfoldable pub unmet : Option Answer → Try → Try
unmet None t = t
unmet (Some a) t = halt a

unfoldable pub stepped : State → Tree → State
stepped s u = record { types = s.types; tree = u; calls = s.calls; next = s.next; program = s.program }

-- "Entering a call .. gives the list back whole": behind the others, whose numbers are smaller
unfoldable pub sent : State → Call → Tree → State
sent s c u =
    record {
      types = s.types;
      tree = u;
      calls = s.calls ++ (record { number = s.next; type = c.result } ∷ []);
      next = suc s.next;
      program = s.program;
    }

-- the state behind n steps, where there are so many; no limit is looked at
unfoldable pub on_step : State → Out → Option State
on_step s stay = None
on_step s (go None u) = Some (stepped s u)
on_step s (go (Some c) u) = Some (sent s c u)

unfoldable pub next_state : State → Option State
next_state s = on_step s (step (form_of s.types) s.next s.tree)

unfoldable pub after_steps : ℕ → State → Option State
after_steps zero s = Some s
after_steps (suc n) s = elim (next_state s) [ None ↦ None | Some u ↦ after_steps n u ]

-- "Before each step, in this order": VALUE, WAITING, HELD, NUMBERS, ROOM, BUDGET
unfoldable pub try_out : Limits → State → Out → Try
try_out m s stay = halt Waiting
try_out m s (go None u) = need (leb (size u) m.rows) Room (pass None (stepped s u))
try_out m s (go (Some c) u) = unmet (send_meets m s) (need (leb (size u) m.rows) Room (pass (Some c) (sent s c u)))

unfoldable pub try : Limits → State → Try
try m s = cond (value s.tree) (halt Value) (try_out m s (step (form_of s.types) s.next s.tree))

-- how a run ends: the answer, the steps made, the state, and the call's bytes if one was sent
pub record Ended : Type 0 where
  pub answer : Answer
  pub made : ℕ
  pub state : State
  pub letter : List ℕ

-- a sent call: its number, tool, row count and type, then the rows of its arguments
unfoldable pub letter_of : ℕ → Call → List ℕ
letter_of k c = write call_head (k ∷ c.tool ∷ length c.rows ∷ c.result ∷ []) ++ writes term_row (map raw c.rows)

unfoldable pub again : Ended → Ended
again e = record { answer = e.answer; made = suc e.made; state = e.state; letter = e.letter }

-- no step is left: the first answer that holds, BUDGET last
unfoldable pub ended : State → Try → Ended
ended s (halt a) = record { answer = a; made = 0; state = s; letter = [] }
ended s (pass c u) = record { answer = Budget; made = 0; state = s; letter = [] }

-- "A send counts as a step and ends the run with 2 SENT"
unfoldable pub onward : State → Try → (State → Ended) → Ended
onward s (halt a) k = record { answer = a; made = 0; state = s; letter = [] }
onward s (pass (Some c) u) k = record { answer = Sent s.next; made = 1; state = u; letter = letter_of s.next c }
onward s (pass None u) k = again (k u)

unfoldable pub runs : Limits → ℕ → State → Ended
runs m zero s = ended s (try m s)
runs m (suc budget) s = onward s (try m s) (λ u. runs m budget u)

pub record RunOut : Type 0 where
  pub answer : Run
  pub record' : List ℕ
  pub work' : List ℕ

unfoldable pub lent : Limits → List ℕ → List ℕ → Bool
lent m kept work = eqb (length kept) (record_bytes m) ∧ᵇ eqb (length work) m.work_bytes

-- "The work buffer then holds the call and zeros; after other answers .. only zeros"
unfoldable pub ran_out : Limits → Ended → RunOut
ran_out m e = record { answer = ended_by e.answer e.made; record' = record_of m e.state; work' = padded m.work_bytes e.letter }

unfoldable pub rejected : Refusal → List ℕ → List ℕ → RunOut
rejected r kept work = record { answer = Err r; record' = kept; work' = work }

-- "Run: 1, 10"
unfoldable pub run : Limits → List ℕ → List ℕ → ℕ → RunOut
run m kept work budget =
    cond (lent m kept work)
    (cond (sound m kept) (ran_out m (runs m budget (state_of m kept))) (rejected Unsound kept work))
    (rejected Length kept work)

-- Reply ----------------------------------------------------------------------------------------------------------

pub record Replied : Type 0 where
  pub verdict : Verdict
  pub record' : List ℕ
  pub work' : List ℕ

abbrev pub reply_no : ℕ → List ℕ → ℕ
reply_no i reply = get_or (read reply_head reply) i 0

abbrev pub reply_number : List ℕ → ℕ
reply_number reply = reply_no 0 reply

abbrev pub reply_count : List ℕ → ℕ
reply_count reply = reply_no 1 reply

unfoldable pub reply_rows : List ℕ → List (List ℕ)
reply_rows reply = reads term_row (reply_count reply) (drop (width reply_head) reply)

unfoldable pub reply_tree : List ℕ → Tree
reply_tree reply = tree_of (map row_of (reply_rows reply))

-- a reply: the call's number (four bytes), its row count (two; at least 1, at most the board's), two zeros, the rows
unfoldable pub reply_head_ok : Limits → List ℕ → Bool
reply_head_ok m reply =
    leb (width reply_head) (length reply)
    ∧ᵇ within 1 m.reply_rows (reply_count reply)
    ∧ᵇ eqb (reply_no 2 reply) 0
    ∧ᵇ eqb (length reply) (width reply_head + width term_row * reply_count reply)

-- "a reply [is of legal form] if it meets neither 11 nor 13"
pub record LegalReply (m : Limits) (s : State) (reply : List ℕ) : Type 0 where
  pub header : reply_head_ok m reply ≡ true
  pub one-tree : shape version (length s.types) (reply_rows reply) ≡ Ok tt

-- refusal 14: "not of kind 1 to 4, 12, 13, 16"
abbrev pub reply_kinds : List ℕ
reply_kinds = 1 ∷ 2 ∷ 3 ∷ 4 ∷ 12 ∷ 13 ∷ 16 ∷ []

unfoldable pub reply_kind : List ℕ → Bool
reply_kind r = member (kind_no r) reply_kinds

-- refusal 15: "first reply row that fails typing; row 0 must also have the listed type"
unfoldable pub reply_bad : (ℕ → Form) → ℕ → Tree → Option ℕ
reply_bad form ty v = stop (eqb (ty_of v) ty) (first_bad form empty v)

unfoldable pub answer_verdict : Limits → State → List ℕ → Option ℕ → Verdict
answer_verdict m s reply None = Err NotOpen
answer_verdict m s reply (Some ty) =
    refuse_shape (shape version (length s.types) (reply_rows reply)) ReplyRow
    (refuse (first_not reply_kind (reply_rows reply)) ReplyKind
    (refuse (reply_bad (form_of s.types) ty (reply_tree reply)) ReplyTyping
    (require (leb (size (settle (reply_number reply) (reply_tree reply) s.tree)) m.rows) ReplyRoom (Ok tt))))

-- "Reply: 1, 10, then 11 to 16"
unfoldable pub reply_verdict : Limits → State → List ℕ → Verdict
reply_verdict m s reply =
    require (reply_head_ok m reply) Header (answer_verdict m s reply (listed s.calls (reply_number reply)))

-- "taking one out, gives the list back whole", "takes the entry out"
unfoldable pub without : ℕ → List Entry → List Entry
without k [] = []
without k (e ∷ es) = cond (eqb e.number k) es (e ∷ without k es)

unfoldable pub replied_state : State → List ℕ → State
replied_state s reply =
    record {
      types = s.types;
      tree = settle (reply_number reply) (reply_tree reply) s.tree;
      calls = without (reply_number reply) s.calls;
      next = s.next;
      program = s.program;
    }

unfoldable pub replied_out : Limits → State → List ℕ → List ℕ → List ℕ → Verdict → Replied
replied_out m s reply kept work v =
    record { verdict = v; record' = leaves v (record_of m (replied_state s reply)) kept; work' = leaves v (padded m.work_bytes []) work }

unfoldable pub reply : Limits → List ℕ → List ℕ → List ℕ → Replied
reply m kept work answer =
    cond (lent m kept work)
    (cond (sound m kept) (replied_out m (state_of m kept) answer kept work (reply_verdict m (state_of m kept) answer))
    (replied_out m (state_of m kept) answer kept work (Err Unsound)))
    (replied_out m (state_of m kept) answer kept work (Err Length))

-- What the entries' contracts say ----------------------------------------------------------------------------------

-- the answer, and every byte of every lent buffer
pub record LoadSays (m : Limits) (file kept : List ℕ) (v : Verdict) (kept' : List ℕ) : Type 0 where
  pub verdict : v ≡ (load m file kept).verdict
  pub kept-bytes : kept' ≡ (load m file kept).record'

pub record RunSays (m : Limits) (kept work : List ℕ) (budget : ℕ) (r : Run) (kept' work' : List ℕ) : Type 0 where
  pub answer : r ≡ (run m kept work budget).answer
  pub kept-bytes : kept' ≡ (run m kept work budget).record'
  pub work-bytes : work' ≡ (run m kept work budget).work'

pub record ReplySays (m : Limits) (kept work answer : List ℕ) (v : Verdict) (kept' work' : List ℕ) : Type 0 where
  pub verdict : v ≡ (reply m kept work answer).verdict
  pub kept-bytes : kept' ≡ (reply m kept work answer).record'
  pub work-bytes : work' ≡ (reply m kept work answer).work'

-- Histories ------------------------------------------------------------------------------------------------------

-- a run with a budget, or a reply; each with the work buffer lent
pub data Move : Type 0 where
  running : ℕ → List ℕ → Move
  replying : List ℕ → List ℕ → Move

unfoldable pub after_move : Limits → List ℕ → Move → List ℕ
after_move m b (running budget work) = (run m b work budget).record'
after_move m b (replying answer work) = (reply m b work answer).record'

-- the record after a list of calls, refused ones included
unfoldable pub after : Limits → List ℕ → List Move → List ℕ
after m b [] = b
after m b (v ∷ vs) = after m (after_move m b v) vs

-- the number that an answer says was sent
abbrev pub number_sent : Answer → List ℕ
number_sent (Sent k) = k ∷ []
number_sent Value = []
number_sent Waiting = []
number_sent Held = []
number_sent Budget = []
number_sent Room = []
number_sent Numbers = []

unfoldable pub sent_in : Run → List ℕ
sent_in (Ok r) = number_sent r.answer
sent_in (Err x) = []

unfoldable pub sent_by : Limits → List ℕ → Move → List ℕ
sent_by m b (running budget work) = sent_in (run m b work budget).answer
sent_by m b (replying answer work) = []

-- the numbers sent in a history, in order
unfoldable pub sends : Limits → List ℕ → List Move → List ℕ
sends m b [] = []
sends m b (v ∷ vs) = sent_by m b v ++ sends m (after_move m b v) vs
