-- The proved cases of the bench sheet: one table, one proof, computed on states and carried to bytes by laws.
use Prim.Native.Nat.{ℕ, ◌-◌}
use mathlib.Core.Path.{◌≡◌, refl, ap, ◌∙◌}
use mathlib.Core.Bool.{Bool, true, false}
use mathlib.Core.List.{List, [], ◌∷◌, ◌++◌, map}
use Rattle.std.specs.Prelude.{None, Some}
use borrow.Author.Tests.{ltb-true}
use lib.Dec.{ltb}
use lib.ListN.{length, replicate}
use Rattle.meaning.specs.Bytes.{◌∧ᵇ◌, within, zeros, number, spell, width, read, write, reads, writes, padded, calls_at, rows_at, record_bytes}
use Rattle.meaning.specs.Types.{types, names, params, elem_of, pairs, parts, form_row, form_of, every, ground_form, ground_below, ground, last_form, nonzero, member, distinct, below, plain_ok, list_ok, tuple_ok, names_ok, function_ok, fields_ok, same_numbers, fresh, ground_call, type_ok, bad_type_from, bad_type, find, empty, pick, ◌⹁◌, place, low, rest}
use Rattle.meaning.specs.Terms.{head_of, ty_of, flat, size, code, is, n_of, word_of, head_from, last_kind, raw, row_of, within_one, fits, row_fault, unless-bad, shape_from, shape, blank, kids, trees, top, tree_of}
use Rattle.meaning.specs.Typing.{list, tys, lit_base, first_is, below_ok, base_no, is_base, when_list, when_tuple, when_fun, when_more, same_side, same_params, given, stop, before, later, scope, masked_ok, zipped_ok, rule_ok, row_ok, first_bad}
use Rattle.meaning.specs.Steps.{◌∨ᵇ◌, veil, hide, swap, hit, assign, put, due, settle, value, nth, child, kid, become, if_step, isnil_step, project_step, send_step, is_list, ready, any_nil, kids_at, lproject_step, tie, fix_step, zip_cons, zip_step, apply_step, let_step, contract, nowhere, everywhere, first, unless, behind, unready, apply_looks, looks, or_else, wrap, tail_goes, head_goes, visit, step, earlier}
use Rattle.meaning.specs.Records.{raw_entry, head_numbers, record_of, types_in, entries_in, rows_in, entry_of, state_of, first_not, nothing, is_whole, head_sound, unused, space_sound, types_sound, shape_sound, term_sound, rises, entry_sound, calls_sound, listed, future_listed, futures_sound, program_sound, sound}
use Rattle.meaning.specs.Entries.{require, refuse, refuse_shape, leaves, file_types, file_rows, file_tree, no_future, program_verdict, load_verdict, loaded_state, load, send_meets, need, unmet, stepped, sent, try_out, try, letter_of, again, ended, onward, runs, lent, ran_out, rejected, run, reply_rows, reply_tree, reply_head_ok, reply_kind, reply_bad, answer_verdict, reply_verdict, without, replied_state, replied_out, reply}
use Rattle.meaning.specs.Bytes.{arm}
use Rattle.meaning.specs.Records.{State}
use Rattle.meaning.specs.Entries.{RunOut, Replied}
use Rattle.meaning.specs.Types.{Form}
use Rattle.meaning.specs.Steps.{stay, go}
use Rattle.meaning.proofs.Trees.Tests.{left, right}
use Rattle.meaning.proofs.Bytes.Layouts.{AllBytes, bytes-nil, bytes-cons}
use Rattle.meaning.proofs.Bytes.Records.{Good, arm-small, state-record}
use Rattle.meaning.proofs.Bytes.Files.{file_numbers, file_of, file-bytes, sheet, reply_of, loaded-good}
use Rattle.meaning.proofs.Entries.Paths.{run-keeps}
use Rattle.meaning.proofs.Entries.GoodStays.{arm-board, step_stays, reply-stays}
use Rattle.meaning.proofs.Entries.OnGoodStates.{load-writes, run-good, reply-good}
use Rattle.meaning.specs.Terms.{str, truth, lit, var, lambda, foreign, apply, future, ite, fix, nil, cons, isnil, zip, tuple, project, lproject, bind, Tree, node, end, more}
use Rattle.meaning.specs.declared.Refusal.TheVariants.{NotOpen, ReplyTyping, Size}
use Rattle.meaning.specs.Answers.{Verdict}
use Rattle.std.specs.Prelude.{Ok, Err}
use Rattle.meaning.specs.declared.Answer.TheVariants.{Value, Waiting, Sent, Budget}
use Rattle.meaning.specs.Answers.{Run}
use Rattle.meaning.specs.Answers.{ended_by}

-- Programs -------------------------------------------------------------------------------------------------------

abbrev typed : ℕ → ℕ → ℕ → List ℕ → List ℕ
typed form n result pairs = form ∷ n ∷ result ∷ (pairs ++ replicate (16 - length pairs) 0)

-- 0 Str, 1 Bool, 2 foreign () to Str, 3 {Str, Str}, 4 List Bool, 5 native (1, 2 : Bool) to Bool, 6 native (1, 2 : List Bool) to
-- List Bool, 7 native () to Str, 8 native (3 : type 7) to Str, 9 List Str, 10 List {Str, Str}
abbrev table : List (List ℕ)
table =
    typed 1 0 0 []
    ∷ typed 3 0 0 []
    ∷ typed 7 0 0 []
    ∷ typed 5 2 0 (0 ∷ 0 ∷ 0 ∷ 0 ∷ [])
    ∷ typed 4 0 1 []
    ∷ typed 6 2 1 (1 ∷ 1 ∷ 2 ∷ 1 ∷ [])
    ∷ typed 6 2 4 (1 ∷ 4 ∷ 2 ∷ 4 ∷ [])
    ∷ typed 6 0 0 []
    ∷ typed 6 1 0 (3 ∷ 7 ∷ [])
    ∷ typed 4 0 0 []
    ∷ typed 4 0 3 []
    ∷ []

abbrev program : Tree → List ℕ
program t = file_of table (map raw (flat t))

abbrev text : ℕ → Tree
text w = node (lit (str w)) 0 end

abbrev bool : Bool → Tree
bool b = node (lit (truth b)) 1 end

abbrev locate : Tree
locate = node (apply 0) 0 (more (node (foreign 9) 2 end) end)

abbrev p : Tree
p = node (var 5) 0 end

abbrev pair : Tree → Tree → Tree
pair a b = node (tuple 2) 3 (more a (more b end))

abbrev future-of : ℕ → Tree
future-of k = node (future k) 0 end

-- let p = locate() in {p, p}
abbrev twice : Tree
twice = node (bind 5) 3 (more locate (more (pair p p) end))

abbrev bools : List Bool → Tree
bools [] = node nil 4 end
bools (b ∷ bs) = node cons 4 (more (bool b) (more (bools bs) end))

-- zip of (if a then b else false) over a, b
abbrev both : Tree
both = node lambda 5 (more (node ite 1 (more (node (var 1) 1 end) (more (node (var 2) 1 end) (more (bool false) end)))) end)

abbrev zipped : List Bool → List Bool → Tree
zipped a b = node (apply 2) 4 (more (node (zip 3) 6 (more both end)) (more (bools a) (more (bools b) end)))

-- isnil of cons locate() nil
abbrev isnil-cons : Tree
isnil-cons = node isnil 1 (more (node cons 9 (more locate (more (node nil 9 end) end))) end)

-- second of {locate(), str 3}
abbrev second : Tree
second = node (project 2) 0 (more (pair locate (text 3)) end)

-- list project of nil
abbrev project-nil : Tree
project-nil = node (lproject 1) 9 (more (node nil 10 end) end)

-- (fix of native f giving f())()
abbrev loop : Tree
loop = node (apply 0) 0 (more (node fix 7 (more (node lambda 8 (more (node (apply 0) 0 (more (node (var 3) 7 end) end)) end)) end)) end)

-- let x = true in let x = false in x
abbrev shadowed : Tree
shadowed = node (bind 6) 1 (more (bool true) (more (node (bind 6) 1 (more (bool false) (more (node (var 6) 1 end) end))) end))

-- if true then str 7 else str 8, as the 114 bytes of the sheet
abbrev first-file : List ℕ
first-file =
    (84 ∷ 67 ∷ 65 ∷ 1 ∷ 0 ∷ 0 ∷ 2 ∷ 0 ∷ 4 ∷ 0 ∷ [])
    ++ ((1 ∷ replicate 35 0) ++ ((3 ∷ replicate 35 0)
    ++ (10 ∷ 0 ∷ 0 ∷ 0 ∷ 0 ∷ 0 ∷ 0 ∷ 0 ∷ 3 ∷ 0 ∷ 1 ∷ 0 ∷ 0 ∷ 0 ∷ 0 ∷ 0 ∷ 1 ∷ 0 ∷ 0 ∷ 0 ∷ 7 ∷ 0 ∷ 0 ∷ 0 ∷ 1 ∷ 0 ∷ 0 ∷ 0 ∷ 8 ∷ 0 ∷ 0 ∷ 0 ∷ [])))

-- a reply
abbrev says : ℕ → Tree → List ℕ
says k v = reply_of k (map raw (flat v))

-- The entries, on any buffers of the right length ------------------------------------------------------------------

lows : List ℕ → Bool
lows [] = true
lows (b ∷ s) = ltb b 256 ∧ᵇ lows s

lows-bytes : (s : List ℕ) → lows s ≡ true → AllBytes s
unfolding lows
lows-bytes [] e = bytes-nil
lows-bytes (b ∷ s) e = bytes-cons b s (ltb-true b 256 (left _ _ e)) (lows-bytes s (right _ _ e))

-- the bytes are those of a good state
pub record At (b : List ℕ) (s : State) : Type 0 where
  pub bytes : b ≡ record_of arm s
  pub good : Good arm s

state-at : {b : List ℕ} (s : State) → At b s → state_of arm b ≡ s
state-at s a = ap (state_of arm) a.bytes ∙ state-record arm s arm-small a.good

module _ (old : List ℕ) (o : length old ≡ 26132) where
  loads : (file : List ℕ) → (load arm file old).verdict ≡ load_verdict arm file 26132
  unfolding load
  loads file = ap (load_verdict arm file) o

  loaded : (file : List ℕ) → AllBytes file → load_verdict arm file 26132 ≡ Ok tt → At (load arm file old).record' (loaded_state file)
  loaded file h e = record { bytes = load-writes arm file old (loads file ∙ e); good = loaded-good arm file 26132 e h arm-board.programs }

module _ (work : List ℕ) (w : length work ≡ 16400) (b : List ℕ) (s : State) (a : At b s) where
  ran : (n : ℕ) → run arm b work n ≡ ran_out arm (runs arm n s)
  ran n = ap (λ (x : List ℕ). run arm x work n) a.bytes ∙ run-good arm arm-small s a.good work n w

  answered : (n : ℕ) → (run arm b work n).answer ≡ ended_by (runs arm n s).answer (runs arm n s).made
  unfolding ran_out
  answered n = ap (λ (x : RunOut). x.answer) (ran n)

  worked : (n : ℕ) → (run arm b work n).work' ≡ padded 16400 (runs arm n s).letter
  unfolding ran_out
  worked n = ap (λ (x : RunOut). x.work') (ran n)

  behind-run : (n : ℕ) → At (run arm b work n).record' (runs arm n s).state
  unfolding ran_out
  behind-run n = record { bytes = ap (λ (x : RunOut). x.record') (ran n); good = run-keeps arm (Good arm) (step_stays arm arm-board) n s a.good }

  replied : (r : List ℕ) → reply arm b work r ≡ replied_out arm s r (record_of arm s) work (reply_verdict arm s r)
  replied r = ap (λ (x : List ℕ). reply arm x work r) a.bytes ∙ reply-good arm arm-small s a.good work r w

  judged : (r : List ℕ) → (reply arm b work r).verdict ≡ reply_verdict arm s r
  unfolding replied_out
  judged r = ap (λ (x : Replied). x.verdict) (replied r)

  behind-reply : (r : List ℕ) → reply_verdict arm s r ≡ Ok tt → At (reply arm b work r).record' (replied_state s r)
  unfolding replied_out leaves
  behind-reply r e = record { bytes = ap (λ (x : Replied). x.record') (replied r) ∙ rw e refl; good = reply-stays arm s r a.good e }

  cleared : (r : List ℕ) → reply_verdict arm s r ≡ Ok tt → (reply arm b work r).work' ≡ replicate 16400 0
  unfolding replied_out leaves padded
  cleared r e = ap (λ (x : Replied). x.work') (replied r) ∙ rw e refl

-- The table --------------------------------------------------------------------------------------------------------

abbrev term : List ℕ → Tree
term b = (state_of arm b).tree

abbrev rows : List ℕ → ℕ
rows b = size (term b)

abbrev opened : List ℕ → Tree → List ℕ
opened old t = (load arm (program t) old).record'

abbrev answer-of : List ℕ → List ℕ → ℕ → Run
answer-of work b budget = (run arm b work budget).answer

abbrev after_run : List ℕ → List ℕ → ℕ → List ℕ
after_run work b budget = (run arm b work budget).record'

abbrev answer-to : List ℕ → List ℕ → List ℕ → Verdict
answer-to work b r = (reply arm b work r).verdict

abbrev after-reply : List ℕ → List ℕ → List ℕ → List ℕ
after-reply work b r = (reply arm b work r).record'

-- the stages of `twice`: first call sent, both sent, second answered, both answered
abbrev one-sent : List ℕ → List ℕ → List ℕ
one-sent old work = after_run work (opened old twice) 1000

abbrev two-sent : List ℕ → List ℕ → List ℕ
two-sent old work = after_run work (one-sent old work) 1000

abbrev one-back : List ℕ → List ℕ → List ℕ
one-back old work = after-reply work (two-sent old work) (says 2 (text 41))

abbrev both-back : List ℕ → List ℕ → List ℕ
both-back old work = after-reply work (one-back old work) (says 1 (text 40))

abbrev sent-one : State
sent-one = (runs arm 1000 (loaded_state (program twice))).state

abbrev sent-two : State
sent-two = (runs arm 1000 sent-one).state

abbrev back_one : State
back_one = replied_state sent-two (says 2 (text 41))

abbrev back-two : State
back-two = replied_state back_one (says 1 (text 40))

-- of each line: the entry's answer, the rows or the term of the record, on any record buffer and work buffer of the right length
abbrev pub Table : List ℕ → List ℕ → Type 0
Table old work =
    -- if true then str 7 else str 8: 1 step, str 7. Budget 0: BUDGET, 0 steps. The file is 114 bytes; empty input is refused 2
    (length first-file ≡ 114)
    × ((load arm first-file old).verdict ≡ Ok tt)
    × (answer-of work (load arm first-file old).record' 1000 ≡ ended_by Value 1)
    × (rows (after_run work (load arm first-file old).record' 1000) ≡ 1)
    × (term (after_run work (load arm first-file old).record' 1000) ≡ text 7)
    × (answer-of work (load arm first-file old).record' 0 ≡ ended_by Budget 0)
    × ((load arm [] old).verdict ≡ Err Size)
    -- let p = locate() in {p, p}: 6 rows, then 5; SENT 1; SENT 2; WAITING with 3 rows
    × ((load arm (program twice) old).verdict ≡ Ok tt)
    × (rows (opened old twice) ≡ 6)
    × (answer-of work (opened old twice) 1 ≡ ended_by Budget 1)
    × (rows (after_run work (opened old twice) 1) ≡ 5)
    × (answer-of work (after_run work (opened old twice) 1) 1000 ≡ ended_by (Sent 1) 1)
    × (answer-of work (opened old twice) 1000 ≡ ended_by (Sent 1) 2)
    × ((run arm (opened old twice) work 1000).work' ≡ padded 16400 (1 ∷ 0 ∷ 0 ∷ 0 ∷ 9 ∷ 0 ∷ 0 ∷ 0 ∷ 0 ∷ 0 ∷ 0 ∷ 0 ∷ []))
    × (answer-of work (one-sent old work) 1000 ≡ ended_by (Sent 2) 1)
    × (answer-of work (two-sent old work) 1000 ≡ ended_by Waiting 0)
    × (rows (two-sent old work) ≡ 3)
    × (term (two-sent old work) ≡ pair (future-of 1) (future-of 2))
    -- Reply str 41 to 2, str 40 to 1: {str 40, str 41}. A second reply to 1: 12. A Bool for 1 while open: 15, place 0
    × (answer-to work (two-sent old work) (says 2 (text 41)) ≡ Ok tt)
    × (answer-to work (one-back old work) (says 1 (text 40)) ≡ Ok tt)
    × ((reply arm (one-back old work) work (says 1 (text 40))).work' ≡ replicate 16400 0)
    × (term (both-back old work) ≡ pair (text 40) (text 41))
    × ((state_of arm (both-back old work)).calls ≡ [])
    × (answer-of work (both-back old work) 1000 ≡ ended_by Value 0)
    × (answer-to work (both-back old work) (says 1 (text 40)) ≡ Err NotOpen)
    × (answer-to work (two-sent old work) (says 1 (bool true)) ≡ Err (ReplyTyping 0))
    -- zip of (if a then b else false) over a, b with [true, false], [true, true]: 17 rows, 22 after one step, [true, false] after 7
    × (rows (opened old (zipped (true ∷ false ∷ []) (true ∷ true ∷ []))) ≡ 17)
    × (rows (after_run work (opened old (zipped (true ∷ false ∷ []) (true ∷ true ∷ []))) 1) ≡ 22)
    × (answer-of work (opened old (zipped (true ∷ false ∷ []) (true ∷ true ∷ []))) 1000 ≡ ended_by Value 7)
    × (term (after_run work (opened old (zipped (true ∷ false ∷ []) (true ∷ true ∷ []))) 1000) ≡ bools (true ∷ false ∷ []))
    -- the same with [true, true], [true]: [true] after 4
    × (answer-of work (opened old (zipped (true ∷ true ∷ []) (true ∷ []))) 1000 ≡ ended_by Value 4)
    × (term (after_run work (opened old (zipped (true ∷ true ∷ []) (true ∷ []))) 1000) ≡ bools (true ∷ []))
    -- isnil of cons locate() nil: false, 1 step, nothing sent
    × (answer-of work (opened old isnil-cons) 1000 ≡ ended_by Value 1)
    × (term (after_run work (opened old isnil-cons) 1000) ≡ bool false)
    × ((state_of arm (after_run work (opened old isnil-cons) 1000)).next ≡ 1)
    -- second of {locate(), str 3}: str 3, 1 step, nothing sent
    × (answer-of work (opened old second) 1000 ≡ ended_by Value 1)
    × (term (after_run work (opened old second) 1000) ≡ text 3)
    × ((state_of arm (after_run work (opened old second) 1000)).next ≡ 1)
    -- list project of nil: nil, 1 step
    × (answer-of work (opened old project-nil) 1000 ≡ ended_by Value 1)
    × (term (after_run work (opened old project-nil) 1000) ≡ node nil 9 end)
    -- (fix of native f giving f())(): 5 rows, 7, 5; budget 10 ends BUDGET with 5 rows
    × (rows (opened old loop) ≡ 5)
    × (rows (after_run work (opened old loop) 1) ≡ 7)
    × (rows (after_run work (opened old loop) 2) ≡ 5)
    × (answer-of work (opened old loop) 10 ≡ ended_by Budget 10)
    × (rows (after_run work (opened old loop) 10) ≡ 5)
    -- let x = true in let x = false in x: false after 2
    × (answer-of work (opened old shadowed) 1000 ≡ ended_by Value 2)
    × (term (after_run work (opened old shadowed) 1000) ≡ bool false)

term-at : {b : List ℕ} (s : State) → At b s → term b ≡ s.tree
term-at s a = ap (λ (x : State). x.tree) (state-at s a)

rows-at : {b : List ℕ} (s : State) → At b s → rows b ≡ size s.tree
rows-at s a = ap size (term-at s a)

next-at : {b : List ℕ} (s : State) → At b s → (state_of arm b).next ≡ s.next
next-at s a = ap (λ (x : State). x.next) (state-at s a)

calls-at : {b : List ℕ} (s : State) → At b s → (state_of arm b).calls ≡ s.calls
calls-at s a = ap (λ (x : State). x.calls) (state-at s a)

module _ (old : List ℕ) (o : length old ≡ 26132) (work : List ℕ) (w : length work ≡ 16400) where
  at_one : At (one-sent old work) sent-one
  unfolding ◌∧ᵇ◌ within zeros number spell width read write reads writes padded calls_at rows_at record_bytes types names params elem_of pairs parts form_row form_of every ground_form ground_below ground last_form nonzero member distinct below plain_ok list_ok tuple_ok names_ok function_ok fields_ok same_numbers fresh ground_call type_ok bad_type_from bad_type find empty pick ◌⹁◌ place low rest head_of ty_of flat size code is n_of word_of head_from last_kind raw row_of within_one fits row_fault unless-bad shape_from shape blank kids trees top tree_of list tys lit_base first_is below_ok base_no is_base when_list when_tuple when_fun when_more same_side same_params given stop before later scope masked_ok zipped_ok rule_ok row_ok first_bad ◌∨ᵇ◌ veil hide swap hit assign put due settle value nth child kid become if_step isnil_step project_step send_step is_list ready any_nil kids_at lproject_step tie fix_step zip_cons zip_step apply_step let_step contract nowhere everywhere first unless behind unready apply_looks looks or_else wrap tail_goes head_goes visit step earlier raw_entry head_numbers record_of types_in entries_in rows_in entry_of state_of first_not nothing is_whole head_sound unused space_sound types_sound shape_sound term_sound rises entry_sound calls_sound listed future_listed futures_sound program_sound sound require refuse refuse_shape leaves file_types file_rows file_tree no_future program_verdict load_verdict loaded_state load send_meets need unmet stepped sent try_out try letter_of again ended onward runs lent ran_out rejected run reply_rows reply_tree reply_head_ok reply_kind reply_bad answer_verdict reply_verdict without replied_state replied_out reply file_numbers file_of sheet reply_of lows
  at_one = behind-run work w (opened old twice) (loaded_state (program twice)) (loaded old o (program twice) (file-bytes table (map raw (flat twice))) refl) 1000

  at-two : At (two-sent old work) sent-two
  at-two = behind-run work w (one-sent old work) sent-one at_one 1000

  at-three : At (one-back old work) back_one
  unfolding ◌∧ᵇ◌ within zeros number spell width read write reads writes padded calls_at rows_at record_bytes types names params elem_of pairs parts form_row form_of every ground_form ground_below ground last_form nonzero member distinct below plain_ok list_ok tuple_ok names_ok function_ok fields_ok same_numbers fresh ground_call type_ok bad_type_from bad_type find empty pick ◌⹁◌ place low rest head_of ty_of flat size code is n_of word_of head_from last_kind raw row_of within_one fits row_fault unless-bad shape_from shape blank kids trees top tree_of list tys lit_base first_is below_ok base_no is_base when_list when_tuple when_fun when_more same_side same_params given stop before later scope masked_ok zipped_ok rule_ok row_ok first_bad ◌∨ᵇ◌ veil hide swap hit assign put due settle value nth child kid become if_step isnil_step project_step send_step is_list ready any_nil kids_at lproject_step tie fix_step zip_cons zip_step apply_step let_step contract nowhere everywhere first unless behind unready apply_looks looks or_else wrap tail_goes head_goes visit step earlier raw_entry head_numbers record_of types_in entries_in rows_in entry_of state_of first_not nothing is_whole head_sound unused space_sound types_sound shape_sound term_sound rises entry_sound calls_sound listed future_listed futures_sound program_sound sound require refuse refuse_shape leaves file_types file_rows file_tree no_future program_verdict load_verdict loaded_state load send_meets need unmet stepped sent try_out try letter_of again ended onward runs lent ran_out rejected run reply_rows reply_tree reply_head_ok reply_kind reply_bad answer_verdict reply_verdict without replied_state replied_out reply file_numbers file_of sheet reply_of lows
  at-three = behind-reply work w (two-sent old work) sent-two at-two (says 2 (text 41)) refl

  at-four : At (both-back old work) back-two
  unfolding ◌∧ᵇ◌ within zeros number spell width read write reads writes padded calls_at rows_at record_bytes types names params elem_of pairs parts form_row form_of every ground_form ground_below ground last_form nonzero member distinct below plain_ok list_ok tuple_ok names_ok function_ok fields_ok same_numbers fresh ground_call type_ok bad_type_from bad_type find empty pick ◌⹁◌ place low rest head_of ty_of flat size code is n_of word_of head_from last_kind raw row_of within_one fits row_fault unless-bad shape_from shape blank kids trees top tree_of list tys lit_base first_is below_ok base_no is_base when_list when_tuple when_fun when_more same_side same_params given stop before later scope masked_ok zipped_ok rule_ok row_ok first_bad ◌∨ᵇ◌ veil hide swap hit assign put due settle value nth child kid become if_step isnil_step project_step send_step is_list ready any_nil kids_at lproject_step tie fix_step zip_cons zip_step apply_step let_step contract nowhere everywhere first unless behind unready apply_looks looks or_else wrap tail_goes head_goes visit step earlier raw_entry head_numbers record_of types_in entries_in rows_in entry_of state_of first_not nothing is_whole head_sound unused space_sound types_sound shape_sound term_sound rises entry_sound calls_sound listed future_listed futures_sound program_sound sound require refuse refuse_shape leaves file_types file_rows file_tree no_future program_verdict load_verdict loaded_state load send_meets need unmet stepped sent try_out try letter_of again ended onward runs lent ran_out rejected run reply_rows reply_tree reply_head_ok reply_kind reply_bad answer_verdict reply_verdict without replied_state replied_out reply file_numbers file_of sheet reply_of lows
  at-four = behind-reply work w (one-back old work) back_one at-three (says 1 (text 40)) refl

  pub bench : Table old work
  unfolding ◌∧ᵇ◌ within zeros number spell width read write reads writes padded calls_at rows_at record_bytes types names params elem_of pairs parts form_row form_of every ground_form ground_below ground last_form nonzero member distinct below plain_ok list_ok tuple_ok names_ok function_ok fields_ok same_numbers fresh ground_call type_ok bad_type_from bad_type find empty pick ◌⹁◌ place low rest head_of ty_of flat size code is n_of word_of head_from last_kind raw row_of within_one fits row_fault unless-bad shape_from shape blank kids trees top tree_of list tys lit_base first_is below_ok base_no is_base when_list when_tuple when_fun when_more same_side same_params given stop before later scope masked_ok zipped_ok rule_ok row_ok first_bad ◌∨ᵇ◌ veil hide swap hit assign put due settle value nth child kid become if_step isnil_step project_step send_step is_list ready any_nil kids_at lproject_step tie fix_step zip_cons zip_step apply_step let_step contract nowhere everywhere first unless behind unready apply_looks looks or_else wrap tail_goes head_goes visit step earlier raw_entry head_numbers record_of types_in entries_in rows_in entry_of state_of first_not nothing is_whole head_sound unused space_sound types_sound shape_sound term_sound rises entry_sound calls_sound listed future_listed futures_sound program_sound sound require refuse refuse_shape leaves file_types file_rows file_tree no_future program_verdict load_verdict loaded_state load send_meets need unmet stepped sent try_out try letter_of again ended onward runs lent ran_out rejected run reply_rows reply_tree reply_head_ok reply_kind reply_bad answer_verdict reply_verdict without replied_state replied_out reply file_numbers file_of sheet reply_of lows
  bench = (
    -- if true then str 7 else str 8: 1 step, str 7. Budget 0: BUDGET, 0 steps. The file is 114 bytes; empty input is refused 2
    refl,
    loads old o first-file,
    answered work w (load arm first-file old).record' (loaded_state first-file) (loaded old o first-file (lows-bytes first-file refl) refl) 1000,
    rows-at (runs arm 1000 (loaded_state first-file)).state (behind-run work w (load arm first-file old).record' (loaded_state first-file) (loaded old o first-file (lows-bytes first-file refl) refl) 1000),
    term-at (runs arm 1000 (loaded_state first-file)).state (behind-run work w (load arm first-file old).record' (loaded_state first-file) (loaded old o first-file (lows-bytes first-file refl) refl) 1000),
    answered work w (load arm first-file old).record' (loaded_state first-file) (loaded old o first-file (lows-bytes first-file refl) refl) 0,
    loads old o [],
    -- let p = locate() in {p, p}: 6 rows, then 5; SENT 1; SENT 2; WAITING with 3 rows
    loads old o (program twice),
    rows-at (loaded_state (program twice)) (loaded old o (program twice) (file-bytes table (map raw (flat twice))) refl),
    answered work w (opened old twice) (loaded_state (program twice)) (loaded old o (program twice) (file-bytes table (map raw (flat twice))) refl) 1,
    rows-at (runs arm 1 (loaded_state (program twice))).state (behind-run work w (opened old twice) (loaded_state (program twice)) (loaded old o (program twice) (file-bytes table (map raw (flat twice))) refl) 1),
    answered work w (after_run work (opened old twice) 1) (runs arm 1 (loaded_state (program twice))).state (behind-run work w (opened old twice) (loaded_state (program twice)) (loaded old o (program twice) (file-bytes table (map raw (flat twice))) refl) 1) 1000,
    answered work w (opened old twice) (loaded_state (program twice)) (loaded old o (program twice) (file-bytes table (map raw (flat twice))) refl) 1000,
    worked work w (opened old twice) (loaded_state (program twice)) (loaded old o (program twice) (file-bytes table (map raw (flat twice))) refl) 1000,
    answered work w (one-sent old work) sent-one at_one 1000,
    answered work w (two-sent old work) sent-two at-two 1000,
    rows-at sent-two at-two,
    term-at sent-two at-two,
    -- Reply str 41 to 2, str 40 to 1: {str 40, str 41}. A second reply to 1: 12. A Bool for 1 while open: 15, place 0
    judged work w (two-sent old work) sent-two at-two (says 2 (text 41)),
    judged work w (one-back old work) back_one at-three (says 1 (text 40)),
    cleared work w (one-back old work) back_one at-three (says 1 (text 40)) refl,
    term-at back-two at-four,
    calls-at back-two at-four,
    answered work w (both-back old work) back-two at-four 1000,
    judged work w (both-back old work) back-two at-four (says 1 (text 40)),
    judged work w (two-sent old work) sent-two at-two (says 1 (bool true)),
    -- zip of (if a then b else false) over a, b with [true, false], [true, true]: 17 rows, 22 after one step, [true, false] after 7
    rows-at (loaded_state (program (zipped (true ∷ false ∷ []) (true ∷ true ∷ [])))) (loaded old o (program (zipped (true ∷ false ∷ []) (true ∷ true ∷ []))) (file-bytes table (map raw (flat (zipped (true ∷ false ∷ []) (true ∷ true ∷ []))))) refl),
    rows-at (runs arm 1 (loaded_state (program (zipped (true ∷ false ∷ []) (true ∷ true ∷ []))))).state (behind-run work w (opened old (zipped (true ∷ false ∷ []) (true ∷ true ∷ []))) (loaded_state (program (zipped (true ∷ false ∷ []) (true ∷ true ∷ [])))) (loaded old o (program (zipped (true ∷ false ∷ []) (true ∷ true ∷ []))) (file-bytes table (map raw (flat (zipped (true ∷ false ∷ []) (true ∷ true ∷ []))))) refl) 1),
    answered work w (opened old (zipped (true ∷ false ∷ []) (true ∷ true ∷ []))) (loaded_state (program (zipped (true ∷ false ∷ []) (true ∷ true ∷ [])))) (loaded old o (program (zipped (true ∷ false ∷ []) (true ∷ true ∷ []))) (file-bytes table (map raw (flat (zipped (true ∷ false ∷ []) (true ∷ true ∷ []))))) refl) 1000,
    term-at (runs arm 1000 (loaded_state (program (zipped (true ∷ false ∷ []) (true ∷ true ∷ []))))).state (behind-run work w (opened old (zipped (true ∷ false ∷ []) (true ∷ true ∷ []))) (loaded_state (program (zipped (true ∷ false ∷ []) (true ∷ true ∷ [])))) (loaded old o (program (zipped (true ∷ false ∷ []) (true ∷ true ∷ []))) (file-bytes table (map raw (flat (zipped (true ∷ false ∷ []) (true ∷ true ∷ []))))) refl) 1000),
    -- the same with [true, true], [true]: [true] after 4
    answered work w (opened old (zipped (true ∷ true ∷ []) (true ∷ []))) (loaded_state (program (zipped (true ∷ true ∷ []) (true ∷ [])))) (loaded old o (program (zipped (true ∷ true ∷ []) (true ∷ []))) (file-bytes table (map raw (flat (zipped (true ∷ true ∷ []) (true ∷ []))))) refl) 1000,
    term-at (runs arm 1000 (loaded_state (program (zipped (true ∷ true ∷ []) (true ∷ []))))).state (behind-run work w (opened old (zipped (true ∷ true ∷ []) (true ∷ []))) (loaded_state (program (zipped (true ∷ true ∷ []) (true ∷ [])))) (loaded old o (program (zipped (true ∷ true ∷ []) (true ∷ []))) (file-bytes table (map raw (flat (zipped (true ∷ true ∷ []) (true ∷ []))))) refl) 1000),
    -- isnil of cons locate() nil: false, 1 step, nothing sent
    answered work w (opened old isnil-cons) (loaded_state (program isnil-cons)) (loaded old o (program isnil-cons) (file-bytes table (map raw (flat isnil-cons))) refl) 1000,
    term-at (runs arm 1000 (loaded_state (program isnil-cons))).state (behind-run work w (opened old isnil-cons) (loaded_state (program isnil-cons)) (loaded old o (program isnil-cons) (file-bytes table (map raw (flat isnil-cons))) refl) 1000),
    next-at (runs arm 1000 (loaded_state (program isnil-cons))).state (behind-run work w (opened old isnil-cons) (loaded_state (program isnil-cons)) (loaded old o (program isnil-cons) (file-bytes table (map raw (flat isnil-cons))) refl) 1000),
    -- second of {locate(), str 3}: str 3, 1 step, nothing sent
    answered work w (opened old second) (loaded_state (program second)) (loaded old o (program second) (file-bytes table (map raw (flat second))) refl) 1000,
    term-at (runs arm 1000 (loaded_state (program second))).state (behind-run work w (opened old second) (loaded_state (program second)) (loaded old o (program second) (file-bytes table (map raw (flat second))) refl) 1000),
    next-at (runs arm 1000 (loaded_state (program second))).state (behind-run work w (opened old second) (loaded_state (program second)) (loaded old o (program second) (file-bytes table (map raw (flat second))) refl) 1000),
    -- list project of nil: nil, 1 step
    answered work w (opened old project-nil) (loaded_state (program project-nil)) (loaded old o (program project-nil) (file-bytes table (map raw (flat project-nil))) refl) 1000,
    term-at (runs arm 1000 (loaded_state (program project-nil))).state (behind-run work w (opened old project-nil) (loaded_state (program project-nil)) (loaded old o (program project-nil) (file-bytes table (map raw (flat project-nil))) refl) 1000),
    -- (fix of native f giving f())(): 5 rows, 7, 5; budget 10 ends BUDGET with 5 rows
    rows-at (loaded_state (program loop)) (loaded old o (program loop) (file-bytes table (map raw (flat loop))) refl),
    rows-at (runs arm 1 (loaded_state (program loop))).state (behind-run work w (opened old loop) (loaded_state (program loop)) (loaded old o (program loop) (file-bytes table (map raw (flat loop))) refl) 1),
    rows-at (runs arm 2 (loaded_state (program loop))).state (behind-run work w (opened old loop) (loaded_state (program loop)) (loaded old o (program loop) (file-bytes table (map raw (flat loop))) refl) 2),
    answered work w (opened old loop) (loaded_state (program loop)) (loaded old o (program loop) (file-bytes table (map raw (flat loop))) refl) 10,
    rows-at (runs arm 10 (loaded_state (program loop))).state (behind-run work w (opened old loop) (loaded_state (program loop)) (loaded old o (program loop) (file-bytes table (map raw (flat loop))) refl) 10),
    -- let x = true in let x = false in x: false after 2
    answered work w (opened old shadowed) (loaded_state (program shadowed)) (loaded old o (program shadowed) (file-bytes table (map raw (flat shadowed))) refl) 1000,
    term-at (runs arm 1000 (loaded_state (program shadowed))).state (behind-run work w (opened old shadowed) (loaded_state (program shadowed)) (loaded old o (program shadowed) (file-bytes table (map raw (flat shadowed))) refl) 1000),
  )

-- "Errors that look right" -----------------------------------------------------------------------------------------

abbrev form : ℕ → Form
form = form_of table

abbrev waiting-list : Tree
waiting-list = node (future 1) 4 end

-- where the tempting step, or reply, is not the defined one
pub traps :
    -- let's bound term is put in as it stands
    (step form 1 twice ≡ go None (pair locate locate))
    -- a cons below isnil is not entered
    × (step form 1 isnil-cons ≡ go None (bool false))
    -- a branch of if is not entered, also while the condition waits
    × (step form 2 (node ite 0 (more (node (future 1) 1 end) (more locate (more (text 8) end)))) ≡ stay)
    -- a name below a binder that hides it is not replaced
    × (step form 1 shadowed ≡ go None (node (bind 6) 1 (more (bool false) (more (node (var 6) 1 end) end))))
    -- a reply's rows are judged to the last: a list whose tail is of another type, and one whose tail holds another type
    × (reply_bad form 9 (node cons 9 (more (text 1) (more (node nil 4 end) end))) ≡ Some 0)
    × (reply_bad form 9 (node cons 9 (more (text 1) (more (node cons 9 (more (bool true) (more (node nil 9 end) end))) end))) ≡ Some 2)
    -- a zip with a nil waits for its other masked argument
    × (step form 2 (node (apply 2) 4 (more (node (zip 3) 6 (more both end)) (more (bools []) (more waiting-list end)))) ≡ stay)
    -- a call that waits is passed over, one that can be sent is not
    × (step form 2 (pair (future-of 1) second) ≡ go None (pair (future-of 1) (text 3)))
    × (step form 2 (pair locate second) ≡ go (Some (record { tool = 9; rows = []; result = 0 })) (pair (future-of 2) second))
unfolding ◌∧ᵇ◌ within zeros number spell width read write reads writes padded calls_at rows_at record_bytes types names params elem_of pairs parts form_row form_of every ground_form ground_below ground last_form nonzero member distinct below plain_ok list_ok tuple_ok names_ok function_ok fields_ok same_numbers fresh ground_call type_ok bad_type_from bad_type find empty pick ◌⹁◌ place low rest head_of ty_of flat size code is n_of word_of head_from last_kind raw row_of within_one fits row_fault unless-bad shape_from shape blank kids trees top tree_of list tys lit_base first_is below_ok base_no is_base when_list when_tuple when_fun when_more same_side same_params given stop before later scope masked_ok zipped_ok rule_ok row_ok first_bad ◌∨ᵇ◌ veil hide swap hit assign put due settle value nth child kid become if_step isnil_step project_step send_step is_list ready any_nil kids_at lproject_step tie fix_step zip_cons zip_step apply_step let_step contract nowhere everywhere first unless behind unready apply_looks looks or_else wrap tail_goes head_goes visit step earlier raw_entry head_numbers record_of types_in entries_in rows_in entry_of state_of first_not nothing is_whole head_sound unused space_sound types_sound shape_sound term_sound rises entry_sound calls_sound listed future_listed futures_sound program_sound sound require refuse refuse_shape leaves file_types file_rows file_tree no_future program_verdict load_verdict loaded_state load send_meets need unmet stepped sent try_out try letter_of again ended onward runs lent ran_out rejected run reply_rows reply_tree reply_head_ok reply_kind reply_bad answer_verdict reply_verdict without replied_state replied_out reply file_numbers file_of sheet reply_of lows
traps = (refl, refl, refl, refl, refl, refl, refl, refl, refl)
