-- Each answer and refusal in the numbers that C gets: its number, its place, the number sent, the steps made.
use Rattle.std.specs.Prelude.{ℕ, Bool, true, false}
use Rattle.meaning.specs.declared.Fault.{Fault}
use Rattle.meaning.specs.declared.Refusal.{Refusal}
use Rattle.meaning.specs.declared.Refusal.TheVariants.{Length, Size, Mark, Version, Count, TypeRow, Row, Future, Typing, Unsound, Header, NotOpen, ReplyRow, ReplyKind, ReplyTyping, ReplyRoom}
use Rattle.std.specs.Prelude.{Result, Ok, Err, ⊤}
use Rattle.meaning.specs.declared.Answer.{Answer}
use Rattle.meaning.specs.declared.Answer.TheVariants.{Value, Waiting, Sent, Held, Budget, Room, Numbers}
use Rattle.meaning.specs.declared.Ran.{Ran}

-- what load and reply answer: nothing, or why they refuse
abbrev pub Verdict : Type 0
Verdict = Result ⊤ Refusal

-- what run answers: how it ended and the steps made, or why it refuses
abbrev pub Run : Type 0
Run = Result Ran Refusal

abbrev pub ended_by : Answer → ℕ → Run
ended_by a n = Ok (record { answer = a; steps = n })

-- which number a shape fault of a program has, and of a reply
abbrev pub row_number : Fault → ℕ
row_number f = 7

abbrev pub reply_row_number : Fault → ℕ
reply_row_number f = 13

abbrev pub refusal_number : Refusal → ℕ
refusal_number Length = 1
refusal_number Size = 2
refusal_number Mark = 3
refusal_number Version = 4
refusal_number Count = 5
refusal_number (TypeRow i) = 6
refusal_number (Row f i) = row_number f
refusal_number (Future i) = 8
refusal_number (Typing i) = 9
refusal_number Unsound = 10
refusal_number Header = 11
refusal_number NotOpen = 12
refusal_number (ReplyRow f i) = reply_row_number f
refusal_number (ReplyKind i) = 14
refusal_number (ReplyTyping i) = 15
refusal_number ReplyRoom = 16

-- the row that it names, 0 where it names none
abbrev pub refusal_place : Refusal → ℕ
refusal_place Length = 0
refusal_place Size = 0
refusal_place Mark = 0
refusal_place Version = 0
refusal_place Count = 0
refusal_place (TypeRow i) = i
refusal_place (Row f i) = i
refusal_place (Future i) = i
refusal_place (Typing i) = i
refusal_place Unsound = 0
refusal_place Header = 0
refusal_place NotOpen = 0
refusal_place (ReplyRow f i) = i
refusal_place (ReplyKind i) = i
refusal_place (ReplyTyping i) = i
refusal_place ReplyRoom = 0

-- an accepted load or reply answers 0, place 0
abbrev pub verdict_number : Verdict → ℕ
verdict_number (Ok tt) = 0
verdict_number (Err r) = refusal_number r

abbrev pub verdict_place : Verdict → ℕ
verdict_place (Ok tt) = 0
verdict_place (Err r) = refusal_place r

abbrev pub answer_number : Answer → ℕ
answer_number Value = 0
answer_number Waiting = 1
answer_number (Sent k) = 2
answer_number Held = 3
answer_number Budget = 4
answer_number Room = 5
answer_number Numbers = 6

-- the number of the call that was sent, 0 where none was
abbrev pub sent_number : Answer → ℕ
sent_number Value = 0
sent_number Waiting = 0
sent_number (Sent k) = k
sent_number Held = 0
sent_number Budget = 0
sent_number Room = 0
sent_number Numbers = 0

-- what run answers: answer, number sent and steps made; a refused run is a case of its own, with the refusal's number and place
pub record Figures : Type 0 where
  pub refused : Bool
  pub number : ℕ
  pub place : ℕ
  pub sent : ℕ
  pub steps : ℕ

abbrev pub run_figures : Run → Figures
run_figures (Ok r) = record { refused = false; number = answer_number r.answer; place = 0; sent = sent_number r.answer; steps = r.steps }
run_figures (Err r) = record { refused = true; number = refusal_number r; place = refusal_place r; sent = 0; steps = 0 }
