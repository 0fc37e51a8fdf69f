-- What an exported reply says: refusal, place and all bytes of the record and of the work buffer. Assumes nothing.
use Rattle.std.specs.Prelude.{ℕ, ◌≡◌, List, eqb, length}
use Rattle.meaning.specs.Bytes.{Limits, arm, record_bytes}
use Rattle.meaning.specs.Records.{state_of, sound}
use Rattle.meaning.specs.Answers.{verdict_number, verdict_place}
use Rattle.meaning.specs.Entries.{require, reply_verdict, reply}
use Rattle.meaning.specs.Answers.{Verdict as Judgement}
use Rattle.meaning.specs.declared.Refusal.TheVariants.{Length, Unsound}
use Rattle.tca.specs.declared.Verdict.{Verdict}

-- reply's verdict, of a work buffer of `room` bytes
unfoldable pub judged : Limits → List ℕ → ℕ → List ℕ → Judgement
judged m kept room answer =
    require (eqb (length kept) (record_bytes m)) Length
    (require (eqb room m.work_bytes) Length
    (require (sound m kept) Unsound (reply_verdict m (state_of m kept) answer)))

-- a reply to a record, in the numbers that C gets
pub record TellsReply (kept work answer : List ℕ) (v : Verdict) (kept' work' : List ℕ) : Type 0 where
  pub refusal : v.refusal ≡ verdict_number (reply arm kept work answer).verdict
  pub place : v.place ≡ verdict_place (reply arm kept work answer).verdict
  pub kept-bytes : kept' ≡ (reply arm kept work answer).record'
  pub work-bytes : work' ≡ (reply arm kept work answer).work'
