-- What an exported run says: refusal, answer, sent number, steps, and all bytes of the record and of the work buffer. Assumes nothing.
use Rattle.std.specs.Prelude.{ℕ, ◌≡◌, cond, List}
use Rattle.meaning.specs.Bytes.{arm}
use Rattle.meaning.specs.Answers.{run_figures}
use Rattle.meaning.specs.Entries.{run}
use Rattle.meaning.specs.Answers.{Run}
use Rattle.tca.specs.declared.figures.RunAnswer.{RunAnswer}

-- "a refused run is a case of its own": the refusal's number, else 0; the answer's number, else 0
pub record Shows (r : Run) (a : RunAnswer) : Type 0 where
  pub refusal : a.refusal ≡ cond (run_figures r).refused (run_figures r).number 0
  pub answer : a.answer ≡ cond (run_figures r).refused 0 (run_figures r).number
  pub sent : a.sent ≡ (run_figures r).sent
  pub steps : a.steps ≡ (run_figures r).steps

-- a run of a record, in the numbers that C gets
pub record TellsRun (kept work : List ℕ) (budget : ℕ) (a : RunAnswer) (kept' work' : List ℕ) : Type 0 where
  pub figures : Shows (run arm kept work budget).answer a
  pub kept-bytes : kept' ≡ (run arm kept work budget).record'
  pub work-bytes : work' ≡ (run arm kept work budget).work'
