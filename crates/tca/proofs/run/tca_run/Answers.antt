-- `tca::run::tca_run` meets its contract: in numbers. Assumes nothing.
use mathlib.Core.Path.{subst}
use Rattle.meaning.specs.Answers.{Run}
use Rattle.tca.specs.Runs.{Shows}
use Rattle.tca.proofs.run.tca_run.Goals as goal

pub shape_of-kept : goal.shape_of-kept
shape_of-kept c = c.run.auto.kept

pub shape_of-work : goal.shape_of-work
shape_of-work c = c.run.auto.work

pub returns : goal.returns
returns c =
    let run = c.run in
    record { figures = subst (λ (r : Run). Shows r c.from.result) run.ensures.answer c.from.ensures; kept-bytes = run.ensures.kept-bytes; work-bytes = run.ensures.work-bytes }
