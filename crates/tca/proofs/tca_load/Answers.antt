-- `tca::tca_load` meets its contract: in numbers. Assumes nothing.
use mathlib.Core.Path.{ap, ◌∙◌}
use Rattle.meaning.specs.Answers.{verdict_number, verdict_place}
use Rattle.tca.proofs.tca_load.Goals as goal

pub returns : goal.returns
returns c = record { refusal = c.from.ensures.0 ∙ ap verdict_number c.load.ensures.verdict; place = c.from.ensures.1 ∙ ap verdict_place c.load.ensures.verdict; bytes = c.load.ensures.kept-bytes }
