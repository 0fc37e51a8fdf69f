-- `tca::reply::tca_reply` meets its contract: in numbers. Assumes nothing.
use mathlib.Core.Path.{ap, ◌∙◌}
use Rattle.meaning.specs.Answers.{verdict_number, verdict_place}
use Rattle.tca.proofs.reply.tca_reply.Goals as goal

pub shape_of-kept : goal.shape_of-kept
shape_of-kept c = c.reply.auto.kept

pub shape_of-work : goal.shape_of-work
shape_of-work c = c.reply.auto.work

pub returns : goal.returns
returns c =
    let reply = c.reply in
    record { refusal = c.from.ensures.0 ∙ ap verdict_number reply.ensures.verdict; place = c.from.ensures.1 ∙ ap verdict_place reply.ensures.verdict; kept-bytes = reply.ensures.kept-bytes; work-bytes = reply.ensures.work-bytes }
