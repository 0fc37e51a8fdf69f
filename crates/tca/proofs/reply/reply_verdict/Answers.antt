-- `tca::reply::reply_verdict` meets its contract: what the tests leave to `settle`. Assumes nothing.
use mathlib.Core.Path.{sym, ◌∙◌}
use borrow.Author.Tests.{eqb-true}
use Rattle.layout.specs.Rows.{board}
use Rattle.tca.proofs.ReplyLaws.{head_passed}
use Rattle.tca.proofs.reply.reply_verdict.Goals as goal

pub reply_verdict-requires : goal.reply_verdict-requires
reply_verdict-requires c =
    let s = sym c.is_sound.ensures ∙ c.in_ok-require-3.ensures.held in
    (record { room = c.requires.0; long = eqb-true _ _ c.in_ok-require.ensures.held ∙ c.record_bytes.ensures; head = head_passed (board c.args.m) c.args.kept.now s }, s, c.requires.1, c.requires.2)
