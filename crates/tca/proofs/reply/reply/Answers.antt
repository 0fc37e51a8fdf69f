-- `tca::reply::reply` meets its contract: what is accepted is settled, what is refused changes nothing. Assumes nothing.
use mathlib.Core.Path.{refl, sym, ap, ◌∙◌}
use native.Mathlib.Omega.{arith}
use lib.ListN.{length}
use Rattle.meaning.specs.Bytes.{Limits}
use Rattle.layout.specs.Rows.{board}
use Rattle.meaning.proofs.Entries.Chain.{handed-on}
use Rattle.tca.proofs.ReplyLaws.{head_passed, passed, replies-settled, replies-nothing}
use Rattle.tca.proofs.reply.reply.Goals as goal

pub reply_verdict-requires : goal.reply_verdict-requires
reply_verdict-requires c =
    let arm-limits = c.arm_limits-m in
    (record { types = omega (arith, ap (λ (b : Limits). b.types) arm-limits.ensures); rows = omega (arith, ap (λ (b : Limits). b.rows) arm-limits.ensures); calls = omega (arith, ap (λ (b : Limits). b.calls) arm-limits.ensures) }, omega (arith, ap (λ (b : Limits). b.reply_rows) arm-limits.ensures), omega (arith, ap (λ (b : Limits). b.last_number) arm-limits.ensures))

pub settle-requires : goal.settle-requires
settle-requires c =
    let a = c.args in
    let arm-limits = c.arm_limits-m in
    let p = passed (board arm-limits.result) a.kept.now (length a.work.now) a.answer.now (sym c.reply_verdict.ensures ∙ c.in_ok-reply_verdict.was) in (record { ready = record { room = record { types = omega (arith, ap (λ (b : Limits). b.types) arm-limits.ensures); rows = omega (arith, ap (λ (b : Limits). b.rows) arm-limits.ensures); calls = omega (arith, ap (λ (b : Limits). b.calls) arm-limits.ensures) }; long = p.long; head = head_passed (board arm-limits.result) a.kept.now p.is-sound }; is-sound = p.is-sound; accepted = p.accepted; numbers = omega (arith, ap (λ (b : Limits). b.last_number) arm-limits.ensures) }, omega (arith, p.work, ap (λ (b : Limits). b.work_bytes) arm-limits.ensures, ap (λ (b : Limits). b.rows) arm-limits.ensures))

pub shape_of-kept : goal.shape_of-kept
shape_of-kept c = c.settle.auto.kept

pub shape_of-work : goal.shape_of-work
shape_of-work c = c.settle.auto.work

pub returns : goal.returns
returns c =
    let a = c.args in
    let arm-limits = c.arm_limits-m in
    let settle = c.settle in
    replies-settled (board arm-limits.result) arm-limits.ensures a.kept.now a.work.now a.answer.now _ (sym c.in_ok-reply_verdict.was ∙ c.reply_verdict.ensures) _ _ refl settle.ensures.0 settle.ensures.1

pub returns-in_err-reply_verdict : goal.returns-in_err-reply_verdict
returns-in_err-reply_verdict c =
    let a = c.args in
    let same = handed-on c.from_residual.ensures.1 c.in_err-reply_verdict.was in
    let arm-limits = c.arm_limits-m in
    replies-nothing (board arm-limits.result) arm-limits.ensures a.kept.now a.work.now a.answer.now _ (same ∙ c.reply_verdict.ensures) _ (same ∙ c.in_err-reply_verdict.was)
