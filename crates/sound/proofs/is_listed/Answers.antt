-- `sound::is_listed` meets its contract: from entry i on as from the first. Assumes nothing.
use mathlib.Core.Path.{refl}
use native.Mathlib.Omega.{arith}
use Rattle.meaning.specs.Typing.{given}
use Rattle.layout.specs.Rows.{numbers}
use Rattle.sound.specs.Ready.{call_table}
use Rattle.sound.proofs.Laws.{a-future}
use Rattle.sound.proofs.Parts.{call-found, calls-out}
use Rattle.sound.proofs.is_listed.Goals as goal

pub returns-then-u32_at-r : goal.returns-then-u32_at-r
returns-then-u32_at-r c =
    let a = c.args in
    let l = c.loop-i in
    let future = rw c.if-not-is.false at c.is.ensures.meaning in
    unfold given in rw (a-future (call_table a.calls.now) (numbers a.r) future, ← l.invariant, call-found a.calls.now l.i _ (omega arith) c.u32_at.ensures a.r.word _ c.if-u32_at-r.true c.u16_at.ensures) refl

pub returns : goal.returns
returns c =
    let a = c.args in
    let l = c.loop-i in
    let future = rw c.if-not-is.false at c.is.ensures.meaning in
    unfold given in rw (a-future (call_table a.calls.now) (numbers a.r) future, ← l.invariant, calls-out a.calls.now l.i (omega arith) a.r.word) refl
