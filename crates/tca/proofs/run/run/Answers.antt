-- `tca::run::run` meets its contract: lengths, soundness, then the run. Assumes nothing.
use mathlib.Core.Path.{ap}
use native.Mathlib.Omega.{arith}
use borrow.Author.Tests.{eqb-true}
use Rattle.meaning.specs.Bytes.{Limits}
use Rattle.meaning.proofs.Entries.Chain.{held}
use Rattle.layout.specs.Rows.{board}
use Rattle.runs.proofs.Outgrown.{arm-begins}
use Rattle.tca.proofs.RunLaws.{fell, handed, other-record, other-work, not_sound}
use Rattle.tca.proofs.run.run.Goals as goal

pub returns-in_err-require : goal.returns-in_err-require
returns-in_err-require c =
    let m = c.arm_limits-m in
    let a = c.args in
    let (failed, same) = fell _ _ c.in_err-require.was (rw c.record_bytes.ensures at c.require.ensures.value) in
    rw (handed c.from_residual.ensures.1 same) (other-record (board m.result) m.ensures a.kept.now a.work.now a.budget failed)

pub returns-in_err-require-2 : goal.returns-in_err-require-2
returns-in_err-require-2 c =
    let m = c.arm_limits-m in
    let a = c.args in
    let (failed, same) = fell _ _ c.in_err-require-2.was c.require-2.ensures.value in
    rw (handed c.from_residual-in_err-require-2.ensures.1 same) (other-work (board m.result) m.ensures a.kept.now a.work.now a.budget (held _ _ c.in_ok-require.was (rw c.record_bytes.ensures at c.require.ensures.value)) failed)

pub is_sound-requires : goal.is_sound-requires
is_sound-requires c =
    let m = c.arm_limits-m in
    (record { types = omega (arith, ap (λ (b : Limits). b.types) m.ensures); rows = omega (arith, ap (λ (b : Limits). b.rows) m.ensures); calls = omega (arith, ap (λ (b : Limits). b.calls) m.ensures) }, eqb-true _ _ (held _ _ c.in_ok-require.was (rw c.record_bytes.ensures at c.require.ensures.value)))

pub returns-in_err-require-3 : goal.returns-in_err-require-3
returns-in_err-require-3 c =
    let m = c.arm_limits-m in
    let a = c.args in
    let (failed, same) = fell _ _ c.in_err-require-3.was (rw c.is_sound.ensures at c.require-3.ensures.value) in
    rw (handed c.from_residual-in_err-require-3.ensures.1 same) (not_sound (board m.result) m.ensures a.kept.now a.work.now a.budget (held _ _ c.in_ok-require.was (rw c.record_bytes.ensures at c.require.ensures.value)) (held _ _ c.in_ok-require-2.was c.require-2.ensures.value) failed)

pub run-requires : goal.run-requires
run-requires c =
    let m = c.arm_limits-m in
    arm-begins (board m.result) m.ensures _ _ (eqb-true _ _ (held _ _ c.in_ok-require.was (rw c.record_bytes.ensures at c.require.ensures.value))) (held _ _ c.in_ok-require-3.was (rw c.is_sound.ensures at c.require-3.ensures.value)) (eqb-true _ _ (held _ _ c.in_ok-require-2.was c.require-2.ensures.value)) (λ i. omega (arith, c.slice_known-1.given i))

pub shape_of-kept : goal.shape_of-kept
shape_of-kept c = c.run.auto.kept

pub shape_of-work : goal.shape_of-work
shape_of-work c = c.run.auto.work

pub returns : goal.returns
returns c = c.run.ensures
