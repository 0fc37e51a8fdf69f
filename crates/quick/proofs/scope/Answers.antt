-- A case for the end of a scope and for its beginning. Assumes nothing.
use native.Mathlib.Omega.{arith}
use mathlib.Core.List.{[]}
use Rattle.meaning.specs.Types.{form_of}
use Rattle.quick.proofs.Turning.{rises-out, rises-in}
use Rattle.quick.proofs.scope.Goals as goal

pub returns-then-e-lt-BEGINS : goal.returns-then-e-lt-BEGINS
returns-then-e-lt-BEGINS c =
    let leave = c.leave in
    let args = c.args in
    let pre = c.requires in
    let if1 = c.if-e-lt-BEGINS in
    λ z. ((leave.ensures z).same, (leave.ensures z).up, λ form es inside eq. rises-out form args.rows.now es _ args.p leave.result inside _ _ _ eq (omega (arith, pre.3)) (omega (arith, if1.true)) (leave.ensures z))

pub returns : goal.returns
returns c =
    let enter = c.enter in
    let args = c.args in
    let if1 = c.if-e-lt-BEGINS in
    λ z. ((enter.ensures z (form_of [])).same, (enter.ensures z (form_of [])).up, λ form es inside eq. rises-in form args.rows.now es _ args.p enter.result inside _ _ _ _ eq (omega (arith, if1.false)) (enter.ensures z form))
