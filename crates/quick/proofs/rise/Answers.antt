-- The loop's invariant: what was due is good if what is due now is. Assumes nothing.
use mathlib.Core.Path.{refl}
use native.Mathlib.Omega.{arith}
use borrow.Author.Tests.{not-true, not-false}
use mathlib.Core.List.{[]}
use Rattle.meaning.specs.Types.{form_of}
use Rattle.quick.proofs.ByKind.{never}
use Rattle.quick.proofs.Turning.{rises-not, rises-on, rises-tree}
use Rattle.quick.proofs.rise.Goals as goal

pub loop-p-init : goal.loop-p-init
loop-p-init c =
    let pre = c.requires in
    (refl, refl, pre.3, λ form. rises-not form c.args.rows.now c.args.stack.now _ _ _ pre.0 pre.3)

pub returns-then-term_rows-p : goal.returns-then-term_rows-p
returns-then-term_rows-p c = λ z. absurd (never c.refused.ensures z)

pub returns-then-word_of-e : goal.returns-then-word_of-e
returns-then-word_of-e c =
    let loop = c.loop-p in
    let args = c.args in
    let if1 = c.loop-p-test in
    let if2 = c.if-e-lt-ENDS in
    let type_at = c.type_at in
    let word_of = c.word_of in
    let if4 = c.if-word_of-e in
    λ z. (λ y. absurd (never y refl), λ form. rises-on form args.rows.now args.stack.now _ _ _ _ _ _ _ _ (loop.invariant.3 form) loop.invariant.2 (rises-tree form args.rows.now _ _ _ _ _ (omega (arith, if1.true)) (loop.invariant.3 form).arrays.chained refl if2.true (omega (arith, type_at.ensures, word_of.ensures, if4.true))))

pub returns-then-e-lt-ENDS : goal.returns-then-e-lt-ENDS
returns-then-e-lt-ENDS c = λ z. absurd (never c.refused-then-e-lt-ENDS.ensures z)

pub scope-p-requires : goal.scope-p-requires
scope-p-requires c =
    let pre = c.requires in
    let if2 = c.if-e-lt-ENDS in
    ((c.loop-p.invariant.3 (form_of [])).arrays.chained, omega (arith, pre.1), omega arith, omega (arith, if2.false))

pub returns-then-not-p : goal.returns-then-not-p
returns-then-not-p c =
    let if5 = c.if-not-p in
    λ z. absurd (never (not-true _ if5.true) z)

pub loop-p-smaller : goal.loop-p-smaller
loop-p-smaller c =
    let scope = c.scope-p in
    let if5 = c.if-not-p in
    let if1 = c.loop-p-test in
    omega (arith, (scope.ensures (not-false _ if5.false)).0, if1.true)

pub loop-p-preserved : goal.loop-p-preserved
loop-p-preserved c =
    let scope = c.scope-p in
    let if5 = c.if-not-p in
    let args = c.args in
    let if1 = c.loop-p-test in
    let loop = c.loop-p in
    let on = scope.ensures (not-false _ if5.false) in
    let up = on.2 (form_of []) args.stack.now if1.true refl in
    (omega (arith, up.same_names, loop.invariant.0), omega (arith, up.arrays.chained.chains, (loop.invariant.3 (form_of [])).arrays.chained.chains, loop.invariant.1), on.1, λ form. rises-on form args.rows.now args.stack.now _ _ _ _ _ _ _ _ (loop.invariant.3 form) loop.invariant.2 (on.2 form args.stack.now if1.true refl))

pub returns : goal.returns
returns c =
    let if1 = c.loop-p-test in
    let loop = c.loop-p in
    λ z. (λ y. omega (arith, if1.false), loop.invariant.3)
