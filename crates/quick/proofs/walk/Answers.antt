-- The loop's invariant: what is due is good only if the whole is, and there is a future only where one was seen. Assumes nothing.
use mathlib.Core.Path.{refl, ◌∙◌}
use native.Mathlib.Omega.{arith}
use borrow.Author.Tests.{not-true, not-false}
use lib.ListN.{length}
use Rattle.layout.specs.Rows.{row_table}
use Rattle.layout.proofs.Tables.{row-table-length}
use Rattle.rules.specs.Forms.{forms}
use Rattle.quick.proofs.Chains.{scope-end}
use Rattle.quick.proofs.Turning.{still-end, nothing-due, down-next, rise-next, rise-last, still-down, still-rise, shows-all}
use Rattle.quick.proofs.walk.Goals as goal

pub loop-p-init : goal.loop-p-init
loop-p-init c =
    let pre = c.requires in
    let args = c.args in
    (record { within = omega arith; chained = pre.1 }, refl, refl, refl, λ g. rw (nothing-due args.stack.now, scope-end args.bound.now) at g, λ f s. s)

pub see-p-requires : goal.see-p-requires
see-p-requires c =
    let term_rows_here = c.term_rows-all in
    let if2 = c.if-all-i in
    let pre = c.requires in
    let if1 = c.if-p-lt-SPARE in
    let loop = c.loop-p in
    ((omega (arith, term_rows_here.ensures, if2.false)), pre.3, record { spare = omega (arith, if1.false); within = loop.invariant.0.within }, loop.invariant.0.chained)

pub rise-p-requires : goal.rise-p-requires
rise-p-requires c =
    let see = c.see-p in
    let if3 = c.if-not-p in
    let pre = c.requires in
    let loop = c.loop-p in
    let if4 = c.if-not-p-2 in
    let see-row = see.ensures (not-false _ if3.false) in
    (see-row.arrays, pre.3, omega (arith, see-row.same-dues, loop.invariant.1, pre.0), not-true _ if4.true)

pub returns-then-p-all : goal.returns-then-p-all
returns-then-p-all c =
    let see = c.see-p in
    let if3 = c.if-not-p in
    let rise = c.rise-p in
    let if5 = c.if-not-p-3 in
    let if6 = c.if-not-p-4 in
    let args = c.args in
    let loop = c.loop-p in
    let if4 = c.if-not-p-2 in
    let term_rows_here = c.term_rows-all in
    let if2 = c.if-all-i in
    let see-row = see.ensures (not-false _ if3.false) in
    let up = rise.ensures (not-false _ if5.false) in
    let no_more = not-true _ if6.true in
    shows-all args.types.now args.rows.now _ _
    (rise-last (length args.types.now) (forms args.types.now) args.rows.now _ _ _ _ _ _ _ _ loop.invariant.4 see-row _ _ _ (not-true _ if4.true) (up.1 _) no_more (up.0 no_more) (c.if-p-all.true ∙ term_rows_here.ensures))
    (λ f. still-rise (length args.types.now) (forms args.types.now) args.rows.now _ _ _ _ _ loop.p _ (omega (arith, term_rows_here.ensures, if2.false)) loop.invariant.5 see-row _ _ _ (up.1 _) f (still-end (row_table args.rows.now) rise.result.i (omega (arith, c.if-p-all.true, term_rows_here.ensures, row-table-length args.rows.now))))

pub loop-p-smaller-else-not-p-4 : goal.loop-p-smaller-else-not-p-4
loop-p-smaller-else-not-p-4 c =
    let see = c.see-p in
    let if3 = c.if-not-p in
    let rise = c.rise-p in
    let if5 = c.if-not-p-3 in
    let args = c.args in
    let term_rows_here = c.term_rows-all in
    let if2 = c.if-all-i in
    let see-row = see.ensures (not-false _ if3.false) in
    let up = (rise.ensures (not-false _ if5.false)).1 (forms args.types.now) in
    omega (arith, see-row.next, up.row, term_rows_here.ensures, if2.false)

pub loop-p-preserved-else-not-p-4 : goal.loop-p-preserved-else-not-p-4
loop-p-preserved-else-not-p-4 c =
    let see = c.see-p in
    let if3 = c.if-not-p in
    let rise = c.rise-p in
    let if5 = c.if-not-p-3 in
    let args = c.args in
    let loop = c.loop-p in
    let if4 = c.if-not-p-2 in
    let if6 = c.if-not-p-4 in
    let term_rows_here = c.term_rows-all in
    let if2 = c.if-all-i in
    let see-row = see.ensures (not-false _ if3.false) in
    let up = (rise.ensures (not-false _ if5.false)).1 (forms args.types.now) in (
      up.arrays,
      see-row.same-dues ∙ loop.invariant.1,
      up.same_names ∙ see-row.same_names ∙ loop.invariant.2,
      omega (arith, up.arrays.chained.chains, loop.invariant.0.chained.chains, loop.invariant.3),
      rise-next (length args.types.now) (forms args.types.now) args.rows.now _ _ _ _ _ _ _ _ loop.invariant.4 see-row _ _ _ (not-true _ if4.true) up (not-false _ if6.false),
      still-rise (length args.types.now) (forms args.types.now) args.rows.now _ _ _ _ _ loop.p _ (omega (arith, term_rows_here.ensures, if2.false)) loop.invariant.5 see-row _ _ _ up,
    )

pub loop-p-smaller : goal.loop-p-smaller
loop-p-smaller c =
    let see = c.see-p in
    let if3 = c.if-not-p in
    let term_rows_here = c.term_rows-all in
    let if2 = c.if-all-i in
    let see-row = see.ensures (not-false _ if3.false) in
    omega (arith, see-row.next, term_rows_here.ensures, if2.false)

pub loop-p-preserved : goal.loop-p-preserved
loop-p-preserved c =
    let see = c.see-p in
    let if3 = c.if-not-p in
    let loop = c.loop-p in
    let args = c.args in
    let if4 = c.if-not-p-2 in
    let term_rows_here = c.term_rows-all in
    let if2 = c.if-all-i in
    let see-row = see.ensures (not-false _ if3.false) in (
      see-row.arrays,
      see-row.same-dues ∙ loop.invariant.1,
      see-row.same_names ∙ loop.invariant.2,
      omega (arith, see-row.arrays.chained.chains, loop.invariant.0.chained.chains, loop.invariant.3),
      down-next (length args.types.now) (forms args.types.now) args.rows.now _ _ _ _ _ _ _ _ loop.invariant.4 see-row (not-false _ if4.false),
      still-down (length args.types.now) (forms args.types.now) args.rows.now _ _ _ _ _ loop.p _ (omega (arith, term_rows_here.ensures, if2.false)) loop.invariant.5 see-row,
    )
