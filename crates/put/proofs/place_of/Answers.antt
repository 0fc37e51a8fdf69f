-- The names from the k-th on answer as all of them do.
use mathlib.Core.Path.{sym, ◌∙◌}
use Rattle.put.proofs.Turning.{shift_zero, rests, pick-on, pick-hidden, pick-here, pick_end}
use Rattle.put.proofs.place_of.Goals as goal

pub loop-k-init : goal.loop-k-init
unfolding rests
loop-k-init c = shift_zero _

pub returns-then-mask_bit : goal.returns-then-mask_bit
returns-then-mask_bit c =
    let a = c.args in
    let l = c.loop-k in
    sym (sym l.invariant ∙ pick-hidden a.names.now a.m l.k a.x _ c.loop-k-test.true c.word_of.ensures c.if-word_of-x.true (sym c.mask_bit.ensures ∙ c.if-mask_bit.true))

pub returns-then-word_of-x : goal.returns-then-word_of-x
returns-then-word_of-x c =
    let a = c.args in
    let l = c.loop-k in
    sym (sym l.invariant ∙ pick-here a.names.now a.m l.k a.x _ c.loop-k-test.true c.word_of.ensures c.if-word_of-x.true (sym c.mask_bit.ensures ∙ c.if-mask_bit.false))

pub loop-k-preserved : goal.loop-k-preserved
loop-k-preserved c =
    let a = c.args in
    let l = c.loop-k in
    pick-on a.names.now a.m l.k a.x _ c.loop-k-test.true c.word_of.ensures c.if-word_of-x.false ∙ l.invariant

pub returns : goal.returns
returns c =
    let a = c.args in
    let l = c.loop-k in
    sym (sym l.invariant ∙ pick_end a.names.now l.k (rests l.k a.m) a.x c.loop-k-test.false)
