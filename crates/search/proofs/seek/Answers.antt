-- The loop's invariant: the search went on, and the whole is the same.
use mathlib.Core.Path.{sym, ◌∙◌, subst}
use mathlib.Core.Bool.{Bool, true, false}
use native.Mathlib.Omega.{arith}
use borrow.Author.Tests.{ltb-true}
use Rattle.meaning.proofs.Trees.Tests.{left as first-true, right as second-true}
use Rattle.terms.proofs.Scan.{size-some}
use Rattle.search.specs.Kept.{tree_here, Passes}
use Rattle.search.specs.Search.{Sees, SpansHere}
use Rattle.search.specs.declared.Sight.{Sight}
use Rattle.search.specs.declared.Sight.TheVariants.{Done, Skip, Enter, Here}
use Rattle.search.specs.declared.Span.{Span}
use Rattle.search.proofs.Values.{whole-told}
use Rattle.search.proofs.Moves.{went_then, went_on, skip-on, enter-on, rest-on, whole-on, leave-on, skip-passable, enter-possible, row-there, rest-possible, tree-there, whole-possible, frame-there, leave-possible, stopped-here}
use Rattle.search.proofs.seek.Goals as goal

pub rests_at_end-requires : goal.rests_at_end-requires
rests_at_end-requires c =
    let args = c.args in
    let loop = c.loop-left in
    let there = c.requires.1 in
    let sees = subst (λ (x : Sight). Sees x loop.left args.right.now loop.frames loop.s) c.in-Done.is c.look_ahead.ensures in
    let y = frame-there args.left.now loop.left args.right.now args.frames.now loop.frames args.start loop.s loop.invariant there sees in
    (omega (arith, y.0, loop.invariant.room.rows), omega (arith, y.0, loop.invariant.room.deep), omega (arith, y.1, loop.invariant.room.left-long))

pub leave-s-requires : goal.leave-s-requires
leave-s-requires c =
    let args = c.args in
    let loop = c.loop-left in
    let there = c.requires.1 in
    let sees = subst (λ (x : Sight). Sees x loop.left args.right.now loop.frames loop.s) c.in-Done.is c.look_ahead.ensures in
    let b = sym c.rests_at_end.ensures ∙ c.if-rests_at_end.true in
    let deep = ltb-true 1 loop.s.d (first-true _ _ b) in
    let y = leave-possible args.left.now loop.left args.right.now args.frames.now loop.frames args.start loop.s loop.invariant there sees deep (second-true _ _ b) in
    (deep, y.few, y.shallow, y.inner, y.outer, y.owes)

pub loop-left-smaller-then-rests_at_end : goal.loop-left-smaller-then-rests_at_end
loop-left-smaller-then-rests_at_end c =
    let args = c.args in
    let loop = c.loop-left in
    let there = c.requires.1 in
    let b = sym c.rests_at_end.ensures ∙ c.if-rests_at_end.true in
    let deep = ltb-true 1 loop.s.d (first-true _ _ b) in
    let p = c.leave-s in
    let g = leave-on loop.left args.right.now loop.frames p.new.frames loop.s p.result loop.invariant.room deep (second-true _ _ b) p.ensures in
    g.less

pub loop-left-preserved-then-rests_at_end : goal.loop-left-preserved-then-rests_at_end
loop-left-preserved-then-rests_at_end c =
    let args = c.args in
    let loop = c.loop-left in
    let there = c.requires.1 in
    let sees = subst (λ (x : Sight). Sees x loop.left args.right.now loop.frames loop.s) c.in-Done.is c.look_ahead.ensures in
    let b = sym c.rests_at_end.ensures ∙ c.if-rests_at_end.true in
    let deep = ltb-true 1 loop.s.d (first-true _ _ b) in
    let p = c.leave-s in
    let g = leave-on loop.left args.right.now loop.frames p.new.frames loop.s p.result loop.invariant.room deep (second-true _ _ b) p.ensures in
    went_on args.left.now loop.left args.right.now args.frames.now loop.frames args.start loop.s loop.invariant Done loop.left p.new.frames p.result sees g

pub returns-else-rests_at_end : goal.returns-else-rests_at_end
returns-else-rests_at_end c =
    let args = c.args in
    let loop = c.loop-left in
    let there = c.requires.1 in
    let sees = subst (λ (x : Sight). Sees x loop.left args.right.now loop.frames loop.s) c.in-Done.is c.look_ahead.ensures in
    stopped-here args.left.now loop.left args.right.now args.frames.now loop.frames args.start loop.s loop.invariant false sees

pub rests_here-requires : goal.rests_here-requires
rests_here-requires c =
    let args = c.args in
    let loop = c.loop-left in
    let there = c.requires.1 in
    let sees = subst (λ (x : Sight). Sees x loop.left args.right.now loop.frames loop.s) c.in-Here.is c.look_ahead.ensures in
    (row-there args.left.now loop.left args.right.now args.frames.now loop.frames args.start loop.s loop.invariant there sees, loop.invariant.room.few)

pub pass_by-s-requires : goal.pass_by-s-requires
pass_by-s-requires c =
    let args = c.args in
    let loop = c.loop-left in
    let there = c.requires.1 in
    let sees = subst (λ (x : Sight). Sees x loop.left args.right.now loop.frames loop.s) c.in-Here.is c.look_ahead.ensures in
    let b = sym c.rests_here.ensures ∙ c.if-rests_here.true in
    let y = rest-possible args.left.now loop.left args.right.now args.frames.now loop.frames args.start loop.s loop.invariant there sees (ltb-true 0 loop.s.d (first-true _ _ b)) in
    (loop.invariant.room, y.passable.small, y.passable.inside, y.passable.shallow, y.passable.owes, y.inside)

pub loop-left-smaller-then-rests_here : goal.loop-left-smaller-then-rests_here
loop-left-smaller-then-rests_here c =
    let args = c.args in
    let loop = c.loop-left in
    let there = c.requires.1 in
    let sees = subst (λ (x : Sight). Sees x loop.left args.right.now loop.frames loop.s) c.in-Here.is c.look_ahead.ensures in
    let b = sym c.rests_here.ensures ∙ c.if-rests_here.true in
    let y = rest-possible args.left.now loop.left args.right.now args.frames.now loop.frames args.start loop.s loop.invariant there sees (ltb-true 0 loop.s.d (first-true _ _ b)) in
    let p = c.pass_by-s in
    let g = rest-on loop.left p.new.left args.right.now loop.frames p.new.frames loop.s p.result loop.invariant.room y.passable (second-true _ _ b) p.ensures in
    g.less

pub loop-left-preserved-then-rests_here : goal.loop-left-preserved-then-rests_here
loop-left-preserved-then-rests_here c =
    let args = c.args in
    let loop = c.loop-left in
    let there = c.requires.1 in
    let sees = subst (λ (x : Sight). Sees x loop.left args.right.now loop.frames loop.s) c.in-Here.is c.look_ahead.ensures in
    let b = sym c.rests_here.ensures ∙ c.if-rests_here.true in
    let y = rest-possible args.left.now loop.left args.right.now args.frames.now loop.frames args.start loop.s loop.invariant there sees (ltb-true 0 loop.s.d (first-true _ _ b)) in
    let p = c.pass_by-s in
    let g = rest-on loop.left p.new.left args.right.now loop.frames p.new.frames loop.s p.result loop.invariant.room y.passable (second-true _ _ b) p.ensures in
    went_on args.left.now loop.left args.right.now args.frames.now loop.frames args.start loop.s loop.invariant Here p.new.left p.new.frames p.result sees g

pub returns-else-rests_here : goal.returns-else-rests_here
returns-else-rests_here c =
    let args = c.args in
    let loop = c.loop-left in
    let there = c.requires.1 in
    let sees = subst (λ (x : Sight). Sees x loop.left args.right.now loop.frames loop.s) c.in-Here.is c.look_ahead.ensures in
    stopped-here args.left.now loop.left args.right.now args.frames.now loop.frames args.start loop.s loop.invariant true sees

pub pass-s-requires : goal.pass-s-requires
pass-s-requires c =
    let args = c.args in
    let loop = c.loop-left in
    let there = c.requires.1 in
    let sees = subst (λ (x : Sight). Sees x loop.left args.right.now loop.frames loop.s) c.in-Skip.is c.look_ahead.ensures in
    let y = skip-passable args.left.now loop.left args.right.now args.frames.now loop.frames args.start loop.s loop.invariant there sees in
    (loop.invariant.room, y.small, y.inside, y.shallow, y.owes)

pub loop-left-smaller-in-Skip : goal.loop-left-smaller-in-Skip
loop-left-smaller-in-Skip c =
    let args = c.args in
    let loop = c.loop-left in
    let there = c.requires.1 in
    let sees = subst (λ (x : Sight). Sees x loop.left args.right.now loop.frames loop.s) c.in-Skip.is c.look_ahead.ensures in
    let y = skip-passable args.left.now loop.left args.right.now args.frames.now loop.frames args.start loop.s loop.invariant there sees in
    let p = c.pass-s in
    let g = skip-on loop.left p.new.left args.right.now loop.frames p.new.frames loop.s p.result loop.invariant.room y p.ensures in
    g.less

pub loop-left-preserved-in-Skip : goal.loop-left-preserved-in-Skip
loop-left-preserved-in-Skip c =
    let args = c.args in
    let loop = c.loop-left in
    let there = c.requires.1 in
    let sees = subst (λ (x : Sight). Sees x loop.left args.right.now loop.frames loop.s) c.in-Skip.is c.look_ahead.ensures in
    let y = skip-passable args.left.now loop.left args.right.now args.frames.now loop.frames args.start loop.s loop.invariant there sees in
    let p = c.pass-s in
    let g = skip-on loop.left p.new.left args.right.now loop.frames p.new.frames loop.s p.result loop.invariant.room y p.ensures in
    went_on args.left.now loop.left args.right.now args.frames.now loop.frames args.start loop.s loop.invariant Skip p.new.left p.new.frames p.result sees g

pub value_here-requires : goal.value_here-requires
value_here-requires c =
    let args = c.args in
    let loop = c.loop-left in
    let there = c.requires.1 in
    let calls = c.enter_calls-s in
    let left1 = calls.new.left in
    let frames1 = calls.new.frames in
    let s1 = calls.result in
    let sees = calls.ensures.sees in
    let w = went_then args.left.now loop.left left1 args.right.now args.frames.now loop.frames frames1 args.start loop.s s1 loop.invariant calls.ensures.went in
    let y = tree-there args.left.now left1 args.right.now args.frames.now frames1 args.start s1 w there sees in
    (w.room.ends, w.room.few, omega (arith, y.1, w.room.rows), y.0)

pub wants_here-fine-requires : goal.wants_here-fine-requires
wants_here-fine-requires c =
    let args = c.args in
    let loop = c.loop-left in
    let there = c.requires.1 in
    let calls = c.enter_calls-s in
    let left1 = calls.new.left in
    let frames1 = calls.new.frames in
    let s1 = calls.result in
    let sees = calls.ensures.sees in
    let w = went_then args.left.now loop.left left1 args.right.now args.frames.now loop.frames frames1 args.start loop.s s1 loop.invariant calls.ensures.went in
    let v = whole-told _ _ _ (subst (λ (x : Span). SpansHere x args.right.now s1) c.in-Whole.is c.value_here.ensures) in
    let y = whole-possible args.left.now left1 args.right.now args.frames.now frames1 args.start s1 w there sees v.0 in
    let some = size-some (tree_here args.right.now s1.r) in
    let room = w.room in
    (omega (arith, room.left-long), omega (arith, room.rows), omega (arith, some, y.passable.small), v.0, omega (arith, y.passable.shallow, room.deep), y.inside)

pub pass_rows-s-requires : goal.pass_rows-s-requires
pass_rows-s-requires c =
    let args = c.args in
    let loop = c.loop-left in
    let there = c.requires.1 in
    let calls = c.enter_calls-s in
    let left1 = calls.new.left in
    let frames1 = calls.new.frames in
    let s1 = calls.result in
    let sees = calls.ensures.sees in
    let w = went_then args.left.now loop.left left1 args.right.now args.frames.now loop.frames frames1 args.start loop.s s1 loop.invariant calls.ensures.went in
    let v = whole-told _ _ _ (subst (λ (x : Span). SpansHere x args.right.now s1) c.in-Whole.is c.value_here.ensures) in
    let y = whole-possible args.left.now left1 args.right.now args.frames.now frames1 args.start s1 w there sees v.0 in
    (w.room, v.1, omega (arith, v.1, y.passable.small), y.passable.inside, y.passable.shallow, y.passable.owes)

pub loop-left-smaller-in-Whole : goal.loop-left-smaller-in-Whole
loop-left-smaller-in-Whole c =
    let args = c.args in
    let loop = c.loop-left in
    let there = c.requires.1 in
    let calls = c.enter_calls-s in
    let left1 = calls.new.left in
    let frames1 = calls.new.frames in
    let s1 = calls.result in
    let sees = calls.ensures.sees in
    let w = went_then args.left.now loop.left left1 args.right.now args.frames.now loop.frames frames1 args.start loop.s s1 loop.invariant calls.ensures.went in
    let v = whole-told _ _ _ (subst (λ (x : Span). SpansHere x args.right.now s1) c.in-Whole.is c.value_here.ensures) in
    let y = whole-possible args.left.now left1 args.right.now args.frames.now frames1 args.start s1 w there sees v.0 in
    let p = c.pass_rows-s in
    let q = subst (λ (b : Bool). Passes left1 p.new.left args.right.now frames1 p.new.frames s1 b p.result) c.wants_here-fine.ensures p.ensures in
    let g = whole-on left1 p.new.left args.right.now frames1 p.new.frames s1 p.result w.room y.passable v.2 q in
    omega (arith, g.less, calls.ensures.went.less)

pub loop-left-preserved-in-Whole : goal.loop-left-preserved-in-Whole
loop-left-preserved-in-Whole c =
    let args = c.args in
    let loop = c.loop-left in
    let there = c.requires.1 in
    let calls = c.enter_calls-s in
    let left1 = calls.new.left in
    let frames1 = calls.new.frames in
    let s1 = calls.result in
    let sees = calls.ensures.sees in
    let w = went_then args.left.now loop.left left1 args.right.now args.frames.now loop.frames frames1 args.start loop.s s1 loop.invariant calls.ensures.went in
    let v = whole-told _ _ _ (subst (λ (x : Span). SpansHere x args.right.now s1) c.in-Whole.is c.value_here.ensures) in
    let y = whole-possible args.left.now left1 args.right.now args.frames.now frames1 args.start s1 w there sees v.0 in
    let p = c.pass_rows-s in
    let q = subst (λ (b : Bool). Passes left1 p.new.left args.right.now frames1 p.new.frames s1 b p.result) c.wants_here-fine.ensures p.ensures in
    let g = whole-on left1 p.new.left args.right.now frames1 p.new.frames s1 p.result w.room y.passable v.2 q in
    went_on args.left.now left1 args.right.now args.frames.now frames1 args.start s1 w Enter p.new.left p.new.frames p.result sees g

pub enter-s-requires : goal.enter-s-requires
enter-s-requires c =
    let args = c.args in
    let loop = c.loop-left in
    let there = c.requires.1 in
    let calls = c.enter_calls-s in
    let left1 = calls.new.left in
    let frames1 = calls.new.frames in
    let s1 = calls.result in
    let sees = calls.ensures.sees in
    let w = went_then args.left.now loop.left left1 args.right.now args.frames.now loop.frames frames1 args.start loop.s s1 loop.invariant calls.ensures.went in
    let y = enter-possible args.left.now left1 args.right.now args.frames.now frames1 args.start s1 w there sees in
    (w.room, y.0, y.1)

pub loop-left-smaller : goal.loop-left-smaller
loop-left-smaller c =
    let args = c.args in
    let loop = c.loop-left in
    let there = c.requires.1 in
    let calls = c.enter_calls-s in
    let left1 = calls.new.left in
    let frames1 = calls.new.frames in
    let s1 = calls.result in
    let sees = calls.ensures.sees in
    let w = went_then args.left.now loop.left left1 args.right.now args.frames.now loop.frames frames1 args.start loop.s s1 loop.invariant calls.ensures.went in
    let y = enter-possible args.left.now left1 args.right.now args.frames.now frames1 args.start s1 w there sees in
    let p = c.enter-s in
    let g = enter-on left1 p.new.left args.right.now frames1 p.new.frames s1 p.result w.room y.0 p.ensures in
    omega (arith, g.less, calls.ensures.went.less)

pub loop-left-preserved : goal.loop-left-preserved
loop-left-preserved c =
    let args = c.args in
    let loop = c.loop-left in
    let there = c.requires.1 in
    let calls = c.enter_calls-s in
    let left1 = calls.new.left in
    let frames1 = calls.new.frames in
    let s1 = calls.result in
    let sees = calls.ensures.sees in
    let w = went_then args.left.now loop.left left1 args.right.now args.frames.now loop.frames frames1 args.start loop.s s1 loop.invariant calls.ensures.went in
    let y = enter-possible args.left.now left1 args.right.now args.frames.now frames1 args.start s1 w there sees in
    let p = c.enter-s in
    let g = enter-on left1 p.new.left args.right.now frames1 p.new.frames s1 p.result w.room y.0 p.ensures in
    went_on args.left.now left1 args.right.now args.frames.now frames1 args.start s1 w Enter p.new.left p.new.frames p.result sees g
