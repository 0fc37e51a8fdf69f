-- The loop's invariant: the search went on, and the whole is the same.
use mathlib.Core.Path.{sym, ◌∙◌}
use native.Mathlib.Omega.{arith}
use Rattle.layout.specs.Rows.{board}
use Rattle.meaning.specs.Types.{form_of}
use Rattle.meaning.specs.Records.{types_in}
use Rattle.runs.proofs.Finds.{went-nowhere, came-to, came-count, came-rows, came-trying, found, stays-inside, stayed-on}
use Rattle.runs.proofs.next_step.Goals as goal

pub loop-kept-init : goal.loop-kept-init
loop-kept-init c =
    let args = c.args in
    went-nowhere (board args.m) args.kept.now args.work.now args.frames.now args.start c.requires.4

pub seek_in-e-requires : goal.seek_in-e-requires
seek_in-e-requires c =
    let args = c.args in
    let pre = c.requires in
    let mb = board args.m in
    let few = pre.1 in
    let there = pre.5 in
    let loop = c.loop-kept in
    (loop.invariant.in-record.long ∙ pre.0, loop.invariant.room, (form_of (types_in args.kept.now), there.0, there.1, loop.invariant.whole there.0 there.1 there.3))

pub try_rule-tried-requires : goal.try_rule-tried-requires
try_rule-tried-requires c =
    let args = c.args in
    let pre = c.requires in
    let mb = board args.m in
    let few = pre.1 in
    let there = pre.5 in
    let loop = c.loop-kept in
    let seek = c.seek_in-e in
    let kept1 = seek.new.kept in
    let frames1 = seek.new.frames in
    let came = came-to mb args.kept.now loop.kept kept1 args.work.now args.frames.now loop.frames frames1 args.start loop.s seek.result loop.invariant seek.ensures.0 seek.auto.frames seek.ensures.1 in (
      came.in-record.long ∙ pre.0,
      came-count mb args.kept.now kept1 args.work.now args.frames.now frames1 args.start seek.result few came,
      pre.2,
      omega (arith, pre.3, came-rows mb args.kept.now kept1 args.work.now args.frames.now frames1 args.start seek.result few came there),
      came-trying mb args.kept.now kept1 args.work.now args.frames.now frames1 args.start seek.result few came there,
      came.room,
    )

pub shape_of-kept-then-at_root : goal.shape_of-kept-then-at_root
shape_of-kept-then-at_root c =
    let args = c.args in
    let pre = c.requires in
    let mb = board args.m in
    let few = pre.1 in
    let there = pre.5 in
    let loop = c.loop-kept in
    let seek = c.seek_in-e in
    let kept1 = seek.new.kept in
    let frames1 = seek.new.frames in
    let came = came-to mb args.kept.now loop.kept kept1 args.work.now args.frames.now loop.frames frames1 args.start loop.s seek.result loop.invariant seek.ensures.0 seek.auto.frames seek.ensures.1 in
    came.in-record.long

pub shape_of-frames-then-at_root : goal.shape_of-frames-then-at_root
shape_of-frames-then-at_root c =
    let args = c.args in
    let pre = c.requires in
    let mb = board args.m in
    let few = pre.1 in
    let there = pre.5 in
    let loop = c.loop-kept in
    let seek = c.seek_in-e in
    let kept1 = seek.new.kept in
    let frames1 = seek.new.frames in
    let came = came-to mb args.kept.now loop.kept kept1 args.work.now args.frames.now loop.frames frames1 args.start loop.s seek.result loop.invariant seek.ensures.0 seek.auto.frames seek.ensures.1 in
    came.frames-long

pub returns-then-at_root : goal.returns-then-at_root
returns-then-at_root c =
    let args = c.args in
    let pre = c.requires in
    let mb = board args.m in
    let few = pre.1 in
    let there = pre.5 in
    let loop = c.loop-kept in
    let seek = c.seek_in-e in
    let kept1 = seek.new.kept in
    let frames1 = seek.new.frames in
    let came = came-to mb args.kept.now loop.kept kept1 args.work.now args.frames.now loop.frames frames1 args.start loop.s seek.result loop.invariant seek.ensures.0 seek.auto.frames seek.ensures.1 in
    let try = c.try_rule-tried in
    (came.in-record, found mb args.kept.now kept1 args.work.now args.frames.now frames1 args.start seek.result few came _ try.ensures there (λ q. sym c.at_root.ensures ∙ c.if-at_root.true))

pub stay_on-s-requires : goal.stay_on-s-requires
stay_on-s-requires c =
    let args = c.args in
    let pre = c.requires in
    let mb = board args.m in
    let few = pre.1 in
    let there = pre.5 in
    let loop = c.loop-kept in
    let seek = c.seek_in-e in
    let kept1 = seek.new.kept in
    let frames1 = seek.new.frames in
    let came = came-to mb args.kept.now loop.kept kept1 args.work.now args.frames.now loop.frames frames1 args.start loop.s seek.result loop.invariant seek.ensures.0 seek.auto.frames seek.ensures.1 in
    let try = c.try_rule-tried in
    let q = c.in-Stays.is in
    let r = sym c.at_root.ensures ∙ c.if-at_root.false in
    (came.in-record.long ∙ pre.0, came.room, (form_of (types_in args.kept.now), there.0, there.1, stays-inside mb args.kept.now kept1 args.work.now args.frames.now frames1 args.start seek.result few came try.result try.ensures q r there.0 there.1 there.3))

pub loop-kept-smaller : goal.loop-kept-smaller
loop-kept-smaller c =
    let args = c.args in
    let pre = c.requires in
    let mb = board args.m in
    let few = pre.1 in
    let there = pre.5 in
    let loop = c.loop-kept in
    let seek = c.seek_in-e in
    omega (arith, seek.ensures.1.less, c.stay_on-s.ensures.1.less)

pub loop-kept-preserved : goal.loop-kept-preserved
loop-kept-preserved c =
    let args = c.args in
    let pre = c.requires in
    let mb = board args.m in
    let few = pre.1 in
    let there = pre.5 in
    let loop = c.loop-kept in
    let seek = c.seek_in-e in
    let kept1 = seek.new.kept in
    let frames1 = seek.new.frames in
    let came = came-to mb args.kept.now loop.kept kept1 args.work.now args.frames.now loop.frames frames1 args.start loop.s seek.result loop.invariant seek.ensures.0 seek.auto.frames seek.ensures.1 in
    let try = c.try_rule-tried in
    let q = c.in-Stays.is in
    let r = sym c.at_root.ensures ∙ c.if-at_root.false in
    let on = c.stay_on-s in
    stayed-on mb args.kept.now kept1 args.work.now args.frames.now frames1 args.start seek.result few came try.result try.ensures q r on.new.kept on.new.frames on.result on.ensures.0 on.auto.frames on.ensures.1

pub shape_of-kept-in_default : goal.shape_of-kept-in_default
shape_of-kept-in_default c =
    let args = c.args in
    let pre = c.requires in
    let mb = board args.m in
    let few = pre.1 in
    let there = pre.5 in
    let loop = c.loop-kept in
    let seek = c.seek_in-e in
    let kept1 = seek.new.kept in
    let frames1 = seek.new.frames in
    let came = came-to mb args.kept.now loop.kept kept1 args.work.now args.frames.now loop.frames frames1 args.start loop.s seek.result loop.invariant seek.ensures.0 seek.auto.frames seek.ensures.1 in
    came.in-record.long

pub shape_of-frames-in_default : goal.shape_of-frames-in_default
shape_of-frames-in_default c =
    let args = c.args in
    let pre = c.requires in
    let mb = board args.m in
    let few = pre.1 in
    let there = pre.5 in
    let loop = c.loop-kept in
    let seek = c.seek_in-e in
    let kept1 = seek.new.kept in
    let frames1 = seek.new.frames in
    let came = came-to mb args.kept.now loop.kept kept1 args.work.now args.frames.now loop.frames frames1 args.start loop.s seek.result loop.invariant seek.ensures.0 seek.auto.frames seek.ensures.1 in
    came.frames-long

pub returns-in_default : goal.returns-in_default
returns-in_default c =
    let args = c.args in
    let pre = c.requires in
    let mb = board args.m in
    let few = pre.1 in
    let there = pre.5 in
    let loop = c.loop-kept in
    let seek = c.seek_in-e in
    let kept1 = seek.new.kept in
    let frames1 = seek.new.frames in
    let came = came-to mb args.kept.now loop.kept kept1 args.work.now args.frames.now loop.frames frames1 args.start loop.s seek.result loop.invariant seek.ensures.0 seek.auto.frames seek.ensures.1 in
    let try = c.try_rule-tried in
    (came.in-record, found mb args.kept.now kept1 args.work.now args.frames.now frames1 args.start seek.result few came _ try.ensures there (λ q. absurd (c.in_default.not-Stays q)))
