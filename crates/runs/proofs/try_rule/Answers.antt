-- At a row, or at a frame's end.
use native.Mathlib.Omega.{arith}
use Rattle.layout.specs.Rows.{board}
use Rattle.meaning.specs.Records.{type_count}
use Rattle.runs.specs.Going.{space}
use Rattle.runs.proofs.PutBack.{record-long}
use Rattle.runs.proofs.Tries.{types-fit}
use Rattle.runs.proofs.try_rule.Goals as goal

pub try_here-requires : goal.try_here-requires
try_here-requires c =
    let args = c.args in
    let pre = c.requires in (
      omega (arith, types-fit (board args.m) (type_count args.kept.now) pre.1, pre.0, record-long (board args.m)),
      pre.5.few,
      c.if-here.true,
      (space (board args.m) args.kept.now, args.frames.now, pre.4, pre.5, omega (arith, pre.2, pre.3)),
    )

pub returns-then-here : goal.returns-then-here
returns-then-here c =
    let args = c.args in
    c.try_here.ensures (space (board args.m) args.kept.now) args.frames.now

pub try_end-requires : goal.try_end-requires
try_end-requires c =
    let args = c.args in
    let pre = c.requires in
    (pre.0, pre.1, c.if-here.false, pre.2, omega (arith, pre.3), (args.work.now, pre.4, pre.5))

pub returns : goal.returns
returns c =
    let args = c.args in
    c.try_end.ensures args.work.now
