-- At the root, in a frame that is done, and in one with trees to come.
use Prim.Native.Nat.{suc, ◌-◌, ◌<◌}
use mathlib.Core.Path.{◌≡◌, sym, ◌∙◌}
use native.Mathlib.Omega.{arith}
use Rattle.search.proofs.Entries.{frames-few}
use Rattle.search.proofs.Turns.{root-row, root-sight, done-sight, frame_row, frame-sight, skip-sight}
use Rattle.search.proofs.look_ahead.Goals as goal

pub goes_into-requires : goal.goes_into-requires
goes_into-requires c =
    let args = c.args in
    let pre = c.requires in
    let w = pre.1 in
    let y = root-row w.form w.number args.left.now args.right.now args.frames.now args.s pre.0 w.frames_around w.trees c.if-d-eq0.true w.search in
    (y.0, pre.0.few, y.1)

pub returns-then-goes_into : goal.returns-then-goes_into
returns-then-goes_into c =
    let args = c.args in
    let pre = c.requires in
    λ form k Fs ts x. (root-sight form k args.left.now args.right.now args.frames.now args.s pre.0 c.goes_into.result Fs ts c.if-d-eq0.true c.goes_into.ensures x).0 c.if-goes_into.true

pub returns-then-d-eq0 : goal.returns-then-d-eq0
returns-then-d-eq0 c =
    let args = c.args in
    let pre = c.requires in
    λ form k Fs ts x. (root-sight form k args.left.now args.right.now args.frames.now args.s pre.0 c.goes_into.result Fs ts c.if-d-eq0.true c.goes_into.ensures x).1 c.if-goes_into.false

pub offset_bounds-frames-d : goal.offset_bounds-frames-d
offset_bounds-frames-d c =
    let args = c.args in
    let pre = c.requires in
    let w = pre.1 in
    omega (arith, frames-few args.left.now args.frames.now args.s.l args.s.d w.frames_around w.search.kept, pre.0.rows)

pub bounds-frames-d : goal.bounds-frames-d
bounds-frames-d c =
    let args = c.args in
    let pre = c.requires in
    let w = pre.1 in
    omega (arith, frames-few args.left.now args.frames.now args.s.l args.s.d w.frames_around w.search.kept, pre.0.deep)

pub returns-then-o-eq0 : goal.returns-then-o-eq0
returns-then-o-eq0 c =
    let args = c.args in
    let pre = c.requires in
    let ds : args.s.d ≡ suc (args.s.d - 1) = omega arith in
    λ form k Fs ts x. done-sight form k args.left.now args.right.now args.frames.now args.s pre.0 (args.s.d - 1) ds Fs ts (sym c.owed_in-o.ensures ∙ c.if-o-eq0.true) x

pub looked_at-requires : goal.looked_at-requires
looked_at-requires c =
    let args = c.args in
    let pre = c.requires in
    let w = pre.1 in
    let ds : args.s.d ≡ suc (args.s.d - 1) = omega arith in
    let some : 0 < c.owed_in-o.result = omega arith in
    let f = frame_row w.form w.number args.left.now args.right.now args.frames.now args.s pre.0 (args.s.d - 1) ds w.frames_around w.trees c.owed_in-o.result c.row_in.result c.owed_in-o.ensures c.row_in.ensures some w.search in
    let room = pre.0 in
    (omega (arith, room.left-long, room.ends, f.below), omega (arith, room.rows, f.below), omega (arith, room.few, f.row), f.trees, λ y. omega (arith, room.left-long, room.ends, f.next y))

pub goes_into-requires-then-looked_at : goal.goes_into-requires-then-looked_at
goes_into-requires-then-looked_at c =
    let args = c.args in
    let pre = c.requires in
    let w = pre.1 in
    let ds : args.s.d ≡ suc (args.s.d - 1) = omega arith in
    let some : 0 < c.owed_in-o.result = omega arith in
    let f = frame_row w.form w.number args.left.now args.right.now args.frames.now args.s pre.0 (args.s.d - 1) ds w.frames_around w.trees c.owed_in-o.result c.row_in.result c.owed_in-o.ensures c.row_in.ensures some w.search in
    (f.row, pre.0.few, f.fits)

pub returns-then-goes_into-2 : goal.returns-then-goes_into-2
returns-then-goes_into-2 c =
    let args = c.args in
    let pre = c.requires in
    let ds : args.s.d ≡ suc (args.s.d - 1) = omega arith in
    let some : 0 < c.owed_in-o.result = omega arith in
    λ form k Fs ts x. (frame-sight form k args.left.now args.right.now args.frames.now args.s pre.0 (args.s.d - 1) ds c.goes_into-then-looked_at.result c.looked_at.result Fs ts c.owed_in-o.result c.row_in.result c.owed_in-o.ensures c.row_in.ensures some c.looked_at.ensures c.if-looked_at.true c.goes_into-then-looked_at.ensures x).0 c.if-goes_into-2.true

pub returns-then-looked_at : goal.returns-then-looked_at
returns-then-looked_at c =
    let args = c.args in
    let pre = c.requires in
    let ds : args.s.d ≡ suc (args.s.d - 1) = omega arith in
    let some : 0 < c.owed_in-o.result = omega arith in
    λ form k Fs ts x. (frame-sight form k args.left.now args.right.now args.frames.now args.s pre.0 (args.s.d - 1) ds c.goes_into-then-looked_at.result c.looked_at.result Fs ts c.owed_in-o.result c.row_in.result c.owed_in-o.ensures c.row_in.ensures some c.looked_at.ensures c.if-looked_at.true c.goes_into-then-looked_at.ensures x).1 c.if-goes_into-2.false

pub returns : goal.returns
returns c =
    let args = c.args in
    let pre = c.requires in
    let ds : args.s.d ≡ suc (args.s.d - 1) = omega arith in
    let some : 0 < c.owed_in-o.result = omega arith in
    λ form k Fs ts x. skip-sight form k args.left.now args.right.now args.frames.now args.s pre.0 (args.s.d - 1) ds c.looked_at.result Fs ts c.owed_in-o.result c.row_in.result c.owed_in-o.ensures c.row_in.ensures some c.looked_at.ensures c.if-looked_at.false x
