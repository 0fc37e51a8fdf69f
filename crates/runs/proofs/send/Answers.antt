-- The type, the list, the call out, the record put back, the list renewed, the rest of the work buffer cleared.
use mathlib.Core.Path.{ap, ◌∙◌}
use native.Mathlib.Omega.{arith}
use lib.ListN.{length, length-append}
use Rattle.layout.specs.Rows.{board}
use Rattle.meaning.specs.Bytes.{rows_at}
use Rattle.meaning.proofs.Bytes.Layouts.{bytes_drop}
use Rattle.open.specs.Open.{opened}
use Rattle.runs.specs.Going.{space}
use Rattle.runs.proofs.CallOut.{ready-to-call}
use Rattle.runs.proofs.SendOff.{calls_count, fitting, sent-off}
use Rattle.runs.proofs.send.Goals as goal

pub call_type-ty-requires : goal.call_type-ty-requires
call_type-ty-requires c = let y = ready-to-call (space (board c.args.m) c.args.kept.now) c.args.work.now c.args.frames.now c.args.s c.args.o.old c.args.o.next c.requires.5 c.requires.6 (bytes_drop (rows_at (board c.args.m)) c.args.kept.now (λ i. omega (arith, c.slice_known-1.given i))) c.requires.10 in (c.requires.0, y.fits, omega (arith, c.requires.8), y.two)

pub put_back-requires : goal.put_back-requires
put_back-requires c =
    let f = fitting (board c.args.m) (space (board c.args.m) c.args.kept.now) c.args.work.now _ c.args.frames.now c.args.s c.call_out-e.result c.args.o.old c.args.o.next c.requires.5 c.requires.6 (bytes_drop (rows_at (board c.args.m)) c.args.kept.now (λ i. omega (arith, c.slice_known-1.given i))) c.requires.8 c.requires.10 c.call_out-e.ensures in
    let out = c.call_out-e.ensures in
    (c.requires.0, out.room.ends, f.total, omega (arith, out.long, c.requires.12))

pub with-requires : goal.with-requires
with-requires c = omega (arith, c.open_list-list.ensures.count, calls_count (board c.args.m) c.args.kept.now, c.requires.2, c.requires.4)

pub renew_calls-requires : goal.renew_calls-requires
renew_calls-requires c =
    let l = c.open_list-list.ensures in
    let n = c.with.ensures.count ∙ length-append (opened c.open_list-list.result) _ in
    let k = calls_count (board c.args.m) c.args.kept.now in
    let z = ap length l.entries in
    (c.put_back.auto.kept ∙ c.requires.0, omega (arith, c.requires.2))

pub overflow_mul-old : goal.overflow_mul-old
overflow_mul-old c = let f = fitting (board c.args.m) (space (board c.args.m) c.args.kept.now) c.args.work.now _ c.args.frames.now c.args.s c.call_out-e.result c.args.o.old c.args.o.next c.requires.5 c.requires.6 (bytes_drop (rows_at (board c.args.m)) c.args.kept.now (λ i. omega (arith, c.slice_known-1.given i))) c.requires.8 c.requires.10 c.call_out-e.ensures in omega (arith, f.fits, c.requires.8, c.requires.7)

pub overflow_sub-old : goal.overflow_sub-old
overflow_sub-old c = let f = fitting (board c.args.m) (space (board c.args.m) c.args.kept.now) c.args.work.now _ c.args.frames.now c.args.s c.call_out-e.result c.args.o.old c.args.o.next c.requires.5 c.requires.6 (bytes_drop (rows_at (board c.args.m)) c.args.kept.now (λ i. omega (arith, c.slice_known-1.given i))) c.requires.8 c.requires.10 c.call_out-e.ensures in omega (arith, f.two)

pub clear-requires : goal.clear-requires
clear-requires c = let f = fitting (board c.args.m) (space (board c.args.m) c.args.kept.now) c.args.work.now _ c.args.frames.now c.args.s c.call_out-e.result c.args.o.old c.args.o.next c.requires.5 c.requires.6 (bytes_drop (rows_at (board c.args.m)) c.args.kept.now (λ i. omega (arith, c.slice_known-1.given i))) c.requires.8 c.requires.10 c.call_out-e.ensures in omega (arith, f.fits, c.requires.9, c.requires.5.ends, c.call_out-e.ensures.long)

pub shape_of-kept : goal.shape_of-kept
shape_of-kept c = c.renew_calls.auto.kept ∙ c.put_back.auto.kept

pub shape_of-work : goal.shape_of-work
shape_of-work c = c.clear.auto.dst ∙ c.call_out-e.ensures.long

pub returns : goal.returns
returns c =
    let f = fitting (board c.args.m) (space (board c.args.m) c.args.kept.now) c.args.work.now _ c.args.frames.now c.args.s c.call_out-e.result c.args.o.old c.args.o.next c.requires.5 c.requires.6 (bytes_drop (rows_at (board c.args.m)) c.args.kept.now (λ i. omega (arith, c.slice_known-1.given i))) c.requires.8 c.requires.10 c.call_out-e.ensures in
    sent-off (board c.args.m) c.args.kept.now _ _ c.args.work.now _ _ c.args.frames.now c.args.s c.call_out-e.result c.args.o.old c.args.o.next c.call_type-ty.result c.open_list-list.result c.with.result c.requires.5 c.requires.6 (bytes_drop (rows_at (board c.args.m)) c.args.kept.now (λ i. omega (arith, c.slice_known-1.given i))) c.call_type-ty.ensures c.call_out-e.ensures f.total c.put_back.ensures c.open_list-list.ensures c.with.ensures c.renew_calls.ensures (omega (arith, f.fits, c.requires.9, c.requires.5.ends, c.call_out-e.ensures.long)) c.clear.ensures
