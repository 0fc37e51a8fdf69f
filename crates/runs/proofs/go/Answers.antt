-- The loop's invariant: the buffers hold the term after the steps made so far. Each way out is a line of the table, or a call, or the term has outgrown the frames.
use mathlib.Core.Path.{refl, ◌∙◌}
use Rattle.std.specs.Prelude.{None, Some}
use native.Mathlib.Omega.{arith}
use Rattle.layout.specs.Rows.{board}
use Rattle.meaning.specs.Records.{state_of}
use Rattle.meaning.specs.declared.Answer.TheVariants as Answer
use Rattle.runs.specs.Loops.{GoneSays}
use Rattle.runs.proofs.OnTheWay.{ends-value, ends-waiting, ends-room, ends-budget, ends_held, ends-numbers, ends-call-budget}
use Rattle.runs.proofs.Looping.{began, rows_few, under-begins, under-total, under-somewhere, stops, stop-stays, stop-tells, stop-sends, fresh-asks, fresh-goes, same-types, same_head, same-calls, same_next, stopped-size, stopped-total, stopped-part, halts-says, leaves, whole-goes, whole-grows, stopped-going, steps_on, call-smaller, call-last, calling, sent-says, record-head}
use Rattle.runs.proofs.PutBack.{record-long}
use Rattle.runs.proofs.Tries.{types-fit}
use Rattle.runs.proofs.go.Goals as goal

pub begin-s-requires : goal.begin-s-requires
begin-s-requires c =
    let mb = board c.args.m in
    let k0 = c.args.kept.now in
    let w0 = c.args.work.now in
    let bt = c.args.budget in
    let z = began mb k0 w0 bt c.args.frames.now c.requires.0 (λ i. omega (arith, c.slice_known-1.given i)) in
    (c.requires.0.long, rows_few mb k0 w0 bt z, omega (arith, c.requires.0.work-long, c.requires.0.wide))

pub loop-kept-init : goal.loop-kept-init
loop-kept-init c =
    let mb = board c.args.m in
    let k0 = c.args.kept.now in
    let w0 = c.args.work.now in
    let bt = c.args.budget in
    let z = began mb k0 w0 bt c.args.frames.now c.requires.0 (λ i. omega (arith, c.slice_known-1.given i)) in
    (under-begins mb k0 w0 bt z _ c.args.frames.now _ c.begin-s.ensures c.begin-s.auto.work c.requires.0.deep (omega (arith, c.requires.0.work-long, c.requires.0.few)) c.requires.0.rows, refl, refl, refl)

pub next_step-n-requires : goal.next_step-n-requires
next_step-n-requires c =
    let mb = board c.args.m in
    let k0 = c.args.kept.now in
    let w0 = c.args.work.now in
    let bt = c.args.budget in
    let z = began mb k0 w0 bt c.args.frames.now c.requires.0 (λ i. omega (arith, c.slice_known-1.given i)) in
    let u = c.loop-kept.invariant.0 in
    (u.long ∙ c.requires.0.long, (same-types mb k0 w0 bt z _ u.front u.long).0, c.requires.0.rows, under-total mb k0 w0 bt z _ _ _ _ _ u, u.room, under-somewhere mb k0 w0 bt z _ _ _ _ _ u)

pub value_at-requires : goal.value_at-requires
value_at-requires c =
    let mb = board c.args.m in
    let k0 = c.args.kept.now in
    let w0 = c.args.work.now in
    let bt = c.args.budget in
    let z = began mb k0 w0 bt c.args.frames.now c.requires.0 (λ i. omega (arith, c.slice_known-1.given i)) in
    let x = (stops mb k0 w0 bt z _ _ _ _ _ c.loop-kept.invariant.0 _ _ _ c.next_step-n.ensures) in (x.long ∙ c.requires.0.long, x.room, (_, _, _, x.halted))

pub halt-requires : goal.halt-requires
halt-requires c =
    let mb = board c.args.m in
    let k0 = c.args.kept.now in
    let w0 = c.args.work.now in
    let bt = c.args.budget in
    let z = began mb k0 w0 bt c.args.frames.now c.requires.0 (λ i. omega (arith, c.slice_known-1.given i)) in
    let x = (stops mb k0 w0 bt z _ _ _ _ _ c.loop-kept.invariant.0 _ _ _ c.next_step-n.ensures) in
    (x.long ∙ c.requires.0.long, x.room.ends, stopped-total mb k0 w0 bt z _ _ _ _ _ x, omega (arith, (c.loop-kept.invariant.1 ∙ c.begin-s.auto.work), c.requires.0.work-long, c.requires.0.few))

pub shape_of-kept-then-value_at : goal.shape_of-kept-then-value_at
shape_of-kept-then-value_at c = c.halt.auto.kept ∙ c.next_step-n.auto.kept ∙ c.loop-kept.invariant.0.long

pub shape_of-work-then-value_at : goal.shape_of-work-then-value_at
shape_of-work-then-value_at c = c.halt.auto.work ∙ (c.loop-kept.invariant.1 ∙ c.begin-s.auto.work)

pub shape_of-frames-then-value_at : goal.shape_of-frames-then-value_at
shape_of-frames-then-value_at c = c.next_step-n.auto.frames ∙ c.loop-kept.invariant.2

pub shape_of-fresh-then-value_at : goal.shape_of-fresh-then-value_at
shape_of-fresh-then-value_at c = c.loop-kept.invariant.3

pub returns-then-value_at : goal.returns-then-value_at
unfolding GoneSays
returns-then-value_at c =
    (
    let mb = board c.args.m in
    let k0 = c.args.kept.now in
    let w0 = c.args.work.now in
    let bt = c.args.budget in
    let z = began mb k0 w0 bt c.args.frames.now c.requires.0 (λ i. omega (arith, c.slice_known-1.given i)) in
    let x = (stops mb k0 w0 bt z _ _ _ _ _ c.loop-kept.invariant.0 _ _ _ c.next_step-n.ensures) in
    let (e, g) = stop-stays mb k0 w0 bt z _ _ _ _ _ c.loop-kept.invariant.0 _ _ _ c.next_step-n.ensures c.in-Stays.is (state_of (board c.args.m) c.args.kept.now).next x.tree x.halted in
    let v = c.value_at.ensures _ (state_of (board c.args.m) c.args.kept.now).next x.tree x.halted e g in
    halts-says mb k0 w0 bt z _ _ _ _ _ x Answer.Value _ _ _ (c.loop-kept.invariant.1 ∙ c.begin-s.auto.work) (ends-value (board c.args.m) c.args.budget c.loop-kept.made (state_of (board c.args.m) c.args.kept.now) x.tree x.way (v.1 ∙ c.if-value_at.true)) c.halt.ensures)

pub halt-requires-in-Stays : goal.halt-requires-in-Stays
halt-requires-in-Stays c =
    let mb = board c.args.m in
    let k0 = c.args.kept.now in
    let w0 = c.args.work.now in
    let bt = c.args.budget in
    let z = began mb k0 w0 bt c.args.frames.now c.requires.0 (λ i. omega (arith, c.slice_known-1.given i)) in
    let x = (stops mb k0 w0 bt z _ _ _ _ _ c.loop-kept.invariant.0 _ _ _ c.next_step-n.ensures) in
    (x.long ∙ c.requires.0.long, x.room.ends, stopped-total mb k0 w0 bt z _ _ _ _ _ x, omega (arith, (c.loop-kept.invariant.1 ∙ c.begin-s.auto.work), c.requires.0.work-long, c.requires.0.few))

pub shape_of-kept-in-Stays : goal.shape_of-kept-in-Stays
shape_of-kept-in-Stays c = c.halt-in-Stays.auto.kept ∙ c.next_step-n.auto.kept ∙ c.loop-kept.invariant.0.long

pub shape_of-work-in-Stays : goal.shape_of-work-in-Stays
shape_of-work-in-Stays c = c.halt-in-Stays.auto.work ∙ (c.loop-kept.invariant.1 ∙ c.begin-s.auto.work)

pub shape_of-frames-in-Stays : goal.shape_of-frames-in-Stays
shape_of-frames-in-Stays c = c.next_step-n.auto.frames ∙ c.loop-kept.invariant.2

pub shape_of-fresh-in-Stays : goal.shape_of-fresh-in-Stays
shape_of-fresh-in-Stays c = c.loop-kept.invariant.3

pub returns-in-Stays : goal.returns-in-Stays
unfolding GoneSays
returns-in-Stays c =
    (
    let mb = board c.args.m in
    let k0 = c.args.kept.now in
    let w0 = c.args.work.now in
    let bt = c.args.budget in
    let z = began mb k0 w0 bt c.args.frames.now c.requires.0 (λ i. omega (arith, c.slice_known-1.given i)) in
    let x = (stops mb k0 w0 bt z _ _ _ _ _ c.loop-kept.invariant.0 _ _ _ c.next_step-n.ensures) in
    let (e, g) = stop-stays mb k0 w0 bt z _ _ _ _ _ c.loop-kept.invariant.0 _ _ _ c.next_step-n.ensures c.in-Stays.is (state_of (board c.args.m) c.args.kept.now).next x.tree x.halted in
    let v = c.value_at.ensures _ (state_of (board c.args.m) c.args.kept.now).next x.tree x.halted e g in
    halts-says mb k0 w0 bt z _ _ _ _ _ x Answer.Waiting _ _ _ (c.loop-kept.invariant.1 ∙ c.begin-s.auto.work) (ends-waiting (board c.args.m) c.args.budget c.loop-kept.made (state_of (board c.args.m) c.args.kept.now) x.tree x.way (v.1 ∙ c.if-value_at.false) v.0) c.halt-in-Stays.ensures)

pub open_count-requires : goal.open_count-requires
open_count-requires c =
    let mb = board c.args.m in
    let k0 = c.args.kept.now in
    let w0 = c.args.work.now in
    let bt = c.args.budget in
    let z = began mb k0 w0 bt c.args.frames.now c.requires.0 (λ i. omega (arith, c.slice_known-1.given i)) in
    let x = (stops mb k0 w0 bt z _ _ _ _ _ c.loop-kept.invariant.0 _ _ _ c.next_step-n.ensures) in record-head mb k0 w0 bt z _ x.front x.long

pub halt-requires-then-m-open_count : goal.halt-requires-then-m-open_count
halt-requires-then-m-open_count c =
    let mb = board c.args.m in
    let k0 = c.args.kept.now in
    let w0 = c.args.work.now in
    let bt = c.args.budget in
    let z = began mb k0 w0 bt c.args.frames.now c.requires.0 (λ i. omega (arith, c.slice_known-1.given i)) in
    let x = (stops mb k0 w0 bt z _ _ _ _ _ c.loop-kept.invariant.0 _ _ _ c.next_step-n.ensures) in
    (x.long ∙ c.requires.0.long, x.room.ends, stopped-total mb k0 w0 bt z _ _ _ _ _ x, omega (arith, (c.loop-kept.invariant.1 ∙ c.begin-s.auto.work), c.requires.0.work-long, c.requires.0.few))

pub shape_of-kept-then-m-open_count : goal.shape_of-kept-then-m-open_count
shape_of-kept-then-m-open_count c = c.halt-then-m-open_count.auto.kept ∙ c.next_step-n.auto.kept ∙ c.loop-kept.invariant.0.long

pub shape_of-work-then-m-open_count : goal.shape_of-work-then-m-open_count
shape_of-work-then-m-open_count c = c.halt-then-m-open_count.auto.work ∙ (c.loop-kept.invariant.1 ∙ c.begin-s.auto.work)

pub shape_of-frames-then-m-open_count : goal.shape_of-frames-then-m-open_count
shape_of-frames-then-m-open_count c = c.next_step-n.auto.frames ∙ c.loop-kept.invariant.2

pub shape_of-fresh-then-m-open_count : goal.shape_of-fresh-then-m-open_count
shape_of-fresh-then-m-open_count c = c.loop-kept.invariant.3

pub returns-then-m-open_count : goal.returns-then-m-open_count
unfolding GoneSays
returns-then-m-open_count c =
    (
    let mb = board c.args.m in
    let k0 = c.args.kept.now in
    let w0 = c.args.work.now in
    let bt = c.args.budget in
    let z = began mb k0 w0 bt c.args.frames.now c.requires.0 (λ i. omega (arith, c.slice_known-1.given i)) in
    let x = (stops mb k0 w0 bt z _ _ _ _ _ c.loop-kept.invariant.0 _ _ _ c.next_step-n.ensures) in
    let (a, (d, u, g)) = stop-sends mb k0 w0 bt z _ _ _ _ _ c.loop-kept.invariant.0 _ _ _ _ c.next_step-n.ensures c.in-Sends.is (state_of (board c.args.m) c.args.kept.now).next x.tree x.halted in
    halts-says mb k0 w0 bt z _ _ _ _ _ x Answer.Held _ _ _ (c.loop-kept.invariant.1 ∙ c.begin-s.auto.work) (ends_held (board c.args.m) c.args.budget c.loop-kept.made (state_of (board c.args.m) c.args.kept.now) x.tree x.way d _ (whole-goes mb k0 w0 bt z _ _ _ _ _ x (Some d) u g) (omega (arith, (same-calls mb k0 w0 bt z _ x.front x.long).0, c.open_count.ensures, c.if-m-open_count.true))) c.halt-then-m-open_count.ensures)

pub next_number-next-requires : goal.next_number-next-requires
next_number-next-requires c =
    let mb = board c.args.m in
    let k0 = c.args.kept.now in
    let w0 = c.args.work.now in
    let bt = c.args.budget in
    let z = began mb k0 w0 bt c.args.frames.now c.requires.0 (λ i. omega (arith, c.slice_known-1.given i)) in
    let x = (stops mb k0 w0 bt z _ _ _ _ _ c.loop-kept.invariant.0 _ _ _ c.next_step-n.ensures) in record-head mb k0 w0 bt z _ x.front x.long

pub halt-requires-then-m-next : goal.halt-requires-then-m-next
halt-requires-then-m-next c =
    let mb = board c.args.m in
    let k0 = c.args.kept.now in
    let w0 = c.args.work.now in
    let bt = c.args.budget in
    let z = began mb k0 w0 bt c.args.frames.now c.requires.0 (λ i. omega (arith, c.slice_known-1.given i)) in
    let x = (stops mb k0 w0 bt z _ _ _ _ _ c.loop-kept.invariant.0 _ _ _ c.next_step-n.ensures) in
    (x.long ∙ c.requires.0.long, x.room.ends, stopped-total mb k0 w0 bt z _ _ _ _ _ x, omega (arith, (c.loop-kept.invariant.1 ∙ c.begin-s.auto.work), c.requires.0.work-long, c.requires.0.few))

pub shape_of-kept-then-m-next : goal.shape_of-kept-then-m-next
shape_of-kept-then-m-next c = c.halt-then-m-next.auto.kept ∙ c.next_step-n.auto.kept ∙ c.loop-kept.invariant.0.long

pub shape_of-work-then-m-next : goal.shape_of-work-then-m-next
shape_of-work-then-m-next c = c.halt-then-m-next.auto.work ∙ (c.loop-kept.invariant.1 ∙ c.begin-s.auto.work)

pub shape_of-frames-then-m-next : goal.shape_of-frames-then-m-next
shape_of-frames-then-m-next c = c.next_step-n.auto.frames ∙ c.loop-kept.invariant.2

pub shape_of-fresh-then-m-next : goal.shape_of-fresh-then-m-next
shape_of-fresh-then-m-next c = c.loop-kept.invariant.3

pub returns-then-m-next : goal.returns-then-m-next
unfolding GoneSays
returns-then-m-next c =
    (
    let mb = board c.args.m in
    let k0 = c.args.kept.now in
    let w0 = c.args.work.now in
    let bt = c.args.budget in
    let z = began mb k0 w0 bt c.args.frames.now c.requires.0 (λ i. omega (arith, c.slice_known-1.given i)) in
    let x = (stops mb k0 w0 bt z _ _ _ _ _ c.loop-kept.invariant.0 _ _ _ c.next_step-n.ensures) in
    let (a, (d, u, g)) = stop-sends mb k0 w0 bt z _ _ _ _ _ c.loop-kept.invariant.0 _ _ _ _ c.next_step-n.ensures c.in-Sends.is (state_of (board c.args.m) c.args.kept.now).next x.tree x.halted in
    halts-says mb k0 w0 bt z _ _ _ _ _ x Answer.Numbers _ _ _ (c.loop-kept.invariant.1 ∙ c.begin-s.auto.work) (ends-numbers (board c.args.m) c.args.budget c.loop-kept.made (state_of (board c.args.m) c.args.kept.now) x.tree x.way d _ (whole-goes mb k0 w0 bt z _ _ _ _ _ x (Some d) u g) (omega (arith, (same-calls mb k0 w0 bt z _ x.front x.long).0, c.open_count.ensures, c.if-m-open_count.false)) (omega (arith, same_next mb k0 w0 bt z _ x.front x.long, c.next_number-next.ensures, c.if-m-next.true))) c.halt-then-m-next.ensures)

pub halt-requires-then-made-budget : goal.halt-requires-then-made-budget
halt-requires-then-made-budget c =
    let mb = board c.args.m in
    let k0 = c.args.kept.now in
    let w0 = c.args.work.now in
    let bt = c.args.budget in
    let z = began mb k0 w0 bt c.args.frames.now c.requires.0 (λ i. omega (arith, c.slice_known-1.given i)) in
    let x = (stops mb k0 w0 bt z _ _ _ _ _ c.loop-kept.invariant.0 _ _ _ c.next_step-n.ensures) in
    (x.long ∙ c.requires.0.long, x.room.ends, stopped-total mb k0 w0 bt z _ _ _ _ _ x, omega (arith, (c.loop-kept.invariant.1 ∙ c.begin-s.auto.work), c.requires.0.work-long, c.requires.0.few))

pub shape_of-kept-then-made-budget : goal.shape_of-kept-then-made-budget
shape_of-kept-then-made-budget c = c.halt-then-made-budget.auto.kept ∙ c.next_step-n.auto.kept ∙ c.loop-kept.invariant.0.long

pub shape_of-work-then-made-budget : goal.shape_of-work-then-made-budget
shape_of-work-then-made-budget c = c.halt-then-made-budget.auto.work ∙ (c.loop-kept.invariant.1 ∙ c.begin-s.auto.work)

pub shape_of-frames-then-made-budget : goal.shape_of-frames-then-made-budget
shape_of-frames-then-made-budget c = c.next_step-n.auto.frames ∙ c.loop-kept.invariant.2

pub shape_of-fresh-then-made-budget : goal.shape_of-fresh-then-made-budget
shape_of-fresh-then-made-budget c = c.loop-kept.invariant.3

pub returns-then-made-budget : goal.returns-then-made-budget
unfolding GoneSays
returns-then-made-budget c =
    (
    let mb = board c.args.m in
    let k0 = c.args.kept.now in
    let w0 = c.args.work.now in
    let bt = c.args.budget in
    let z = began mb k0 w0 bt c.args.frames.now c.requires.0 (λ i. omega (arith, c.slice_known-1.given i)) in
    let x = (stops mb k0 w0 bt z _ _ _ _ _ c.loop-kept.invariant.0 _ _ _ c.next_step-n.ensures) in
    let (a, (d, u, g)) = stop-sends mb k0 w0 bt z _ _ _ _ _ c.loop-kept.invariant.0 _ _ _ _ c.next_step-n.ensures c.in-Sends.is (state_of (board c.args.m) c.args.kept.now).next x.tree x.halted in
    halts-says mb k0 w0 bt z _ _ _ _ _ x Answer.Budget _ _ _ (c.loop-kept.invariant.1 ∙ c.begin-s.auto.work) (ends-call-budget (board c.args.m) c.args.budget c.loop-kept.made (state_of (board c.args.m) c.args.kept.now) x.tree x.way d _ (whole-goes mb k0 w0 bt z _ _ _ _ _ x (Some d) u g) (omega (arith, (same-calls mb k0 w0 bt z _ x.front x.long).0, c.open_count.ensures, c.if-m-open_count.false)) (omega (arith, same_next mb k0 w0 bt z _ x.front x.long, c.next_number-next.ensures, c.if-m-next.false)) (call-smaller mb k0 w0 bt z _ _ _ _ _ x d u g) c.if-made-budget.true) c.halt-then-made-budget.ensures)

pub send-requires : goal.send-requires
send-requires c =
    let mb = board c.args.m in
    let k0 = c.args.kept.now in
    let w0 = c.args.work.now in
    let bt = c.args.budget in
    let z = began mb k0 w0 bt c.args.frames.now c.requires.0 (λ i. omega (arith, c.slice_known-1.given i)) in
    let x = (stops mb k0 w0 bt z _ _ _ _ _ c.loop-kept.invariant.0 _ _ _ c.next_step-n.ensures) in
    let p = c.requires.0 in
    let (a, (d, u, g)) = stop-sends mb k0 w0 bt z _ _ _ _ _ c.loop-kept.invariant.0 _ _ _ _ c.next_step-n.ensures c.in-Sends.is (state_of (board c.args.m) c.args.kept.now).next x.tree x.halted in
    let e = c.next_number-next.ensures ∙ same_next mb k0 w0 bt z _ x.front x.long in
    let t = stopped-total mb k0 w0 bt z _ _ _ _ _ x in
    (x.long ∙ p.long, same_head mb k0 w0 bt z _ x.front x.long, omega (arith, c.open_count.ensures, c.if-m-open_count.false), p.types, p.calls, x.room, call-last mb k0 w0 bt z _ _ _ _ _ x d u g, p.rows, t, omega (arith, t, x.room.ends, (c.loop-kept.invariant.1 ∙ c.begin-s.auto.work), p.work-long, p.wide), calling mb k0 w0 bt z _ _ _ _ _ x d u g _ _ e a, omega (arith, c.if-m-next.false, p.numbers), omega (arith, (c.loop-kept.invariant.1 ∙ c.begin-s.auto.work), p.work-long, p.few))

pub overflow_add-result : goal.overflow_add-result
overflow_add-result c =
    let mb = board c.args.m in
    let k0 = c.args.kept.now in
    let w0 = c.args.work.now in
    let bt = c.args.budget in
    let z = began mb k0 w0 bt c.args.frames.now c.requires.0 (λ i. omega (arith, c.slice_known-1.given i)) in
    let x = (stops mb k0 w0 bt z _ _ _ _ _ c.loop-kept.invariant.0 _ _ _ c.next_step-n.ensures) in omega (arith, x.way.few, c.if-made-budget.false, c.well_formed)

pub shape_of-kept-in-Sends : goal.shape_of-kept-in-Sends
shape_of-kept-in-Sends c = c.send.auto.kept ∙ c.next_step-n.auto.kept ∙ c.loop-kept.invariant.0.long

pub shape_of-work-in-Sends : goal.shape_of-work-in-Sends
shape_of-work-in-Sends c = c.send.auto.work ∙ (c.loop-kept.invariant.1 ∙ c.begin-s.auto.work)

pub shape_of-frames-in-Sends : goal.shape_of-frames-in-Sends
shape_of-frames-in-Sends c = c.next_step-n.auto.frames ∙ c.loop-kept.invariant.2

pub shape_of-fresh-in-Sends : goal.shape_of-fresh-in-Sends
shape_of-fresh-in-Sends c = c.loop-kept.invariant.3

pub returns-in-Sends : goal.returns-in-Sends
unfolding GoneSays
returns-in-Sends c =
    (
    let mb = board c.args.m in
    let k0 = c.args.kept.now in
    let w0 = c.args.work.now in
    let bt = c.args.budget in
    let z = began mb k0 w0 bt c.args.frames.now c.requires.0 (λ i. omega (arith, c.slice_known-1.given i)) in
    let x = (stops mb k0 w0 bt z _ _ _ _ _ c.loop-kept.invariant.0 _ _ _ c.next_step-n.ensures) in
    let (a, (d, u, g)) = stop-sends mb k0 w0 bt z _ _ _ _ _ c.loop-kept.invariant.0 _ _ _ _ c.next_step-n.ensures c.in-Sends.is (state_of (board c.args.m) c.args.kept.now).next x.tree x.halted in
    let e = c.next_number-next.ensures ∙ same_next mb k0 w0 bt z _ x.front x.long in
    sent-says mb k0 w0 bt z _ _ _ _ _ x d u g _ _ _ _ _ e a (c.loop-kept.invariant.1 ∙ c.begin-s.auto.work) (omega (arith, (same-calls mb k0 w0 bt z _ x.front x.long).0, c.open_count.ensures, c.if-m-open_count.false)) (omega (arith, e, c.if-m-next.false)) c.if-made-budget.false c.send.ensures refl)

pub make_rows-f-requires : goal.make_rows-f-requires
make_rows-f-requires c =
    let mb = board c.args.m in
    let k0 = c.args.kept.now in
    let w0 = c.args.work.now in
    let bt = c.args.budget in
    let z = began mb k0 w0 bt c.args.frames.now c.requires.0 (λ i. omega (arith, c.slice_known-1.given i)) in
    let x = (stops mb k0 w0 bt z _ _ _ _ _ c.loop-kept.invariant.0 _ _ _ c.next_step-n.ensures) in
    let a = fresh-asks mb k0 w0 bt z _ _ _ _ _ x _ (stop-tells mb k0 w0 bt z _ _ _ _ _ c.loop-kept.invariant.0 _ _ _ c.next_step-n.ensures) in
    let p = c.requires.0 in
    let f = (same-types mb k0 w0 bt z _ x.front x.long).0 in
    record {
      types = omega (arith, types-fit (board c.args.m) _ f, x.long, p.long, record-long (board c.args.m));
      rows = x.room.few;
      room = omega (arith, c.loop-kept.invariant.3, c.requires.1);
      goes = c.in_default.not-Stays;
      sends_nothing = c.in_default.not-Sends;
      trying = (_, _, a.0, x.room, omega (arith, stopped-total mb k0 w0 bt z _ _ _ _ _ x, p.rows), a.1);
    }

pub spare-requires : goal.spare-requires
spare-requires c =
    let mb = board c.args.m in
    let k0 = c.args.kept.now in
    let w0 = c.args.work.now in
    let bt = c.args.budget in
    let z = began mb k0 w0 bt c.args.frames.now c.requires.0 (λ i. omega (arith, c.slice_known-1.given i)) in
    let x = (stops mb k0 w0 bt z _ _ _ _ _ c.loop-kept.invariant.0 _ _ _ c.next_step-n.ensures) in
    let (u, g, b) = fresh-goes mb k0 w0 bt z _ _ _ _ _ x _ _ (c.make_rows-f.ensures.counted _ _ (fresh-asks mb k0 w0 bt z _ _ _ _ _ x _ (stop-tells mb k0 w0 bt z _ _ _ _ _ c.loop-kept.invariant.0 _ _ _ c.next_step-n.ensures)).1) in
    (x.room.ends, stopped-total mb k0 w0 bt z _ _ _ _ _ x, omega (arith, b.within, stopped-part mb k0 w0 bt z _ _ _ _ _ x, x.room.rows))

pub halt-requires-then-spare-f : goal.halt-requires-then-spare-f
halt-requires-then-spare-f c =
    let mb = board c.args.m in
    let k0 = c.args.kept.now in
    let w0 = c.args.work.now in
    let bt = c.args.budget in
    let z = began mb k0 w0 bt c.args.frames.now c.requires.0 (λ i. omega (arith, c.slice_known-1.given i)) in
    let x = (stops mb k0 w0 bt z _ _ _ _ _ c.loop-kept.invariant.0 _ _ _ c.next_step-n.ensures) in
    (x.long ∙ c.requires.0.long, x.room.ends, stopped-total mb k0 w0 bt z _ _ _ _ _ x, omega (arith, (c.loop-kept.invariant.1 ∙ c.begin-s.auto.work), c.requires.0.work-long, c.requires.0.few))

pub shape_of-kept-then-spare-f : goal.shape_of-kept-then-spare-f
shape_of-kept-then-spare-f c = c.halt-then-spare-f.auto.kept ∙ c.next_step-n.auto.kept ∙ c.loop-kept.invariant.0.long

pub shape_of-work-then-spare-f : goal.shape_of-work-then-spare-f
shape_of-work-then-spare-f c = c.halt-then-spare-f.auto.work ∙ (c.loop-kept.invariant.1 ∙ c.begin-s.auto.work)

pub shape_of-frames-then-spare-f : goal.shape_of-frames-then-spare-f
shape_of-frames-then-spare-f c = c.next_step-n.auto.frames ∙ c.loop-kept.invariant.2

pub shape_of-fresh-then-spare-f : goal.shape_of-fresh-then-spare-f
shape_of-fresh-then-spare-f c = c.make_rows-f.auto.fresh ∙ c.loop-kept.invariant.3

pub returns-then-spare-f : goal.returns-then-spare-f
unfolding GoneSays
returns-then-spare-f c =
    (
    let mb = board c.args.m in
    let k0 = c.args.kept.now in
    let w0 = c.args.work.now in
    let bt = c.args.budget in
    let z = began mb k0 w0 bt c.args.frames.now c.requires.0 (λ i. omega (arith, c.slice_known-1.given i)) in
    let x = (stops mb k0 w0 bt z _ _ _ _ _ c.loop-kept.invariant.0 _ _ _ c.next_step-n.ensures) in
    let (u, g, b) = fresh-goes mb k0 w0 bt z _ _ _ _ _ x _ _ (c.make_rows-f.ensures.counted _ _ (fresh-asks mb k0 w0 bt z _ _ _ _ _ x _ (stop-tells mb k0 w0 bt z _ _ _ _ _ c.loop-kept.invariant.0 _ _ _ c.next_step-n.ensures)).1) in
    let n = whole-grows mb k0 w0 bt z _ _ _ _ _ x u in
    halts-says mb k0 w0 bt z _ _ _ _ _ x Answer.Room _ _ _ (c.loop-kept.invariant.1 ∙ c.begin-s.auto.work) (ends-room (board c.args.m) c.args.budget c.loop-kept.made (state_of (board c.args.m) c.args.kept.now) x.tree x.way _ (whole-goes mb k0 w0 bt z _ _ _ _ _ x None u g) (omega (arith, n, b.sizes, stopped-size mb k0 w0 bt z _ _ _ _ _ x, c.spare.ensures, c.if-spare-f.true))) c.halt-then-spare-f.ensures)

pub halt-requires-then-made-budget-2 : goal.halt-requires-then-made-budget-2
halt-requires-then-made-budget-2 c =
    let mb = board c.args.m in
    let k0 = c.args.kept.now in
    let w0 = c.args.work.now in
    let bt = c.args.budget in
    let z = began mb k0 w0 bt c.args.frames.now c.requires.0 (λ i. omega (arith, c.slice_known-1.given i)) in
    let x = (stops mb k0 w0 bt z _ _ _ _ _ c.loop-kept.invariant.0 _ _ _ c.next_step-n.ensures) in
    (x.long ∙ c.requires.0.long, x.room.ends, stopped-total mb k0 w0 bt z _ _ _ _ _ x, omega (arith, (c.loop-kept.invariant.1 ∙ c.begin-s.auto.work), c.requires.0.work-long, c.requires.0.few))

pub shape_of-kept-then-made-budget-2 : goal.shape_of-kept-then-made-budget-2
shape_of-kept-then-made-budget-2 c = c.halt-then-made-budget-2.auto.kept ∙ c.next_step-n.auto.kept ∙ c.loop-kept.invariant.0.long

pub shape_of-work-then-made-budget-2 : goal.shape_of-work-then-made-budget-2
shape_of-work-then-made-budget-2 c = c.halt-then-made-budget-2.auto.work ∙ (c.loop-kept.invariant.1 ∙ c.begin-s.auto.work)

pub shape_of-frames-then-made-budget-2 : goal.shape_of-frames-then-made-budget-2
shape_of-frames-then-made-budget-2 c = c.next_step-n.auto.frames ∙ c.loop-kept.invariant.2

pub shape_of-fresh-then-made-budget-2 : goal.shape_of-fresh-then-made-budget-2
shape_of-fresh-then-made-budget-2 c = c.make_rows-f.auto.fresh ∙ c.loop-kept.invariant.3

pub returns-then-made-budget-2 : goal.returns-then-made-budget-2
unfolding GoneSays
returns-then-made-budget-2 c =
    (
    let mb = board c.args.m in
    let k0 = c.args.kept.now in
    let w0 = c.args.work.now in
    let bt = c.args.budget in
    let z = began mb k0 w0 bt c.args.frames.now c.requires.0 (λ i. omega (arith, c.slice_known-1.given i)) in
    let x = (stops mb k0 w0 bt z _ _ _ _ _ c.loop-kept.invariant.0 _ _ _ c.next_step-n.ensures) in
    let (u, g, b) = fresh-goes mb k0 w0 bt z _ _ _ _ _ x _ _ (c.make_rows-f.ensures.counted _ _ (fresh-asks mb k0 w0 bt z _ _ _ _ _ x _ (stop-tells mb k0 w0 bt z _ _ _ _ _ c.loop-kept.invariant.0 _ _ _ c.next_step-n.ensures)).1) in
    let n = whole-grows mb k0 w0 bt z _ _ _ _ _ x u in
    halts-says mb k0 w0 bt z _ _ _ _ _ x Answer.Budget _ _ _ (c.loop-kept.invariant.1 ∙ c.begin-s.auto.work) (ends-budget (board c.args.m) c.args.budget c.loop-kept.made (state_of (board c.args.m) c.args.kept.now) x.tree x.way _ (whole-goes mb k0 w0 bt z _ _ _ _ _ x None u g) (omega (arith, n, b.sizes, stopped-size mb k0 w0 bt z _ _ _ _ _ x, c.spare.ensures, c.if-spare-f.false)) c.if-made-budget-2.true) c.halt-then-made-budget-2.ensures)

pub outgrows-requires : goal.outgrows-requires
outgrows-requires c =
    let mb = board c.args.m in
    let k0 = c.args.kept.now in
    let w0 = c.args.work.now in
    let bt = c.args.budget in
    let z = began mb k0 w0 bt c.args.frames.now c.requires.0 (λ i. omega (arith, c.slice_known-1.given i)) in
    let x = (stops mb k0 w0 bt z _ _ _ _ _ c.loop-kept.invariant.0 _ _ _ c.next_step-n.ensures) in
    let (u, g, b) = fresh-goes mb k0 w0 bt z _ _ _ _ _ x _ _ (c.make_rows-f.ensures.counted _ _ (fresh-asks mb k0 w0 bt z _ _ _ _ _ x _ (stop-tells mb k0 w0 bt z _ _ _ _ _ c.loop-kept.invariant.0 _ _ _ c.next_step-n.ensures)).1) in
    let part = stopped-part mb k0 w0 bt z _ _ _ _ _ x in
    (x.room.ends, x.room.few, omega (arith, x.room.rows), omega (arith, c.next_step-n.auto.frames, c.loop-kept.invariant.2, c.requires.0.frames-few), omega (arith, b.within, part, x.room.rows), omega (arith, c.spare.ensures, c.if-spare-f.false, b.within, part, x.room.rows, c.requires.0.rows))

pub put_back-requires : goal.put_back-requires
put_back-requires c =
    let mb = board c.args.m in
    let k0 = c.args.kept.now in
    let w0 = c.args.work.now in
    let bt = c.args.budget in
    let z = began mb k0 w0 bt c.args.frames.now c.requires.0 (λ i. omega (arith, c.slice_known-1.given i)) in
    let x = (stops mb k0 w0 bt z _ _ _ _ _ c.loop-kept.invariant.0 _ _ _ c.next_step-n.ensures) in
    (x.long ∙ c.requires.0.long, x.room.ends, stopped-total mb k0 w0 bt z _ _ _ _ _ x, omega (arith, (c.loop-kept.invariant.1 ∙ c.begin-s.auto.work), c.requires.0.work-long, c.requires.0.few))

pub shape_of-kept-then-outgrows : goal.shape_of-kept-then-outgrows
shape_of-kept-then-outgrows c = c.put_back.auto.kept ∙ c.next_step-n.auto.kept ∙ c.loop-kept.invariant.0.long

pub shape_of-work-then-outgrows : goal.shape_of-work-then-outgrows
shape_of-work-then-outgrows c = c.loop-kept.invariant.1 ∙ c.begin-s.auto.work

pub shape_of-frames-then-outgrows : goal.shape_of-frames-then-outgrows
shape_of-frames-then-outgrows c = c.next_step-n.auto.frames ∙ c.loop-kept.invariant.2

pub shape_of-fresh-then-outgrows : goal.shape_of-fresh-then-outgrows
shape_of-fresh-then-outgrows c = c.make_rows-f.auto.fresh ∙ c.loop-kept.invariant.3

pub returns-then-outgrows : goal.returns-then-outgrows
unfolding GoneSays
returns-then-outgrows c =
    (
    let mb = board c.args.m in
    let k0 = c.args.kept.now in
    let w0 = c.args.work.now in
    let bt = c.args.budget in
    let z = began mb k0 w0 bt c.args.frames.now c.requires.0 (λ i. omega (arith, c.slice_known-1.given i)) in
    let x = (stops mb k0 w0 bt z _ _ _ _ _ c.loop-kept.invariant.0 _ _ _ c.next_step-n.ensures) in
    leaves mb k0 w0 bt z _ _ _ _ _ x c.args.frames.now _ (omega (arith, c.spare.ensures, c.if-spare-f.false, c.outgrows.ensures.1 c.if-outgrows.true, c.next_step-n.auto.frames, c.loop-kept.invariant.2)) c.put_back.ensures)

pub step-s-requires : goal.step-s-requires
step-s-requires c =
    let mb = board c.args.m in
    let k0 = c.args.kept.now in
    let w0 = c.args.work.now in
    let bt = c.args.budget in
    let z = began mb k0 w0 bt c.args.frames.now c.requires.0 (λ i. omega (arith, c.slice_known-1.given i)) in
    let x = (stops mb k0 w0 bt z _ _ _ _ _ c.loop-kept.invariant.0 _ _ _ c.next_step-n.ensures) in
    let a = fresh-asks mb k0 w0 bt z _ _ _ _ _ x _ (stop-tells mb k0 w0 bt z _ _ _ _ _ c.loop-kept.invariant.0 _ _ _ c.next_step-n.ensures) in
    let p = c.requires.0 in
    let lw = (c.loop-kept.invariant.1 ∙ c.begin-s.auto.work) in
    let m = c.make_rows-f.ensures in
    (x.long ∙ p.long, (same-types mb k0 w0 bt z _ x.front x.long).0, p.rows, stopped-total mb k0 w0 bt z _ _ _ _ _ x, omega (arith, lw, p.work-long, p.wide), omega (arith, c.spare.ensures, c.if-spare-f.false), c.outgrows.ensures.0 c.if-outgrows.false, x.room, stopped-going mb k0 w0 bt z _ _ _ _ _ x _ _ (fresh-goes mb k0 w0 bt z _ _ _ _ _ x _ _ (m.counted _ _ a.1)), m.made)

pub overflow_add-made : goal.overflow_add-made
overflow_add-made c =
    let mb = board c.args.m in
    let k0 = c.args.kept.now in
    let w0 = c.args.work.now in
    let bt = c.args.budget in
    let z = began mb k0 w0 bt c.args.frames.now c.requires.0 (λ i. omega (arith, c.slice_known-1.given i)) in
    let x = (stops mb k0 w0 bt z _ _ _ _ _ c.loop-kept.invariant.0 _ _ _ c.next_step-n.ensures) in
    omega (arith, x.way.few, c.if-made-budget-2.false, c.well_formed)

pub loop-kept-smaller : goal.loop-kept-smaller
loop-kept-smaller c =
    let mb = board c.args.m in
    let k0 = c.args.kept.now in
    let w0 = c.args.work.now in
    let bt = c.args.budget in
    let z = began mb k0 w0 bt c.args.frames.now c.requires.0 (λ i. omega (arith, c.slice_known-1.given i)) in
    let x = (stops mb k0 w0 bt z _ _ _ _ _ c.loop-kept.invariant.0 _ _ _ c.next_step-n.ensures) in
    omega (arith, x.way.few, c.if-made-budget-2.false)

pub loop-kept-preserved : goal.loop-kept-preserved
loop-kept-preserved c =
    let mb = board c.args.m in
    let k0 = c.args.kept.now in
    let w0 = c.args.work.now in
    let bt = c.args.budget in
    let z = began mb k0 w0 bt c.args.frames.now c.requires.0 (λ i. omega (arith, c.slice_known-1.given i)) in
    let x = (stops mb k0 w0 bt z _ _ _ _ _ c.loop-kept.invariant.0 _ _ _ c.next_step-n.ensures) in
    let (u, g, b) = fresh-goes mb k0 w0 bt z _ _ _ _ _ x _ _ (c.make_rows-f.ensures.counted _ _ (fresh-asks mb k0 w0 bt z _ _ _ _ _ x _ (stop-tells mb k0 w0 bt z _ _ _ _ _ c.loop-kept.invariant.0 _ _ _ c.next_step-n.ensures)).1) in
    let d = c.step-s.ensures in
    (steps_on mb k0 w0 bt z _ _ _ _ _ x _ _ _ _ _ u g b (omega (arith, c.spare.ensures, c.if-spare-f.false)) c.if-made-budget-2.false d, d.1.long ∙ c.loop-kept.invariant.1, c.next_step-n.auto.frames ∙ c.loop-kept.invariant.2, c.make_rows-f.auto.fresh ∙ c.loop-kept.invariant.3)
