-- The rows taken and those left are all.
use mathlib.Core.Path.{refl}
use Prim.Native.Nat.{ℕ}
use native.Mathlib.Omega.{arith}
use lib.ListN.{length-replicate}
use Rattle.put.proofs.Rows.{row_read, row-in}
use Rattle.put.proofs.Loops.{going-in, going-room}
use Rattle.put.proofs.Taking.{taking-start, taking-end, taking-span, taking-room, taking-next}
use Rattle.put.proofs.pass_masked.Goals as goal

pub loop-owed-init : goal.loop-owed-init
loop-owed-init g c = taking-start _ _ _ c.requires.ready _ _ _ c.requires.empty (length-replicate {A = ℕ} 2048 0) refl

pub row_at-r-requires : goal.row_at-r-requires
row_at-r-requires g c =
    let k = going-in c.requires.ready c.loop-owed.invariant.going (omega arith) in
    row-in c.args.rows.now c.loop-owed.i k.0

pub bounds-masks-owed : goal.bounds-masks-owed
bounds-masks-owed g c =
    let l = c.loop-owed.invariant.going in
    let k = going-in c.requires.ready l (omega arith) in
    omega (arith, k.1, l.long)

pub descend-owed-requires : goal.descend-owed-requires
descend-owed-requires g c =
    let p = c.requires.ready in
    let l = c.loop-owed.invariant.going in
    let k = going-in p l (omega arith) in
    let r = row_read c.args.rows.now c.loop-owed.i _ k.0 c.row_at-r.ensures in
    (p.eight, omega arith, k.1, going-room p l (omega arith) r)

pub take-requires-clause-span : goal.take-requires-clause-span
take-requires-clause-span g c =
    let p = c.requires.ready in
    let l = c.loop-owed.invariant in
    let k = going-in p l.going (omega arith) in
    let r = row_read c.args.rows.now c.loop-owed.i _ k.0 c.row_at-r.ensures in
    taking-span _ _ _ p l (omega arith) r c.descend-owed.ensures c.spot-s.ensures.0 c.spot-s.ensures.1

pub returns-then-not-take-clause-room : goal.returns-then-not-take-clause-room
returns-then-not-take-clause-room g c = λ h.
    let p = c.requires.ready in
    let l = c.loop-owed.invariant in
    let k = going-in p l.going (omega arith) in
    let r = row_read c.args.rows.now c.loop-owed.i _ k.0 c.row_at-r.ensures in
    let t = c.take.ensures.room (taking-room _ _ _ p l (omega arith) r c.descend-owed.ensures c.spot-s.ensures.0 c.spot-s.ensures.1 h) in
    let f = c.if-not-take.true in
    cc (t, f)

pub loop-owed-smaller : goal.loop-owed-smaller
loop-owed-smaller g c =
    let k = going-in c.requires.ready c.loop-owed.invariant.going (omega arith) in
    omega (arith, k.0)

pub loop-owed-preserved : goal.loop-owed-preserved
loop-owed-preserved g c =
    let p = c.requires.ready in
    let l = c.loop-owed.invariant in
    let k = going-in p l.going (omega arith) in
    let r = row_read c.args.rows.now c.loop-owed.i _ k.0 c.row_at-r.ensures in
    taking-next _ _ _ p l (omega arith) r c.descend-owed.ensures c.spot-s.ensures.0 c.spot-s.ensures.1 _ (c.take.ensures.taken c.if-not-take.false l.taken l.held) c.take.ensures.same_loan

pub returns-clause-made : goal.returns-clause-made
returns-clause-made g c = taking-end _ _ _ c.requires.ready c.loop-owed.invariant (omega arith)
