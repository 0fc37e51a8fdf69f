-- What stands before the i-th entry stays.
use Rattle.std.proofs.Common.{◌≡◌, refl, arith}
use lib.ListN.{length}
use Rattle.open.specs.Open.{opened}
use Rattle.open.proofs.Listing.{opened-length, opened-at, without_on, without-hit, without-out}
use Rattle.open.proofs.entries.OpenList.place.Goals as goal

pub returns-then-self-i-clause-taken : goal.returns-then-self-i-clause-taken
returns-then-self-i-clause-taken c =
    let o = c.args.self in
    let l = c.loop-i in
    let n : length o.entries ≡ 64 = c.well_formed.0.1.1.0.1.0.1 in
    let h = opened-length o (omega (arith, o.few)) in
    without-hit (opened o) c.args.number l.i _ _ (omega arith) (opened-at o (omega (arith, o.few)) l.i _ _ (omega arith) refl) c.if-self-i.true l.invariant

pub loop-i-preserved : goal.loop-i-preserved
loop-i-preserved c =
    let o = c.args.self in
    let l = c.loop-i in
    let n : length o.entries ≡ 64 = c.well_formed.0.1.1.0.1.0.1 in
    let h = opened-length o (omega (arith, o.few)) in
    without_on (opened o) c.args.number l.i _ _ (omega arith) (opened-at o (omega (arith, o.few)) l.i _ _ (omega arith) refl) c.if-self-i.false l.invariant

pub returns-clause-unlisted : goal.returns-clause-unlisted
returns-clause-unlisted c =
    let o = c.args.self in
    let n : length o.entries ≡ 64 = c.well_formed.0.1.1.0.1.0.1 in
    let h = opened-length o (omega (arith, o.few)) in
    without-out (opened o) c.args.number c.loop-i.i (omega arith) c.loop-i.invariant
