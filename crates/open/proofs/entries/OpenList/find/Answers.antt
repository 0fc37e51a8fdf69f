-- From the i-th entry on as from the first.
use Rattle.std.proofs.Common.{◌≡◌, refl, sym, ◌∙◌, arith}
use lib.ListN.{length}
use Rattle.open.specs.Open.{opened}
use Rattle.open.proofs.Listing.{opened-length, opened-at, listed-on, listed-hit}
use Rattle.open.proofs.entries.OpenList.find.Goals as goal

pub returns-then-e-number : goal.returns-then-e-number
returns-then-e-number c =
    let o = c.args.self in
    let l = c.loop-i in
    let n : length o.entries ≡ 64 = c.well_formed.0.1.1.0.1.0.1 in
    let h = opened-length o (omega (arith, o.few)) in
    sym (listed-hit (opened o) c.args.number l.i _ _ (omega arith) (opened-at o (omega (arith, o.few)) l.i _ _ (omega arith) refl) c.if-e-number.true) ∙ l.invariant

pub loop-i-preserved : goal.loop-i-preserved
loop-i-preserved c =
    let o = c.args.self in
    let l = c.loop-i in
    let n : length o.entries ≡ 64 = c.well_formed.0.1.1.0.1.0.1 in
    let h = opened-length o (omega (arith, o.few)) in
    sym (listed-on (opened o) c.args.number l.i _ _ (omega arith) (opened-at o (omega (arith, o.few)) l.i _ _ (omega arith) refl) c.if-e-number.false) ∙ l.invariant
