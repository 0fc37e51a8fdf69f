-- The loop's invariant: the rows taken and those left are all.
use mathlib.Core.Path.{refl, ap, sym, ◌∙◌, subst}
use mathlib.Core.Bool.{Bool, true, false}
use mathlib.Core.List.{List, [], ◌++◌, append_assoc, append-nil}
use native.Mathlib.Omega.{arith}
use Prim.Native.Nat.{ℕ}
use Rattle.layout.specs.Rows.{row_table}
use Rattle.put.specs.Put.{standing}
use Rattle.reduce.specs.Taking.{Takes}
use Rattle.reduce.proofs.Parted.{bound-next, going_start, left-start, left_end, going-in, going-cons, going_next, left-next}
use Rattle.reduce.proofs.Taking.{takes-none, span-takes, takes-next, takes-fail}
use Rattle.reduce.proofs.zips.take_half.Goals as goal

pub loop-j-init : goal.loop-j-init
loop-j-init g c =
    let z = c.args.z in
    (going_start (row_table c.args.rows.now) z.first z.n z.mask c.requires.halves.1, ([], takes-none _ _ _ _, left-start (row_table c.args.rows.now) z.first z.n z.mask z.tails))

pub bounds-bounds-j : goal.bounds-bounds-j
bounds-bounds-j g c = let p = c.requires.halves.2 in omega (arith, p.few, p.long)

pub half_at-s-requires : goal.half_at-s-requires
half_at-s-requires g c =
    let z = c.args.z in
    let l = c.loop-j in
    let D = c.requires.halves.1 in
    let e = bound-next (row_table c.args.rows.now) z.first z.n c.args.bounds.now c.requires.halves.2 l.j l.at _ (omega arith) l.invariant.0.place c.wide-e.ensures in
    (c.requires.halves.0, e, going-in D l.invariant.0 (omega arith), going-cons D l.invariant.0 (omega arith))

pub take-requires-clause-open : goal.take-requires-clause-open
take-requires-clause-open g c =
    let (y, t, q) = c.loop-j.invariant.1 in
    let (x, h) = c.requires.open in
    (x ++ y, (t.taken refl x h).0)

pub take-requires-clause-span : goal.take-requires-clause-span
take-requires-clause-span g c = let h = c.half_at-s.ensures in (h.low_end, h.high_end)

pub returns-then-not-take : goal.returns-then-not-take
returns-then-not-take g c =
    let z = c.args.z in
    let T = row_table c.args.rows.now in
    let l = c.loop-j in
    let D = c.requires.halves.1 in
    let h = c.half_at-s.ensures in
    let s = c.half_at-s.result in
    let (y, t, q) = l.invariant.1 in
    let e = bound-next T z.first z.n c.args.bounds.now c.requires.halves.2 l.j l.at _ (omega arith) l.invariant.0.place c.wide-e.ensures in
    let k = c.take.ensures in
    let u = takes-next _ _ _ _ _ _ y (standing T s.from s.to) t c.requires.open _ _ refl (span-takes _ _ _ _ _ _ T s.from s.to h.low_end h.high_end k.taken k.room k.same_loan) in
    subst (λ (x : List (List ℕ)). Takes g.S.Sink.holds g.S.Sink.room g.S.Sink.loan c.args.sink.now c.take.new.self false x)
    (append_assoc y (standing T s.from s.to) _ ∙ ap (λ (x : List (List ℕ)). y ++ x) (sym (left-next D l.invariant.0 (omega arith) h _ e)) ∙ q)
    (takes-fail _ _ _ _ _ _ (y ++ standing T s.from s.to) _ u c.requires.open false c.if-not-take.true refl)

pub loop-j-preserved : goal.loop-j-preserved
loop-j-preserved g c =
    let z = c.args.z in
    let T = row_table c.args.rows.now in
    let l = c.loop-j in
    let D = c.requires.halves.1 in
    let h = c.half_at-s.ensures in
    let s = c.half_at-s.result in
    let (y, t, q) = l.invariant.1 in
    let e = bound-next T z.first z.n c.args.bounds.now c.requires.halves.2 l.j l.at _ (omega arith) l.invariant.0.place c.wide-e.ensures in
    let k = c.take.ensures in
    let u = takes-next _ _ _ _ _ _ y (standing T s.from s.to) t c.requires.open _ _ refl (span-takes _ _ _ _ _ _ T s.from s.to h.low_end h.high_end k.taken k.room k.same_loan) in
    let w = subst (λ (b : Bool). Takes g.S.Sink.holds g.S.Sink.room g.S.Sink.loan c.args.sink.now c.take.new.self b (y ++ standing T s.from s.to)) c.if-not-take.false u in
    (going_next D l.invariant.0 (omega arith) _ e, (y ++ standing T s.from s.to, w, append_assoc y (standing T s.from s.to) _ ∙ ap (λ (x : List (List ℕ)). y ++ x) (sym (left-next D l.invariant.0 (omega arith) h _ e)) ∙ q))

pub returns : goal.returns
returns g c =
    let l = c.loop-j in
    let (y, t, q) = l.invariant.1 in
    let n = left_end (row_table c.args.rows.now) l.h l.at c.args.z.n l.j c.args.z.tails (omega arith) in
    subst (λ (x : List (List ℕ)). Takes g.S.Sink.holds g.S.Sink.room g.S.Sink.loan c.args.sink.now l.sink true x) (sym (append-nil y) ∙ ap (λ (x : List (List ℕ)). y ++ x) (sym n) ∙ q) t
