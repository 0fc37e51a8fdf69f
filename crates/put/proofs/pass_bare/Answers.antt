-- The rows taken, those that stand before the next row, and those left are all.
use Prim.Native.Nat.{ℕ, ◌+◌, ◌-◌, ◌<◌}
use mathlib.Core.Path.{◌≡◌, refl, ap}
use mathlib.Core.List.{map}
use native.Mathlib.Omega.{arith}
use Rattle.layout.specs.Rows.{numbers, row_table}
use Rattle.layout.proofs.Tables.{row-table-length}
use Rattle.meaning.specs.Terms.{arity, row_of, tree_at}
use Rattle.terms.proofs.Scan.{size-some}
use Rattle.put.proofs.Rows.{row_read, row-in}
use Rattle.put.proofs.Once.{onward-start, onward-behind, onward-end, onward-in, onward-stands, onward-span, onward-puts, tree-in, onward-tree, turn-stands, turn-whole, turn-puts}
use Rattle.put.proofs.Skipping.{skips-up, onward-skips, chosen-leaf}
use Rattle.put.proofs.pass_bare.Goals as goal

pub loop-at-init : goal.loop-at-init
loop-at-init g c = onward-start c.requires.ready _ _ c.requires.empty

pub row_at-r-requires : goal.row_at-r-requires
row_at-r-requires g c =
    let p = c.requires.ready in
    let o = onward-skips p c.skip-at.ensures c.loop-at.invariant in
    row-in c.args.rows.now c.skip-at.result.i (onward-in p o (omega arith)).0

pub overflow_add-at : goal.overflow_add-at
overflow_add-at g c =
    let p = c.requires.ready in
    let o = onward-skips p c.skip-at.ensures c.loop-at.invariant in
    omega (arith, (onward-in p o (omega arith)).0, p.few)

pub overflow_add-at-in-Stands : goal.overflow_add-at-in-Stands
overflow_add-at-in-Stands g c =
    let p = c.requires.ready in
    let o = onward-skips p c.skip-at.ensures c.loop-at.invariant in
    omega (arith, (onward-in p o (omega arith)).1, c.children.ensures.1)

pub loop-at-smaller-in-Stands : goal.loop-at-smaller-in-Stands
loop-at-smaller-in-Stands g c =
    let p = c.requires.ready in
    let o = onward-skips p c.skip-at.ensures c.loop-at.invariant in
    omega (arith, (onward-in p o (omega arith)).0, skips-up c.skip-at.ensures)

pub loop-at-preserved-in-Stands : goal.loop-at-preserved-in-Stands
loop-at-preserved-in-Stands g c =
    let p = c.requires.ready in
    let at = c.skip-at.result in
    let o = onward-skips p c.skip-at.ensures c.loop-at.invariant in
    let r = c.row_at-r.result in
    let h : 0 < at.owed = omega arith in
    let e = row_read c.args.rows.now at.i (numbers r) (onward-in p o h).0 c.row_at-r.ensures in
    let t = turn-stands _ _ _ (row_of (numbers r)) _ c.turn.ensures.turn c.in-Stands.is in
    onward-stands p o h e t.0 (ap (λ (x : ℕ). at.owed - 1 + x) c.children.ensures.0) t.1

pub end_of-requires : goal.end_of-requires
end_of-requires g c =
    let p = c.requires.ready in
    let at = c.skip-at.result in
    let o = onward-skips p c.skip-at.ensures c.loop-at.invariant in
    let r = c.row_at-r.result in
    let h : 0 < at.owed = omega arith in
    let e = row_read c.args.rows.now at.i (numbers r) (onward-in p o h).0 c.row_at-r.ensures in
    let t = turn-whole _ _ _ (row_of (numbers r)) _ c.turn.ensures.turn c.in-Whole.is in
    let x = c.requires.exact (c.turn.ensures.whole c.in-Whole.is) in
    (omega (arith, p.few, row-table-length c.args.rows.now), omega (arith, row-table-length c.args.rows.now, tree-in p o h e x t.0 t.1))

pub loop-at-smaller-in-Whole : goal.loop-at-smaller-in-Whole
loop-at-smaller-in-Whole g c =
    let p = c.requires.ready in
    let o = onward-skips p c.skip-at.ensures c.loop-at.invariant in
    omega (arith, (onward-in p o (omega arith)).0, c.end_of.ensures, size-some (tree_at (map row_of (row_table c.args.rows.now)) c.skip-at.result.i), skips-up c.skip-at.ensures)

pub loop-at-preserved-in-Whole : goal.loop-at-preserved-in-Whole
loop-at-preserved-in-Whole g c =
    let p = c.requires.ready in
    let at = c.skip-at.result in
    let o = onward-skips p c.skip-at.ensures c.loop-at.invariant in
    let r = c.row_at-r.result in
    let h : 0 < at.owed = omega arith in
    let e = row_read c.args.rows.now at.i (numbers r) (onward-in p o h).0 c.row_at-r.ensures in
    let t = turn-whole _ _ _ (row_of (numbers r)) _ c.turn.ensures.turn c.in-Whole.is in
    onward-tree p o h e (c.requires.exact (c.turn.ensures.whole c.in-Whole.is)) t.0 t.1 c.end_of.ensures

pub take-requires-clause-span : goal.take-requires-clause-span
take-requires-clause-span g c =
    let p = c.requires.ready in
    let o = onward-skips p c.skip-at.ensures c.loop-at.invariant in
    (o.behind, omega (arith, (onward-in p o (omega arith)).0))

pub take-requires-in-Puts-clause-span : goal.take-requires-in-Puts-clause-span
take-requires-in-Puts-clause-span g c =
    let p = c.requires.ready in
    let at = c.skip-at.result in
    let o = onward-skips p c.skip-at.ensures c.loop-at.invariant in
    let r = c.row_at-r.result in
    let h : 0 < at.owed = omega arith in
    let e = row_read c.args.rows.now at.i (numbers r) (onward-in p o h).0 c.row_at-r.ensures in
    let t = turn-puts _ _ _ (row_of (numbers r)) _ c.turn.ensures.turn _ c.in-Puts.is in
    let (j, ch, ef, et) = t.1 in
    onward-span p o h e t.0 refl j ch ef et

pub overflow_add-from : goal.overflow_add-from
overflow_add-from g c =
    let p = c.requires.ready in
    let o = onward-skips p c.skip-at.ensures c.loop-at.invariant in
    omega (arith, (onward-in p o (omega arith)).0, p.few)

pub loop-at-smaller : goal.loop-at-smaller
loop-at-smaller g c =
    let p = c.requires.ready in
    let o = onward-skips p c.skip-at.ensures c.loop-at.invariant in
    omega (arith, (onward-in p o (omega arith)).0, skips-up c.skip-at.ensures)

pub loop-at-preserved : goal.loop-at-preserved
loop-at-preserved g c =
    let p = c.requires.ready in
    let at = c.skip-at.result in
    let o = onward-skips p c.skip-at.ensures c.loop-at.invariant in
    let r = c.row_at-r.result in
    let h : 0 < at.owed = omega arith in
    let e = row_read c.args.rows.now at.i (numbers r) (onward-in p o h).0 c.row_at-r.ensures in
    let t = turn-puts _ _ _ (row_of (numbers r)) _ c.turn.ensures.turn _ c.in-Puts.is in
    let (j, ch, ef, et) = t.1 in
    let d : at.owed - 1 ≡ at.owed - 1 + arity (row_of (numbers r)).head = omega (arith, chosen-leaf _ (row_of (numbers r)).head 0 j ch) in
    let k = c.take.ensures.taken c.if-not-take.false o.taken o.held in
    onward-puts p o h e t.0 d j ch ef et _ _ (k, c.take.ensures.same_loan) (c.take-in-Puts.ensures.taken c.if-not-take-2.false _ k.0, c.take-in-Puts.ensures.same_loan)

pub take-requires-2-clause-span : goal.take-requires-2-clause-span
take-requires-2-clause-span g c =
    let p = c.requires.ready in
    let o = onward-skips p c.skip-at.ensures c.loop-at.invariant in
    (o.behind, (onward-behind p o (omega arith)).1)

pub returns : goal.returns
returns g c =
    let p = c.requires.ready in
    let o = onward-skips p c.skip-at.ensures c.loop-at.invariant in
    onward-end p o (omega arith) _ (c.take-2.ensures.taken c.if-not-take-3.false o.taken o.held, c.take-2.ensures.same_loan)
