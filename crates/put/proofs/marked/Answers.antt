-- The mask so far is that of the names from the k-th on.
use mathlib.Core.Path.{refl, sym, ◌∙◌}
use mathlib.Core.Bool.{true, false}
use native.Mathlib.Omega.{arith}
use lib.ListN.{length}
use Rattle.layout.specs.Rows.{numbers}
use Rattle.meaning.specs.Terms.{row_of}
use Rattle.meaning.specs.Types.{form_of}
use Rattle.put.specs.Put.{binds}
use Rattle.put.proofs.Turning.{mark-start, mark-more, mark-end, mark-small}
use Rattle.put.proofs.marked.Goals as goal

pub loop-k-init : goal.loop-k-init
loop-k-init c = mark-start _ c.args.names.now c.args.m (length c.args.names.now) (omega arith)

pub overflow_mul-x : goal.overflow_mul-x
overflow_mul-x c = omega (arith, mark-small _ c.args.names.now c.args.m c.loop-k.k c.loop-k.x (omega arith) c.requires c.loop-k.invariant)

pub overflow_add-x : goal.overflow_add-x
overflow_add-x c = omega (arith, mark-small _ c.args.names.now c.args.m c.loop-k.k c.loop-k.x (omega arith) c.requires c.loop-k.invariant)

pub loop-k-preserved-then-hides : goal.loop-k-preserved-then-hides
loop-k-preserved-then-hides c =
    let l = c.loop-k in
    let r = row_of (numbers c.args.r) in
    let g = mark-more (binds (form_of c.args.types.now) r.head r.type) c.args.names.now c.args.m l.k l.x _ true (omega arith) l.auto.k refl (sym c.if-hides.true ∙ c.hides.ensures) l.invariant in
    omega arith ∙ g

pub loop-k-preserved : goal.loop-k-preserved
loop-k-preserved c =
    let l = c.loop-k in
    let r = row_of (numbers c.args.r) in
    let g = mark-more (binds (form_of c.args.types.now) r.head r.type) c.args.names.now c.args.m l.k l.x _ false (omega arith) l.auto.k refl (sym c.if-hides.false ∙ c.hides.ensures) l.invariant in
    omega arith ∙ g

pub returns : goal.returns
returns c = mark-end _ c.args.names.now c.args.m c.loop-k.k c.loop-k.x (omega arith) c.loop-k.invariant
