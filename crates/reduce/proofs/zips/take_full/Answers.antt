-- A row, and both sides behind it.
use Prim.Native.Nat.{ℕ}
use mathlib.Core.Path.{refl, subst}
use mathlib.Core.Bool.{false}
use mathlib.Core.List.{List}
use Rattle.layout.specs.Rows.{row_table}
use Rattle.meaning.specs.Types.{form_of}
use Rattle.reduce.specs.Taking.{Takes}
use Rattle.reduce.proofs.Taking.{open-next, takes-next, takes-fail}
use Rattle.reduce.proofs.Zipping.{zips-halves, zips-sides}
use Rattle.reduce.proofs.zips.take_full.Goals as goal

pub returns-then-not-add : goal.returns-then-not-add
returns-then-not-add g c =
    let call = c.row_of-call.ensures in
    let same = zips-sides (row_table c.args.rows.now) c.args.first c.requires.zips.1 (form_of c.args.types.now) _ _ _ call.ty call.n c.elem_of.ensures _ _ _ c.made-front.ensures c.made-heads.ensures c.made-tails.ensures in
    subst (λ (x : List (List ℕ)). Takes g.S.Sink.holds g.S.Sink.room g.S.Sink.loan c.args.sink.now c.add.new.sink false x) same (takes-fail _ _ _ _ _ _ _ _ c.add.ensures c.requires.open false c.if-not-add.true refl)

pub take_side-requires-clause-halves : goal.take_side-requires-clause-halves
take_side-requires-clause-halves g c = rw c.half_from.ensures (c.requires.zips.0, zips-halves _ _ c.requires.zips.1 _ c.requires.zips.2, c.requires.zips.2)

pub take_side-requires-clause-open : goal.take_side-requires-clause-open
take_side-requires-clause-open g c = open-next _ _ _ _ _ _ _ c.add.ensures c.if-not-add.false c.requires.open

pub returns-then-not-take_side : goal.returns-then-not-take_side
returns-then-not-take_side g c =
    let call = c.row_of-call.ensures in
    let same = zips-sides (row_table c.args.rows.now) c.args.first c.requires.zips.1 (form_of c.args.types.now) _ _ _ call.ty call.n c.elem_of.ensures _ _ _ c.made-front.ensures c.made-heads.ensures c.made-tails.ensures in
    let heads = rw c.half_from.ensures at c.take_side.ensures in
    let t = takes-next _ _ _ _ _ _ _ _ c.add.ensures c.requires.open _ _ c.if-not-add.false heads in
    subst (λ (x : List (List ℕ)). Takes g.S.Sink.holds g.S.Sink.room g.S.Sink.loan c.args.sink.now c.take_side.new.sink false x) same (takes-fail _ _ _ _ _ _ _ _ t c.requires.open false c.if-not-take_side.true refl)

pub take_side-requires-2-clause-halves : goal.take_side-requires-2-clause-halves
take_side-requires-2-clause-halves g c = rw c.half_from-2.ensures (c.requires.zips.0, zips-halves _ _ c.requires.zips.1 _ c.requires.zips.2, c.requires.zips.2)

pub take_side-requires-2-clause-open : goal.take_side-requires-2-clause-open
take_side-requires-2-clause-open g c = open-next _ _ _ _ _ _ _ (takes-next _ _ _ _ _ _ _ _ c.add.ensures c.requires.open _ _ c.if-not-add.false c.take_side.ensures) c.if-not-take_side.false c.requires.open

pub returns : goal.returns
returns g c =
    let call = c.row_of-call.ensures in
    let same = zips-sides (row_table c.args.rows.now) c.args.first c.requires.zips.1 (form_of c.args.types.now) _ _ _ call.ty call.n c.elem_of.ensures _ _ _ c.made-front.ensures c.made-heads.ensures c.made-tails.ensures in
    let heads = rw c.half_from.ensures at c.take_side.ensures in
    let tails = rw c.half_from-2.ensures at c.take_side-2.ensures in
    let t = takes-next _ _ _ _ _ _ _ _ c.add.ensures c.requires.open _ _ c.if-not-add.false heads in
    subst (λ (x : List (List ℕ)). Takes g.S.Sink.holds g.S.Sink.room g.S.Sink.loan c.args.sink.now c.take_side-2.new.sink c.take_side-2.result x) same (takes-next _ _ _ _ _ _ _ _ t c.requires.open _ _ c.if-not-take_side.false tails)
