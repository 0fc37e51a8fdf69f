-- A row, the function's rows and the arguments, one behind the other.
use native.Mathlib.Omega.{arith}
use mathlib.Core.Path.{refl}
use mathlib.Core.Bool.{false}
use mathlib.Core.List.{[], ◌∷◌}
use Rattle.layout.specs.Rows.{numbers, row_table}
use Rattle.put.specs.Put.{standing}
use Rattle.reduce.proofs.Taking.{span-takes, open-next, takes-next, takes-fail}
use Rattle.reduce.proofs.zips.take_side.Goals as goal

pub returns-then-not-add : goal.returns-then-not-add
returns-then-not-add g c = takes-fail _ _ _ _ _ _ _ _ c.add.ensures c.requires.open false c.if-not-add.true refl

pub take-requires-clause-open : goal.take-requires-clause-open
take-requires-clause-open g c = open-next _ _ _ _ _ _ _ c.add.ensures c.if-not-add.false c.requires.open

pub take-requires-clause-span : goal.take-requires-clause-span
take-requires-clause-span g c = (c.requires.function, omega (arith, c.requires.halves.1.inside))

pub returns-then-not-take : goal.returns-then-not-take
returns-then-not-take g c =
    let z = c.args.z in
    let T = row_table c.args.rows.now in
    let k = c.take.ensures in
    let t = span-takes _ _ _ _ _ _ T z.from z.first c.requires.function (omega (arith, c.requires.halves.1.inside)) k.taken k.room k.same_loan in
    let u = takes-next _ _ _ _ _ _ (numbers c.args.r ∷ []) (standing T z.from z.first) c.add.ensures c.requires.open _ _ c.if-not-add.false t in
    takes-fail _ _ _ _ _ _ _ _ u c.requires.open false c.if-not-take.true refl

pub take_half-requires-clause-open : goal.take_half-requires-clause-open
take_half-requires-clause-open g c =
    let z = c.args.z in
    let T = row_table c.args.rows.now in
    let k = c.take.ensures in
    let t = span-takes _ _ _ _ _ _ T z.from z.first c.requires.function (omega (arith, c.requires.halves.1.inside)) k.taken k.room k.same_loan in
    let u = takes-next _ _ _ _ _ _ (numbers c.args.r ∷ []) (standing T z.from z.first) c.add.ensures c.requires.open _ _ c.if-not-add.false t in
    open-next _ _ _ _ _ _ _ u c.if-not-take.false c.requires.open

pub returns : goal.returns
returns g c =
    let z = c.args.z in
    let T = row_table c.args.rows.now in
    let k = c.take.ensures in
    let t = span-takes _ _ _ _ _ _ T z.from z.first c.requires.function (omega (arith, c.requires.halves.1.inside)) k.taken k.room k.same_loan in
    let u = takes-next _ _ _ _ _ _ (numbers c.args.r ∷ []) (standing T z.from z.first) c.add.ensures c.requires.open _ _ c.if-not-add.false t in
    takes-next _ _ _ _ _ _ _ _ u c.requires.open _ _ c.if-not-take.false c.take_half.ensures
