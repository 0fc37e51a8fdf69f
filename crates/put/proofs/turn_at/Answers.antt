-- A function that binds all the names hides them below it.
use mathlib.Core.Path.{◌≡◌}
use native.Mathlib.Omega.{arith}
use Rattle.meaning.specs.Types.{form_of}
use Rattle.meaning.specs.Terms.{row_of}
use Rattle.put.specs.Put.{Turns}
use Rattle.put.proofs.Turning.{chosen_none}
use Rattle.put.proofs.Once.{all-shut}
use Rattle.put.proofs.turn_at.Goals as goal

pub returns-then-binds_all : goal.returns-then-binds_all
unfolding row_of Turns
returns-then-binds_all c =
    (
    let a = c.args in
    let k : a.r.kind ≡ 6 = rw c.if-is.true at c.is.ensures.meaning in
    (chosen_none a.names.now a.r.kind a.r.n a.r.word 0 (λ q. omega (arith, q, k)), all-shut (form_of a.types.now) a.names.now a.r.kind a.r.n a.r.word a.r.ty k (c.binds_all.ensures c.if-binds_all.true)))
