-- By the place of the row's name.
use mathlib.Core.Path.{sym}
use native.Mathlib.Omega.{arith}
use Rattle.put.proofs.Passing.{chosen-below}
use Rattle.put.proofs.Turning.{span-at, span-own}
use Rattle.put.proofs.spot.Goals as goal

pub argument-requires : goal.argument-requires
argument-requires c = omega (arith, chosen-below c.args.names.now _ _ _ (sym c.in-Some.ensures), c.requires)

pub returns-in-Some : goal.returns-in-Some
returns-in-Some c = span-at c.args.bounds.now c.args.i _ _ _ _ (sym c.in-Some.ensures) c.argument.ensures.0 c.argument.ensures.1

pub returns-in-None : goal.returns-in-None
returns-in-None c = span-own c.args.bounds.now c.args.i _ (sym c.in-None.ensures)
