-- By the place of the row's name.
use mathlib.Core.Path.{sym}
use native.Mathlib.Omega.{arith}
use Rattle.layout.specs.Rows.{numbers}
use Rattle.meaning.specs.Types.{form_of}
use Rattle.meaning.specs.Terms.{row_of}
use Rattle.put.specs.Put.{Turns}
use Rattle.put.proofs.Passing.{chosen-below}
use Rattle.put.proofs.Skipping.{chosen-bare}
use Rattle.put.proofs.turn_in.Goals as goal

pub argument-requires : goal.argument-requires
argument-requires c = omega (arith, chosen-below c.args.names.now _ _ _ (sym c.in-Some.ensures), c.requires)

pub returns-in-Some-clause-turn : goal.returns-in-Some-clause-turn
unfolding Turns
returns-in-Some-clause-turn c =
    (chosen-bare (form_of c.args.types.now) c.args.names.now (row_of (numbers c.args.r)).head _ _ _ (sym c.in-Some.ensures), (_, sym c.in-Some.ensures, c.argument.ensures.0, c.argument.ensures.1))

pub returns-in-None-clause-turn : goal.returns-in-None-clause-turn
unfolding Turns
returns-in-None-clause-turn c = tt

pub returns-in-None-2-clause-turn : goal.returns-in-None-2-clause-turn
unfolding Turns
returns-in-None-2-clause-turn c = (c.hides_some.ensures c.if-hides_some.false, sym c.in-None-2.ensures)
