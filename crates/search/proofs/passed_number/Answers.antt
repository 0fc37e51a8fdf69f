-- A tree to come counts two.
use mathlib.Core.Path.{refl}
use native.Mathlib.Omega.{arith}
use Rattle.search.specs.Kept.{owed_in, passed_number}
use Rattle.search.proofs.passed_number.Goals as goal

pub overflow_sub-result : goal.overflow_sub-result
unfolding owed_in
overflow_sub-result c = omega (arith, c.requires)

pub returns-then-fine : goal.returns-then-fine
unfolding passed_number
returns-then-fine c = rw c.if-fine.true refl

pub overflow_sub-result-2 : goal.overflow_sub-result-2
unfolding owed_in
overflow_sub-result-2 c = omega (arith, c.requires)

pub overflow_sub-result-3 : goal.overflow_sub-result-3
unfolding owed_in
overflow_sub-result-3 c = omega (arith, c.requires)

pub returns : goal.returns
unfolding passed_number
returns c = rw c.if-fine.false refl
