-- By the form of the type.
use Rattle.std.proofs.Common.{arith}
use mathlib.Core.Path.{sym, ◌∙◌}
use Rattle.reduce.proofs.Bound.{elem-list, elem-none}
use Rattle.reduce.proofs.puts.elem_of.Goals as goal

pub returns-then-is : goal.returns-then-is
returns-then-is c = let a = c.args in c.result_of.ensures ∙ sym (elem-list a.types.now a.t (grind arith))

pub returns-else-is : goal.returns-else-is
returns-else-is c = let a = c.args in sym (elem-none a.types.now a.t (grind arith))
