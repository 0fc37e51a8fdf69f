-- A part of the type.
use mathlib.Core.Path.{ap, sym, ◌∙◌}
use native.Mathlib.Omega.{arith}
use mathlib.Core.List.{List}
use lib.ListN.{length, get_or}
use Rattle.meaning.specs.Types.{Param, names}
use Rattle.put.proofs.Once.{params-parts}
use Rattle.put.proofs.param_name.Goals as goal

pub name_of-requires : goal.name_of-requires
name_of-requires c = let a = c.args in omega (arith, ap (λ (ps : List Param). length ps) (params-parts a.types.now a.t (omega (arith, c.requires))), c.requires)

pub returns : goal.returns
returns c = let a = c.args in c.name_of.ensures ∙ ap (λ (ps : List Param). get_or (names ps) a.k 0) (sym (params-parts a.types.now a.t (omega (arith, c.requires))))
