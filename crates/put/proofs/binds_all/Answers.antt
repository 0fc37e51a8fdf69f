-- The names so far are the function's.
use native.Mathlib.Omega.{arith}
use Rattle.meaning.specs.Types.{form_of, params}
use mathlib.Core.Path.{sym, ◌∙◌}
use Rattle.put.proofs.Once.{among-more}
use Rattle.put.proofs.binds_all.Goals as goal

pub loop-k-preserved : goal.loop-k-preserved
loop-k-preserved c =
    let a = c.args in
    let l = c.loop-k in
    among-more a.names.now (params (form_of a.types.now a.t)) l.k (omega (arith, c.param_count.ensures.0)) (sym c.param_name.ensures ∙ c.if-param_name-names.false) l.invariant
