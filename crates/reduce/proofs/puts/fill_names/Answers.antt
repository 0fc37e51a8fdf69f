-- The loop's invariant: the first k are the names.
use mathlib.Core.Path.{◌∙◌}
use native.Mathlib.Omega.{arith}
use lib.ListN.{length-set}
use Rattle.meaning.specs.Types.{form_of, params, names as names_of}
use Rattle.reduce.proofs.Bound.{named_more}
use Rattle.reduce.proofs.Given.{names-length}
use Rattle.reduce.proofs.puts.fill_names.Goals as goal

pub loop-k-preserved : goal.loop-k-preserved
loop-k-preserved c =
    let l = c.loop-k in
    let ps = params (form_of c.args.types.now c.args.t) in
    (length-set l.names l.k _ ∙ l.invariant.0, named_more l.names (names_of ps) l.k _ (omega (arith, l.invariant.0, c.requires.0, c.requires.2)) (omega (arith, c.requires.1, names-length ps)) l.invariant.1 c.param_name.ensures)
