-- The rows are fewer than can be counted.
use native.Mathlib.Omega.{arith}
use Rattle.meaning.specs.Types.{form_of}
use Rattle.put.proofs.Short.{put-short}
use Rattle.put.proofs.Taking.{if-some}
use Rattle.put.proofs.count_masked.Goals as goal

pub returns : goal.returns
returns c =
    let p = c.pass_masked.ensures in
    let m = if-some _ (p.room (omega (arith, put-short (form_of c.args.types.now) _ c.args.body c.args.names.now c.args.bounds.now c.requires.few))) p.made in
    m.1.rows
