-- The pass over the body behind the bound term.
use mathlib.Core.Path.{sym, ◌∙◌}
use native.Mathlib.Omega.{arith}
use lib.Seq.{length-take-le}
use Rattle.layout.specs.Rows.{row_table}
use Rattle.layout.proofs.Tables.{row-table-length}
use Rattle.meaning.specs.Types.{form_of}
use Rattle.reduce.proofs.Given.{bound-in, let-whole}
use Rattle.reduce.proofs.AtOnce.{passed-once}
use Rattle.reduce.proofs.once.let_once.Goals as goal

pub end_of-requires : goal.end_of-requires
end_of-requires c =
    let T = row_table c.args.rows.now in
    let R = c.requires.0 in
    (omega (arith, R.few, row-table-length c.args.rows.now), omega (arith, bound-in T R.exact R.inside c.requires.1, row-table-length c.args.rows.now))

pub let_puts-p-requires : goal.let_puts-p-requires
let_puts-p-requires c = (c.requires.0, (c.requires.1, c.end_of.ensures))

pub slice_bounds-put_once-end : goal.slice_bounds-put_once-end
slice_bounds-put_once-end c = sym (length-take-le c.let_puts-p.result.count c.let_puts-p.result.names (c.let_puts-p.ensures.0 (form_of c.args.types.now)).few)

pub shared_ref_as_front-put_once : goal.shared_ref_as_front-put_once
shared_ref_as_front-put_once c =
    let d = c.let_puts-p.ensures.0 (form_of c.args.types.now) in
    omega (arith, d.ready.eight, length-take-le c.let_puts-p.result.count c.let_puts-p.result.names d.few)

pub put_once-requires : goal.put_once-requires
put_once-requires c = ((c.let_puts-p.ensures.0 (form_of c.args.types.now)).ready, c.requires.0.exact, c.requires.2)

pub returns : goal.returns
returns c =
    let T = row_table c.args.rows.now in
    let R = c.requires.0 in
    passed-once (form_of c.args.types.now) T _ _ (c.let_puts-p.ensures.0 (form_of c.args.types.now)) _ (let-whole T R.exact R.inside c.requires.1 _ (c.let_puts-p.ensures.1 ∙ c.end_of.ensures)) c.put_once.ensures
