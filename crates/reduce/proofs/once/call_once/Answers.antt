-- The pass over the body; the tree ends where the arguments end.
use Prim.Native.Nat.{ℕ}
use mathlib.Core.Path.{ap, sym, ◌∙◌}
use native.Mathlib.Omega.{arith}
use lib.ListN.{get_or}
use Rattle.layout.specs.Rows.{row_table}
use Rattle.layout.proofs.Tables.{row-table-length}
use Rattle.meaning.specs.Types.{form_of}
use Rattle.reduce.proofs.Roots.{some-row}
use Rattle.reduce.proofs.Given.{call-size}
use Rattle.reduce.proofs.AtOnce.{counted-once}
use Rattle.reduce.proofs.once.call_once.Goals as goal

pub row_of-n-requires : goal.row_of-n-requires
row_of-n-requires c = some-row (row_table c.args.rows.now) c.requires.0.inside

pub end_of-requires : goal.end_of-requires
end_of-requires c =
    let T = row_table c.args.rows.now in
    let R = c.requires.0 in
    (omega (arith, R.few, row-table-length c.args.rows.now), omega (arith, call-size T R.exact R.inside c.requires.1, row-table-length c.args.rows.now))

pub call_puts-p-requires : goal.call_puts-p-requires
call_puts-p-requires c = (c.requires.0, (c.requires.1, c.requires.2, c.end_of.ensures))

pub returns : goal.returns
returns c =
    let T = row_table c.args.rows.now in
    let F = form_of c.args.types.now in
    let p = c.call_puts-p.result in
    let d = c.call_puts-p.ensures in
    let e = c.if-p-n.false in
    counted-once F T _ _ d.0 _ _ _ e c.in_ok-body.ensures (c.wide-old.ensures ∙ ap (λ (k : ℕ). get_or p.bounds k 0) (sym e) ∙ d.1 (e ∙ sym c.row_of-n.ensures.n))
