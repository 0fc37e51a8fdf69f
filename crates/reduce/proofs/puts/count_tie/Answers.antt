-- One row and the body.
use mathlib.Core.Path.{sym, ◌∙◌}
use native.Mathlib.Omega.{arith}
use lib.ListN.{take}
use Rattle.layout.specs.Rows.{row_table}
use Rattle.layout.proofs.Tables.{row-table-length}
use Rattle.meaning.specs.Types.{form_of}
use Rattle.reduce.proofs.Quiet.{redex-front}
use Rattle.put.proofs.Short.{put-short}
use Rattle.reduce.proofs.Told.{count-tie}
use Rattle.reduce.proofs.puts.count_tie.Goals as goal

pub tie_puts-p-requires : goal.tie_puts-p-requires
tie_puts-p-requires c =
    let R = c.requires.0 in
    (redex-front c.args.rows.now R, c.requires.1, c.term_rows.ensures ∙ sym (row-table-length c.args.rows.now) ∙ sym R.one)

pub count_puts-requires : goal.count_puts-requires
count_puts-requires c = (c.tie_puts-p.ensures.few, c.tie_puts-p.ensures.ready)

pub overflow_add-result : goal.overflow_add-result
overflow_add-result c =
    let T = row_table c.args.rows.now in
    let R = c.requires.0 in
    let p = c.tie_puts-p.result in
    omega (arith, c.count_puts.ensures, put-short (form_of c.args.types.now) T p.body (take p.count p.names) p.bounds (omega (arith, R.few, row-table-length c.args.rows.now)))

pub returns : goal.returns
returns c =
    let T = row_table c.args.rows.now in
    let R = c.requires.0 in
    count-tie (form_of c.args.types.now) T _ _ c.tie_puts-p.ensures c.count_puts.ensures
