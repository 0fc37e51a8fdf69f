-- A row of the table, and its numbers.
use mathlib.Core.Path.{ap}
use Rattle.meaning.specs.Terms.{kind_no, n_no, type_no}
use Rattle.put.proofs.Rows.{row-in, row_read}
use Rattle.reduce.proofs.places.row_of.Goals as goal

pub row_at-requires : goal.row_at-requires
row_at-requires c = row-in c.args.rows.now c.args.i c.requires

pub returns-clause-row : goal.returns-clause-row
returns-clause-row c = row_read c.args.rows.now c.args.i _ c.requires c.row_at.ensures

pub returns-clause-kind : goal.returns-clause-kind
returns-clause-kind c = ap kind_no (row_read c.args.rows.now c.args.i _ c.requires c.row_at.ensures)

pub returns-clause-n : goal.returns-clause-n
returns-clause-n c = ap n_no (row_read c.args.rows.now c.args.i _ c.requires c.row_at.ensures)

pub returns-clause-ty : goal.returns-clause-ty
returns-clause-ty c = ap type_no (row_read c.args.rows.now c.args.i _ c.requires c.row_at.ensures)
