-- Field by field, eight bytes.
use native.Mathlib.Omega.{arith}
use Rattle.put.proofs.Rows.{row_written}
use Rattle.put.proofs.write_row.Goals as goal

pub returns : goal.returns
returns c = row_written c.args.to.now _ _ c.args.i c.args.r.kind c.args.r.n c.args.r.ty c.args.r.word c.requires (omega arith) (omega arith) (omega arith) (omega arith) c.put16_at.ensures c.put32_at.ensures
