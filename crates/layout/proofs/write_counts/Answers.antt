-- `layout::write_counts` meets its contract: three numbers one behind the other. Assumes nothing.
use native.Mathlib.Omega.{arith}
use Rattle.layout.proofs.Laws.{three-runs}
use Rattle.meaning.specs.Bytes.{spell}
use Rattle.meaning.proofs.Bytes.Layouts.{length-spell}
use Rattle.layout.proofs.write_counts.Goals as goal

pub returns : goal.returns
returns c = let a = c.args in three-runs 6 8 10 (spell 2 a.types) (spell 2 a.rows) (spell 2 a.calls) a.kept.now _ _ _ c.put16_at.ensures c.put16_at-2.ensures c.put16_at-3.ensures (omega (arith, length-spell 2 a.types)) (omega (arith, length-spell 2 a.rows))
