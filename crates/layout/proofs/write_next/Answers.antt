-- `layout::write_next` meets its contract: three numbers one behind the other. Assumes nothing.
use native.Mathlib.Omega.{arith}
use Rattle.layout.proofs.Laws.{three-runs}
use Rattle.meaning.specs.Bytes.{spell}
use Rattle.meaning.proofs.Bytes.Layouts.{length-spell}
use Rattle.layout.proofs.write_next.Goals as goal

pub returns : goal.returns
returns c = let a = c.args in three-runs 12 16 18 (spell 4 a.next) (spell 2 a.program) (spell 2 0) a.kept.now _ _ _ c.put32_at.ensures c.put16_at.ensures c.put16_at-2.ensures (omega (arith, length-spell 4 a.next)) (omega (arith, length-spell 2 a.program))
