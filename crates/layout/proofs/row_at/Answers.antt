-- `layout::row_at` meets its contract: the fields at their places. Assumes nothing.
use Prim.Native.Nat.{◌*◌}
use mathlib.Core.Path.{refl}
use Rattle.layout.proofs.Laws.{row_made}
use Rattle.layout.proofs.row_at.Goals as goal

pub returns : goal.returns
returns c = row_made (8 * c.args.i) c.args.rows.now _ refl refl c.u16_at.ensures c.u32_at.ensures
