-- `open::OpenList::store` meets its contract: one entry more with each turn, then zeros. Assumes nothing.
use mathlib.Core.Path.{refl}
use Rattle.meaning.specs.Bytes.{writes}
use Rattle.open.proofs.entries.OpenList.store.Goals as goal

pub loop-i-init : goal.loop-i-init
loop-i-init c = (refl, unfold writes in refl)
