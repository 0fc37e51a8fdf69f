-- `open::OpenList::store` meets its contract: one entry more with each turn, then zeros. Assumes nothing.
use Prim.Native.Nat.{◌*◌}
use mathlib.Core.Path.{◌≡◌}
use lib.ListN.{length, take}
use Rattle.open.proofs.Stored.{entry_bytes}
use Rattle.open.proofs.entries.OpenList.store.Given as goal

abbrev pub invariant-loop-i : goal.invariant-loop-i
invariant-loop-i l = (length l.calls ≡ length l.initial.calls) × (take (8 * l.i) l.calls ≡ entry_bytes (take l.i l.self.entries))
