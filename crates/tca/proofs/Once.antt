-- What the exported load's contract says settles its numbers and every byte: two outcomes that satisfy it are equal. (Of `load` it is
-- the meaning's `Load-one`.) Assumes nothing.
use Prim.Native.Nat.{ℕ}
use mathlib.Core.Path.{◌≡◌}
use mathlib.Core.List.{List}
use Rattle.tca.specs.declared.Verdict.{Verdict}
use Rattle.tca.specs.Loads.{Tells}

pub tells-once : (file kept a b : List ℕ) (u v : Verdict) → Tells file kept a u → Tells file kept b v → (u.refusal ≡ v.refusal) × (u.place ≡ v.place) × (a ≡ b)
tells-once file kept a b u v p q = (cc, cc, cc)
