-- The bits of a mask: of a zip's arguments, or of names. Assumes nothing.
use Rattle.std.specs.Prelude.{ℕ, zero, suc, Bool}
use Rattle.meaning.specs.Types.{low, rest}

-- "mask .., bit 0 = first argument"
unfoldable pub bit : ℕ → ℕ → Bool
bit m zero = low m
bit m (suc i) = bit (rest m) i
