-- The meaning's "or" and "and" as choices. Assumes nothing.
use Rattle.std.specs.Prelude.{◌≡◌, Bool, true, false, cond, refl}
use Rattle.meaning.specs.Bytes.{◌∧ᵇ◌}
use Rattle.meaning.specs.Steps.{◌∨ᵇ◌}

pub or_is : (a b : Bool) → (a ∨ᵇ b) ≡ cond a true b
unfolding ◌∨ᵇ◌
or_is true b = refl
or_is false b = refl

pub and_is : (a b : Bool) → (a ∧ᵇ b) ≡ cond a b false
unfolding ◌∧ᵇ◌
and_is true b = refl
and_is false b = refl

pub ruleset ors = (or_is, and_is)
