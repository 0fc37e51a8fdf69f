-- A bit of a mask by a shift, and where a mask of eight bits has none.
use Rattle.std.specs.Prelude.{ℕ, zero, suc, ◌≡◌, ◌*◌, ◌/◌, ◌%◌, ◌^◌, ◌<◌, ◌≤◌, false, refl}
use Rattle.std.proofs.Common.{ap, ◌∙◌, arith}
use Rattle.std.proofs.Math.Nat.{div-div-eq-div-mul}
use lib.Dec.{eqb}
use Rattle.meaning.specs.Types.{low, rest}
use Rattle.terms.specs.Masks.{bit}

pub bit-shifted : (m i : ℕ) → bit m i ≡ eqb (m / 2 ^ i % 2) 1
unfolding bit low rest
bit-shifted m zero = let e : m ≡ m / 1 = omega arith in ap (λ (x : ℕ). eqb (x % 2) 1) e
bit-shifted m (suc i) =
    let e : 2 * 2 ^ i ≡ 2 ^ suc i = omega arith in
    bit-shifted (m / 2) i ∙ ap (λ (x : ℕ). eqb (x % 2) 1) (div-div-eq-div-mul m 2 (2 ^ i) ∙ ap (λ (x : ℕ). m / x) e)

bit-zero : (i : ℕ) → bit 0 i ≡ false
unfolding bit low rest
bit-zero zero = refl
bit-zero (suc i) = bit-zero i

bit-above : (k m i : ℕ) → m < 2 ^ k → k ≤ i → bit m i ≡ false
unfolding bit rest
bit-above zero m i h g = let e : m ≡ 0 = omega arith in rw e (bit-zero i)
bit-above (suc k) m zero h g = absurd (omega arith)
bit-above (suc k) m (suc i) h g = bit-above k (m / 2) i (omega arith) (omega arith)

pub bit-beyond : (m i : ℕ) → m < 256 → 8 ≤ i → bit m i ≡ false
bit-beyond m i h g = bit-above 8 m i h g
