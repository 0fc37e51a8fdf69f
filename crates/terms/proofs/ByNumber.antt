-- A test by a row's kind number is the same test of the head that the number makes. Assumes nothing.
use Prim.Native.Nat.{ℕ, ◌≤◌}
use mathlib.Core.Path.{◌≡◌, refl, sym, ◌∙◌}
use native.Mathlib.Omega.{arith}
use native.Mathlib.Decide.{dec_lt}
use lib.Dec.{eqb}
use borrow.Author.Tests.{ne_eqb}
use Rattle.meaning.specs.Terms.{code, head_from}
use Rattle.terms.proofs.ByKind.{Below, below, head-other}

-- a byte that is no kind is none of those that are asked for
abbrev Told : ℕ → Type 0
Told k = (n w x : ℕ) → 2 ≤ x → eqb (code (head_from k n w)) x ≡ eqb k x

told_at : Below Told 20
unfolding head_from code
told_at = ((((((((((((((((((((tt, (λ n w x h. ne_eqb 1 x (λ q. omega arith) ∙ sym (ne_eqb 0 x (λ q. omega arith)))), (λ n w x h. refl)), (λ n w x h. refl)), (λ n w x h. refl)), (λ n w x h. refl)), (λ n w x h. refl)), (λ n w x h. refl)), (λ n w x h. refl)), (λ n w x h. refl)), (λ n w x h. refl)), (λ n w x h. refl)), (λ n w x h. refl)), (λ n w x h. refl)), (λ n w x h. refl)), (λ n w x h. refl)), (λ n w x h. refl)), (λ n w x h. refl)), (λ n w x h. refl)), (λ n w x h. refl)), (λ n w x h. refl))

pub kind-told : (k n w x : ℕ) → 2 ≤ x → x ≤ 19 → eqb (code (head_from k n w)) x ≡ eqb k x
unfolding code
kind-told k n w x h g =
    elim (dec_lt k 20) [
      | yes y ↦ below Told 20 told_at k y n w x h
      | no y ↦ rw (head-other k n w (omega arith)) (ne_eqb 1 x (λ q. omega arith) ∙ sym (ne_eqb k x (λ q. omega arith)))
    ]
