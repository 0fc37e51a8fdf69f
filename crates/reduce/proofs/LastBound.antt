-- The last of some trees ends where the rows end. Assumes nothing.
use Prim.Native.Nat.{ℕ, ◌+◌, ◌-◌, ◌<◌, ◌≤◌}
use mathlib.Core.Path.{◌≡◌, ap, ◌∙◌}
use mathlib.Core.List.{List}
use native.Mathlib.Omega.{arith}
use native.Mathlib.Decide.{ℕ_discrete}
use lib.ListN.{length, get_or, set, drop}
use lib.Seq.{get_or-set_same, get_or-set_other}
use Rattle.meaning.specs.Terms.{Row, sizes, kids, trees, grove}
use Rattle.meaning.proofs.Trees.Parse.{sizes-split}

-- without the last tree there are no more rows
pub one_less : (l : List Row) (p n : ℕ) → (n ≡ 0 → ⊥) → sizes (grove l p (n - 1)) ≤ sizes (grove l p n)
unfolding grove
one_less l p n z =
    let ts = trees (drop p l) in
    let e : sizes (kids n ts) ≡ sizes (kids (1 + (n - 1)) ts) = ap (λ (x : ℕ). sizes (kids x ts)) (omega arith) in
    omega (arith, e, sizes-split (n - 1) 1 ts)

-- one place more is known
pub place_set : (b : List ℕ) (n x : ℕ) (f : ℕ → ℕ) → (n ≡ 0 → ⊥) → n < length b → x ≡ f n → ((j : ℕ) → j ≤ n - 1 → get_or b j 0 ≡ f j) → (j : ℕ) → j ≤ n → get_or (set b n x) j 0 ≡ f j
place_set b n x f z h e g j q =
    elim (ℕ_discrete j n) [
      | yes k ↦ rw k (get_or-set_same b n x 0 h ∙ e)
      | no k ↦ get_or-set_other b n j x 0 k ∙ g j (omega arith)
    ]
