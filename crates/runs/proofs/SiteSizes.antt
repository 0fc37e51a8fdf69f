-- How many rows the whole has when another tree stands where the search has stopped. Assumes nothing.
use Prim.Native.Nat.{ℕ, zero, suc, ◌+◌, ◌<◌}
use mathlib.Core.Path.{◌≡◌, refl, ap, sym}
use mathlib.Core.Bool.{Bool}
use mathlib.Core.List.{List, [], ◌∷◌, ◌++◌}
use native.Mathlib.Omega.{arith}
use lib.ListN.{length, drop}
use Rattle.meaning.specs.Types.{Form}
use Rattle.meaning.specs.Terms.{arity, Tree, node, size, sizes, kids, top}
use Rattle.search.specs.Frames.{Frame, below, close, around, Open, Passed}
use Rattle.search.proofs.Frames.{close-left}
use Rattle.runs.specs.Sites.{Site, at_row, at-end}

-- one tree for another among a row's
kids-swapped : (n : ℕ) (B : List Tree) (x y : Tree) (r : List Tree) → length B < n → sizes (kids n (B ++ (x ∷ r))) + size y ≡ sizes (kids n (B ++ (y ∷ r))) + size x
unfolding kids size
kids-swapped zero B x y r l = absurd (omega arith)
kids-swapped (suc n) [] x y r l = omega arith
kids-swapped (suc n) (b ∷ B) x y r l = omega (arith, kids-swapped n B x y r (omega arith))

behind-swapped : (n : ℕ) (B : List Tree) (x y : Tree) (r : List Tree) → length B < n → drop n (B ++ (x ∷ r)) ≡ drop n (B ++ (y ∷ r))
behind-swapped zero B x y r l = absurd (omega arith)
behind-swapped (suc n) [] x y r l = refl
behind-swapped (suc n) (b ∷ B) x y r l = behind-swapped n B x y r (omega arith)

module _ (form : ℕ → Form) (k : ℕ) where
  around-swapped : (Fs : List Frame) (x y : Tree) (rest : List Tree) → Open Fs (x ∷ rest) → Passed form k Fs (x ∷ rest) → size (top (around Fs (x ∷ rest))) + size y ≡ size (top (around Fs (y ∷ rest))) + size x
  unfolding around top Open Passed close below size
  around-swapped [] x y rest o p = omega arith
  around-swapped (F ∷ Fs) x y rest o (_, op, pp) =
      let n = arity F.head in
      let nx = node F.head F.type (kids n (F.before ++ (x ∷ rest))) in
      let ny = node F.head F.type (kids n (F.before ++ (y ∷ rest))) in
      let rx = drop n (F.before ++ (x ∷ rest)) in
      let ry = drop n (F.before ++ (y ∷ rest)) in
      let e : ry ≡ rx = sym (behind-swapped n F.before x y rest o.inside) in
      let ih = around-swapped Fs nx ny rx op pp in
      let q : size (top (around Fs (ny ∷ ry))) ≡ size (top (around Fs (ny ∷ rx))) = ap (λ (r : List Tree). size (top (around Fs (ny ∷ r)))) e in
      omega (arith, ih, q, kids-swapped n F.before x y rest o.inside)

  pub site-size : (b : Bool) (Fs : List Frame) (ts : List Tree) (old u : Tree) (outer : List Frame) (rest : List Tree) → Site b Fs ts old outer rest → Passed form k Fs ts
      → size (top (around outer (u ∷ rest))) + size old ≡ size (top (around Fs ts)) + size u
  unfolding around Passed
  site-size b Fs ts old u outer rest (at_row o w) p = omega (arith, around-swapped Fs old u rest o p)
  site-size b Gs ts old u outer rest (at-end {F = F} {Fs = Fs} e) (_, op, pp) =
      let c = close-left form k F ts e in
      let s = around-swapped outer old u rest (rw c at op) (rw c at pp) in
      let q : size (top (around outer (close F ts))) ≡ size (top (around outer (old ∷ rest))) = ap (λ (l : List Tree). size (top (around outer l))) c in
      omega (arith, s, q)
