-- They go behind the rows that stand before them.
use Prim.Native.Nat.{ℕ}
use mathlib.Core.Path.{refl, ap, sym, ◌∙◌}
use mathlib.Core.List.{List}
use native.Mathlib.Omega.{arith}
use lib.ListN.{take}
use lib.Seq.{length-take-le}
use Rattle.layout.specs.Rows.{row_table}
use Rattle.reduce.specs.Halves.{half_of}
use Rattle.reduce.proofs.Taking.{behind-front}
use Rattle.reduce.proofs.zips.write_half.Goals as goal

pub returns : goal.returns
returns c =
    let z = c.args.z in
    let T = row_table c.args.rows.now in
    let D = row_table c.args.to.now in
    let X : List (List ℕ) = half_of T z.first z.n z.mask z.tails in
    let t = c.take_half.ensures in
    let s = length-take-le c.args.start D (omega (arith, c.requires.3)) in
    let h = (t.taken (t.fits (omega (arith, c.requires.3))) (take c.args.start D) (sym s, omega (arith, c.requires.3), refl)).0 in
    behind-front D X c.args.start _ _ refl s h.0 (ap (λ (y : List ℕ). take c.take_half.new.sink.rows (row_table y)) (c.to-1.given.1.1 (sym t.same_loan)) ∙ h.2)
