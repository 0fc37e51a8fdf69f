-- As it fits.
use native.Mathlib.Omega.{arith}
use Rattle.terms.proofs.Scan.{size-some}
use Rattle.search.specs.Kept.{tree_here}
use Rattle.search.proofs.pass_by.Goals as goal

pub fits_here-fine-requires : goal.fits_here-fine-requires
fits_here-fine-requires c =
    let pre = c.requires in
    (omega (arith, pre.0.left-long), omega (arith, pre.0.rows), omega (arith, size-some (tree_here c.args.right.now c.args.s.r), pre.1), pre.2, omega (arith, pre.3, pre.0.deep), pre.5)
