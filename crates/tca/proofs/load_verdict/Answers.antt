-- `tca::load_verdict` meets its contract: what the tests leave to `program_verdict`. Assumes nothing.
use mathlib.Core.Path.{sym, ◌∙◌}
use native.Mathlib.Omega.{arith}
use borrow.Author.Tests.{eqb-true}
use Rattle.layout.specs.Rows.{board}
use Rattle.tca.proofs.VerdictLaws.{counts-within}
use Rattle.tca.proofs.load_verdict.Goals as goal

pub program_verdict-requires : goal.program_verdict-requires
program_verdict-requires c =
    let b = counts-within (board c.args.m) c.args.file.now (sym c.counts_ok.ensures ∙ c.in_ok-require-5.ensures.held) in
    let z = eqb-true _ _ c.in_ok-require-6.ensures.held in
    (omega (arith, z, c.type_count-types.ensures, c.row_count.ensures), c.type_count-types.ensures, c.version-edition.ensures, omega (arith, c.type_count-types.ensures), omega arith)
