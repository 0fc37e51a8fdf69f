-- `tca::load` meets its contract: written where accepted, untouched where refused. Assumes nothing.
use mathlib.Core.Path.{refl, sym, ap, ◌∙◌}
use native.Mathlib.Omega.{arith}
use Rattle.meaning.specs.Bytes.{Limits}
use Rattle.meaning.proofs.Entries.Chain.{handed-on}
use Rattle.layout.specs.Rows.{board}
use Rattle.tca.proofs.VerdictLaws.{loads-fresh, loads-nothing}
use Rattle.tca.proofs.load.Goals as goal

pub load_verdict-requires : goal.load_verdict-requires
load_verdict-requires c = let e = c.arm_limits-m.ensures in (omega (arith, ap (λ (b : Limits). b.types) e), omega (arith, ap (λ (b : Limits). b.program_rows) e))

pub returns-in_err-load_verdict : goal.returns-in_err-load_verdict
returns-in_err-load_verdict c =
    let same = handed-on c.from_residual.ensures.1 c.in_err-load_verdict.was in
    loads-nothing (board c.arm_limits-m.result) c.args.file.now c.args.kept.now _ c.arm_limits-m.ensures (same ∙ c.load_verdict.ensures) _ (same ∙ c.in_err-load_verdict.was)

pub write_fresh-requires : goal.write_fresh-requires
write_fresh-requires c = let e = c.arm_limits-m.ensures in (sym c.load_verdict.ensures ∙ c.in_ok-load_verdict.was, omega (arith, ap (λ (b : Limits). b.rows) e, ap (λ (b : Limits). b.program_rows) e))

pub returns : goal.returns
returns c = loads-fresh (board c.arm_limits-m.result) c.args.file.now c.args.kept.now _ c.arm_limits-m.ensures (sym c.in_ok-load_verdict.was ∙ c.load_verdict.ensures) _ refl c.write_fresh.ensures
