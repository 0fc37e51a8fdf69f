-- `sound::all_zero` meets its contract: the bytes are their parts. Assumes nothing.
use Prim.Native.Nat.{◌/◌}
use mathlib.Core.Path.{sym, ◌∙◌}
use native.Mathlib.Omega.{arith}
use lib.ListN.{length}
use Rattle.sound.proofs.Laws.{fails, passes, quarters-zero}
use Rattle.sound.proofs.all_zero.Goals as goal

pub returns-then-not-few_zero : goal.returns-then-not-few_zero
returns-then-not-few_zero c =
    let s = c.args.bytes.now in
    sym (quarters-zero s (length s / 4) (omega arith) ∙ fails _ _ (sym c.few_zero.ensures ∙ c.if-not-few_zero.true))

pub returns : goal.returns
returns c =
    let s = c.args.bytes.now in
    c.four_zero.ensures ∙ sym (quarters-zero s (length s / 4) (omega arith) ∙ passes _ _ (sym c.few_zero.ensures ∙ c.if-not-few_zero.false))
