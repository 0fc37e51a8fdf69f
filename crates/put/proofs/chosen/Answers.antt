-- By the row's kind.
use mathlib.Core.Path.{◌≡◌, sym, ◌∙◌}
use Rattle.meaning.specs.Terms.{row_of}
use Rattle.put.proofs.Turning.{chosen-var, chosen_none}
use Rattle.put.proofs.chosen.Goals as goal

pub returns-then-is : goal.returns-then-is
unfolding row_of
returns-then-is c =
    (
    let k : c.args.r.kind ≡ 5 = rw c.if-is.true at c.is.ensures.meaning in
    c.place_of.ensures ∙ sym (chosen-var _ _ c.args.r.n _ _ k))

pub returns-else-is : goal.returns-else-is
unfolding row_of
returns-else-is c =
    (
    let n : c.args.r.kind ≡ 5 → ⊥ = rw c.if-is.false at c.is.ensures.meaning in
    sym (chosen_none _ _ _ _ _ n))
