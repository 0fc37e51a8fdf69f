-- By the row behind.
use mathlib.Core.Path.{ap, sym, ◌∙◌}
use native.Mathlib.Omega.{arith}
use Rattle.search.specs.Kinds.{waits_by}
use Rattle.search.proofs.Sights.{next-some, next-none}
use Rattle.search.proofs.waits_at.Goals as goal

pub returns-then-r-right : goal.returns-then-r-right
returns-then-r-right c = c.waits.ensures ∙ ap (waits_by _) (sym (next-some c.args.right.now c.args.r (omega arith)))

pub returns : goal.returns
returns c = c.waits-2.ensures ∙ ap (waits_by _) (sym (next-none c.args.right.now c.args.r (omega arith)))
