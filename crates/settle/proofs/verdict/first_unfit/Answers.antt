-- The kinds that a reply may have.
use Rattle.std.proofs.Common.{rules}
use Rattle.meaning.specs.Entries.{reply_kind}
use Rattle.settle.proofs.verdict.first_unfit.Goals as goal

pub returns : goal.returns
unfolding reply_kind
returns c = c.first_failing.ensures reply_kind (λ r b fits says. search rules)
