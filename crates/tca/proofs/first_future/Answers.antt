-- A row is no future where its kind is not 9.
use Rattle.std.proofs.Common.{rules}
use Rattle.meaning.specs.Entries.{no_future}
use Rattle.tca.proofs.first_future.Goals as goal

pub returns : goal.returns
unfolding no_future
returns c = c.first_failing.ensures no_future (λ r b fits says. search rules)
