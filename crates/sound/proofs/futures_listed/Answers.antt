-- The test of each row is the meaning's.
use Rattle.std.proofs.Common.{rules, ap, ◌∙◌}
use Rattle.meaning.specs.Records.{nothing, future_listed}
use Rattle.sound.specs.Ready.{call_table}
use Rattle.sound.proofs.Parts.{none-nothing}
use Rattle.sound.proofs.futures_listed.Goals as goal

pub returns : goal.returns
returns c = none-nothing _ _ c.is_none.ensures ∙ ap nothing (c.first_failing.ensures (future_listed (call_table c.args.calls.now)) (λ r b fits says. search rules))
