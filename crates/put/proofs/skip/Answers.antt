-- Near rows, and far ones behind them.
use Rattle.put.proofs.Skipping.{skips-on, skips-owing}
use Rattle.put.proofs.skip.Goals as goal

pub far_skip-requires : goal.far_skip-requires
far_skip-requires c = (skips-owing c.requires.0 c.skip_until-next.ensures, c.requires.1, c.requires.2)

pub returns : goal.returns
returns c = skips-on c.skip_until-next.ensures c.far_skip.ensures
