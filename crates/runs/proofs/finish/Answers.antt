-- Put back, then cleared.
use Rattle.runs.proofs.PutBack.{all-clear}
use Rattle.runs.proofs.finish.Goals as goal

pub put_back-requires : goal.put_back-requires
put_back-requires c = c.requires

pub returns : goal.returns
returns c = (c.put_back.ensures, all-clear c.args.work.now _ c.clear.ensures)
