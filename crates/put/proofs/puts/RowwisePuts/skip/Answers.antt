-- No row is passed.
use Rattle.put.specs.Put.{still}
use Rattle.put.proofs.puts.RowwisePuts.skip.Goals as goal

pub returns : goal.returns
returns c = still
