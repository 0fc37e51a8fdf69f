-- No row is passed.
use Rattle.put.specs.Put.{still}
use Rattle.put.proofs.puts.OnePuts.skip.Goals as goal

pub returns : goal.returns
returns c = still
