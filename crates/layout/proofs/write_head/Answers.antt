-- `layout::write_head` meets its contract: three parts one behind the other. Assumes nothing.
use Rattle.layout.proofs.Laws.{head-written}
use Rattle.layout.proofs.write_head.Goals as goal

pub returns : goal.returns
returns c = let a = c.args in head-written a.kept.now _ _ _ a.types a.rows a.calls a.next a.program c.requires c.write_mark.ensures c.write_counts.ensures c.write_next.ensures
