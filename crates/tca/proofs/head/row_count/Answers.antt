-- `tca::head::row_count` meets its contract: by its place. Assumes nothing.
use mathlib.Core.Path.{sym, ◌∙◌}
use Rattle.tca.proofs.HeadLaws.{rows-at}
use Rattle.tca.proofs.head.row_count.Goals as goal

pub returns : goal.returns
returns c = c.u16_at.ensures ∙ sym (rows-at c.args.file.now)
