-- `tca::head::version` meets its contract: by its place. Assumes nothing.
use mathlib.Core.Path.{sym, ◌∙◌}
use Rattle.tca.proofs.HeadLaws.{version-at}
use Rattle.tca.proofs.head.version.Goals as goal

pub returns : goal.returns
returns c = c.u16_at.ensures ∙ sym (version-at c.args.file.now)
