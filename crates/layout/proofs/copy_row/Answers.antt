-- Each byte is stored once. Assumes nothing.
use Rattle.layout.proofs.Tables.{row-stored}
use Rattle.layout.proofs.copy_row.Goals as goal

pub returns : goal.returns
returns c =
    let args = c.args in
    let pre = c.requires in
    row-stored args.dst.now args.src.now args.at args.from pre.0 pre.1
