-- `sound::head::counts_fit` meets its contract: test by test. Assumes nothing.
use Rattle.sound.proofs.HeadLaws.{counts-fit}
use Rattle.layout.specs.Rows.{board}
use Rattle.sound.proofs.head.counts_fit.Goals as goal

pub returns : goal.returns
returns c = counts-fit (board c.args.m) c.args.kept.now _ c.type_count-types.ensures c.if-types-eq0.false c.if-m-types.false _ c.row_count-rows.ensures c.if-rows-eq0.false c.if-m-rows.false _ c.open_count.ensures c.if-m-open_count.false _ c.next_number-next.ensures c.if-next-eq0.false c.if-m-next.false _ c.u16_at.ensures
