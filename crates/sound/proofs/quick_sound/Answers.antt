-- What a quick check of the record's rows tells.
use Rattle.std.proofs.Common.{ap, length, arith}
use Rattle.sound.proofs.Parts.{sizes, types-count, rows_shown}
use Rattle.sound.proofs.quick_sound.Goals as goal

pub all_good-requires : goal.all_good-requires
all_good-requires c =
    let z = sizes c.args.m c.args.kept.now c.requires in
    (omega (arith, ap length c.types_of.ensures, types-count c.args.kept.now), omega arith)

pub returns : goal.returns
returns c = rows_shown c.args.m c.args.kept.now c.rows_of.result.now c.rows_of.ensures.table c.types_of.result c.types_of.ensures _ c.edition.ensures _ c.all_good.ensures
