-- Names and bounds are lent as they stand.
use mathlib.Core.Path.{sym}
use lib.Seq.{length-take-le}
use Rattle.reduce.proofs.puts.count_puts.Goals as goal

pub slice_bounds-count_put-end : goal.slice_bounds-count_put-end
slice_bounds-count_put-end c = sym (length-take-le c.args.p.count c.args.p.names c.requires.0)
