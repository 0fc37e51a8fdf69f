-- The loop's invariant: where the first k trees begin and end.
use Rattle.reduce.proofs.Bounded.{Bounded}
use Rattle.reduce.proofs.puts.fill_bounds.Given as goal

abbrev pub invariant-loop-k : goal.invariant-loop-k
invariant-loop-k g l = Bounded l.rows l.first l.n l.bounds l.at l.k
