-- The loop's invariant: the chains are those of the names that are left. Assumes nothing.
use Rattle.quick.specs.Names.{NamesChained}
use Rattle.quick.proofs.names.unbind.Given as goal

abbrev pub invariant-loop-j : goal.invariant-loop-j
invariant-loop-j l = NamesChained l.bound l.heads l.j
