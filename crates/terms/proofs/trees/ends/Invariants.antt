-- The loop's invariant: the entries from row i on are right.
use Rattle.std.proofs.Common.{◌≡◌, length, map}
use Rattle.meaning.specs.Terms.{row_of}
use Rattle.terms.proofs.Scan.{EndsFrom}
use Rattle.terms.proofs.trees.ends.Given as goal

abbrev pub invariant-loop-i : goal.invariant-loop-i
invariant-loop-i l = record { long : length l.ends ≡ length l.initial.ends; right : EndsFrom (map row_of l.rows) l.i (length l.rows) l.ends }
