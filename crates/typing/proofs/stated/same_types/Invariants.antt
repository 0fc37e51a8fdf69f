-- The loop's invariant: the trees still to come end within the rows, and answer with the parts from the k-th on as all of them do.
use Prim.Native.Nat.{◌+◌, ◌-◌, ◌≤◌, ◌/◌}
use mathlib.Core.Path.{◌≡◌}
use lib.ListN.{length, drop}
use Rattle.meaning.specs.Types.{same_numbers}
use Rattle.meaning.specs.Terms.{sizes, grove}
use Rattle.meaning.specs.Typing.{list, tys}
use Rattle.layout.specs.Rows.{term_rows}
use Rattle.layout.specs.Forms.{says, part_types}
use Rattle.typing.proofs.stated.same_types.Given as goal

abbrev pub invariant-loop-k : goal.invariant-loop-k
invariant-loop-k l =
    (l.p + sizes (grove (term_rows l.rows) l.p (l.n - l.k)) ≤ length l.rows / 8)
    × (same_numbers (list (tys (grove (term_rows l.rows) l.p (l.n - l.k)))) (drop l.k (part_types (says l.types l.t))) ≡ same_numbers (list (tys (grove (term_rows l.rows) l.at l.n))) (part_types (says l.types l.t)))
