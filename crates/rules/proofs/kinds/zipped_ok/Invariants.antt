-- The loop's invariant: the parts from the k-th on answer to the bits left as all of them do to the mask.
use mathlib.Core.Path.{◌≡◌}
use lib.ListN.{drop}
use Rattle.meaning.specs.Types.{parts}
use Rattle.meaning.specs.Typing.{zipped_ok}
use Rattle.rules.specs.Forms.{forms}
use Rattle.layout.specs.Forms.{says}
use Rattle.rules.proofs.kinds.zipped_ok.Given as goal

abbrev pub invariant-loop-k : goal.invariant-loop-k
invariant-loop-k l = zipped_ok (forms l.types) l.bits (drop l.k (parts (says l.types l.c))) (drop l.k (parts (says l.types l.t))) ≡ zipped_ok (forms l.types) l.mask (parts (says l.types l.c)) (parts (says l.types l.t))
