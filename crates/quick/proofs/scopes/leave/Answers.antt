-- The chains are those of the names that are left. Assumes nothing.
use mathlib.Core.Path.{refl}
use Rattle.quick.proofs.ByKind.{never}
use Rattle.quick.proofs.Chains.{scope-drop}
use Rattle.quick.proofs.scopes.leave.Goals as goal

pub returns-then-bound-p : goal.returns-then-bound-p
returns-then-bound-p c = λ z. absurd (never c.refused.ensures z)

pub returns : goal.returns
returns c =
    let args = c.args in
    let pre = c.requires in
    let unbind = c.unbind in
    λ z. record { row = refl; same = refl; up = refl; still = refl; chained = unbind.ensures.1; names = rw unbind.ensures.0 (scope-drop args.bound.now args.p.b args.n) }
