-- The tree stands already; or it is written, at a row or at a frame's end, where nothing of the record changes.
use Prim.Native.Nat.{◌<◌}
use mathlib.Core.Path.{refl}
use native.Mathlib.Omega.{arith}
use Rattle.layout.specs.Rows.{board}
use Rattle.meaning.specs.Types.{form_of}
use Rattle.meaning.specs.Records.{types_in}
use Rattle.runs.specs.Going.{space}
use Rattle.runs.proofs.Tries.{going-anew, falls-makes, falling-fits}
use Rattle.runs.proofs.EndTries.{ending-fits}
use Rattle.runs.proofs.make_rule.Goals as goal

pub overflow_add-result : goal.overflow_add-result
overflow_add-result c =
    let args = c.args in
    let pre = c.requires in
    let G = pre.6 in
    omega (arith, G.1.ends, G.1.few, falling-fits (form_of (types_in args.kept.now)) (space (board args.m) args.kept.now) args.work.now G.0 args.s args.c.old args.c.new G.2 c.if-new-eq0.true)

pub returns-then-new-eq0 : goal.returns-then-new-eq0
returns-then-new-eq0 c =
    let args = c.args in
    (record { front = refl; long = refl }, falls-makes (form_of (types_in args.kept.now)) (space (board args.m) args.kept.now) args.work.now args.s _ args.c.old args.c.new c.if-new-eq0.true refl refl refl)

pub make_here-requires : goal.make_here-requires
make_here-requires c =
    let args = c.args in
    let pre = c.requires in
    let G = pre.6 in
    let writes : 0 < args.c.new = omega (arith, c.if-new-eq0.false) in
    let g = going-anew (form_of (types_in args.kept.now)) (space (board args.m) args.kept.now) args.work.now G.0 args.s args.c.old args.c.new G.2 writes in
    (pre.0, pre.1, c.if-here.true, pre.2, (G.0, G.1, pre.3, omega (arith, pre.4, pre.5, G.1.ends), g))

pub make_end-requires : goal.make_end-requires
make_end-requires c =
    let args = c.args in
    let pre = c.requires in
    let G = pre.6 in
    let writes : 0 < args.c.new = omega (arith, c.if-new-eq0.false) in
    let form = form_of (types_in args.kept.now) in
    let left = space (board args.m) args.kept.now in
    let g = going-anew form left args.work.now G.0 args.s args.c.old args.c.new G.2 writes in
    let last = c.if-here.false in
    let fits = ending-fits form left args.work.now G.0 args.s args.c.old args.c.new last (omega (arith, G.1.left-long)) g in
    (pre.0, pre.1, last, pre.2, omega (arith, pre.3), (G.0, G.1, omega (arith, pre.4, pre.5, G.1.ends, fits), g))

pub returns : goal.returns
returns c = (record { front = refl; long = refl }, c.make_end.ensures)
