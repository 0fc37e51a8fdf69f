-- A value stays; else the rows to come are lent: what stands already is told, or the whole tree is tried.
use Prim.Native.Nat.{ℕ, ◌*◌, ◌-◌}
use mathlib.Core.Path.{refl, sym, ◌∙◌, subst}
use mathlib.Core.List.{List}
use native.Mathlib.Omega.{arith}
use lib.ListN.{length, take, drop}
use Rattle.meaning.specs.Types.{form_of}
use Rattle.meaning.specs.Records.{types_in}
use Rattle.layout.specs.Rows.{row_table}
use Rattle.reduce.specs.Once.{Goes}
use Rattle.runs.specs.Sites.{Tells}
use Rattle.runs.proofs.Tries.{lent-types, here-begins, here-front, here-uncounted, here-zip, here-stands}
use Rattle.runs.proofs.Rests.{value-rests, row-there}
use Rattle.runs.proofs.try_here.Goals as goal

pub bounds-work-r : goal.bounds-work-r
bounds-work-r c =
    let args = c.args in
    let pre = c.requires in
    let w = pre.3 in
    row-there _ w.2.number w.0 args.work.now w.1 args.s w.2.whole w.2.halted pre.2 w.3

pub returns-then-plain : goal.returns-then-plain
unfolding Tells
returns-then-plain c =
    (
    let args = c.args in
    let pre = c.requires in
    λ left frames k t h. value-rests (form_of (types_in args.kept.now)) k left args.work.now frames args.s t h pre.2 (sym c.plain.ensures ∙ c.if-plain.true))

pub rows_before-requires : goal.rows_before-requires
rows_before-requires c =
    let args = c.args in
    let pre = c.requires in
    let w = pre.3 in
    let x = take (length args.work.now - 8 * args.s.r) (drop (8 * args.s.r) args.work.now) in
    here-begins _ w.2.number w.0 args.work.now w.1 args.s w.2.whole w.2.halted pre.2 x (omega (arith, w.3.ends)) refl w.4

pub returns-in-Some : goal.returns-in-Some
unfolding Tells
returns-in-Some c =
    (
    let args = c.args in
    let pre = c.requires in
    let w = pre.3 in
    let form = form_of (types_in args.kept.now) in
    let x = take (length args.work.now - 8 * args.s.r) (drop (8 * args.s.r) args.work.now) in
    λ left frames k t h. here-stands form k left args.work.now frames args.s t h pre.2 x (omega (arith, w.3.ends)) refl c.in-Some.k (c.in-Some.ensures.1 form))

pub goes-requires : goal.goes-requires
goes-requires c =
    let args = c.args in
    let pre = c.requires in
    let w = pre.3 in
    let form = form_of (types_in args.kept.now) in
    let x = take (length args.work.now - 8 * args.s.r) (drop (8 * args.s.r) args.work.now) in
    here-front form w.2.number w.0 args.work.now w.1 args.s w.2.whole w.2.halted pre.2 x (omega (arith, w.3.ends)) refl w.3.ends w.2.count w.2.in-range w.4

pub returns-then-goes : goal.returns-then-goes
unfolding Tells
returns-then-goes c =
    (
    let args = c.args in
    let pre = c.requires in
    let w = pre.3 in
    let form = form_of (types_in args.kept.now) in
    let x = take (length args.work.now - 8 * args.s.r) (drop (8 * args.s.r) args.work.now) in
    let types = c.new.ensures ∙ lent-types args.kept.now c.types_end-e.result c.types_end-e.ensures pre.0 in
    let g = subst (λ (l : List (List ℕ)). Goes (form_of l) (row_table x)) types (c.goes.ensures c.if-goes.true) in
    λ left frames k t h. here-uncounted form k left args.work.now frames args.s t h pre.2 x (omega (arith, w.3.ends)) refl g)

pub calls_zip-requires : goal.calls_zip-requires
calls_zip-requires c =
    let args = c.args in
    let pre = c.requires in
    let w = pre.3 in
    let form = form_of (types_in args.kept.now) in
    let x = take (length args.work.now - 8 * args.s.r) (drop (8 * args.s.r) args.work.now) in
    here-front form w.2.number w.0 args.work.now w.1 args.s w.2.whole w.2.halted pre.2 x (omega (arith, w.3.ends)) refl w.3.ends w.2.count w.2.in-range w.4

pub returns-then-calls_zip : goal.returns-then-calls_zip
unfolding Tells
returns-then-calls_zip c =
    (
    let args = c.args in
    let pre = c.requires in
    let w = pre.3 in
    let form = form_of (types_in args.kept.now) in
    let x = take (length args.work.now - 8 * args.s.r) (drop (8 * args.s.r) args.work.now) in
    λ left frames k t h. here-zip form k left args.work.now frames args.s t h pre.2 x (omega (arith, w.3.ends)) refl (c.calls_zip.ensures c.if-calls_zip.true))

pub returns : goal.returns
returns c = c.try_whole.ensures.0
