-- By the form.
use Prim.Native.Nat.{◌/◌, ◌<◌, ◌≤◌}
use mathlib.Core.Path.{◌≡◌, sym, ap, ◌∙◌}
use native.Mathlib.Omega.{arith}
use Rattle.std.proofs.Common.{rules}
use lib.ListN.{length}
use Rattle.meaning.specs.Types.{form_of}
use Rattle.layout.specs.Rows.{type_table}
use Rattle.types.specs.Table.{type_at}
use Rattle.types.proofs.Laws.{form-row}
use Rattle.types.proofs.GroundLaws.{part_ground, part_low, part-high, ground-plain, ground-list, ground-other, tells}
use Rattle.types.proofs.+ground.Goals as goal

pub returns-in-Some-Str : goal.returns-in-Some-Str
returns-in-Some-Str t c =
    let a = c.args in
    let w = form-row a.types.now (length a.types.now / 36) a.t (omega (arith, c.requires.0)) in
    let low : 1 ≤ c.form_no.result = search rules in
    let high : c.form_no.result < 4 = search rules in
    tells a.known.now (form_of (type_table a.types.now)) c.requires.2 a.t _ _ _ c.remember.ensures (ground-plain _ a.t (type_at a.types.now a.t) w _ c.form_no.ensures low high)

pub returns-then-t-e : goal.returns-then-t-e
returns-then-t-e t c =
    let a = c.args in
    let form = form_of (type_table a.types.now) in
    let w = form-row a.types.now (length a.types.now / 36) a.t (omega (arith, c.requires.0)) in
    let four : c.form_no.result ≡ 4 = search rules in
    tells a.known.now form c.requires.2 a.t _ _ _ c.remember-then-t-e.ensures (ground-list form a.t (type_at a.types.now a.t) w _ c.form_no.ensures four ∙ ap (part_ground form a.t) (sym c.result_no-e.ensures) ∙ part-high form a.t _ c.if-t-e.true)

pub returns-else-t-e : goal.returns-else-t-e
returns-else-t-e t c =
    let a = c.args in
    let form = form_of (type_table a.types.now) in
    let w = form-row a.types.now (length a.types.now / 36) a.t (omega (arith, c.requires.0)) in
    let four : c.form_no.result ≡ 4 = search rules in
    tells _ form c.ground-told.ensures.memo a.t _ _ _ c.remember-in-Some-List.ensures (ground-list form a.t (type_at a.types.now a.t) w _ c.form_no.ensures four ∙ ap (part_ground form a.t) (sym c.result_no-e.ensures) ∙ part_low form a.t _ c.if-t-e.false ∙ sym c.ground-told.ensures.answer)

pub returns-in-Some-Native : goal.returns-in-Some-Native
returns-in-Some-Native t c =
    let a = c.args in
    let w = form-row a.types.now (length a.types.now / 36) a.t (omega (arith, c.requires.0)) in
    let late : 1 ≤ c.form_no.result → 6 ≤ c.form_no.result = search rules in
    tells a.known.now (form_of (type_table a.types.now)) c.requires.2 a.t _ _ _ c.remember-in-Some-Native.ensures (ground-other _ a.t (type_at a.types.now a.t) w _ c.form_no.ensures late)
