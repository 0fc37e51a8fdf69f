-- Test by test. Assumes nothing.
use mathlib.Core.Path.{◌≡◌, ap, sym, ◌∙◌}
use native.Mathlib.Omega.{arith}
use lib.ListN.{length}
use Rattle.layout.proofs.Tables.{type-table-length}
use Rattle.tca.proofs.VerdictLaws.{types_part, types-length, rows-length, bad-type-row, rows_told, none-held, futures-left}
use Rattle.tca.proofs.program_verdict.Goals as goal

pub bad_type-requires : goal.bad_type-requires
bad_type-requires c =
    let args = c.args in
    let pre = c.requires in
    let t = types-length args.file.now args.count pre.1 pre.0 in
    let r = rows-length args.file.now args.count pre.1 pre.0 in
    omega (arith, pre.3)

pub returns-in-Some : goal.returns-in-Some
returns-in-Some c =
    let args = c.args in
    let pre = c.requires in
    let bad-type = c.bad_type in
    bad-type-row args.file.now args.count pre.1 pre.0 args.edition pre.2 _ (sym c.in-Some.is ∙ bad-type.ensures)

pub all_good-requires : goal.all_good-requires
all_good-requires c =
    let args = c.args in
    let pre = c.requires in
    let t = types-length args.file.now args.count pre.1 pre.0 in
    let r = rows-length args.file.now args.count pre.1 pre.0 in
    let told : length c.new.result ≡ args.count = ap length c.new.ensures ∙ type-table-length (types_part args.file.now args.count) ∙ omega arith in
    (omega (arith, told, pre.3), omega (arith, pre.4))

pub future_verdict-requires : goal.future_verdict-requires
future_verdict-requires c =
    let args = c.args in
    let pre = c.requires in
    let t = types-length args.file.now args.count pre.1 pre.0 in
    let r = rows-length args.file.now args.count pre.1 pre.0 in
    omega (arith, pre.4)

pub returns-in-Ok-true : goal.returns-in-Ok-true
returns-in-Ok-true c =
    let args = c.args in
    let pre = c.requires in
    let good = c.in-Ok-true.ensures in
    let t = types-length args.file.now args.count pre.1 pre.0 in
    let told : length c.new.result ≡ args.count = ap length c.new.ensures ∙ type-table-length (types_part args.file.now args.count) ∙ omega arith in
    c.future_verdict.ensures ∙ futures-left args.edition args.count (types_part args.file.now args.count) _ (sym (rw told at good.whole)) (sym (rw c.new.ensures at good.typed)) ∙ rows_told args.file.now args.count pre.1 pre.0 args.edition pre.2 (sym c.in_default.is ∙ c.bad_type.ensures)

pub returns-in-Ok-false : goal.returns-in-Ok-false
returns-in-Ok-false c =
    let args = c.args in
    let pre = c.requires in
    let good = c.in-Ok-false.ensures in
    let t = types-length args.file.now args.count pre.1 pre.0 in
    let told : length c.new.result ≡ args.count = ap length c.new.ensures ∙ type-table-length (types_part args.file.now args.count) ∙ omega arith in
    none-held _ (sym (good.still c.in-Ok-false.field-0-test)) ∙ futures-left args.edition args.count (types_part args.file.now args.count) _ (sym (rw told at good.whole)) (sym (rw c.new.ensures at good.typed)) ∙ rows_told args.file.now args.count pre.1 pre.0 args.edition pre.2 (sym c.in_default.is ∙ c.bad_type.ensures)

pub rows_verdict-requires : goal.rows_verdict-requires
rows_verdict-requires c =
    let args = c.args in
    let pre = c.requires in
    let t = types-length args.file.now args.count pre.1 pre.0 in
    let r = rows-length args.file.now args.count pre.1 pre.0 in
    omega (arith, pre.4)

pub returns-in-Err : goal.returns-in-Err
returns-in-Err c =
    let args = c.args in
    let pre = c.requires in
    let bad-type = c.bad_type in
    let rows-verdict = c.rows_verdict in
    rows-verdict.ensures ∙ rows_told args.file.now args.count pre.1 pre.0 args.edition pre.2 (sym c.in_default.is ∙ bad-type.ensures)
