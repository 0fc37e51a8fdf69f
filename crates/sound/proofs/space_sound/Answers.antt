-- `sound::space_sound` meets its contract: part by part. Assumes nothing.
use mathlib.Core.Path.{sym, ◌∙◌}
use Rattle.meaning.specs.Records.{space_sound}
use Rattle.sound.proofs.Laws.{fails, passes}
use Rattle.sound.proofs.Parts.{sizes, types-zero, calls-zero, rows-zero}
use Rattle.sound.proofs.space_sound.Goals as goal

pub returns-then-not-all_zero : goal.returns-then-not-all_zero
returns-then-not-all_zero c = let z = sizes c.args.m c.args.kept.now c.requires in unfold space_sound in sym (fails _ _ (sym (types-zero c.args.m c.args.kept.now z _ _ _ 0 c.calls_at-calls.ensures c.rows_at-rows.ensures c.type_count.ensures) ∙ sym c.all_zero.ensures ∙ c.if-not-all_zero.true))

pub returns-then-not-all_zero-2 : goal.returns-then-not-all_zero-2
returns-then-not-all_zero-2 c = let z = sizes c.args.m c.args.kept.now c.requires in unfold space_sound in sym (passes _ _ (sym (types-zero c.args.m c.args.kept.now z _ _ _ 0 c.calls_at-calls.ensures c.rows_at-rows.ensures c.type_count.ensures) ∙ sym c.all_zero.ensures ∙ c.if-not-all_zero.false) ∙ fails _ _ (sym (calls-zero c.args.m c.args.kept.now z _ _ _ 0 c.calls_at-calls.ensures c.rows_at-rows.ensures c.open_count.ensures) ∙ sym c.all_zero-2.ensures ∙ c.if-not-all_zero-2.true))

pub returns : goal.returns
returns c = let z = sizes c.args.m c.args.kept.now c.requires in unfold space_sound in c.all_zero-3.ensures ∙ (rows-zero c.args.m c.args.kept.now z _ _ _ 0 c.calls_at-calls.ensures c.rows_at-rows.ensures c.row_count.ensures) ∙ sym (passes _ _ (sym (types-zero c.args.m c.args.kept.now z _ _ _ 0 c.calls_at-calls.ensures c.rows_at-rows.ensures c.type_count.ensures) ∙ sym c.all_zero.ensures ∙ c.if-not-all_zero.false) ∙ passes _ _ (sym (calls-zero c.args.m c.args.kept.now z _ _ _ 0 c.calls_at-calls.ensures c.rows_at-rows.ensures c.open_count.ensures) ∙ sym c.all_zero-2.ensures ∙ c.if-not-all_zero-2.false))
