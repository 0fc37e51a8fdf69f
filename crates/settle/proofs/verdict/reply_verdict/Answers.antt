-- `settle::verdict::reply_verdict` meets its contract: header, open list, rows. Assumes nothing.
use mathlib.Core.Path.{sym, ap, ◌∙◌}
use mathlib.Core.List.{List}
use native.Mathlib.Omega.{arith}
use lib.ListN.{length}
use Rattle.meaning.specs.Records.{state_of, listed, Entry}
use Rattle.meaning.specs.declared.Refusal.TheVariants.{NotOpen}
use Rattle.meaning.proofs.Entries.Chain.{held, missing, there}
use Rattle.layout.specs.Rows.{board}
use Rattle.sound.proofs.Parts.{types-count, sizes}
use Rattle.settle.proofs.Verdicts.{number_at, headed, value-length, value-rows, unlisted, by_rows}
use Rattle.settle.proofs.Records.{lent-types, lent_rows}
use Rattle.settle.proofs.verdict.reply_verdict.Goals as goal

pub u32_at-number-requires : goal.u32_at-number-requires
u32_at-number-requires c =
    let h = headed (board c.args.m) c.args.answer.now (sym c.head_ok.ensures ∙ held _ _ c.in_ok-require.was c.require.ensures.value) in omega arith

pub slice_bounds-rows_verdict-count : goal.slice_bounds-rows_verdict-count
slice_bounds-rows_verdict-count c =
    let h = headed (board c.args.m) c.args.answer.now (sym c.head_ok.ensures ∙ held _ _ c.in_ok-require.was c.require.ensures.value) in omega arith

pub slice_bounds-rows_verdict-start : goal.slice_bounds-rows_verdict-start
slice_bounds-rows_verdict-start c =
    let h = headed (board c.args.m) c.args.answer.now (sym c.head_ok.ensures ∙ held _ _ c.in_ok-require.was c.require.ensures.value) in omega arith

pub types_of-requires : goal.types_of-requires
types_of-requires c = let z = sizes c.args.m c.args.kept.now c.requires.0 in omega arith

pub rows_verdict-requires : goal.rows_verdict-requires
rows_verdict-requires c =
    let a = c.args in
    let z = sizes a.m a.kept.now c.requires.0 in
    let h = headed (board a.m) a.answer.now (sym c.head_ok.ensures ∙ held _ _ c.in_ok-require.was c.require.ensures.value) in
    let v = value-length (board a.m) a.answer.now h in
    (omega (arith, ap length c.types_of.ensures, types-count a.kept.now), omega arith, omega arith, omega (arith, c.requires.2))

pub returns : goal.returns
returns c =
    let a = c.args in
    let p = c.requires in
    let k = c.u32_at-number in
    let passed = sym c.head_ok.ensures ∙ held _ _ c.in_ok-require.was c.require.ensures.value in
    let present = there _ NotOpen c.in_ok-ty.was c.ok_or.ensures.value in
    let h = headed (board a.m) a.answer.now passed in
    c.rows_verdict.ensures ∙ by_rows (board a.m) (state_of (board a.m) a.kept.now) a.answer.now passed _ (k.ensures ∙ sym (number_at a.answer.now)) _ _ _ _
    (lent-types a.m a.kept.now p.0 p.1 p.3 (λ j. omega (arith, c.shared_slice_known-1.given j)) _ c.types_of.ensures)
    (lent_rows a.m a.kept.now p.0 p.1 p.3 (λ j. omega (arith, c.shared_slice_known-1.given j)) _ c.rows_of.ensures.table)
    (value-rows (board a.m) a.answer.now h) (sym present ∙ c.find.ensures ∙ ap (λ (es : List Entry). listed es k.result) c.open_list.ensures.entries)

pub returns-in_err-ty : goal.returns-in_err-ty
returns-in_err-ty c =
    let a = c.args in
    let k = c.u32_at-number in
    let (absent, refused) = missing _ NotOpen c.from_residual-in_err-ty.ensures.1 c.in_err-ty.was c.ok_or.ensures.value in
    refused
    ∙ unlisted (board a.m) (state_of (board a.m) a.kept.now) a.answer.now (sym c.head_ok.ensures ∙ held _ _ c.in_ok-require.was c.require.ensures.value) _
    (k.ensures ∙ sym (number_at a.answer.now)) (sym absent ∙ c.find.ensures ∙ ap (λ (es : List Entry). listed es k.result) c.open_list.ensures.entries)
