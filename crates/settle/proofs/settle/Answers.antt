-- `settle::settle` meets its contract: the term in its place, then the list. Assumes nothing.
use mathlib.Core.Path.{refl, sym, ap, ◌∙◌}
use native.Mathlib.Omega.{arith}
use Rattle.meaning.specs.Entries.{without as without-of}
use Rattle.layout.specs.Rows.{board}
use Rattle.meaning.specs.Records.{record_of, State}
use Rattle.settle.proofs.Verdicts.{number_at}
use Rattle.settle.proofs.Records.{roomy-settled, recalled-is}
use Rattle.settle.proofs.settle.Goals as goal

pub returns : goal.returns
returns c =
    let a = c.args in
    let asked = c.requires in
    let u32-at = c.u32_at-number in
    let open-list = c.open_list-calls in
    let without = c.without-left in
    let next-number = c.next_number-next in
    let replace-term = c.replace_term in
    let renew-calls = c.renew_calls in
    (renew-calls.ensures _ without.ensures _ (roomy-settled a.m a.kept.now a.answer.now asked.0 (λ j. omega (arith, c.slice_known-1.given j)) _ _ _ refl refl (u32-at.ensures ∙ sym (number_at a.answer.now))) replace-term.ensures.0 ∙ ap (λ (x : State). record_of (board a.m) x) (recalled-is a.m a.kept.now a.answer.now asked.0 (λ j. omega (arith, c.slice_known-1.given j)) _ _ _ refl refl (u32-at.ensures ∙ sym (number_at a.answer.now)) _ _ (ap (without-of u32-at.result) open-list.ensures.entries) next-number.ensures), replace-term.ensures.1)
