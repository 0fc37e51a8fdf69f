-- `sound::entries_sound` meets its contract: from entry i on as from the first. Assumes nothing.
use Prim.Native.Nat.{◌*◌}
use mathlib.Core.Path.{refl, sym, ◌∙◌}
use mathlib.Core.List.{[]}
use native.Mathlib.Omega.{arith}
use Rattle.meaning.specs.Types.{form_of}
use Rattle.meaning.specs.Records.{entry_sound}
use Rattle.layout.specs.Rows.{type_table}
use Rattle.types.proofs.BadLaws.{says_nothing}
use Rattle.sound.specs.Ready.{entry_table}
use Rattle.sound.proofs.Laws.{every-on, every-not, every-end}
use Rattle.sound.proofs.Parts.{entry-late, entry-unground, entry-not-zero, entry-good, entry_at, entry-count}
use Rattle.sound.proofs.entries_sound.Goals as goal

pub loop-i-init : goal.loop-i-init
loop-i-init c = (refl, says_nothing 256 (form_of (type_table c.args.types.now)))

pub returns-then-next-u32_at : goal.returns-then-next-u32_at
returns-then-next-u32_at c = let k = entry-count c.args.calls.now in sym (every-not (entry_sound (form_of (type_table c.args.types.now)) c.args.next) (entry_table c.args.calls.now) c.loop-i.i [] _ (omega arith) (entry_at c.args.calls.now c.loop-i.i (omega arith)) (entry-late (form_of (type_table c.args.types.now)) c.args.next (8 * c.loop-i.i) c.args.calls.now _ c.u32_at.ensures c.if-next-u32_at.true)) ∙ c.loop-i.invariant.0

pub returns-then-not-ground_at : goal.returns-then-not-ground_at
returns-then-not-ground_at c = let k = entry-count c.args.calls.now in sym (every-not (entry_sound (form_of (type_table c.args.types.now)) c.args.next) (entry_table c.args.calls.now) c.loop-i.i [] _ (omega arith) (entry_at c.args.calls.now c.loop-i.i (omega arith)) (entry-unground (form_of (type_table c.args.types.now)) c.args.next (8 * c.loop-i.i) c.args.calls.now _ c.u32_at.ensures c.if-next-u32_at.false _ c.u16_at-ty.ensures (sym c.ground_at.ensures.answer ∙ c.if-not-ground_at.true))) ∙ c.loop-i.invariant.0

pub returns-then-u16_at-ne0 : goal.returns-then-u16_at-ne0
returns-then-u16_at-ne0 c = let k = entry-count c.args.calls.now in sym (every-not (entry_sound (form_of (type_table c.args.types.now)) c.args.next) (entry_table c.args.calls.now) c.loop-i.i [] _ (omega arith) (entry_at c.args.calls.now c.loop-i.i (omega arith)) (entry-not-zero (form_of (type_table c.args.types.now)) c.args.next (8 * c.loop-i.i) c.args.calls.now _ c.u32_at.ensures c.if-next-u32_at.false _ c.u16_at-ty.ensures (sym c.ground_at.ensures.answer ∙ c.if-not-ground_at.false) _ c.u16_at.ensures c.if-u16_at-ne0.true)) ∙ c.loop-i.invariant.0

pub loop-i-preserved : goal.loop-i-preserved
loop-i-preserved c = let k = entry-count c.args.calls.now in (sym (every-on (entry_sound (form_of (type_table c.args.types.now)) c.args.next) (entry_table c.args.calls.now) c.loop-i.i [] _ (omega arith) (entry_at c.args.calls.now c.loop-i.i (omega arith)) (entry-good (form_of (type_table c.args.types.now)) c.args.next (8 * c.loop-i.i) c.args.calls.now _ c.u32_at.ensures c.if-next-u32_at.false _ c.u16_at-ty.ensures (sym c.ground_at.ensures.answer ∙ c.if-not-ground_at.false) _ c.u16_at.ensures c.if-u16_at-ne0.false)) ∙ c.loop-i.invariant.0, c.ground_at.ensures.memo)

pub returns : goal.returns
returns c = let k = entry-count c.args.calls.now in sym (every-end (entry_sound (form_of (type_table c.args.types.now)) c.args.next) (entry_table c.args.calls.now) c.loop-i.i (omega arith)) ∙ c.loop-i.invariant.0
