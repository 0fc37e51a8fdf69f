-- Field by field, then the rows.
use Prim.Native.Nat.{ℕ}
use mathlib.Core.Path.{refl, ap, ◌∙◌}
use lib.ListN.{length}
use lib.Seq.{sets}
use Rattle.meaning.specs.Bytes.{spell}
use Rattle.runs.proofs.LetterBytes.{letter-bytes}
use Rattle.runs.proofs.write_letter.Goals as goal

pub returns : goal.returns
returns c =
    let args = c.args in
    let pre = c.requires in
    letter-bytes args.call.now args.work.now c.put32_at.new.buf c.put32_at-2.new.buf c.put16_at.new.buf c.put16_at-2.new.buf c.copy_to.new.dst args.next (length args.call.now) refl pre.0 pre.2
    c.put32_at.ensures
    (c.put32_at-2.ensures ∙ ap (λ (i : ℕ). sets c.put32_at.new.buf 4 (spell 4 i)) c.u32_at.ensures)
    c.put16_at.ensures
    (c.put16_at-2.ensures ∙ ap (λ (i : ℕ). sets c.put16_at.new.buf 10 (spell 2 i)) c.u16_at.ensures)
    c.copy_to.ensures
