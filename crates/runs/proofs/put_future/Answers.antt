-- Field by field.
use Prim.Native.Nat.{◌+◌, ◌*◌, ◌-◌}
use mathlib.Core.Path.{refl, ◌∙◌}
use native.Mathlib.Omega.{arith}
use lib.ListN.{set, length-set}
use Rattle.runs.proofs.LetterBytes.{future-bytes}
use Rattle.runs.proofs.put_future.Goals as goal

pub bounds-work-at-2 : goal.bounds-work-at-2
bounds-work-at-2 c = simp length-set (omega (arith, c.requires.0, c.requires.1))

pub put16_at-requires : goal.put16_at-requires
put16_at-requires c = simp length-set (omega (arith, c.requires.0, c.requires.1))

pub put32_at-requires : goal.put32_at-requires
put32_at-requires c = omega (arith, c.requires.0, c.requires.1, simp length-set at c.put16_at.auto.buf)

pub shape_of-work : goal.shape_of-work
shape_of-work c = c.put32_at.auto.buf ∙ c.put16_at.auto.buf ∙ simp length-set

pub returns : goal.returns
returns c =
    let args = c.args in
    let pre = c.requires in
    let p = 8 * (args.r - 1) in
    future-bytes args.work.now (set args.work.now p 9) (set (set args.work.now p 9) (p + 1) 0) c.put16_at.new.buf c.put32_at.new.buf p args.ty args.next (omega (arith, pre.0, pre.1)) refl refl c.put16_at.ensures c.put32_at.ensures
