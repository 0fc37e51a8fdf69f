-- At the root, at the frame's row, and at the new tree.
use Prim.Native.Nat.{ℕ, suc, ◌+◌, ◌-◌}
use mathlib.Core.Path.{◌≡◌, sym, ap, ◌∙◌}
use native.Mathlib.Omega.{arith}
use Rattle.search.specs.Kept.{row_in}
use Rattle.search.proofs.Resumed.{at-root, in_frame, at_row}
use Rattle.search.proofs.back_up.Goals as goal

pub returns-then-d-eq0 : goal.returns-then-d-eq0
returns-then-d-eq0 c = at-root c.args.left.now c.args.right.now c.args.frames.now c.args.s c.requires.0 c.if-d-eq0.true

pub overflow_add-at : goal.overflow_add-at
unfolding row_in
overflow_add-at c = omega (arith, c.row_in-at.ensures, c.shared_slice_known-3-1.given (c.args.s.d - 1))

pub returns-then-at-l : goal.returns-then-at-l
returns-then-at-l c =
    let args = c.args in
    let pre = c.requires in
    let e : args.s.d ≡ suc (args.s.d - 1) = omega (arith, c.if-d-eq0.false) in
    let z : args.s.l ≡ c.row_in-at.result + 1 = sym c.if-at-l.true in
    at_row args.left.now args.right.now args.frames.now args.s pre.0 c.copy_row.new.dst (args.s.d - 1) e (z ∙ ap (λ (i : ℕ). i + 1) c.row_in-at.ensures) pre.1 (omega (arith, pre.0.left-long)) c.copy_row.ensures

pub returns : goal.returns
returns c =
    let args = c.args in
    let pre = c.requires in
    let e : args.s.d ≡ suc (args.s.d - 1) = omega (arith, c.if-d-eq0.false) in
    in_frame args.left.now args.right.now args.frames.now args.s pre.0 (args.s.d - 1) e (λ q. c.if-at-l.false (sym (q ∙ ap (λ (i : ℕ). i + 1) (sym c.row_in-at.ensures))))
