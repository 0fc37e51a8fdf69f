-- The rest is copied, the rows are counted.
use Prim.Native.Nat.{ℕ, ◌+◌, ◌*◌, ◌-◌, ◌/◌}
use mathlib.Core.Path.{◌≡◌, ap, ◌∙◌}
use mathlib.Core.List.{◌++◌}
use native.Mathlib.Omega.{arith}
use lib.ListN.{length, take, drop}
use Rattle.layout.specs.Rows.{board}
use Rattle.runs.proofs.PutBack.{record-long, holding}
use Rattle.runs.proofs.put_back.Goals as goal

pub overflow_sub-n : goal.overflow_sub-n
overflow_sub-n c = omega (arith, c.term_rows.ensures, c.requires.1)

pub overflow_mul-at : goal.overflow_mul-at
overflow_mul-at c = omega (arith, c.requires.2, c.requires.0, record-long (board c.args.m))

pub overflow_add-at : goal.overflow_add-at
overflow_add-at c = omega (arith, c.rows_at.ensures, c.requires.2, c.requires.0, record-long (board c.args.m))

pub overflow_mul-r : goal.overflow_mul-r
overflow_mul-r c = omega (arith, c.requires.1, c.requires.3)

pub overflow_mul-n : goal.overflow_mul-n
overflow_mul-n c = omega (arith, c.term_rows.ensures, c.requires.1, c.requires.3)

pub copy_to-requires : goal.copy_to-requires
copy_to-requires c = (omega (arith, c.term_rows.ensures, c.rows_at.ensures, c.requires.1, c.requires.2, c.requires.0, record-long (board c.args.m)), omega (arith, c.term_rows.ensures, c.requires.1))

pub overflow_add-l : goal.overflow_add-l
overflow_add-l c = omega (arith, c.term_rows.ensures, c.requires.1, c.requires.2)

pub renew_rows-requires : goal.renew_rows-requires
renew_rows-requires c = (c.copy_to.auto.dst ∙ c.requires.0, omega (arith, c.term_rows.ensures, c.requires.1, c.requires.2))

pub returns : goal.returns
returns c =
    let args = c.args in
    let pre = c.requires in
    let n = c.term_rows.result - args.s.r in
    let en : n ≡ length args.work.now / 8 - args.s.r = ap (λ (i : ℕ). i - args.s.r) c.term_rows.ensures in
    let p = c.rows_at.ensures in
    let copied = c.copy_to.ensures ∙ ap (λ (i : ℕ). take (i + 8 * args.s.l) args.kept.now ++ (take (8 * n) (drop (8 * args.s.r) args.work.now) ++ drop (i + 8 * args.s.l + 8 * n) args.kept.now)) p in
    λ form k frames from t f w. c.renew_rows.ensures from t
    (holding (board args.m) args.kept.now c.copy_to.new.dst args.work.now frames args.s form k from t n pre.0 en pre.1 (omega (arith, en, pre.2, pre.0, record-long (board args.m))) (λ i. omega (arith, c.slice_known-2-1.given i)) copied f w)
