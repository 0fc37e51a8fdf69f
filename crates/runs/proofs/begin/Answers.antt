-- The rows are counted and copied.
use Prim.Native.Nat.{ℕ, ◌+◌, ◌*◌, ◌-◌}
use mathlib.Core.Path.{refl, ap, ◌∙◌}
use mathlib.Core.List.{◌++◌}
use native.Mathlib.Omega.{arith}
use lib.ListN.{take, drop}
use Rattle.layout.specs.Rows.{board}
use Rattle.meaning.specs.Bytes.{rows_at}
use Rattle.runs.proofs.PutBack.{record-long, rows-from}
use Rattle.runs.proofs.begin.Goals as goal

pub row_count-requires : goal.row_count-requires
row_count-requires c = omega (arith, c.requires.0, record-long (board c.args.m), rows-from (board c.args.m))

pub overflow_sub-r : goal.overflow_sub-r
overflow_sub-r c = omega (arith, c.wide-n.ensures, c.row_count.ensures, c.term_rows-e.ensures, c.requires.1, c.requires.2)

pub copy_to-requires : goal.copy_to-requires
copy_to-requires c =
    let n = c.wide-n.ensures ∙ c.row_count.ensures in
    let p = c.rows_at-from.ensures in
    (omega (arith, n, c.term_rows-e.ensures, c.requires.1, c.requires.2), omega (arith, n, p, c.requires.0, c.requires.1, record-long (board c.args.m)))

pub returns : goal.returns
returns c =
    let args = c.args in
    let n = c.wide-n.ensures ∙ c.row_count.ensures in
    let p = c.rows_at-from.ensures in
    let r = c.term_rows-e.result - c.wide-n.result in
    record {
      bytes = c.copy_to.ensures ∙ ap (λ (i : ℕ). take (8 * r) args.work.now ++ (take (8 * c.wide-n.result) (drop i args.kept.now) ++ drop (8 * r + 8 * c.wide-n.result) args.work.now)) p
          ∙ ap (λ (i : ℕ). take (8 * r) args.work.now ++ (take (8 * i) (drop (rows_at (board args.m)) args.kept.now) ++ drop (8 * r + 8 * i) args.work.now)) n;
      none_passed = refl;
      no-frame = refl;
      first = omega (arith, n, c.term_rows-e.ensures, c.requires.1, c.requires.2);
    }
