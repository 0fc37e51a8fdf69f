-- `keep::renew_calls` meets its contract. Assumes nothing.
use mathlib.Core.Path.{ap, ◌∙◌}
use Prim.Native.Nat.{◌-◌}
use mathlib.Core.List.{List, map}
use lib.ListN.{length, take, drop}
use Rattle.meaning.specs.Bytes.{writes, padded, entry_row, calls_at, rows_at}
use Rattle.meaning.specs.Records.{Entry, raw_entry}
use borrow.Rule.Slice.PartMut.{same_len_mid}
use native.Mathlib.Omega.{arith}
use Rattle.layout.specs.Rows.{board}
use Rattle.keep.proofs.Renewing.{sizes, part-long, part-stored, calls-renewed}
use Rattle.keep.proofs.renew_calls.Goals as goal

pub slice_bounds-store-count : goal.slice_bounds-store-count
slice_bounds-store-count c = let z = sizes (board c.args.m) in omega (arith, c.rows_at-to.ensures, c.calls_at-from.ensures)

pub slice_bounds-store-start : goal.slice_bounds-store-start
slice_bounds-store-start c = let z = sizes (board c.args.m) in omega (arith, c.rows_at-to.ensures, c.calls_at-from.ensures)

pub slice_bounds-store-end : goal.slice_bounds-store-end
slice_bounds-store-end c = let z = sizes (board c.args.m) in omega (arith, c.rows_at-to.ensures, c.calls_at-from.ensures)

pub store-requires : goal.store-requires
store-requires c =
    let z = sizes (board c.args.m) in
    let a = c.calls_at-from.ensures in
    let b = c.rows_at-to.ensures in
    let n = part-long c.args.kept.now c.calls_at-from.result (c.rows_at-to.result - c.calls_at-from.result) (omega arith) in
    omega arith

pub put16_at-requires : goal.put16_at-requires
put16_at-requires c =
    let z = sizes (board c.args.m) in
    let l = same_len_mid c.calls_at-from.result (c.rows_at-to.result - c.calls_at-from.result) c.args.kept.now c.store.new.calls c.store.auto.calls in
    omega (arith, c.requires.0)

pub put32_at-requires : goal.put32_at-requires
put32_at-requires c =
    let z = sizes (board c.args.m) in
    let l = same_len_mid c.calls_at-from.result (c.rows_at-to.result - c.calls_at-from.result) c.args.kept.now c.store.new.calls c.store.auto.calls in
    omega (arith, c.requires.0, c.put16_at.auto.buf)

pub returns : goal.returns
returns c es li =
    let z = sizes (board c.args.m) in
    let w = writes entry_row (map raw_entry es) in
    calls-renewed (board c.args.m) c.args.kept.now _ _ _ es c.args.calls.count c.args.next li.count
    (part-stored c.args.kept.now _ w c.calls_at-from.result c.rows_at-to.result (calls_at (board c.args.m)) (rows_at (board c.args.m)) c.calls_at-from.ensures c.rows_at-to.ensures (omega arith) (omega (arith, c.requires.0))
    (c.store.ensures ∙ ap (λ (l : List Entry). padded (length (take (c.rows_at-to.result - c.calls_at-from.result) (drop c.calls_at-from.result c.args.kept.now))) (writes entry_row (map raw_entry l))) li.entries))
    c.put16_at.ensures c.put32_at.ensures
