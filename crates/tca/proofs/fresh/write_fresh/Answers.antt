-- `tca::fresh::write_fresh` meets its contract: part by part. Assumes nothing.
use Prim.Native.Nat.{◌+◌, ◌*◌}
use mathlib.Core.Path.{refl, ◌∙◌}
use native.Mathlib.Omega.{arith}
use lib.ListN.{length}
use Rattle.layout.specs.Rows.{board}
use Rattle.tca.proofs.FreshLaws.{sized, all-blank, rest-long, first-row, fresh-written}
use Rattle.tca.proofs.fresh.write_fresh.Goals as goal

pub type_count-types-requires : goal.type_count-types-requires
type_count-types-requires c = let z = sized _ _ _ c.requires.0 in omega arith

pub row_count-rows-requires : goal.row_count-rows-requires
row_count-rows-requires c = let z = sized _ _ _ c.requires.0 in omega arith

pub slice_bounds-behind-count : goal.slice_bounds-behind-count
slice_bounds-behind-count c = let z = sized _ _ _ c.requires.0 in omega (arith, c.type_count-types.ensures)

pub slice_bounds-behind-start : goal.slice_bounds-behind-start
slice_bounds-behind-start c = let z = sized _ _ _ c.requires.0 in omega (arith, c.type_count-types.ensures)

pub slice_bounds-behind-end : goal.slice_bounds-behind-end
slice_bounds-behind-end c = let z = sized _ _ _ c.requires.0 in omega (arith, c.type_count-types.ensures)

pub row_at-first-requires : goal.row_at-first-requires
row_at-first-requires c =
    let z = sized _ _ _ c.requires.0 in
    let a = c.args in
    rest-long a.file.now (10 + 36 * c.type_count-types.result) (omega (arith, c.type_count-types.ensures))

pub write_head-requires : goal.write_head-requires
write_head-requires c = let z = sized _ _ _ c.requires.0 in omega (arith, c.clear.auto.dst)

pub copy_to-requires : goal.copy_to-requires
copy_to-requires c = let z = sized _ _ _ c.requires.0 in (omega (arith, c.write_head.auto.kept, c.clear.auto.dst, c.type_count-types.ensures), omega (arith, c.type_count-types.ensures))

pub copy_to-requires-2 : goal.copy_to-requires-2
copy_to-requires-2 c = let z = sized _ _ _ c.requires.0 in (omega (arith, c.copy_to.auto.dst, c.write_head.auto.kept, c.clear.auto.dst, c.type_count-types.ensures, c.row_count-rows.ensures, c.rows_at.ensures), omega (arith, c.type_count-types.ensures, c.row_count-rows.ensures))

pub shape_of-kept : goal.shape_of-kept
shape_of-kept c = c.copy_to-2.auto.dst ∙ c.copy_to.auto.dst ∙ c.write_head.auto.kept ∙ c.clear.auto.dst

pub returns : goal.returns
returns c =
    let a = c.args in
    fresh-written (board a.m) a.file.now (length a.kept.now) c.requires.0 (λ i. omega (arith, c.shared_slice_known-1.given i)) c.requires.1 _ _ _ _ _ _ _ _ c.type_count-types.ensures c.row_count-rows.ensures (first-row a.file.now (10 + 36 * c.type_count-types.result) c.row_at-first.result (let z = sized _ _ _ c.requires.0 in omega (arith, c.type_count-types.ensures)) c.row_at-first.ensures) c.rows_at.ensures (all-blank a.kept.now _ (length a.kept.now) refl c.clear.ensures) c.write_head.ensures c.copy_to.ensures c.copy_to-2.ensures
