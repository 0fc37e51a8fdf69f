-- `keep::renew_rows` meets its contract. Assumes nothing.
use mathlib.Core.Path.{ap, ◌∙◌}
use Prim.Native.Nat.{ℕ, ◌+◌, ◌*◌, ◌-◌}
use mathlib.Core.List.{◌++◌}
use lib.ListN.{length, take, drop, replicate}
use native.Mathlib.Omega.{arith}
use Rattle.layout.specs.Rows.{board}
use Rattle.keep.proofs.Renewing.{sizes, rows-renewed}
use Rattle.keep.proofs.renew_rows.Goals as goal

pub overflow_add-at : goal.overflow_add-at
overflow_add-at c = let z = sizes (board c.args.m) in omega (arith, c.rows_at.ensures)

pub clear-requires : goal.clear-requires
clear-requires c = let z = sizes (board c.args.m) in omega (arith, c.rows_at.ensures)

pub put16_at-requires : goal.put16_at-requires
put16_at-requires c = let z = sizes (board c.args.m) in omega (arith, c.clear.auto.dst)

pub returns : goal.returns
returns c = rows-renewed (board c.args.m) c.args.kept.now _ _ c.args.rows c.requires.0 c.requires.1 (c.clear.ensures ∙ ap (λ (a : ℕ). take (a + 8 * c.args.rows) c.args.kept.now ++ (replicate (length c.args.kept.now - (a + 8 * c.args.rows)) 0 ++ drop (length c.args.kept.now) c.args.kept.now)) c.rows_at.ensures) c.put16_at.ensures
