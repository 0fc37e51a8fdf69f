-- By the mask and the kind.
use mathlib.Core.Path.{ap, sym, ◌∙◌}
use Prim.Native.Nat.{ℕ}
use lib.Dec.{eqb}
use Rattle.layout.specs.Rows.{row_table}
use Rattle.reduce.proofs.Zipped.{nil-unmasked, nil-masked}
use Rattle.reduce.proofs.zips.nil_at.Goals as goal

pub returns-then-h-ne1 : goal.returns-then-h-ne1
returns-then-h-ne1 c = nil-unmasked (row_table c.args.rows.now) c.args.at c.args.h c.requires c.if-h-ne1.true

pub returns : goal.returns
returns c = nil-masked (row_table c.args.rows.now) c.args.at c.args.h c.requires c.if-h-ne1.false _ (c.is.ensures.test ∙ ap (λ (x : ℕ). eqb x 12) (sym c.row_of.ensures.kind))
