-- By the mask and the kind.
use mathlib.Core.Path.{◌≡◌, ap, sym, ◌∙◌}
use Prim.Native.Nat.{ℕ}
use native.Mathlib.Omega.{arith}
use lib.Dec.{eqb}
use Rattle.layout.specs.Rows.{row_table}
use Rattle.meaning.specs.Terms.{kind_no}
use Rattle.reduce.specs.Plan.{row_no}
use Rattle.reduce.proofs.Zipped.{ready-unmasked, ready-list, list-nil, list-other}
use Rattle.reduce.proofs.zips.ready_at.Goals as goal

pub returns-then-h-ne1 : goal.returns-then-h-ne1
returns-then-h-ne1 c = ready-unmasked (row_table c.args.rows.now) c.args.at c.args.h c.requires c.if-h-ne1.true

pub returns-then-is : goal.returns-then-is
returns-then-is c =
    let k : kind_no (row_no (row_table c.args.rows.now) c.args.at) ≡ 12 = grind arith in
    ready-list (row_table c.args.rows.now) c.args.at c.args.h c.requires c.if-h-ne1.false _ (c.if-is.true ∙ list-nil _ k)

pub returns-else-is : goal.returns-else-is
returns-else-is c =
    ready-list (row_table c.args.rows.now) c.args.at c.args.h c.requires c.if-h-ne1.false _ (c.is-else-is.ensures.test ∙ ap (λ (x : ℕ). eqb x 13) (sym c.row_of-r.ensures.kind) ∙ list-other _ (λ q. absurd (grind (arith, q))))
