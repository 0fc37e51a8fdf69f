-- Lists they are; what is made stands at the front of the table.
use mathlib.Core.Path.{refl, ap, sym, ◌∙◌}
use mathlib.Core.List.{List, []}
use Prim.Native.Nat.{ℕ}
use native.Mathlib.Omega.{arith}
use lib.ListN.{take}
use Rattle.layout.specs.Rows.{row_table}
use Rattle.layout.proofs.Tables.{row-table-length}
use Rattle.meaning.specs.Types.{form_of}
use Rattle.reduce.proofs.AtOnce.{made-at-once}
use Rattle.reduce.proofs.Zipping.{whole}
use Rattle.reduce.proofs.zips.Zip.make.Goals as goal

pub all_lists-requires : goal.all_lists-requires
all_lists-requires c = let z = c.args.self.now.reads in (z.places, omega (arith, whole _ _ _ _ _ z))

pub returns-then-made : goal.returns-then-made
returns-then-made c =
    let a = c.args.self.now in
    let (x, r, t) = c.made.ensures in
    let h = (t.taken c.if-made.true [] (refl, omega arith, refl)).0 in
    made-at-once (form_of c.args.types.now) (row_table a.rows.now) _ _ x r (c.term_rows.ensures ∙ sym (row-table-length a.rows.now) ∙ sym a.reads.redex.one) h.0
    (ap (λ (y : List ℕ). take c.made.new.sink.rows (row_table y)) (c.to-1.given.1.1 (sym t.same_loan)) ∙ h.2)
