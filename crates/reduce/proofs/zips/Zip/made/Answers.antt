-- By the first nil.
use Prim.Native.Nat.{ℕ}
use mathlib.Core.Path.{ap, sym, ◌∙◌}
use mathlib.Core.List.{List, [], ◌∷◌}
use native.Mathlib.Omega.{arith}
use Rattle.std.specs.Prelude.{Some}
use Rattle.layout.specs.Rows.{numbers, row_table}
use Rattle.meaning.specs.Types.{form_of}
use Rattle.reduce.proofs.Roots.{whole_in, some-row}
use Rattle.reduce.proofs.Zipping.{whole, places-there, zips-at, nil-made, cons-made}
use Rattle.reduce.proofs.zips.Zip.made.Goals as goal

pub any_nil-requires : goal.any_nil-requires
any_nil-requires g c = let z = c.args.self.now.reads in (z.places, omega (arith, whole _ _ _ _ _ z))

pub row_of-requires : goal.row_of-requires
row_of-requires g c = some-row (row_table c.args.self.now.rows.now) (whole_in c.args.self.now.reads.redex.one)

pub returns-then-any_nil : goal.returns-then-any_nil
returns-then-any_nil g c = (
  numbers c.made.result ∷ [],
  nil-made _ _ _ _ _ c.args.self.now.reads (form_of c.args.types.now) c.requires.lists (sym c.if-any_nil.true ∙ c.any_nil.ensures)
      ∙ ap (λ (r : List ℕ). Some (r ∷ [])) (ap (λ (t : ℕ). 12 ∷ 0 ∷ t ∷ 0 ∷ []) c.row_of.ensures.ty ∙ sym c.made.ensures),
  c.add.ensures,
)

pub take_full-requires-clause-zips : goal.take_full-requires-clause-zips
take_full-requires-clause-zips g c =
    let z = c.args.self.now.reads in
    (z.redex, zips-at _ _ _ _ _ z c.requires.lists (sym c.any_nil.ensures ∙ c.if-any_nil.false), places-there _ _ _ _ _ z)

pub returns : goal.returns
returns g c =
    let z = c.args.self.now.reads in
    (_, cons-made _ _ _ _ _ z (form_of c.args.types.now) (zips-at _ _ _ _ _ z c.requires.lists (sym c.any_nil.ensures ∙ c.if-any_nil.false)), c.take_full.ensures)
