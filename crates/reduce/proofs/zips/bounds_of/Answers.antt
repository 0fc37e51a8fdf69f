-- The bounds are filled in.
use Prim.Native.Nat.{ℕ, ◌+◌}
use mathlib.Core.Path.{refl, ap, sym, ◌∙◌, subst}
use mathlib.Core.List.{map}
use native.Mathlib.Omega.{arith}
use Rattle.layout.specs.Rows.{row_table}
use Rattle.meaning.specs.Terms.{row_of, sizes, grove}
use Rattle.reduce.specs.Halves.{BoundsAt}
use Rattle.reduce.proofs.Roots.{whole_in, some-row}
use Rattle.reduce.proofs.Zipped.{zip-whole}
use Rattle.reduce.proofs.zips.bounds_of.Goals as goal

pub row_of-requires : goal.row_of-requires
row_of-requires c = some-row (row_table c.args.rows.now) (whole_in c.requires.0.one)

pub zip_bounds-requires : goal.zip_bounds-requires
zip_bounds-requires c =
    let T = row_table c.args.rows.now in
    let R = c.requires.0 in
    let first = c.args.first in
    let (e, q, g) = c.requires.1 in
    let i = c.row_of.ensures.n in
    (refl, omega (arith, R.few), omega (arith, i, R.args e), ap (λ (x : ℕ). first + sizes (grove (map row_of T) first x)) (sym i) ∙ zip-whole T R.exact R.one e q first g)

pub returns : goal.returns
returns c =
    let T = row_table c.args.rows.now in
    let R = c.requires.0 in
    let i = c.row_of.ensures.n in
    let f = c.zip_bounds in
    let d : BoundsAt T c.args.first c.row_of.result.n f.new.bounds = record { long = f.auto.bounds; few = omega (arith, i, R.args c.requires.1.0); places = f.ensures } in
    subst (λ (x : ℕ). BoundsAt T c.args.first x f.new.bounds) (sym i) d
