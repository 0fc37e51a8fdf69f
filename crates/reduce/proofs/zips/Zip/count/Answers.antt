-- By the masked arguments.
use mathlib.Core.Path.{refl, sym, ◌∙◌}
use native.Mathlib.Omega.{arith}
use Rattle.reduce.proofs.Told.{size-told, none_told}
use Rattle.reduce.proofs.Zipping.{whole, places-there, zips-at, stays, nil-made, cons-made}
use Rattle.reduce.proofs.zips.Zip.count.Goals as goal

pub all_lists-requires : goal.all_lists-requires
all_lists-requires c = let z = c.args.self.now.reads in (z.places, omega (arith, whole _ _ _ _ _ z))

pub returns-then-not-all_lists : goal.returns-then-not-all_lists
returns-then-not-all_lists c = λ form. none_told _ (stays _ _ _ _ _ c.args.self.now.reads form (sym c.if-not-all_lists.true ∙ c.all_lists.ensures))

pub any_nil-requires : goal.any_nil-requires
any_nil-requires c = let z = c.args.self.now.reads in (z.places, omega (arith, whole _ _ _ _ _ z))

pub returns-then-any_nil : goal.returns-then-any_nil
returns-then-any_nil c =
    let z = c.args.self.now.reads in
    λ form. size-told _ _ 1 (nil-made _ _ _ _ _ z form (sym c.all_lists.ensures ∙ c.if-not-all_lists.false) (sym c.if-any_nil.true ∙ c.any_nil.ensures)) refl

pub count_full-requires : goal.count_full-requires
count_full-requires c =
    let z = c.args.self.now.reads in
    (z.redex, zips-at _ _ _ _ _ z (sym c.all_lists.ensures ∙ c.if-not-all_lists.false) (sym c.any_nil.ensures ∙ c.if-any_nil.false), places-there _ _ _ _ _ z)

pub returns : goal.returns
returns c =
    let z = c.args.self.now.reads in
    let full = zips-at _ _ _ _ _ z (sym c.all_lists.ensures ∙ c.if-not-all_lists.false) (sym c.any_nil.ensures ∙ c.if-any_nil.false) in
    λ form. size-told _ _ _ (cons-made _ _ _ _ _ z form full) (c.count_full.ensures form)
