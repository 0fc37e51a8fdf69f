-- A binder by its mask; no other row hides a name.
use mathlib.Core.Path.{◌≡◌, sym, ◌∙◌}
use native.Mathlib.Omega.{arith}
use Rattle.meaning.specs.Types.{form_of}
use Rattle.meaning.specs.Terms.{row_of}
use Rattle.put.proofs.Bare.{bare-other, bare-let}
use Rattle.put.proofs.hides_some.Goals as goal

pub returns-in-Some-Let : goal.returns-in-Some-Let
unfolding row_of
returns-in-Some-Let c =
    (
    let a = c.args in
    let k : a.r.kind ≡ 19 = rw c.in-Some-Let.field-0-is at c.in-Some-Let.ensures.number in
    λ q. bare-let (form_of a.types.now) a.names.now a.r.kind a.r.n a.r.word a.r.ty k (sym c.is_name.ensures ∙ q))

pub returns-in_default : goal.returns-in_default
unfolding row_of
returns-in_default c =
    (
    let a = c.args in
    let native : a.r.kind ≡ 6 → ⊥ = grind arith in
    let bind : a.r.kind ≡ 19 → ⊥ = grind arith in
    λ q. bare-other (form_of a.types.now) a.names.now a.r.kind a.r.n a.r.word a.r.ty native bind)

pub returns-in_default-2 : goal.returns-in_default-2
unfolding row_of
returns-in_default-2 c =
    (
    let a = c.args in
    let native : a.r.kind ≡ 6 → ⊥ = grind arith in
    let bind : a.r.kind ≡ 19 → ⊥ = grind arith in
    λ q. bare-other (form_of a.types.now) a.names.now a.r.kind a.r.n a.r.word a.r.ty native bind)
