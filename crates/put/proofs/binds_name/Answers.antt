-- By the row's kind.
use Prim.Native.Nat.{ℕ}
use mathlib.Core.Path.{◌≡◌, ap, sym, ◌∙◌}
use native.Mathlib.Omega.{arith}
use lib.Dec.{eqb}
use Rattle.meaning.specs.Types.{form_of, find, params}
use Rattle.meaning.specs.Terms.{row_of}
use Rattle.std.specs.Prelude.{is_some}
use Rattle.put.proofs.Turning.{binds-fun, binds-let, binds-none}
use Rattle.put.proofs.binds_name.Goals as goal

pub returns-in-Some-Native : goal.returns-in-Some-Native
unfolding row_of
returns-in-Some-Native c =
    (
    let a = c.args in
    let F = form_of a.types.now in
    let k : a.r.kind ≡ 6 = rw c.in-Some-Native.field-0-is at c.in-Some-Native.ensures.number in
    c.has_name.ensures ∙ ap (λ (z : ℕ). is_some (find (params (F a.r.ty)) z)) c.word_of-x.ensures ∙ sym (binds-fun F a.r.kind a.r.n a.r.word a.r.ty a.y k))

pub returns-in-Some-Let : goal.returns-in-Some-Let
unfolding row_of
returns-in-Some-Let c =
    (
    let a = c.args in
    let F = form_of a.types.now in
    let k : a.r.kind ≡ 19 = rw c.in-Some-Let.field-0-is at c.in-Some-Let.ensures.number in
    ap (λ (z : ℕ). eqb z a.r.word) c.word_of-x.ensures ∙ sym (binds-let F a.r.kind a.r.n a.r.word a.r.ty a.y k))

pub returns-in_default : goal.returns-in_default
unfolding row_of
returns-in_default c =
    (
    let a = c.args in
    let native : a.r.kind ≡ 6 → ⊥ = grind arith in
    let bind : a.r.kind ≡ 19 → ⊥ = grind arith in
    sym (binds-none (form_of a.types.now) a.r.kind a.r.n a.r.word a.r.ty a.y native bind))

pub returns-in_default-2 : goal.returns-in_default-2
unfolding row_of
returns-in_default-2 c =
    (
    let a = c.args in
    let native : a.r.kind ≡ 6 → ⊥ = grind arith in
    let bind : a.r.kind ≡ 19 → ⊥ = grind arith in
    sym (binds-none (form_of a.types.now) a.r.kind a.r.n a.r.word a.r.ty a.y native bind))
