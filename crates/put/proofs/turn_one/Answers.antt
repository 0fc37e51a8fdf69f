-- By the row and the name.
use Prim.Native.Nat.{ℕ}
use mathlib.Core.Path.{◌≡◌, refl, ap, sym, ◌∙◌}
use mathlib.Core.List.{[], ◌∷◌}
use native.Mathlib.Omega.{arith}
use Rattle.meaning.specs.Types.{form_of, find, params}
use Rattle.meaning.specs.Terms.{row_of}
use Rattle.put.specs.Put.{Turns}
use Rattle.std.specs.Prelude.{is_some}
use Rattle.put.proofs.Turning.{chosen-var, chosen_none}
use Rattle.put.proofs.Bare.{bare-other}
use Rattle.put.proofs.Once.{all-shut, other-bare, other-chosen, one-picked, one-unpicked, one-among, one-bare}
use Rattle.put.proofs.turn_one.Goals as goal

pub returns-then-has_name : goal.returns-then-has_name
unfolding row_of Turns
returns-then-has_name c =
    (
    let a = c.args in
    let F = form_of a.types.now in
    let k : a.r.kind ≡ 6 = rw c.if-is.true at c.is.ensures.meaning in
    let h = ap (λ (z : ℕ). is_some (find (params (F a.r.ty)) z)) (sym c.word_of.ensures) ∙ sym c.has_name.ensures ∙ c.if-has_name.true in
    (chosen_none (a.x ∷ []) a.r.kind a.r.n a.r.word 0 (λ q. omega (arith, q, k)), all-shut F (a.x ∷ []) a.r.kind a.r.n a.r.word a.r.ty k (one-among a.x (params (F a.r.ty)) h)))

pub returns-then-is : goal.returns-then-is
unfolding row_of Turns
returns-then-is c =
    (
    let a = c.args in
    let F = form_of a.types.now in
    let k : a.r.kind ≡ 6 = rw c.if-is.true at c.is.ensures.meaning in
    let h = ap (λ (z : ℕ). is_some (find (params (F a.r.ty)) z)) (sym c.word_of.ensures) ∙ sym c.has_name.ensures ∙ c.if-has_name.false in
    (one-bare F a.x a.r.kind a.r.n a.r.word a.r.ty k h, chosen_none (a.x ∷ []) a.r.kind a.r.n a.r.word 0 (λ q. omega (arith, q, k))))

pub returns-then-r-word_of : goal.returns-then-r-word_of
unfolding row_of Turns
returns-then-r-word_of c =
    (
    let a = c.args in
    let F = form_of a.types.now in
    let f : a.r.kind ≡ 6 → ⊥ = rw c.if-is.false at c.is.ensures.meaning in
    let o = one-unpicked a.x a.r.word (λ q. c.if-r-word_of.true (q ∙ sym c.word_of-2.ensures)) in
    (other-bare F (a.x ∷ []) a.r.kind a.r.n a.r.word a.r.ty f o, other-chosen F (a.x ∷ []) a.r.kind a.r.n a.r.word a.r.ty f o))

pub returns-in-Some-Variable : goal.returns-in-Some-Variable
unfolding row_of Turns
returns-in-Some-Variable c =
    (
    let a = c.args in
    let F = form_of a.types.now in
    let k : a.r.kind ≡ 5 = rw c.in-Some-Variable.field-0-is at c.in-Some-Variable.ensures.number in
    (bare-other F (a.x ∷ []) a.r.kind a.r.n a.r.word a.r.ty (λ q. omega (arith, q, k)) (λ q. omega (arith, q, k)), (0, chosen-var (a.x ∷ []) a.r.kind a.r.n a.r.word 0 k ∙ one-picked a.x a.r.word (c.if-r-word_of.false ∙ c.word_of-2.ensures), refl, refl)))

pub returns-in-Some-Let : goal.returns-in-Some-Let
unfolding Turns
returns-in-Some-Let c = tt

pub returns-in_default : goal.returns-in_default
unfolding row_of Turns
returns-in_default c =
    (
    let a = c.args in
    let f : a.r.kind ≡ 6 → ⊥ = rw c.if-is.false at c.is.ensures.meaning in
    let variable : a.r.kind ≡ 5 → ⊥ = grind arith in
    let bind : a.r.kind ≡ 19 → ⊥ = grind arith in
    (bare-other (form_of a.types.now) (a.x ∷ []) a.r.kind a.r.n a.r.word a.r.ty f bind, chosen_none (a.x ∷ []) a.r.kind a.r.n a.r.word 0 variable))

pub returns-in_default-2 : goal.returns-in_default-2
unfolding row_of Turns
returns-in_default-2 c =
    (
    let a = c.args in
    let f : a.r.kind ≡ 6 → ⊥ = rw c.if-is.false at c.is.ensures.meaning in
    let variable : a.r.kind ≡ 5 → ⊥ = grind arith in
    let bind : a.r.kind ≡ 19 → ⊥ = grind arith in
    (bare-other (form_of a.types.now) (a.x ∷ []) a.r.kind a.r.n a.r.word a.r.ty f bind, chosen_none (a.x ∷ []) a.r.kind a.r.n a.r.word 0 variable))
