-- A binder's last tree gets its own mask, any other row's trees get the row's.
use Prim.Native.Nat.{◌-◌, ◌+◌}
use mathlib.Core.Path.{◌≡◌, ◌∙◌}
use native.Mathlib.Omega.{arith}
use lib.ListN.{drop, length-set, length-drop}
use lib.Seq.{length-take-le}
use borrow.Rule.Slice.PartMut.{same_len_mid}
use Rattle.meaning.specs.Terms.{row_of}
use Rattle.meaning.specs.Types.{form_of}
use Rattle.put.proofs.Turning.{let-two, step-fun, step-let, step_other}
use Rattle.put.proofs.descend.Goals.{in_default-via-in-Some+in_default, in_default-via-in_default}
use Rattle.put.proofs.descend.Goals as goal

pub returns-in-Some-Native : goal.returns-in-Some-Native
unfolding row_of
returns-in-Some-Native c =
    (
    let a = c.args in
    let k : a.r.kind ≡ 6 = rw c.in-Some-Native.field-0-is at c.in-Some-Native.ensures.number in
    step-fun (form_of a.types.now) a.names.now a.r.kind a.r.n a.r.word a.r.ty a.masks.now a.owed (omega arith) (omega arith) _ _ k c.marked.ensures c.children.ensures.0)

pub bounds-masks-owed : goal.bounds-masks-owed
unfolding row_of
bounds-masks-owed c =
    (
    let r = c.args.r in
    let k : r.kind ≡ 19 = rw c.in-Some-Let.field-0-is at c.in-Some-Let.ensures.number in
    rw (length-set _ _ _) (omega (arith, c.requires.3, let-two r.kind r.n r.word k)))

pub returns-in-Some-Let : goal.returns-in-Some-Let
unfolding row_of
returns-in-Some-Let c =
    (
    let a = c.args in
    let k : a.r.kind ≡ 19 = rw c.in-Some-Let.field-0-is at c.in-Some-Let.ensures.number in
    step-let (form_of a.types.now) a.names.now a.r.kind a.r.n a.r.word a.r.ty a.masks.now a.owed (omega arith) (omega arith) _ _ k c.marked-in-Some-Let.ensures c.children.ensures.0 c.requires.3)

pub returns-in_default : goal.returns-in_default
unfolding row_of
returns-in_default c =
    (
    let a = c.args in
    let native : a.r.kind ≡ 6 → ⊥ = elim c.in_default.branch [ in_default-via-in-Some+in_default w ↦ grind arith | in_default-via-in_default w ↦ grind arith ] in
    let bind : a.r.kind ≡ 19 → ⊥ = elim c.in_default.branch [ in_default-via-in-Some+in_default w ↦ grind arith | in_default-via-in_default w ↦ grind arith ] in
    let many = length-take-le (a.owed - 1 + c.children.result - (a.owed - 1)) (drop (a.owed - 1) a.masks.now) (omega (arith, length-drop (a.owed - 1) a.masks.now, c.requires.3, c.children.ensures.0)) in
    step_other (form_of a.types.now) a.names.now a.r.kind a.r.n a.r.word a.r.ty a.masks.now a.owed (omega arith) (omega arith) _ _ _ _ native bind c.children.ensures.0 (same_len_mid _ _ _ _ c.fill.ensures.len) (c.fill.ensures.after (λ y e. e)) (many ∙ omega arith))
