-- The loop's invariant: the trees still owed from row i on end where the first tree ends, and it is a value if they are.
use Prim.Native.Nat.{ℕ, ◌+◌, ◌-◌}
use mathlib.Core.Path.{◌≡◌, sym, ap, ◌∙◌}
use native.Mathlib.Omega.{arith}
use Rattle.layout.specs.Rows.{numbers, term_rows}
use Rattle.meaning.specs.Terms.{arity, row_of, size, sizes, tree_at, grove}
use Rattle.meaning.specs.Steps.{values}
use Rattle.terms.proofs.Scan.{grove-size, grove-none, row-in, owed-some, owed-step}
use Rattle.search.proofs.Values.{spans-whole, spans-part, first-value, no-values, part-read, values-step}
use Rattle.search.proofs.value_rows.Goals as goal

pub loop-owed-init : goal.loop-owed-init
loop-owed-init c =
    let l = term_rows c.args.rows.now in
    (omega (arith, grove-size l 0 0, grove-none l (0 + size (tree_at l 0))), first-value l 0, omega arith)

pub row_at-row-requires : goal.row_at-row-requires
row_at-row-requires c =
    let a = c.args in
    let w = c.loop-owed in
    let some = owed-some (term_rows a.rows.now) w.i w.owed (omega (arith, c.loop-owed-test.true)) in
    omega (arith, c.requires.1, w.invariant.0)

pub loop-owed-smaller : goal.loop-owed-smaller
loop-owed-smaller c =
    let a = c.args in
    let p = c.requires in
    let w = c.loop-owed in
    let some = owed-some (term_rows a.rows.now) w.i w.owed (omega (arith, c.loop-owed-test.true)) in
    omega (arith, p.1, w.invariant.0)

pub loop-owed-preserved : goal.loop-owed-preserved
loop-owed-preserved c =
    let a = c.args in
    let p = c.requires in
    let w = c.loop-owed in
    let l = term_rows a.rows.now in
    let z : w.owed ≡ 0 → ⊥ = omega (arith, c.loop-owed-test.true) in
    let some = owed-some l w.i w.owed z in
    let r = c.row_at-row.result in
    let g = row-in a.rows.now w.i (numbers r) (omega (arith, p.1, w.invariant.0)) c.row_at-row.ensures in
    let part = part-read r (sym c.is_part.ensures ∙ c.if-not-is_part.false) in
    let s = owed-step l w.i w.owed z (row_of (numbers r)) g.0 g.1 in
    let v = values-step l w.i w.owed z (row_of (numbers r)) g.0 g.1 part.1 in
    let e : w.owed - 1 + c.parts_below.result ≡ w.owed - 1 + arity (row_of (numbers r)).head = ap (λ (x : ℕ). w.owed - 1 + x) (c.parts_below.ensures.value ∙ sym part.0) in (
      ap (λ (x : ℕ). w.i + 1 + sizes (grove l (w.i + 1) x)) e ∙ sym s ∙ w.invariant.0,
      ap (λ (x : ℕ). values (grove l (w.i + 1) x)) e ∙ sym v ∙ w.invariant.1,
      omega (arith, w.invariant.2, c.parts_below.ensures.few),
    )

pub returns-then-not-is_part : goal.returns-then-not-is_part
returns-then-not-is_part c =
    let a = c.args in
    let w = c.loop-owed in
    let some = owed-some (term_rows a.rows.now) w.i w.owed (omega (arith, c.loop-owed-test.true)) in
    spans-part _ _ (omega (arith, w.invariant.0))

pub returns : goal.returns
returns c =
    let a = c.args in
    let w = c.loop-owed in
    let l = term_rows a.rows.now in
    let z : w.owed ≡ 0 = omega (arith, c.loop-owed-test.false) in
    spans-whole _ _ (omega (arith, w.invariant.0, ap (λ (x : ℕ). sizes (grove l w.i x)) z, grove-none l w.i)) (sym w.invariant.1 ∙ ap (λ (x : ℕ). values (grove l w.i x)) z ∙ no-values l w.i)
