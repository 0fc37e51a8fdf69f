-- The loop's invariant: the arguments from the j-th on answer as all of them do.
use mathlib.Core.Path.{◌≡◌, ap, sym, ◌∙◌}
use native.Mathlib.Omega.{arith}
use Prim.Native.Nat.{ℕ, ◌-◌}
use mathlib.Core.List.{map}
use lib.ListN.{length}
use Rattle.layout.specs.Rows.{row_table}
use Rattle.meaning.specs.Terms.{row_of, tree_at, grove}
use Rattle.meaning.specs.Steps.{any_nil}
use Rattle.terms.proofs.Scan.{grove-none, size-some}
use Rattle.reduce.proofs.Roots.{arg-in, arg-next}
use Rattle.reduce.proofs.Parted.{bound-next}
use Rattle.reduce.proofs.Zipped.{nil-next, nil-stop, nil-over}
use Rattle.reduce.proofs.zips.any_nil.Goals as goal

pub loop-j-init : goal.loop-j-init
loop-j-init c =
    let a = c.args in
    let L = map row_of (row_table a.rows.now) in
    let z : a.n - 0 ≡ a.n = omega arith in
    (omega (arith, grove-none L a.first), ap (λ (x : ℕ). any_nil a.m (grove L a.first x)) z)

pub nil_at-requires : goal.nil_at-requires
nil_at-requires c =
    let a = c.args in
    let l = c.loop-j in
    let L = map row_of (row_table a.rows.now) in
    let g = arg-in L a.first a.n l.j l.at (length (row_table a.rows.now)) (omega arith) l.invariant.0 c.requires.1 in
    omega (arith, g, size-some (tree_at L l.at))

pub bounds-bounds-j : goal.bounds-bounds-j
bounds-bounds-j c = let p = c.requires.0 in omega (arith, p.few, p.long)

pub loop-j-preserved : goal.loop-j-preserved
loop-j-preserved c =
    let a = c.args in
    let l = c.loop-j in
    let L = map row_of (row_table a.rows.now) in
    let e = bound-next (row_table a.rows.now) a.first a.n a.bounds.now c.requires.0 l.j l.at _ (omega arith) l.invariant.0 c.wide-at.ensures in
    (arg-next L a.first l.j l.at _ l.invariant.0 e, sym (nil-next L l.left l.at a.n l.j (omega arith) _ _ e c.nil_at.ensures c.if-nil_at.false) ∙ l.invariant.1)

pub returns-then-nil_at : goal.returns-then-nil_at
returns-then-nil_at c =
    let a = c.args in
    let l = c.loop-j in
    let L = map row_of (row_table a.rows.now) in
    sym (sym l.invariant.1 ∙ nil-stop L l.left l.at a.n l.j (omega arith) _ c.nil_at.ensures c.if-nil_at.true)

pub returns : goal.returns
returns c =
    let a = c.args in
    let l = c.loop-j in
    sym (sym l.invariant.1 ∙ nil-over l.left a.n l.j (map row_of (row_table a.rows.now)) l.at (omega arith))
