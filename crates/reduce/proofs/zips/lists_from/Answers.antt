-- The loop's invariant: the arguments from row `at` on, those that are left, answer as all do.
use Prim.Native.Nat.{ℕ, ◌+◌, ◌-◌, ◌/◌}
use mathlib.Core.Path.{◌≡◌, ap, sym, ◌∙◌}
use mathlib.Core.List.{map}
use native.Mathlib.Omega.{arith}
use Rattle.layout.specs.Rows.{row_table}
use Rattle.layout.proofs.Tables.{row-table-length}
use Rattle.meaning.specs.Terms.{row_of, sizes, tree_at, grove}
use Rattle.meaning.specs.Steps.{ready}
use Rattle.terms.proofs.Scan.{size-some}
use Rattle.reduce.proofs.Listed.{none-listed, listed-size, listed_next, listed-stop, listed-last}
use Rattle.reduce.proofs.zips.lists_from.Goals as goal

pub returns-then-n-eq0 : goal.returns-then-n-eq0
returns-then-n-eq0 c = let a = c.args in none-listed a.m (map row_of (row_table a.rows.now)) a.first a.n c.if-n-eq0.true

pub loop-j-init : goal.loop-j-init
loop-j-init c =
    let a = c.args in
    let L = map row_of (row_table a.rows.now) in
    let k : a.n - 1 + 1 ≡ a.n = omega (arith, c.if-n-eq0.false) in
    (rw k c.requires.1, ap (λ (x : ℕ). ready a.m (grove L a.first x)) k)

pub ready_at-requires : goal.ready_at-requires
ready_at-requires c =
    let L = map row_of (row_table c.args.rows.now) in
    let w = c.loop-j in
    omega (arith, w.invariant.0, listed-size L w.h w.at (c.args.n - w.j + 1) (omega arith), size-some (tree_at L w.at))

pub far_end-at-requires : goal.far_end-at-requires
far_end-at-requires c =
    let L = map row_of (row_table c.args.rows.now) in
    let w = c.loop-j in
    (c.requires.0, omega (arith, w.invariant.0, listed-size L w.h w.at (c.args.n - w.j + 1) (omega arith), row-table-length c.args.rows.now))

pub loop-j-preserved : goal.loop-j-preserved
loop-j-preserved c =
    let L = map row_of (row_table c.args.rows.now) in
    let w = c.loop-j in
    let k = c.args.n - w.j + 1 in
    let e = c.far_end-at.ensures in
    let s : c.args.n - (w.j + 1) + 1 ≡ k - 1 = omega arith in (
      rw s (omega (arith, w.invariant.0, listed-size L w.h w.at k (omega arith), ap (λ (x : ℕ). x + sizes (grove L x (k - 1))) e)),
      ap (λ (x : ℕ). ready (w.h / 2) (grove L c.far_end-at.result x)) s ∙ sym (listed_next L w.h w.at k (omega arith) _ _ e c.ready_at.ensures c.if-not-ready_at.false) ∙ w.invariant.1,
    )

pub returns-then-not-ready_at : goal.returns-then-not-ready_at
returns-then-not-ready_at c =
    let L = map row_of (row_table c.args.rows.now) in
    let w = c.loop-j in
    sym (sym w.invariant.1 ∙ listed-stop L w.h w.at (c.args.n - w.j + 1) (omega arith) _ c.ready_at.ensures c.if-not-ready_at.true)

pub ready_at-requires-2 : goal.ready_at-requires-2
ready_at-requires-2 c =
    let L = map row_of (row_table c.args.rows.now) in
    let w = c.loop-j in
    omega (arith, w.invariant.0, listed-size L w.h w.at (c.args.n - w.j + 1) (omega arith), size-some (tree_at L w.at))

pub returns : goal.returns
returns c =
    let L = map row_of (row_table c.args.rows.now) in
    let w = c.loop-j in
    listed-last L w.h w.at (c.args.n - w.j + 1) (omega arith) _ (omega (arith, c.if-n-eq0.false)) c.ready_at-2.ensures ∙ w.invariant.1
