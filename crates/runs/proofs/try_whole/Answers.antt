-- The tree's rows are lent to its rule.
use Prim.Native.Nat.{ℕ, ◌+◌, ◌*◌, ◌-◌, ◌≤◌}
use mathlib.Core.Path.{◌≡◌, refl, ap, sym, ◌∙◌}
use mathlib.Core.List.{List}
use native.Mathlib.Omega.{arith}
use lib.ListN.{length, take, drop}
use Rattle.layout.specs.Rows.{term_rows}
use Rattle.meaning.specs.Types.{form_of}
use Rattle.meaning.specs.Terms.{size, tree_of}
use Rattle.reduce.specs.Rule.{size_if, rule_of}
use Rattle.search.proofs.Tables.{lent_length, lent-tree}
use Rattle.meaning.specs.Records.{types_in}
use Rattle.runs.specs.Sites.{Tells}
use Rattle.runs.proofs.Tries.{lent-types, here-fits, here-tree, here-redex, here-stays, here-turns}
use Rattle.runs.proofs.Finds.{stays-not-uncounted, goes-not-uncounted}
use Rattle.runs.proofs.try_whole.Goals as goal

pub end_of-n-requires : goal.end_of-n-requires
end_of-n-requires c =
    let args = c.args in
    let pre = c.requires in
    let w = pre.3 in
    let x = take (length args.work.now - 8 * args.s.r) (drop (8 * args.s.r) args.work.now) in
    let h : 8 * args.s.r ≤ length args.work.now = omega (arith, w.3.ends) in
    let n = lent_length args.work.now x args.s.r h refl in
    let q = ap size (lent-tree args.work.now x args.s.r h refl ∙ here-tree _ w.2.number w.0 args.work.now w.1 args.s w.2.whole w.2.halted pre.2) in
    (omega (arith, n, pre.1), omega (arith, n, q, here-fits _ w.2.number w.0 args.work.now w.1 args.s w.2.whole w.2.halted pre.2))

pub overflow_mul-b : goal.overflow_mul-b
overflow_mul-b c =
    let args = c.args in
    let pre = c.requires in
    let w = pre.3 in
    let x = take (length args.work.now - 8 * args.s.r) (drop (8 * args.s.r) args.work.now) in
    let h : 8 * args.s.r ≤ length args.work.now = omega (arith, w.3.ends) in
    let q = ap size (lent-tree args.work.now x args.s.r h refl ∙ here-tree _ w.2.number w.0 args.work.now w.1 args.s w.2.whole w.2.halted pre.2) in
    omega (arith, c.end_of-n.ensures, q, pre.1, here-fits _ w.2.number w.0 args.work.now w.1 args.s w.2.whole w.2.halted pre.2)

pub overflow_add-b : goal.overflow_add-b
overflow_add-b c =
    let args = c.args in
    let pre = c.requires in
    let w = pre.3 in
    let x = take (length args.work.now - 8 * args.s.r) (drop (8 * args.s.r) args.work.now) in
    let h : 8 * args.s.r ≤ length args.work.now = omega (arith, w.3.ends) in
    let q = ap size (lent-tree args.work.now x args.s.r h refl ∙ here-tree _ w.2.number w.0 args.work.now w.1 args.s w.2.whole w.2.halted pre.2) in
    omega (arith, c.end_of-n.ensures, q, pre.1, w.3.ends, here-fits _ w.2.number w.0 args.work.now w.1 args.s w.2.whole w.2.halted pre.2)

pub slice_bounds-count-end : goal.slice_bounds-count-end
slice_bounds-count-end c =
    let args = c.args in
    let pre = c.requires in
    let w = pre.3 in
    let x = take (length args.work.now - 8 * args.s.r) (drop (8 * args.s.r) args.work.now) in
    let h : 8 * args.s.r ≤ length args.work.now = omega (arith, w.3.ends) in
    let q = ap size (lent-tree args.work.now x args.s.r h refl ∙ here-tree _ w.2.number w.0 args.work.now w.1 args.s w.2.whole w.2.halted pre.2) in
    omega (arith, c.end_of-n.ensures, q, pre.1, w.3.ends, here-fits _ w.2.number w.0 args.work.now w.1 args.s w.2.whole w.2.halted pre.2)

pub count-requires : goal.count-requires
count-requires c =
    let args = c.args in
    let pre = c.requires in
    let w = pre.3 in
    let n = c.end_of-n.result in
    let x = take (length args.work.now - 8 * args.s.r) (drop (8 * args.s.r) args.work.now) in
    let h : 8 * args.s.r ≤ length args.work.now = omega (arith, w.3.ends) in
    let q : n ≡ size w.2.halted.tree = omega (arith, c.end_of-n.ensures, ap size (lent-tree args.work.now x args.s.r h refl ∙ here-tree _ w.2.number w.0 args.work.now w.1 args.s w.2.whole w.2.halted pre.2)) in
    let z : 8 * args.s.r + 8 * n - 8 * args.s.r ≡ 8 * n = omega arith in
    here-redex _ w.2.number w.0 args.work.now w.1 args.s w.2.whole w.2.halted pre.2 n _ q (ap (λ (i : ℕ). take i (drop (8 * args.s.r) args.work.now)) z) w.3.ends w.2.count w.2.in-range (omega (arith, q, w.4, here-fits _ w.2.number w.0 args.work.now w.1 args.s w.2.whole w.2.halted pre.2))

pub returns-in-None : goal.returns-in-None
unfolding Tells
returns-in-None c =
    (
    let args = c.args in
    let pre = c.requires in
    let w = pre.3 in
    let n = c.end_of-n.result in
    let y = take (length args.work.now - 8 * args.s.r) (drop (8 * args.s.r) args.work.now) in
    let g : 8 * args.s.r ≤ length args.work.now = omega (arith, w.3.ends) in
    let z : 8 * args.s.r + 8 * n - 8 * args.s.r ≡ 8 * n = omega arith in
    let form = form_of (types_in args.kept.now) in
    let x = take (8 * args.s.r + 8 * n - 8 * args.s.r) (drop (8 * args.s.r) args.work.now) in
    let types = c.new.ensures ∙ lent-types args.kept.now c.types_end-e.result c.types_end-e.ensures pre.0 in
    let o = c.count.ensures ∙ ap (λ (l : List (List ℕ)). size_if (rule_of (form_of l) (tree_of (term_rows x)))) types in (
      λ left frames k t h.
          let q : n ≡ size h.tree = omega (arith, c.end_of-n.ensures, ap size (lent-tree args.work.now y args.s.r g refl ∙ here-tree form k left args.work.now frames args.s t h pre.2)) in
          here-stays form k left args.work.now frames args.s t h pre.2 n x q (ap (λ (i : ℕ). take i (drop (8 * args.s.r) args.work.now)) z) w.3.ends (sym c.in-None.is ∙ o),
      stays-not-uncounted,
    ))

pub returns-in-Some : goal.returns-in-Some
unfolding Tells
returns-in-Some c =
    (
    let args = c.args in
    let pre = c.requires in
    let w = pre.3 in
    let n = c.end_of-n.result in
    let y = take (length args.work.now - 8 * args.s.r) (drop (8 * args.s.r) args.work.now) in
    let g : 8 * args.s.r ≤ length args.work.now = omega (arith, w.3.ends) in
    let z : 8 * args.s.r + 8 * n - 8 * args.s.r ≡ 8 * n = omega arith in
    let form = form_of (types_in args.kept.now) in
    let x = take (8 * args.s.r + 8 * n - 8 * args.s.r) (drop (8 * args.s.r) args.work.now) in
    let types = c.new.ensures ∙ lent-types args.kept.now c.types_end-e.result c.types_end-e.ensures pre.0 in
    let o = c.count.ensures ∙ ap (λ (l : List (List ℕ)). size_if (rule_of (form_of l) (tree_of (term_rows x)))) types in (
      λ left frames k t h.
          let q : n ≡ size h.tree = omega (arith, c.end_of-n.ensures, ap size (lent-tree args.work.now y args.s.r g refl ∙ here-tree form k left args.work.now frames args.s t h pre.2)) in
          here-turns form k left args.work.now frames args.s t h pre.2 n x q (ap (λ (i : ℕ). take i (drop (8 * args.s.r) args.work.now)) z) w.3.ends c.in-Some.new (sym c.in-Some.is ∙ o),
      goes-not-uncounted _ _,
    ))
