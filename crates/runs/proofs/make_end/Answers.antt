-- The types and the rows lent, the new rows written.
use Prim.Native.Nat.{ℕ, ◌+◌, ◌*◌, ◌-◌, ◌≤◌}
use mathlib.Core.Path.{◌≡◌, refl, ap, sym, ◌∙◌}
use mathlib.Core.List.{List, ◌++◌}
use native.Mathlib.Omega.{arith}
use lib.ListN.{length, take, drop, length-take, length-drop}
use lib.Seq.{drop-drop}
use Rattle.search.proofs.Tables.{pasted_length}
use Rattle.layout.specs.Rows.{board, term_rows}
use Rattle.meaning.specs.Types.{form_of}
use Rattle.meaning.specs.Terms.{tree_of}
use Rattle.meaning.specs.Records.{type_count, types_in}
use Rattle.reduce.specs.Rule.{rows_if, rule_of}
use Rattle.runs.specs.Going.{space}
use Rattle.runs.proofs.PutBack.{record-long, rows-from}
use Rattle.runs.proofs.GoingOn.{lent_rows}
use Rattle.runs.proofs.Tries.{lent-types, types-fit}
use Rattle.runs.proofs.EndTries.{ending-fits, ending-some, ending-deep, ending-redex, ending-rows, end-makes}
use Rattle.runs.proofs.make_end.Goals as goal

pub types_end-e-requires : goal.types_end-e-requires
types_end-e-requires c = omega (arith, c.requires.0, record-long (board c.args.m), rows-from (board c.args.m))

pub overflow_sub-p : goal.overflow_sub-p
overflow_sub-p c =
    let args = c.args in
    let pre = c.requires in
    let G = pre.5 in
    let mb = board args.m in
    let left = space mb args.kept.now in
    let form = form_of (types_in args.kept.now) in
    let rl = record-long mb in
    let l8 : 8 * args.s.l ≤ length left = omega (arith, G.1.left-long) in
    let of = ending-fits form left args.work.now G.0 args.s args.old args.new pre.2 l8 G.3 in
    omega (arith, of)

pub overflow_add-p : goal.overflow_add-p
overflow_add-p c =
    let args = c.args in
    let pre = c.requires in
    let G = pre.5 in
    let mb = board args.m in
    let left = space mb args.kept.now in
    let form = form_of (types_in args.kept.now) in
    let rl = record-long mb in
    let l8 : 8 * args.s.l ≤ length left = omega (arith, G.1.left-long) in
    let of = ending-fits form left args.work.now G.0 args.s args.old args.new pre.2 l8 G.3 in
    omega (arith, of, pre.0, pre.4, c.rows_at.ensures, rl)

pub overflow_mul-q : goal.overflow_mul-q
overflow_mul-q c =
    let args = c.args in
    let pre = c.requires in
    let G = pre.5 in
    let mb = board args.m in
    let left = space mb args.kept.now in
    let form = form_of (types_in args.kept.now) in
    let rl = record-long mb in
    let l8 : 8 * args.s.l ≤ length left = omega (arith, G.1.left-long) in
    let of = ending-fits form left args.work.now G.0 args.s args.old args.new pre.2 l8 G.3 in
    omega (arith, of, G.1.rows)

pub overflow_add-q : goal.overflow_add-q
overflow_add-q c =
    let args = c.args in
    let pre = c.requires in
    let G = pre.5 in
    let mb = board args.m in
    let left = space mb args.kept.now in
    let form = form_of (types_in args.kept.now) in
    let rl = record-long mb in
    let l8 : 8 * args.s.l ≤ length left = omega (arith, G.1.left-long) in
    let of = ending-fits form left args.work.now G.0 args.s args.old args.new pre.2 l8 G.3 in
    omega (arith, of, pre.0, pre.4, c.rows_at.ensures, rl)

pub slice_bounds-new-end : goal.slice_bounds-new-end
slice_bounds-new-end c =
    let args = c.args in
    let pre = c.requires in
    let G = pre.5 in
    let mb = board args.m in
    let left = space mb args.kept.now in
    let form = form_of (types_in args.kept.now) in
    let rl = record-long mb in
    let l8 : 8 * args.s.l ≤ length left = omega (arith, G.1.left-long) in
    let of = ending-fits form left args.work.now G.0 args.s args.old args.new pre.2 l8 G.3 in
    omega (arith, c.types_end-e.ensures, pre.0, types-fit mb (type_count args.kept.now) pre.1, rl)

pub slice_bounds-reduce-end : goal.slice_bounds-reduce-end
slice_bounds-reduce-end c =
    let args = c.args in
    let pre = c.requires in
    let G = pre.5 in
    let mb = board args.m in
    let left = space mb args.kept.now in
    let form = form_of (types_in args.kept.now) in
    let rl = record-long mb in
    let l8 : 8 * args.s.l ≤ length left = omega (arith, G.1.left-long) in
    let of = ending-fits form left args.work.now G.0 args.s args.old args.new pre.2 l8 G.3 in
    omega (arith, of, pre.0, pre.4, c.rows_at.ensures, rl)

pub reduce-requires : goal.reduce-requires
reduce-requires c =
    let args = c.args in
    let pre = c.requires in
    let G = pre.5 in
    let mb = board args.m in
    let left = space mb args.kept.now in
    let form = form_of (types_in args.kept.now) in
    let rl = record-long mb in
    let l8 : 8 * args.s.l ≤ length left = omega (arith, G.1.left-long) in
    let of = ending-fits form left args.work.now G.0 args.s args.old args.new pre.2 l8 G.3 in
    let p0 = c.rows_at.result in
    let x = take (p0 + 8 * (args.s.l - args.old) + 8 * args.old - (p0 + 8 * (args.s.l - args.old))) (drop (p0 + 8 * (args.s.l - args.old)) args.kept.now) in
    let ex = lent_rows mb args.kept.now p0 (8 * (args.s.l - args.old)) (8 * args.old) c.rows_at.ensures in
    let types = c.new.ensures ∙ lent-types args.kept.now c.types_end-e.result c.types_end-e.ensures (omega (arith, types-fit mb (type_count args.kept.now) pre.1, pre.0, rl)) in
    let b1 = 8 * (args.s.r - args.new) in
    let lt0 : length (take (b1 + 8 * args.new - b1) (drop b1 args.work.now)) ≡ 8 * args.new = length-take (b1 + 8 * args.new - b1) (drop b1 args.work.now) ∙ omega (arith, length-drop b1 args.work.now, G.1.ends, G.2) in
    let some = ending-some form left args.work.now G.0 args.s args.old args.new pre.2 l8 G.3 in (
      ending-redex form left args.work.now G.0 args.s args.old args.new pre.2 l8 G.3 x ex (omega (arith, of, pre.3, pre.4)),
      omega (arith, lt0, some),
      lt0 ∙ ap (λ (i : ℕ). 8 * i) (sym (ap (λ (l : List (List ℕ)). length (rows_if (rule_of (form_of l) (tree_of (term_rows x))))) types ∙ ending-rows form left args.work.now G.0 args.s args.old args.new pre.2 l8 G.3 x ex)),
    )

pub overflow_sub-result : goal.overflow_sub-result
overflow_sub-result c =
    let args = c.args in
    let pre = c.requires in
    let G = pre.5 in
    let mb = board args.m in
    let left = space mb args.kept.now in
    let form = form_of (types_in args.kept.now) in
    let rl = record-long mb in
    let l8 : 8 * args.s.l ≤ length left = omega (arith, G.1.left-long) in
    let of = ending-fits form left args.work.now G.0 args.s args.old args.new pre.2 l8 G.3 in
    omega (arith, of)

pub overflow_sub-result-3 : goal.overflow_sub-result-3
overflow_sub-result-3 c =
    let args = c.args in
    let pre = c.requires in
    let G = pre.5 in
    let mb = board args.m in
    let left = space mb args.kept.now in
    let form = form_of (types_in args.kept.now) in
    let rl = record-long mb in
    let l8 : 8 * args.s.l ≤ length left = omega (arith, G.1.left-long) in
    let of = ending-fits form left args.work.now G.0 args.s args.old args.new pre.2 l8 G.3 in
    omega (arith, ending-deep form left args.work.now G.0 args.s args.old args.new pre.2 l8 G.3)

pub returns : goal.returns
returns c =
    let args = c.args in
    let pre = c.requires in
    let G = pre.5 in
    let mb = board args.m in
    let left = space mb args.kept.now in
    let form = form_of (types_in args.kept.now) in
    let rl = record-long mb in
    let l8 : 8 * args.s.l ≤ length left = omega (arith, G.1.left-long) in
    let of = ending-fits form left args.work.now G.0 args.s args.old args.new pre.2 l8 G.3 in
    let p0 = c.rows_at.result in
    let x = take (p0 + 8 * (args.s.l - args.old) + 8 * args.old - (p0 + 8 * (args.s.l - args.old))) (drop (p0 + 8 * (args.s.l - args.old)) args.kept.now) in
    let ex = lent_rows mb args.kept.now p0 (8 * (args.s.l - args.old)) (8 * args.old) c.rows_at.ensures in
    let types = c.new.ensures ∙ lent-types args.kept.now c.types_end-e.result c.types_end-e.ensures (omega (arith, types-fit mb (type_count args.kept.now) pre.1, pre.0, rl)) in
    let b1 = 8 * (args.s.r - args.new) in
    let lt0 : length (take (b1 + 8 * args.new - b1) (drop b1 args.work.now)) ≡ 8 * args.new = length-take (b1 + 8 * args.new - b1) (drop b1 args.work.now) ∙ omega (arith, length-drop b1 args.work.now, G.1.ends, G.2) in
    let red = c.reduce in
    let lt : length red.new.to ≡ 8 * args.new = red.auto.to ∙ lt0 in
    let sum : b1 + (b1 + 8 * args.new - b1) ≡ b1 + 8 * args.new = omega arith in
    let back : take b1 args.work.now ++ (red.new.to ++ drop (b1 + 8 * args.new - b1) (drop b1 args.work.now)) ≡ take b1 args.work.now ++ (red.new.to ++ drop (b1 + 8 * args.new) args.work.now) =
    ap (λ (l : List ℕ). take b1 args.work.now ++ (red.new.to ++ l)) (drop-drop (b1 + 8 * args.new - b1) b1 args.work.now ∙ ap (λ (i : ℕ). drop i args.work.now) sum) in
    end-makes form left args.work.now _ red.new.to x args.s _ args.old args.new pre.2 (ending-some form left args.work.now G.0 args.s args.old args.new pre.2 l8 G.3) l8 G.1.ends G.2 refl refl refl
    ex (red.ensures ∙ ap (λ (l : List (List ℕ)). rows_if (rule_of (form_of l) (tree_of (term_rows x)))) types) lt back (pasted_length args.work.now red.new.to _ b1 (8 * args.new) back (omega (arith, G.1.ends, G.2)) lt)
