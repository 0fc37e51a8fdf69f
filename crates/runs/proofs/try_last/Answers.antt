-- The frame's rows are lent to its rule.
use Prim.Native.Nat.{ℕ, ◌+◌, ◌*◌, ◌-◌, ◌≤◌}
use mathlib.Core.Path.{◌≡◌, refl, ap, sym, ◌∙◌}
use mathlib.Core.List.{List}
use native.Mathlib.Omega.{arith}
use lib.ListN.{length, take, drop}
use Rattle.layout.specs.Rows.{board, term_rows}
use Rattle.meaning.specs.Types.{form_of}
use Rattle.meaning.specs.Terms.{size, tree_of}
use Rattle.meaning.specs.Records.{type_count, types_in}
use Rattle.reduce.specs.Rule.{size_if, rule_of}
use Rattle.runs.specs.Sites.{Tells}
use Rattle.runs.specs.Going.{space}
use Rattle.runs.proofs.PutBack.{record-long, rows-from}
use Rattle.runs.proofs.GoingOn.{lent_rows}
use Rattle.runs.proofs.Tries.{lent-types, types-fit, turns-anew}
use Rattle.runs.proofs.EndTries.{end_row_lem, end-size, end_below, end-length, end-call, end-redex, end_stays, end_goes, call-flag}
use Rattle.runs.proofs.try_last.Goals as goal

pub overflow_sub-f : goal.overflow_sub-f
overflow_sub-f c =
    let args = c.args in
    let pre = c.requires in
    let W = pre.5 in
    let T = W.1 in
    let mb = board args.m in
    let left = space mb args.kept.now in
    let form = form_of (types_in args.kept.now) in
    let rl = record-long mb in
    let l8 : 8 * args.s.l ≤ length left = omega (arith, W.2.left-long) in
    let er = end_row_lem form T.number left W.0 args.frames.now args.s T.whole T.halted pre.2 in
    let eb = end_below form T.number left W.0 args.frames.now args.s T.whole T.halted pre.2 in
    omega (arith, er.1)

pub offset_bounds-frames-d : goal.offset_bounds-frames-d
offset_bounds-frames-d c =
    let args = c.args in
    let pre = c.requires in
    let W = pre.5 in
    let T = W.1 in
    let mb = board args.m in
    let left = space mb args.kept.now in
    let form = form_of (types_in args.kept.now) in
    let rl = record-long mb in
    let l8 : 8 * args.s.l ≤ length left = omega (arith, W.2.left-long) in
    let er = end_row_lem form T.number left W.0 args.frames.now args.s T.whole T.halted pre.2 in
    let eb = end_below form T.number left W.0 args.frames.now args.s T.whole T.halted pre.2 in
    omega (arith, er.1, er.2, eb, W.2.rows)

pub bounds-frames-d : goal.bounds-frames-d
bounds-frames-d c =
    let args = c.args in
    let pre = c.requires in
    let W = pre.5 in
    let T = W.1 in
    let mb = board args.m in
    let left = space mb args.kept.now in
    let form = form_of (types_in args.kept.now) in
    let rl = record-long mb in
    let l8 : 8 * args.s.l ≤ length left = omega (arith, W.2.left-long) in
    let er = end_row_lem form T.number left W.0 args.frames.now args.s T.whole T.halted pre.2 in
    let eb = end_below form T.number left W.0 args.frames.now args.s T.whole T.halted pre.2 in
    omega (arith, er.0, er.1, er.2, eb, W.2.deep)

pub overflow_sub-n : goal.overflow_sub-n
overflow_sub-n c =
    let args = c.args in
    let pre = c.requires in
    let W = pre.5 in
    let T = W.1 in
    let mb = board args.m in
    let left = space mb args.kept.now in
    let form = form_of (types_in args.kept.now) in
    let rl = record-long mb in
    let l8 : 8 * args.s.l ≤ length left = omega (arith, W.2.left-long) in
    let er = end_row_lem form T.number left W.0 args.frames.now args.s T.whole T.halted pre.2 in
    let eb = end_below form T.number left W.0 args.frames.now args.s T.whole T.halted pre.2 in
    omega (arith, eb, c.row_in-i.ensures)

pub overflow_mul-p : goal.overflow_mul-p
overflow_mul-p c =
    let args = c.args in
    let pre = c.requires in
    let W = pre.5 in
    let T = W.1 in
    let mb = board args.m in
    let left = space mb args.kept.now in
    let form = form_of (types_in args.kept.now) in
    let rl = record-long mb in
    let l8 : 8 * args.s.l ≤ length left = omega (arith, W.2.left-long) in
    let er = end_row_lem form T.number left W.0 args.frames.now args.s T.whole T.halted pre.2 in
    let eb = end_below form T.number left W.0 args.frames.now args.s T.whole T.halted pre.2 in
    omega (arith, eb, c.row_in-i.ensures, W.2.rows)

pub overflow_add-p : goal.overflow_add-p
overflow_add-p c =
    let args = c.args in
    let pre = c.requires in
    let W = pre.5 in
    let T = W.1 in
    let mb = board args.m in
    let left = space mb args.kept.now in
    let form = form_of (types_in args.kept.now) in
    let rl = record-long mb in
    let l8 : 8 * args.s.l ≤ length left = omega (arith, W.2.left-long) in
    let er = end_row_lem form T.number left W.0 args.frames.now args.s T.whole T.halted pre.2 in
    let eb = end_below form T.number left W.0 args.frames.now args.s T.whole T.halted pre.2 in
    omega (arith, eb, c.row_in-i.ensures, c.rows_at.ensures, pre.0, pre.4, rl)

pub overflow_add-q : goal.overflow_add-q
overflow_add-q c =
    let args = c.args in
    let pre = c.requires in
    let W = pre.5 in
    let T = W.1 in
    let mb = board args.m in
    let left = space mb args.kept.now in
    let form = form_of (types_in args.kept.now) in
    let rl = record-long mb in
    let l8 : 8 * args.s.l ≤ length left = omega (arith, W.2.left-long) in
    let er = end_row_lem form T.number left W.0 args.frames.now args.s T.whole T.halted pre.2 in
    let eb = end_below form T.number left W.0 args.frames.now args.s T.whole T.halted pre.2 in
    omega (arith, eb, c.row_in-i.ensures, c.rows_at.ensures, pre.0, pre.4, rl)

pub slice_bounds-is_call-end : goal.slice_bounds-is_call-end
slice_bounds-is_call-end c =
    let args = c.args in
    let pre = c.requires in
    let W = pre.5 in
    let T = W.1 in
    let mb = board args.m in
    let left = space mb args.kept.now in
    let form = form_of (types_in args.kept.now) in
    let rl = record-long mb in
    let l8 : 8 * args.s.l ≤ length left = omega (arith, W.2.left-long) in
    let er = end_row_lem form T.number left W.0 args.frames.now args.s T.whole T.halted pre.2 in
    let eb = end_below form T.number left W.0 args.frames.now args.s T.whole T.halted pre.2 in
    omega (arith, eb, c.row_in-i.ensures, c.rows_at.ensures, pre.0, pre.4, rl)

pub is_call-requires : goal.is_call-requires
is_call-requires c =
    let args = c.args in
    let pre = c.requires in
    let W = pre.5 in
    let T = W.1 in
    let mb = board args.m in
    let left = space mb args.kept.now in
    let form = form_of (types_in args.kept.now) in
    let rl = record-long mb in
    let l8 : 8 * args.s.l ≤ length left = omega (arith, W.2.left-long) in
    let er = end_row_lem form T.number left W.0 args.frames.now args.s T.whole T.halted pre.2 in
    let eb = end_below form T.number left W.0 args.frames.now args.s T.whole T.halted pre.2 in
    let n0 = args.s.l - c.row_in-i.result in
    omega (arith, ap length (lent_rows mb args.kept.now c.rows_at.result (8 * c.row_in-i.result) (8 * n0) c.rows_at.ensures) ∙ end-length form T.number left W.0 args.frames.now args.s T.whole T.halted pre.2 c.row_in-i.result n0 _ c.row_in-i.ensures refl refl l8, eb, c.row_in-i.ensures)

pub returns-then-flag_in : goal.returns-then-flag_in
unfolding Tells
returns-then-flag_in c =
    (
    let args = c.args in
    let pre = c.requires in
    let W = pre.5 in
    let T = W.1 in
    let mb = board args.m in
    let left = space mb args.kept.now in
    let form = form_of (types_in args.kept.now) in
    let rl = record-long mb in
    let l8 : 8 * args.s.l ≤ length left = omega (arith, W.2.left-long) in
    let er = end_row_lem form T.number left W.0 args.frames.now args.s T.whole T.halted pre.2 in
    let eb = end_below form T.number left W.0 args.frames.now args.s T.whole T.halted pre.2 in
    let i = c.row_in-i.result in
    let ei = c.row_in-i.ensures in
    let n = args.s.l - i in
    let p0 = c.rows_at.result in
    let x = take (p0 + 8 * i + 8 * n - (p0 + 8 * i)) (drop (p0 + 8 * i) args.kept.now) in
    let ex = lent_rows mb args.kept.now p0 (8 * i) (8 * n) c.rows_at.ensures in
    λ work k t h. (
      sym (omega (arith, ei, end-size form k left work args.frames.now args.s t h pre.2)),
      (call-flag form k left work args.frames.now args.s t h pre.2 (sym (end-call form k left work args.frames.now args.s t h pre.2 i n x ei refl ex l8) ∙ (sym c.is_call.ensures ∙ c.if-is_call.true))).0 (sym c.flag_in.ensures ∙ c.if-flag_in.true),
    ))

pub returns-then-is_call : goal.returns-then-is_call
unfolding Tells
returns-then-is_call c =
    (
    let args = c.args in
    let pre = c.requires in
    let W = pre.5 in
    let T = W.1 in
    let mb = board args.m in
    let left = space mb args.kept.now in
    let form = form_of (types_in args.kept.now) in
    let rl = record-long mb in
    let l8 : 8 * args.s.l ≤ length left = omega (arith, W.2.left-long) in
    let er = end_row_lem form T.number left W.0 args.frames.now args.s T.whole T.halted pre.2 in
    let eb = end_below form T.number left W.0 args.frames.now args.s T.whole T.halted pre.2 in
    let i = c.row_in-i.result in
    let ei = c.row_in-i.ensures in
    let n = args.s.l - i in
    let p0 = c.rows_at.result in
    let x = take (p0 + 8 * i + 8 * n - (p0 + 8 * i)) (drop (p0 + 8 * i) args.kept.now) in
    let ex = lent_rows mb args.kept.now p0 (8 * i) (8 * n) c.rows_at.ensures in
    λ work k t h. (call-flag form k left work args.frames.now args.s t h pre.2 (sym (end-call form k left work args.frames.now args.s t h pre.2 i n x ei refl ex l8) ∙ (sym c.is_call.ensures ∙ c.if-is_call.true))).1 (sym c.flag_in.ensures ∙ c.if-flag_in.false))

pub types_end-e-requires : goal.types_end-e-requires
types_end-e-requires c =
    let args = c.args in
    let pre = c.requires in
    let W = pre.5 in
    let T = W.1 in
    let mb = board args.m in
    let left = space mb args.kept.now in
    let form = form_of (types_in args.kept.now) in
    let rl = record-long mb in
    let l8 : 8 * args.s.l ≤ length left = omega (arith, W.2.left-long) in
    let er = end_row_lem form T.number left W.0 args.frames.now args.s T.whole T.halted pre.2 in
    let eb = end_below form T.number left W.0 args.frames.now args.s T.whole T.halted pre.2 in
    omega (arith, pre.0, rl, rows-from mb)

pub slice_bounds-new-end : goal.slice_bounds-new-end
slice_bounds-new-end c =
    let args = c.args in
    let pre = c.requires in
    let W = pre.5 in
    let T = W.1 in
    let mb = board args.m in
    let left = space mb args.kept.now in
    let form = form_of (types_in args.kept.now) in
    let rl = record-long mb in
    let l8 : 8 * args.s.l ≤ length left = omega (arith, W.2.left-long) in
    let er = end_row_lem form T.number left W.0 args.frames.now args.s T.whole T.halted pre.2 in
    let eb = end_below form T.number left W.0 args.frames.now args.s T.whole T.halted pre.2 in
    omega (arith, c.types_end-e.ensures, pre.0, types-fit mb (type_count args.kept.now) pre.1, rl)

pub slice_bounds-count-end : goal.slice_bounds-count-end
slice_bounds-count-end c =
    let args = c.args in
    let pre = c.requires in
    let W = pre.5 in
    let T = W.1 in
    let mb = board args.m in
    let left = space mb args.kept.now in
    let form = form_of (types_in args.kept.now) in
    let rl = record-long mb in
    let l8 : 8 * args.s.l ≤ length left = omega (arith, W.2.left-long) in
    let er = end_row_lem form T.number left W.0 args.frames.now args.s T.whole T.halted pre.2 in
    let eb = end_below form T.number left W.0 args.frames.now args.s T.whole T.halted pre.2 in
    omega (arith, eb, c.row_in-i.ensures, c.rows_at.ensures, pre.0, pre.4, rl)

pub count-requires : goal.count-requires
count-requires c =
    let args = c.args in
    let pre = c.requires in
    let W = pre.5 in
    let T = W.1 in
    let mb = board args.m in
    let left = space mb args.kept.now in
    let form = form_of (types_in args.kept.now) in
    let rl = record-long mb in
    let l8 : 8 * args.s.l ≤ length left = omega (arith, W.2.left-long) in
    let er = end_row_lem form T.number left W.0 args.frames.now args.s T.whole T.halted pre.2 in
    let eb = end_below form T.number left W.0 args.frames.now args.s T.whole T.halted pre.2 in
    let i = c.row_in-i.result in
    let ei = c.row_in-i.ensures in
    let n = args.s.l - i in
    let p0 = c.rows_at.result in
    let x = take (p0 + 8 * i + 8 * n - (p0 + 8 * i)) (drop (p0 + 8 * i) args.kept.now) in
    let ex = lent_rows mb args.kept.now p0 (8 * i) (8 * n) c.rows_at.ensures in
    end-redex form T.number left W.0 args.frames.now args.s T.whole T.halted pre.2 i n x ei refl ex l8 T.count T.in-range (omega (arith, pre.3, pre.4))

pub returns-in-None : goal.returns-in-None
unfolding Tells
returns-in-None c =
    (
    let args = c.args in
    let pre = c.requires in
    let W = pre.5 in
    let T = W.1 in
    let mb = board args.m in
    let left = space mb args.kept.now in
    let form = form_of (types_in args.kept.now) in
    let rl = record-long mb in
    let l8 : 8 * args.s.l ≤ length left = omega (arith, W.2.left-long) in
    let er = end_row_lem form T.number left W.0 args.frames.now args.s T.whole T.halted pre.2 in
    let eb = end_below form T.number left W.0 args.frames.now args.s T.whole T.halted pre.2 in
    let i = c.row_in-i.result in
    let ei = c.row_in-i.ensures in
    let n = args.s.l - i in
    let p0 = c.rows_at.result in
    let x = take (p0 + 8 * i + 8 * n - (p0 + 8 * i)) (drop (p0 + 8 * i) args.kept.now) in
    let ex = lent_rows mb args.kept.now p0 (8 * i) (8 * n) c.rows_at.ensures in
    let types = c.new.ensures ∙ lent-types args.kept.now c.types_end-e.result c.types_end-e.ensures (omega (arith, types-fit mb (type_count args.kept.now) pre.1, pre.0, rl)) in
    let o = c.count.ensures ∙ ap (λ (l : List (List ℕ)). size_if (rule_of (form_of l) (tree_of (term_rows x)))) types in
    λ work k t h. end_stays form k left work args.frames.now args.s t h pre.2 i n x ei refl ex l8 (sym c.is_call.ensures ∙ c.if-is_call.false) (sym c.in-None.is ∙ o))

pub returns-in-Some : goal.returns-in-Some
unfolding Tells
returns-in-Some c =
    (
    let args = c.args in
    let pre = c.requires in
    let W = pre.5 in
    let T = W.1 in
    let mb = board args.m in
    let left = space mb args.kept.now in
    let form = form_of (types_in args.kept.now) in
    let rl = record-long mb in
    let l8 : 8 * args.s.l ≤ length left = omega (arith, W.2.left-long) in
    let er = end_row_lem form T.number left W.0 args.frames.now args.s T.whole T.halted pre.2 in
    let eb = end_below form T.number left W.0 args.frames.now args.s T.whole T.halted pre.2 in
    let i = c.row_in-i.result in
    let ei = c.row_in-i.ensures in
    let n = args.s.l - i in
    let p0 = c.rows_at.result in
    let x = take (p0 + 8 * i + 8 * n - (p0 + 8 * i)) (drop (p0 + 8 * i) args.kept.now) in
    let ex = lent_rows mb args.kept.now p0 (8 * i) (8 * n) c.rows_at.ensures in
    let types = c.new.ensures ∙ lent-types args.kept.now c.types_end-e.result c.types_end-e.ensures (omega (arith, types-fit mb (type_count args.kept.now) pre.1, pre.0, rl)) in
    let o = c.count.ensures ∙ ap (λ (l : List (List ℕ)). size_if (rule_of (form_of l) (tree_of (term_rows x)))) types in
    λ work k t h.
    let eo : size h.tree ≡ n = sym (omega (arith, ei, end-size form k left work args.frames.now args.s t h pre.2)) in
    let (u, g, b) = end_goes form k left work args.frames.now args.s t h pre.2 i n x ei refl ex l8 c.in-Some.new (sym c.is_call.ensures ∙ c.if-is_call.false) (sym c.in-Some.is ∙ o) in
    (u, g, turns-anew args.s.here h.tree u n _ eo b))
