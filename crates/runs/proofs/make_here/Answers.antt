-- The rows copied, the types and they lent, the new rows written.
use Prim.Native.Nat.{ℕ, ◌+◌, ◌*◌, ◌-◌, ◌≤◌}
use mathlib.Core.Path.{◌≡◌, refl, ap, sym, ◌∙◌}
use mathlib.Core.List.{List, ◌++◌}
use native.Mathlib.Omega.{arith}
use lib.ListN.{length, take, drop, length-take, length-drop}
use lib.Seq.{drop-drop}
use Rattle.search.proofs.Tables.{pasted_length}
use Rattle.layout.specs.Rows.{board, type_table, term_rows}
use Rattle.meaning.specs.Bytes.{rows_at}
use Rattle.meaning.specs.Types.{form_of}
use Rattle.meaning.specs.Terms.{tree_of}
use Rattle.meaning.specs.Records.{type_count, types_in}
use Rattle.reduce.specs.Rule.{rows_if, rule_of}
use Rattle.runs.specs.Going.{space}
use Rattle.runs.proofs.PutBack.{record-long, rows-from}
use Rattle.runs.proofs.Tries.{lent-types, types-fit, going-fits, going-some, going-redex, going-rows, here-makes, source-long, source-front, source-types, source-rows, source-passed}
use Rattle.runs.proofs.make_here.Goals as goal

pub types_end-e-requires : goal.types_end-e-requires
types_end-e-requires c = omega (arith, c.requires.0, record-long (board c.args.m), rows-from (board c.args.m))

pub overflow_add-p : goal.overflow_add-p
overflow_add-p c =
    let args = c.args in
    let pre = c.requires in
    let G = pre.4 in
    let mb = board args.m in
    let left = space mb args.kept.now in
    let form = form_of (types_in args.kept.now) in
    let of = going-fits form left args.work.now G.0 args.s args.old args.new pre.2 G.4 in
    omega (arith, of, G.1.ends, G.1.rows, G.2, pre.0, pre.3, c.rows_at.ensures, record-long (board args.m))

pub overflow_mul-q : goal.overflow_mul-q
overflow_mul-q c =
    let args = c.args in
    let pre = c.requires in
    let G = pre.4 in
    let mb = board args.m in
    let left = space mb args.kept.now in
    let form = form_of (types_in args.kept.now) in
    let of = going-fits form left args.work.now G.0 args.s args.old args.new pre.2 G.4 in
    omega (arith, of, G.1.few)

pub overflow_add-q : goal.overflow_add-q
overflow_add-q c =
    let args = c.args in
    let pre = c.requires in
    let G = pre.4 in
    let mb = board args.m in
    let left = space mb args.kept.now in
    let form = form_of (types_in args.kept.now) in
    let of = going-fits form left args.work.now G.0 args.s args.old args.new pre.2 G.4 in
    omega (arith, of, G.1.ends, G.2, pre.0, c.rows_at.ensures, record-long (board args.m))

pub overflow_mul-old : goal.overflow_mul-old
overflow_mul-old c =
    let args = c.args in
    let pre = c.requires in
    let G = pre.4 in
    let mb = board args.m in
    let left = space mb args.kept.now in
    let form = form_of (types_in args.kept.now) in
    let of = going-fits form left args.work.now G.0 args.s args.old args.new pre.2 G.4 in
    omega (arith, of, G.1.few)

pub copy_to-requires : goal.copy_to-requires
copy_to-requires c =
    let args = c.args in
    let pre = c.requires in
    let G = pre.4 in
    let mb = board args.m in
    let left = space mb args.kept.now in
    let form = form_of (types_in args.kept.now) in
    let of = going-fits form left args.work.now G.0 args.s args.old args.new pre.2 G.4 in
    (omega (arith, of, G.1.ends, G.2, pre.0, c.rows_at.ensures, record-long (board args.m)), omega (arith, of, G.1.ends))

pub overflow_add-a : goal.overflow_add-a
overflow_add-a c =
    let args = c.args in
    let pre = c.requires in
    let G = pre.4 in
    let mb = board args.m in
    let left = space mb args.kept.now in
    let form = form_of (types_in args.kept.now) in
    let of = going-fits form left args.work.now G.0 args.s args.old args.new pre.2 G.4 in
    omega (arith, of, G.1.ends, G.1.few)

pub overflow_mul-a : goal.overflow_mul-a
overflow_mul-a c =
    let args = c.args in
    let pre = c.requires in
    let G = pre.4 in
    let mb = board args.m in
    let left = space mb args.kept.now in
    let form = form_of (types_in args.kept.now) in
    let of = going-fits form left args.work.now G.0 args.s args.old args.new pre.2 G.4 in
    omega (arith, of, G.1.ends, G.1.few)

pub overflow_mul-b : goal.overflow_mul-b
overflow_mul-b c =
    let args = c.args in
    let pre = c.requires in
    let G = pre.4 in
    let mb = board args.m in
    let left = space mb args.kept.now in
    let form = form_of (types_in args.kept.now) in
    let of = going-fits form left args.work.now G.0 args.s args.old args.new pre.2 G.4 in
    omega (arith, of, G.1.ends, G.1.few, G.3)

pub overflow_add-b : goal.overflow_add-b
overflow_add-b c =
    let args = c.args in
    let pre = c.requires in
    let G = pre.4 in
    let mb = board args.m in
    let left = space mb args.kept.now in
    let form = form_of (types_in args.kept.now) in
    let of = going-fits form left args.work.now G.0 args.s args.old args.new pre.2 G.4 in
    omega (arith, of, G.1.ends, G.1.few, G.3)

pub slice_bounds-new-end : goal.slice_bounds-new-end
slice_bounds-new-end c =
    let args = c.args in
    let pre = c.requires in
    let G = pre.4 in
    let mb = board args.m in
    let left = space mb args.kept.now in
    let form = form_of (types_in args.kept.now) in
    let of = going-fits form left args.work.now G.0 args.s args.old args.new pre.2 G.4 in
    omega (arith, c.types_end-e.ensures, pre.0, types-fit (board args.m) (type_count args.kept.now) pre.1, record-long (board args.m), c.copy_to.auto.dst)

pub slice_bounds-reduce-end : goal.slice_bounds-reduce-end
slice_bounds-reduce-end c =
    let args = c.args in
    let pre = c.requires in
    let G = pre.4 in
    let mb = board args.m in
    let left = space mb args.kept.now in
    let form = form_of (types_in args.kept.now) in
    let of = going-fits form left args.work.now G.0 args.s args.old args.new pre.2 G.4 in
    omega (arith, of, G.1.ends, G.2, pre.0, c.rows_at.ensures, record-long (board args.m), c.copy_to.auto.dst)

pub slice_bounds-reduce-end-2 : goal.slice_bounds-reduce-end-2
slice_bounds-reduce-end-2 c =
    let args = c.args in
    let pre = c.requires in
    let G = pre.4 in
    let mb = board args.m in
    let left = space mb args.kept.now in
    let form = form_of (types_in args.kept.now) in
    let of = going-fits form left args.work.now G.0 args.s args.old args.new pre.2 G.4 in
    omega (arith, of, G.1.ends, G.3)

pub reduce-requires : goal.reduce-requires
reduce-requires c =
    let args = c.args in
    let pre = c.requires in
    let G = pre.4 in
    let mb = board args.m in
    let left = space mb args.kept.now in
    let form = form_of (types_in args.kept.now) in
    let of = going-fits form left args.work.now G.0 args.s args.old args.new pre.2 G.4 in
    let p0 = c.rows_at.result in
    let ep = c.rows_at.ensures in
    let kept1 = c.copy_to.new.dst in
    let copied = c.copy_to.ensures ∙ ap (λ (i : ℕ). take (i + 8 * args.s.l) args.kept.now ++ (take (8 * args.old) (drop (8 * args.s.r) args.work.now) ++ drop (i + 8 * args.s.l + 8 * args.old) args.kept.now)) ep in
    let room1 : rows_at mb + 8 * args.s.l + 8 * args.old ≤ length args.kept.now = omega (arith, of, G.1.ends, G.2, pre.0, record-long mb) in
    let room2 : 8 * args.s.r + 8 * args.old ≤ length args.work.now = omega (arith, of, G.1.ends) in
    let x = take (p0 + 8 * args.s.l + 8 * args.old - (p0 + 8 * args.s.l)) (drop (p0 + 8 * args.s.l) kept1) in
    let zx : p0 + 8 * args.s.l + 8 * args.old - (p0 + 8 * args.s.l) ≡ 8 * args.old = omega arith in
    let ex : x ≡ take (8 * args.old) (drop (8 * args.s.r) args.work.now) = ap (λ (i : ℕ). take i (drop (p0 + 8 * args.s.l) kept1)) zx ∙ ap (λ (i : ℕ). take (8 * args.old) (drop (i + 8 * args.s.l) kept1)) ep ∙ source-rows mb args.kept.now kept1 args.work.now args.s args.old room1 room2 copied in
    let te = c.types_end-e.result in
    let ete = c.types_end-e.ensures in
    let tf = types-fit mb (type_count args.kept.now) pre.1 in
    let types : c.new.result ≡ types_in args.kept.now = c.new.ensures ∙ ap (λ (l : List ℕ). type_table l) (source-types mb args.kept.now kept1 args.work.now args.s args.old room1 room2 copied (te - 20) (omega (arith, ete, tf))) ∙ lent-types args.kept.now te ete (omega (arith, tf, pre.0, record-long mb)) in
    let b1 = 8 * (args.s.r + args.old - args.new) in
    let lt : length (take (b1 + 8 * args.new - b1) (drop b1 args.work.now)) ≡ 8 * args.new = length-take (b1 + 8 * args.new - b1) (drop b1 args.work.now) ∙ omega (arith, length-drop b1 args.work.now, of, G.1.ends, G.3) in
    let some = going-some form left args.work.now G.0 args.s args.old args.new pre.2 G.4 in (
      going-redex form left args.work.now G.0 args.s args.old args.new pre.2 G.4 x ex G.1.ends (omega (arith, of, G.2, pre.3)),
      omega (arith, lt, some),
      lt ∙ ap (λ (i : ℕ). 8 * i) (sym (ap (λ (l : List (List ℕ)). length (rows_if (rule_of (form_of l) (tree_of (term_rows x))))) types ∙ going-rows form left args.work.now G.0 args.s args.old args.new pre.2 G.4 x ex G.1.ends)),
    )

pub overflow_add-result : goal.overflow_add-result
overflow_add-result c =
    let args = c.args in
    let pre = c.requires in
    let G = pre.4 in
    let mb = board args.m in
    let left = space mb args.kept.now in
    let form = form_of (types_in args.kept.now) in
    let of = going-fits form left args.work.now G.0 args.s args.old args.new pre.2 G.4 in
    omega (arith, of, G.1.ends, G.1.few)

pub returns : goal.returns
returns c =
    let args = c.args in
    let pre = c.requires in
    let G = pre.4 in
    let mb = board args.m in
    let left = space mb args.kept.now in
    let form = form_of (types_in args.kept.now) in
    let of = going-fits form left args.work.now G.0 args.s args.old args.new pre.2 G.4 in
    let p0 = c.rows_at.result in
    let ep = c.rows_at.ensures in
    let kept1 = c.copy_to.new.dst in
    let copied = c.copy_to.ensures ∙ ap (λ (i : ℕ). take (i + 8 * args.s.l) args.kept.now ++ (take (8 * args.old) (drop (8 * args.s.r) args.work.now) ++ drop (i + 8 * args.s.l + 8 * args.old) args.kept.now)) ep in
    let room1 : rows_at mb + 8 * args.s.l + 8 * args.old ≤ length args.kept.now = omega (arith, of, G.1.ends, G.2, pre.0, record-long mb) in
    let room2 : 8 * args.s.r + 8 * args.old ≤ length args.work.now = omega (arith, of, G.1.ends) in
    let x = take (p0 + 8 * args.s.l + 8 * args.old - (p0 + 8 * args.s.l)) (drop (p0 + 8 * args.s.l) kept1) in
    let zx : p0 + 8 * args.s.l + 8 * args.old - (p0 + 8 * args.s.l) ≡ 8 * args.old = omega arith in
    let ex : x ≡ take (8 * args.old) (drop (8 * args.s.r) args.work.now) = ap (λ (i : ℕ). take i (drop (p0 + 8 * args.s.l) kept1)) zx ∙ ap (λ (i : ℕ). take (8 * args.old) (drop (i + 8 * args.s.l) kept1)) ep ∙ source-rows mb args.kept.now kept1 args.work.now args.s args.old room1 room2 copied in
    let te = c.types_end-e.result in
    let ete = c.types_end-e.ensures in
    let tf = types-fit mb (type_count args.kept.now) pre.1 in
    let types : c.new.result ≡ types_in args.kept.now = c.new.ensures ∙ ap (λ (l : List ℕ). type_table l) (source-types mb args.kept.now kept1 args.work.now args.s args.old room1 room2 copied (te - 20) (omega (arith, ete, tf))) ∙ lent-types args.kept.now te ete (omega (arith, tf, pre.0, record-long mb)) in
    let b1 = 8 * (args.s.r + args.old - args.new) in
    let red = c.reduce in
    let lt0 : length (take (b1 + 8 * args.new - b1) (drop b1 args.work.now)) ≡ 8 * args.new = length-take (b1 + 8 * args.new - b1) (drop b1 args.work.now) ∙ omega (arith, length-drop b1 args.work.now, of, G.1.ends, G.3) in
    let lt : length red.new.to ≡ 8 * args.new = red.auto.to ∙ lt0 in
    let sum : b1 + (b1 + 8 * args.new - b1) ≡ b1 + 8 * args.new = omega arith in
    let back : take b1 args.work.now ++ (red.new.to ++ drop (b1 + 8 * args.new - b1) (drop b1 args.work.now)) ≡ take b1 args.work.now ++ (red.new.to ++ drop (b1 + 8 * args.new) args.work.now) =
    ap (λ (l : List ℕ). take b1 args.work.now ++ (red.new.to ++ l)) (drop-drop (b1 + 8 * args.new - b1) b1 args.work.now ∙ ap (λ (i : ℕ). drop i args.work.now) sum) in (
      record { front = source-front mb args.kept.now kept1 args.work.now args.s args.old room1 room2 copied; long = source-long mb args.kept.now kept1 args.work.now args.s args.old room1 room2 copied },
      here-makes form left (space mb kept1) args.work.now _ red.new.to x args.s _ args.old args.new pre.2 (going-some form left args.work.now G.0 args.s args.old args.new pre.2 G.4) G.1.ends G.3 refl refl refl
          (source-passed mb args.kept.now kept1 args.work.now args.s args.old room1 room2 copied) ex (red.ensures ∙ ap (λ (l : List (List ℕ)). rows_if (rule_of (form_of l) (tree_of (term_rows x)))) types) lt back (pasted_length args.work.now red.new.to _ b1 (8 * args.new) back (omega (arith, of, G.1.ends, G.3)) lt),
    )
