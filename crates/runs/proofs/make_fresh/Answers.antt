-- The rows to come are lent to the rule; where it knows nothing, the whole tree is tried, and it neither stays nor sends.
use Prim.Native.Nat.{ℕ, ◌*◌, ◌-◌}
use mathlib.Core.Path.{refl, sym, ◌∙◌, subst}
use mathlib.Core.Bool.{false≢true}
use mathlib.Core.List.{List}
use native.Mathlib.Omega.{arith}
use lib.ListN.{length, take, drop}
use Rattle.layout.specs.Rows.{row_table}
use Rattle.meaning.specs.Types.{form_of}
use Rattle.meaning.specs.Records.{types_in}
use Rattle.reduce.specs.Once.{MadeAtOnce}
use Rattle.runs.specs.Sites.{Tells}
use Rattle.runs.specs.Tries.{Tries}
use Rattle.runs.specs.declared.Tried.{Tried}
use Rattle.runs.proofs.Tries.{lent-types, here-front, here-once, here-fresh, once-some, goes-against}
use Rattle.runs.proofs.Finds.{stays-not-goes, sends-not-goes}
use Rattle.runs.proofs.make_fresh.Goals as goal

pub make-p-requires : goal.make-p-requires
make-p-requires c =
    let args = c.args in
    let pre = c.requires in
    let w = pre.4 in
    let x = take (length args.work.now - 8 * args.s.r) (drop (8 * args.s.r) args.work.now) in
    (here-front (form_of (types_in args.kept.now)) w.2.number w.0 args.work.now w.1 args.s w.2.whole w.2.halted pre.2 x (omega (arith, w.3.ends)) refl w.3.ends w.2.count w.2.in-range w.4, pre.3)

pub returns-in-Some : goal.returns-in-Some
unfolding Tells
returns-in-Some c =
    (
    let args = c.args in
    let pre = c.requires in
    let w = pre.4 in
    let form = form_of (types_in args.kept.now) in
    let x = take (length args.work.now - 8 * args.s.r) (drop (8 * args.s.r) args.work.now) in
    let types = c.new.ensures ∙ lent-types args.kept.now c.types_end-e.result c.types_end-e.ensures pre.0 in
    let to = row_table c.make-p.new.to in
    let m = c.in-Some.m in
    let made = subst (λ (l : List (List ℕ)). MadeAtOnce (form_of l) (row_table x) to m) types c.in-Some.ensures in
    (λ left frames k t h. here-once form k left args.work.now frames args.s t h pre.2 x (omega (arith, w.3.ends)) refl to m made, λ q. (once-some form (row_table x) to m made, λ left frames k t h u g. here-fresh form k left args.work.now frames args.s t h pre.2 x (omega (arith, w.3.ends)) refl to m made u g)))

pub returns-in-Goes : goal.returns-in-Goes
returns-in-Goes c = (λ left frames. subst (λ (y : Tried). Tries (form_of (types_in c.args.kept.now)) left c.args.work.now frames c.args.s y) c.in-Goes.is (c.try_whole-x.ensures.0 left frames), λ q. absurd (false≢true q))

pub returns-in-Stays : goal.returns-in-Stays
returns-in-Stays c =
    let args = c.args in
    let w = c.requires.4 in
    absurd (goes-against (form_of (types_in args.kept.now)) w.0 args.work.now w.1 args.s w.2 w.5 c.try_whole-x.result (c.try_whole-x.ensures.0 w.0 w.1) (λ a b q. stays-not-goes a b (sym c.in-Stays.is ∙ q)) c.try_whole-x.ensures.1)

pub returns-in-Sends : goal.returns-in-Sends
returns-in-Sends c =
    let args = c.args in
    let w = c.requires.4 in
    absurd (goes-against (form_of (types_in args.kept.now)) w.0 args.work.now w.1 args.s w.2 w.5 c.try_whole-x.result (c.try_whole-x.ensures.0 w.0 w.1) (λ a b q. sends-not-goes _ a b (sym c.in-Sends.is ∙ q)) c.try_whole-x.ensures.1)

pub returns-in-Uncounted : goal.returns-in-Uncounted
returns-in-Uncounted c = absurd (c.try_whole-x.ensures.1 c.in-Uncounted.is)
