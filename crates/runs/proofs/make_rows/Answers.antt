-- What is not counted yet is made at once.
use mathlib.Core.Path.{subst}
use mathlib.Core.Bool.{false≢true}
use Rattle.meaning.specs.Types.{form_of}
use Rattle.meaning.specs.Records.{types_in}
use Rattle.runs.specs.Sites.{Tells}
use Rattle.runs.specs.Tries.{Tries}
use Rattle.runs.specs.declared.Tried.{Tried}
use Rattle.runs.proofs.Finds.{uncounted_left}
use Rattle.runs.proofs.make_rows.Goals as goal

pub returns-in-Goes : goal.returns-in-Goes
returns-in-Goes c = record { counted = λ left frames y. subst (λ (x : Tried). Tries (form_of (types_in c.args.kept.now)) left c.args.work.now frames c.args.s x) c.in-Goes.is y; made = λ q. absurd (false≢true q) }

pub make_fresh-requires : goal.make_fresh-requires
unfolding Tells
make_fresh-requires c =
    let p = c.requires in
    let w = p.trying in
    let last = uncounted_left c.args.tried p.goes p.sends_nothing c.in_default.not-Goes in
    let y = subst (λ (x : Tried). Tries (form_of (types_in c.args.kept.now)) w.0 c.args.work.now w.1 c.args.s x) last w.5 in
    (p.types, p.rows, (y w.2.number w.2.whole w.2.halted).0, p.room, (w.0, w.1, w.2, w.3, w.4, y))

pub returns : goal.returns
unfolding Tells
returns c =
    let p = c.requires in
    let w = p.trying in
    let last = uncounted_left c.args.tried p.goes p.sends_nothing c.in_default.not-Goes in
    let y = subst (λ (x : Tried). Tries (form_of (types_in c.args.kept.now)) w.0 c.args.work.now w.1 c.args.s x) last w.5 in
    record { counted = λ left frames z. c.make_fresh.ensures.0 left frames; made = λ q. ((y w.2.number w.2.whole w.2.halted).0, (c.make_fresh.ensures.1 q).0, (c.make_fresh.ensures.1 q).1) }
