-- Zeros name no binder, so the walk begins below none.
use Rattle.std.proofs.Common.{ap, refl, ◌∙◌, arith}
use Rattle.std.specs.Prelude.{replicate}
use Rattle.layout.specs.Rows.{term_rows}
use Rattle.meaning.specs.Types.{empty}
use Rattle.meaning.specs.Typing.{first_bad}
use Rattle.meaning.proofs.Trees.Parse.{tree-at-zero}
use Rattle.rules.specs.Forms.{forms}
use Rattle.typing.proofs.Faults.{walk-all}
use Rattle.typing.proofs.Walking.{zeros-low}
use Rattle.typing.proofs.first_bad.Goals as goal

pub judge-requires : goal.judge-requires
judge-requires c = record { room = omega arith; low = zeros-low 2048 }

pub returns : goal.returns
returns c =
    let l = term_rows c.args.rows.now in
    c.judge.ensures ∙ walk-all (forms c.args.types.now) l (replicate 2048 0) refl ∙ ap (first_bad (forms c.args.types.now) empty) (tree-at-zero l)
