-- A row that breaks its rule by itself.
use Rattle.std.proofs.Common.{◌≡◌, arith}
use Rattle.typing.proofs.Everywhere.{row-wrong}
use Rattle.typing.proofs.leaf_fails.Goals as goal

pub returns-in_default : goal.returns-in_default
returns-in_default c e closed =
    let a = c.args in
    let no : c.row_at-r.result.kind ≡ 5 → ⊥ = grind arith in
    row-wrong a.types.now a.rows.now a.i _ _ _ _ (omega arith) c.row_at-r.ensures no closed _ c.leaf_ok.ensures e
