-- `types::joins` meets its contract: the chain's head is the last row of the hash. Assumes nothing.
use Prim.Native.Nat.{◌+◌}
use mathlib.Core.Path.{refl, sym, ◌∙◌}
use native.Mathlib.Omega.{arith}
use Rattle.types.proofs.ChainLaws.{chained_more}
use Rattle.types.proofs.joins.Goals as goal

pub returns-then-is_fresh : goal.returns-then-is_fresh
returns-then-is_fresh c =
    let a = c.args in
    let h = c.row_hash-h.result in
    let more = chained_more a.types.now a.heads.now a.links.now a.t h (a.t + 1) c.requires.2 (omega arith) c.row_hash-h.ensures.0 (omega arith) refl in
    record { answer = sym c.if-is_fresh.true ∙ c.is_fresh.ensures; chained = λ q. more }
