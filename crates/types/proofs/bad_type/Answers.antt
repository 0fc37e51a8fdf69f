-- `types::bad_type` meets its contract: from row i on as from the first. Assumes nothing.
use Rattle.meaning.specs.Types.{form_of}
use Rattle.layout.specs.Rows.{type_table}
use Rattle.types.proofs.ChainLaws.{no-chains}
use Rattle.types.proofs.BadLaws.{bad-all, says_nothing}
use Rattle.types.proofs.bad_type.Goals as goal

pub loop-i-init : goal.loop-i-init
loop-i-init c = let a = c.args in let rows = type_table a.types.now in (bad-all a.edition rows, says_nothing 256 (form_of rows), no-chains a.types.now)
