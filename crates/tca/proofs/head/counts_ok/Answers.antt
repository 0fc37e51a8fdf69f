-- `tca::head::counts_ok` meets its contract: test by test. Assumes nothing.
use mathlib.Core.Path.{sym, refl}
use Rattle.layout.specs.Rows.{board}
use Rattle.tca.proofs.HeadLaws.{count-byte, types-none, types-over, rows_none, rows-over, counts-fit}
use Rattle.tca.proofs.head.counts_ok.Goals as goal

pub returns-then-file-ne0 : goal.returns-then-file-ne0
returns-then-file-ne0 c = let a = c.args in sym (count-byte (board a.m) a.file.now _ refl c.if-file-ne0.true)

pub returns-then-types-eq0 : goal.returns-then-types-eq0
returns-then-types-eq0 c = let a = c.args in sym (types-none (board a.m) a.file.now _ refl c.if-file-ne0.false _ c.type_count-types.ensures c.if-types-eq0.true)

pub returns-then-m-types : goal.returns-then-m-types
returns-then-m-types c = let a = c.args in sym (types-over (board a.m) a.file.now _ refl c.if-file-ne0.false _ c.type_count-types.ensures c.if-m-types.true)

pub returns-then-rows-eq0 : goal.returns-then-rows-eq0
returns-then-rows-eq0 c = let a = c.args in sym (rows_none (board a.m) a.file.now _ refl c.if-file-ne0.false _ c.type_count-types.ensures c.if-types-eq0.false c.if-m-types.false _ c.row_count-rows.ensures c.if-rows-eq0.true)

pub returns-then-m-rows : goal.returns-then-m-rows
returns-then-m-rows c = let a = c.args in sym (rows-over (board a.m) a.file.now _ refl c.if-file-ne0.false _ c.type_count-types.ensures c.if-types-eq0.false c.if-m-types.false _ c.row_count-rows.ensures c.if-m-rows.true)

pub returns : goal.returns
returns c = let a = c.args in sym (counts-fit (board a.m) a.file.now _ refl c.if-file-ne0.false _ c.type_count-types.ensures c.if-types-eq0.false c.if-m-types.false _ c.row_count-rows.ensures c.if-rows-eq0.false c.if-m-rows.false)
