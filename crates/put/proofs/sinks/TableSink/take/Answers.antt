-- A span is copied behind the rows that the table holds.
use native.Mathlib.Omega.{arith}
use Rattle.layout.proofs.Tables.{row-table-length}
use Rattle.put.proofs.Taking.{held-more}
use Rattle.put.proofs.sinks.TableSink.take.Goals as goal

pub overflow_sub-term_rows : goal.overflow_sub-term_rows
overflow_sub-term_rows c = let h = c.requires.open in omega (arith, h.1, c.term_rows.ensures, row-table-length c.args.self.now.to.now)

pub returns-then-term_rows-had-clause-room : goal.returns-then-term_rows-had-clause-room
returns-then-term_rows-had-clause-room c = λ h. absurd (omega (arith, h, c.if-term_rows-had.true, c.term_rows.ensures, row-table-length c.args.self.now.to.now))

pub copy_rows-requires : goal.copy_rows-requires
copy_rows-requires c =
    let h = c.requires.open in
    let s = c.requires.span in
    (omega (arith, h.1, c.if-term_rows-had.false, c.term_rows.ensures, row-table-length c.args.self.now.to.now), omega (arith, s, row-table-length c.args.rows.now))

pub returns-clause-taken : goal.returns-clause-taken
returns-clause-taken c = λ q l h.
    let s = c.requires.span in
    let room = c.if-term_rows-had.false in
    held-more _ _ l _ _ _ _ h s.0 s.1 (omega (arith, room, c.term_rows.ensures, row-table-length c.args.self.now.to.now)) (omega (arith, c.copy_rows.auto.to, row-table-length c.args.self.now.to.now, row-table-length c.copy_rows.new.to)) c.copy_rows.ensures
