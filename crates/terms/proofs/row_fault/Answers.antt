-- A known kind's row, test by test.
use Rattle.std.proofs.Common.{sym, ◌∙◌}
use Rattle.terms.proofs.Faults.{fault_field, fault_number, fault_none}
use Rattle.terms.proofs.row_fault.Goals as goal

pub returns-then-not-fit : goal.returns-then-not-fit
returns-then-not-fit c = sym (fault_field _ _ _ _ c.in-Some.ensures.number c.if-edition-ne-EDITION.false (sym c.fit.ensures ∙ c.if-not-fit.true))

pub returns-then-count-r : goal.returns-then-count-r
returns-then-count-r c = sym (fault_number _ _ _ _ c.in-Some.ensures.number c.if-edition-ne-EDITION.false (sym c.fit.ensures ∙ c.if-not-fit.false) c.if-count-r.true)

pub returns : goal.returns
returns c = sym (fault_none _ _ _ _ c.in-Some.ensures.number c.if-edition-ne-EDITION.false (sym c.fit.ensures ∙ c.if-not-fit.false) c.if-count-r.false)
