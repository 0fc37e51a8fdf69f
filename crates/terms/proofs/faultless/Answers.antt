-- The entry of the row's kind says what the kinds table does.
use Rattle.std.proofs.Common.{sym, ◌∙◌, arith}
use Rattle.std.proofs.lemmas.Bool.{OnTrue_from}
use Rattle.terms.proofs.ByKind.{row-sane}
use Rattle.terms.proofs.faultless.Goals as goal

pub returns : goal.returns
returns c = OnTrue_from _ _ (λ e. row-sane c.args.count _ c.if-r-eq0.false (omega arith) (rw c.requires at (sym c.within.ensures ∙ e)) c.if-count-r.false)
