-- The first row's kind is a cons's; of the row behind it the table's entry tells.
use Rattle.std.proofs.Common.{◌≡◌, ℕ, List, sym, ap, ◌∙◌, get_or, arith}
use Rattle.std.proofs.lemmas.Bool.{OnTrue_from}
use borrow.Author.Tests.{eqb-true}
use Rattle.meaning.specs.Terms.{arity, row_of, head_from}
use Rattle.terms.specs.Tables.{child_table}
use Rattle.terms.proofs.ByKind.{arity-listed}
use Rattle.terms.proofs.trees.links.Goals as goal

pub returns-then-k-lt20-clause-linked : goal.returns-then-k-lt20-clause-linked
unfolding row_of head_from
returns-then-k-lt20-clause-linked c =
    let s = c.at.result in
    let r = c.at-k.result in
    OnTrue_from _ _ (λ e.
    let none : get_or child_table r.kind 0 ≡ 0 = eqb-true (get_or child_table r.kind 0) 0 e in
    record {
      there = omega (arith, c.if-len-i.false, c.len.ensures.rows);
      two = sym (ap (λ (x : List ℕ). arity (row_of x).head) c.at.ensures.row) ∙ ap (λ (k : ℕ). arity (head_from k s.n s.word)) c.if-not-is.ensures.meaning;
      leaf = sym (ap (λ (x : List ℕ). arity (row_of x).head) c.at-k.ensures.row) ∙ sym (arity-listed r.kind (omega arith) (omega (arith, none)) r.n r.word) ∙ none;
    })
