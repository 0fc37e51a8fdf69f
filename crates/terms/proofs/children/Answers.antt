-- A number that is no kind has no children; of a kind, two bits and n tell how many.
use mathlib.Core.Path.{sym, ap}
use native.Mathlib.Omega.{arith}
use Rattle.meaning.specs.Terms.{arity, row_of}
use Rattle.terms.proofs.ByKind.{head-other, arity-by-n, arity-fixed}
use Rattle.terms.proofs.children.Goals as goal

pub returns-then-k-gt19 : goal.returns-then-k-gt19
unfolding row_of
returns-then-k-gt19 c =
    (
    let r = c.args.r in
    (sym (ap arity (head-other r.kind r.n r.word c.if-k-gt19.true)), omega arith))

pub returns-then-k-eq1 : goal.returns-then-k-eq1
unfolding row_of
returns-then-k-eq1 c =
    (
    let r = c.args.r in
    let law = arity-by-n r.kind (omega arith) c.if-k-eq1.true in
    (law.1 r.n r.word, omega (arith, law.0)))

pub returns : goal.returns
unfolding row_of
returns c =
    (
    let r = c.args.r in
    (arity-fixed r.kind (omega arith) c.if-k-eq1.false r.n r.word, omega arith))
