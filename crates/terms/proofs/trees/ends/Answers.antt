-- The loop's invariant: the entries from row i on are right.
use Rattle.std.proofs.Common.{◌≡◌, ◌∙◌, ◌+◌, ◌-◌, ℕ, List, ap, arith}
use lib.ListN.{length-set}
use Rattle.meaning.specs.Terms.{arity, row_of}
use Rattle.terms.proofs.Scan.{ends_set}
use Rattle.terms.proofs.Walk.{past_in, past_at}
use Rattle.terms.proofs.trees.ends.Goals as goal

pub past-e-requires : goal.past-e-requires
past-e-requires c =
    let told = c.children.ensures.0 ∙ ap (λ (x : List ℕ). arity (row_of x).head) c.at.ensures.row in
    let next : c.loop-i.i - 1 + 1 ≡ c.loop-i.i = omega arith in
    rw next (past_in c.args.rows.now (c.loop-i.i - 1) c.loop-i.i _ _ (omega arith) c.requires.1 c.loop-i.invariant.right (omega arith) told (omega arith))

pub overflow_cast-ends : goal.overflow_cast-ends
overflow_cast-ends c =
    let told = c.children.ensures.0 ∙ ap (λ (x : List ℕ). arity (row_of x).head) c.at.ensures.row in
    let next : c.loop-i.i - 1 + 1 ≡ c.loop-i.i = omega arith in
    let at = past_at c.args.rows.now (c.loop-i.i - 1) c.loop-i.i _ c.loop-i.ends (omega arith) c.requires.1 c.loop-i.invariant.right (omega arith) told in
    omega (arith, at, rw next at c.past-e.ensures, c.requires.1.within (c.loop-i.i - 1) (omega arith))

pub loop-i-preserved : goal.loop-i-preserved
loop-i-preserved c =
    let told = c.children.ensures.0 ∙ ap (λ (x : List ℕ). arity (row_of x).head) c.at.ensures.row in
    let next : c.loop-i.i - 1 + 1 ≡ c.loop-i.i = omega arith in
    let at = past_at c.args.rows.now (c.loop-i.i - 1) c.loop-i.i _ c.loop-i.ends (omega arith) c.requires.1 c.loop-i.invariant.right (omega arith) told in
    record {
      long = rw length-set c.loop-i.invariant.long;
      right = ends_set _ _ c.loop-i.i c.loop-i.ends c.loop-i.invariant.right (c.loop-i.i - 1) c.past-e.result (omega arith) (omega arith) (rw next at c.past-e.ensures ∙ at);
    }
