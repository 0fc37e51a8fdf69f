-- On few frames, and on many where the term is large or has outgrown them.
use Prim.Native.Nat.{ℕ}
use mathlib.Core.Path.{◌∙◌}
use native.Mathlib.Omega.{arith}
use lib.ListN.{length-replicate}
use Rattle.meaning.specs.Bytes.{arm}
use Rattle.runs.proofs.PutBack.{record-long, rows-from}
use Rattle.runs.proofs.Outgrown.{said-few, later-says, ended-says, left-says, few-ready, ready-again}
use Rattle.runs.proofs.run.Goals as goal

pub row_count-requires : goal.row_count-requires
row_count-requires c = omega (arith, c.requires.long, record-long arm, rows-from arm)

pub ride_within-g-requires : goal.ride_within-g-requires
ride_within-g-requires c =
    let few = length-replicate {A = ℕ} 256 0 in
    record {
      ready = few-ready arm _ _ _ _ c.requires (omega (arith, few, c.row_count.ensures, c.if-row_count-gt-FEW.false)) (omega (arith, few));
      fresh = omega arith;
    }

pub overflow_sub-budget : goal.overflow_sub-budget
overflow_sub-budget c = let o = left-says _ _ _ _ _ _ _ _ c.ride_within-g.ensures _ c.in-Left.is in omega (arith, o.few)

pub run_far-r-requires : goal.run_far-r-requires
run_far-r-requires c =
    let o = left-says _ _ _ _ _ _ _ _ c.ride_within-g.ensures _ c.in-Left.is in
    let far = length-replicate {A = ℕ} 2048 0 in
    ready-again arm _ _ _ _ _ _ _ _ _ c.requires o c.ride_within-g.auto.work (λ i. omega (arith, c.slice_known-3-1.given i)) (omega (arith, far)) (omega (arith, far))

pub said_later-requires : goal.said_later-requires
said_later-requires c =
    let o = left-says _ _ _ _ _ _ _ _ c.ride_within-g.ensures _ c.in-Left.is in
    omega (arith, o.few, said-few arm _ _ o.long o.is-sound (c.ride_within-g.auto.work ∙ c.requires.work-long) _ _ _ _ c.run_far-r.ensures, c.well_formed)

pub returns-in-Ended : goal.returns-in-Ended
returns-in-Ended c = ended-says _ _ _ _ _ _ _ _ c.ride_within-g.ensures _ c.in-Ended.is

pub returns-in-Left : goal.returns-in-Left
returns-in-Left c =
    let p = c.requires in
    let o = left-says _ _ _ _ _ _ _ _ c.ride_within-g.ensures _ c.in-Left.is in
    later-says arm _ _ p.long p.is-sound p.work-long _ _ _ _ _ _ _ _ _ (c.ride_within-g.auto.work ∙ p.work-long) o c.run_far-r.ensures c.said_later.ensures
