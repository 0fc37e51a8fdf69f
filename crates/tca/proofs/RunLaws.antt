-- A run that is refused, and that two outcomes of the exported run are equal. Assumes nothing.
use Prim.Native.Nat.{ℕ}
use mathlib.Core.Path.{◌≡◌, refl, ap, sym, ◌∙◌, subst}
use mathlib.Core.Bool.{Bool, true, false}
use mathlib.Core.List.{List}
use native.Mathlib.Omega.{arith}
use lib.Dec.{eqb}
use lib.ListN.{length}
use Rattle.meaning.specs.Bytes.{Limits, arm, record_bytes}
use Rattle.meaning.specs.Records.{sound}
use Rattle.meaning.specs.Entries.{require, lent, rejected, run, RunSays}
use Rattle.meaning.specs.declared.Refusal.TheVariants.{Length, Unsound}
use Rattle.std.specs.Prelude.{Ok, Err, IsErrAnd}
use Rattle.meaning.specs.Answers.{Verdict, Run}
use Rattle.meaning.specs.declared.Refusal.{Refusal}
use Rattle.meaning.proofs.Trees.Tests.{both}
use Rattle.sound.proofs.Laws.{fails, passes}
use Rattle.tca.specs.declared.figures.RunAnswer.{RunAnswer}
use Rattle.tca.specs.Runs.{TellsRun}

-- a line of `run` that refuses, and what it hands on
pub fell : {w : Verdict} {e : Refusal} (b : Bool) (r : Refusal) → w ≡ Err e → w ≡ require b r (Ok tt) → (b ≡ false) × (e ≡ r)
unfolding require
fell {e} true r q k = let z : ◌≡◌ {A = Verdict} (Err e) (Ok tt) = sym q ∙ k in let o : ◌≡◌ {A = ℕ} 0 1 = cc in absurd (omega arith)
fell {e} false r q k = let z : ◌≡◌ {A = Verdict} (Err e) (Err r) = sym q ∙ k in (refl, cc)

pub handed : {x : Run} {e r : Refusal} → IsErrAnd x (λ y. y ≡ e) → e ≡ r → x ≡ Err r
handed {x = Ok u} h q = absurd h
handed {x = Err y} h q = ap Err (h ∙ q)

module _ (m : Limits) (a : m ≡ arm) (kept work : List ℕ) (budget : ℕ) where
  refused-length : lent m kept work ≡ false → RunSays arm kept work budget (Err Length) kept work
  unfolding run rejected
  refused-length e = subst (λ (x : Limits). RunSays x kept work budget (Err Length) kept work) a (record { answer = rw e refl; kept-bytes = rw e refl; work-bytes = rw e refl })

  pub other-record : eqb (length kept) (record_bytes m) ≡ false → RunSays arm kept work budget (Err Length) kept work
  unfolding lent
  other-record n = refused-length (fails _ _ n)

  pub other-work : eqb (length kept) (record_bytes m) ≡ true → eqb (length work) m.work_bytes ≡ false → RunSays arm kept work budget (Err Length) kept work
  unfolding lent
  other-work e n = refused-length (passes _ _ e ∙ n)

  pub not_sound : eqb (length kept) (record_bytes m) ≡ true → eqb (length work) m.work_bytes ≡ true → sound m kept ≡ false → RunSays arm kept work budget (Err Unsound) kept work
  unfolding run rejected lent
  not_sound e f s =
      let l = both _ _ e f in
      subst (λ (x : Limits). RunSays x kept work budget (Err Unsound) kept work) a (record { answer = rw (l, s) refl; kept-bytes = rw (l, s) refl; work-bytes = rw (l, s) refl })

-- two outcomes of the exported run are equal
pub tells-run-once : (kept work : List ℕ) (budget : ℕ) (a b c d : List ℕ) (u v : RunAnswer) → TellsRun kept work budget u a b → TellsRun kept work budget v c d
    → (u.refusal ≡ v.refusal) × (u.answer ≡ v.answer) × (u.sent ≡ v.sent) × (u.steps ≡ v.steps) × (a ≡ c) × (b ≡ d)
tells-run-once kept work budget a b c d u v p q =
    (p.figures.refusal ∙ sym q.figures.refusal, p.figures.answer ∙ sym q.figures.answer, p.figures.sent ∙ sym q.figures.sent, p.figures.steps ∙ sym q.figures.steps, cc, cc)
