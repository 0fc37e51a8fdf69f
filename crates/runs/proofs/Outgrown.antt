-- A run that goes on where its term has outgrown few frames. Assumes nothing.
use Prim.Native.Nat.{ℕ, ◌-◌, ◌≤◌}
use mathlib.Core.Path.{◌≡◌, refl, ap, sym, ◌∙◌, subst}
use mathlib.Core.Bool.{true}
use mathlib.Core.List.{List}
use native.Mathlib.Omega.{arith}
use borrow.Author.Tests.{eq-eqb}
use lib.ListN.{length, replicate, length-replicate}
use Rattle.meaning.specs.Bytes.{Limits, record_bytes, arm}
use Rattle.meaning.specs.Records.{state_of, sound, row_count}
use Rattle.meaning.specs.Entries.{runs, lent, RunOut, ran_out, run, RunSays}
use Rattle.meaning.specs.Answers.{Run}
use Rattle.meaning.proofs.Trees.Tests.{both}
use Rattle.meaning.proofs.Bytes.Layouts.{AllBytes}
use Rattle.meaning.proofs.Bytes.Records.{Small, header}
use Rattle.meaning.proofs.Entries.Paths.{run-within}
use Rattle.runs.specs.Going.{later}
use Rattle.runs.specs.Loops.{Ready, Outgrown, GoneSays, said_later, steps_said}
use Rattle.runs.specs.declared.Gone.{Gone}
use Rattle.runs.specs.declared.Gone.TheVariants.{Ended, Left}

-- a run on a sound record
ran_on : (m : Limits) (kept work : List ℕ) → length kept ≡ record_bytes m → sound m kept ≡ true → length work ≡ m.work_bytes → (budget : ℕ) → run m kept work budget ≡ ran_out m (runs m budget (state_of m kept))
unfolding run lent
ran_on m kept work long ok work-long budget =
    let l = both _ _ (eq-eqb (length kept) (record_bytes m) long) (eq-eqb (length work) m.work_bytes work-long) in
    rw (l, ok) refl

module _ (m : Limits) (kept work : List ℕ) (long : length kept ≡ record_bytes m) (ok : sound m kept ≡ true) (work-long : length work ≡ m.work_bytes) (budget : ℕ) where
  ran : run m kept work budget ≡ ran_out m (runs m budget (state_of m kept))
  ran = ran_on m kept work long ok work-long budget

  -- no more steps than the budget
  pub said-few : (r : Run) (kept' work' : List ℕ) → RunSays m kept work budget r kept' work' → steps_said r ≤ budget
  unfolding ran_out steps_said
  said-few r kept' work' x = omega (arith, ap steps_said (x.answer ∙ ap (λ (y : RunOut). y.answer) ran), run-within m budget (state_of m kept))

  -- IT GOES ON
  pub later-says : (few : List ℕ) (n : ℕ) (kept' work' kept'' work'' : List ℕ) (r said : Run) → length work' ≡ m.work_bytes → Outgrown m kept few budget n kept' → RunSays m kept' work' (budget - n) r kept'' work'' → said ≡ said_later n r → RunSays m kept work budget said kept'' work''
  unfolding ran_out said_later later
  later-says few n kept' work' kept'' work'' r said w o x e =
      let first = ran ∙ ap (ran_out m) o.goes_on in
      let second = ran_on m kept' work' o.long o.is-sound w (budget - n) in
      record {
        answer = e ∙ ap (said_later n) (x.answer ∙ ap (λ (y : RunOut). y.answer) second) ∙ sym (ap (λ (y : RunOut). y.answer) first);
        kept-bytes = x.kept-bytes ∙ ap (λ (y : RunOut). y.record') second ∙ sym (ap (λ (y : RunOut). y.record') first);
        work-bytes = x.work-bytes ∙ ap (λ (y : RunOut). y.work') second ∙ sym (ap (λ (y : RunOut). y.work') first);
      }

-- how it ended
module _ (m : Limits) (kept work few : List ℕ) (budget : ℕ) (g : Gone) (kept' work' : List ℕ) (x : GoneSays m kept work few budget g kept' work') where
  pub ended-says : (r : Run) → g ≡ Ended r → RunSays m kept work budget r kept' work'
  unfolding GoneSays
  ended-says r e = subst (λ (y : Gone). GoneSays m kept work few budget y kept' work') e x

  pub left-says : (n : ℕ) → g ≡ Left n → Outgrown m kept few budget n kept'
  unfolding GoneSays
  left-says n e = subst (λ (y : Gone). GoneSays m kept work few budget y kept' work') e x

-- on the arm
pub arm-ready : (m : Limits) → m ≡ arm → (kept work frames : List ℕ) → Ready arm kept work frames → Ready m kept work frames
arm-ready m e kept work frames r = subst (λ (b : Limits). Ready b kept work frames) (sym e) r

pub arm-gone : (m : Limits) → m ≡ arm → (kept work few : List ℕ) (budget : ℕ) (g : Gone) (kept' work' : List ℕ) → GoneSays m kept work few budget g kept' work' → GoneSays arm kept work few budget g kept' work'
arm-gone m e kept work few budget g kept' work' x = subst (λ (b : Limits). GoneSays b kept work few budget g kept' work') e x

-- with other frames, and from the record where it left
pub few-ready : (m : Limits) (kept work frames few : List ℕ) → Ready m kept work frames → row_count kept ≤ length few → length few ≤ 2048 → Ready m kept work few
few-ready m kept work frames few r d n =
    record { long = r.long; is-sound = r.is-sound; work-long = r.work-long; deep = d; frames-few = n; wide = r.wide; few = r.few; types = r.types; rows = r.rows; calls = r.calls; numbers = r.numbers; programs = r.programs }

pub ready-again : (m : Limits) (kept work frames few far kept' work' : List ℕ) (budget n : ℕ) → Ready m kept work frames → Outgrown m kept few budget n kept' → length work' ≡ length work → AllBytes kept' → m.rows ≤ length far → length far ≤ 2048 → Ready m kept' work' far
ready-again m kept work frames few far kept' work' budget n r o w b d s =
    let small : Small m = record { types = omega (arith, r.types); rows = omega (arith, r.rows); calls = omega (arith, r.calls); numbers = omega (arith, r.numbers) } in
    let h = header m kept' small o.long b o.is-sound in
    record { long = o.long; is-sound = o.is-sound; work-long = w ∙ r.work-long; deep = omega (arith, h.rows_many, d); frames-few = s; wide = r.wide; few = r.few; types = r.types; rows = r.rows; calls = r.calls; numbers = r.numbers; programs = r.programs }

-- with a frame for each row that a term may have
pub arm-begins : (m : Limits) → m ≡ arm → (kept work : List ℕ) → length kept ≡ record_bytes m → sound m kept ≡ true → length work ≡ m.work_bytes → AllBytes kept → Ready arm kept work (replicate 2048 0)
arm-begins m e kept work l s w b =
    let far = length-replicate {A = ℕ} 2048 0 in
    let small : Small arm = record { types = omega arith; rows = omega arith; calls = omega arith; numbers = omega arith } in
    let l' = l ∙ ap record_bytes e in
    let s' = ap (λ (n : Limits). sound n kept) (sym e) ∙ s in
    let h = header arm kept small l' b s' in
    record {
      long = l';
      is-sound = s';
      work-long = w ∙ ap (λ (n : Limits). n.work_bytes) e;
      deep = omega (arith, h.rows_many, far);
      frames-few = omega (arith, far);
      wide = omega arith;
      few = omega arith;
      types = omega arith;
      rows = omega arith;
      calls = omega arith;
      numbers = omega arith;
      programs = omega arith;
    }
