-- What `?` hands on of a verdict, and what is known behind it where it passes.
use Prim.Native.Nat.{ℕ}
use mathlib.Core.Path.{◌≡◌, refl, sym, ap, ◌∙◌}
use mathlib.Core.Bool.{Bool, true, false}
use native.Mathlib.Omega.{arith}
use Rattle.std.specs.Prelude.{Option, None, Some, Result, Ok, Err, IsErrAnd, ok_or}
use Rattle.std.specs.Result.{result_and}
use Rattle.meaning.specs.declared.Refusal.{Refusal}
use Rattle.meaning.specs.Answers.{Verdict}
use Rattle.meaning.specs.Entries.{require}

never : {A : Type 0} (x : A) (e : Refusal) → ◌≡◌ {A = Result A Refusal} (Ok x) (Err e) → ⊥
never x e q = let o : ◌≡◌ {A = ℕ} 0 1 = cc in omega arith

-- the error that `?` hands on is the one that it met
pub handed-on : {x w : Verdict} {e : Refusal} → IsErrAnd x (λ y. y ≡ e) → w ≡ Err e → x ≡ w
handed-on {x = Ok u} h q = absurd h
handed-on {x = Err y} h q = rw h (sym q)

-- `require(b, r)?`, passed
pub held : {w : Verdict} (b : Bool) (r : Refusal) → w ≡ Ok tt → w ≡ require b r (Ok tt) → b ≡ true
unfolding require
held true r q h = refl
held false r q h = absurd (never tt _ (sym q ∙ h))

-- `o.ok_or(r)?`
module _ {A : Type 0} {w : Result A Refusal} where
  pub missing : {e : Refusal} {x : Verdict} (o : Option A) (r : Refusal) → IsErrAnd x (λ y. y ≡ e) → w ≡ Err e → w ≡ ok_or o r → (o ≡ None) × (x ≡ Err r)
  missing None r h q k = (refl, handed-on h refl ∙ ap (λ (z : Result A Refusal). result_and z (Ok tt)) (sym q ∙ k))
  missing (Some t) r h q k = absurd (never t _ (sym k ∙ q))

  pub there : {t : A} (o : Option A) (r : Refusal) → w ≡ Ok t → w ≡ ok_or o r → o ≡ Some t
  there None r q k = absurd (never _ _ (sym q ∙ k))
  there {t} (Some u) r q k = let e : ◌≡◌ {A = Result A Refusal} (Ok u) (Ok t) = sym k ∙ q in cc
