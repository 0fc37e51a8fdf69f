-- A reply's verdict line by line, and what it leaves. Assumes nothing.
use Prim.Native.Nat.{ℕ, ◌-◌}
use mathlib.Core.Path.{◌≡◌, refl, ap, sym, ◌∙◌, subst}
use mathlib.Core.Bool.{Bool, true, false, cond}
use mathlib.Core.List.{List, []}
use native.Mathlib.Omega.{arith}
use borrow.Author.Tests.{eqb-true}
use lib.Dec.{eqb}
use lib.ListN.{length, replicate}
use Rattle.meaning.specs.Bytes.{◌∧ᵇ◌, padded, Limits, arm, record_bytes}
use Rattle.meaning.specs.Records.{record_of, state_of, head_sound, sound}
use Rattle.meaning.specs.Entries.{require, leaves, lent, reply_verdict, replied_state, Replied, replied_out, reply, ReplySays}
use Rattle.meaning.specs.Answers.{Verdict as Judgement}
use Rattle.std.specs.Prelude.{Ok, Err}
use Rattle.meaning.specs.declared.Refusal.{Refusal}
use Rattle.meaning.specs.declared.Refusal.TheVariants.{Length, Unsound}
use Rattle.meaning.proofs.Trees.Tests.{left}
use Rattle.tca.specs.declared.Verdict.{Verdict}
use Rattle.tca.specs.Replies.{judged, TellsReply}

required : (b : Bool) (r : Refusal) (v : Judgement) → require b r v ≡ Ok tt → (b ≡ true) × (v ≡ Ok tt)
unfolding require
required true r v e = (refl, e)
required false r v e = let z : ◌≡◌ {A = ℕ} 0 1 = cc in absurd (omega arith)

-- a sound record's header has passed
pub head_passed : (m : Limits) (kept : List ℕ) → sound m kept ≡ true → head_sound m kept ≡ true
unfolding sound
head_passed m kept e = left _ _ e

module _ (m : Limits) (kept : List ℕ) (room : ℕ) (answer : List ℕ) where
  -- what an accepted reply has passed
  pub record Passed : Type 0 where
    pub long : length kept ≡ record_bytes m
    pub work : room ≡ m.work_bytes
    pub is-sound : sound m kept ≡ true
    pub accepted : reply_verdict m (state_of m kept) answer ≡ Ok tt

  pub passed : judged m kept room answer ≡ Ok tt → Passed
  unfolding judged
  passed e =
      let (a, f) = required _ _ _ e in
      let (b, g) = required _ _ _ f in
      let (d, h) = required _ _ _ g in
      record { long = eqb-true _ _ a; work = eqb-true _ _ b; is-sound = d; accepted = h }

reply-is : (m : Limits) (kept work answer : List ℕ) → reply m kept work answer ≡ replied_out m (state_of m kept) answer kept work (judged m kept (length work) answer)
unfolding reply judged require lent ◌∧ᵇ◌
reply-is m kept work answer = go (eqb (length kept) (record_bytes m)) (eqb (length work) m.work_bytes) (sound m kept)
  where
    go : (a d b : Bool)
        → cond (a ∧ᵇ d) (cond b (replied_out m (state_of m kept) answer kept work (reply_verdict m (state_of m kept) answer)) (replied_out m (state_of m kept) answer kept work (Err Unsound))) (replied_out m (state_of m kept) answer kept work (Err Length))
        ≡ replied_out m (state_of m kept) answer kept work (require a Length (require d Length (require b Unsound (reply_verdict m (state_of m kept) answer))))
    go true true true = refl
    go true true false = refl
    go true false b = refl
    go false d b = refl

blank : (n : ℕ) → padded n [] ≡ replicate n 0
unfolding padded
blank n = let e : n - 0 ≡ n = omega arith in ap (λ (x : ℕ). replicate x 0) e

module _ (m : Limits) (a : m ≡ arm) (kept work answer : List ℕ) (v : Judgement) (d : v ≡ judged m kept (length work) answer) where
  out-is : reply m kept work answer ≡ replied_out m (state_of m kept) answer kept work v
  out-is = reply-is m kept work answer ∙ ap (replied_out m (state_of m kept) answer kept work) (sym d)

  pub replies-settled : (kept' work' : List ℕ) → v ≡ Ok tt → kept' ≡ record_of m (replied_state (state_of m kept) answer) → work' ≡ replicate (length work) 0 → ReplySays arm kept work answer v kept' work'
  unfolding replied_out leaves
  replies-settled kept' work' q k w =
      let p = passed m kept (length work) answer (sym d ∙ q) in
      subst (λ (x : Limits). ReplySays x kept work answer v kept' work') a
      (record {
        verdict = sym (ap (λ (o : Replied). o.verdict) out-is);
        kept-bytes = k ∙ sym (ap (λ (o : Replied). o.record') out-is ∙ rw q refl);
        work-bytes = w ∙ ap (λ (n : ℕ). replicate n 0) p.work ∙ sym (blank m.work_bytes) ∙ sym (ap (λ (o : Replied). o.work') out-is ∙ rw q refl);
      })

  pub replies-nothing : (r : Refusal) → v ≡ Err r → ReplySays arm kept work answer v kept work
  unfolding replied_out leaves
  replies-nothing r q =
      subst (λ (x : Limits). ReplySays x kept work answer v kept work) a
      (record {
        verdict = sym (ap (λ (o : Replied). o.verdict) out-is);
        kept-bytes = sym (ap (λ (o : Replied). o.record') out-is ∙ rw q refl);
        work-bytes = sym (ap (λ (o : Replied). o.work') out-is ∙ rw q refl);
      })

-- two outcomes of the exported reply are equal
pub tells-reply-once : (kept work answer a b c d : List ℕ) (u v : Verdict) → TellsReply kept work answer u a b → TellsReply kept work answer v c d → (u.refusal ≡ v.refusal) × (u.place ≡ v.place) × (a ≡ c) × (b ≡ d)
tells-reply-once kept work answer a b c d u v p q = (cc, cc, cc, cc)
