-- The entries on the bytes of a good state, for every content of the buffers lent. Assumes nothing.
use Prim.Native.Nat.{ℕ}
use mathlib.Core.Path.{◌≡◌, refl}
use mathlib.Core.Bool.{true, false}
use mathlib.Core.List.{List}
use borrow.Author.Tests.{eq-eqb}
use lib.Dec.{eqb}
use lib.ListN.{length}
use Rattle.meaning.specs.Bytes.{◌∧ᵇ◌, Limits, record_bytes}
use Rattle.meaning.specs.Records.{State, record_of}
use Rattle.meaning.specs.Entries.{leaves, load, loaded_state, runs, lent, ran_out, rejected, run, replied_out, reply_verdict, reply}
use Rattle.meaning.specs.declared.Refusal.TheVariants.{Length}
use Rattle.std.specs.Prelude.{Ok, Err}
use Rattle.meaning.proofs.Trees.Tests.{both}
use Rattle.meaning.proofs.Bytes.Records.{Small, Good, record-length, state-record, sound-record}

-- Load -----------------------------------------------------------------------------------------------------------

pub load-writes : (m : Limits) (file kept : List ℕ) → (load m file kept).verdict ≡ Ok tt → (load m file kept).record' ≡ record_of m (loaded_state file)
unfolding load leaves
load-writes m file kept e = rw e refl

-- Run and reply --------------------------------------------------------------------------------------------------

module _ (m : Limits) (small : Small m) (s : State) (g : Good m s) (work : List ℕ) where
  lent-right : length work ≡ m.work_bytes → lent m (record_of m s) work ≡ true
  unfolding lent
  lent-right w = both _ _ (eq-eqb _ _ (record-length m s small g)) (eq-eqb _ _ w)

  lent-wrong : eqb (length work) m.work_bytes ≡ false → lent m (record_of m s) work ≡ false
  unfolding lent ◌∧ᵇ◌
  lent-wrong w = rw (eq-eqb (length (record_of m s)) (record_bytes m) (record-length m s small g), w) refl

  pub run-good : (budget : ℕ) → length work ≡ m.work_bytes → run m (record_of m s) work budget ≡ ran_out m (runs m budget s)
  unfolding run
  run-good budget w = rw (lent-right w, sound-record m s small g, state-record m s small g) refl

  pub run_short : (budget : ℕ) → eqb (length work) m.work_bytes ≡ false → run m (record_of m s) work budget ≡ rejected Length (record_of m s) work
  unfolding run
  run_short budget w = rw (lent-wrong w) refl

  pub reply-good : (answer : List ℕ) → length work ≡ m.work_bytes → reply m (record_of m s) work answer ≡ replied_out m s answer (record_of m s) work (reply_verdict m s answer)
  unfolding reply
  reply-good answer w = rw (lent-right w, sound-record m s small g, state-record m s small g) refl

  pub reply-short : (answer : List ℕ) → eqb (length work) m.work_bytes ≡ false → reply m (record_of m s) work answer ≡ replied_out m s answer (record_of m s) work (Err Length)
  unfolding reply
  reply-short answer w = rw (lent-wrong w, state-record m s small g) refl
