-- What a record says before its row space is the same where these bytes are. Assumes nothing.
use Prim.Native.Nat.{ℕ, ◌+◌, ◌*◌, ◌-◌, ◌≤◌}
use mathlib.Core.Path.{◌≡◌, refl, ap, sym, ◌∙◌}
use mathlib.Core.List.{List}
use native.Mathlib.Omega.{arith}
use lib.ListN.{length, take, drop, get_or, length-drop}
use Rattle.meaning.specs.Bytes.{Layout, width, read, reads, record_head, type_row, entry_row, Limits, types_at, calls_at, rows_at, record_bytes}
use Rattle.meaning.specs.Records.{type_count, open_count, next_number, types_in, entries_in, head_sound}
use Rattle.layout.proofs.Tables.{reads-cut}
use Rattle.search.proofs.Tables.{drop-take}
use Rattle.runs.proofs.PutBack.{record-long}

module _ (m : Limits) (a b : List ℕ) (e : take (rows_at m) a ≡ take (rows_at m) b) (la : length a ≡ record_bytes m) (lb : length b ≡ record_bytes m) where
  part_same : (l : Layout) (n p : ℕ) → p + width l * n ≤ rows_at m → reads l n (drop p a) ≡ reads l n (drop p b)
  part_same l n p h =
      let k = rows_at m - p in
      let z : p + k ≡ rows_at m = omega arith in
      let cut : (x : List ℕ) → length x ≡ record_bytes m → reads l n (drop p x) ≡ reads l n (drop p (take (rows_at m) x)) =
      λ x lx. sym (reads-cut l n k (drop p x) (omega arith) (rw (length-drop p x) (omega (arith, record-long m)))) ∙ ap (reads l n) (sym (drop-take p k x) ∙ ap (λ (i : ℕ). drop p (take i x)) z) in
      cut a la ∙ ap (λ (x : List ℕ). reads l n (drop p x)) e ∙ sym (cut b lb)

  pub head-same : read record_head a ≡ read record_head b
  unfolding reads rows_at calls_at width
  head-same = let q = part_same record_head 1 0 (omega arith) in cc

  pub types_same : type_count b ≤ m.types → (type_count a ≡ type_count b) × (types_in a ≡ types_in b)
  unfolding types_in rows_at calls_at width
  types_same h =
      let n : type_count a ≡ type_count b = ap (λ (l : List ℕ). get_or l 5 0) head-same in
      (n, ap (λ (i : ℕ). reads type_row i (drop types_at a)) n ∙ part_same type_row (type_count b) types_at (omega arith))

  pub entries-same : open_count b ≤ m.calls → (open_count a ≡ open_count b) × (entries_in m a ≡ entries_in m b)
  unfolding entries_in rows_at width
  entries-same h =
      let n : open_count a ≡ open_count b = ap (λ (l : List ℕ). get_or l 7 0) head-same in
      (n, ap (λ (i : ℕ). reads entry_row i (drop (calls_at m) a)) n ∙ part_same entry_row (open_count b) (calls_at m) (omega arith))

  pub next-same : next_number a ≡ next_number b
  next-same = ap (λ (l : List ℕ). get_or l 8 0) head-same

  pub head-sound-same : head_sound m a ≡ head_sound m b
  unfolding head_sound
  head-sound-same = rw head-same refl
