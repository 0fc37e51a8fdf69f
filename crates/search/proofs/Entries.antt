-- The numbers of the frames and the rows passed, when a row is entered and when a tree is passed. Assumes nothing.
use Prim.Native.Nat.{ℕ, zero, suc, ◌+◌, ◌-◌, ◌*◌, ◌%◌, ◌<◌, ◌≤◌}
use mathlib.Core.Path.{◌≡◌, refl, ap, sym, ◌∙◌}
use mathlib.Core.Bool.{Bool, true, false}
use mathlib.Core.List.{List, [], ◌∷◌, ◌++◌, map}
use native.Mathlib.Omega.{arith}
use native.Mathlib.Numerals.{add-one}
use lib.Dec.{eqb}
use lib.ListN.{length, get_or, set, drop, length-append, length-map}
use lib.Seq.{get_or-set_same, get_or-set_other}
use Rattle.meaning.specs.Bytes.{◌∧ᵇ◌, read, reads, term_row}
use Rattle.meaning.specs.Terms.{Head, arity, Tree, Row, raw, flat}
use Rattle.search.specs.Frames.{Frame, passed_rows, spelled, entered, passed_by}
use Rattle.search.specs.Kept.{table, copied, row_in, owed_in, flag_in, entered_number, passed_number, Entry, Held, Kept}
use Rattle.search.proofs.Over.{rows-entered, rows-passed}
use Rattle.search.proofs.Frames.{and-true, and-false}
use Rattle.search.proofs.Tables.{map-append, table-length, table-copied}

-- One number ------------------------------------------------------------------------------------------------------

entered-entry : (l n : ℕ) (h : Head) (u : ℕ) (Fs : List Frame) → l ≡ length (passed_rows Fs) → n ≡ arity h → n ≤ 256 → Entry (entered_number l n) (entered h u) Fs
unfolding entered_number row_in owed_in flag_in
entered-entry l n h u Fs a e k =
    let odd : (1024 * l + 2 * n + 1) % 2 ≡ 1 = omega arith in
    record { at = omega arith; owes = omega arith; flag = rw odd refl }

pub passed-row : (x : ℕ) (fine : Bool) → 0 < owed_in x → (row_in (passed_number x fine) ≡ row_in x) × (owed_in (passed_number x fine) + 1 ≡ owed_in x)
unfolding passed_number row_in owed_in
passed-row x true h = (omega arith, omega arith)
passed-row x false h = (omega arith, omega arith)

passed-flag : (x : ℕ) (fine : Bool) → 0 < owed_in x → flag_in (passed_number x fine) ≡ (flag_in x ∧ᵇ fine)
unfolding passed_number owed_in flag_in
passed-flag x true h = let e : (x - 2) % 2 ≡ x % 2 = omega arith in rw (e, and-true (eqb (x % 2) 1)) refl
passed-flag x false h = let e : (x - 2 - x % 2) % 2 ≡ 0 = omega arith in rw (e, and-false (eqb (x % 2) 1)) refl

passed_entry : (x : ℕ) (fine : Bool) (t : Tree) (F : Frame) (Fs : List Frame) → 0 < owed_in x → Entry x F Fs → Entry (passed_number x fine) (passed_by F t fine) Fs
passed_entry x fine t F Fs h e =
    let p = passed-row x fine h in
    record {
      at = p.0 ∙ e.at;
      owes = rw (length-append F.before (t ∷ [])) (omega (arith, p.1, e.owes));
      flag = passed-flag x fine h ∙ ap (λ (b : Bool). b ∧ᵇ fine) e.flag;
    }

-- All of them ------------------------------------------------------------------------------------------------------

-- the numbers of frames further out stand
held_kept : (frames : List ℕ) (i x d : ℕ) (Fs : List Frame) → d ≤ i → Held frames d Fs → Held (set frames i x) d Fs
unfolding Held
held_kept frames i x zero [] h e = tt
held_kept frames i x zero (F ∷ Fs) h e = e
held_kept frames i x (suc d) [] h e = e
held_kept frames i x (suc d) (F ∷ Fs) h (e, r) = (rw (get_or-set_other frames i d x 0 (λ q. omega arith)) e, held_kept frames i x d Fs (omega arith) r)

-- there are no more frames than rows passed
pub held-few : (frames : List ℕ) (d : ℕ) (Fs : List Frame) → Held frames d Fs → d ≤ length (passed_rows Fs)
unfolding Held passed_rows
held-few frames zero [] h = omega arith
held-few frames zero (F ∷ Fs) h = absurd h
held-few frames (suc d) [] h = absurd h
held-few frames (suc d) (F ∷ Fs) (e, r) = omega (arith, held-few frames d Fs r, length-append (passed_rows Fs) (record { head = F.head; type = F.type } ∷ spelled F.before))

pub rows_long : (left frames : List ℕ) (l d : ℕ) (Fs : List Frame) → Kept left frames l d Fs → l ≡ length (passed_rows Fs)
rows_long left frames l d Fs k = sym (table-length left 0 l) ∙ ap length k.rows ∙ length-map (passed_rows Fs) raw

pub frames-few : (left frames : List ℕ) (l d : ℕ) (Fs : List Frame) → Kept left frames l d Fs → d ≤ l
frames-few left frames l d Fs k = omega (arith, rows_long left frames l d Fs k, held-few frames d Fs k.held)

module _ (left left' right frames : List ℕ) (l r d : ℕ) where
  -- a row that is entered
  pub enter-kept : (x : Row) (Fs : List Frame) → d < length frames → 8 * l + 8 ≤ length left → 8 * r + 8 ≤ length right → left' ≡ copied left l right r 1
      → read term_row (drop (8 * r) right) ≡ raw x → arity x.head ≤ 256 → Kept left frames l d Fs
      → Kept left' (set frames d (entered_number l (arity x.head))) (l + 1) (d + 1) (entered x.head x.type ∷ Fs)
  unfolding Held table reads
  enter-kept x Fs hd hl hr e q n k =
      let rows = table-copied left right left' l r 1 (omega arith) (omega arith) e in
      rw (add-one d) (record {
        rows = rows ∙ cc (k.rows, q) ∙ sym (map-append raw (passed_rows Fs) (x ∷ [])) ∙ ap (map raw) (sym (rows-entered Fs x.head x.type));
        held = (
          rw (get_or-set_same frames d (entered_number l (arity x.head)) 0 hd) (entered-entry l (arity x.head) x.head x.type Fs (rows_long left frames l d Fs k) refl n),
          held_kept frames d (entered_number l (arity x.head)) d Fs (omega arith) k.held,
        );
      })

  -- a tree that is passed
  pub pass_kept : (i n : ℕ) (fine : Bool) (t : Tree) (F : Frame) (Fs : List Frame) → d ≡ suc i → i < length frames → 0 < owed_in (get_or frames i 0)
      → table left' 0 (l + n) ≡ table left 0 l ++ map raw (flat t)
      → Kept left frames l d (F ∷ Fs) → Kept left' (set frames i (passed_number (get_or frames i 0) fine)) (l + n) d (passed_by F t fine ∷ Fs)
  unfolding Held
  pass_kept i n fine t F Fs ds hi o q k =
      let h = rw ds at k.held in
      record {
        rows = q ∙ ap (λ (x : List (List ℕ)). x ++ map raw (flat t)) k.rows ∙ sym (map-append raw (passed_rows (F ∷ Fs)) (flat t)) ∙ ap (map raw) (sym (rows-passed F Fs t fine));
        held = rw ds (
          rw (get_or-set_same frames i (passed_number (get_or frames i 0) fine) 0 hi) (passed_entry (get_or frames i 0) fine t F Fs o h.0),
          held_kept frames i (passed_number (get_or frames i 0) fine) i Fs (omega arith) h.1,
        );
      }
