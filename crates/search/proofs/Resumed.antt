-- Behind a step: the search goes on at the new tree, or at the row of its frame. Assumes nothing.
use Prim.Native.Nat.{ℕ, suc, ◌+◌, ◌*◌, ◌-◌, ◌/◌, ◌<◌, ◌≤◌}
use mathlib.Core.Path.{◌≡◌, refl, ap, ◌∙◌}
use mathlib.Core.Bool.{false}
use mathlib.Core.List.{List, [], ◌∷◌, ◌++◌, map}
use native.Mathlib.Omega.{arith}
use lib.ListN.{length, get_or, take, drop, length-take, length-drop}
use Rattle.layout.proofs.Tables.{term-width}
use Rattle.meaning.specs.Bytes.{reads, term_row}
use Rattle.meaning.specs.Terms.{Row, raw}
use Rattle.search.specs.Kept.{table, row_count, row_in}
use Rattle.search.specs.Search.{Room, Resumes}
use Rattle.search.specs.declared.Stand.{Stand}
use Rattle.search.proofs.Tables.{pasted_length, rows_before_lem, reads-take}
use Rattle.search.proofs.Changes.{root-resumed, frame-resumed, frame-reopened}

cut-row : (left : List ℕ) (j : ℕ) (w : Row) → table left (8 * j) 1 ≡ raw w ∷ [] → reads term_row 1 (take 8 (drop (8 * j) left)) ≡ map raw (w ∷ [])
unfolding table
cut-row left j w a = reads-take term_row 1 8 (drop (8 * j) left) (rw term-width (omega arith)) ∙ a

module _ (left right frames : List ℕ) (s : Stand) (room : Room left right frames s) where
  pub at-root : s.d ≡ 0 → Resumes left right right frames s s
  at-root z = record { long = refl; room = room; reached = λ form k Fs t ts x. root-resumed form k left right frames s Fs t ts z x }

  pub in_frame : (i : ℕ) → s.d ≡ suc i → (s.l ≡ row_in (get_or frames i 0) + 1 → ⊥) → Resumes left right right frames s s
  in_frame i e z = record { long = refl; room = room; reached = λ form k Fs t ts x. frame-resumed form k left right frames s i e Fs t ts z x }

  -- the row copied back
  pub at_row : (right' : List ℕ) (i : ℕ) → s.d ≡ suc i → s.l ≡ row_in (get_or frames i 0) + 1 → 0 < s.r → 8 * s.l ≤ length left
      → right' ≡ take (8 * (s.r - 1)) right ++ (take 8 (drop (8 * (s.l - 1)) left) ++ drop (8 * (s.r - 1) + 8) right)
      → Resumes left right right' frames s (record { l = s.l - 1; r = s.r - 1; d = s.d - 1; here = false })
  at_row right' i e z h hl q =
      let y = take 8 (drop (8 * (s.l - 1)) left) in
      let fits : 8 * (s.r - 1) + 8 * 1 ≤ length right = omega (arith, room.ends) in
      let ly : length y ≡ 8 * 1 = length-take 8 (drop (8 * (s.l - 1)) left) ∙ omega (arith, length-drop (8 * (s.l - 1)) left) in
      let long = pasted_length right y right' (8 * (s.r - 1)) (8 * 1) q fits ly in
      let n : row_count right' ≡ row_count right = ap (λ (j : ℕ). j / 8) long in
      let back : s.r - 1 + 1 ≡ s.r = omega arith in
      let d : s.d - 1 ≡ i = omega (arith, e) in
      record {
        long = long;
        room = record { ends = omega (arith, n, room.ends); few = omega (arith, n, room.few); rows = omega (arith, n, room.rows, room.ends); left-long = omega (arith, n, room.left-long, room.ends); deep = omega (arith, n, room.deep, room.ends) };
        reached = λ form k Fs t ts x.
            frame-reopened form k left right frames s i e right' (record { l = s.l - 1; r = s.r - 1; d = s.d - 1; here = false }) Fs t ts z refl d
            (λ w l a b. rows_before_lem right y right' (s.r - 1) 1 q fits ly (w ∷ []) l (cut-row left (s.l - 1) w a) (rw back b)) x;
      }
