-- A table filled from its first row on. Assumes nothing.
use Prim.Native.Nat.{ℕ, suc, ◌+◌, ◌-◌, ◌/◌, ◌≤◌, ◌<◌}
use mathlib.Core.Path.{◌≡◌, refl, ap, sym, ◌∙◌}
use mathlib.Core.List.{List, [], ◌∷◌, ◌++◌, append_assoc}
use native.Mathlib.Omega.{arith}
use native.Mathlib.Numerals.{add-one}
use lib.ListN.{length, take, drop, set, length-append, length-drop}
use lib.Seq.{take_at, take_all, take-suc-set, length-take-le}
use Rattle.layout.specs.Rows.{row_table}
use Rattle.layout.proofs.Tables.{row-table-length}
use Rattle.meaning.specs.Types.{Form, elem_of}
use Rattle.meaning.specs.Terms.{type_no, n_no}
use Rattle.put.proofs.Loops.{standing-length}
use Rattle.put.specs.Put.{standing}
use Rattle.reduce.specs.Plan.{row_no, pair_rows, half_rows, zip_rows}

-- one more row
pub filled_row : (x y X : List (List ℕ)) (w : ℕ) (r : List ℕ) → take w x ≡ X → w < length x → y ≡ set x w r → take (w + 1) y ≡ X ++ (r ∷ [])
filled_row x y X w r e h q = rw (add-one w) (ap (take (suc w)) q ∙ take-suc-set x w r h ∙ ap (λ (v : List (List ℕ)). v ++ (r ∷ [])) e)

-- k more rows
pub filled-rows : (x y X B : List (List ℕ)) (w k : ℕ) → take w x ≡ X → w + k ≤ length x → length B ≡ k → y ≡ take w x ++ (B ++ drop (w + k) x) → take (w + k) y ≡ X ++ B
filled-rows x y X B w k e h lb q =
    let P = take w x in
    let R = drop (w + k) x in
    let lp : length P ≡ w = length-take-le w x (omega arith) in
    ap (take (w + k)) (q ∙ sym (append_assoc P B R)) ∙ take_at (P ++ B) R (w + k) (length-append P B ∙ omega (arith, lp, lb)) ∙ ap (λ (v : List (List ℕ)). v ++ B) e

-- all rows
pub filled : (x X : List (List ℕ)) (w : ℕ) → take w x ≡ X → length x ≤ w → x ≡ X
filled x X w e h = sym (take_all w x h) ∙ e

pub same_rows : (s t : List ℕ) → length s ≡ length t → length (row_table s) ≡ length (row_table t)
same_rows s t e = row-table-length s ∙ ap (λ (x : ℕ). x / 8) e ∙ sym (row-table-length t)

-- a row, another, some rows, a row, some rows
pub pair-filled : (a b c d e f : List (List ℕ)) (A B : List (List ℕ)) (x y z : List ℕ) (i j p q : ℕ) → length A ≡ i → length B ≡ j → p ≡ 2 + i → q ≡ 3 + i → length a ≡ 3 + i + j
    → length b ≡ length a → length c ≡ length a → length d ≡ length a → length e ≡ length a → length f ≡ length a
    → b ≡ set a 0 x → c ≡ set b 1 y → d ≡ take 2 c ++ (A ++ drop (2 + i) c) → e ≡ set d p z → f ≡ take q e ++ (B ++ drop (q + j) e)
    → f ≡ x ∷ y ∷ (A ++ (z ∷ B))
pair-filled a b c d e f A B x y z i j p q la lb pe qe n nb nc nd ne nf eb ec ed ee ef =
    let s1 : take 1 b ≡ x ∷ [] = filled_row a b [] 0 x refl (omega (arith, n)) eb in
    let s2 : take 2 c ≡ x ∷ y ∷ [] = filled_row b c (x ∷ []) 1 y s1 (omega (arith, n, nb)) ec in
    let s3 : take (2 + i) d ≡ x ∷ y ∷ A = filled-rows c d (x ∷ y ∷ []) A 2 i s2 (omega (arith, n, nc)) la ed in
    let s3' : take p d ≡ x ∷ y ∷ A = ap (λ (k : ℕ). take k d) pe ∙ s3 in
    let s4 : take (p + 1) e ≡ x ∷ y ∷ (A ++ (z ∷ [])) = filled_row d e (x ∷ y ∷ A) p z s3' (omega (arith, n, nd, pe)) ee in
    let w : q ≡ p + 1 = omega (arith, pe, qe) in
    let s4' : take q e ≡ x ∷ y ∷ (A ++ (z ∷ [])) = ap (λ (k : ℕ). take k e) w ∙ s4 in
    let s5 = filled-rows e f (x ∷ y ∷ (A ++ (z ∷ []))) B q j s4' (omega (arith, n, ne, qe)) lb ef in
    filled f _ (q + j) s5 (omega (arith, n, nf, qe)) ∙ ap (λ (v : List (List ℕ)). x ∷ y ∷ v) (append_assoc A (z ∷ []) B)

module _ (form : ℕ → Form) (l : List (List ℕ)) (tail : ℕ) (h : 2 ≤ tail) (k : tail ≤ length l) where
  pub pair-length : length (pair_rows form l tail) ≡ 3 + (tail - 2) + (length l - tail)
  unfolding pair_rows
  pair-length =
      let A = standing l 2 tail in
      let B = standing l tail (length l) in
      omega (arith, length-append A ((18 ∷ n_no (row_no l 0) ∷ type_no (row_no l 0) ∷ 0 ∷ []) ∷ B), standing-length l 2 tail h k, standing-length l tail (length l) k (omega arith))

  pub pair_same : (ty i e n : ℕ) → type_no (row_no l 0) ≡ ty → n_no (row_no l 0) ≡ i → e ≡ elem_of (form ty) → n ≡ length l
      → (13 ∷ 0 ∷ ty ∷ 0 ∷ []) ∷ (17 ∷ i ∷ e ∷ 0 ∷ []) ∷ (standing l 2 tail ++ ((18 ∷ i ∷ ty ∷ 0 ∷ []) ∷ take (n - tail) (drop tail l))) ≡ pair_rows form l tail
  unfolding pair_rows
  pair_same ty i e n p q r s = rw (s, r, sym p, sym q) refl

pub part_length : (l : List (List ℕ)) (from k : ℕ) → from + k ≤ length l → length (take k (drop from l)) ≡ k
part_length l from k h = length-take-le k (drop from l) (rw length-drop (omega arith))

module _ (form : ℕ → Form) (l : List (List ℕ)) (first : ℕ) (h : 2 ≤ first) (k : first ≤ length l) where
  pub zip_length : length (zip_rows form l first) ≡ 3 + (first - 2) + length (half_rows form l 1 first) + (first - 1) + length (half_rows form l 2 first)
  unfolding zip_rows
  zip_length =
      let A = standing l 2 first in
      let B = standing l 1 first in
      let H = half_rows form l 1 first in
      let G = half_rows form l 2 first in
      let x : List ℕ = 8 ∷ n_no (row_no l 0) ∷ type_no (row_no l 0) ∷ 0 ∷ [] in
      omega (arith, length-append A (H ++ (x ∷ (B ++ G))), length-append H (x ∷ (B ++ G)), length-append B G, standing-length l 2 first h k, standing-length l 1 first (omega arith) k)

  pub zip-same : (ty i e : ℕ) (H G : List (List ℕ)) → type_no (row_no l 0) ≡ ty → n_no (row_no l 0) ≡ i → e ≡ elem_of (form ty) → H ≡ half_rows form l 1 first → G ≡ half_rows form l 2 first
      → ((13 ∷ 0 ∷ ty ∷ 0 ∷ []) ∷ ((8 ∷ i ∷ e ∷ 0 ∷ []) ∷ (standing l 2 first ++ H))) ++ ((8 ∷ i ∷ ty ∷ 0 ∷ []) ∷ (standing l 1 first ++ G)) ≡ zip_rows form l first
  unfolding zip_rows
  zip-same ty i e H G p q r s t =
      rw (r, sym p, sym q, s, t)
      (ap (λ (v : List (List ℕ)). (13 ∷ 0 ∷ type_no (row_no l 0) ∷ 0 ∷ []) ∷ (8 ∷ n_no (row_no l 0) ∷ elem_of (form (type_no (row_no l 0))) ∷ 0 ∷ []) ∷ v) (append_assoc (standing l 2 first) (half_rows form l 1 first) ((8 ∷ n_no (row_no l 0) ∷ type_no (row_no l 0) ∷ 0 ∷ []) ∷ (standing l 1 first ++ half_rows form l 2 first))))
