-- Numbers and rows by their places, and tables of rows. Assumes nothing.
use Prim.Native.Nat.{ℕ, zero, suc, ◌+◌, ◌*◌, ◌<◌, ◌≤◌}
use mathlib.Core.Path.{◌≡◌, refl, ap, sym, ◌∙◌}
use mathlib.Core.List.{List, [], ◌∷◌, ◌++◌}
use native.Mathlib.Omega.{arith}
use native.Mathlib.Nat.{add-zero, add_assoc}
use native.Mathlib.Numerals.{add-one}
use lib.ListN.{length, get_or, drop, set, replicate, length-drop}
use lib.Seq.{drop-drop, get_or-drop, paste, paste-suc, sets, sets-eq}
use Rattle.meaning.specs.Bytes.{Layout, number, spell, width, read, write, reads, type_row, term_row, record_head}
use Rattle.meaning.specs.Records.{record_mark}
use Rattle.meaning.proofs.Bytes.Layouts.{number_at, reads_at}
use Rattle.meaning.specs.Types.{form_no, parts_no, result_no}
use Rattle.meaning.specs.Terms.{kind_no, type_no}
use Rattle.layout.specs.declared.Row.{Row}
use Rattle.layout.specs.Rows.{numbers}

-- a number by its first byte and the others
number_more : (w p : ℕ) (s : List ℕ) → number (suc w) (drop p s) ≡ get_or s p 0 + 256 * number w (drop (p + 1) s)
number_more w p s = rw (add-one p) (number_at w p s)

-- the places of one, two and four bytes
pub number-1 : (p : ℕ) (s : List ℕ) → number 1 (drop p s) ≡ get_or s p 0
unfolding number
number-1 p s = number_more 0 p s ∙ add-zero (get_or s p 0)

pub number-2 : (p : ℕ) (s : List ℕ) → number 2 (drop p s) ≡ get_or s p 0 + 256 * get_or s (p + 1) 0
number-2 p s = number_more 1 p s ∙ ap (λ (x : ℕ). get_or s p 0 + 256 * x) (number-1 (p + 1) s)

pub number-4 : (p : ℕ) (s : List ℕ) → number 4 (drop p s) ≡ number 2 (drop p s) + 65536 * number 2 (drop (p + 2) s)
number-4 p s =
    let e = number_more 3 p s in
    let f = number_more 2 (p + 1) s in
    let q : number 2 (drop (p + 1 + 1) s) ≡ number 2 (drop (p + 2) s) = ap (λ (x : ℕ). number 2 (drop x s)) (add_assoc p 1 1) in
    omega (arith, number-2 p s)

-- Rows by their places -------------------------------------------------------------------------------------------

pub read-front : (w : ℕ) (l : Layout) (p q : ℕ) (s : List ℕ) → p + w ≡ q → read (w ∷ l) (drop p s) ≡ number w (drop p s) ∷ read l (drop q s)
unfolding read
read-front w l p q s e = ap (λ (x : List ℕ). number w (drop p s) ∷ read l x) (drop-drop w p s ∙ ap (λ (x : ℕ). drop x s) e)

-- a term row by its bytes
pub term-row : (p : ℕ) (s : List ℕ) → read term_row (drop p s) ≡ get_or s p 0 ∷ get_or s (p + 1) 0 ∷ number 2 (drop (p + 2) s) ∷ number 4 (drop (p + 4) s) ∷ []
unfolding read
term-row p s =
    let e : p + 1 + 1 ≡ p + 2 = omega arith in
    let f : p + 2 + 2 ≡ p + 4 = omega arith in
    read-front 1 (1 ∷ 2 ∷ 4 ∷ []) p (p + 1) s refl
    ∙ rw (number-1 p s, read-front 1 (2 ∷ 4 ∷ []) (p + 1) (p + 2) s e, number-1 (p + 1) s, read-front 2 (4 ∷ []) (p + 2) (p + 4) s f)

pub row_made : (p : ℕ) (s : List ℕ) (r : Row) → r.kind ≡ get_or s p 0 → r.n ≡ get_or s (p + 1) 0 → r.ty ≡ number 2 (drop (p + 2) s) → r.word ≡ number 4 (drop (p + 4) s) → numbers r ≡ read term_row (drop p s)
row_made p s r a b d e = rw (a, b, d, e) (sym (term-row p s))

-- the numbers of two bytes at the end of a type row
two_at : (n k : ℕ) (s : List ℕ) → k < n → get_or (read (replicate n 2) s) k 0 ≡ number 2 (drop (2 * k) s)
unfolding read
two_at zero k s h = absurd (omega arith)
two_at (suc n) zero s h = refl
two_at (suc n) (suc k) s h =
    let e : 2 + 2 * k ≡ 2 * suc k = omega arith in
    two_at n k (drop 2 s) (omega arith) ∙ ap (number 2) (drop-drop (2 * k) 2 s ∙ ap (λ (x : ℕ). drop x s) e)

type_row_lem : (p : ℕ) (s : List ℕ) → read type_row (drop p s) ≡ get_or s p 0 ∷ get_or s (p + 1) 0 ∷ number 2 (drop (p + 2) s) ∷ read (replicate 16 2) (drop (p + 4) s)
type_row_lem p s =
    let e : p + 1 + 1 ≡ p + 2 = omega arith in
    let f : p + 2 + 2 ≡ p + 4 = omega arith in
    read-front 1 (1 ∷ 2 ∷ replicate 16 2) p (p + 1) s refl
    ∙ rw (number-1 p s, read-front 1 (2 ∷ replicate 16 2) (p + 1) (p + 2) s e, number-1 (p + 1) s, read-front 2 (replicate 16 2) (p + 2) (p + 4) s f)

module _ (p : ℕ) (s : List ℕ) where
  pub form-at : form_no (read type_row (drop p s)) ≡ get_or s p 0
  form-at = ap (λ (r : List ℕ). get_or r 0 0) (type_row_lem p s)

  pub parts_at : parts_no (read type_row (drop p s)) ≡ get_or s (p + 1) 0
  parts_at = ap (λ (r : List ℕ). get_or r 1 0) (type_row_lem p s)

  pub result-at : result_no (read type_row (drop p s)) ≡ number 2 (drop (p + 2) s)
  result-at = ap (λ (r : List ℕ). get_or r 2 0) (type_row_lem p s)

  -- the numbers behind the result
  pub behind-at : (j n q : ℕ) → j < 16 → n ≡ 3 + j → q ≡ p + 4 + 2 * j → get_or (read type_row (drop p s)) n 0 ≡ number 2 (drop q s)
  behind-at j n q h e f =
      let e' : n ≡ suc (suc (suc j)) = omega arith in
      let f' : p + 4 + 2 * j ≡ q = omega arith in
      rw (e', type_row_lem p s) (two_at 16 j (drop (p + 4) s) h ∙ ap (number 2) (drop-drop (2 * j) (p + 4) s ∙ ap (λ (x : ℕ). drop x s) f'))

-- the k-th pair of row t
module _ (t : ℕ) (s : List ℕ) (k : ℕ) (h : k < 8) where
  pub name-at : get_or (read type_row (drop (36 * t) s)) (3 + 2 * k) 0 ≡ number 2 (drop (36 * t + 4 + 4 * k) s)
  name-at = behind-at (36 * t) s (2 * k) (3 + 2 * k) (36 * t + 4 + 4 * k) (omega arith) refl (omega arith)

  pub type_at : get_or (read type_row (drop (36 * t) s)) (4 + 2 * k) 0 ≡ number 2 (drop (36 * t + 6 + 4 * k) s)
  type_at = behind-at (36 * t) s (2 * k + 1) (4 + 2 * k) (36 * t + 6 + 4 * k) (omega arith) (omega arith) (omega arith)

-- Tables ---------------------------------------------------------------------------------------------------------

-- the i-th row of a table that begins at base
pub rows-at : (l : Layout) (n i base : ℕ) (s : List ℕ) (d : List ℕ) → i < n → get_or (reads l n (drop base s)) i d ≡ read l (drop (base + width l * i) s)
rows-at l n i base s d h = reads_at l n i (drop base s) d h ∙ ap (read l) (drop-drop (width l * i) base s)

pub term-rows-at : (n i base : ℕ) (s : List ℕ) (d : List ℕ) → i < n → get_or (reads term_row n (drop base s)) i d ≡ read term_row (drop (base + 8 * i) s)
unfolding width
term-rows-at n i base s d h = rows-at term_row n i base s d h

-- the fields of a row by value are the row's numbers
module _ (r : Row) (x : List ℕ) (e : numbers r ≡ x) where
  pub row-kind : r.kind ≡ kind_no x
  row-kind = ap (λ (l : List ℕ). get_or l 0 0) e

  pub row_type : r.ty ≡ type_no x
  row_type = ap (λ (l : List ℕ). get_or l 2 0) e

-- Copying --------------------------------------------------------------------------------------------------------

-- a turn of a loop that stores a list's elements one behind the other, and its end
module _ (d : List ℕ) (at : ℕ) (s : List ℕ) (i : ℕ) (x : List ℕ) (e : x ≡ paste d at s i) where
  stored : (v : ℕ) → at + i < length d → i < length s → v ≡ get_or s i 0 → set x (at + i) v ≡ paste d at s (i + 1)
  stored v h k q = rw (e, q, add-one i) (paste-suc d at s i 0 h k)

module _ (d : List ℕ) (at : ℕ) (s : List ℕ) (from i : ℕ) (x : List ℕ) (e : x ≡ paste d at (drop from s) i) where
  pub copied_more : at + i < length d → from + i < length s → set x (at + i) (get_or s (from + i) 0) ≡ paste d at (drop from s) (i + 1)
  copied_more h k = stored d at (drop from s) i x e _ h (rw length-drop (omega arith)) (sym (get_or-drop from s i 0))

-- Runs of stores -------------------------------------------------------------------------------------------------

-- one run behind another
pub sets-sets : (vs ws l : List ℕ) (i j : ℕ) → i + length vs ≡ j → sets (sets l i vs) j ws ≡ sets l i (vs ++ ws)
sets-sets [] ws l i j e = let q : j ≡ i = omega arith in rw q refl
sets-sets (v ∷ vs) ws l i j e = sets-sets vs ws (set l i v) (suc i) j (omega arith)

pub three-runs : (i j k : ℕ) (u v w l a b c : List ℕ) → a ≡ sets l i u → b ≡ sets a j v → c ≡ sets b k w → i + length u ≡ j → j + length v ≡ k → c ≡ sets l i (u ++ (v ++ w))
three-runs i j k u v w l a b c e f g p q =
    g
    ∙ ap (λ (x : List ℕ). sets x k w) f
    ∙ sets-sets v w a j k q
    ∙ ap (λ (x : List ℕ). sets x j (v ++ w)) e
    ∙ sets-sets u (v ++ w) l i j p

-- from the first place on
pub sets-front : (vs l : List ℕ) (n : ℕ) → length vs ≡ n → n ≤ length l → sets l 0 vs ≡ vs ++ drop n l
sets-front vs l n e h = let q : 0 + length vs ≡ n = omega arith in sets-eq vs l 0 (omega arith) ∙ rw q

-- the header of a record is three runs
pub head-written : (l a b c : List ℕ) (types rows calls next program : ℕ) → 20 ≤ length l
    → a ≡ sets l 0 (84 ∷ 67 ∷ 82 ∷ 1 ∷ 0 ∷ 0 ∷ [])
    → b ≡ sets a 6 (spell 2 types ++ (spell 2 rows ++ spell 2 calls))
    → c ≡ sets b 12 (spell 4 next ++ (spell 2 program ++ spell 2 0))
    → c ≡ write record_head (record_mark ++ (types ∷ rows ∷ calls ∷ next ∷ program ∷ 0 ∷ [])) ++ drop 20 l
unfolding spell write
head-written l a b c types rows calls next program h e f g =
    g
    ∙ ap (λ (x : List ℕ). sets x 12 (spell 4 next ++ (spell 2 program ++ spell 2 0))) (f ∙ ap (λ (x : List ℕ). sets x 6 (spell 2 types ++ (spell 2 rows ++ spell 2 calls))) e)
    ∙ sets-front (write record_head (record_mark ++ (types ∷ rows ∷ calls ∷ next ∷ program ∷ 0 ∷ []))) l 20 refl h

-- What the reads of this crate are proved by, beside what is tried at every goal.
pub ruleset places = (number-2, number-4, form-at, parts_at, result-at, name-at, type_at)
