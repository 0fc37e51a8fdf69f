-- A row's hash, and that a row equal to another is on the chain of its hash. Assumes nothing.
use Prim.Native.Nat.{ℕ, zero, suc, ◌+◌, ◌*◌, ◌/◌, ◌%◌, ◌-◌, ◌<◌, ◌≤◌}
use mathlib.Core.Path.{◌≡◌, refl, ap, sym, ◌∙◌}
use mathlib.Core.Bool.{Bool, true, false, not}
use mathlib.Core.List.{List, [], ◌∷◌, ◌++◌}
use native.Mathlib.Omega.{arith}
use native.Mathlib.Decide.{ℕ_discrete}
use native.Mathlib.Nat.{mul-le-mul_left}
use native.Mathlib.Numerals.{add-one}
use borrow.Author.Tests.{eq-eqb, ne_eqb}
use lib.ListN.{length, drop, get_or, set, length-set, replicate, get_or-replicate, drop_of_length-le}
use lib.Seq.{drop-cons, get_or-set_same, get_or-set_other}
use Rattle.meaning.specs.Bytes.{◌∧ᵇ◌, width, reads, type_row}
use Rattle.meaning.specs.Types.{form_no, parts_no, result_no, same_numbers, fresh}
use Rattle.meaning.proofs.Trees.Tests.{numbers-is}
use Rattle.layout.proofs.Tables.{reads-split}
use Rattle.types.specs.Table.{type_at, rows_before, PairWord}
use Rattle.types.specs.Chains.{weigh, hash, hash_at, last_of, Chained}

-- The hash -------------------------------------------------------------------------------------------------------

module _ (r : List ℕ) (z : length r ≡ 19) (k w : ℕ) where
  pub weigh-on : (x : ℕ) → k < 8 → PairWord r k x → weigh (drop (3 + 2 * k) r) w ≡ w * x + weigh (drop (3 + 2 * (k + 1)) r) (w * 37 % 65536)
  unfolding weigh
  weigh-on x h p =
      let c : suc (3 + 2 * k) ≡ 4 + 2 * k = omega arith in
      let d : suc (4 + 2 * k) ≡ 3 + 2 * (k + 1) = omega arith in
      rw (drop-cons r (3 + 2 * k) 0 (omega arith), c, drop-cons r (4 + 2 * k) 0 (omega arith), d, p.sum)

  pub weigh-end : 8 ≤ k → weigh (drop (3 + 2 * k) r) w ≡ 0
  unfolding weigh
  weigh-end h = rw (drop_of_length-le r {i = 3 + 2 * k} (omega arith))

pub weighed-small : (w x : ℕ) → w < 65536 → x < 4294967296 → w * x ≤ 281474976710656
weighed-small w x h k =
    let a : w * x ≤ w * 4294967296 = mul-le-mul_left w (omega arith) in
    omega arith

pub hash-sum : (r : List ℕ) (n : ℕ) → n ≡ form_no r + 256 * parts_no r + 65536 * result_no r + weigh (drop 3 r) 37 → n % 4294967296 * 2654435769 / 16777216 % 256 ≡ hash r
unfolding hash
hash-sum r n e = rw e

-- The last of a hash ---------------------------------------------------------------------------------------------

module _ (key : ℕ → ℕ) (h : ℕ) where
  last-here : (t : ℕ) → key t ≡ h → last_of key (suc t) h ≡ suc t
  unfolding last_of
  last-here t e = rw (eq-eqb (key t) h e)

  last-before : (t : ℕ) → (key t ≡ h → ⊥) → last_of key (suc t) h ≡ last_of key t h
  unfolding last_of
  last-before t n = rw (ne_eqb (key t) h n)

  pub last-low : (t : ℕ) → last_of key t h ≤ t
  unfolding last_of
  last-low zero = omega arith
  last-low (suc t) = elim (ℕ_discrete (key t) h) [ yes e ↦ rw (last-here t e) (omega arith) | no n ↦ rw (last-before t n) (omega (arith, last-low t)) ]

  pub last-key : (t j : ℕ) → j ≡ last_of key t h → 0 < j → key (j - 1) ≡ h
  unfolding last_of
  last-key zero j e p = absurd (omega arith)
  last-key (suc t) j e p =
      elim (ℕ_discrete (key t) h) [
        | yes q ↦ let d : j - 1 ≡ t = omega (arith, last-here t q) in rw d q
        | no n ↦ last-key t j (e ∙ last-before t n) p
      ]

-- Fresh rows -----------------------------------------------------------------------------------------------------

pub and-true : (b : Bool) → (b ∧ᵇ true) ≡ b
unfolding ◌∧ᵇ◌
and-true true = refl
and-true false = refl

pub and-false : (b : Bool) → (b ∧ᵇ false) ≡ false
unfolding ◌∧ᵇ◌
and-false true = refl
and-false false = refl

and_assoc : (a b c : Bool) → (a ∧ᵇ (b ∧ᵇ c)) ≡ ((a ∧ᵇ b) ∧ᵇ c)
unfolding ◌∧ᵇ◌
and_assoc true b c = refl
and_assoc false b c = refl

fresh-append : (old : List (List ℕ)) (s r : List ℕ) → fresh (old ++ (s ∷ [])) r ≡ (fresh old r ∧ᵇ not (same_numbers s r))
unfolding fresh
fresh-append [] s r = and-true (not (same_numbers s r)) ∙ sym (unfold ◌∧ᵇ◌ in refl)
fresh-append (q ∷ old) s r = ap (λ (b : Bool). not (same_numbers q r) ∧ᵇ b) (fresh-append old s r) ∙ and_assoc (not (same_numbers q r)) (fresh old r) (not (same_numbers s r))

module _ (s r : List ℕ) where
  -- one row more
  fresh-more : (t : ℕ) → fresh (rows_before s (suc t)) r ≡ (fresh (rows_before s t) r ∧ᵇ not (same_numbers (type_at s t) r))
  unfolding width reads
  fresh-more t = let e = reads-split type_row t 1 s in ap (λ (l : List (List ℕ)). fresh l r) (rw add-one at e) ∙ fresh-append (rows_before s t) (type_at s t) r

  more_same : (t : ℕ) → same_numbers (type_at s t) r ≡ true → fresh (rows_before s (suc t)) r ≡ false
  more_same t q = fresh-more t ∙ rw q (and-false (fresh (rows_before s t) r))

  more-other : (t : ℕ) → same_numbers (type_at s t) r ≡ false → fresh (rows_before s (suc t)) r ≡ fresh (rows_before s t) r
  more-other t q = fresh-more t ∙ rw q (and-true (fresh (rows_before s t) r))

  -- rows of other hashes are other rows
  hash-other : (t : ℕ) → (hash_at s t ≡ hash r → ⊥) → same_numbers (type_at s t) r ≡ false
  hash-other t n = go (same_numbers (type_at s t) r) refl
    where
      go : (b : Bool) → same_numbers (type_at s t) r ≡ b → b ≡ false
      go true e = absurd (n (ap hash (numbers-is (type_at s t) r e)))
      go false e = refl

  pub fresh-last : (t : ℕ) → fresh (rows_before s (last_of (hash_at s) t (hash r))) r ≡ fresh (rows_before s t) r
  unfolding last_of
  fresh-last zero = refl
  fresh-last (suc t) =
      elim (ℕ_discrete (hash_at s t) (hash r)) [
        | yes e ↦ ap (λ (j : ℕ). fresh (rows_before s j) r) (last-here (hash_at s) (hash r) t e)
        | no n ↦ ap (λ (j : ℕ). fresh (rows_before s j) r) (last-before (hash_at s) (hash r) t n) ∙ fresh-last t ∙ sym (more-other t (hash-other t n))
      ]

  -- a row of the chain, counted from 1, that equals r; one that does not, and the next of the chain
  module _ (j : ℕ) (p : 0 < j) where
    up : suc (j - 1) ≡ j
    up = omega arith

    pub chain_same : same_numbers (type_at s (j - 1)) r ≡ true → fresh (rows_before s j) r ≡ false
    chain_same q = ap (λ (i : ℕ). fresh (rows_before s i) r) (sym up) ∙ more_same (j - 1) q

    pub chain-on : (n : ℕ) → same_numbers (type_at s (j - 1)) r ≡ false → n ≡ last_of (hash_at s) (j - 1) (hash r) → fresh (rows_before s n) r ≡ fresh (rows_before s j) r
    chain-on n q e =
        ap (λ (i : ℕ). fresh (rows_before s i) r) e ∙ fresh-last (j - 1) ∙ sym (more-other (j - 1) q) ∙ ap (λ (i : ℕ). fresh (rows_before s i) r) up

pub fresh-none : (s r : List ℕ) (j : ℕ) → j ≤ 0 → fresh (rows_before s j) r ≡ true
unfolding reads fresh
fresh-none s r j h = let e : j ≡ 0 = omega arith in rw e refl

-- Chains ---------------------------------------------------------------------------------------------------------

-- no rows are in chains of zeros
pub no-chains : (s : List ℕ) → Chained s (replicate 256 0) (replicate 256 0) 0
unfolding last_of
no-chains s = record { many = refl; head = λ h k. get_or-replicate 256 h 0 0 k; linked = record { sized = refl; link = λ j k. absurd (omega arith) } }

-- row t joins the chain of its hash h
module _ (s heads links : List ℕ) (t h v : ℕ) (c : Chained s heads links t) (l : t < 256) (e : h ≡ hash_at s t) (k : h < 256) (f : v ≡ t + 1) where
  joined-head : (i : ℕ) → i < 256 → get_or (set heads h v) i 0 ≡ last_of (hash_at s) (t + 1) i
  joined-head i p =
      elim (ℕ_discrete i h) [
        | yes q ↦ rw (q, get_or-set_same heads h v 0 (omega (arith, c.many)), add-one, last-here (hash_at s) h t (sym e)) (f ∙ add-one t)
        | no n ↦ rw (get_or-set_other heads h i v 0 n, add-one, last-before (hash_at s) i t (λ q. n (sym q ∙ sym e))) (c.head i p)
      ]

  joined-link : (j : ℕ) → j < t + 1 → get_or (set links t (get_or heads h 0)) j 0 ≡ last_of (hash_at s) j (hash_at s j)
  joined-link j p =
      elim (ℕ_discrete j t) [
        | yes q ↦ rw (q, get_or-set_same links t (get_or heads h 0) 0 (omega (arith, c.linked.sized)), ← e) (c.head h k)
        | no n ↦ rw (get_or-set_other links t j (get_or heads h 0) 0 n) (c.linked.link j (omega arith))
      ]

  pub chained_more : Chained s (set heads h v) (set links t (get_or heads h 0)) (t + 1)
  chained_more =
      record {
        many = simp length-set c.many;
        head = joined-head;
        linked = record { sized = simp length-set c.linked.sized; link = joined-link };
      }
