-- The tests by numbers are those of the meaning. Assumes nothing.
use Prim.Native.Nat.{ℕ, zero, suc, ◌-◌, ◌/◌, ◌%◌, ◌<◌, ◌≤◌}
use mathlib.Core.Path.{◌≡◌, refl, ap, sym, ◌∙◌}
use mathlib.Core.Bool.{Bool, true, false, cond, not, false≢true}
use mathlib.Core.List.{List, [], ◌∷◌, ◌++◌}
use native.Mathlib.Omega.{arith}
use lib.Dec.{eqb}
use lib.ListN.{length}
use native.Mathlib.Decide.{ℕ_discrete, dec_lt}
use borrow.Author.Tests.{ne_eqb}
use Rattle.terms.proofs.ByKind.{Below, below, head-other}
use Rattle.meaning.specs.Bytes.{◌∧ᵇ◌}
use Rattle.meaning.specs.Types.{low, rest}
use Rattle.meaning.specs.Terms.{str, file, truth, Head, lit, var, lambda, foreign, apply, future, ite, fix, nil, cons, isnil, zip, tuple, project, lproject, bind, arity, code, n_of, head_from, Tree, Forest, end, more, head_of, is, kids}
use Rattle.meaning.specs.Steps.{◌∨ᵇ◌, is_list, everywhere, first, unless, behind, unready, apply_looks, looks}
use Rattle.search.specs.Frames.{waits}
use Rattle.terms.specs.Masks.{bit}
use Rattle.search.specs.Kinds.{waits_by, looks_by}
use Rattle.search.proofs.OneRow.{first_head, not-true}

pub bit-on : (m k : ℕ) → 0 < k → bit m k ≡ bit (m / 2) (k - 1)
unfolding bit rest
bit-on m zero h = absurd (omega arith)
bit-on m (suc k) h = let e : suc k - 1 ≡ k = omega arith in rw e refl

pub bit-here : (m k : ℕ) → k ≤ 0 → bit m k ≡ eqb (m % 2) 1
unfolding bit low
bit-here m zero h = refl
bit-here m (suc k) h = absurd (omega arith)

pub waits-by : (h : Head) (f : Forest (arity h)) → waits h f ≡ waits_by (code h) (code (first_head f))
unfolding waits waits_by code first_head is is_list
waits-by (lit (str w)) f = refl
waits-by (lit (file w)) f = refl
waits-by (lit (truth true)) f = refl
waits-by (lit (truth false)) f = refl
waits-by (var x) f = refl
waits-by lambda f = refl
waits-by (foreign w) f = refl
waits-by (apply n) (more c f) = refl
waits-by (future k) f = refl
waits-by ite (more c f) = refl
waits-by fix f = refl
waits-by nil f = refl
waits-by cons f = refl
waits-by isnil (more c f) = refl
waits-by (zip m) f = refl
waits-by (tuple n) f = refl
waits-by (project i) (more c f) = refl
waits-by (lproject i) (more c f) = refl
waits-by (bind x) f = refl

-- a row without trees waits or not whatever stands behind it
pub leaf-waits : (h : Head) (x y : ℕ) → arity h ≡ 0 → waits_by (code h) x ≡ waits_by (code h) y
unfolding waits_by code
leaf-waits (lit (str w)) x y e = refl
leaf-waits (lit (file w)) x y e = refl
leaf-waits (lit (truth true)) x y e = refl
leaf-waits (lit (truth false)) x y e = refl
leaf-waits (var z) x y e = refl
leaf-waits lambda x y e = refl
leaf-waits (foreign w) x y e = refl
leaf-waits (apply n) x y e = absurd (omega arith)
leaf-waits (future k) x y e = refl
leaf-waits ite x y e = absurd (omega arith)
leaf-waits fix x y e = refl
leaf-waits nil x y e = refl
leaf-waits cons x y e = refl
leaf-waits isnil x y e = absurd (omega arith)
leaf-waits (zip m) x y e = refl
leaf-waits (tuple n) x y e = refl
leaf-waits (project i) x y e = absurd (omega arith)
leaf-waits (lproject i) x y e = absurd (omega arith)
leaf-waits (bind z) x y e = refl

-- the head of the tree at a place
unfoldable pub head_at : {n : ℕ} → ℕ → Forest n → Head
head_at j end = nil
head_at zero (more t f) = head_of t
head_at (suc j) (more t f) = head_at j f

pub head_at_lem : (n : ℕ) (B : List Tree) (t : Tree) (ts : List Tree) → length B < n → head_at (length B) (kids n (B ++ (t ∷ ts))) ≡ head_of t
unfolding head_at kids
head_at_lem zero B t ts h = absurd (omega arith)
head_at_lem (suc n) [] t ts h = refl
head_at_lem (suc n) (b ∷ B) t ts h = head_at_lem n B t ts (omega arith)

unready-by : {n : ℕ} (m : ℕ) (f : Forest n) (i : ℕ) → i < n → unready m f i ≡ (bit m i ∧ᵇ not (eqb (code (head_at i f)) 12 ∨ᵇ eqb (code (head_at i f)) 13))
unfolding unready bit head_at is_list is
unready-by m end i h = absurd (omega arith)
unready-by m (more t f) zero h = refl
unready-by m (more t f) (suc i) h = unready-by (rest m) f i (omega arith)

some-place : (j : ℕ) → eqb (suc j) 0 ≡ false
some-place j = ne_eqb (suc j) 0 (λ q. omega arith)

first_by : (b : Bool) (j : ℕ) → not b ≡ true → unless b j ≡ eqb j 0
unfolding unless first
first_by true j e = absurd (false≢true e)
first_by false zero e = refl
first_by false (suc j) e = sym (some-place j)

apply-by : {n : ℕ} (c : Tree) (args : Forest n) (j t : ℕ) → is 6 c ≡ false → j < suc n → t ≡ code (head_at j (more c args)) → apply_looks c args j ≡ looks_by 8 j (code (head_of c)) (n_of (head_of c)) t
unfolding apply_looks looks_by is behind everywhere first head_at ◌∧ᵇ◌
apply-by {n} c args j t e h q = rw e (by_kind (eqb (code (head_of c)) 7) (eqb (code (head_of c)) 15) j h q)
  where
    by_kind : (p z : Bool) (j : ℕ) → j < suc n → t ≡ code (head_at j (more c args))
        → cond p (behind everywhere) (cond z (behind (unready (n_of (head_of c)) args)) first) j
        ≡ cond p (not (eqb j 0)) (cond z (not (eqb j 0) ∧ᵇ (bit (n_of (head_of c)) (j - 1) ∧ᵇ not (eqb t 12 ∨ᵇ eqb t 13))) (eqb j 0))
    by_kind true z zero h q = refl
    by_kind true z (suc i) h q = rw (some-place i) refl
    by_kind false true zero h q = refl
    by_kind false true (suc i) h q = let e : suc i - 1 ≡ i = omega arith in rw (some-place i, e, q) (unready-by (n_of (head_of c)) args i (omega arith))
    by_kind false false zero h q = refl
    by_kind false false (suc i) h q = sym (some-place i)

pub looks-by : (h : Head) (f : Forest (arity h)) (j : ℕ) → waits h f ≡ true → j < arity h → looks h f j ≡ looks_by (code h) j (code (first_head f)) (n_of (first_head f)) (code (head_at j f))
unfolding waits looks looks_by code first_head everywhere
looks-by (lit l) f j e h = absurd (false≢true e)
looks-by (var x) f j e h = absurd (false≢true e)
looks-by lambda f j e h = absurd (false≢true e)
looks-by (foreign w) f j e h = absurd (false≢true e)
looks-by (apply n) (more c f) j e h = apply-by c f j _ (not-true (is 6 c) e) h refl
looks-by (future k) f j e h = absurd (false≢true e)
looks-by ite (more c f) j e h = first_by _ j e
looks-by fix f j e h = absurd (false≢true e)
looks-by nil f j e h = absurd (false≢true e)
looks-by cons f j e h = refl
looks-by isnil (more c f) j e h = first_by _ j e
looks-by (zip m) f j e h = absurd (false≢true e)
looks-by (tuple n) f j e h = refl
looks-by (project i) (more c f) j e h = first_by _ j e
looks-by (lproject i) (more c f) j e h = first_by _ j e
looks-by (bind x) f j e h = absurd (false≢true e)

-- Kinds as bytes -------------------------------------------------------------------------------------------------

-- a byte that is no kind is none of those that are asked for
abbrev Told : ℕ → Type 0
Told k = (n w x : ℕ) → 2 ≤ x → eqb (code (head_from k n w)) x ≡ eqb k x

told_at : Below Told 20
unfolding head_from code
told_at = ((((((((((((((((((((tt, (λ n w x h. ne_eqb 1 x (λ q. omega arith) ∙ sym (ne_eqb 0 x (λ q. omega arith)))), (λ n w x h. refl)), (λ n w x h. refl)), (λ n w x h. refl)), (λ n w x h. refl)), (λ n w x h. refl)), (λ n w x h. refl)), (λ n w x h. refl)), (λ n w x h. refl)), (λ n w x h. refl)), (λ n w x h. refl)), (λ n w x h. refl)), (λ n w x h. refl)), (λ n w x h. refl)), (λ n w x h. refl)), (λ n w x h. refl)), (λ n w x h. refl)), (λ n w x h. refl)), (λ n w x h. refl)), (λ n w x h. refl))

pub kind-told : (k n w x : ℕ) → 2 ≤ x → x ≤ 19 → eqb (code (head_from k n w)) x ≡ eqb k x
unfolding code
kind-told k n w x h g =
    elim (dec_lt k 20) [
      | yes y ↦ below Told 20 told_at k y n w x h
      | no y ↦ rw (head-other k n w (omega arith)) (ne_eqb 1 x (λ q. omega arith) ∙ sym (ne_eqb k x (λ q. omega arith)))
    ]

pub waits-told : (k n w c m v : ℕ) → waits_by (code (head_from k n w)) (code (head_from c m v)) ≡ waits_by k c
unfolding waits_by
waits-told k n w c m v =
    let a = kind-told k n w in
    let b = kind-told c m v in
    rw (
      a 8 (omega arith) (omega arith),
      a 10 (omega arith) (omega arith),
      a 13 (omega arith) (omega arith),
      a 14 (omega arith) (omega arith),
      a 16 (omega arith) (omega arith),
      a 17 (omega arith) (omega arith),
      a 18 (omega arith) (omega arith),
      b 6 (omega arith) (omega arith),
      b 3 (omega arith) (omega arith),
      b 4 (omega arith) (omega arith),
      b 12 (omega arith) (omega arith),
      b 13 (omega arith) (omega arith),
      b 16 (omega arith) (omega arith),
    ) refl

mask-told : (c n w : ℕ) (P : ℕ → Bool) (x : Bool) → cond (eqb c 15) (P (n_of (head_from c n w))) x ≡ cond (eqb c 15) (P n) x
unfolding head_from n_of
mask-told c n w P x = elim (ℕ_discrete c 15) [ yes e ↦ rw e refl | no e ↦ rw (ne_eqb c 15 e) refl ]

pub looks-told : (k n w j c m v t n' w' : ℕ) → looks_by (code (head_from k n w)) j (code (head_from c m v)) (n_of (head_from c m v)) (code (head_from t n' w')) ≡ looks_by k j c m t
unfolding looks_by
looks-told k n w j c m v t n' w' =
    let a = kind-told k n w in
    let b = kind-told c m v in
    let d = kind-told t n' w' in
    rw (a 8 (omega arith) (omega arith), a 13 (omega arith) (omega arith), a 16 (omega arith) (omega arith), b 7 (omega arith) (omega arith), b 15 (omega arith) (omega arith), d 12 (omega arith) (omega arith), d 13 (omega arith) (omega arith))
    (ap (λ (x : Bool). cond (eqb k 8) (cond (eqb c 7) (not (eqb j 0)) x) (cond (eqb k 13) true (cond (eqb k 16) true (eqb j 0))))
    (mask-told c m v (λ y. not (eqb j 0) ∧ᵇ (bit y (j - 1) ∧ᵇ not (eqb t 12 ∨ᵇ eqb t 13))) (eqb j 0)))
