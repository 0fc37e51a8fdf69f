-- Rows settled one after the other, and where the first future of the number stands. Assumes nothing.
use Prim.Native.Nat.{ℕ, suc, ◌+◌, ◌<◌, ◌≤◌}
use mathlib.Core.Path.{◌≡◌, refl, ap, sym, ◌∙◌}
use mathlib.Core.Bool.{Bool, true, false, cond}
use mathlib.Core.List.{List, [], ◌∷◌, ◌++◌, append_assoc, append-nil}
use native.Mathlib.Omega.{arith}
use native.Mathlib.Numerals.{add-one}
use borrow.Author.Tests.{eq-eqb, ne_eqb}
use lib.Dec.{eqb}
use lib.ListN.{length, get_or, take, drop, length-append, take-append-drop}
use lib.Seq.{take-suc, take_all}
use Rattle.meaning.specs.Bytes.{◌∧ᵇ◌}
use Rattle.meaning.specs.Terms.{kind_no, word_no}
use Rattle.std.specs.Prelude.{Option, None, Some, unwrap_or}
use Rattle.meaning.specs.Records.{first_not}
use Rattle.settle.specs.Settled.{is_due, settled, Stands}

-- a row's test by its kind and its word
pub other-kind : (k : ℕ) (r : List ℕ) → (kind_no r ≡ 9 → ⊥) → is_due k r ≡ false
unfolding is_due ◌∧ᵇ◌
other-kind k r n = rw (ne_eqb (kind_no r) 9 n) refl

pub a-future : (k : ℕ) (r : List ℕ) → kind_no r ≡ 9 → is_due k r ≡ eqb (word_no r) k
unfolding is_due ◌∧ᵇ◌
a-future k r e = rw (eq-eqb (kind_no r) 9 e) refl

module _ (k : ℕ) (vs : List (List ℕ)) where
  pub settled-append : (a b : List (List ℕ)) → settled k vs (a ++ b) ≡ settled k vs a ++ settled k vs b
  unfolding settled
  settled-append [] b = refl
  settled-append (r ∷ a) b =
      ap (λ (x : List (List ℕ)). cond (is_due k r) vs (r ∷ []) ++ x) (settled-append a b)
      ∙ sym (append_assoc (cond (is_due k r) vs (r ∷ [])) (settled k vs a) (settled k vs b))

  one-due : (r : List ℕ) → is_due k r ≡ true → settled k vs (r ∷ []) ≡ vs
  unfolding settled
  one-due r e = rw e (append-nil vs)

  one-other : (r : List ℕ) → is_due k r ≡ false → settled k vs (r ∷ []) ≡ r ∷ []
  unfolding settled
  one-other r e = rw e refl

  module _ (l : List (List ℕ)) (i : ℕ) (d r : List ℕ) (h : i < length l) (q : get_or l i d ≡ r) where
    one_more : take (i + 1) l ≡ take i l ++ (r ∷ [])
    one_more = rw (add-one, ← q) (take-suc l i d h)

    pub more-due : is_due k r ≡ true → settled k vs (take (i + 1) l) ≡ settled k vs (take i l) ++ vs
    more-due e = rw one_more (settled-append (take i l) (r ∷ []) ∙ ap (λ (x : List (List ℕ)). settled k vs (take i l) ++ x) (one-due r e))

    pub more-other : is_due k r ≡ false → settled k vs (take (i + 1) l) ≡ settled k vs (take i l) ++ (r ∷ [])
    more-other e = rw one_more (settled-append (take i l) (r ∷ []) ∙ ap (λ (x : List (List ℕ)). settled k vs (take i l) ++ x) (one-other r e))

    -- the counts
    pub count-due : (n t : ℕ) → is_due k r ≡ true → n ≡ length vs → t ≡ length (settled k vs (take i l)) → t + n ≡ length (settled k vs (take (i + 1) l))
    count-due n t e f g = sym (ap length (more-due e) ∙ length-append (settled k vs (take i l)) vs ∙ rw (f, g) refl)

    pub count-other : (t : ℕ) → is_due k r ≡ false → t ≡ length (settled k vs (take i l)) → t + 1 ≡ length (settled k vs (take (i + 1) l))
    count-other t e g = sym (ap length (more-other e) ∙ length-append (settled k vs (take i l)) (r ∷ []) ∙ rw g refl)

  pub all-rows : (l : List (List ℕ)) (i : ℕ) → length l ≤ i → settled k vs (take i l) ≡ settled k vs l
  all-rows l i h = ap (settled k vs) (take_all i l h)

  -- one row for one row
  pub settled-length : length vs ≡ 1 → (l : List (List ℕ)) → length (settled k vs l) ≡ length l
  unfolding settled
  settled-length e [] = refl
  settled-length e (r ∷ l) = go (is_due k r) ∙ ap suc (settled-length e l)
    where
      go : (b : Bool) → length (cond b vs (r ∷ []) ++ settled k vs l) ≡ suc (length (settled k vs l))
      go true = length-append vs (settled k vs l) ∙ omega (arith, e)
      go false = refl

  pub no_rows : (l : List (List ℕ)) → settled k vs (take 0 l) ≡ []
  unfolding settled
  no_rows l = refl

  -- the first rows make no more than all
  pub prefix : (l : List (List ℕ)) (i : ℕ) → length (settled k vs (take i l)) ≤ length (settled k vs l)
  prefix l i =
      let e : length (settled k vs l) ≡ length (settled k vs (take i l)) + length (settled k vs (drop i l)) =
      ap length (ap (settled k vs) (sym (take-append-drop i l)) ∙ settled-append (take i l) (drop i l)) ∙ length-append (settled k vs (take i l)) (settled k vs (drop i l)) in
      omega arith

-- the first future, found by the test that other rows pass
unfoldable pub undue : ℕ → List ℕ → Bool
undue k r = cond (is_due k r) false true

pub first-stands : (k : ℕ) (l : List (List ℕ)) → Stands k l (unwrap_or (first_not (undue k) l) (length l))
unfolding first_not settled undue
first-stands k [] = record { within = omega arith; same = λ vs. refl }
first-stands k (r ∷ l) = go (is_due k r) refl (first-stands k l)
  where
    after : Option ℕ → Option ℕ
    after o = elim o [ None ↦ None | Some i ↦ Some (suc i) ]

    on : (o : Option ℕ) → is_due k r ≡ false → Stands k l (unwrap_or o (length l)) → Stands k (r ∷ l) (unwrap_or (after o) (suc (length l)))
    on None e s = record { within = omega (arith, s.within); same = λ vs. rw e (ap (λ (x : List (List ℕ)). r ∷ x) (s.same vs)) }
    on (Some i) e s = record { within = omega (arith, s.within); same = λ vs. rw e (ap (λ (x : List (List ℕ)). r ∷ x) (s.same vs)) }

    go : (b : Bool) → is_due k r ≡ b → Stands k l (unwrap_or (first_not (undue k) l) (length l)) → Stands k (r ∷ l) (unwrap_or (cond (cond b false true) (after (first_not (undue k) l)) (Some 0)) (suc (length l)))
    go true e s = record { within = omega arith; same = λ vs. refl }
    go false e s = on (first_not (undue k) l) e s
