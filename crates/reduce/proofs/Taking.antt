-- Rows that go to a sink, one run behind the other. Assumes nothing.
use Prim.Native.Nat.{ℕ, ◌+◌, ◌-◌, ◌≤◌, ◌<◌}
use mathlib.Core.Path.{◌≡◌, refl, sym, ◌∙◌, subst}
use mathlib.Core.Bool.{Bool, true, false, false≢true}
use mathlib.Core.List.{List, [], ◌∷◌, ◌++◌, append_assoc, append-nil}
use native.Mathlib.Omega.{arith}
use lib.ListN.{length, take, set, length-append}
use Rattle.put.specs.Put.{standing}
use Rattle.put.proofs.Loops.{standing-length}
use Rattle.reduce.specs.Taking.{Takes}
use Rattle.reduce.proofs.Filled.{filled_row}

-- a row that is written to a table of its own
pub one-standing : (x y : List (List ℕ)) (r : List ℕ) → 0 < length x → y ≡ set x 0 r → standing y 0 1 ≡ r ∷ []
one-standing x y r h e = filled_row x y [] 0 r refl h e

-- rows behind the first w of a table
pub behind-front : (D X : List (List ℕ)) (w n w' : ℕ) {y : List (List ℕ)} → length X ≡ n → length (take w D) ≡ w → w' ≡ length (take w D ++ X) → y ≡ take w D ++ X → (w' ≡ w + n) × (y ≡ take w D ++ X)
behind-front D X w n w' e s h q = (omega (arith, e, s, h, length-append (take w D) X), q)

module _ {S : Type 0} (holds : S → List (List ℕ) → Type 0) (room loan : S → ℕ) where
  pub takes-none : (s : S) → Takes holds room loan s s true []
  takes-none s = record { taken = λ w l h. (subst (holds s) (sym (append-nil l)) h, omega arith); fits = λ h. refl; same_loan = refl }

  -- a span of standing rows
  pub span-takes : (s t : S) (b : Bool) (rows : List (List ℕ)) (from to : ℕ) → from ≤ to → to ≤ length rows
      → (b ≡ true → (l : List (List ℕ)) → holds s l → holds t (l ++ standing rows from to) × (room t + (to - from) ≡ room s)) → (to - from ≤ room s → b ≡ true) → loan t ≡ loan s
      → Takes holds room loan s t b (standing rows from to)
  span-takes s t b rows from to p q k f e =
      let n = standing-length rows from to p q in
      record { taken = λ w l h. let m = k w l h in (m.0, omega (arith, m.1, n)); fits = λ h. f (omega (arith, h, n)); same_loan = e }

  -- what the sink holds then
  pub open-next : (s t : S) (b : Bool) (x : List (List ℕ)) → Takes holds room loan s t b x → b ≡ true → (l : List (List ℕ)) × holds s l → (l : List (List ℕ)) × holds t l
  open-next s t b x k w (l, h) = (l ++ x, (k.taken w l h).0)

  module _ (s t : S) (a : Bool) (x y : List (List ℕ)) (k : Takes holds room loan s t a x) (opened : (l : List (List ℕ)) × holds s l) where
    -- more behind them
    pub takes-next : (u : S) (b : Bool) → a ≡ true → Takes holds room loan t u b y → Takes holds room loan s u b (x ++ y)
    takes-next u b e m =
        record {
          taken = λ w l h.
              let p = k.taken e l h in
              let q = m.taken w (l ++ x) p.0 in
              (subst (holds u) (append_assoc l x y) q.0, omega (arith, p.1, q.1, length-append x y));
          fits = λ f. let p = k.taken e opened.0 opened.1 in m.fits (omega (arith, f, p.1, length-append x y));
          same_loan = m.same_loan ∙ k.same_loan;
        }

    -- no room for the first of them
    pub takes-fail : (b : Bool) → a ≡ false → b ≡ false → Takes holds room loan s t b (x ++ y)
    takes-fail b e g =
        record {
          taken = λ w. absurd (false≢true (sym g ∙ w));
          fits = λ f. absurd (false≢true (sym e ∙ k.fits (omega (arith, f, length-append x y))));
          same_loan = k.same_loan;
        }
