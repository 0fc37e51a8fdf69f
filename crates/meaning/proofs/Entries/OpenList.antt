-- The open list with a call entered or taken out: it stays in rising order, and every other number stands as before. Assumes nothing.
use Prim.Native.Nat.{ℕ, suc, ◌≤◌, ◌<◌}
use mathlib.Core.Path.{◌≡◌, refl, ap, sym, ◌∙◌}
use mathlib.Core.Bool.{Bool, true, false, cond}
use mathlib.Core.List.{List, [], ◌∷◌, ◌++◌}
use Rattle.std.specs.Prelude.{Option, None, Some}
use native.Mathlib.Omega.{arith}
use borrow.Author.Tests.{ltb-true, lt-ltb, eqb-true, ne_eqb, eq-eqb}
use lib.Dec.{eqb}
use lib.ListN.{length, length-append}
use Rattle.meaning.specs.Records.{Entry, rises, listed}
use Rattle.meaning.specs.Entries.{without}
use Rattle.meaning.proofs.Trees.Tests.{both, left, right, none-some}
use Rattle.meaning.proofs.Bytes.Layouts.{Each}

pub each_append : {A : Type 0} (P : A → Type 0) (xs ys : List A) → Each P xs → Each P ys → Each P (xs ++ ys)
unfolding Each
each_append P [] ys p q = q
each_append P (x ∷ xs) ys (p, ps) q = (p, each_append P xs ys ps q)

pub each_more : {A : Type 0} (P Q : A → Type 0) (xs : List A) → ((x : A) → P x → Q x) → Each P xs → Each Q xs
unfolding Each
each_more P Q [] k p = tt
each_more P Q (x ∷ xs) k (p, ps) = (k x p, each_more P Q xs k ps)

-- Entering a call ------------------------------------------------------------------------------------------------

abbrev pub Below : ℕ → List Entry → Type 0
Below n es = Each (λ (e : Entry). e.number < n) es

pub rises-with : (es : List Entry) (e : Entry) (low : ℕ) → low < e.number → Below e.number es → rises low es ≡ true → rises low (es ++ (e ∷ [])) ≡ true
unfolding rises Each
rises-with [] e low h b r = both _ _ (lt-ltb low e.number h) refl
rises-with (x ∷ es) e low h (p, b) r = both _ _ (left _ _ r) (rises-with es e x.number p b (right _ _ r))

-- numbers that are listed stay so, under the same type
pub listed-with : (es : List Entry) (e : Entry) (k ty : ℕ) → listed es k ≡ Some ty → listed (es ++ (e ∷ [])) k ≡ Some ty
unfolding listed
listed-with [] e k ty q = absurd (none-some ty q)
listed-with (x ∷ es) e k ty q = go (eqb x.number k) (listed-with es e k ty) q
  where
    go : (b : Bool) → (listed es k ≡ Some ty → listed (es ++ (e ∷ [])) k ≡ Some ty) → cond b (Some x.type) (listed es k) ≡ Some ty → cond b (Some x.type) (listed (es ++ (e ∷ [])) k) ≡ Some ty
    go true ih q = q
    go false ih q = ih q

-- and the one entered is listed
pub listed-new : (es : List Entry) (e : Entry) → Below e.number es → listed (es ++ (e ∷ [])) e.number ≡ Some e.type
unfolding listed Each
listed-new [] e b = rw (eq-eqb e.number e.number refl) refl
listed-new (x ∷ es) e (p, b) = rw (ne_eqb x.number e.number (λ q. omega arith)) (listed-new es e b)

pub length-with : (es : List Entry) (e : Entry) → length (es ++ (e ∷ [])) ≡ suc (length es)
length-with es e = length-append es (e ∷ []) ∙ omega arith

-- Taking one out -------------------------------------------------------------------------------------------------

-- the number taken out is gone, the list being in rising order
above : (es : List Entry) (low k : ℕ) → k ≤ low → rises low es ≡ true → listed es k ≡ None
unfolding rises listed
above [] low k h r = refl
above (x ∷ es) low k h r =
    let p = ltb-true low x.number (left _ _ r) in
    rw (ne_eqb x.number k (λ e. omega arith)) (above es x.number k (omega arith) (right _ _ r))

pub gone : (k : ℕ) (es : List Entry) (low : ℕ) → rises low es ≡ true → listed (without k es) k ≡ None
unfolding rises listed without
gone k [] low r = refl
gone k (x ∷ es) low r = go (eqb x.number k) refl (gone k es x.number (right _ _ r))
  where
    go : (b : Bool) → eqb x.number k ≡ b → listed (without k es) k ≡ None → listed (cond b es (x ∷ without k es)) k ≡ None
    go true q ih = let e = eqb-true x.number k q in above es x.number k (omega arith) (right _ _ r)
    go false q ih = rw q ih

pub each-without : (P : Entry → Type 0) (k : ℕ) (es : List Entry) → Each P es → Each P (without k es)
unfolding without Each
each-without P k [] p = tt
each-without P k (x ∷ es) (p, ps) = go (eqb x.number k) (each-without P k es ps)
  where
    go : (b : Bool) → Each P (without k es) → Each P (cond b es (x ∷ without k es))
    go true q = ps
    go false q = (p, q)

pub length_without : (k : ℕ) (es : List Entry) → length (without k es) ≤ length es
unfolding without
length_without k [] = omega arith
length_without k (x ∷ es) = go (eqb x.number k) (length_without k es)
  where
    go : (b : Bool) → length (without k es) ≤ length es → length (cond b es (x ∷ without k es)) ≤ suc (length es)
    go true q = omega arith
    go false q = omega arith

rises-lower : (es : List Entry) (low high : ℕ) → low ≤ high → rises high es ≡ true → rises low es ≡ true
unfolding rises
rises-lower [] low high h r = refl
rises-lower (x ∷ es) low high h r = both _ _ (lt-ltb low x.number (omega (arith, ltb-true high x.number (left _ _ r)))) (right _ _ r)

pub rises-without : (k : ℕ) (es : List Entry) (low : ℕ) → rises low es ≡ true → rises low (without k es) ≡ true
unfolding rises without
rises-without k [] low r = refl
rises-without k (x ∷ es) low r = go (eqb x.number k) (rises-without k es x.number (right _ _ r))
  where
    go : (b : Bool) → rises x.number (without k es) ≡ true → rises low (cond b es (x ∷ without k es)) ≡ true
    go true q = rises-lower es low x.number (omega (arith, ltb-true low x.number (left _ _ r))) (right _ _ r)
    go false q = both _ _ (left _ _ r) q

-- the other numbers stand as before
pub listed-without : (k j : ℕ) (es : List Entry) → (j ≡ k → ⊥) → listed (without k es) j ≡ listed es j
unfolding listed without
listed-without k j [] n = refl
listed-without k j (x ∷ es) n = go (eqb x.number k) refl (listed-without k j es n)
  where
    go : (b : Bool) → eqb x.number k ≡ b → listed (without k es) j ≡ listed es j → listed (cond b es (x ∷ without k es)) j ≡ cond (eqb x.number j) (Some x.type) (listed es j)
    go true q ih = sym (rw (ne_eqb x.number j (λ e. n (sym e ∙ eqb-true x.number k q))) refl)
    go false q ih = ap (λ (o : Option ℕ). cond (eqb x.number j) (Some x.type) o) ih

some_same : (a b : ℕ) → ◌≡◌ {A = Option ℕ} (Some a) (Some b) → a ≡ b
some_same a b e = cc

-- what is known of each entry is known of a number that is listed
pub listed-fact : (P : Entry → Type 0) (es : List Entry) (k ty : ℕ) → Each P es → listed es k ≡ Some ty → P (record { number = k; type = ty })
unfolding listed Each
listed-fact P [] k ty p q = absurd (none-some ty q)
listed-fact P (x ∷ es) k ty (p, ps) q = go (eqb x.number k) refl q (listed-fact P es k ty ps)
  where
    go : (b : Bool) → eqb x.number k ≡ b → cond b (Some x.type) (listed es k) ≡ Some ty → (listed es k ≡ Some ty → P (record { number = k; type = ty })) → P (record { number = k; type = ty })
    go true e q ih =
        let d : x ≡ record { number = k; type = ty } = λ i. record { number = eqb-true x.number k e i; type = some_same x.type ty q i } in
        rw d at p
    go false e q ih = ih q
