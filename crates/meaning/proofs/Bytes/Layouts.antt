-- Numbers, rows and tables against their bytes: what is read of what was written, and what is written of what was read. Assumes nothing.
use Prim.Native.Nat.{ℕ, zero, suc, ◌+◌, ◌*◌, ◌/◌, ◌%◌, ◌-◌, ◌≤◌, ◌<◌}
use mathlib.Core.Path.{◌≡◌, refl, ap, sym, ◌∙◌}
use mathlib.Core.Bool.{true}
use mathlib.Core.List.{List, [], ◌∷◌, ◌++◌, map, append_assoc}
use native.Mathlib.Omega.{arith}
use lib.ListN.{length, take, drop, get_or, replicate, length-append, length-drop, length-replicate, take-append-drop, drop_of_length-le}
use lib.Seq.{length-take-le, drop-cons, drop-drop, take-add, get_or-drop, drop_at}
use borrow.Author.Tests.{eqb-true}
use Rattle.meaning.specs.Bytes.{zeros, number, spell, Layout, width, read, write, reads, writes, padded}
use Rattle.meaning.proofs.Trees.Tests.{both, left, right, eq-same}

abbrev pub AllBytes : List ℕ → Type 0
AllBytes s = (i : ℕ) → get_or s i 0 < 256

-- how many numbers a width spells
unfoldable pub pow256 : ℕ → ℕ
pow256 zero = 1
pow256 (suc w) = 256 * pow256 w

-- Parts of bytes -------------------------------------------------------------------------------------------------

pub bytes-nil : AllBytes []
bytes-nil i = omega arith

pub bytes-cons : (b : ℕ) (s : List ℕ) → b < 256 → AllBytes s → AllBytes (b ∷ s)
bytes-cons b s h k zero = h
bytes-cons b s h k (suc i) = k i

pub bytes-tail : (b : ℕ) (s : List ℕ) → AllBytes (b ∷ s) → AllBytes s
bytes-tail b s h i = h (suc i)

pub bytes-append : (s t : List ℕ) → AllBytes s → AllBytes t → AllBytes (s ++ t)
bytes-append [] t h k = k
bytes-append (b ∷ s) t h k = bytes-cons b (s ++ t) (h 0) (bytes-append s t (bytes-tail b s h) k)

pub bytes_drop : (n : ℕ) (s : List ℕ) → AllBytes s → AllBytes (drop n s)
bytes_drop n s h i = rw get_or-drop (h (n + i))

pub bytes_take : (n : ℕ) (s : List ℕ) → AllBytes s → AllBytes (take n s)
bytes_take zero s h = bytes-nil
bytes_take (suc n) [] h = bytes-nil
bytes_take (suc n) (b ∷ s) h = bytes-cons b (take n s) (h 0) (bytes_take n s (bytes-tail b s h))

-- n bytes from place p on, and those behind them
pub joins : (p n : ℕ) (s : List ℕ) → take n (drop p s) ++ drop (p + n) s ≡ drop p s
joins p n s = rw (← (drop-drop n p s)) (take-append-drop n (drop p s))

pub bytes-zeros : (n : ℕ) → AllBytes (replicate n 0)
bytes-zeros zero = bytes-nil
bytes-zeros (suc n) = bytes-cons 0 (replicate n 0) (omega arith) (bytes-zeros n)

pub bytes-padded : (n : ℕ) (s : List ℕ) → AllBytes s → AllBytes (padded n s)
unfolding padded
bytes-padded n s h = bytes-append s _ h (bytes-zeros (n - length s))

pub padded-length : (n : ℕ) (s : List ℕ) → length s ≤ n → length (padded n s) ≡ n
unfolding padded
padded-length n s h = rw (length-append, length-replicate) (omega arith)

pub padded-none : (n : ℕ) → padded n [] ≡ replicate n 0
unfolding padded
padded-none n = let e : n - 0 ≡ n = omega arith in ap (λ (i : ℕ). replicate i 0) e

pub padded-zeros : (s : List ℕ) → zeros s ≡ true → s ≡ replicate (length s) 0
unfolding zeros
padded-zeros [] e = refl
padded-zeros (b ∷ s) e = cc (eqb-true b 0 (left _ _ e), padded-zeros s (right _ _ e))

pub zeros-replicate : (n : ℕ) → zeros (replicate n 0) ≡ true
unfolding zeros
zeros-replicate zero = refl
zeros-replicate (suc n) = both _ _ (eq-same 0) (zeros-replicate n)

-- bytes with zeros behind them, taken and padded again
pub padded-back : (n j : ℕ) (s : List ℕ) → n + j ≤ length s → zeros (take j (drop n s)) ≡ true → padded (n + j) (take n s) ≡ take (n + j) s
unfolding padded
padded-back n j s h u =
    let e : n + j - n ≡ j = omega arith in
    let k : j ≤ length (drop n s) = omega (arith, length-drop n s) in
    rw (length-take-le n s (omega arith), e, take-add n j s)
    (ap (λ (t : List ℕ). take n s ++ t) (sym (padded-zeros (take j (drop n s)) u ∙ ap (λ (i : ℕ). replicate i 0) (length-take-le j (drop n s) k))))

-- Numbers --------------------------------------------------------------------------------------------------------

pub length-spell : (w n : ℕ) → length (spell w n) ≡ w
unfolding spell
length-spell zero n = refl
length-spell (suc w) n = ap suc (length-spell w (n / 256))

pub bytes-spell : (w n : ℕ) → AllBytes (spell w n)
unfolding spell
bytes-spell zero n = bytes-nil
bytes-spell (suc w) n = bytes-cons (n % 256) (spell w (n / 256)) (omega arith) (bytes-spell w (n / 256))

pub number-nil : (w : ℕ) → number w [] ≡ 0
unfolding number
number-nil zero = refl
number-nil (suc w) = refl

pub number-spell : (w n : ℕ) (s : List ℕ) → n < pow256 w → number w (spell w n ++ s) ≡ n
unfolding number spell pow256
number-spell zero n s h = omega arith
number-spell (suc w) n s h = omega (arith, number-spell w (n / 256) s (omega arith))

pub number_bound : (w : ℕ) (s : List ℕ) → AllBytes s → number w s < pow256 w
unfolding number pow256
number_bound zero s h = omega arith
number_bound (suc w) [] h = omega (arith, number_bound w [] h, number-nil w)
number_bound (suc w) (b ∷ s) h = omega (arith, number_bound w s (bytes-tail b s h), h 0)

pub spell-number : (w : ℕ) (s : List ℕ) → AllBytes s → w ≤ length s → spell w (number w s) ≡ take w s
unfolding number spell
spell-number zero s h k = refl
spell-number (suc w) [] h k = absurd (omega arith)
spell-number (suc w) (b ∷ s) h k =
    let e : (b + 256 * number w s) % 256 ≡ b = omega (arith, h 0) in
    let f : (b + 256 * number w s) / 256 ≡ number w s = omega (arith, h 0) in
    rw (e, f) (ap (λ l. b ∷ l) (spell-number w s (bytes-tail b s h) (omega arith)))

-- by positions, behind the end too
pub number_at : (w p : ℕ) (s : List ℕ) → number (suc w) (drop p s) ≡ get_or s p 0 + 256 * number w (drop (suc p) s)
unfolding number
number_at w zero [] = omega (arith, number-nil w)
number_at w (suc p) [] = omega (arith, number-nil w)
number_at w zero (b ∷ s) = refl
number_at w (suc p) (b ∷ s) = number_at w p s

pub number-take : (w n : ℕ) (s : List ℕ) → w ≤ n → number w (take n s) ≡ number w s
unfolding number
number-take zero n s h = refl
number-take (suc w) zero s h = absurd (omega arith)
number-take (suc w) (suc n) [] h = refl
number-take (suc w) (suc n) (b ∷ s) h = omega (arith, number-take w n s (omega arith))

-- Rows -----------------------------------------------------------------------------------------------------------

-- as many numbers as fields, each below what its width spells
unfoldable pub Fits : Layout → List ℕ → Type 0
Fits [] [] = Unit {0}
Fits [] (n ∷ ns) = ⊥
Fits (w ∷ l) [] = ⊥
Fits (w ∷ l) (n ∷ ns) = (n < pow256 w) × Fits l ns

pub fits-length : (l : Layout) (ns : List ℕ) → Fits l ns → length ns ≡ length l
unfolding Fits
fits-length [] [] f = refl
fits-length [] (n ∷ ns) f = absurd f
fits-length (w ∷ l) [] f = absurd f
fits-length (w ∷ l) (n ∷ ns) (h, f) = ap suc (fits-length l ns f)

pub length-read : (l : Layout) (s : List ℕ) → length (read l s) ≡ length l
unfolding read
length-read [] s = refl
length-read (w ∷ l) s = ap suc (length-read l (drop w s))

pub read_fits : (l : Layout) (s : List ℕ) → AllBytes s → Fits l (read l s)
unfolding read Fits
read_fits [] s h = tt
read_fits (w ∷ l) s h = (number_bound w s h, read_fits l (drop w s) (bytes_drop w s h))

pub length-write : (l : Layout) (ns : List ℕ) → length (write l ns) ≡ width l
unfolding write width
length-write [] ns = refl
length-write (w ∷ l) [] = rw (length-append, length-spell, length-write l [])
length-write (w ∷ l) (n ∷ ns) = rw (length-append, length-spell, length-write l ns)

pub bytes-write : (l : Layout) (ns : List ℕ) → AllBytes (write l ns)
unfolding write
bytes-write [] ns = bytes-nil
bytes-write (w ∷ l) [] = bytes-append (spell w 0) _ (bytes-spell w 0) (bytes-write l [])
bytes-write (w ∷ l) (n ∷ ns) = bytes-append (spell w n) _ (bytes-spell w n) (bytes-write l ns)

pub read-write : (l : Layout) (ns s : List ℕ) → Fits l ns → read l (write l ns ++ s) ≡ ns
unfolding read write Fits
read-write [] [] s f = refl
read-write [] (n ∷ ns) s f = absurd f
read-write (w ∷ l) [] s f = absurd f
read-write (w ∷ l) (n ∷ ns) s (h, f) =
    rw (append_assoc (spell w n) (write l ns) s, number-spell w n (write l ns ++ s) h, drop_at (spell w n) (write l ns ++ s) w (length-spell w n), read-write l ns s f)

pub write_read : (l : Layout) (s : List ℕ) → AllBytes s → width l ≤ length s → write l (read l s) ≡ take (width l) s
unfolding read write width
write_read [] s h k = refl
write_read (w ∷ l) s h k =
    rw (take-add w (width l) s, spell-number w s h (omega arith), write_read l (drop w s) (bytes_drop w s h) (rw length-drop (omega arith)))

-- n numbers of a row, from the i-th on
abbrev pub fields : List ℕ → ℕ → ℕ → List ℕ
fields ns i zero = []
fields ns i (suc n) = get_or ns i 0 ∷ fields ns (suc i) n

pub fields-from : (ns : List ℕ) (i n : ℕ) → length ns ≡ i + n → drop i ns ≡ fields ns i n
fields-from ns i zero h = drop_of_length-le ns {i = i} (omega arith)
fields-from ns i (suc n) h = rw (drop-cons ns i 0 (omega arith)) (ap (λ (l : List ℕ). get_or ns i 0 ∷ l) (fields-from ns (suc i) n (omega arith)))

-- Tables ---------------------------------------------------------------------------------------------------------

-- a fact of each of a list
unfoldable pub Each : {A : Type 0} → (A → Type 0) → List A → Type 0
Each P [] = Unit {0}
Each P (x ∷ xs) = P x × Each P xs

pub each_at : {A : Type 0} (P : A → Type 0) (xs : List A) (i : ℕ) (d : A) → Each P xs → i < length xs → P (get_or xs i d)
unfolding Each
each_at P [] i d e h = absurd (omega arith)
each_at P (x ∷ xs) zero d (p, e) h = p
each_at P (x ∷ xs) (suc i) d (p, e) h = each_at P xs i d e (omega arith)

pub each_map : {A B : Type 0} (P : A → Type 0) (Q : B → Type 0) (f : A → B) (xs : List A) → ((x : A) → P x → Q (f x)) → Each P xs → Each Q (map f xs)
unfolding Each
each_map P Q f [] k e = tt
each_map P Q f (x ∷ xs) k (p, e) = (k x p, each_map P Q f xs k e)

abbrev pub AllFit : Layout → List (List ℕ) → Type 0
AllFit l rs = Each (Fits l) rs

pub length-reads : (l : Layout) (n : ℕ) (s : List ℕ) → length (reads l n s) ≡ n
unfolding reads
length-reads l zero s = refl
length-reads l (suc n) s = ap suc (length-reads l n (drop (width l) s))

pub reads_fit : (l : Layout) (n : ℕ) (s : List ℕ) → AllBytes s → AllFit l (reads l n s)
unfolding reads Each
reads_fit l zero s h = tt
reads_fit l (suc n) s h = (read_fits l s h, reads_fit l n (drop (width l) s) (bytes_drop (width l) s h))

pub length-writes : (l : Layout) (rs : List (List ℕ)) → length (writes l rs) ≡ width l * length rs
unfolding writes
length-writes l [] = omega arith
length-writes l (r ∷ rs) = rw (length-append, length-write, length-writes l rs) (omega arith)

pub bytes-writes : (l : Layout) (rs : List (List ℕ)) → AllBytes (writes l rs)
unfolding writes
bytes-writes l [] = bytes-nil
bytes-writes l (r ∷ rs) = bytes-append (write l r) _ (bytes-write l r) (bytes-writes l rs)

pub reads-writes : (l : Layout) (rs : List (List ℕ)) (s : List ℕ) → AllFit l rs → reads l (length rs) (writes l rs ++ s) ≡ rs
unfolding reads writes Each
reads-writes l [] s f = refl
reads-writes l (r ∷ rs) s (h, f) =
    rw (append_assoc (write l r) (writes l rs) s, read-write l r (writes l rs ++ s) h, drop_at (write l r) (writes l rs ++ s) (width l) (length-write l r), reads-writes l rs s f)

pub writes_reads : (l : Layout) (n : ℕ) (s : List ℕ) → AllBytes s → width l * n ≤ length s → writes l (reads l n s) ≡ take (width l * n) s
unfolding reads writes
writes_reads l zero s h k = let e : width l * 0 ≡ 0 = omega arith in rw e refl
writes_reads l (suc n) s h k =
    let e : width l * suc n ≡ width l + width l * n = omega arith in
    rw (e, take-add (width l) (width l * n) s, write_read l s h (omega arith), writes_reads l n (drop (width l) s) (bytes_drop (width l) s h) (rw length-drop (omega arith)))

pub reads_at : (l : Layout) (n i : ℕ) (s d : List ℕ) → i < n → get_or (reads l n s) i d ≡ read l (drop (width l * i) s)
unfolding reads
reads_at l zero i s d h = absurd (omega arith)
reads_at l (suc n) zero s d h = let e : width l * 0 ≡ 0 = omega arith in rw e refl
reads_at l (suc n) (suc i) s d h =
    let e : width l + width l * i ≡ width l * suc i = omega arith in
    reads_at l n i (drop (width l) s) d (omega arith) ∙ ap (read l) (drop-drop (width l * i) (width l) s ∙ ap (λ (x : ℕ). drop x s) e)

-- rows of so many numbers each
abbrev pub Wide : ℕ → List (List ℕ) → Type 0
Wide n rs = Each (λ r. length r ≡ n) rs

pub reads-wide : (l : Layout) (n : ℕ) (s : List ℕ) → Wide (length l) (reads l n s)
unfolding reads Each
reads-wide l zero s = tt
reads-wide l (suc n) s = (length-read l s, reads-wide l n (drop (width l) s))
