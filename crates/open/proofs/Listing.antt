-- A turn of each loop over the entries of an open list, and its end. Assumes nothing.
use Prim.Native.Nat.{ℕ, ◌+◌, ◌-◌, ◌<◌, ◌≤◌}
use mathlib.Core.Path.{◌≡◌, refl, ap, sym, ◌∙◌}
use mathlib.Core.Bool.{true, false}
use mathlib.Core.List.{List, [], ◌∷◌, ◌++◌, map, map-append, append_assoc, append-nil}
use Rattle.std.specs.Prelude.{None, Some}
use native.Mathlib.Omega.{arith}
use native.Mathlib.Numerals.{add-one}
use borrow.Author.Tests.{eq-eqb, ne_eqb, lt-ltb, le-ltb}
use lib.ListN.{length, get_or, take, drop, length-map, length-append, length-drop, drop_of_length-le, get_or-map}
use lib.Seq.{drop-cons, take-suc, take_all, take_at, take-take, get_or-take, length-take-le}
use Rattle.meaning.specs.Bytes.{◌∧ᵇ◌}
use Rattle.meaning.specs.Records.{Entry as Call}
use Rattle.meaning.specs.Records.{listed, rises}
use Rattle.meaning.specs.Entries.{without}
use Rattle.open.specs.declared.entries.Entry.{Entry}
use Rattle.open.specs.declared.entries.OpenList.{OpenList}
use Rattle.open.specs.Open.{call, opened}
use Rattle.std.specs.List.{copy_within}
use Rattle.open.proofs.Lists.{map-take, map-drop, drop-take}

module _ (o : OpenList) (h : o.count ≤ length o.entries) where
  pub opened-length : length (opened o) ≡ o.count
  opened-length = length-map (take o.count o.entries) call ∙ length-take-le o.count o.entries h

  -- the entry at place i
  pub opened-at : (i : ℕ) (d e : Entry) → i < o.count → get_or o.entries i d ≡ e → get_or (opened o) i (call d) ≡ call e
  opened-at i d e k q = get_or-map call (take o.count o.entries) i d ∙ ap call (get_or-take o.count o.entries i d k ∙ q)

-- Loops over a list of calls -------------------------------------------------------------------------------------

module _ (l : List Call) (k i : ℕ) (d e : Call) (h : i < length l) (q : get_or l i d ≡ e) where
  here : drop i l ≡ e ∷ drop (i + 1) l
  here = rw (add-one, drop-cons l i d, q)

  pub listed-on : (e.number ≡ k → ⊥) → listed (drop i l) k ≡ listed (drop (i + 1) l) k
  unfolding listed
  listed-on n = rw (here, ne_eqb _ _ n)

  pub listed-hit : e.number ≡ k → listed (drop i l) k ≡ Some e.type
  unfolding listed
  listed-hit n = rw (here, eq-eqb _ _ n)

  pub without_on : (e.number ≡ k → ⊥) → without k l ≡ take i l ++ without k (drop i l) → without k l ≡ take (i + 1) l ++ without k (drop (i + 1) l)
  unfolding without
  without_on n w =
      let t : take (i + 1) l ≡ take i l ++ (e ∷ []) = rw (add-one, ← q) (take-suc l i d h) in
      w ∙ rw (t, here, ne_eqb _ _ n) (sym (append_assoc (take i l) (e ∷ []) (without k (drop (i + 1) l))))

  pub without-hit : e.number ≡ k → without k l ≡ take i l ++ without k (drop i l) → without k l ≡ take i l ++ drop (i + 1) l
  unfolding without
  without-hit n w = w ∙ rw (here, eq-eqb _ _ n)

  pub rises-on : (low : ℕ) → low < e.number → rises low (drop i l) ≡ rises e.number (drop (i + 1) l)
  unfolding rises ◌∧ᵇ◌
  rises-on low n = rw (here, lt-ltb low e.number n)

  pub rises-not : (low : ℕ) → e.number ≤ low → rises low (drop i l) ≡ false
  unfolding rises ◌∧ᵇ◌
  rises-not low n = rw (here, le-ltb low e.number n)

module _ (l : List Call) (k i : ℕ) (h : length l ≤ i) where
  pub listed-out : listed (drop i l) k ≡ None
  unfolding listed
  listed-out = rw (drop_of_length-le l h)

  pub rises-out : rises k (drop i l) ≡ true
  unfolding rises
  rises-out = rw (drop_of_length-le l h)

  pub without-out : without k l ≡ take i l ++ without k (drop i l) → without k l ≡ l
  unfolding without
  without-out w = w ∙ rw (drop_of_length-le l h, take_all i l h) (append-nil l)

-- Lists given back -----------------------------------------------------------------------------------------------

-- place k closed up
pub closed-list : (es : List Entry) (k n : ℕ) → k < n → n ≤ length es
    → map call (take (n - 1) (copy_within es (k + 1) n k)) ≡ take k (map call (take n es)) ++ drop (k + 1) (map call (take n es))
closed-list es k n h f =
    let m = n - (k + 1) in
    let low = take k es in
    let high = take m (drop (k + 1) es) in
    let e : n - 1 ≡ k + m = omega arith in
    let long : length (low ++ high) ≡ k + m = omega (arith, length-append low high, length-take-le k es (omega arith), length-take-le m (drop (k + 1) es) (rw length-drop (omega arith))) in
    ap (map call) (ap (λ (i : ℕ). take i (copy_within es (k + 1) n k)) e ∙ take_at (low ++ high) (drop (k + m) es) _ long)
    ∙ map-append call low high
    ∙ rw (sym (take-take k n es (omega arith)), sym (drop-take (k + 1) n es), map-take call k (take n es), map-drop call (k + 1) (take n es)) refl

pub closed-count : (l : List Call) (n k : ℕ) → length l ≡ n → k < n → n - 1 ≡ length (take k l ++ drop (k + 1) l)
closed-count l n k e h = sym (length-append (take k l) (drop (k + 1) l) ∙ omega (arith, length-take-le k l (omega arith), length-drop (k + 1) l))
