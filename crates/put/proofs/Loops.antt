-- A turn of the pass over a table: what is copied, and what is left to write. Assumes nothing.
use Prim.Native.Nat.{ℕ, zero, suc, ◌+◌, ◌*◌, ◌-◌, ◌≤◌, ◌<◌}
use mathlib.Core.Path.{◌≡◌, refl, ap, sym, ◌∙◌}
use mathlib.Core.List.{List, [], ◌∷◌, ◌++◌, map}
use Rattle.std.specs.Prelude.{Option, None, Some}
use native.Mathlib.Omega.{arith}
use native.Mathlib.Numerals.{add-one}
use lib.ListN.{length, get_or, take, drop, length-append, length-drop, length-map, get_or-map}
use lib.Seq.{drop-cons, length-take-le}
use Rattle.meaning.specs.Types.{Form}
use Rattle.meaning.specs.Terms.{arity, Row, row_of, size, sizes, tree_at, grove}
use Rattle.terms.proofs.Scan.{grove-size, grove-none, owed-some, owed-step, size-some}
use Rattle.put.specs.Put.{standing, rows_for, after, chosen, run, below, arg_rows, put_rows, first_row, end_row, Descends, Ready}
use Rattle.put.proofs.Turning.{below_on}
use Rattle.put.proofs.Passing.{chosen-below, run_none}

pub owed-fits : (l : List Row) (n i : ℕ) → n ≤ sizes (grove l i n)
owed-fits l zero i = omega arith
owed-fits l (suc n) i = omega (arith, grove-size l i n, size-some (tree_at l i), owed-fits l n (i + size (tree_at l i)))

-- a row that is there is read, whatever is read elsewhere
pub row_any : (l : List (List ℕ)) (i : ℕ) (r : List ℕ) → i < length l → get_or l i [] ≡ r → get_or (map row_of l) i (row_of r) ≡ row_of r
row_any l i r h e = get_or-map row_of l i r ∙ ap row_of (go l i h e)
  where
    go : (k : List (List ℕ)) (j : ℕ) → j < length k → get_or k j [] ≡ r → get_or k j r ≡ r
    go [] j h e = absurd (omega arith)
    go (y ∷ k) zero h e = e
    go (y ∷ k) (suc j) h e = go k j (omega arith) e

-- the trees owed from row i on end where those owed from the next row on do
pub owed-on : (l : List (List ℕ)) (i owed : ℕ) → (owed ≡ 0 → ⊥) → (r : List ℕ) → i < length l → get_or l i [] ≡ r
    → i + sizes (grove (map row_of l) i owed) ≡ i + 1 + sizes (grove (map row_of l) (i + 1) (owed - 1 + arity (row_of r).head))
owed-on l i owed n r h e = owed-step (map row_of l) i owed n (row_of r) (omega (arith, h, length-map l row_of)) (row_any l i r h e)

pub standing-length : (l : List (List ℕ)) (from to : ℕ) → from ≤ to → to ≤ length l → length (standing l from to) ≡ to - from
standing-length l from to h k = length-take-le (to - from) (drop from l) (rw length-drop (omega arith))

-- what is left to write, with the trees owed from row i on
abbrev pub left : (ℕ → Form) → List (List ℕ) → List ℕ → List ℕ → List ℕ → ℕ → ℕ → List (List ℕ)
left form l names bounds masks owed i = run form names (arg_rows l bounds) (drop i l) (below masks owed)

-- what a loop of the pass keeps: w rows are counted, `owed` trees from row i on are to come
pub record Going (form : ℕ → Form) (l : List (List ℕ)) (body : ℕ) (names bounds masks : List ℕ) (owed i w : ℕ) : Type 0 where
  pub long : length masks ≡ 2048
  pub ends : i + sizes (grove (map row_of l) i owed) ≡ body + size (tree_at (map row_of l) body)
  pub counted : w + length (left form l names bounds masks owed i) ≡ length (put_rows form l body names bounds)
  pub few : w ≤ 2048 * i

module _ {l : List (List ℕ)} {body : ℕ} {names bounds : List ℕ} (ready : Ready l body names bounds) where
  abbrev L : List Row
  L = map row_of l

  span-in : (o : Option ℕ) (i : ℕ) → i < length l → ((j : ℕ) → o ≡ Some j → j < length names) → (first_row bounds i o ≤ end_row bounds i o) × (end_row bounds i o ≤ length l)
  unfolding first_row end_row
  span-in None i h k = (omega arith, omega arith)
  span-in (Some j) i h k = ready.within j (k j refl)

  rows-standing : (o : Option ℕ) (i : ℕ) (r : List ℕ) → i < length l → get_or l i [] ≡ r → rows_for (arg_rows l bounds) o r ≡ standing l (first_row bounds i o) (end_row bounds i o)
  unfolding rows_for first_row end_row
  rows-standing None i r h g = let z : i + 1 - i ≡ 1 = omega arith in rw (z, drop-cons l i [] h, g) refl
  rows-standing (Some j) i r h g = refl

  -- before the loop nothing is hidden
  pub going_start : (form : ℕ → Form) (masks : List ℕ) → length masks ≡ 2048 → get_or masks 0 0 ≡ 0 → Going form l body names bounds masks 1 body 0
  unfolding put_rows below
  going_start form masks k z =
      record {
        long = k;
        ends = omega (arith, grove-size L body 0, grove-none L (body + size (tree_at L body)));
        counted = rw z (omega arith);
        few = omega arith;
      }

  -- and nothing is written
  pub written_start : (form : ℕ → Form) (masks : List ℕ) (d : List (List ℕ)) → get_or masks 0 0 ≡ 0 → take 0 d ++ left form l names bounds masks 1 body ≡ put_rows form l body names bounds
  unfolding put_rows below
  written_start form masks d z = rw z refl

  module _ {form : ℕ → Form} {masks : List ℕ} {owed i w : ℕ} (go : Going form l body names bounds masks owed i w) where
    pub none_left : owed ≡ 0 → left form l names bounds masks owed i ≡ []
    unfolding below
    none_left z = rw z (run_none form names (arg_rows l bounds) (drop i l))

    -- the row behind the body
    pub going-behind : owed ≡ 0 → i ≡ body + size (tree_at L body)
    going-behind z = omega (arith, go.ends, ap (λ (n : ℕ). sizes (grove L i n)) z ∙ grove-none L i)

    module _ (some-owed : 0 < owed) where
      positive : owed ≡ 0 → ⊥
      positive q = omega arith

      pub going-in : (i < length l) × (owed ≤ length masks)
      going-in = (omega (arith, go.ends, ready.whole, owed-some L i owed positive), omega (arith, go.ends, go.long, ready.whole, ready.few, owed-fits L owed i))

      -- row i is read
      module _ {r : List ℕ} (g : get_or l i [] ≡ r) where
        on : i + sizes (grove L i owed) ≡ i + 1 + sizes (grove L (i + 1) (owed - 1 + arity (row_of r).head))
        on = owed-on l i owed positive r going-in.0 g

        pub going-room : owed - 1 + arity (row_of r).head ≤ length masks
        going-room = omega (arith, on, go.ends, go.long, ready.whole, ready.few, owed-fits L (owed - 1 + arity (row_of r).head) (i + 1))

        -- its span is copied and its trees are owed
        module _ {masks' : List ℕ} {owed' f t : ℕ} (d : Descends form names (row_of r) masks masks' owed owed')
            (fe : f ≡ first_row bounds i (chosen names (row_of r).head (get_or masks (owed - 1) 0))) (te : t ≡ end_row bounds i (chosen names (row_of r).head (get_or masks (owed - 1) 0))) where
          abbrev o : Option ℕ
          o = chosen names (row_of r).head (get_or masks (owed - 1) 0)

          pub copied-span : (f ≤ t) × (t ≤ length l)
          copied-span = rw (fe, te) (span-in o i going-in.0 (chosen-below names (row_of r).head (get_or masks (owed - 1) 0)))

          pub turned : left form l names bounds masks owed i ≡ standing l f t ++ left form l names bounds masks' owed' (i + 1)
          unfolding run
          turned =
              let k : owed ≡ suc (owed - 1) = omega arith in
              let q : drop i l ≡ r ∷ drop (i + 1) l = rw (add-one i) (drop-cons l i [] going-in.0 ∙ ap (λ (x : List ℕ). x ∷ drop (suc i) l) g) in
              let a : rows_for (arg_rows l bounds) o r ≡ standing l f t = rows-standing o i r going-in.0 g ∙ ap (λ (x : ℕ). standing l x (end_row bounds i o)) (sym fe) ∙ ap (standing l f) (sym te) in
              ap (λ (x : List (List ℕ)). run form names (arg_rows l bounds) x (below masks owed)) q
              ∙ ap (run form names (arg_rows l bounds) (r ∷ drop (i + 1) l)) (below_on masks owed (owed - 1) k)
              ∙ ap (λ (x : List (List ℕ)). x ++ run form names (arg_rows l bounds) (drop (i + 1) l) (after form names (row_of r) (get_or masks (owed - 1) 0) (below masks (owed - 1)))) a
              ∙ ap (λ (x : List ℕ). standing l f t ++ run form names (arg_rows l bounds) (drop (i + 1) l) x) (sym d.trees)

          turned-length : length (left form l names bounds masks owed i) ≡ t - f + length (left form l names bounds masks' owed' (i + 1))
          turned-length =
              ap length turned
              ∙ length-append (standing l f t) (left form l names bounds masks' owed' (i + 1))
              ∙ ap (λ (x : ℕ). x + length (left form l names bounds masks' owed' (i + 1))) (standing-length l f t copied-span.0 copied-span.1)

          pub going_next : Going form l body names bounds masks' owed' (i + 1) (w + (t - f))
          going_next =
              record {
                long = d.long ∙ go.long;
                ends = ap (λ (x : ℕ). i + 1 + sizes (grove L (i + 1) x)) d.owes ∙ sym on ∙ go.ends;
                counted = omega (arith, go.counted, turned-length);
                few = omega (arith, go.few, copied-span, ready.few);
              }

          pub going-fits : w + (t - f) ≤ length (put_rows form l body names bounds)
          going-fits = omega (arith, go.counted, turned-length)
