-- A tree settled is its rows settled, as numbers. Assumes nothing.
use Prim.Native.Nat.{ℕ}
use mathlib.Core.Path.{◌≡◌, refl, ap, sym, ◌∙◌}
use mathlib.Core.Bool.{Bool, true, false, cond}
use mathlib.Core.List.{List, [], ◌∷◌, ◌++◌, map, map-append}
use lib.Dec.{eqb}
use lib.ListN.{length, length-map}
use Rattle.meaning.specs.Bytes.{◌∧ᵇ◌}
use Rattle.meaning.specs.Terms.{code, word_of, Tree, Row, flat, size, raw}
use Rattle.meaning.specs.Steps.{settle}
use Rattle.meaning.proofs.AsWritten.{settled_rows, settle-flat}
use Rattle.meaning.proofs.Trees.Parse.{length-flat}
use Rattle.settle.specs.Settled.{is_due, settled}

settled-raw : (k : ℕ) (vs l : List Row) → map raw (settled_rows k vs l) ≡ settled k (map raw vs) (map raw l)
unfolding settled_rows settled is_due raw
settled-raw k vs [] = refl
settled-raw k vs (r ∷ l) = by_row (eqb (code r.head) 9 ∧ᵇ eqb (word_of r.head) k) (settled-raw k vs l)
  where
    by_row : (b : Bool) → map raw (settled_rows k vs l) ≡ settled k (map raw vs) (map raw l)
        → map raw (cond b (vs ++ settled_rows k vs l) (r ∷ settled_rows k vs l)) ≡ cond b (map raw vs) (raw r ∷ []) ++ settled k (map raw vs) (map raw l)
    by_row true e = map-append raw vs (settled_rows k vs l) ∙ ap (λ (x : List (List ℕ)). map raw vs ++ x) e
    by_row false e = ap (λ (x : List (List ℕ)). raw r ∷ x) e

module _ (k : ℕ) (v t : Tree) where
  pub rows_settled : map raw (flat (settle k v t)) ≡ settled k (map raw (flat v)) (map raw (flat t))
  rows_settled = ap (map raw) (settle-flat k v t) ∙ settled-raw k (flat v) (flat t)

  pub size-settled : size (settle k v t) ≡ length (settled k (map raw (flat v)) (map raw (flat t)))
  size-settled = sym (length-flat (settle k v t)) ∙ sym (length-map (flat (settle k v t)) raw) ∙ ap length rows_settled
