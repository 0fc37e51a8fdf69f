-- Where trees begin and end, filled in one by one. Assumes nothing.
use Prim.Native.Nat.{ℕ, ◌+◌, ◌/◌, ◌≤◌, ◌<◌}
use mathlib.Core.Path.{◌≡◌, ◌∙◌}
use mathlib.Core.List.{List}
use native.Mathlib.Omega.{arith}
use lib.ListN.{length, get_or, set, length-set}
use Rattle.layout.specs.Rows.{row_table, term_rows}
use Rattle.layout.proofs.Tables.{row-table-length}
use Rattle.meaning.specs.Terms.{size, sizes, tree_at, grove}
use Rattle.terms.proofs.Scan.{grove-none}
use Rattle.reduce.proofs.Roots.{arg-in, arg-next}
use Rattle.reduce.proofs.Bound.{bounds-first, bounds-more}

-- of n trees from row `first` on, where the first k begin and end: the next one begins at row `at`
pub record Bounded (rows : List ℕ) (first n : ℕ) (bounds : List ℕ) (at k : ℕ) : Type 0 where
  pub long : length bounds ≡ 9
  pub here : at ≡ first + sizes (grove (term_rows rows) first k)
  pub places : (j : ℕ) → j ≤ k → get_or bounds j 0 ≡ first + sizes (grove (term_rows rows) first j)

module _ (rows : List ℕ) (first n : ℕ) where
  pub none-bounded : (bounds : List ℕ) → length bounds ≡ 9 → Bounded rows first n (set bounds 0 first) first 0
  none-bounded bounds e =
      let z : first ≡ first + sizes (grove (term_rows rows) first 0) = omega (arith, grove-none (term_rows rows) first) in
      record {
        long = length-set bounds 0 first ∙ e;
        here = z;
        places = bounds-first bounds first (λ (j : ℕ). first + sizes (grove (term_rows rows) first j)) (omega arith) z;
      }

  module _ (bounds : List ℕ) (at k : ℕ) (b : Bounded rows first n bounds at k) where
    -- the next tree ends within the rows
    pub next-in : k < n → first + sizes (grove (term_rows rows) first n) ≤ length (row_table rows) → at + size (tree_at (term_rows rows) at) ≤ length rows / 8
    next-in h w = omega (arith, arg-in (term_rows rows) first n k at (length (row_table rows)) h b.here w, row-table-length rows)

    pub one-bounded : (e : ℕ) → k < n → n ≤ 8 → e ≡ at + size (tree_at (term_rows rows) at) → Bounded rows first n (set bounds (k + 1) e) e (k + 1)
    one-bounded e h few q =
        let z = arg-next (term_rows rows) first k at e b.here q in
        record {
          long = length-set bounds (k + 1) e ∙ b.long;
          here = z;
          places = bounds-more bounds k e (λ (j : ℕ). first + sizes (grove (term_rows rows) first j)) (omega (arith, b.long)) b.places z;
        }
