-- The first of a list for which a test fails, from a place on. Assumes nothing.
use Prim.Native.Nat.{ℕ, suc, ◌+◌, ◌*◌, ◌/◌, ◌≤◌, ◌<◌}
use mathlib.Core.Path.{◌≡◌, refl, ap, sym, ◌∙◌}
use mathlib.Core.Bool.{Bool, true, false}
use mathlib.Core.List.{List, []}
use Rattle.std.specs.Prelude.{Option, None, Some}
use native.Mathlib.Omega.{arith}
use native.Mathlib.Numerals.{add-one}
use native.Mathlib.Nat.{zero-add}
use lib.ListN.{length, get_or, drop, drop_of_length-le}
use lib.Seq.{drop-cons}
use Rattle.meaning.specs.Typing.{later}
use Rattle.meaning.specs.Records.{first_not}
use Rattle.meaning.specs.Bytes.{read, term_row}
use Rattle.layout.specs.declared.Row.{Row}
use Rattle.layout.specs.Rows.{numbers, row_table, Tells, IsRow}
use Rattle.layout.proofs.Tables.{row-table-length, row-table-at}

module _ (p : List ℕ → Bool) (l : List (List ℕ)) where
  later-none : (o : Option ℕ) → later 0 o ≡ o
  unfolding later
  later-none None = refl
  later-none (Some i) = ap Some (zero-add i)

  later-one : (i : ℕ) (o : Option ℕ) → later i (elim o [ None ↦ None | Some j ↦ Some (suc j) ]) ≡ later (suc i) o
  unfolding later
  later-one i None = refl
  later-one i (Some j) = let e : i + suc j ≡ suc i + j = omega arith in ap Some e

  pub first-start : later 0 (first_not p (drop 0 l)) ≡ first_not p l
  first-start = later-none (first_not p l)

  module _ (i : ℕ) where
    module _ (d r : List ℕ) (h : i < length l) (q : get_or l i d ≡ r) where
      pub first-here : p r ≡ false → later i (first_not p (drop i l)) ≡ Some i
      unfolding first_not later
      first-here e = let z : i + 0 ≡ i = omega arith in rw (drop-cons l i d h, q, e) (ap Some z)

      pub first_on : p r ≡ true → later i (first_not p (drop i l)) ≡ later (i + 1) (first_not p (drop (i + 1) l))
      unfolding first_not
      first_on e = rw (add-one i, drop-cons l i d h, q, e) (later-one i (first_not p (drop (suc i) l)))

    pub first-none : length l ≤ i → later i (first_not p (drop i l)) ≡ None
    unfolding first_not later
    first-none h = rw (drop_of_length-le l h) refl

-- the same of rows in lent bytes, tested by value: at the start, where row i passes, where it fails, behind the last
pub from_start : (p : List ℕ → Bool) (R : List ℕ) → later 0 (first_not p (drop 0 (row_table R))) ≡ first_not p (row_table R)
from_start p R = first-start p (row_table R)

module _ (says : Row → Bool → Type 0) (p : List ℕ → Bool) (R : List ℕ) (i : ℕ) (r : Row) (b : Bool) (o : Option ℕ) where
  pub passing-row : Tells says p → says r b → b ≡ true → numbers r ≡ read term_row (drop (8 * i) R) → IsRow r → i < length R / 8
      → later i (first_not p (drop i (row_table R))) ≡ o → later (i + 1) (first_not p (drop (i + 1) (row_table R))) ≡ o
  passing-row h s e n w k l =
      sym (first_on p (row_table R) i [] _ (omega (arith, row-table-length R)) (row-table-at R i [] (omega arith) ∙ sym n) (sym (h r b w s) ∙ e)) ∙ l

  pub failing-row : Tells says p → says r b → b ≡ false → numbers r ≡ read term_row (drop (8 * i) R) → IsRow r → i < length R / 8
      → later i (first_not p (drop i (row_table R))) ≡ o → Some i ≡ o
  failing-row h s e n w k l =
      sym (first-here p (row_table R) i [] _ (omega (arith, row-table-length R)) (row-table-at R i [] (omega arith) ∙ sym n) (sym (h r b w s) ∙ e)) ∙ l

pub no-row : (p : List ℕ → Bool) (R : List ℕ) (i : ℕ) (o : Option ℕ) → length R / 8 ≤ i → later i (first_not p (drop i (row_table R))) ≡ o → None ≡ o
no-row p R i o k l = sym (first-none p (row_table R) i (omega (arith, row-table-length R))) ∙ l

pub ruleset by_rows = (from_start, passing-row, failing-row, no-row)
