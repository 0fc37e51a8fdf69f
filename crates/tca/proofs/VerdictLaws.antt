-- Load's verdict, test by test in document 01's order. Assumes nothing.
use Prim.Native.Nat.{ℕ, ◌+◌, ◌*◌, ◌-◌, ◌≤◌}
use mathlib.Core.Path.{◌≡◌, refl, ap, sym, ◌∙◌}
use mathlib.Core.Bool.{Bool, true, false, not}
use mathlib.Core.List.{List}
use Rattle.std.specs.Prelude.{None, Some}
use native.Mathlib.Omega.{arith}
use lib.ListN.{length, take, drop, length-drop}
use lib.Seq.{length-take-le}
use Rattle.meaning.specs.Bytes.{width, reads, term_row, Limits, arm}
use Rattle.meaning.specs.Terms.{shape, tree_of}
use Rattle.meaning.specs.Types.{form_of, empty, bad_type}
use Rattle.meaning.specs.Typing.{first_bad}
use Rattle.meaning.specs.Records.{first_not, record_of}
use Rattle.meaning.specs.Entries.{refuse, refuse_shape, file_edition, file_type_count, file_row_count, file_types, file_rows, file_tree, no_future, program_verdict, load_verdict, leaves, loaded_state, load, LoadSays}
use Rattle.meaning.specs.declared.Refusal.{Refusal}
use Rattle.meaning.specs.declared.Refusal.TheVariants.{TypeRow, Future}
use Rattle.meaning.specs.Answers.{Verdict}
use Rattle.std.specs.Prelude.{Ok, Err}
use Rattle.meaning.proofs.Trees.Tests.{left, right, within-if}
use Rattle.layout.specs.Rows.{type_table, row_table, term_rows}
use Rattle.layout.proofs.Tables.{type-table-cut, row-table-cut}
use Rattle.tca.specs.Loads.{counts_ok, future_verdict, rows_verdict}

pub un-not : (b : Bool) → not b ≡ false → b ≡ true
un-not true e = refl
un-not false e = sym e

pub counts-within : (m : Limits) (s : List ℕ) → counts_ok m s ≡ true → (file_type_count s ≤ m.types) × (file_row_count s ≤ m.program_rows)
unfolding counts_ok
counts-within m s e = ((within-if _ _ _ (left _ _ (right _ _ e))).1, (within-if _ _ _ (right _ _ (right _ _ e))).1)

-- Types, shape, futures, typing ----------------------------------------------------------------------------------

-- the parts of a file with n types
abbrev pub types_part : List ℕ → ℕ → List ℕ
types_part s n = take (10 + 36 * n - 10) (drop 10 s)

abbrev pub rows_part : List ℕ → ℕ → List ℕ
rows_part s n = take (length s - (10 + 36 * n)) (drop (10 + 36 * n) s)

-- where it has the length that its counts need
module _ (s : List ℕ) (n : ℕ) (p : n ≡ file_type_count s) (q : length s ≡ 10 + 36 * file_type_count s + 8 * file_row_count s) where
  pub types-length : length (types_part s n) ≡ 36 * n
  types-length = length-take-le (10 + 36 * n - 10) (drop 10 s) (rw length-drop (omega arith)) ∙ omega arith

  pub rows-length : length (rows_part s n) ≡ 8 * file_row_count s
  rows-length = length-take-le (length s - (10 + 36 * n)) (drop (10 + 36 * n) s) (rw length-drop (omega arith)) ∙ omega arith

  types_are : type_table (types_part s n) ≡ file_types s
  unfolding file_types width
  types_are = type-table-cut s 10 (file_type_count s) (10 + 36 * n - 10) (omega arith) (omega arith)

  rows_are : row_table (rows_part s n) ≡ file_rows s
  unfolding file_rows width
  rows_are =
      let e : 10 + 36 * n ≡ 10 + 36 * file_type_count s = omega arith in
      row-table-cut s (10 + 36 * n) (file_row_count s) (length s - (10 + 36 * n)) (omega arith) (omega arith)
      ∙ ap (λ (x : ℕ). reads term_row (file_row_count s) (drop x s)) e

  -- by the edition that the file states
  module _ (v : ℕ) (o : v ≡ file_edition s) where
    types-told : bad_type v (type_table (types_part s n)) ≡ bad_type (file_edition s) (file_types s)
    types-told = ap (bad_type v) types_are ∙ ap (λ (x : ℕ). bad_type x (file_types s)) o

    pub bad-type-row : (i : ℕ) → Some i ≡ bad_type v (type_table (types_part s n)) → Err (TypeRow i) ≡ program_verdict s
    unfolding program_verdict refuse
    bad-type-row i e = rw (← (e ∙ types-told))

    -- behind the types' test
    pub rows_told : None ≡ bad_type v (type_table (types_part s n)) → rows_verdict v n (types_part s n) (rows_part s n) ≡ program_verdict s
    unfolding program_verdict rows_verdict refuse file_tree
    rows_told a =
        let good : bad_type (file_edition s) (file_types s) ≡ None = sym (a ∙ types-told) in
        rw (good, types_are, rows_are, p, o)

-- The rows, test by test
module _ (v n : ℕ) (types rows : List ℕ) where
  module _ (b : (Ok tt) ≡ shape v n (row_table rows)) where
    -- where no row fails typing
    pub futures-left : None ≡ first_bad (form_of (type_table types)) empty (tree_of (term_rows rows)) → future_verdict rows ≡ rows_verdict v n types rows
    unfolding rows_verdict future_verdict refuse refuse_shape
    futures-left e = rw (← b, ← e)

pub future-told : (rows : List ℕ) (i : ℕ) → Some i ≡ first_not no_future (row_table rows) → Err (Future i) ≡ future_verdict rows
unfolding future_verdict refuse
future-told rows i e = rw (← e)

pub none-held : (rows : List ℕ) → None ≡ first_not no_future (row_table rows) → (Ok tt) ≡ future_verdict rows
unfolding future_verdict refuse
none-held rows e = rw (← e)

-- A load ---------------------------------------------------------------------------------------------------------

module _ (m : Limits) (s kept : List ℕ) (v : Verdict) (a : m ≡ arm) (e : v ≡ load_verdict m s (length kept)) where
  decided : v ≡ load_verdict arm s (length kept)
  decided = e ∙ ap (λ (x : Limits). load_verdict x s (length kept)) a

  pub loads-fresh : (kept' : List ℕ) → v ≡ Ok tt → kept' ≡ record_of m (loaded_state s) → LoadSays arm s kept v kept'
  unfolding load leaves
  loads-fresh kept' q b = record { verdict = decided; kept-bytes = b ∙ rw (← decided, q, a) }

  pub loads-nothing : (r : Refusal) → v ≡ Err r → LoadSays arm s kept v kept
  unfolding load leaves
  loads-nothing r q = record { verdict = decided; kept-bytes = rw (← decided, q) }
