-- What an exported load says: refusal, place and all bytes of the record. Assumes nothing.
use Rattle.std.specs.Prelude.{ℕ, ◌≡◌, Bool, List, [], ◌∷◌, eqb, take}
use Rattle.meaning.specs.Bytes.{◌∧ᵇ◌, within, read, file_head, Limits, arm}
use Rattle.meaning.specs.Types.{form_of, empty, same_numbers}
use Rattle.meaning.specs.Terms.{tree_of, shape}
use Rattle.meaning.specs.Typing.{first_bad}
use Rattle.meaning.specs.Records.{first_not}
use Rattle.meaning.specs.Answers.{verdict_number, verdict_place}
use Rattle.meaning.specs.Entries.{refuse, refuse_shape, load, file_no, file_type_count, file_row_count, no_future}
use Rattle.meaning.specs.declared.Refusal.TheVariants.{Row, Future, Typing}
use Rattle.meaning.specs.Answers.{Verdict as Answer}
use Rattle.std.specs.Prelude.{Ok}
use Rattle.layout.specs.Rows.{type_table, row_table, term_rows}
use Rattle.tca.specs.declared.Verdict.{Verdict}

-- two tests of load_verdict by name
unfoldable pub marked : List ℕ → Bool
marked file = same_numbers (take 3 (read file_head file)) (84 ∷ 67 ∷ 65 ∷ [])

unfoldable pub counts_ok : Limits → List ℕ → Bool
counts_ok m file = eqb (file_no 4 file) 0 ∧ᵇ within 1 m.types (file_type_count file) ∧ᵇ within 1 m.program_rows (file_row_count file)

-- program_verdict behind the types' test, of a table of types and a table of rows; and where only futures are left to test
unfoldable pub future_verdict : List ℕ → Answer
future_verdict rows = refuse (first_not no_future (row_table rows)) Future (Ok tt)

unfoldable pub rows_verdict : ℕ → ℕ → List ℕ → List ℕ → Answer
rows_verdict edition count types rows =
    refuse_shape (shape edition count (row_table rows)) Row
    (refuse (first_not no_future (row_table rows)) Future
    (refuse (first_bad (form_of (type_table types)) empty (tree_of (term_rows rows))) Typing (Ok tt)))

-- a load of a file into a record, in the numbers that C gets
pub record Tells (file kept kept' : List ℕ) (v : Verdict) : Type 0 where
  pub refusal : v.refusal ≡ verdict_number (load arm file kept).verdict
  pub place : v.place ≡ verdict_place (load arm file kept).verdict
  pub bytes : kept' ≡ (load arm file kept).record'
