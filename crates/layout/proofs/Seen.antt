-- Tables as the lists of their rows: how many, each row, the rows from one on. Assumes nothing.
use Rattle.std.specs.Prelude.{ℕ, ◌≡◌, ◌-◌, ◌*◌, ◌/◌, ◌<◌, ◌≤◌, List, length, get_or, take, drop}
use Rattle.std.proofs.Common.{ap, ◌∙◌, arith, length-drop}
use Rattle.std.proofs.lemmas.List.{take_all}
use Rattle.layout.specs.Rows.{row_table, type_table}
use Rattle.layout.proofs.Tables.{row-table-length, row-table-at, row-table-drop, type-table-length, type-table-at}
use Rattle.meaning.specs.Bytes.{read, term_row, type_row}

pub rows_length : (s : List ℕ) → length (row_table s) ≡ length s / 8
rows_length s = row-table-length s

pub rows_at : (s : List ℕ) (i : ℕ) (d : List ℕ) → i < length s / 8 → get_or (row_table s) i d ≡ read term_row (drop (8 * i) s)
rows_at s i d h = row-table-at s i d (omega arith)

pub rows_from : (s : List ℕ) (i : ℕ) → i ≤ length s / 8 → row_table (take (length s - 8 * i) (drop (8 * i) s)) ≡ drop i (row_table s)
rows_from s i h = ap row_table (take_all (length s - 8 * i) (drop (8 * i) s) (omega (arith, length-drop (8 * i) s))) ∙ row-table-drop s i (omega arith)

pub types_length : (s : List ℕ) → length (type_table s) ≡ length s / 36
types_length s = type-table-length s

pub types_at : (s : List ℕ) (t : ℕ) (d : List ℕ) → t < length s / 36 → get_or (type_table s) t d ≡ read type_row (drop (36 * t) s)
types_at s t d h = type-table-at s t d (omega arith)

pub ruleset tables = (rows_length, rows_at, rows_from, types_length, types_at)
