-- The letter of a call, by the rows of the call's tree. Assumes nothing.
use Prim.Native.Nat.{ℕ, ◌+◌, ◌*◌, ◌-◌, ◌/◌, ◌≤◌}
use mathlib.Core.Path.{◌≡◌, refl, ap, sym, ◌∙◌}
use mathlib.Core.List.{List, [], ◌∷◌, map}
use Rattle.std.specs.Prelude.{Some}
use native.Mathlib.Omega.{arith}
use lib.ListN.{length, get_or, drop, length-map, length-drop}
use lib.Seq.{take_all}
use Rattle.layout.specs.Rows.{row_table}
use Rattle.layout.proofs.Laws.{term-row}
use Rattle.layout.proofs.Tables.{row-table-length, row-table-at, row-table-drop, term-width}
use Rattle.meaning.specs.Bytes.{width, number, writes, term_row}
use Rattle.meaning.specs.Types.{Form}
use Rattle.meaning.specs.Terms.{foreign, apply, future, word_of, Tree, node, end, head_of, ty_of, Row, raw, flat, type_no, word_no}
use Rattle.meaning.specs.Steps.{Call, go}
use Rattle.meaning.specs.Entries.{letter_of}
use Rattle.meaning.proofs.Bytes.Layouts.{AllBytes, bytes_drop, writes_reads}
use Rattle.meaning.proofs.Trees.ByKind.{foreign-is}
use Rattle.meaning.proofs.Steps.Sends.{Sending, root-sends}
use Rattle.runs.specs.Sites.{own}
use Rattle.runs.specs.Going.{letter_from}

-- a tree whose own rule sends
pub sends-at : (form : ℕ → Form) (k : ℕ) (t : Tree) (c : Call) (u : Tree) → own form k t ≡ go (Some c) u → Sending k c t u
unfolding own
sends-at form k (node h ty f) c u e = root-sends form k c h ty f u e

-- THE LETTER is read off the call's rows
module _ (form : ℕ → Form) (k : ℕ) (call : List ℕ) (t : Tree) (c : Call) (u : Tree) (bytes : AllBytes call) (n : ℕ) (long : length call ≡ 8 * n) (rows : row_table call ≡ map raw (flat t)) (e : own form k t ≡ go (Some c) u) where
  pub sending : Sending k c t u
  sending = sends-at form k t c u e

  abbrev pub first-row : Row
  first-row = record { head = apply sending.count; type = c.result }

  abbrev pub tool-row : Row
  tool-row = record { head = head_of sending.function; type = ty_of sending.function }

  tool-flat : flat sending.function ≡ tool-row ∷ []
  unfolding flat head_of ty_of
  tool-flat = alone sending.function (foreign-is sending.function sending.tool)
    where
      alone : (f : Tree) → f ≡ node (foreign (word_of (head_of f))) (ty_of f) end → flat f ≡ record { head = head_of f; type = ty_of f } ∷ []
      alone f q = ap flat q ∙ ap (λ (x : Tree). record { head = head_of x; type = ty_of x } ∷ []) (sym q)

  two-rows : flat t ≡ first-row ∷ tool-row ∷ c.rows
  unfolding flat
  two-rows = ap flat sending.was ∙ cc (tool-flat, sending.sent)

  pub rows_told : row_table call ≡ raw first-row ∷ raw tool-row ∷ map raw c.rows
  rows_told = rows ∙ ap (map raw) two-rows

  pub many : n ≡ 2 + length c.rows
  many = omega (arith, sym (row-table-length call) ∙ ap length rows_told, length-map c.rows raw)

  pub call_long : 16 ≤ length call
  call_long = omega (arith, many)

  pub result-told : number 2 (drop 2 call) ≡ c.result
  unfolding raw
  result-told =
      let x = sym (row-table-at call 0 [] (omega (arith, call_long))) ∙ ap (λ (l : List (List ℕ)). get_or l 0 []) rows_told in
      ap type_no (sym (term-row 0 call) ∙ x)

  tool-told : number 4 (drop 12 call) ≡ c.tool
  unfolding raw
  tool-told =
      let x = sym (row-table-at call 1 [] (omega (arith, call_long))) ∙ ap (λ (l : List (List ℕ)). get_or l 1 []) rows_told in
      ap word_no (sym (term-row 8 call) ∙ x) ∙ sym sending.named

  rest-told : drop 16 call ≡ writes term_row (map raw c.rows)
  rest-told =
      let x = drop 16 call in
      let lx : length x ≡ 8 * length c.rows = length-drop 16 call ∙ omega (arith, many) in
      let q : row_table x ≡ map raw c.rows = row-table-drop call 2 (omega (arith, call_long)) ∙ ap (drop 2) rows_told in
      let z : width term_row * (length x / 8) ≡ length x = rw term-width (omega (arith, lx)) in
      sym (take_all (width term_row * (length x / 8)) x (omega (arith, z))) ∙ sym (writes_reads term_row (length x / 8) x (bytes_drop 16 call bytes) (omega (arith, z))) ∙ ap (writes term_row) q

  pub letter-told : letter_from k call ≡ letter_of k c
  unfolding letter_from letter_of
  letter-told =
      let m : length call / 8 - 2 ≡ length c.rows = omega (arith, many) in
      rw (result-told, tool-told, m, rest-told) refl

  -- what the call becomes
  pub future-told : u ≡ node (future k) (number 2 (drop 2 call)) end
  future-told = sending.becomes ∙ ap (λ (i : ℕ). node (future k) i end) (sym result-told)
