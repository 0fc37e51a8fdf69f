-- A sound record is the bytes of exactly one state, which is good, and a good state's bytes are sound. Assumes nothing.
use Prim.Native.Nat.{ℕ, suc, ◌+◌, ◌*◌, ◌-◌, ◌≤◌, ◌<◌}
use mathlib.Core.Path.{◌≡◌, refl, ap, sym, ◌∙◌}
use mathlib.Core.Bool.{Bool, true, false, cond, false≢true}
use mathlib.Core.List.{List, [], ◌∷◌, ◌++◌, map, append_assoc, append-nil}
use Rattle.std.specs.Prelude.{Option, None, Some}
use native.Mathlib.Omega.{arith}
use native.Mathlib.Nat.{mul-sub, mul-le-mul_left}
use native.Mathlib.Decide.{dec_lt}
use lib.Dec.{eqb, leb}
use lib.ListN.{length, take, drop, get_or, replicate, length-append, length-replicate, length-drop, length-map, take-append-drop}
use lib.Seq.{drop-drop, drop_at, take_at, take_all}
use borrow.Author.Tests.{eq-eqb, eqb-true, le-leb, leb-true, lt-ltb, ltb-true}
use Rattle.meaning.specs.Bytes.{◌∧ᵇ◌, Layout, width, read, write, reads, writes, padded, type_row, term_row, record_head, entry_row, Limits, arm, types_at, calls_at, rows_at, record_bytes}
use Rattle.meaning.specs.Types.{Form, form_of, ground, bad_type, empty}
use Rattle.meaning.specs.Terms.{Head, Tree, node, head_of, ty_of, Row, flat, size, code, word_of, Fields, none-used, kind_fields, raw, row_of, shape, tree_of}
use Rattle.meaning.specs.Typing.{given, Typed, first_bad}
use Rattle.meaning.specs.Records.{State, Entry, version, record_mark, raw_entry, head_numbers, record_of, head_no, record_edition, type_count, row_count, open_count, next_number, program_type, types_in, entries_in, rows_in, entry_of, state_of, first_not, nothing, is_whole, head_sound, unused, space_sound, types_sound, shape_sound, term_sound, rises, entry_sound, calls_sound, listed, future_listed, futures_sound, program_sound, sound}
use Rattle.meaning.specs.Terms.{Shape}
use Rattle.std.specs.Prelude.{Ok, Err}
use Rattle.meaning.proofs.Trees.Tests.{both, left, right, eq-same, none-some, within-if, within_of, numbers-is, numbers-same}
use Rattle.meaning.proofs.Trees.Parse.{length-flat, tree-of-flat}
use Rattle.meaning.proofs.Typing.FirstBad.{given_is, given-of, typed-if, typed-of}
use Rattle.meaning.proofs.Trees.EachRow.{Every, AllRows, Due, Listed, every-rows, rows-every}
use Rattle.meaning.proofs.Bytes.Layouts.{AllBytes, joins, bytes-append, bytes_drop, bytes-padded, padded-length, padded-back, zeros-replicate, pow256, Fits, Each, each_at, each_map, AllFit, Wide, length-read, length-write, bytes-write, read-write, write_read, length-reads, reads_fit, length-writes, bytes-writes, fields-from, reads-writes, writes_reads, reads-wide}
use Rattle.meaning.proofs.Bytes.RowTables.{passes, legal, future-code, rows-raw, up_to, word-up-to, in-range, last-kind, shape-whole, whole_of}
use Rattle.meaning.proofs.Bytes.TypeTables.{promised, ground-known}

-- A part of a record: rows in front, zeros behind ------------------------------------------------------------------

module _ (l : Layout) (room : ℕ) where
  part_length : (rs : List (List ℕ)) → length rs ≤ room → length (padded (width l * room) (writes l rs)) ≡ width l * room
  part_length rs h = padded-length (width l * room) (writes l rs) (omega (arith, length-writes l rs, mul-le-mul_left (width l) h))

  -- the rows written are those read
  part-read : (rs : List (List ℕ)) (s : List ℕ) → AllFit l rs → reads l (length rs) (padded (width l * room) (writes l rs) ++ s) ≡ rs
  unfolding padded
  part-read rs s f = rw (append_assoc (writes l rs) (replicate (width l * room - length (writes l rs)) 0) s) (reads-writes l rs _ f)

  part-unused : (rs : List (List ℕ)) (b s : List ℕ) (p : ℕ) → drop p b ≡ padded (width l * room) (writes l rs) ++ s → unused l p (length rs) room b ≡ true
  unfolding unused padded
  part-unused rs b s p e =
      let n = width l * room - length (writes l rs) in
      let q : width l * (room - length rs) ≡ n = omega (arith, mul-sub (width l) room (length rs), length-writes l rs) in
      let f : drop (p + width l * length rs) b ≡ replicate n 0 ++ s =
      sym (drop-drop (width l * length rs) p b) ∙ ap (drop (width l * length rs)) (e ∙ append_assoc (writes l rs) (replicate n 0) s)
      ∙ drop_at (writes l rs) _ _ (length-writes l rs) in
      rw (f, q, take_at (replicate n 0) s n (length-replicate n 0)) (zeros-replicate n)

  -- what was read, written again
  part-back : (b : List ℕ) (p n : ℕ) → AllBytes b → p + width l * room ≤ length b → n ≤ room → unused l p n room b ≡ true
      → padded (width l * room) (writes l (reads l n (drop p b))) ≡ take (width l * room) (drop p b)
  unfolding unused
  part-back b p n h k c u =
      let j : width l * n ≤ width l * room = mul-le-mul_left (width l) c in
      let o : width l * room ≡ width l * n + width l * (room - n) = omega (arith, mul-sub (width l) room n) in
      rw (writes_reads l n (drop p b) (bytes_drop p b h) (omega (arith, length-drop p b)), o)
      (padded-back (width l * n) (width l * (room - n)) (drop p b) (omega (arith, length-drop p b)) (rw (drop-drop (width l * n) p b) u))

-- Good states ----------------------------------------------------------------------------------------------------

-- limits that the header's fields can hold
pub record Small (m : Limits) : Type 0 where
  pub types : m.types ≤ 65535
  pub rows : m.rows ≤ 65535
  pub calls : m.calls ≤ 65535
  pub numbers : m.last_number + 1 < 4294967296

pub arm-small : Small arm
arm-small = record { types = omega arith; rows = omega arith; calls = omega arith; numbers = omega arith }

-- what a sound record says of the state that it holds
pub record Good (m : Limits) (s : State) : Type 0 where
  pub types_some : 1 ≤ length s.types
  pub types_many : length s.types ≤ m.types
  pub types_wide : AllFit type_row s.types
  pub types_pass : bad_type version s.types ≡ None
  pub rows_many : size s.tree ≤ m.rows
  pub legal_rows : Every (legal (length s.types)) s.tree
  pub typed : Typed (form_of s.types) empty s.tree
  pub calls_many : length s.calls ≤ m.calls
  pub calls_rise : rises 0 s.calls ≡ true
  pub calls_below : Each (λ e. e.number < s.next) s.calls
  pub calls_ground : Each (λ e. ground (form_of s.types) e.type ≡ true) s.calls
  pub next_low : 1 ≤ s.next
  pub next_high : s.next ≤ suc m.last_number
  pub listed : Listed (listed s.calls) s.tree
  pub program : ty_of s.tree ≡ s.program

-- Rows and entries fit their layouts -----------------------------------------------------------------------------

-- no test fails
module _ {A : Type 0} (p : A → Bool) where
  pub none-fails : (xs : List A) → first_not p xs ≡ None → Each (λ x. p x ≡ true) xs
  unfolding first_not Each
  none-fails [] e = tt
  none-fails (x ∷ xs) e = let (a, b) = passes (p x) _ 0 e in (a, none-fails xs (none-later (first_not p xs) b))
    where
      none-later : (o : Option ℕ) → ◌≡◌ {A = Option ℕ} (elim o [ None ↦ None | Some i ↦ Some (suc i) ]) None → o ≡ None
      none-later None e = refl
      none-later (Some i) e = absurd (none-some (suc i) (sym e))

  pub all_pass : (xs : List A) → Each (λ x. p x ≡ true) xs → first_not p xs ≡ None
  unfolding first_not Each
  all_pass [] d = refl
  all_pass (x ∷ xs) (e, d) = rw (e, all_pass xs d) refl

-- n fits a byte and word four, of every kind
unfoldable narrow : Fields → Bool
narrow f = leb f.n_high 255 ∧ᵇ up_to 4294967295 f.words

kinds-narrow : Each (λ f. narrow f ≡ true) kind_fields
unfolding narrow up_to first_not ◌∧ᵇ◌
kinds-narrow = none-fails narrow kind_fields refl

pub row_fits : (count : ℕ) (r : Row) → count ≤ 65536 → legal count r.head r.type → Fits term_row (raw r)
unfolding Fits pow256 raw narrow
row_fits count r h e =
    let g = in-range version count (raw r) e in
    let k : code r.head < 20 = omega (arith, last-kind version, g.kind_high) in
    let q = each_at (λ f. narrow f ≡ true) kind_fields (code r.head) none-used kinds-narrow k in
    let a : (get_or kind_fields (code r.head) none-used).n_high ≤ 255 = leb-true _ 255 (left _ _ q) in
    let b : word_of r.head ≤ 4294967295 = word-up-to 4294967295 (get_or kind_fields (code r.head) none-used).words (word_of r.head) (right _ _ q) g.word_in in
    (omega arith, (omega (arith, g.n_to), (omega (arith, g.type_below), (omega arith, tt))))

pub rows_fit : (count : ℕ) (l : List Row) → count ≤ 65536 → AllRows (legal count) l → AllFit term_row (map raw l)
unfolding Each AllRows
rows_fit count [] h d = tt
rows_fit count (r ∷ l) h (e, d) = (row_fits count r h e, rows_fit count l h d)

-- a ground type stands in the table
pub ground-stands : (rows : List (List ℕ)) → bad_type version rows ≡ None → (t : ℕ) → ground (form_of rows) t ≡ true → t < length rows
ground-stands rows e t g = elim (dec_lt t (length rows)) [ yes h ↦ h | no h ↦ absurd (ground-known (form_of rows) t g ((promised rows e).beyond t (omega arith))) ]

entries_fit : (rows : List (List ℕ)) (calls : List Entry) (next : ℕ) → bad_type version rows ≡ None → length rows ≤ 65535 → next < 4294967296
    → Each (λ e. e.number < next) calls → Each (λ e. ground (form_of rows) e.type ≡ true) calls → AllFit entry_row (map raw_entry calls)
unfolding Each Fits pow256 raw_entry
entries_fit rows [] next p h k a b = tt
entries_fit rows (e ∷ calls) next p h k (a, ps) (b, qs) = ((omega arith, (omega (arith, ground-stands rows p e.type b), (omega arith, tt))), entries_fit rows calls next p h k ps qs)

-- "each future in the term is listed with its type", of a row's numbers
due-row : (calls : List Entry) (r : Row) → future_listed calls (raw r) ≡ true → Due (listed calls) r.head r.type
unfolding future_listed raw code word_of
due-row calls r e k q = given_is _ _ (rw q at e)

row-due : (calls : List Entry) (r : Row) → Due (listed calls) r.head r.type → future_listed calls (raw r) ≡ true
unfolding future_listed raw
row-due calls r d = go (eqb (code r.head) 9) refl
  where
    go : (b : Bool) → eqb (code r.head) 9 ≡ b → cond b (given (listed calls (word_of r.head)) r.type) true ≡ true
    go true e = given-of _ _ (d (word_of r.head) (future-code r.head (eqb-true _ _ e)))
    go false e = refl

due-rows : (calls : List Entry) (l : List Row) → Each (λ r. future_listed calls r ≡ true) (map raw l) → AllRows (Due (listed calls)) l
unfolding Each AllRows
due-rows calls [] d = tt
due-rows calls (r ∷ l) (e, d) = (due-row calls r e, due-rows calls l d)

rows-due : (calls : List Entry) (l : List Row) → AllRows (Due (listed calls)) l → Each (λ r. future_listed calls r ≡ true) (map raw l)
unfolding Each AllRows
rows-due calls [] d = tt
rows-due calls (r ∷ l) (e, d) = (row-due calls r e, rows-due calls l d)

entries-sound : (form : ℕ → Form) (next : ℕ) (calls : List Entry) → Each (λ e. e.number < next) calls → Each (λ e. ground form e.type ≡ true) calls
    → Each (λ r. entry_sound form next r ≡ true) (map raw_entry calls)
unfolding Each entry_sound raw_entry
entries-sound form next [] a b = tt
entries-sound form next (e ∷ calls) (a, ps) (b, qs) = (both _ _ (lt-ltb e.number next a) (both _ _ b (eq-same 0)), entries-sound form next calls ps qs)

pub size-some : (t : Tree) → 1 ≤ size t
unfolding size
size-some (node h u f) = omega arith

-- The state of a sound record ------------------------------------------------------------------------------------

nothing_is : (o : Option ℕ) → nothing o ≡ true → o ≡ None
unfolding nothing
nothing_is None e = refl
nothing_is (Some i) e = absurd (false≢true e)

whole_is : (s : Shape) → is_whole s ≡ true → s ≡ Ok tt
unfolding is_whole
whole_is (Ok tt) e = refl
whole_is (Err (f, i)) e = absurd (false≢true e)

entries-back : (form : ℕ → Form) (next : ℕ) (es : List (List ℕ)) → Each (λ r. entry_sound form next r ≡ true) es → Wide 3 es → map raw_entry (map entry_of es) ≡ es
unfolding Each entry_sound raw_entry entry_of
entries-back form next [] d w = refl
entries-back form next (r ∷ es) (e, d) (h, w) = cc (back r e h, entries-back form next es d w)
  where
    back : (r : List ℕ) → entry_sound form next r ≡ true → length r ≡ 3 → raw_entry (entry_of r) ≡ r
    back [] e h = absurd (omega arith)
    back (a ∷ []) e h = absurd (omega arith)
    back (a ∷ t ∷ []) e h = absurd (omega arith)
    back (a ∷ t ∷ z ∷ x ∷ l) e h = absurd (omega arith)
    back (a ∷ t ∷ z ∷ []) e h = let q : z ≡ 0 = eqb-true z 0 (right _ _ (right _ _ e)) in cc

module _ (m : Limits) (b : List ℕ) (small : Small m) (long : length b ≡ record_bytes m) (bytes : AllBytes b) (ok : sound m b ≡ true) where
  -- what the header of a sound record says
  pub record Header : Type 0 where
    pub mark : take 5 (read record_head b) ≡ record_mark
    pub edition : record_edition b ≡ version
    pub types_some : 1 ≤ type_count b
    pub types_many : type_count b ≤ m.types
    pub rows_many : row_count b ≤ m.rows
    pub calls_many : open_count b ≤ m.calls
    pub next_low : 1 ≤ next_number b
    pub next_high : next_number b ≤ suc m.last_number
    pub zero_field : head_no 10 b ≡ 0

  pub header : Header
  unfolding sound head_sound read
  header =
      let e0 = left _ _ ok in
      let e1 = right _ _ e0 in
      let e2 = right _ _ e1 in
      let e3 = right _ _ e2 in
      let e4 = right _ _ e3 in
      let t = within-if 1 m.types (type_count b) (left _ _ e1) in
      let n = within-if 1 (suc m.last_number) (next_number b) (left _ _ e4) in
      record {
        mark = numbers-is _ _ (left _ _ e0);
        edition = ap (λ (l : List ℕ). get_or l 3 0) (numbers-is _ _ (left _ _ e0));
        types_some = t.0;
        types_many = t.1;
        rows_many = (within-if 1 m.rows (row_count b) (left _ _ e2)).1;
        calls_many = leb-true (open_count b) m.calls (left _ _ e3);
        next_low = n.0;
        next_high = n.1;
        zero_field = eqb-true _ _ (right _ _ e4);
      }

  -- and the other tests, each by itself
  pub record Tested : Type 0 where
    pub types_zero : unused type_row types_at (type_count b) m.types b ≡ true
    pub calls_zero : unused entry_row (calls_at m) (open_count b) m.calls b ≡ true
    pub rows_zero : unused term_row (rows_at m) (row_count b) m.rows b ≡ true
    pub types : bad_type (record_edition b) (types_in b) ≡ None
    pub shape : shape (record_edition b) (type_count b) (rows_in m b) ≡ Ok tt
    pub term : first_bad (form_of (types_in b)) empty (state_of m b).tree ≡ None
    pub rising : rises 0 (state_of m b).calls ≡ true
    pub entries : Each (λ r. entry_sound (form_of (types_in b)) (next_number b) r ≡ true) (entries_in m b)
    pub futures : Each (λ r. future_listed (state_of m b).calls r ≡ true) (rows_in m b)
    pub program : ty_of (state_of m b).tree ≡ program_type b

  pub tested : Tested
  unfolding sound space_sound types_sound shape_sound term_sound calls_sound futures_sound program_sound
  tested =
      let e1 = right _ _ ok in
      let e2 = right _ _ e1 in
      let e3 = right _ _ e2 in
      let e4 = right _ _ e3 in
      let e5 = right _ _ e4 in
      let e6 = right _ _ e5 in
      let z = right _ _ (left _ _ e1) in
      record {
        types_zero = left _ _ (left _ _ e1);
        calls_zero = left _ _ z;
        rows_zero = right _ _ z;
        types = nothing_is _ (left _ _ e2);
        shape = whole_is _ (left _ _ e3);
        term = nothing_is _ (left _ _ e4);
        rising = left _ _ (left _ _ e5);
        entries = none-fails _ (entries_in m b) (nothing_is _ (right _ _ (left _ _ e5)));
        futures = none-fails _ (rows_in m b) (nothing_is _ (left _ _ e6));
        program = eqb-true _ _ (right _ _ e6);
      }

  pub tree-rows : (map raw (flat (state_of m b).tree) ≡ rows_in m b) × (size (state_of m b).tree ≡ length (rows_in m b)) × Every (legal (type_count b)) (state_of m b).tree
  unfolding state_of rows_in
  tree-rows = shape-whole (type_count b) (rows_in m b) (rw header.edition at tested.shape) (reads-wide term_row (row_count b) (drop (rows_at m) b))

  -- the entries read are those of the calls
  pub entries-kept : map raw_entry (state_of m b).calls ≡ entries_in m b
  unfolding state_of entries_in
  entries-kept = entries-back (form_of (types_in b)) (next_number b) (entries_in m b) tested.entries (reads-wide entry_row (open_count b) (drop (calls_at m) b))

  pub type-total : length (state_of m b).types ≡ type_count b
  unfolding state_of types_in
  type-total = length-reads type_row (type_count b) (drop types_at b)

  pub row-total : size (state_of m b).tree ≡ row_count b
  unfolding rows_in
  row-total = tree-rows.1 ∙ length-reads term_row (row_count b) (drop (rows_at m) b)

  pub call-total : length (state_of m b).calls ≡ open_count b
  unfolding state_of entries_in
  call-total = length-map (entries_in m b) entry_of ∙ length-reads entry_row (open_count b) (drop (calls_at m) b)

  pub good-state : Good m (state_of m b)
  unfolding state_of types_in entry_sound entry_of
  good-state =
      record {
        types_some = omega (arith, header.types_some, type-total);
        types_many = omega (arith, header.types_many, type-total);
        types_wide = reads_fit type_row (type_count b) (drop types_at b) (bytes_drop types_at b bytes);
        types_pass = rw header.edition at tested.types;
        rows_many = omega (arith, header.rows_many, row-total);
        legal_rows = rw type-total tree-rows.2;
        typed = typed-if (form_of (types_in b)) empty (state_of m b).tree tested.term;
        calls_many = omega (arith, header.calls_many, call-total);
        calls_rise = tested.rising;
        calls_below = each_map _ _ entry_of (entries_in m b) (λ r e. ltb-true _ _ (left _ _ e)) tested.entries;
        calls_ground = each_map _ _ entry_of (entries_in m b) (λ r e. left _ _ (right _ _ e)) tested.entries;
        next_low = header.next_low;
        next_high = header.next_high;
        listed = rows-every _ _ (due-rows (state_of m b).calls (flat (state_of m b).tree) (rw tree-rows.0 tested.futures));
        program = tested.program;
      }

  -- its four parts are those of the state, written
  head-kept : write record_head (head_numbers (state_of m b)) ≡ take types_at b
  unfolding head_numbers state_of record_bytes rows_at calls_at
  head-kept = ap (write record_head) same ∙ write_read record_head b bytes (omega arith)
    where
      marked : (ns : List ℕ) → length ns ≡ 11 → take 5 ns ≡ record_mark → get_or ns 10 0 ≡ 0
          → record_mark ++ (get_or ns 5 0 ∷ get_or ns 6 0 ∷ get_or ns 7 0 ∷ get_or ns 8 0 ∷ get_or ns 9 0 ∷ 0 ∷ []) ≡ ns
      marked ns h e z =
          let f : drop 5 ns ≡ get_or ns 5 0 ∷ get_or ns 6 0 ∷ get_or ns 7 0 ∷ get_or ns 8 0 ∷ get_or ns 9 0 ∷ 0 ∷ [] = rw z at (fields-from ns 5 6 h) in
          rw (e, f) at (take-append-drop 5 ns)

      same : head_numbers (state_of m b) ≡ read record_head b
      same = rw (type-total, row-total, call-total) (marked (read record_head b) (length-read record_head b) header.mark header.zero_field)

  types-kept : padded (width type_row * m.types) (writes type_row (state_of m b).types) ≡ take (width type_row * m.types) (drop types_at b)
  unfolding state_of types_in record_bytes rows_at calls_at
  types-kept = part-back type_row m.types b types_at (type_count b) bytes (omega arith) header.types_many tested.types_zero

  calls-kept : padded (width entry_row * m.calls) (writes entry_row (map raw_entry (state_of m b).calls)) ≡ take (width entry_row * m.calls) (drop (calls_at m) b)
  unfolding entries_in record_bytes rows_at
  calls-kept = rw entries-kept (part-back entry_row m.calls b (calls_at m) (open_count b) bytes (omega arith) header.calls_many tested.calls_zero)

  rows-kept : padded (width term_row * m.rows) (writes term_row (map raw (flat (state_of m b).tree))) ≡ drop (rows_at m) b
  unfolding rows_in record_bytes
  rows-kept =
      rw tree-rows.0 (part-back term_row m.rows b (rows_at m) (row_count b) bytes (omega arith) header.rows_many tested.rows_zero)
      ∙ take_all (width term_row * m.rows) (drop (rows_at m) b) (omega (arith, length-drop (rows_at m) b))

  pub record-state : record_of m (state_of m b) ≡ b
  unfolding record_of rows_at calls_at
  record-state =
      rw (head-kept, types-kept, calls-kept, rows-kept)
      (ap (λ (t : List ℕ). take types_at b ++ (take (width type_row * m.types) (drop types_at b) ++ t)) (joins (calls_at m) (width entry_row * m.calls) b)
      ∙ ap (λ (t : List ℕ). take types_at b ++ t) (joins types_at (width type_row * m.types) b)
      ∙ take-append-drop types_at b)

-- The record of a good state -------------------------------------------------------------------------------------

root : (P : Head → ℕ → Type 0) (t : Tree) → Every P t → P (head_of t) (ty_of t)
unfolding Every head_of ty_of
root P (node h u f) (p, d) = p

entries-raw : (calls : List Entry) → map entry_of (map raw_entry calls) ≡ calls
unfolding entry_of raw_entry
entries-raw [] = refl
entries-raw (e ∷ calls) = ap (λ (l : List Entry). e ∷ l) (entries-raw calls)

-- the three tables, each with its zeros
module _ (m : Limits) (s : State) where
  unfoldable type_part : List ℕ
  type_part = padded (width type_row * m.types) (writes type_row s.types)

  unfoldable call_part : List ℕ
  call_part = padded (width entry_row * m.calls) (writes entry_row (map raw_entry s.calls))

  unfoldable row_part : List ℕ
  row_part = padded (width term_row * m.rows) (writes term_row (map raw (flat s.tree)))

  pub record-bytes : AllBytes (record_of m s)
  unfolding record_of type_part call_part row_part
  record-bytes =
      bytes-append (write record_head (head_numbers s)) (type_part ++ (call_part ++ row_part)) (bytes-write record_head (head_numbers s))
      (bytes-append type_part (call_part ++ row_part) (bytes-padded _ (writes type_row s.types) (bytes-writes type_row s.types))
      (bytes-append call_part row_part
      (bytes-padded _ (writes entry_row (map raw_entry s.calls)) (bytes-writes entry_row (map raw_entry s.calls)))
      (bytes-padded _ (writes term_row (map raw (flat s.tree))) (bytes-writes term_row (map raw (flat s.tree))))))

module _ (m : Limits) (s : State) (small : Small m) (good : Good m s) where
  head-fits : Fits record_head (head_numbers s)
  unfolding Fits pow256 head_numbers raw
  head-fits =
      let t = (in-range version (length s.types) _ (root (legal (length s.types)) s.tree good.legal_rows)).type_below in
      (omega arith, (omega arith, (omega arith, (omega arith, (omega arith, (omega arith, (omega arith, (omega arith, (omega arith, (omega (arith, t, good.program), (omega arith, tt)))))))))))

  pub read_head : read record_head (record_of m s) ≡ head_numbers s
  unfolding record_of
  read_head = read-write record_head (head_numbers s) _ head-fits

  pub type-count : type_count (record_of m s) ≡ length s.types
  unfolding head_numbers
  type-count = ap (λ (l : List ℕ). get_or l 5 0) read_head

  pub row_count_lem : row_count (record_of m s) ≡ size s.tree
  unfolding head_numbers
  row_count_lem = ap (λ (l : List ℕ). get_or l 6 0) read_head

  pub open-count : open_count (record_of m s) ≡ length s.calls
  unfolding head_numbers
  open-count = ap (λ (l : List ℕ). get_or l 7 0) read_head

  pub next-number : next_number (record_of m s) ≡ s.next
  unfolding head_numbers
  next-number = ap (λ (l : List ℕ). get_or l 8 0) read_head

  edition-kept : record_edition (record_of m s) ≡ version
  unfolding head_numbers
  edition-kept = ap (λ (l : List ℕ). get_or l 3 0) read_head

  pub program-type : program_type (record_of m s) ≡ s.program
  unfolding head_numbers
  program-type = ap (λ (l : List ℕ). get_or l 9 0) read_head

  type-length : length (type_part m s) ≡ width type_row * m.types
  unfolding type_part
  type-length = part_length type_row m.types s.types good.types_many

  call_length : length (call_part m s) ≡ width entry_row * m.calls
  unfolding call_part
  call_length = part_length entry_row m.calls (map raw_entry s.calls) (rw length-map good.calls_many)

  row-length : length (row_part m s) ≡ width term_row * m.rows
  unfolding row_part
  row-length = part_length term_row m.rows (map raw (flat s.tree)) (rw (length-map, length-flat) good.rows_many)

  behind-head : drop types_at (record_of m s) ≡ type_part m s ++ (call_part m s ++ row_part m s)
  unfolding record_of type_part call_part row_part
  behind-head = drop_at (write record_head (head_numbers s)) _ types_at (length-write record_head (head_numbers s))

  behind-types : drop (calls_at m) (record_of m s) ≡ call_part m s ++ row_part m s
  unfolding calls_at
  behind-types = sym (drop-drop (width type_row * m.types) types_at (record_of m s)) ∙ ap (drop (width type_row * m.types)) behind-head ∙ drop_at (type_part m s) (call_part m s ++ row_part m s) _ type-length

  behind-calls : drop (rows_at m) (record_of m s) ≡ row_part m s
  unfolding rows_at
  behind-calls = sym (drop-drop (width entry_row * m.calls) (calls_at m) (record_of m s)) ∙ ap (drop (width entry_row * m.calls)) behind-types ∙ drop_at (call_part m s) (row_part m s) _ call_length

  pub types-in : types_in (record_of m s) ≡ s.types
  unfolding types_in type_part
  types-in = rw (type-count, behind-head) (part-read type_row m.types s.types _ good.types_wide)

  pub entries-in : entries_in m (record_of m s) ≡ map raw_entry s.calls
  unfolding entries_in call_part
  entries-in =
      rw (open-count, behind-types, ← (length-map s.calls raw_entry))
      (part-read entry_row m.calls (map raw_entry s.calls) _ (entries_fit s.types s.calls s.next good.types_pass (omega arith) (omega arith) good.calls_below good.calls_ground))

  pub rows_in_lem : rows_in m (record_of m s) ≡ map raw (flat s.tree)
  unfolding rows_in row_part
  rows_in_lem =
      let l = map raw (flat s.tree) in
      let e : size s.tree ≡ length l = rw (length-map, length-flat) refl in
      rw (row_count_lem, behind-calls, e, ← (append-nil (padded (width term_row * m.rows) (writes term_row l))))
      (part-read term_row m.rows l [] (rows_fit (length s.types) (flat s.tree) (omega arith) (every-rows _ s.tree good.legal_rows)))

  calls-in : (state_of m (record_of m s)).calls ≡ s.calls
  unfolding state_of
  calls-in = ap (map entry_of) entries-in ∙ entries-raw s.calls

  tree-in : (state_of m (record_of m s)).tree ≡ s.tree
  unfolding state_of
  tree-in = ap (λ (l : List (List ℕ)). tree_of (map row_of l)) rows_in_lem ∙ ap tree_of (rows-raw (flat s.tree)) ∙ tree-of-flat s.tree

  pub state-record : state_of m (record_of m s) ≡ s
  unfolding state_of
  state-record = λ i. record { types = types-in i; tree = tree-in i; calls = calls-in i; next = next-number i; program = program-type i }

  pub record-length : length (record_of m s) ≡ record_bytes m
  unfolding record_of record_bytes rows_at calls_at type_part call_part row_part
  record-length = rw (length-append, length-append, length-append, length-write, type-length, call_length, row-length) (omega arith)

  head-sound : head_sound m (record_of m s) ≡ true
  unfolding head_sound head_numbers
  head-sound =
      rw read_head
      (both _ _ (numbers-same record_mark)
      (both _ _ (within_of 1 m.types (length s.types) good.types_some good.types_many)
      (both _ _ (within_of 1 m.rows (size s.tree) (size-some s.tree) good.rows_many)
      (both _ _ (le-leb (length s.calls) m.calls good.calls_many)
      (both _ _ (within_of 1 (suc m.last_number) s.next good.next_low good.next_high) (eq-same 0))))))

  space-sound : space_sound m (record_of m s) ≡ true
  unfolding space_sound type_part call_part row_part
  space-sound =
      let l = map raw (flat s.tree) in
      let e : size s.tree ≡ length l = rw (length-map, length-flat) refl in
      both _ _ (rw type-count (part-unused type_row m.types s.types (record_of m s) _ types_at behind-head))
      (both _ _ (rw (open-count, ← (length-map s.calls raw_entry)) (part-unused entry_row m.calls (map raw_entry s.calls) (record_of m s) _ (calls_at m) behind-types))
      (rw (row_count_lem, e) (part-unused term_row m.rows l (record_of m s) [] (rows_at m) (behind-calls ∙ sym (append-nil _)))))

  pub sound-record : sound m (record_of m s) ≡ true
  unfolding sound types_sound shape_sound term_sound calls_sound futures_sound program_sound nothing is_whole
  sound-record =
      both _ _ head-sound
      (both _ _ space-sound
      (both _ _ (rw (edition-kept, types-in, good.types_pass) refl)
      (both _ _ (rw (edition-kept, type-count, rows_in_lem, whole_of (length s.types) s.tree good.legal_rows) refl)
      (both _ _ (rw (types-in, tree-in, typed-of (form_of s.types) empty s.tree good.typed) refl)
      (both _ _ (both _ _ (rw calls-in good.calls_rise) (rw (types-in, next-number, entries-in, all_pass (entry_sound (form_of s.types) s.next) _ (entries-sound (form_of s.types) s.next s.calls good.calls_below good.calls_ground)) refl))
      (both _ _ (rw (calls-in, rows_in_lem, all_pass (future_listed s.calls) _ (rows-due s.calls (flat s.tree) (every-rows _ s.tree good.listed))) refl)
      (rw (tree-in, program-type) (eq-eqb _ _ good.program))))))))

-- a sound record is the bytes of exactly one state
pub sound-one : (m : Limits) (b : List ℕ) → Small m → length b ≡ record_bytes m → AllBytes b → sound m b ≡ true
    → (s : State) × Good m s × (record_of m s ≡ b) × ((u : State) → Good m u → record_of m u ≡ b → u ≡ s)
sound-one m b small long bytes ok =
    (state_of m b, good-state m b small long bytes ok, record-state m b small long bytes ok, λ u g e. sym (state-record m u small g) ∙ ap (state_of m) e)
