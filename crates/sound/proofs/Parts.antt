-- The parts cut from a record are what the tests of the meaning read. Assumes nothing.
use Prim.Native.Nat.{ℕ, ◌+◌, ◌*◌, ◌-◌, ◌/◌, ◌≤◌, ◌<◌}
use mathlib.Core.Path.{◌≡◌, refl, ap, sym, ◌∙◌}
use mathlib.Core.Bool.{Bool, true, false, false≢true}
use mathlib.Core.List.{List, [], ◌∷◌, map}
use Rattle.std.specs.Prelude.{Option, None, Some, is_some, is_ok, not}
use native.Mathlib.Omega.{arith}
use native.Mathlib.Nat.{mul-sub}
use borrow.Author.Tests.{leb-true, eq-eqb, ne_eqb, lt-ltb, le-ltb}
use lib.Dec.{eqb}
use lib.ListN.{length, get_or, take, drop, length-drop, length-map, get_or-map}
use lib.Seq.{length-take-le}
use Rattle.meaning.specs.Bytes.{◌∧ᵇ◌, Layout, width, zeros, number, read, reads, type_row, term_row, entry_row, types_at, calls_at, rows_at, record_bytes}
use Rattle.meaning.specs.Types.{Form, form_of, ground, empty}
use Rattle.meaning.specs.Terms.{ty_of, tree_of, trees, top, row_of, type_no, shape}
use Rattle.meaning.specs.Typing.{first_bad}
use Rattle.meaning.specs.Records.{head_no, type_count, row_count, open_count, types_in, entries_in, rows_in, entry_of, state_of, first_not, nothing, is_whole, head_sound, unused, space_sound, types_sound, shape_sound, term_sound, rises, entry_sound, calls_sound, listed, futures_sound, program_sound, sound}
use Rattle.meaning.specs.Entries.{no_future}
use Rattle.meaning.specs.Terms.{Shape}
use Rattle.std.specs.Prelude.{Result, Ok, Err}
use Rattle.meaning.proofs.Trees.Tests.{left, right, within-if}
use Rattle.meaning.proofs.Bytes.Layouts.{length-reads, reads_at}
use Rattle.layout.specs.declared.Limits.{Limits}
use Rattle.layout.specs.Rows.{board, type_table, row_table, term_rows}
use Rattle.layout.proofs.Laws.{read-front, term-row, term-rows-at}
use Rattle.layout.proofs.Tables.{reads-cut, type-table-cut, row-table-cut}
use Rattle.open.proofs.Listing.{rises-on, rises-not, rises-out, listed-on, listed-hit, listed-out}
use Rattle.open.proofs.Stored.{entry_read}
use Rattle.terms.specs.Tables.{Closed}
use Rattle.terms.proofs.Scan.{bytes-closed}
use Rattle.sound.specs.Ready.{Ready, ShowsRows, entry_table, call_table, others_sound, rest_sound}
use Rattle.quick.specs.Dues.{Shows}
use Rattle.sound.proofs.Laws.{fails, passes, some-there, none-to-list}

-- where the parts of a record begin, and how much of each is in use
pub record Sizes (m : Limits) (b : List ℕ) : Type 0 where
  pub head : 20 ≤ length b
  pub calls-from : calls_at (board m) ≡ 20 + 36 * m.types
  pub rows-from : rows_at (board m) ≡ 20 + 36 * m.types + 8 * m.calls
  pub long : length b ≡ 20 + 36 * m.types + 8 * m.calls + 8 * m.rows
  pub types : type_count b ≤ m.types
  pub types-most : m.types ≤ 256
  pub rows-some : 1 ≤ row_count b
  pub rows : row_count b ≤ m.rows
  pub rows-most : m.rows ≤ 2048
  pub calls : open_count b ≤ m.calls
  pub calls-most : m.calls ≤ 64

pub sizes : (m : Limits) (b : List ℕ) → Ready m b → Sizes m b
unfolding head_sound calls_at rows_at record_bytes width
sizes m b r =
    let e1 = right _ _ r.head in
    let e2 = right _ _ e1 in
    let e3 = right _ _ e2 in
    let t = within-if 1 m.types (type_count b) (left _ _ e1) in
    let n = within-if 1 m.rows (row_count b) (left _ _ e2) in
    record {
      head = omega (arith, r.long);
      calls-from = omega arith;
      rows-from = omega arith;
      long = omega (arith, r.long);
      types = t.1;
      types-most = r.room.types;
      rows-some = n.0;
      rows = n.1;
      rows-most = r.room.rows;
      calls = leb-true (open_count b) m.calls (left _ _ e3);
      calls-most = r.room.calls;
    }

pub long-enough : (m : Limits) (b : List ℕ) → length b ≡ record_bytes (board m) → 20 ≤ length b
unfolding calls_at rows_at record_bytes width
long-enough m b e = omega arith

-- a part's unused space
unused-is : (l : Layout) (p n room from to : ℕ) (b : List ℕ) → from ≡ p + width l * n → to ≡ p + width l * room → zeros (take (to - from) (drop from b)) ≡ unused l p n room b
unfolding unused
unused-is l p n room from to b e f =
    let q : to - from ≡ width l * (room - n) = omega (arith, mul-sub (width l) room n) in
    rw (q, e) refl

-- the entry at a place
pub entry-fields : (p : ℕ) (s : List ℕ) → read entry_row (drop p s) ≡ number 4 (drop p s) ∷ number 2 (drop (p + 4) s) ∷ number 2 (drop (p + 6) s) ∷ []
unfolding read
entry-fields p s =
    let e : p + 4 + 2 ≡ p + 6 = omega arith in
    read-front 4 (2 ∷ 2 ∷ []) p (p + 4) s refl ∙ rw (read-front 2 (2 ∷ []) (p + 4) (p + 6) s e)

-- the first row's type
top-type : (rs : List (List ℕ)) → 1 ≤ length rs → ty_of (tree_of (map row_of rs)) ≡ type_no (get_or rs 0 [])
unfolding tree_of trees top ty_of row_of
top-type [] h = absurd (omega arith)
top-type (r ∷ rs) h = refl

whole-if : (s : Shape) → is_whole s ≡ true → s ≡ Ok tt
unfolding is_whole
whole-if (Ok tt) w = refl
whole-if (Err (f, i)) w = absurd (false≢true w)

-- an entry's test, field by field
module _ (form : ℕ → Form) (next p : ℕ) (s : List ℕ) (x : ℕ) (xe : x ≡ number 4 (drop p s)) where
  abbrev entry : List ℕ
  entry = read entry_row (drop p s)

  pub entry-late : next ≤ x → entry_sound form next entry ≡ false
  unfolding entry_sound
  entry-late h = rw (entry-fields p s, ← xe) (fails _ _ (le-ltb x next h))

  module _ (h : x < next) (t : ℕ) (te : t ≡ number 2 (drop (p + 4) s)) where
    from-type : entry_sound form next entry ≡ (ground form t ∧ᵇ eqb (number 2 (drop (p + 6) s)) 0)
    unfolding entry_sound
    from-type = rw (entry-fields p s, ← xe, ← te) (passes _ _ (lt-ltb x next h))

    pub entry-unground : ground form t ≡ false → entry_sound form next entry ≡ false
    entry-unground g = from-type ∙ fails _ _ g

    module _ (g : ground form t ≡ true) (y : ℕ) (ye : y ≡ number 2 (drop (p + 6) s)) where
      pub entry-not-zero : (y ≡ 0 → ⊥) → entry_sound form next entry ≡ false
      entry-not-zero n = from-type ∙ passes _ _ g ∙ rw (← ye) (ne_eqb y 0 n)

      pub entry-good : y ≡ 0 → entry_sound form next entry ≡ true
      entry-good n = from-type ∙ passes _ _ g ∙ rw (← ye) (eq-eqb y 0 n)

pub entry_at : (s : List ℕ) (i : ℕ) → i < length s / 8 → get_or (entry_table s) i [] ≡ read entry_row (drop (8 * i) s)
unfolding width
entry_at s i h = reads_at entry_row (length s / 8) i s [] h

pub entry-count : (s : List ℕ) → length (entry_table s) ≡ length s / 8
entry-count s = length-reads entry_row (length s / 8) s

-- The open calls of a table, from the i-th on ---------------------------------------------------------------------

module _ (s : List ℕ) where
  call-count : length (call_table s) ≡ length s / 8
  call-count = length-map (entry_table s) entry_of ∙ entry-count s

  module _ (i x : ℕ) (h : i < length s / 8) (xe : x ≡ number 4 (drop (8 * i) s)) where
    call_at : (t : ℕ) → t ≡ number 2 (drop (8 * i + 4) s) → get_or (call_table s) i (entry_of []) ≡ record { number = x; type = t }
    call_at t te = get_or-map entry_of (entry_table s) i [] ∙ ap entry_of (entry_at s i h) ∙ sym (entry_read s (8 * i) (8 * i + 4) x t refl xe te)

    call-there : i < length (call_table s)
    call-there = omega (arith, call-count)

    pub call-above : (low : ℕ) → low < x → rises low (drop i (call_table s)) ≡ rises x (drop (i + 1) (call_table s))
    call-above low k = rises-on (call_table s) 0 i _ _ call-there (call_at _ refl) low k

    pub call_below : (low : ℕ) → x ≤ low → rises low (drop i (call_table s)) ≡ false
    call_below low k = rises-not (call_table s) 0 i _ _ call-there (call_at _ refl) low k

    pub call-other : (k : ℕ) → (x ≡ k → ⊥) → listed (drop i (call_table s)) k ≡ listed (drop (i + 1) (call_table s)) k
    call-other k n = listed-on (call_table s) k i _ _ call-there (call_at _ refl) n

    pub call-found : (k t : ℕ) → x ≡ k → t ≡ number 2 (drop (8 * i + 4) s) → listed (drop i (call_table s)) k ≡ Some t
    call-found k t e te = listed-hit (call_table s) k i _ _ call-there (call_at t te) e

  module _ (i : ℕ) (h : length s / 8 ≤ i) where
    pub calls-risen : (low : ℕ) → rises low (drop i (call_table s)) ≡ true
    calls-risen low = rises-out (call_table s) low i (omega (arith, call-count))

    pub calls-out : (k : ℕ) → listed (drop i (call_table s)) k ≡ None
    calls-out k = listed-out (call_table s) k i (omega (arith, call-count))

-- the types cut from a record
module _ (b : List ℕ) (n : ℕ) (e : n ≡ type_count b) (h : 20 + 36 * n ≤ length b) where
  pub types-length : length (take (20 + 36 * n - 20) (drop 20 b)) ≡ 36 * n
  types-length = length-take-le (20 + 36 * n - 20) (drop 20 b) (rw length-drop (omega arith)) ∙ omega arith

  pub types-table : type_table (take (20 + 36 * n - 20) (drop 20 b)) ≡ types_in b
  unfolding types_in width
  types-table = rw (← e) (type-table-cut b 20 n (20 + 36 * n - 20) (omega arith) (omega arith))

module _ (m : Limits) (b : List ℕ) (z : Sizes m b) where
  -- Unused space -------------------------------------------------------------------------------------------------

  module _ (p q n k : ℕ) (pe : p ≡ calls_at (board m)) (qe : q ≡ rows_at (board m)) where
    pub types-zero : n ≡ type_count b → zeros (take (p - (20 + 36 * n)) (drop (20 + 36 * n) b)) ≡ unused type_row types_at (type_count b) m.types b
    unfolding width
    types-zero e = unused-is type_row types_at (type_count b) m.types (20 + 36 * n) p b (omega arith) (omega (arith, z.calls-from))

    pub calls-zero : n ≡ open_count b → zeros (take (q - (p + 8 * n)) (drop (p + 8 * n) b)) ≡ unused entry_row (calls_at (board m)) (open_count b) m.calls b
    unfolding width
    calls-zero e = unused-is entry_row (calls_at (board m)) (open_count b) m.calls (p + 8 * n) q b (omega arith) (omega (arith, z.rows-from, z.calls-from))

    pub rows-zero : n ≡ row_count b → zeros (take (length b - (q + 8 * n)) (drop (q + 8 * n) b)) ≡ unused term_row (rows_at (board m)) (row_count b) m.rows b
    unfolding width
    rows-zero e = unused-is term_row (rows_at (board m)) (row_count b) m.rows (q + 8 * n) (length b) b (omega arith) (omega (arith, z.rows-from, z.long))

  -- Tables -------------------------------------------------------------------------------------------------------

  module _ (p n : ℕ) (pe : p ≡ rows_at (board m)) (e : n ≡ row_count b) where
    pub rows-table : row_table (take (p + 8 * n - p) (drop p b)) ≡ rows_in (board m) b
    unfolding rows_in
    rows-table = rw (← pe, ← e) (row-table-cut b p n (p + 8 * n - p) (omega arith) (omega (arith, z.rows, z.long, z.rows-from)))

    pub rows-length : length (take (p + 8 * n - p) (drop p b)) ≡ 8 * n
    rows-length = length-take-le (p + 8 * n - p) (drop p b) (rw length-drop (omega (arith, z.rows, z.long, z.rows-from))) ∙ omega arith

  module _ (p n : ℕ) (pe : p ≡ calls_at (board m)) (e : n ≡ open_count b) where
    pub entries-read : (q : ℕ) → q ≡ rows_at (board m) → reads entry_row n (take (q - p) (drop p b)) ≡ entries_in (board m) b
    unfolding entries_in width
    entries-read q qe =
        rw (← pe, ← e) (reads-cut entry_row n (q - p) (drop p b) (omega (arith, z.calls, z.calls-from, z.rows-from)) (rw length-drop (omega (arith, z.long, z.rows-from, z.calls-from))))

    pub entries-table : entry_table (take (p + 8 * n - p) (drop p b)) ≡ entries_in (board m) b
    unfolding entries_in width
    entries-table =
        let g : p + 8 * n - p ≤ length (drop p b) = rw length-drop (omega (arith, z.calls, z.long, z.calls-from)) in
        let k : length (take (p + 8 * n - p) (drop p b)) / 8 ≡ n = omega (arith, length-take-le (p + 8 * n - p) (drop p b) g) in
        rw (k, ← pe, ← e) (reads-cut entry_row n (p + 8 * n - p) (drop p b) (omega arith) g)

  pub calls_are : (state_of (board m) b).calls ≡ map entry_of (entries_in (board m) b)
  unfolding state_of
  calls_are = refl

  pub call-total : length (state_of (board m) b).calls ≡ open_count b
  unfolding state_of entries_in
  call-total = length-map (reads entry_row (open_count b) (drop (calls_at (board m)) b)) entry_of ∙ length-reads entry_row (open_count b) (drop (calls_at (board m)) b)

-- The tests in order -------------------------------------------------------------------------------------------------

module _ (m : Limits) (b : List ℕ) where
  pub no-head : head_sound (board m) b ≡ false → sound (board m) b ≡ false
  unfolding sound
  no-head e = fails _ _ e

  module _ (h : head_sound (board m) b ≡ true) where
    pub no-space : space_sound (board m) b ≡ false → sound (board m) b ≡ false
    unfolding sound
    no-space e = passes _ _ h ∙ fails _ _ e

    module _ (s : space_sound (board m) b ≡ true) where
      pub no-types : types_sound b ≡ false → sound (board m) b ≡ false
      unfolding sound
      no-types e = passes _ _ h ∙ passes _ _ s ∙ fails _ _ e

      module _ (t : types_sound b ≡ true) where
        pub the_rest : sound (board m) b ≡ rest_sound (board m) b
        unfolding sound rest_sound others_sound
        the_rest = passes _ _ h ∙ passes _ _ s ∙ passes _ _ t

  pub no-shape : shape_sound (board m) b ≡ false → rest_sound (board m) b ≡ false
  unfolding rest_sound
  no-shape e = fails _ _ e

  module _ (s : shape_sound (board m) b ≡ true) where
    pub no-term : term_sound (board m) b ≡ false → rest_sound (board m) b ≡ false
    unfolding rest_sound
    no-term e = passes _ _ s ∙ fails _ _ e

    pub the_others : term_sound (board m) b ≡ true → rest_sound (board m) b ≡ others_sound (board m) b
    unfolding rest_sound
    the_others e = passes _ _ s ∙ passes _ _ e

  -- a typing that fails where the shape is whole
  pub no_rows : (shape_sound (board m) b ≡ true → term_sound (board m) b ≡ false) → rest_sound (board m) b ≡ false
  no_rows h = go (shape_sound (board m) b) refl
    where
      go : (s : Bool) → shape_sound (board m) b ≡ s → rest_sound (board m) b ≡ false
      go true e = no-term e (h e)
      go false e = no-shape e

  pub no-calls : calls_sound (board m) b ≡ false → others_sound (board m) b ≡ false
  unfolding others_sound
  no-calls e = fails _ _ e

  module _ (k : calls_sound (board m) b ≡ true) where
    pub no-futures : futures_sound (board m) b ≡ false → others_sound (board m) b ≡ false
    unfolding others_sound
    no-futures e = passes _ _ k ∙ fails _ _ e

    pub only-program : futures_sound (board m) b ≡ true → others_sound (board m) b ≡ program_sound (board m) b
    unfolding others_sound
    only-program e = passes _ _ k ∙ passes _ _ e

-- the type that the first row states
pub first_type : (rows : List ℕ) → 8 ≤ length rows → (t : ℕ) → t ≡ number 2 (drop 2 rows) → ty_of (tree_of (term_rows rows)) ≡ t
first_type rows h t e =
    let z = length-reads term_row (length rows / 8) rows in
    top-type (row_table rows) (omega arith) ∙ ap type_no (term-rows-at (length rows / 8) 0 0 rows [] (omega arith)) ∙ ap type_no (term-row 0 rows) ∙ sym e

-- The tests, on the parts ------------------------------------------------------------------------------------------

pub none-nothing : (o : Option ℕ) (b : Bool) → is_some o ≡ not b → b ≡ nothing o
unfolding nothing
none-nothing None true e = refl
none-nothing None false e = e
none-nothing (Some i) true e = e
none-nothing (Some i) false e = refl

pub ok-whole : (s : Shape) → is_ok s ≡ is_whole s
unfolding is_whole
ok-whole (Ok tt) = refl
ok-whole (Err (f, i)) = refl

pub types-count : (b : List ℕ) → length (types_in b) ≡ type_count b
unfolding types_in width
types-count b = length-reads type_row (type_count b) (drop 20 b)

module _ (m : Limits) (b rows : List ℕ) (re : row_table rows ≡ rows_in (board m) b) where
  -- an accepted shape is closed
  pub shape-closed : shape_sound (board m) b ≡ true → Closed (term_rows rows) (length rows / 8)
  unfolding shape_sound
  shape-closed w = bytes-closed (head_no 3 b) (type_count b) rows (rw re (whole-if (shape (head_no 3 b) (type_count b) (rows_in (board m) b)) w))

  pub none_seen : first_not no_future (row_table rows) ≡ None → futures_sound (board m) b ≡ true
  unfolding nothing futures_sound
  none_seen h = rw (← re) (none-to-list (state_of (board m) b).calls (row_table rows) (ap nothing h))

  pub program-told : 8 ≤ length rows → (t : ℕ) → t ≡ number 2 (drop 2 rows) → ty_of (state_of (board m) b).tree ≡ t
  unfolding state_of
  program-told h t e = rw (← re) (first_type rows h t e)

  module _ (types : List (List ℕ)) (te : types ≡ types_in b) where
    -- a row of a whole shape that fails
    pub leaf-told : (Closed (term_rows rows) (length rows / 8) → first_bad (form_of types) empty (tree_of (term_rows rows)) ≡ None → ⊥) → rest_sound (board m) b ≡ false
    unfolding term_sound state_of
    leaf-told f = no_rows m b (λ s. sym (some-there _ (let g = f (shape-closed s) in rw (te, re) at g)))

    -- rows that are good
    pub good-told : (v : ℕ) → v ≡ head_no 3 b → shape v (length types) (row_table rows) ≡ Ok tt
        → first_bad (form_of types) empty (tree_of (term_rows rows)) ≡ None → (shape_sound (board m) b ≡ true) × (term_sound (board m) b ≡ true)
    unfolding shape_sound term_sound state_of is_whole nothing
    good-told v e w o =
        let c : length types ≡ type_count b = ap length te ∙ types-count b in
        (ap is_whole (rw (c, e, re) at w), ap nothing (rw (te, re) at o))

    -- what a quick check of them tells
    pub rows_shown : (v : ℕ) → v ≡ head_no 3 b → (r : Result Bool ℕ) → Shows v types rows r → ShowsRows (board m) b r
    rows_shown v e (Ok future) s =
        let w = good-told v e s.whole s.typed in
        record { shape = w.0; term = w.1; futures = λ z. none_seen (s.still z) }
    rows_shown v e (Err i) s = record { shape = tt; term = tt; futures = tt }
