-- The bytes of a record whose term is settled and whose list is shortened are those of the state behind the reply. Assumes nothing.
use Prim.Native.Nat.{ℕ, ◌+◌, ◌*◌, ◌-◌, ◌≤◌}
use mathlib.Core.Path.{◌≡◌, refl, ap, sym, ◌∙◌}
use mathlib.Core.Bool.{true}
use mathlib.Core.List.{List, [], ◌++◌, map, append-nil}
use native.Mathlib.Omega.{arith}
use lib.ListN.{length, take, drop, length-drop, length-map, drop_of_length-le}
use lib.Seq.{take_at, take-take, drop_at, drop-drop, length-take-le}
use Rattle.meaning.specs.Bytes.{writes, term_row, rows_at}
use Rattle.meaning.specs.Terms.{flat, size, raw}
use Rattle.meaning.specs.Records.{State, Entry, record_of, row_count, next_number, types_in, rows_in, state_of, sound}
use Rattle.meaning.specs.Entries.{stepped, reply_number, reply_tree, without, replied_state}
use Rattle.meaning.proofs.Trees.Parse.{length-flat}
use Rattle.meaning.proofs.Bytes.Layouts.{AllBytes}
use Rattle.meaning.proofs.Bytes.Records.{Small, Good, good-state, record-state, tree-rows}
use Rattle.meaning.proofs.Entries.Replying.{accepted-reply, reply-tree}
use Rattle.layout.specs.declared.Limits.{Limits}
use Rattle.layout.specs.Rows.{board, row_table}
use Rattle.layout.proofs.Tables.{row-table-length, row-table-cut}
use Rattle.sound.specs.Ready.{Ready}
use Rattle.sound.proofs.Parts.{sizes}
use Rattle.keep.specs.Keep.{Roomy, Holding, recalled}
use Rattle.keep.proofs.Renewing.{rows_replaced}
use Rattle.settle.specs.Settled.{settled, settled_in, Taken, Fitting}
use Rattle.settle.proofs.Rows.{settled-length}
use Rattle.settle.proofs.Trees.{rows_settled}
use Rattle.settle.proofs.Verdicts.{Headed, headed, value-rows, value-length}

small-board : (m : Limits) (b : List ℕ) → Ready m b → m.last ≤ 65535 → Small (board m)
small-board m b r h = let z = sizes m b r in record { types = omega arith; rows = omega arith; calls = omega arith; numbers = omega arith }

-- the parts that are lent, as the state has them
module _ (m : Limits) (b : List ℕ) (r : Ready m b) (ok : sound (board m) b ≡ true) (last : m.last ≤ 65535) (bb : AllBytes b) where
  pub lent-types : (types : List (List ℕ)) → types ≡ types_in b → types ≡ (state_of (board m) b).types
  unfolding state_of
  lent-types types e = e

  pub lent_rows : (rows : List ℕ) → row_table rows ≡ rows_in (board m) b → row_table rows ≡ map raw (flat (state_of (board m) b).tree)
  lent_rows rows e = e ∙ sym (tree-rows (board m) b (small-board m b r last) r.long bb ok).0

-- the state of a sound record
module _ (m : Limits) (b answer : List ℕ) (t : Taken m b answer) (bb : AllBytes b) where
  abbrev held : State
  held = state_of (board m) b

  abbrev replied : State
  replied = replied_state held answer

  small : Small (board m)
  small = small-board m b t.ready t.numbers

  pub good : Good (board m) held
  good = good-state (board m) b small t.ready.long bb t.is-sound

  back : record_of (board m) held ≡ b
  back = record-state (board m) b small t.ready.long bb t.is-sound

  pub head-good : Headed (board m) answer
  head-good = headed (board m) answer (accepted-reply (board m) held answer t.accepted).0.header

  -- The term -----------------------------------------------------------------------------------------------------

  abbrev space : ℕ → List ℕ
  space p = take (length b - p) (drop p b)

  abbrev value : List ℕ
  value = take (length answer - 8) (drop 8 answer)

  module _ (p n k : ℕ) (pe : p ≡ rows_at (board m)) (ne : n ≡ row_count b) (ke : k ≡ reply_number answer) where
    pub space-length : length (space p) ≡ 8 * m.rows
    space-length = let z = sizes m b t.ready in length-take-le (length b - p) (drop p b) (rw length-drop (omega arith)) ∙ omega (arith, z.long, z.rows-from)

    used-table : row_table (take (8 * n) (space p)) ≡ map raw (flat held.tree)
    unfolding rows_in
    used-table =
        let z = sizes m b t.ready in
        ap (λ (x : List ℕ). row_table x) (take-take (8 * n) (length b - p) (drop p b) (omega (arith, z.long, z.rows-from, z.rows)))
        ∙ row-table-cut b p n (8 * n) refl (omega (arith, z.long, z.rows-from, z.rows))
        ∙ rw (ne, pe) (sym (tree-rows (board m) b small t.ready.long bb t.is-sound).0)

    pub rows_are : settled_in (space p) (8 * n) value k ≡ map raw (flat replied.tree)
    unfolding replied_state
    rows_are =
        let (l, a) = accepted-reply (board m) held answer t.accepted in
        let o = reply-tree (length held.types) answer l.one-tree in
        rw (used-table, value-rows (board m) answer head-good, ← o.rows, ke) (sym (rows_settled (reply_number answer) (reply_tree answer) held.tree))

    pub rows-size : length (settled_in (space p) (8 * n) value k) ≡ size replied.tree
    rows-size = ap length rows_are ∙ length-map (flat replied.tree) raw ∙ length-flat replied.tree

    pub rows-most : length (settled_in (space p) (8 * n) value k) ≤ m.rows
    unfolding replied_state
    rows-most = let (l, a) = accepted-reply (board m) held answer t.accepted in omega (arith, rows-size, a.fits)

    pub fitting : (work : List ℕ) → 8 * m.rows ≤ length work → Fitting (space p) (8 * n) work value k
    fitting work h =
        let z = sizes m b t.ready in
        let f = rows-most in
        let e = space-length in
        let v = value-length (board m) answer head-good in
        record {
          used-within = omega (arith, z.rows);
          used-rows = omega arith;
          value-rows = omega arith;
          space-fits = omega arith;
          work-fits = omega arith;
        }

    -- The record ---------------------------------------------------------------------------------------------------

    pub roomy : Roomy (board m) held
    roomy = let g = good in record { types = g.types_many; calls = g.calls_many; rows = g.rows_many }

    -- before the row space the record stands, in it are the rows settled
    pub holding : (b₁ y : List ℕ) (r : ℕ) → take (8 * r) y ≡ writes term_row (settled_in (space p) (8 * n) value k) → b₁ ≡ take p b ++ (y ++ drop (length b - p) (drop p b))
        → r ≡ length (settled_in (space p) (8 * n) value k) → Holding (board m) b₁ r held replied.tree
    holding b₁ y r ye be re =
        let z = sizes m b t.ready in
        let gone : drop (length b - p) (drop p b) ≡ [] = drop_of_length-le (drop p b) {i = length b - p} (rw length-drop (omega arith)) in
        let b₁_is : b₁ ≡ take p b ++ y = be ∙ rw gone (ap (λ (x : List ℕ). take p b ++ x) (append-nil y)) in
        let pl : length (take p b) ≡ rows_at (board m) = length-take-le p b (omega (arith, z.long, z.rows-from)) ∙ pe in
        record {
          roomy = roomy;
          count = re ∙ rows-size;
          front =
              ap (take (rows_at (board m))) b₁_is
              ∙ take_at (take p b) y (rows_at (board m)) pl
              ∙ ap (λ (x : ℕ). take x b) pe
              ∙ ap (take (rows_at (board m))) (sym back);
          term = ap (λ (x : List ℕ). take (8 * r) (drop (rows_at (board m)) x)) b₁_is ∙ ap (take (8 * r)) (drop_at (take p b) y (rows_at (board m)) pl) ∙ ye ∙ ap (writes term_row) rows_are;
        }

    -- a reply of one row: the rows are as many as they were
    pub replaced : length value ≡ 8 → (b₁ y : List ℕ) (u : ℕ) → u ≡ 8 * n → y ≡ writes term_row (settled k (row_table value) (row_table (take u (drop p b)))) → b₁ ≡ take p b ++ (y ++ drop u (drop p b))
        → b₁ ≡ record_of (board m) (stepped held replied.tree)
    replaced lv b₁ y u ue ye be =
        let z = sizes m b t.ready in
        let cut : take (8 * n) (space p) ≡ take (8 * n) (drop p b) = take-take (8 * n) (length b - p) (drop p b) (omega (arith, z.long, z.rows-from, z.rows)) in
        let used : length (row_table (take (8 * n) (space p))) ≡ n = row-table-length (take (8 * n) (space p)) ∙ omega (arith, length-take-le (8 * n) (space p) (omega (arith, space-length, z.rows))) in
        let old : size held.tree ≡ n = sym (length-map (flat held.tree) raw ∙ length-flat held.tree) ∙ sym (ap length used-table) ∙ used in
        let new : size replied.tree ≡ n = sym rows-size ∙ settled-length k (row_table value) (omega (arith, row-table-length value)) (row_table (take (8 * n) (space p))) ∙ used in
        let rows : y ≡ writes term_row (map raw (flat replied.tree)) = ye ∙ ap (λ (i : ℕ). writes term_row (settled k (row_table value) (row_table (take i (drop p b))))) ue ∙ ap (λ (x : List ℕ). writes term_row (settled k (row_table value) (row_table x))) (sym cut) ∙ ap (writes term_row) rows_are in
        let behind : drop u (drop p b) ≡ drop (rows_at (board m) + 8 * size replied.tree) b = ap (λ (i : ℕ). drop i (drop p b)) ue ∙ drop-drop (8 * n) p b ∙ rw (pe, new) refl in
        rows_replaced (board m) b b₁ held replied.tree roomy (sym back) (new ∙ sym old) (be ∙ rw (behind, rows, pe) refl)

    pub roomy-settled : Roomy (board m) (stepped held replied.tree)
    unfolding stepped
    roomy-settled = let g = good in record { types = g.types_many; calls = g.calls_many; rows = omega (arith, rows-size, rows-most) }

    -- the list without the entry, the next number as it was
    pub recalled-is : (es : List Entry) (next : ℕ) → es ≡ without k held.calls → next ≡ next_number b → recalled (stepped held replied.tree) es next ≡ replied
    unfolding recalled stepped replied_state state_of
    recalled-is es next ee xe = rw (ee, ke, xe) refl
