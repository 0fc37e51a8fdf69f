-- Scopes that end and begin, and the whole: what was due is good if what is due then is. Assumes nothing.
use Prim.Native.Nat.{ℕ, zero, suc, ◌+◌, ◌/◌, ◌≤◌, ◌<◌}
use mathlib.Core.Path.{◌≡◌, refl, sym, ◌∙◌, subst, fun_ext}
use mathlib.Core.Bool.{Bool, true, false}
use mathlib.Core.List.{List, [], ◌∷◌, map}
use Rattle.std.specs.Prelude.{None}
use native.Mathlib.Omega.{arith}
use lib.ListN.{length, get_or, drop, replicate, length-map, length-replicate, drop_of_length-le}
use lib.Seq.{drop-cons}
use Rattle.std.specs.Prelude.{Ok}
use Rattle.meaning.specs.Types.{Form, Param, find, empty}
use Rattle.meaning.specs.Terms.{Row, ty_of, tree_at, row_of, tree_of, shape}
use Rattle.meaning.specs.Typing.{first_bad}
use Rattle.meaning.specs.Records.{first_not}
use Rattle.meaning.specs.Entries.{no_future}
use Rattle.layout.specs.Rows.{row_table, term_rows}
use Rattle.layout.proofs.Tables.{row-table-length}
use Rattle.terms.proofs.Scan.{shape-whole}
use Rattle.rules.specs.Forms.{forms}
use Rattle.quick.specs.declared.Place.{Place}
use Rattle.quick.specs.Names.{in_scope, NamesChained}
use Rattle.quick.specs.Dues.{wanted, ends, begins, dues, owes, due_at, Comes, Arrays, Outside, Inside, Good, SeesDue, Rises, Shows}
use Rattle.quick.proofs.Chains.{no-entry}
use Rattle.quick.proofs.Owing.{due-wanted, due-ends, due-begins, dues-front}

-- Scopes -------------------------------------------------------------------------------------------------------------

module _ (form : ℕ → Form) (b es : List ℕ) where
  abbrev Rising : (ns ns' hs' : List ℕ) (p q : Place) → Type 0
  Rising = Rises form (row_table b) es

  pub rises-not : (ns hs : List ℕ) (p : Place) → Arrays es ns hs p → p.down ≡ false → Rising ns ns hs p p
  unfolding due_at
  rises-not ns hs p a up = record { row = refl; arrays = a; same_names = refl; still = refl; back = λ edition count g. rw up at g }

  pub rises-on : (ns ns' ns'' hs hs' : List ℕ) (p q r : Place) → Rising ns ns' hs p q → q.down ≡ false → Rising ns' ns'' hs' q r → Rising ns ns'' hs' p r
  unfolding due_at
  rises-on ns ns' ns'' hs hs' p q r v up u =
      record {
        row = u.row ∙ v.row;
        arrays = u.arrays;
        same_names = u.same_names ∙ v.same_names;
        still = u.still ∙ v.still;
        back = λ edition count g. v.back edition count (rw up (u.back edition count g));
      }

  module _ (ns : List ℕ) (p q : Place) (inside : p.s < length es) where
    abbrev behind : Place
    behind = record { i = p.i; s = p.s + 1; b = p.b; ok = true; down = false; future = p.future }

    -- a scope ends
    pub rises-out : (hs' : List ℕ) (e n : ℕ) → get_or es p.s 0 ≡ e → e ≡ 65536 + n → n < 65536 → Outside ns hs' n behind q → Rising ns ns hs' p q
    unfolding Good owes Comes due_at
    rises-out hs' e n eq en few v =
        record {
          row = v.row;
          arrays = record { within = omega (arith, v.same); chained = v.chained };
          same_names = refl;
          still = v.still;
          back = λ edition count g.
              let front : dues es p.s ≡ ends n ∷ dues es (p.s + 1) = dues-front es p.s inside ∙ rw (eq, due-ends e n en few) in
              rw front (rw (v.up, v.same, v.row, v.names) at g);
        }

    -- a scope begins
    pub rises-in : (ns' hs' : List ℕ) (e j : ℕ) → get_or es p.s 0 ≡ e → e ≡ 131072 + j → Inside form (term_rows b) ns ns' hs' j behind q → Rising ns ns' hs' p q
    unfolding Good owes Comes due_at
    rises-in ns' hs' e j eq ej v =
        record {
          row = v.row;
          arrays = record { within = omega (arith, v.same); chained = v.chained };
          same_names = v.room;
          still = v.still;
          back = λ edition count g.
              let front : dues es p.s ≡ begins j ∷ dues es (p.s + 1) = dues-front es p.s inside ∙ rw (eq, due-begins e j ej) in
              rw front (rw (v.up, v.same, v.row, v.names) at g);
        }

  -- the row at the place states the type that is wanted
  pub rises-tree : (ns hs : List ℕ) (p : Place) (e : ℕ) → p.s < length es → NamesChained ns hs p.b → get_or es p.s 0 ≡ e → e < 65536 → ty_of (tree_at (term_rows b) p.i) ≡ e
      → Rising ns ns hs p record { i = p.i; s = p.s + 1; b = p.b; ok = true; down = true; future = p.future }
  unfolding due_at
  rises-tree ns hs p e inside c eq few t =
      record {
        row = refl;
        arrays = record { within = omega arith; chained = c };
        same_names = refl;
        still = refl;
        back = λ edition count g.
            let front : dues es p.s ≡ wanted (ty_of (tree_at (term_rows b) p.i)) ∷ dues es (p.s + 1) = dues-front es p.s inside ∙ rw (eq, due-wanted e few, t) in
            rw front g;
      }

-- The whole ----------------------------------------------------------------------------------------------------------

-- where the check goes down to the row at a place, its tree is due first; else what the array has
pub due-down : (l : List Row) (es : List ℕ) (p : Place) → p.down ≡ true → due_at l es p ≡ wanted (ty_of (tree_at l p.i)) ∷ dues es p.s
unfolding due_at
due-down l es p e = rw e

pub due-up : (l : List Row) (es : List ℕ) (p : Place) → p.down ≡ false → due_at l es p ≡ dues es p.s
unfolding due_at
due-up l es p e = rw e

-- nothing is due behind the last row
pub good-end : (edition count : ℕ) (form : ℕ → Form) (b es : List ℕ) (ps : List Param) (s i : ℕ) → length es ≤ s → i ≡ length b / 8 → Good edition count form (row_table b) (dues es s) ps i
unfolding Good dues owes Comes
good-end edition count form b es ps s i h e =
    rw (drop_of_length-le es {i = s} h) (shape-whole edition count (row_table b) i 0 (omega (arith, row-table-length b)) refl, omega (arith, row-table-length b, length-map (row_table b) row_of))

nothing-named : find [] ≡ empty
unfolding find empty
nothing-named = fun_ext λ x. refl

pub good-whole : (edition count : ℕ) (form : ℕ → Form) (rows : List (List ℕ)) (t : ℕ) → Good edition count form rows (wanted t ∷ []) [] 0
    → (shape edition count rows ≡ Ok tt) × (first_bad form empty (tree_of (map row_of rows)) ≡ None)
unfolding Good owes Comes shape tree_of tree_at
good-whole edition count form rows t g = (g.0, rw nothing-named at g.1.1)

-- no row from row i on is a future
abbrev pub Still : List (List ℕ) → ℕ → Type 0
Still rows i = first_not no_future (drop i rows) ≡ None

pub still-on : (rows : List (List ℕ)) (i j : ℕ) → j ≡ i + 1 → i < length rows → no_future (get_or rows i []) ≡ true → Still rows j → Still rows i
unfolding first_not
still-on rows i j e h q s =
    let z : j ≡ suc i = omega arith in
    let rest : Still rows (suc i) = subst (Still rows) z s in
    rw (drop-cons rows i [] h, q, rest)

pub still-end : (rows : List (List ℕ)) (i : ℕ) → length rows ≤ i → Still rows i
unfolding first_not
still-end rows i h = rw (drop_of_length-le rows {i = i} h)

module _ (count : ℕ) (form : ℕ → Form) (b : List ℕ) (Whole-good : Type 0) where
  -- what is good from a place on, where the check goes down there
  abbrev From : (es ns : List ℕ) → Place → Type 0
  From es ns p = Good 1 count form (row_table b) (wanted (ty_of (tree_at (term_rows b) p.i)) ∷ dues es p.s) (in_scope ns p.b) p.i

  module _ (es ns es' ns' hs' : List ℕ) (p q : Place) (before : From es ns p → Whole-good) (v : SeesDue form (row_table b) count es ns es' ns' hs' p q) where
    pub down-next : q.down ≡ true → From es' ns' q → Whole-good
    down-next d g = before (v.back (rw (due-down (term_rows b) es' q d) g))

    module _ (ns'' hs'' : List ℕ) (r : Place) (d : q.down ≡ false) (u : Rises form (row_table b) es' ns' ns'' hs'' q r) where
      risen : Good 1 count form (row_table b) (due_at (term_rows b) es' r) (in_scope ns'' r.b) r.i → Whole-good
      risen g = before (v.back (rw (due-up (term_rows b) es' q d) (u.back 1 count g)))

      pub rise-next : r.down ≡ true → From es' ns'' r → Whole-good
      rise-next e g = risen (rw (due-down (term_rows b) es' r e) g)

      pub rise-last : r.down ≡ false → length es' ≤ r.s → r.i ≡ length b / 8 → Whole-good
      rise-last e last end = risen (rw (due-up (term_rows b) es' r e) (good-end 1 count form b es' (in_scope ns'' r.b) r.s r.i last end))

-- the same of futures
module _ (count : ℕ) (form : ℕ → Form) (b es ns es' ns' hs' : List ℕ) (p q : Place) (h : p.i < length b / 8) (before : p.future ≡ false → Still (row_table b) p.i → Still (row_table b) 0)
    (v : SeesDue form (row_table b) count es ns es' ns' hs' p q) where
  pub still-down : q.future ≡ false → Still (row_table b) q.i → Still (row_table b) 0
  still-down f s = before (v.still f).0 (still-on (row_table b) p.i q.i v.next (omega (arith, row-table-length b)) (v.still f).1 s)

  pub still-rise : (ns'' hs'' : List ℕ) (r : Place) → Rises form (row_table b) es' ns' ns'' hs'' q r → r.future ≡ false → Still (row_table b) r.i → Still (row_table b) 0
  still-rise ns'' hs'' r u f s = still-down (sym u.still ∙ f) (subst (Still (row_table b)) u.row s)

-- what a check tells
pub shows-all : (types : List (List ℕ)) (rows : List ℕ) (t : ℕ) (future : Bool) → Good 1 (length types) (forms types) (row_table rows) (wanted t ∷ []) [] 0
    → (future ≡ false → Still (row_table rows) 0) → Shows 1 types rows (Ok future)
shows-all types rows t future g s =
    let w = good-whole _ _ (forms types) (row_table rows) t g in
    record { whole = w.0; typed = w.1; still = s }

-- an array of one value: every chain is empty
all_same : (n v i : ℕ) → i < n → get_or (replicate n v) i 0 ≡ v
all_same zero v i h = absurd (omega arith)
all_same (suc n) v zero h = refl
all_same (suc n) v (suc i) h = all_same n v i (omega arith)

pub unnamed : (n : ℕ) → n ≤ 65535 → NamesChained (replicate n 0) (replicate 256 n) (length {A = ℕ} (replicate n 0))
unnamed n few =
    let len : length {A = ℕ} (replicate n 0) ≡ n = length-replicate n 0 in
    record {
      low = omega arith;
      few = omega arith;
      chains = length-replicate 256 n;
      heads = λ h g. rw (all_same 256 n h g, drop_of_length-le {A = ℕ} (replicate n 0) {i = length {A = ℕ} (replicate n 0)} (omega arith)) (omega (arith, no-entry h));
      links = λ j g q. absurd (omega arith);
    }

pub nothing-due : (es : List ℕ) → dues es (length es) ≡ []
unfolding dues
nothing-due es = rw (drop_of_length-le es {i = length es} (omega arith))
