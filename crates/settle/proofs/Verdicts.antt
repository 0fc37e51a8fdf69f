-- The lines of a reply's verdict, in order. Assumes nothing.
use Prim.Native.Nat.{ℕ, ◌+◌, ◌*◌, ◌-◌, ◌<◌, ◌≤◌}
use mathlib.Core.Path.{◌≡◌, refl, ap, sym, ◌∙◌}
use mathlib.Core.Bool.{Bool, true, false}
use mathlib.Core.List.{List, [], ◌∷◌, map}
use Rattle.std.specs.Prelude.{None, Some}
use native.Mathlib.Omega.{arith}
use borrow.Author.Tests.{eq-eqb, ne_eqb, le-leb, lt-leb, eqb-true}
use lib.Dec.{eqb, leb}
use lib.ListN.{length, get_or, take, drop, length-drop}
use lib.Seq.{take_all}
use Rattle.meaning.specs.Bytes.{◌∧ᵇ◌, within, number, width, read, reply_head, Limits}
use Rattle.meaning.specs.Types.{Form, form_of, empty}
use Rattle.meaning.specs.Terms.{tree_of, row_of, shape, size, flat, raw}
use Rattle.meaning.specs.Typing.{stop, first_bad}
use Rattle.meaning.specs.Steps.{settle}
use Rattle.meaning.specs.Records.{State, version, first_not, listed}
use Rattle.meaning.specs.Entries.{require, refuse, refuse_shape, reply_no, reply_number, reply_count, reply_rows, reply_tree, reply_head_ok, reply_kind, reply_bad, answer_verdict, reply_verdict}
use Rattle.meaning.specs.Terms.{Shape}
use Rattle.meaning.specs.Answers.{Verdict}
use Rattle.std.specs.Prelude.{Ok, Err}
use Rattle.meaning.specs.declared.Refusal.TheVariants.{Header, NotOpen, ReplyRow, ReplyKind, ReplyTyping, ReplyRoom}
use Rattle.meaning.proofs.Trees.Tests.{left, right, within-if}
use Rattle.meaning.proofs.Entries.Replying.{reply-tree}
use Rattle.layout.specs.Rows.{row_table, term_rows}
use Rattle.layout.proofs.Laws.{read-front}
use Rattle.layout.proofs.Tables.{row-table-cut}
use Rattle.sound.proofs.Laws.{fails, passes}
use Rattle.sound.proofs.Parts.{first_type}
use Rattle.settle.specs.Settled.{settled, good_verdict, rows_verdict}
use Rattle.settle.proofs.Trees.{size-settled}

-- The header -----------------------------------------------------------------------------------------------------

module _ (s : List ℕ) where
  reply-numbers : read reply_head s ≡ number 4 (drop 0 s) ∷ number 2 (drop 4 s) ∷ number 2 (drop 6 s) ∷ []
  unfolding read
  reply-numbers = read-front 4 (2 ∷ 2 ∷ []) 0 4 s refl ∙ rw (read-front 2 (2 ∷ []) 4 6 s refl)

  pub number_at : reply_number s ≡ number 4 (drop 0 s)
  number_at = ap (λ (l : List ℕ). get_or l 0 0) reply-numbers

  pub count_at : reply_count s ≡ number 2 (drop 4 s)
  count_at = ap (λ (l : List ℕ). get_or l 1 0) reply-numbers

  pub zeros-at : reply_no 2 s ≡ number 2 (drop 6 s)
  zeros-at = ap (λ (l : List ℕ). get_or l 2 0) reply-numbers

module _ (m : Limits) (s : List ℕ) where
  pub too_short : length s < 8 → reply_head_ok m s ≡ false
  unfolding reply_head_ok width
  too_short h = fails _ _ (lt-leb 8 (length s) h)

  module _ (h : 8 ≤ length s) (n : ℕ) (e : n ≡ number 2 (drop 4 s)) where
    from-count : reply_head_ok m s ≡ (within 1 m.reply_rows n ∧ᵇ eqb (reply_no 2 s) 0 ∧ᵇ eqb (length s) (8 + 8 * n))
    unfolding reply_head_ok width
    from-count = let q : reply_count s ≡ n = count_at s ∙ sym e in rw q (passes _ _ (le-leb 8 (length s) h))

    pub no_row : n ≡ 0 → reply_head_ok m s ≡ false
    unfolding within ◌∧ᵇ◌
    no_row z = from-count ∙ rw z refl

    module _ (z : n ≡ 0 → ⊥) where
      pub too_many : m.reply_rows < n → reply_head_ok m s ≡ false
      unfolding within ◌∧ᵇ◌
      too_many k = from-count ∙ rw (le-leb 1 n (omega arith), lt-leb n m.reply_rows k) refl

      module _ (k : n ≤ m.reply_rows) (x : ℕ) (xe : x ≡ number 2 (drop 6 s)) where
        from-zeros : reply_head_ok m s ≡ (eqb x 0 ∧ᵇ eqb (length s) (8 + 8 * n))
        unfolding within ◌∧ᵇ◌
        from-zeros = from-count ∙ rw (le-leb 1 n (omega arith), le-leb n m.reply_rows k, zeros-at s, ← xe) refl

        pub not-zero : (x ≡ 0 → ⊥) → reply_head_ok m s ≡ false
        not-zero y = from-zeros ∙ fails _ _ (ne_eqb x 0 y)

        pub by_length : x ≡ 0 → eqb (length s) (8 + 8 * n) ≡ reply_head_ok m s
        by_length y = sym (from-zeros ∙ passes _ _ (eq-eqb x 0 y))

-- what a header that passed says
pub record Headed (m : Limits) (s : List ℕ) : Type 0 where
  pub some-row : 1 ≤ reply_count s
  pub most : reply_count s ≤ m.reply_rows
  pub long : length s ≡ 8 + 8 * reply_count s

pub headed : (m : Limits) (s : List ℕ) → reply_head_ok m s ≡ true → Headed m s
unfolding reply_head_ok width
headed m s e =
    let a = right _ _ e in
    let w = within-if 1 m.reply_rows (reply_count s) (left _ _ a) in
    record { some-row = w.0; most = w.1; long = eqb-true _ _ (right _ _ (right _ _ a)) }

-- the reply's rows are the table behind its header
pub value-length : (m : Limits) (s : List ℕ) → Headed m s → length (take (length s - 8) (drop 8 s)) ≡ 8 * reply_count s
value-length m s h = ap length (take_all (length s - 8) (drop 8 s) (rw length-drop (omega arith))) ∙ length-drop 8 s ∙ omega (arith, h.long)

pub value-rows : (m : Limits) (s : List ℕ) → Headed m s → row_table (take (length s - 8) (drop 8 s)) ≡ reply_rows s
unfolding reply_rows width
value-rows m s h = row-table-cut s 8 (reply_count s) (length s - 8) (omega (arith, h.long)) (omega (arith, h.long))

-- The listed type ------------------------------------------------------------------------------------------------

module _ (form : ℕ → Form) (rows : List ℕ) (h : 8 ≤ length rows) (t : ℕ) (e : t ≡ number 2 (drop 2 rows)) (ty : ℕ) where
  pub another-type : (t ≡ ty → ⊥) → Some 0 ≡ reply_bad form ty (tree_of (term_rows rows))
  unfolding reply_bad stop
  another-type n = rw (first_type rows h t e, ne_eqb t ty n) refl

  pub same-type : t ≡ ty → first_bad form empty (tree_of (term_rows rows)) ≡ reply_bad form ty (tree_of (term_rows rows))
  unfolding reply_bad stop
  same-type n = rw (first_type rows h t e, eq-eqb t ty n) refl

-- Rows that are good ----------------------------------------------------------------------------------------------

-- row 0's type alone
stop-line : (b : Bool) (v : Verdict) → require b (ReplyTyping 0) v ≡ refuse (stop b None) ReplyTyping v
unfolding require refuse stop
stop-line true v = refl
stop-line false v = refl

pub good-rows : (types : List (List ℕ)) (rows value : List ℕ) (k ty room : ℕ) → shape 1 (length types) (row_table value) ≡ Ok tt → first_bad (form_of types) empty (tree_of (term_rows value)) ≡ None
    → good_verdict rows value k ty room ≡ rows_verdict types rows value k ty room
unfolding rows_verdict good_verdict refuse_shape reply_bad
good-rows types rows value k ty room w g =
    rw (w, g) (ap (refuse (first_not reply_kind (row_table value)) ReplyKind) (stop-line _ _))

-- The verdict ----------------------------------------------------------------------------------------------------

-- refusals 13 to 16 of a reply's rows over a table of types, where the term would have n rows
module _ (room ty : ℕ) (ts vs : List (List ℕ)) where
  unfoldable lines : ℕ → Verdict
  lines n =
      refuse_shape (shape version (length ts) vs) ReplyRow
      (refuse (first_not reply_kind vs) ReplyKind
      (refuse (reply_bad (form_of ts) ty (tree_of (map row_of vs))) ReplyTyping
      (require (leb n room) ReplyRoom (Ok tt))))

  -- n is looked at only behind the shape's test
  same_lines : (n j : ℕ) → (shape version (length ts) vs ≡ Ok tt → n ≡ j) → lines n ≡ lines j
  unfolding lines refuse_shape
  same_lines n j f = on (shape version (length ts) vs) f
    where
      behind : ℕ → Verdict
      behind x =
          refuse (first_not reply_kind vs) ReplyKind
          (refuse (reply_bad (form_of ts) ty (tree_of (map row_of vs))) ReplyTyping (require (leb x room) ReplyRoom (Ok tt)))

      on : (w : Shape) → (w ≡ Ok tt → n ≡ j) → refuse_shape w ReplyRow (behind n) ≡ refuse_shape w ReplyRow (behind j)
      on (Ok tt) g = ap behind (g refl)
      on (Err (x, i)) g = refl

module _ (m : Limits) (s : State) (answer : List ℕ) where
  pub bad-header : reply_head_ok m answer ≡ false → Err Header ≡ reply_verdict m s answer
  unfolding reply_verdict require
  bad-header e = rw e refl

  module _ (h : reply_head_ok m answer ≡ true) (k : ℕ) (ke : k ≡ reply_number answer) where
    pub unlisted : None ≡ listed s.calls k → Err NotOpen ≡ reply_verdict m s answer
    unfolding reply_verdict require answer_verdict
    unlisted e = let le : listed s.calls (reply_number answer) ≡ None = sym (e ∙ ap (listed s.calls) ke) in rw (h, le) refl

    by_lines : (ty : ℕ) → Some ty ≡ listed s.calls k → lines m.rows ty s.types (reply_rows answer) (size (settle (reply_number answer) (reply_tree answer) s.tree)) ≡ reply_verdict m s answer
    unfolding lines reply_verdict require answer_verdict reply_tree
    by_lines ty e = let le : listed s.calls (reply_number answer) ≡ Some ty = sym (e ∙ ap (listed s.calls) ke) in rw (h, le) refl

    -- the parts that are lent are the state's
    module _ (types : List (List ℕ)) (rows value : List ℕ) (ty : ℕ) (te : types ≡ s.types) (re : row_table rows ≡ map raw (flat s.tree)) (ve : row_table value ≡ reply_rows answer) where
      from_parts : rows_verdict types rows value k ty m.rows ≡ lines m.rows ty s.types (reply_rows answer) (length (settled k (reply_rows answer) (map raw (flat s.tree))))
      unfolding rows_verdict lines
      from_parts = rw (te, re, ve) refl

      pub by_rows : Some ty ≡ listed s.calls k → rows_verdict types rows value k ty m.rows ≡ reply_verdict m s answer
      by_rows e =
          from_parts
          ∙ same_lines m.rows ty s.types (reply_rows answer) _ _
          (λ w. sym (ap (λ (x : ℕ). size (settle x (reply_tree answer) s.tree)) (sym ke)
          ∙ size-settled k (reply_tree answer) s.tree
          ∙ ap (λ (x : List (List ℕ)). length (settled k x (map raw (flat s.tree)))) (reply-tree (length s.types) answer w).rows))
          ∙ by_lines ty e
