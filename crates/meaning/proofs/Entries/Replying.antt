-- Reply: on a good state a reply of legal form is accepted exactly if its number is open, it is a value of that call's type and it fits.
-- Assumes nothing.
use Prim.Native.Nat.{ℕ, suc, ◌≤◌}
use mathlib.Core.Path.{◌≡◌, refl, ap, sym, ◌∙◌}
use mathlib.Core.Bool.{Bool, true, false, cond}
use mathlib.Core.Logic.{◌↔◌}
use mathlib.Core.List.{List, [], ◌∷◌, map}
use Rattle.std.specs.Prelude.{Option, None, Some}
use borrow.Author.Tests.{eqb-true, eq-eqb}
use lib.ListN.{length, drop}
use Rattle.meaning.specs.Bytes.{width, term_row, reply_head, Limits}
use Rattle.meaning.specs.Types.{Form, form_of, ground, empty}
use Rattle.meaning.specs.Terms.{Tree, ty_of, Row, flat, size, raw, shape}
use Rattle.meaning.specs.Typing.{Typed, stop}
use Rattle.meaning.specs.Steps.{value, settle}
use Rattle.meaning.specs.Records.{State, Entry, version, first_not, listed}
use Rattle.meaning.specs.Entries.{LegalReply, reply_number, reply_count, reply_rows, reply_tree, reply_kind, reply_bad, reply_verdict}
use Rattle.std.specs.Prelude.{Ok}
use Rattle.meaning.proofs.Trees.Tests.{none-some}
use Rattle.meaning.proofs.Trees.EachRow.{Every, AllRows, every-rows, rows-every}
use Rattle.meaning.proofs.Bytes.Layouts.{reads-wide}
use Rattle.meaning.proofs.Bytes.RowTables.{legal, shape-whole}
use Rattle.meaning.proofs.Typing.FirstBad.{typed-if, typed-of}
use Rattle.meaning.proofs.Bytes.Records.{Good}
use Rattle.meaning.proofs.Entries.InOrder.{listed_type, answer_lines, line-holds, lines-done, AllAsk, first-accepted, header-told, header_of, answer-in-order, first_one, answer-order-one}
use Rattle.meaning.proofs.Entries.OpenList.{listed-fact}
use Rattle.meaning.proofs.Typing.GroundValues.{Plain, value-plain, plain_value}

-- a test of each row of a tree, as its raw rows show it
none-later : {A : Type 0} (p : A → Bool) (x : A) (xs : List A) → first_not p (x ∷ xs) ≡ None → (p x ≡ true) × (first_not p xs ≡ None)
unfolding first_not
none-later p x xs e = go (p x) (first_not p xs) e
  where
    go : (b : Bool) (o : Option ℕ) → cond {A = Option ℕ} b (elim o as (λ _. Option ℕ) [ None ↦ None | Some i ↦ Some (suc i) ]) (Some 0) ≡ None → (b ≡ true) × (o ≡ None)
    go true None e = (refl, refl)
    go true (Some i) e = (refl, cc)
    go false o e = (cc, cc)

pub tested-rows : (p : List ℕ → Bool) (l : List Row) → first_not p (map raw l) ≡ None → AllRows (λ h u. p (raw (record { head = h; type = u })) ≡ true) l
unfolding AllRows
tested-rows p [] e = tt
tested-rows p (r ∷ l) e = let (a, b) = none-later p (raw r) (map raw l) e in (a, tested-rows p l b)

pub rows-tested : (p : List ℕ → Bool) (l : List Row) → AllRows (λ h u. p (raw (record { head = h; type = u })) ≡ true) l → first_not p (map raw l) ≡ None
unfolding AllRows first_not
rows-tested p [] d = refl
rows-tested p (r ∷ l) (a, d) = rw (a, rows-tested p l d) refl

-- the rows of a reply are those of one tree, each legal
pub record OneTree (count : ℕ) (answer : List ℕ) : Type 0 where
  pub rows : map raw (flat (reply_tree answer)) ≡ reply_rows answer
  pub legal-rows : Every (legal count) (reply_tree answer)

pub reply-tree : (count : ℕ) (answer : List ℕ) → shape version count (reply_rows answer) ≡ Ok tt → OneTree count answer
unfolding reply_tree reply_rows
reply-tree count answer e =
    let (a, _, c) = shape-whole count (reply_rows answer) e (reads-wide term_row (reply_count answer) (drop (width reply_head) answer)) in
    record { rows = a; legal-rows = c }

kinds-plain : (count : ℕ) (answer : List ℕ) → OneTree count answer → first_not reply_kind (reply_rows answer) ≡ None → Every Plain (reply_tree answer)
unfolding reply_kind raw
kinds-plain count answer o e = rows-every Plain (reply_tree answer) (tested-rows reply_kind (flat (reply_tree answer)) (rw o.rows e))

plain-kinds : (count : ℕ) (answer : List ℕ) → OneTree count answer → Every Plain (reply_tree answer) → first_not reply_kind (reply_rows answer) ≡ None
unfolding reply_kind raw
plain-kinds count answer o d = rw (← o.rows) (rows-tested reply_kind (flat (reply_tree answer)) (every-rows Plain (reply_tree answer) d))

-- when a reply is taken
pub record Answers (m : Limits) (s : State) (answer : List ℕ) : Type 0 where
  pub type : ℕ
  pub open-call : listed s.calls (reply_number answer) ≡ Some type
  pub typed : Typed (form_of s.types) empty (reply_tree answer)
  pub a-value : value (reply_tree answer) ≡ true
  pub of-type : ty_of (reply_tree answer) ≡ type
  pub fits : size (settle (reply_number answer) (reply_tree answer) s.tree) ≤ m.rows

stopped : (b : Bool) (o : Option ℕ) → stop b o ≡ None → (b ≡ true) × (o ≡ None)
unfolding stop
stopped true o e = (refl, e)
stopped false o e = (cc, cc)

-- an accepted reply is of legal form and answers an open call
pub accepted-reply : (m : Limits) (s : State) (answer : List ℕ) → reply_verdict m s answer ≡ Ok tt → LegalReply m s answer × Answers m s answer
unfolding AllAsk reply_bad
accepted-reply m s answer e =
    let (a, ((ty, q), (b, (c, (d, (f, _)))))) = first-accepted (answer_lines m s answer) _ (answer-in-order m s answer) e in
    let (g, h) = stopped _ _ d in
    let o = reply-tree (length s.types) answer b in (
      record { header = header_of m answer a; one-tree = b },
      record {
        type = ty;
        open-call = q;
        typed = typed-if (form_of s.types) empty (reply_tree answer) h;
        a-value = plain_value (reply_tree answer) (kinds-plain (length s.types) answer o c);
        of-type = eqb-true _ _ g ∙ ap listed_type q;
        fits = f;
      },
    )

-- the reply's rows are of those kinds: its type is ground
pub plain-reply : (m : Limits) (s : State) (answer : List ℕ) → Good m s → Answers m s answer → Every Plain (reply_tree answer)
plain-reply m s answer g a =
    value-plain (form_of s.types) a.type (reply_tree answer)
    (listed-fact (λ (x : Entry). ground (form_of s.types) x.type ≡ true) s.calls (reply_number answer) a.type g.calls_ground a.open-call) a.a-value a.typed a.of-type

replied-well : (form : ℕ → Form) (o : Option ℕ) (ty : ℕ) (v : Tree) → o ≡ Some ty → ty_of v ≡ ty → Typed form empty v → reply_bad form (listed_type o) v ≡ None
unfolding reply_bad stop
replied-well form o ty v e q t = rw (e, eq-eqb (ty_of v) ty q) (typed-of form empty v t)

-- "On a sound record a reply of legal form is accepted exactly if its number is open, it is a value of that call's type and it fits"
pub takes : (m : Limits) (s : State) (answer : List ℕ) → Good m s → LegalReply m s answer → (reply_verdict m s answer ≡ Ok tt) ↔ Answers m s answer
takes m s answer g l = (
  (λ e. (accepted-reply m s answer e).1),
  (λ a.
      let o = reply-tree (length s.types) answer l.one-tree in
      first_one (answer_lines m s answer) _ _ (answer-order-one m s answer) (answer-in-order m s answer)
      (line-holds _ _ _ (header-told m answer l.header)
      (line-holds _ _ _ (a.type, a.open-call)
      (line-holds _ _ _ l.one-tree
      (line-holds _ _ _ (plain-kinds (length s.types) answer o (plain-reply m s answer g a))
      (line-holds _ _ _ (replied-well (form_of s.types) (listed s.calls (reply_number answer)) a.type (reply_tree answer) a.open-call a.of-type a.typed)
      (line-holds _ _ _ a.fits lines-done))))))),
)

-- "no reply is taken for a number that is not open"
pub not-open : (m : Limits) (s : State) (answer : List ℕ) → listed s.calls (reply_number answer) ≡ None → reply_verdict m s answer ≡ Ok tt → ⊥
not-open m s answer q e = let a = (accepted-reply m s answer e).1 in none-some a.type (sym q ∙ a.open-call)
