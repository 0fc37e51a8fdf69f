-- Load, run and reply in the paper's words: a file of legal form is accepted exactly if by the paper's rules, with the house's additions, every
-- row has the type that it states; a reply exactly if by them it has its call's type; a good state's term has the program's. Assumes nothing.
use Prim.Native.Nat.{ℕ, ◌≤◌, ◌<◌}
use mathlib.Core.Path.{◌≡◌}
use mathlib.Core.Bool.{true}
use mathlib.Core.Logic.{◌↔◌}
use mathlib.Core.List.{List}
use Rattle.std.specs.Prelude.{None, Some}
use lib.ListN.{length}
use Rattle.meaning.specs.Bytes.{Limits, record_bytes, type_row}
use Rattle.meaning.specs.Types.{form_of, ground, bad_type, empty}
use Rattle.meaning.specs.Terms.{Head, code, n_of, raw, Tree, ty_of, flat, size}
use Rattle.meaning.specs.Typing.{Typed}
use Rattle.meaning.specs.Paper.{Ty, no_arg, type_of, Has, row}
use Rattle.meaning.specs.Steps.{value, settle}
use Rattle.meaning.specs.Records.{State, Entry, version, listed}
use Rattle.meaning.specs.Entries.{load, LegalFile, file_types, file_tree, LegalReply, reply_number, reply_tree, reply_verdict}
use Rattle.std.specs.Prelude.{Ok}
use Rattle.meaning.proofs.Trees.EachRow.{Every, every-rows, rows-every, all-rows-map}
use Rattle.meaning.proofs.Bytes.Layouts.{Wide, fits-length, reads-wide}
use Rattle.meaning.proofs.Bytes.RowTables.{legal, in-range}
use Rattle.meaning.proofs.Bytes.TypeTables.{promised}
use Rattle.meaning.proofs.Bytes.Records.{Good, ground-stands}
use Rattle.meaning.proofs.Bytes.Files.{file-tree, file-type-total}
use Rattle.meaning.proofs.Typing.TypeTrees.{one-of-table}
use Rattle.meaning.proofs.Typing.PaperRules.{InTable, ty_below, agrees-empty, typed-has, has-typed}
use Rattle.meaning.proofs.Entries.OpenList.{each_more, listed-fact}
use Rattle.meaning.proofs.Entries.Loading.{accepts}
use Rattle.meaning.proofs.Entries.Replying.{reply-tree, takes}

legal-in : (count : ℕ) (h : Head) (u : ℕ) → legal count h u → InTable count h u
unfolding raw code n_of
legal-in count h u e =
    let g = in-range version count (raw (record { head = h; type = u })) e in
    (g.type_below, λ m q. rw q at g.n_from)

every_in : (count : ℕ) (t : Tree) → Every (legal count) t → Every (InTable count) t
every_in count t d = rows-every _ t (all-rows-map (legal count) (InTable count) (flat t) (legal-in count) (every-rows _ t d))

-- over a table that passes, the rules of the rows hold exactly if the paper's do
module _ (rows : List (List ℕ)) (wide : Wide 19 rows) (pass : bad_type version rows ≡ None) (t : Tree) (in_table : Every (legal (length rows)) t) where
  pub rows-have : Typed (form_of rows) empty t → Has (type_of (form_of rows)) no_arg t (type_of (form_of rows) (ty_of t))
  rows-have k = typed-has (form_of rows) (length rows) (promised rows pass) empty no_arg t (agrees-empty (type_of (form_of rows)) (length rows)) (every_in (length rows) t in_table) k

  pub have-rows : (T : Ty) → Has (type_of (form_of rows)) no_arg t T → Typed (form_of rows) empty t
  have-rows T h =
      (has-typed (form_of rows) (length rows) (promised rows pass) (one-of-table rows wide pass) h empty (agrees-empty (type_of (form_of rows)) (length rows)) (every_in (length rows) t in_table)).0

-- the type that the rules give is the one that the row states
pub states : {q : ℕ → Ty} {t : Tree} {T : Ty} → Has q no_arg t T → q (ty_of t) ≡ T
unfolding ty_of
states (row r e) = e

-- "A program of legal form is accepted exactly if it is well typed"
pub accepts-paper : (m : Limits) (file kept : List ℕ) → length kept ≡ record_bytes m → LegalFile m file
    → ((load m file kept).verdict ≡ Ok tt) ↔ ((T : Ty) × Has (type_of (form_of (file_types file))) no_arg (file_tree file) T)
unfolding file_types
accepts-paper m file kept n l = (
  (λ e. (type_of (form_of (file_types file)) (ty_of (file_tree file)), rows-have (file_types file) wide pass (file_tree file) rows ((accepts m file kept n).0 e).1)),
  (λ p. (accepts m file kept n).1 (l, have-rows (file_types file) wide pass (file_tree file) rows p.0 p.1)),
)
  where
    wide : Wide 19 (file_types file)
    wide = reads-wide type_row _ _

    pass : bad_type version (file_types file) ≡ None
    pass = rw l.edition at l.types-good

    rows : Every (legal (length (file_types file))) (file_tree file)
    rows = rw (file-type-total m file l) (file-tree m file l).2

wide_rows : (m : Limits) (s : State) → Good m s → Wide 19 s.types
wide_rows m s g = each_more _ _ s.types (λ r f. fits-length type_row r f) g.types_wide

-- "exactly if its number is open, it is a value of that call's type and it fits"
pub record AnswersPaper (m : Limits) (s : State) (answer : List ℕ) : Type 0 where
  pub type : ℕ
  pub open-call : listed s.calls (reply_number answer) ≡ Some type
  pub of-type : Has (type_of (form_of s.types)) no_arg (reply_tree answer) (type_of (form_of s.types) type)
  pub a-value : value (reply_tree answer) ≡ true
  pub fits : size (settle (reply_number answer) (reply_tree answer) s.tree) ≤ m.rows

module _ (m : Limits) (s : State) (answer : List ℕ) (good : Good m s) (legal-form : LegalReply m s answer) where
  rows-legal : Every (legal (length s.types)) (reply_tree answer)
  rows-legal = (reply-tree (length s.types) answer legal-form.one-tree).legal-rows

  -- the type of an open call stands in the table, and so does the reply's
  listed_below : (ty : ℕ) → listed s.calls (reply_number answer) ≡ Some ty → ty < length s.types
  listed_below ty e =
      ground-stands s.types good.types_pass ty
      (listed-fact (λ (x : Entry). ground (form_of s.types) x.type ≡ true) s.calls (reply_number answer) ty good.calls_ground e)

  reply-below : ty_of (reply_tree answer) < length s.types
  reply-below = root_below (reply_tree answer) rows-legal
    where
      root_below : (t : Tree) → Every (legal (length s.types)) t → ty_of t < length s.types
      root_below t d = ty_below (length s.types) t (every_in (length s.types) t d)

  pub takes-paper : (reply_verdict m s answer ≡ Ok tt) ↔ AnswersPaper m s answer
  takes-paper = (
    (λ e.
        let a = (takes m s answer good legal-form).0 e in
        record {
          type = a.type;
          open-call = a.open-call;
          of-type = rw a.of-type at (rows-have s.types (wide_rows m s good) good.types_pass (reply_tree answer) rows-legal a.typed);
          a-value = a.a-value;
          fits = a.fits;
        }),
    (λ a.
        (takes m s answer good legal-form).1 (record {
          type = a.type;
          open-call = a.open-call;
          typed = have-rows s.types (wide_rows m s good) good.types_pass (reply_tree answer) rows-legal _ a.of-type;
          a-value = a.a-value;
          of-type = one-of-table s.types (wide_rows m s good) good.types_pass _ _ reply-below (listed_below a.type a.open-call) (states a.of-type);
          fits = a.fits;
        })),
  )

-- "the term keeps the program's type"
pub good-has : (m : Limits) (s : State) → Good m s → Has (type_of (form_of s.types)) no_arg s.tree (type_of (form_of s.types) s.program)
good-has m s g = rw g.program at (rows-have s.types (wide_rows m s g) g.types_pass s.tree g.legal_rows g.typed)
