-- Rows with a reply's rows for each future of its number, and what is asked before a reply is taken. Assumes nothing.
use Rattle.std.specs.Prelude.{ℕ, ◌≤◌, ◌*◌, ◌/◌, ◌≡◌, Bool, true, cond, List, [], ◌∷◌, ◌++◌, eqb, leb, length, take, drop, replicate}
use Rattle.meaning.specs.Bytes.{◌∧ᵇ◌, writes, term_row}
use Rattle.meaning.specs.Types.{form_of}
use Rattle.meaning.specs.Terms.{ty_of, kind_no, word_no, shape, tree_of}
use Rattle.meaning.specs.Records.{state_of, version, first_not, sound}
use Rattle.meaning.specs.Entries.{require, refuse, refuse_shape, reply_kind, reply_bad, reply_verdict}
use Rattle.meaning.specs.Answers.{Verdict}
use Rattle.std.specs.Prelude.{Ok}
use Rattle.meaning.specs.declared.Refusal.TheVariants.{ReplyRow, ReplyKind, ReplyTyping, ReplyRoom}
use Rattle.layout.specs.declared.Limits.{Limits}
use Rattle.layout.specs.Rows.{board, row_table, term_rows}
use Rattle.sound.specs.Ready.{Ready}

-- a future of number k
unfoldable pub is_due : ℕ → List ℕ → Bool
is_due k r = eqb (kind_no r) 9 ∧ᵇ eqb (word_no r) k

-- "replaces every future of its number by its rows"
unfoldable pub settled : ℕ → List (List ℕ) → List (List ℕ) → List (List ℕ)
settled k vs [] = []
settled k vs (r ∷ rs) = cond (is_due k r) vs (r ∷ []) ++ settled k vs rs

-- the first n rows hold no future of number k
pub record Stands (k : ℕ) (rows : List (List ℕ)) (n : ℕ) : Type 0 where
  pub within : n ≤ length rows
  pub same : (vs : List (List ℕ)) → settled k vs rows ≡ take n rows ++ settled k vs (drop n rows)

-- refusals 13 to 16, on the types, the term's rows and the reply's rows
unfoldable pub rows_verdict : List (List ℕ) → List ℕ → List ℕ → ℕ → ℕ → ℕ → Verdict
rows_verdict types rows value k ty room =
    refuse_shape (shape version (length types) (row_table value)) ReplyRow
    (refuse (first_not reply_kind (row_table value)) ReplyKind
    (refuse (reply_bad (form_of types) ty (tree_of (term_rows value))) ReplyTyping
    (require (leb (length (settled k (row_table value) (row_table rows))) room) ReplyRoom (Ok tt))))

-- refusals 14 to 16 where the reply's rows are whole and well typed
unfoldable pub good_verdict : List ℕ → List ℕ → ℕ → ℕ → ℕ → Verdict
good_verdict rows value k ty room =
    refuse (first_not reply_kind (row_table value)) ReplyKind
    (require (eqb (ty_of (tree_of (term_rows value))) ty) (ReplyTyping 0)
    (require (leb (length (settled k (row_table value) (row_table rows))) room) ReplyRoom (Ok tt)))

-- a sound record and a reply that is accepted
pub record Taken (m : Limits) (kept answer : List ℕ) : Type 0 where
  pub ready : Ready m kept
  pub is-sound : sound (board m) kept ≡ true
  pub accepted : reply_verdict (board m) (state_of (board m) kept) answer ≡ Ok tt
  pub numbers : m.last ≤ 65535

-- Settling in place ----------------------------------------------------------------------------------------------

-- what the first `used` bytes of a row space become
abbrev pub settled_in : List ℕ → ℕ → List ℕ → ℕ → List (List ℕ)
settled_in space used value k = settled k (row_table value) (row_table (take used space))

pub record Fitting (space : List ℕ) (used : ℕ) (work value : List ℕ) (k : ℕ) : Type 0 where
  pub used-within : used ≤ length space
  pub used-rows : used ≡ 8 * (used / 8)
  pub value-rows : length value ≡ 8 * (length value / 8)
  pub space-fits : 8 * length (settled_in space used value k) ≤ length space
  pub work-fits : 8 * length (settled_in space used value k) ≤ length work

pub record Settles (space : List ℕ) (used : ℕ) (work value : List ℕ) (k n : ℕ) (space' work' : List ℕ) : Type 0 where
  pub rows : n ≡ length (settled_in space used value k)
  pub bytes : take (8 * n) space' ≡ writes term_row (settled_in space used value k)
  pub cleared : work' ≡ replicate (length work) 0
