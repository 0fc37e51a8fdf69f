-- Program files, replies and sent calls against their bytes, and that an accepted load makes a good state. Assumes nothing.
use Prim.Native.Nat.{ℕ, ◌+◌, ◌*◌, ◌≤◌, ◌<◌}
use mathlib.Core.Path.{◌≡◌, refl, ap, sym, ◌∙◌}
use mathlib.Core.Bool.{Bool, true, false, not, false≢true}
use mathlib.Core.List.{List, [], ◌∷◌, ◌++◌, map, append_assoc, append-nil}
use Rattle.std.specs.Prelude.{None}
use native.Mathlib.Omega.{arith}
use lib.Dec.{eqb}
use lib.ListN.{length, take, drop, get_or, length-append, length-drop, length-map, take-append-drop}
use lib.Seq.{drop-drop, drop_at, take_all}
use borrow.Author.Tests.{eq-eqb, eqb-true, le-leb}
use Rattle.meaning.specs.Bytes.{Layout, width, read, write, reads, writes, file_head, type_row, term_row, reply_head, call_head, Limits, record_bytes}
use Rattle.meaning.specs.Types.{form_of, bad_type, empty}
use Rattle.meaning.specs.Terms.{Tree, Row, flat, size, code, word_of, raw, row_of}
use Rattle.meaning.specs.Typing.{Typed}
use Rattle.meaning.specs.Steps.{Call}
use Rattle.meaning.specs.Records.{version, rises, listed}
use Rattle.meaning.specs.Entries.{reply_tree, LegalFile, file_no, file_type_count, file_row_count, file_types, file_rows, file_tree, no_future, load_verdict, loaded_state, reply_no, reply_number, reply_count, reply_rows, reply_head_ok, letter_of}
use Rattle.meaning.specs.declared.Refusal.TheVariants.{Typing}
use Rattle.std.specs.Prelude.{Ok}
use Rattle.meaning.proofs.Trees.Tests.{none-some, both, left, right, eq-same, within_of}
use Rattle.meaning.proofs.Trees.Parse.{length-flat, tree-of-flat}
use Rattle.meaning.proofs.Typing.FirstBad.{typed-if, typed-of}
use Rattle.meaning.proofs.Trees.EachRow.{Every, AllRows, Due, Listed, every-rows, rows-every}
use Rattle.meaning.proofs.Bytes.Layouts.{AllBytes, joins, bytes-append, bytes_drop, pow256, Fits, Each, AllFit, length-read, length-write, bytes-write, read-write, write_read, fields-from, length-reads, reads_fit, length-writes, bytes-writes, reads-writes, writes_reads, reads-wide}
use Rattle.meaning.proofs.Bytes.RowTables.{legal, future-code, rows-raw, shape-whole, whole_of}
use Rattle.meaning.proofs.Bytes.Records.{Good, none-fails, all_pass, rows_fit, size-some}
use Rattle.meaning.proofs.Entries.Loading.{accepted-legal, legal-verdict, refuse-pass}

-- Program files --------------------------------------------------------------------------------------------------

-- `TCA`, version, a zero byte, the counts
unfoldable pub file_numbers : ℕ → ℕ → List ℕ
file_numbers n k = 84 ∷ 67 ∷ 65 ∷ version ∷ 0 ∷ n ∷ k ∷ []

unfoldable pub file_of : List (List ℕ) → List (List ℕ) → List ℕ
file_of ts rs = write file_head (file_numbers (length ts) (length rs)) ++ (writes type_row ts ++ writes term_row rs)

-- a file of the right header, as long as its counts need
pub record Headed (file : List ℕ) : Type 0 where
  pub mark : take 3 (read file_head file) ≡ 84 ∷ 67 ∷ 65 ∷ []
  pub edition : file_no 3 file ≡ version
  pub zero-byte : file_no 4 file ≡ 0
  pub size : length file ≡ width file_head + width type_row * file_type_count file + width term_row * file_row_count file

pub legal-headed : (m : Limits) (file : List ℕ) → LegalFile m file → Headed file
legal-headed m file l = record { mark = l.mark; edition = l.edition; zero-byte = l.zero-byte; size = l.size }

-- rows that a file can hold
pub record FileFits (ts rs : List (List ℕ)) : Type 0 where
  pub types : AllFit type_row ts
  pub rows : AllFit term_row rs
  pub types_many : length ts < 65536
  pub rows_many : length rs < 65536

pub file-bytes : (ts rs : List (List ℕ)) → AllBytes (file_of ts rs)
unfolding file_of
file-bytes ts rs =
    bytes-append (write file_head (file_numbers (length ts) (length rs))) (writes type_row ts ++ writes term_row rs) (bytes-write file_head _)
    (bytes-append (writes type_row ts) (writes term_row rs) (bytes-writes type_row ts) (bytes-writes term_row rs))

module _ (ts rs : List (List ℕ)) (fit : FileFits ts rs) where
  file-head : read file_head (file_of ts rs) ≡ file_numbers (length ts) (length rs)
  unfolding file_of file_numbers Fits pow256
  file-head =
      read-write file_head (file_numbers (length ts) (length rs)) _
      (omega arith, (omega arith, (omega arith, (omega arith, (omega arith, (omega arith, (omega arith, tt)))))))

  file-type-count : file_type_count (file_of ts rs) ≡ length ts
  unfolding file_numbers
  file-type-count = ap (λ (l : List ℕ). get_or l 5 0) file-head

  file-row-count : file_row_count (file_of ts rs) ≡ length rs
  unfolding file_numbers
  file-row-count = ap (λ (l : List ℕ). get_or l 6 0) file-head

  file-behind : drop (width file_head) (file_of ts rs) ≡ writes type_row ts ++ writes term_row rs
  unfolding file_of
  file-behind = drop_at (write file_head (file_numbers (length ts) (length rs))) _ (width file_head) (length-write file_head _)

  -- what is written is read
  pub file-types : file_types (file_of ts rs) ≡ ts
  unfolding file_types
  file-types = rw (file-type-count, file-behind) (reads-writes type_row ts (writes term_row rs) fit.types)

  pub file-rows : file_rows (file_of ts rs) ≡ rs
  unfolding file_rows
  file-rows =
      rw (file-row-count, file-type-count, ← (drop-drop (width type_row * length ts) (width file_head) (file_of ts rs)), file-behind, drop_at (writes type_row ts) (writes term_row rs) _ (length-writes type_row ts), ← (append-nil (writes term_row rs)))
      (reads-writes term_row rs [] fit.rows)

  pub file-headed : Headed (file_of ts rs)
  unfolding file_of file_numbers
  file-headed =
      record {
        mark = ap (take 3) file-head;
        edition = ap (λ (l : List ℕ). get_or l 3 0) file-head;
        zero-byte = ap (λ (l : List ℕ). get_or l 4 0) file-head;
        size = rw (file-type-count, file-row-count, length-append, length-append, length-write, length-writes type_row ts, length-writes term_row rs) (omega arith);
      }

-- what is read is written
module _ (file : List ℕ) (h : Headed file) (bytes : AllBytes file) where
  head-back : write file_head (file_numbers (length (file_types file)) (length (file_rows file))) ≡ take (width file_head) file
  unfolding file_numbers file_types file_rows
  head-back =
      rw (length-reads type_row (file_type_count file) (drop (width file_head) file), length-reads term_row (file_row_count file) (drop (width file_head + width type_row * file_type_count file) file))
      (ap (write file_head) (numbers (read file_head file) (length-read file_head file) h.mark h.edition h.zero-byte) ∙ write_read file_head file bytes (omega (arith, h.size)))
    where
      numbers : (ns : List ℕ) → length ns ≡ 7 → take 3 ns ≡ 84 ∷ 67 ∷ 65 ∷ [] → get_or ns 3 0 ≡ version → get_or ns 4 0 ≡ 0
          → 84 ∷ 67 ∷ 65 ∷ version ∷ 0 ∷ get_or ns 5 0 ∷ get_or ns 6 0 ∷ [] ≡ ns
      numbers ns l e v z =
          let f : drop 3 ns ≡ version ∷ 0 ∷ get_or ns 5 0 ∷ get_or ns 6 0 ∷ [] = rw (v, z) at (fields-from ns 3 4 l) in
          rw (e, f) at (take-append-drop 3 ns)

  types-back : writes type_row (file_types file) ≡ take (width type_row * file_type_count file) (drop (width file_head) file)
  unfolding file_types
  types-back = writes_reads type_row (file_type_count file) (drop (width file_head) file) (bytes_drop (width file_head) file bytes) (omega (arith, h.size, length-drop (width file_head) file))

  rows_back : writes term_row (file_rows file) ≡ drop (width file_head + width type_row * file_type_count file) file
  unfolding file_rows
  rows_back =
      let e = length-drop (width file_head + width type_row * file_type_count file) file in
      writes_reads term_row (file_row_count file) (drop (width file_head + width type_row * file_type_count file) file) (bytes_drop (width file_head + width type_row * file_type_count file) file bytes) (omega (arith, h.size, e))
      ∙ take_all (width term_row * file_row_count file) (drop (width file_head + width type_row * file_type_count file) file) (omega (arith, h.size, e))

  pub file-back : file_of (file_types file) (file_rows file) ≡ file
  unfolding file_of
  file-back =
      rw (head-back, types-back, rows_back)
      (ap (λ (t : List ℕ). take (width file_head) file ++ t) (joins (width file_head) (width type_row * file_type_count file) file) ∙ take-append-drop (width file_head) file)

-- A header and the rows behind it -------------------------------------------------------------------------------

module _ (l r : Layout) where
  unfoldable pub sheet : List ℕ → List (List ℕ) → List ℕ
  sheet ns rs = write l ns ++ writes r rs

  pub sheet-bytes : (ns : List ℕ) (rs : List (List ℕ)) → AllBytes (sheet ns rs)
  unfolding sheet
  sheet-bytes ns rs = bytes-append (write l ns) (writes r rs) (bytes-write l ns) (bytes-writes r rs)

  pub sheet-length : (ns : List ℕ) (rs : List (List ℕ)) → length (sheet ns rs) ≡ width l + width r * length rs
  unfolding sheet
  sheet-length ns rs = rw (length-append, length-write, length-writes) refl

  -- what is written is read, whatever stands behind it
  pub sheet-head : (ns : List ℕ) (rs : List (List ℕ)) (s : List ℕ) → Fits l ns → read l (sheet ns rs ++ s) ≡ ns
  unfolding sheet
  sheet-head ns rs s f = rw (append_assoc (write l ns) (writes r rs) s) (read-write l ns _ f)

  pub sheet-rows : (ns : List ℕ) (rs : List (List ℕ)) (s : List ℕ) → AllFit r rs → reads r (length rs) (drop (width l) (sheet ns rs ++ s)) ≡ rs
  unfolding sheet
  sheet-rows ns rs s f =
      rw (append_assoc (write l ns) (writes r rs) s, drop_at (write l ns) (writes r rs ++ s) (width l) (length-write l ns)) (reads-writes r rs s f)

  -- what is read is written
  pub sheet-back : (b : List ℕ) (n : ℕ) → AllBytes b → length b ≡ width l + width r * n → sheet (read l b) (reads r n (drop (width l) b)) ≡ b
  unfolding sheet
  sheet-back b n bytes h =
      rw (write_read l b bytes (omega arith), writes_reads r n (drop (width l) b) (bytes_drop (width l) b bytes) (omega (arith, length-drop (width l) b)), take_all (width r * n) (drop (width l) b) (omega (arith, length-drop (width l) b)))
      (take-append-drop (width l) b)

-- Replies --------------------------------------------------------------------------------------------------------

unfoldable pub reply_of : ℕ → List (List ℕ) → List ℕ
reply_of k rs = sheet reply_head term_row (k ∷ length rs ∷ 0 ∷ []) rs

-- a number and rows that a reply can hold
pub record ReplyFits (k : ℕ) (rs : List (List ℕ)) : Type 0 where
  pub number : k < 4294967296
  pub rows : AllFit term_row rs
  pub rows_many : length rs < 65536

pub reply-bytes : (k : ℕ) (rs : List (List ℕ)) → AllBytes (reply_of k rs)
unfolding reply_of
reply-bytes k rs = sheet-bytes reply_head term_row (k ∷ length rs ∷ 0 ∷ []) rs

module _ (k : ℕ) (rs : List (List ℕ)) (fit : ReplyFits k rs) where
  reply-head : read reply_head (reply_of k rs) ≡ k ∷ length rs ∷ 0 ∷ []
  unfolding reply_of Fits pow256
  reply-head = rw (← (append-nil (reply_of k rs))) (sheet-head reply_head term_row (k ∷ length rs ∷ 0 ∷ []) rs [] (omega arith, (omega arith, (omega arith, tt))))

  pub reply-number : reply_number (reply_of k rs) ≡ k
  reply-number = ap (λ (l : List ℕ). get_or l 0 0) reply-head

  pub reply-count : reply_count (reply_of k rs) ≡ length rs
  reply-count = ap (λ (l : List ℕ). get_or l 1 0) reply-head

  pub reply-rows : reply_rows (reply_of k rs) ≡ rs
  unfolding reply_rows reply_of
  reply-rows = rw (reply-count, ← (append-nil (reply_of k rs))) (sheet-rows reply_head term_row (k ∷ length rs ∷ 0 ∷ []) rs [] fit.rows)

  pub reply-headed : (m : Limits) → 1 ≤ length rs → length rs ≤ m.reply_rows → reply_head_ok m (reply_of k rs) ≡ true
  unfolding reply_head_ok reply_of
  reply-headed m h j =
      let e : length (reply_of k rs) ≡ width reply_head + width term_row * length rs = sheet-length reply_head term_row (k ∷ length rs ∷ 0 ∷ []) rs in
      rw reply-head
      (both _ _ (le-leb (width reply_head) (length (reply_of k rs)) (omega arith))
      (both _ _ (within_of 1 m.reply_rows (length rs) h j)
      (both _ _ (eq-same 0) (eq-eqb (length (reply_of k rs)) (width reply_head + width term_row * length rs) e))))

pub reply-tree : (k : ℕ) (v : Tree) → ReplyFits k (map raw (flat v)) → reply_tree (reply_of k (map raw (flat v))) ≡ v
unfolding reply_tree
reply-tree k v fit = rw (reply-rows k (map raw (flat v)) fit, rows-raw (flat v)) (tree-of-flat v)

pub reply-back : (m : Limits) (reply : List ℕ) → reply_head_ok m reply ≡ true → AllBytes reply → reply_of (reply_number reply) (reply_rows reply) ≡ reply
unfolding reply_of reply_head_ok reply_rows
reply-back m reply ok bytes =
    let e = right _ _ (right _ _ ok) in
    rw (length-reads term_row (reply_count reply) (drop (width reply_head) reply))
    (ap (λ (ns : List ℕ). sheet reply_head term_row ns (reads term_row (reply_count reply) (drop (width reply_head) reply))) (numbers (read reply_head reply) (length-read reply_head reply) (eqb-true (reply_no 2 reply) 0 (left _ _ e)))
    ∙ sheet-back reply_head term_row reply (reply_count reply) bytes (eqb-true (length reply) _ (right _ _ e)))
  where
    numbers : (ns : List ℕ) → length ns ≡ 3 → get_or ns 2 0 ≡ 0 → get_or ns 0 0 ∷ get_or ns 1 0 ∷ 0 ∷ [] ≡ ns
    numbers ns h z = rw z at (sym (fields-from ns 0 3 h))

-- Sent calls -----------------------------------------------------------------------------------------------------

-- a number and a call that a letter can hold
pub record LetterFits (k : ℕ) (c : Call) : Type 0 where
  pub number : k < 4294967296
  pub tool : c.tool < 4294967296
  pub rows_many : length c.rows < 65536
  pub result : c.result < 65536
  pub rows : AllFit term_row (map raw c.rows)

letter-sheet : (k : ℕ) (c : Call) → letter_of k c ≡ sheet call_head term_row (k ∷ c.tool ∷ length c.rows ∷ c.result ∷ []) (map raw c.rows)
unfolding letter_of sheet
letter-sheet k c = refl

pub letter-bytes : (k : ℕ) (c : Call) → AllBytes (letter_of k c)
letter-bytes k c = rw (letter-sheet k c) (sheet-bytes call_head term_row (k ∷ c.tool ∷ length c.rows ∷ c.result ∷ []) (map raw c.rows))

pub letter-length : (k : ℕ) (c : Call) → length (letter_of k c) ≡ width call_head + width term_row * length c.rows
letter-length k c =
    rw (letter-sheet k c) (sheet-length call_head term_row _ (map raw c.rows) ∙ ap (λ (n : ℕ). width call_head + width term_row * n) (length-map c.rows raw))

module _ (k : ℕ) (c : Call) (fit : LetterFits k c) where
  -- the letter read back, whatever stands behind it in the work buffer
  pub letter-head : (s : List ℕ) → read call_head (letter_of k c ++ s) ≡ k ∷ c.tool ∷ length c.rows ∷ c.result ∷ []
  unfolding Fits pow256
  letter-head s = rw (letter-sheet k c) (sheet-head call_head term_row _ (map raw c.rows) s (omega arith, (omega arith, (omega arith, (omega arith, tt)))))

  pub letter-numbers : (s : List ℕ) → reads term_row (length c.rows) (drop (width call_head) (letter_of k c ++ s)) ≡ map raw c.rows
  letter-numbers s =
      ap (λ (n : ℕ). reads term_row n (drop (width call_head) (letter_of k c ++ s))) (sym (length-map c.rows raw))
      ∙ ap (λ (x : List ℕ). reads term_row (length (map raw c.rows)) (drop (width call_head) (x ++ s))) (letter-sheet k c)
      ∙ sheet-rows call_head term_row _ (map raw c.rows) s fit.rows

  pub letter-rows : (s : List ℕ) → map row_of (reads term_row (length c.rows) (drop (width call_head) (letter_of k c ++ s))) ≡ c.rows
  letter-rows s = ap (map row_of) (letter-numbers s) ∙ rows-raw c.rows

-- so no two calls have one letter
pub letter-one : (k j : ℕ) (c d : Call) (s t : List ℕ) → LetterFits k c → LetterFits j d → letter_of k c ++ s ≡ letter_of j d ++ t → (k ≡ j) × (c ≡ d)
letter-one k j c d s t f g e =
    let h : k ∷ c.tool ∷ length c.rows ∷ c.result ∷ [] ≡ j ∷ d.tool ∷ length d.rows ∷ d.result ∷ [] = sym (letter-head k c f s) ∙ ap (read call_head) e ∙ letter-head j d g t in
    let n : length c.rows ≡ length d.rows = cc in
    let u : c.tool ≡ d.tool = cc in
    let v : c.result ≡ d.result = cc in
    let w : c.rows ≡ d.rows =
    sym (letter-rows k c f s)
    ∙ ap (λ (i : ℕ). map row_of (reads term_row i (drop (width call_head) (letter_of k c ++ s)))) n
    ∙ ap (λ (x : List ℕ). map row_of (reads term_row (length d.rows) (drop (width call_head) x))) e
    ∙ letter-rows j d g t in
    (cc, λ i. record { tool = u i; rows = w i; result = v i })

-- Load -----------------------------------------------------------------------------------------------------------

no-futures : (l : List Row) → Each (λ r. no_future r ≡ true) (map raw l) → AllRows (Due (listed [])) l
unfolding Each AllRows no_future raw code
no-futures [] d = tt
no-futures (r ∷ l) (e, d) = (due r e, no-futures l d)
  where
    due : (r : Row) → no_future (raw r) ≡ true → Due (listed []) r.head r.type
    due r e k q = absurd (false≢true (rw q at e))

module _ (m : Limits) (file : List ℕ) (l : LegalFile m file) where
  pub file-tree : (map raw (flat (file_tree file)) ≡ file_rows file) × (size (file_tree file) ≡ length (file_rows file)) × Every (legal (file_type_count file)) (file_tree file)
  unfolding file_tree file_rows
  file-tree = shape-whole (file_type_count file) (file_rows file) (rw l.edition at l.one-tree) (reads-wide term_row (file_row_count file) _)

  pub file-size : size (file_tree file) ≡ file_row_count file
  unfolding file_rows
  file-size = file-tree.1 ∙ length-reads term_row (file_row_count file) _

  pub file-type-total : length (file_types file) ≡ file_type_count file
  unfolding file_types
  file-type-total = length-reads type_row (file_type_count file) _

  -- the fresh record of a file that is accepted
  pub legal-good : Typed (form_of (file_types file)) empty (file_tree file) → AllBytes file → m.program_rows ≤ m.rows → Good m (loaded_state file)
  unfolding loaded_state rises Each file_types
  legal-good t bytes h =
      record {
        types_some = omega (arith, l.types-some, file-type-total);
        types_many = omega (arith, l.types-many, file-type-total);
        types_wide = reads_fit type_row (file_type_count file) (drop (width file_head) file) (bytes_drop (width file_head) file bytes);
        types_pass = rw l.edition at l.types-good;
        rows_many = omega (arith, l.rows-many, file-size);
        legal_rows = rw file-type-total file-tree.2;
        typed = t;
        calls_many = omega arith;
        calls_rise = refl;
        calls_below = tt;
        calls_ground = tt;
        next_low = omega arith;
        next_high = omega arith;
        listed = rows-every _ (file_tree file) (no-futures (flat (file_tree file)) (rw file-tree.0 (none-fails no_future (file_rows file) l.no-future)));
        program = refl;
      }

pub loaded-good : (m : Limits) (file : List ℕ) (room : ℕ) → load_verdict m file room ≡ Ok tt → AllBytes file → m.program_rows ≤ m.rows → Good m (loaded_state file)
loaded-good m file room e bytes h =
    let (_, l, k) = accepted-legal m file room e in
    legal-good m file l (typed-if (form_of (file_types file)) empty (file_tree file) k) bytes h

-- a program: types and a term without futures that the board has room for, each row in range and typed
pub record Program (m : Limits) (ts : List (List ℕ)) (t : Tree) : Type 0 where
  pub types_some : 1 ≤ length ts
  pub types_many : length ts ≤ m.types
  pub types_wide : AllFit type_row ts
  pub types_pass : bad_type version ts ≡ None
  pub rows_many : size t ≤ m.program_rows
  pub legal_rows : Every (legal (length ts)) t
  pub calm : Listed (listed []) t
  pub typed : Typed (form_of ts) empty t

calm-rows : (l : List Row) → AllRows (Due (listed [])) l → Each (λ r. no_future r ≡ true) (map raw l)
unfolding Each AllRows no_future raw listed
calm-rows [] d = tt
calm-rows (r ∷ l) (e, d) = (calm (eqb (code r.head) 9) refl, calm-rows l d)
  where
    calm : (b : Bool) → eqb (code r.head) 9 ≡ b → not b ≡ true
    calm true q = absurd (none-some r.type (e (word_of r.head) (future-code r.head (eqb-true _ _ q))))
    calm false q = refl

-- each program has a file, which is accepted and holds it
module _ (m : Limits) (ts : List (List ℕ)) (t : Tree) (types_few : m.types ≤ 65535) (rows_few : m.program_rows ≤ 65535) (program : Program m ts t) where
  row-total : length (map raw (flat t)) ≡ size t
  row-total = length-map (flat t) raw ∙ length-flat t

  program-fits : FileFits ts (map raw (flat t))
  program-fits =
      record {
        types = program.types_wide;
        rows = rows_fit (length ts) (flat t) (omega (arith, program.types_many)) (every-rows _ t program.legal_rows);
        types_many = omega (arith, program.types_many);
        rows_many = omega (arith, program.rows_many, row-total);
      }

  pub program-types : file_types (file_of ts (map raw (flat t))) ≡ ts
  program-types = file-types ts (map raw (flat t)) program-fits

  pub program-tree : file_tree (file_of ts (map raw (flat t))) ≡ t
  unfolding file_tree
  program-tree = rw (file-rows ts (map raw (flat t)) program-fits, rows-raw (flat t)) (tree-of-flat t)

  pub program-legal : LegalFile m (file_of ts (map raw (flat t)))
  program-legal =
      let h = file-headed ts (map raw (flat t)) program-fits in
      let n = file-type-count ts (map raw (flat t)) program-fits in
      let k = file-row-count ts (map raw (flat t)) program-fits in
      let rs = file-rows ts (map raw (flat t)) program-fits in
      record {
        long = omega (arith, h.size);
        mark = h.mark;
        edition = h.edition;
        zero-byte = h.zero-byte;
        types-some = omega (arith, n, program.types_some);
        types-many = omega (arith, n, program.types_many);
        rows-some = omega (arith, k, row-total, size-some t);
        rows-many = omega (arith, k, row-total, program.rows_many);
        size = h.size;
        types-good = rw (h.edition, program-types) program.types_pass;
        one-tree = rw (h.edition, n, rs) (whole_of (length ts) t program.legal_rows);
        no-future = rw rs (all_pass no_future _ (calm-rows (flat t) (every-rows _ t program.calm)));
      }

  pub program-accepted : load_verdict m (file_of ts (map raw (flat t))) (record_bytes m) ≡ Ok tt
  program-accepted =
      legal-verdict m _ program-legal
      ∙ refuse-pass _ Typing (Ok tt) (rw (program-types, program-tree) (typed-of (form_of ts) empty t program.typed))
