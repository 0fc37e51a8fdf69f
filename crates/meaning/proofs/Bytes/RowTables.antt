-- A table of rows that is accepted is the rows of exactly one tree, each in range, and every such is accepted; a refusal names the first
-- row at which no tree can go on. Assumes nothing.
use Prim.Native.Nat.{ℕ, zero, suc, ◌+◌, ◌≤◌, ◌<◌}
use mathlib.Core.Path.{◌≡◌, refl, ap, sym, ◌∙◌, subst}
use mathlib.Core.Bool.{Bool, true, false, cond, false≢true}
use mathlib.Core.List.{List, [], ◌∷◌, ◌++◌, map, append_assoc, append-nil}
use mathlib.Core.Logic.{◌⊎◌, inl, inr}
use Rattle.std.specs.Prelude.{Option, None, Some}
use native.Mathlib.Omega.{arith}
use native.Mathlib.Decide.{ℕ_discrete}
use lib.Dec.{leb}
use lib.ListN.{length, take, get_or, length-map}
use lib.Seq.{take-length}
use borrow.Author.Tests.{lt-ltb, ltb-true, leb-true}
use Rattle.meaning.specs.Bytes.{◌∧ᵇ◌, within}
use Rattle.meaning.specs.Terms.{str, file, truth, Head, lit, var, lambda, foreign, apply, future, ite, fix, nil, cons, isnil, zip, tuple, project, lproject, bind, arity, Tree, Forest, node, end, more, Row, flat, flats, size, sizes, code, n_of, word_of, head_from, Range, Fields, words-from, none-used, kind_fields, last_kind, kind_no, n_no, type_no, word_no, raw, row_of, within_one, fits, row_fault, unless-bad, shape_from, shape, kids, trees, top, tree_of}
use Rattle.meaning.specs.Records.{version}
use Rattle.meaning.specs.declared.Fault.{Fault}
use Rattle.meaning.specs.declared.Fault.TheVariants.{Behind, Unfinished}
use Rattle.meaning.specs.Terms.{Shape}
use Rattle.std.specs.Prelude.{Ok, Err}
use Rattle.meaning.proofs.Trees.Tests.{left, right, within-if, within_of, none-some}
use Rattle.meaning.proofs.Trees.Parse.{sizes-split, kids-rows, length-flat, flat-inj}
use Rattle.meaning.proofs.Trees.EachRow.{Fact, Every, Everys, AllRows, rows-every}
use Rattle.meaning.proofs.Bytes.Layouts.{Each, Wide}

-- One row --------------------------------------------------------------------------------------------------------

head-back : (h : Head) → head_from (code h) (n_of h) (word_of h) ≡ h
unfolding head_from code n_of word_of
head-back (lit (str w)) = refl
head-back (lit (file w)) = refl
head-back (lit (truth true)) = refl
head-back (lit (truth false)) = refl
head-back (var x) = refl
head-back lambda = refl
head-back (foreign w) = refl
head-back (apply n) = refl
head-back (future k) = refl
head-back ite = refl
head-back fix = refl
head-back nil = refl
head-back cons = refl
head-back isnil = refl
head-back (zip m) = refl
head-back (tuple n) = refl
head-back (project i) = refl
head-back (lproject i) = refl
head-back (bind x) = refl

-- kind 9 is a future of the number in its word
pub future-code : (h : Head) → code h ≡ 9 → h ≡ future (word_of h)
unfolding head_from
future-code h e = sym (head-back h) ∙ ap (λ (k : ℕ). head_from k (n_of h) (word_of h)) e

-- a row is told by its numbers
pub row-raw : (r : Row) → row_of (raw r) ≡ r
unfolding row_of raw
row-raw r = λ i. record { head = head-back r.head i; type = r.type }

pub rows-raw : (l : List Row) → map row_of (map raw l) ≡ l
rows-raw [] = refl
rows-raw (r ∷ l) = cc (row-raw r, rows-raw l)

-- a word in one range
pub one-range : (low high w : ℕ) → within_one (words-from low high) w ≡ true → (low ≤ w) × (w ≤ high)
unfolding within_one
one-range low high w e = within-if low high w (held (within low high w) e)
  where
    held : (b : Bool) → cond b true false ≡ true → b ≡ true
    held true e = refl
    held false e = e

pub range-one : (low high w : ℕ) → low ≤ w → w ≤ high → within_one (words-from low high) w ≡ true
unfolding within_one
range-one low high w a b = rw (within_of low high w a b) refl

-- a word in one of several ranges is no higher than they go
unfoldable pub up_to : ℕ → List Range → Bool
up_to top [] = true
up_to top (r ∷ rs) = leb r.most top ∧ᵇ up_to top rs

pub word-up-to : (top : ℕ) (rs : List Range) (w : ℕ) → up_to top rs ≡ true → within_one rs w ≡ true → w ≤ top
unfolding up_to within_one
word-up-to top [] w h e = absurd (false≢true e)
word-up-to top (r ∷ rs) w h e = go (within r.least r.most w) refl (word-up-to top rs w (right _ _ h)) e
  where
    go : (b : Bool) → within r.least r.most w ≡ b → (within_one rs w ≡ true → w ≤ top) → cond b true (within_one rs w) ≡ true → w ≤ top
    go true q k e = omega (arith, (within-if _ _ w q).1, leb-true r.most top (left _ _ h))
    go false q k e = k e

-- what a row without fault keeps
pub record InRange (edition count : ℕ) (r : List ℕ) : Type 0 where
  pub kind_low : 1 ≤ kind_no r
  pub kind_high : kind_no r ≤ last_kind edition
  pub n_from : (get_or kind_fields (kind_no r) none-used).n_low ≤ n_no r
  pub n_to : n_no r ≤ (get_or kind_fields (kind_no r) none-used).n_high
  pub word_in : within_one (get_or kind_fields (kind_no r) none-used).words (word_no r) ≡ true
  pub type_below : type_no r < count

-- a test that finds nothing
pub passes : {A : Type 0} (b : Bool) (o : Option A) (a : A) → cond b o (Some a) ≡ None → (b ≡ true) × (o ≡ None)
passes true o a e = (refl, e)
passes false o a e = absurd (none-some a (sym e))

pub in-range : (edition count : ℕ) (r : List ℕ) → row_fault edition count r ≡ None → InRange edition count r
unfolding row_fault fits
in-range edition count r e =
    let (k, e1) = passes (within 1 (last_kind edition) (kind_no r)) _ _ e in
    let (f, e2) = passes _ _ _ e1 in
    let (t, e3) = passes _ _ _ e2 in
    let (kl, kh) = within-if 1 (last_kind edition) (kind_no r) k in
    let (nl, nh) = within-if _ _ (n_no r) (left _ _ f) in
    record { kind_low = kl; kind_high = kh; n_from = nl; n_to = nh; word_in = right _ _ f; type_below = ltb-true (type_no r) count t }

pub range-in : (edition count : ℕ) (r : List ℕ) → InRange edition count r → row_fault edition count r ≡ None
unfolding row_fault fits ◌∧ᵇ◌
range-in edition count r g =
    rw (within_of 1 (last_kind edition) (kind_no r) g.kind_low g.kind_high, within_of _ _ (n_no r) g.n_from g.n_to, g.word_in, lt-ltb (type_no r) count g.type_below) refl

pub last-kind : (edition : ℕ) → last_kind edition ≤ 19
unfolding last_kind
last-kind zero = omega arith
last-kind (suc zero) = omega arith
last-kind (suc (suc e)) = omega arith

-- a fact of each number below n, by its cases
infixl 5 ◌▸◌
pub data Below (P : ℕ → Type 0) : ℕ → Type 0 where
  start : Below P zero
  ◌▸◌ : {n : ℕ} → Below P n → P n → Below P (suc n)

pub below_at : (P : ℕ → Type 0) (n : ℕ) → Below P n → (k : ℕ) → k < n → P k
below_at P zero start k h = absurd (omega arith)
below_at P (suc n) (b ▸ p) k h = elim (ℕ_discrete k n) [ yes e ↦ subst P (sym e) p | no e ↦ below_at P n b k (omega arith) ]

-- numbers in range are those of the head that they make
record Same (k n w : ℕ) : Type 0 where
  kind : code (head_from k n w) ≡ k
  count : n_of (head_from k n w) ≡ n
  word : word_of (head_from k n w) ≡ w

record Used (f : Fields) (n w : ℕ) : Type 0 where
  n_from : f.n_low ≤ n
  n_to : n ≤ f.n_high
  word_in : within_one f.words w ≡ true

abbrev Back : ℕ → Type 0
Back k = (n w : ℕ) → 1 ≤ k → Used (get_or kind_fields k none-used) n w → Same k n w

back_at : Below Back 20
unfolding head_from code n_of word_of
back_at =
    start
    ▸ (λ n w h f. absurd (omega arith))
    ▸ (λ n w h f. record { kind = refl; count = omega arith; word = refl })
    ▸ (λ n w h f. record { kind = refl; count = omega arith; word = refl })
    ▸ (λ n w h f. record { kind = refl; count = omega arith; word = omega (arith, one-range 0 0 w f.word_in) })
    ▸ (λ n w h f. record { kind = refl; count = omega arith; word = omega (arith, one-range 0 0 w f.word_in) })
    ▸ (λ n w h f. record { kind = refl; count = omega arith; word = refl })
    ▸ (λ n w h f. record { kind = refl; count = omega arith; word = omega (arith, one-range 0 0 w f.word_in) })
    ▸ (λ n w h f. record { kind = refl; count = omega arith; word = refl })
    ▸ (λ n w h f. record { kind = refl; count = omega arith; word = omega (arith, one-range 0 0 w f.word_in) })
    ▸ (λ n w h f. record { kind = refl; count = omega arith; word = refl })
    ▸ (λ n w h f. record { kind = refl; count = omega arith; word = omega (arith, one-range 0 0 w f.word_in) })
    ▸ (λ n w h f. record { kind = refl; count = omega arith; word = omega (arith, one-range 0 0 w f.word_in) })
    ▸ (λ n w h f. record { kind = refl; count = omega arith; word = omega (arith, one-range 0 0 w f.word_in) })
    ▸ (λ n w h f. record { kind = refl; count = omega arith; word = omega (arith, one-range 0 0 w f.word_in) })
    ▸ (λ n w h f. record { kind = refl; count = omega arith; word = omega (arith, one-range 0 0 w f.word_in) })
    ▸ (λ n w h f. record { kind = refl; count = omega arith; word = omega (arith, one-range 0 0 w f.word_in) })
    ▸ (λ n w h f. record { kind = refl; count = omega arith; word = omega (arith, one-range 0 0 w f.word_in) })
    ▸ (λ n w h f. record { kind = refl; count = omega arith; word = omega (arith, one-range 0 0 w f.word_in) })
    ▸ (λ n w h f. record { kind = refl; count = omega arith; word = omega (arith, one-range 0 0 w f.word_in) })
    ▸ (λ n w h f. record { kind = refl; count = omega arith; word = refl })

-- a row without fault is the numbers of the row that it makes
pub raw_row : (edition count : ℕ) (r : List ℕ) → row_fault edition count r ≡ None → length r ≡ 4 → raw (row_of r) ≡ r
unfolding raw row_of
raw_row edition count [] e q = absurd (omega arith)
raw_row edition count (k ∷ []) e q = absurd (omega arith)
raw_row edition count (k ∷ n ∷ []) e q = absurd (omega arith)
raw_row edition count (k ∷ n ∷ t ∷ []) e q = absurd (omega arith)
raw_row edition count (k ∷ n ∷ t ∷ w ∷ x ∷ l) e q = absurd (omega arith)
raw_row edition count (k ∷ n ∷ t ∷ w ∷ []) e q =
    let g = in-range edition count (k ∷ n ∷ t ∷ w ∷ []) e in
    let s = below_at Back 20 back_at k (omega (arith, last-kind edition, g.kind_high)) n w g.kind_low (record { n_from = g.n_from; n_to = g.n_to; word_in = g.word_in }) in
    cc (s.kind, s.count, s.word)

-- Accepted -------------------------------------------------------------------------------------------------------

-- a row in range
abbrev pub legal : ℕ → Fact
legal count h u = row_fault version count (raw (record { head = h; type = u })) ≡ None

abbrev pub Clear : ℕ → ℕ → List (List ℕ) → Type 0
Clear edition count rows = Each (λ r. row_fault edition count r ≡ None) rows

pub rows_back : (edition count : ℕ) (l : List (List ℕ)) → Clear edition count l → Wide 4 l → map raw (map row_of l) ≡ l
unfolding Each
rows_back edition count [] c w = refl
rows_back edition count (r ∷ l) (e, c) (q, w) = cc (raw_row edition count r e q, rows_back edition count l c w)

clear-legal : (count : ℕ) (l : List (List ℕ)) → Clear version count l → Wide 4 l → AllRows (legal count) (map row_of l)
unfolding Each AllRows
clear-legal count [] c w = tt
clear-legal count (r ∷ l) (e, c) (q, w) = (rw (raw_row version count r e q) e, clear-legal count l c w)

pub bad-whole : (f : Fault) (i : ℕ) → ◌≡◌ {A = Shape} (Err (f, i)) (Ok tt) → ⊥
bad-whole f i e = let z : ◌≡◌ {A = ℕ} 0 1 = cc in omega arith

no-fault : (o : Option Fault) (i : ℕ) (s : Shape) → unless-bad o i s ≡ Ok tt → (o ≡ None) × (s ≡ Ok tt)
unfolding unless-bad
no-fault None i s e = (refl, e)
no-fault (Some f) i s e = absurd (bad-whole f i e)

-- each row is in range, and the trees owed end with the last row
pub accepted : (edition count : ℕ) (l : List (List ℕ)) (owed i : ℕ) → shape_from edition count l owed i ≡ Ok tt → Clear edition count l × (sizes (kids owed (trees (map row_of l))) ≡ length l)
unfolding shape_from Each kids trees size
accepted edition count [] zero i e = (tt, refl)
accepted edition count [] (suc k) i e = absurd (bad-whole _ _ e)
accepted edition count (r ∷ l) zero i e = absurd (bad-whole _ _ (no-fault (row_fault edition count r) _ _ e).1)
accepted edition count (r ∷ l) (suc k) i e =
    let (p, q) = no-fault (row_fault edition count r) _ _ e in
    let a = arity (row_of r).head in
    let (c, n) = accepted edition count l (k + a) (suc i) q in
    ((p, c), omega (arith, sizes-split a k (trees (map row_of l))))

one-tree : (l : List Row) → sizes (kids 1 (trees l)) ≡ length l → flat (tree_of l) ≡ l
unfolding tree_of kids top flat
one-tree l e = sym (flats-one (trees l)) ∙ kids-rows l 1 (omega arith) ∙ ap (λ (n : ℕ). take n l) e ∙ take-length l
  where
    flats-one : (ts : List Tree) → flats (kids 1 ts) ≡ flat (top ts)
    flats-one [] = append-nil _
    flats-one (t ∷ ts) = append-nil _

-- an accepted table is the rows of a tree, each in range
pub shape-whole : (count : ℕ) (rows : List (List ℕ)) → shape version count rows ≡ Ok tt → Wide 4 rows
    → (map raw (flat (tree_of (map row_of rows))) ≡ rows) × (size (tree_of (map row_of rows)) ≡ length rows) × Every (legal count) (tree_of (map row_of rows))
unfolding shape
shape-whole count rows e w =
    let (c, n) = accepted version count rows 1 0 e in
    let q : flat (tree_of (map row_of rows)) ≡ map row_of rows = one-tree (map row_of rows) (rw length-map n) in (
      ap (map raw) q ∙ rows_back version count rows c w,
      sym (length-flat _) ∙ ap length q ∙ length-map rows row_of,
      rows-every (legal count) _ (rw q (clear-legal count rows c w)),
    )

-- of one tree only
pub only_one : (t u : Tree) → map raw (flat t) ≡ map raw (flat u) → t ≡ u
only_one t u e = flat-inj t u (sym (rows-raw (flat t)) ∙ ap (map row_of) e ∙ rows-raw (flat u))

-- and the rows of a tree, each in range, are accepted
map-append : (l m : List Row) → map raw (l ++ m) ≡ map raw l ++ map raw m
map-append [] m = refl
map-append (r ∷ l) m = ap (λ x. raw r ∷ x) (map-append l m)

shape-cong : (edition count : ℕ) {i j k n : ℕ} (l : List (List ℕ)) → k ≡ n → i ≡ j → shape_from edition count l k i ≡ shape_from edition count l n j
shape-cong edition count l p q = cc

mutual
  unfolding flat size shape_from Every unless-bad

  pub shape-flat : (count : ℕ) (t : Tree) (l : List (List ℕ)) (k i : ℕ) → Every (legal count) t → shape_from version count (map raw (flat t) ++ l) (suc k) i ≡ shape_from version count l k (i + size t)
  shape-flat count (node h u f) l k i (p, d) =
      let e : (row_of (raw (record { head = h; type = u }))).head ≡ h = ap (λ (r : Row). r.head) (row-raw (record { head = h; type = u })) in
      rw (p, e) (shape-flats count f l k (suc i) d ∙ shape-cong version count l refl (omega arith))

  pub shape-flats : {n : ℕ} (count : ℕ) (f : Forest n) (l : List (List ℕ)) (k i : ℕ) → Everys (legal count) f → shape_from version count (map raw (flats f) ++ l) (k + n) i ≡ shape_from version count l k (i + sizes f)
  shape-flats count end l k i d = shape-cong version count l (omega arith) (omega arith)
  shape-flats count (more {n = m} t f) l k i (p, d) =
      rw (map-append (flat t) (flats f), append_assoc (map raw (flat t)) (map raw (flats f)) l)
      (shape-cong version count (map raw (flat t) ++ (map raw (flats f) ++ l)) (omega arith) refl
      ∙ shape-flat count t (map raw (flats f) ++ l) (k + m) i p
      ∙ shape-flats count f l k (i + size t) d
      ∙ shape-cong version count l refl (omega arith))

pub whole_of : (count : ℕ) (t : Tree) → Every (legal count) t → shape version count (map raw (flat t)) ≡ Ok tt
unfolding shape shape_from
whole_of count t d = ap (λ (x : List (List ℕ)). shape_from version count x 1 0) (sym (append-nil (map raw (flat t)))) ∙ shape-flat count t [] 0 0 d

-- Refused --------------------------------------------------------------------------------------------------------

-- the trees still to come behind some rows, where `owed` are to come before them
unfoldable pub owed_after : ℕ → List (List ℕ) → ℕ
owed_after owed [] = owed
owed_after zero (r ∷ l) = zero
owed_after (suc owed) (r ∷ l) = owed_after (owed + arity (row_of r).head) l

-- why row p is refused, in a table where `owed` trees are to come: it is of bad kind, field or type number; or the rows before it are
-- these trees, whole; or there is no row p and a tree is unfinished
pub data Cause (edition count owed : ℕ) (rows : List (List ℕ)) (f : Fault) (p : ℕ) : Type 0 where
  bad_row : p < length rows → row_fault edition count (get_or rows p []) ≡ Some f → Cause edition count owed rows f p
  past_end : f ≡ Behind → p < length rows → row_fault edition count (get_or rows p []) ≡ None → shape_from edition count (take p rows) owed 0 ≡ Ok tt → Cause edition count owed rows f p
  unfinished : f ≡ Unfinished → p ≡ length rows → 1 ≤ owed_after owed rows → Cause edition count owed rows f p

-- and it is the first such row
pub record RefusedFrom (edition count owed : ℕ) (rows : List (List ℕ)) (f : Fault) (p : ℕ) : Type 0 where
  pub inside : p ≤ length rows
  pub fine : (j : ℕ) → j < p → row_fault edition count (get_or rows j []) ≡ None
  pub owing : (j : ℕ) → j < p → 1 ≤ owed_after owed (take j rows)
  pub cause : Cause edition count owed rows f p

-- refusal 7: one tree is to come
abbrev pub Refused : ℕ → ℕ → List (List ℕ) → Fault → ℕ → Type 0
Refused edition count rows f p = RefusedFrom edition count 1 rows f p

pub whole_from : (edition count : ℕ) (l : List (List ℕ)) (owed i j : ℕ) → shape_from edition count l owed i ≡ Ok tt → shape_from edition count l owed j ≡ Ok tt
unfolding shape_from unless-bad
whole_from edition count [] zero i j e = refl
whole_from edition count [] (suc k) i j e = absurd (bad-whole _ _ e)
whole_from edition count (r ∷ l) zero i j e = absurd (bad-whole _ _ (no-fault (row_fault edition count r) _ _ e).1)
whole_from edition count (r ∷ l) (suc k) i j e =
    let (p, q) = no-fault (row_fault edition count r) _ _ e in
    rw p (whole_from edition count l (k + arity (row_of r).head) (suc i) (suc j) q)

module _ (edition count : ℕ) (r : List ℕ) (l : List (List ℕ)) (k : ℕ) (f : Fault) (clear : row_fault edition count r ≡ None) where
  cause-later : (p : ℕ) → Cause edition count (k + arity (row_of r).head) l f p → Cause edition count (suc k) (r ∷ l) f (suc p)
  unfolding shape_from unless-bad owed_after
  cause-later p (bad_row h e) = bad_row (omega arith) e
  cause-later p (past_end q h e w) = past_end q (omega arith) e (rw clear (whole_from edition count (take p l) (k + arity (row_of r).head) 0 1 w))
  cause-later p (unfinished q h o) = unfinished q (omega arith) o

  refused-later : (p : ℕ) → RefusedFrom edition count (k + arity (row_of r).head) l f p → RefusedFrom edition count (suc k) (r ∷ l) f (suc p)
  unfolding owed_after
  refused-later p d = record { inside = omega (arith, d.inside); fine = fine; owing = owing; cause = cause-later p d.cause }
    where
      fine : (j : ℕ) → j < suc p → row_fault edition count (get_or (r ∷ l) j []) ≡ None
      fine zero h = clear
      fine (suc j) h = d.fine j (omega arith)

      owing : (j : ℕ) → j < suc p → 1 ≤ owed_after (suc k) (take j (r ∷ l))
      owing zero h = omega arith
      owing (suc j) h = d.owing j (omega arith)

refused-here : (edition count owed : ℕ) (rows : List (List ℕ)) (f : Fault) → Cause edition count owed rows f 0 → RefusedFrom edition count owed rows f 0
refused-here edition count owed rows f d = record { inside = omega arith; fine = λ j h. absurd (omega arith); owing = λ j h. absurd (omega arith); cause = d }

-- the fault and the row of a shape that has one
pub bad-parts : (f g : Fault) (i p : ℕ) → ◌≡◌ {A = Shape} (Err (g, i)) (Err (f, p)) → (g ≡ f) × (i ≡ p)
bad-parts f g i p e = (ap fault_in e, ap row_in e)
  where
    fault_in : Shape → Fault
    fault_in (Ok u) = f
    fault_in (Err x) = x.0

    row_in : Shape → ℕ
    row_in (Ok u) = p
    row_in (Err x) = x.1

fault-cases : (o : Option Fault) (i : ℕ) (s : Shape) (f : Fault) (p : ℕ) → unless-bad o i s ≡ Err (f, p) → ((o ≡ Some f) × (i ≡ p)) ⊎ ((o ≡ None) × (s ≡ Err (f, p)))
unfolding unless-bad
fault-cases None i s f p e = inr (refl, e)
fault-cases (Some g) i s f p e = let (q, r) = bad-parts f g i p e in inl (ap Some q, r)

refused-from : (edition count : ℕ) (l : List (List ℕ)) (owed i : ℕ) (f : Fault) (p : ℕ) → shape_from edition count l owed i ≡ Err (f, p) → (j : ℕ) × (p ≡ i + j) × RefusedFrom edition count owed l f j
unfolding shape_from owed_after
refused-from edition count [] zero i f p e = absurd (bad-whole f p (sym e))
refused-from edition count [] (suc k) i f p e =
    let (g, q) = bad-parts f Unfinished i p e in
    (0, omega arith, refused-here edition count (suc k) [] f (unfinished (sym g) refl (omega arith)))
refused-from edition count (r ∷ l) zero i f p e = elim (fault-cases (row_fault edition count r) _ _ _ _ e) [
  | inl d ↦ (0, omega (arith, d.1), refused-here edition count zero (r ∷ l) f (bad_row (omega arith) d.0))
  | inr d ↦ let (g, q) = bad-parts f Behind i p d.1 in (0, omega (arith, q), refused-here edition count zero (r ∷ l) f (past_end (sym g) (omega arith) d.0 refl))
]
refused-from edition count (r ∷ l) (suc k) i f p e = elim (fault-cases (row_fault edition count r) _ _ _ _ e) [
  | inl d ↦ (0, omega (arith, d.1), refused-here edition count (suc k) (r ∷ l) f (bad_row (omega arith) d.0))
  | inr d ↦
      let (j, q, u) = refused-from edition count l (k + arity (row_of r).head) (suc i) f p d.1 in
      (suc j, omega (arith, q), refused-later edition count r l k f d.0 j u)
]

pub shape-bad : (edition count : ℕ) (rows : List (List ℕ)) (f : Fault) (p : ℕ) → shape edition count rows ≡ Err (f, p) → Refused edition count rows f p
unfolding shape
shape-bad edition count rows f p e =
    let (j, q, d) = refused-from edition count rows 1 0 f p e in
    let z : j ≡ p = omega (arith, q) in
    subst (Refused edition count rows f) z d

-- and so the fault and the place are the only ones
refused-sooner : (edition count : ℕ) (r : List ℕ) (l : List (List ℕ)) (k : ℕ) (f : Fault) (p : ℕ) → RefusedFrom edition count (suc k) (r ∷ l) f (suc p) → RefusedFrom edition count (k + arity (row_of r).head) l f p
unfolding owed_after shape_from unless-bad
refused-sooner edition count r l k f p d =
    record {
      inside = omega (arith, d.inside);
      fine = λ j h. d.fine (suc j) (omega arith);
      owing = λ j h. d.owing (suc j) (omega arith);
      cause = cause d.cause;
    }
  where
    clear : row_fault edition count r ≡ None
    clear = d.fine 0 (omega arith)

    cause : Cause edition count (suc k) (r ∷ l) f (suc p) → Cause edition count (k + arity (row_of r).head) l f p
    cause (bad_row h e) = bad_row (omega arith) e
    cause (past_end q h e w) = past_end q (omega arith) e (whole_from edition count (take p l) (k + arity (row_of r).head) 1 0 (no-fault (row_fault edition count r) _ _ w).1)
    cause (unfinished q h o) = unfinished q (omega arith) o

bad-here : (edition count owed : ℕ) (rows : List (List ℕ)) (i : ℕ) (f : Fault) → Cause edition count owed rows f 0 → shape_from edition count rows owed i ≡ Err (f, i)
unfolding owed_after shape_from unless-bad
bad-here edition count zero [] i f (bad_row h e) = absurd (omega arith)
bad-here edition count (suc k) [] i f (bad_row h e) = absurd (omega arith)
bad-here edition count zero (r ∷ l) i f (bad_row h e) = rw e refl
bad-here edition count (suc k) (r ∷ l) i f (bad_row h e) = rw e refl
bad-here edition count zero [] i f (past_end q h e w) = absurd (omega arith)
bad-here edition count (suc k) [] i f (past_end q h e w) = absurd (omega arith)
bad-here edition count zero (r ∷ l) i f (past_end q h e w) = rw (e, q) refl
bad-here edition count (suc k) (r ∷ l) i f (past_end q h e w) = absurd (bad-whole _ _ w)
bad-here edition count zero [] i f (unfinished q h o) = absurd (omega arith)
bad-here edition count (suc k) [] i f (unfinished q h o) = rw q refl
bad-here edition count zero (r ∷ l) i f (unfinished q h o) = absurd (omega arith)
bad-here edition count (suc k) (r ∷ l) i f (unfinished q h o) = absurd (omega arith)

bad-from : (edition count : ℕ) (rows : List (List ℕ)) (owed i : ℕ) (f : Fault) (p : ℕ) → RefusedFrom edition count owed rows f p → shape_from edition count rows owed i ≡ Err (f, (i + p))
unfolding owed_after shape_from unless-bad
bad-from edition count rows owed i f zero d = let q : i ≡ i + 0 = omega arith in bad-here edition count owed rows i f d.cause ∙ ap (λ (x : ℕ). Err (f, x)) q
bad-from edition count [] owed i f (suc p) d = absurd (omega (arith, d.inside))
bad-from edition count (r ∷ l) zero i f (suc p) d = absurd (omega (arith, d.owing 0 (omega arith)))
bad-from edition count (r ∷ l) (suc k) i f (suc p) d =
    let q : suc i + p ≡ i + suc p = omega arith in
    rw (d.fine 0 (omega arith))
    (bad-from edition count l (k + arity (row_of r).head) (suc i) f p (refused-sooner edition count r l k f p d) ∙ ap (λ (x : ℕ). Err (f, x)) q)

pub bad-shape : (edition count : ℕ) (rows : List (List ℕ)) (f : Fault) (p : ℕ) → Refused edition count rows f p → shape edition count rows ≡ Err (f, p)
unfolding shape
bad-shape edition count rows f p d = let q : 0 + p ≡ p = omega arith in bad-from edition count rows 1 0 f p d ∙ ap (λ (x : ℕ). Err (f, x)) q
