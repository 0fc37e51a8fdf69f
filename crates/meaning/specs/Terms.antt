-- Terms: heads and trees, the kinds table, rows against trees, and the shape that refusals 7 and 13 test. Assumes nothing.
use Rattle.std.specs.Prelude.{ℕ, zero, suc, ◌+◌, Bool, true, false, cond, List, [], ◌∷◌, ◌++◌, eqb, ltb, get_or, drop}
use Rattle.std.specs.Prelude.{Option, None, Some}
use Rattle.meaning.specs.Bytes.{◌∧ᵇ◌, within}
use Rattle.meaning.specs.declared.Fault.{Fault}
use Rattle.meaning.specs.declared.Fault.TheVariants.{Kind, Field, Number, Behind, Unfinished}
use Rattle.std.specs.Prelude.{Result, Ok, Err, ⊤}

pub data Lit : Type 0 where
  str file : ℕ → Lit
  truth : Bool → Lit

-- a kind with its own fields
pub data Head : Type 0 where
  lit : Lit → Head
  var : ℕ → Head
  lambda : Head
  foreign : ℕ → Head
  apply : ℕ → Head
  future : ℕ → Head
  ite fix nil cons isnil : Head
  zip : ℕ → Head
  tuple : ℕ → Head
  project lproject : ℕ → Head
  bind : ℕ → Head

-- how many children a row of this head has
abbrev pub arity : Head → ℕ
arity (lit l) = 0
arity (var x) = 0
arity lambda = 1
arity (foreign w) = 0
arity (apply n) = suc n
arity (future k) = 0
arity ite = 3
arity fix = 1
arity nil = 0
arity cons = 2
arity isnil = 1
arity (zip m) = 1
arity (tuple n) = n
arity (project i) = 1
arity (lproject i) = 1
arity (bind x) = 2

-- a head, the type stated ("every row states its own type") and the children, as many as the head has
mutual
  pub data Tree : Type 0 where
    node : (h : Head) → ℕ → Forest (arity h) → Tree

  pub data Forest : ℕ → Type 0 where
    end : Forest zero
    more : {n : ℕ} → Tree → Forest n → Forest (suc n)

unfoldable pub head_of : Tree → Head
head_of (node h ty f) = h

unfoldable pub ty_of : Tree → ℕ
ty_of (node h ty f) = ty

pub record Row : Type 0 where
  pub head : Head
  pub type : ℕ

-- "Rows .. stand parent first, children in order"
unfoldable mutual
  pub flat : Tree → List Row
  flat (node h ty f) = record { head = h; type = ty } ∷ flats f

  pub flats : {n : ℕ} → Forest n → List Row
  flats end = []
  flats (more t f) = flat t ++ flats f

unfoldable mutual
  pub size : Tree → ℕ
  size (node h ty f) = suc (sizes f)

  pub sizes : {n : ℕ} → Forest n → ℕ
  sizes end = 0
  sizes (more t f) = size t + sizes f

-- Kinds ----------------------------------------------------------------------------------------------------------

-- the number of a head's kind in its row
unfoldable pub code : Head → ℕ
code (lit (str w)) = 1
code (lit (file w)) = 2
code (lit (truth true)) = 3
code (lit (truth false)) = 4
code (var x) = 5
code lambda = 6
code (foreign w) = 7
code (apply n) = 8
code (future k) = 9
code ite = 10
code fix = 11
code nil = 12
code cons = 13
code isnil = 14
code (zip m) = 15
code (tuple n) = 16
code (project i) = 17
code (lproject i) = 18
code (bind x) = 19

-- a tree's kind
unfoldable pub is : ℕ → Tree → Bool
is k t = eqb (code (head_of t)) k

-- column "n, word": what n and word hold; unused fields are zero
unfoldable pub n_of : Head → ℕ
n_of (lit l) = 0
n_of (var x) = 0
n_of lambda = 0
n_of (foreign w) = 0
n_of (apply n) = n
n_of (future k) = 0
n_of ite = 0
n_of fix = 0
n_of nil = 0
n_of cons = 0
n_of isnil = 0
n_of (zip m) = m
n_of (tuple n) = n
n_of (project i) = i
n_of (lproject i) = i
n_of (bind x) = 0

unfoldable pub word_of : Head → ℕ
word_of (lit (str w)) = w
word_of (lit (file w)) = w
word_of (lit (truth b)) = 0
word_of (var x) = x
word_of lambda = 0
word_of (foreign w) = w
word_of (apply n) = 0
word_of (future k) = k
word_of ite = 0
word_of fix = 0
word_of nil = 0
word_of cons = 0
word_of isnil = 0
word_of (zip m) = 0
word_of (tuple n) = 0
word_of (project i) = 0
word_of (lproject i) = 0
word_of (bind x) = x

-- the head that a kind makes of n and word; a number that is no kind makes one that no rule treats apart
unfoldable pub head_from : ℕ → ℕ → ℕ → Head
head_from k n w =
    cond (eqb k 2) (lit (file w))
    (cond (eqb k 3) (lit (truth true))
    (cond (eqb k 4) (lit (truth false))
    (cond (eqb k 5) (var w)
    (cond (eqb k 6) lambda
    (cond (eqb k 7) (foreign w)
    (cond (eqb k 8) (apply n)
    (cond (eqb k 9) (future w)
    (cond (eqb k 10) ite
    (cond (eqb k 11) fix
    (cond (eqb k 12) nil
    (cond (eqb k 13) cons
    (cond (eqb k 14) isnil
    (cond (eqb k 15) (zip n)
    (cond (eqb k 16) (tuple n)
    (cond (eqb k 17) (project n)
    (cond (eqb k 18) (lproject n)
    (cond (eqb k 19) (bind w) (lit (str w)))))))))))))))))))

-- the same column as ranges, for each kind from 0 on: least and greatest n, and the ranges that a word may lie in
pub record Range : Type 0 where
  pub least : ℕ
  pub most : ℕ

pub record Fields : Type 0 where
  pub n_low : ℕ
  pub n_high : ℕ
  pub words : List Range

-- one range, from a word to a word
abbrev pub words-from : ℕ → ℕ → List Range
words-from low high = record { least = low; most = high } ∷ []

abbrev pub none-used : Fields
none-used = record { n_low = 0; n_high = 0; words = words-from 0 0 }

abbrev pub any_word : Fields
any_word = record { n_low = 0; n_high = 0; words = words-from 0 4294967295 }

abbrev pub a-number : Fields
a-number = record { n_low = 0; n_high = 0; words = words-from 1 65535 }

abbrev pub an-n : ℕ → ℕ → Fields
an-n low high = record { n_low = low; n_high = high; words = words-from 0 0 }

abbrev pub kind_fields : List Fields
kind_fields =
    -- 0, no kind
    none-used
    -- 1 str, 2 file
    ∷ any_word ∷ any_word
    -- 3 true, 4 false
    ∷ none-used ∷ none-used
    -- 5 variable: name
    ∷ a-number
    -- 6 native function
    ∷ none-used
    -- 7 foreign function: tool
    ∷ a-number
    -- 8 apply: n arguments
    ∷ an-n 0 8
    -- 9 future: call number
    ∷ a-number
    -- 10 if, 11 fix, 12 nil, 13 cons, 14 isnil
    ∷ none-used ∷ none-used ∷ none-used ∷ none-used ∷ none-used
    -- 15 zip: mask
    ∷ an-n 1 255
    -- 16 tuple: n elements
    ∷ an-n 1 8
    -- 17 project, 18 list project: place
    ∷ an-n 1 8 ∷ an-n 1 8
    -- 19 let: name
    ∷ a-number
    ∷ []

-- which kinds an edition of the file knows: edition 1 those up to 19
unfoldable pub last_kind : ℕ → ℕ
last_kind edition = get_or (0 ∷ 19 ∷ []) edition 0

-- Rows as numbers ------------------------------------------------------------------------------------------------

-- the fields of a term row: kind (one byte), n (one byte), type (two), word (four)
abbrev pub kind_no : List ℕ → ℕ
kind_no r = get_or r 0 0

abbrev pub n_no : List ℕ → ℕ
n_no r = get_or r 1 0

abbrev pub type_no : List ℕ → ℕ
type_no r = get_or r 2 0

abbrev pub word_no : List ℕ → ℕ
word_no r = get_or r 3 0

unfoldable pub raw : Row → List ℕ
raw r = code r.head ∷ n_of r.head ∷ r.type ∷ word_of r.head ∷ []

unfoldable pub row_of : List ℕ → Row
row_of r = record { head = head_from (kind_no r) (n_no r) (word_no r); type = type_no r }

unfoldable pub within_one : List Range → ℕ → Bool
within_one [] w = false
within_one (r ∷ rs) w = cond (within r.least r.most w) true (within_one rs w)

unfoldable pub fits : Fields → List ℕ → Bool
fits f r = within f.n_low f.n_high (n_no r) ∧ᵇ within_one f.words (word_no r)

-- refusal 7: "bad kind, field or type number", of a row alone, in this order
unfoldable pub row_fault : ℕ → ℕ → List ℕ → Option Fault
row_fault edition count r =
    cond (within 1 (last_kind edition) (kind_no r))
    (cond (fits (get_or kind_fields (kind_no r) none-used) r)
    (cond (ltb (type_no r) count) None (Some Number)) (Some Field)) (Some Kind)

-- one whole tree, or the first fault and its row
abbrev pub Shape : Type 0
Shape = Result ⊤ (Fault × ℕ)

unfoldable pub unless-bad : Option Fault → ℕ → Shape → Shape
unless-bad None i s = s
unless-bad (Some f) i s = Err (f, i)

-- "or after the tree's end; row count if the tree is unfinished": the rows from row i on, while `owed` trees are still to come
unfoldable pub shape_from : ℕ → ℕ → List (List ℕ) → ℕ → ℕ → Shape
shape_from edition count [] zero i = Ok tt
shape_from edition count [] (suc owed) i = Err (Unfinished, i)
shape_from edition count (r ∷ l) zero i = unless-bad (row_fault edition count r) i (Err (Behind, i))
shape_from edition count (r ∷ l) (suc owed) i =
    unless-bad (row_fault edition count r) i (shape_from edition count l (owed + arity (row_of r).head) (suc i))

unfoldable pub shape : ℕ → ℕ → List (List ℕ) → Shape
shape edition count rows = shape_from edition count rows 1 0

-- The tree that rows spell ---------------------------------------------------------------------------------------

-- read from the last row: each row takes its children off the trees behind it. Where these run out, a blank stands in
unfoldable pub blank : Tree
blank = node (lit (str 0)) 0 end

unfoldable pub kids : (n : ℕ) → List Tree → Forest n
kids zero ts = end
kids (suc n) [] = more blank (kids n [])
kids (suc n) (t ∷ ts) = more t (kids n ts)

unfoldable pub trees : List Row → List Tree
trees [] = []
trees (r ∷ l) = node r.head r.type (kids (arity r.head) (trees l)) ∷ drop (arity r.head) (trees l)

unfoldable pub top : List Tree → Tree
top [] = blank
top (t ∷ ts) = t

-- the tree that all the rows spell, the one that begins at row i, and the n from row i on
unfoldable pub tree_of : List Row → Tree
tree_of l = top (trees l)

unfoldable pub tree_at : List Row → ℕ → Tree
tree_at l i = top (trees (drop i l))

unfoldable pub grove : List Row → ℕ → (n : ℕ) → Forest n
grove l i n = kids n (trees (drop i l))
