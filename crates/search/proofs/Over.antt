-- Rows parsed over the trees behind them; what the rows passed spell. Assumes nothing.
use Prim.Native.Nat.{ℕ, zero, suc, ◌≤◌}
use mathlib.Core.Path.{◌≡◌, refl, ap, sym, ◌∙◌}
use mathlib.Core.Bool.{Bool}
use mathlib.Core.List.{List, [], ◌∷◌, ◌++◌, append_assoc, append-nil}
use native.Mathlib.Omega.{arith}
use lib.ListN.{length, drop, length-append}
use Rattle.meaning.specs.Terms.{Head, arity, Tree, Forest, node, end, more, Row, flat, flats, kids, trees, top, tree_of}
use Rattle.meaning.proofs.Trees.Parse.{front, length-flat}
use Rattle.terms.proofs.Scan.{size-some}
use Rattle.search.specs.Frames.{over, spelled, Frame, below, close, around, row_of_frame, passed_rows, entered, passed_by}

-- THE LINK: rows before others are parsed over the trees of the others
pub trees-over : (l right : List Row) → trees (l ++ right) ≡ over l (trees right)
unfolding trees over
trees-over [] right = refl
trees-over (r ∷ l) right = rw (trees-over l right) refl

pub over-append : (l m : List Row) (ts : List Tree) → over (l ++ m) ts ≡ over l (over m ts)
unfolding over
over-append [] m ts = refl
over-append (r ∷ l) m ts = rw (over-append l m ts) refl

pub kids-front : {n : ℕ} (f : Forest n) (ts : List Tree) → (kids n (front f ts) ≡ f) × (drop n (front f ts) ≡ ts)
unfolding kids front
kids-front end ts = (refl, refl)
kids-front (more t f) ts = (ap (λ g. more t g) (kids-front f ts).0, (kids-front f ts).1)

mutual
  unfolding flat over front

  pub over-flat : (t : Tree) (ts : List Tree) → over (flat t) ts ≡ t ∷ ts
  over-flat (node h u f) ts = rw (over-flats f ts) (rw ((kids-front f ts).0, (kids-front f ts).1) refl)

  over-flats : {n : ℕ} (f : Forest n) (ts : List Tree) → over (flats f) ts ≡ front f ts
  over-flats end ts = refl
  over-flats (more t f) ts = over-append (flat t) (flats f) ts ∙ ap (over (flat t)) (over-flats f ts) ∙ over-flat t (front f ts)

pub over-spelled : (B ts : List Tree) → over (spelled B) ts ≡ B ++ ts
unfolding over spelled
over-spelled [] ts = refl
over-spelled (t ∷ B) ts = over-append (flat t) (spelled B) ts ∙ ap (over (flat t)) (over-spelled B ts) ∙ over-flat t (B ++ ts)

pub over-passed : (Fs : List Frame) (ts : List Tree) → over (passed_rows Fs) ts ≡ around Fs ts
unfolding over passed_rows around close below
over-passed [] ts = refl
over-passed (F ∷ Fs) ts =
    over-append (passed_rows Fs) (row_of_frame F ∷ spelled F.before) ts
    ∙ rw (over-spelled F.before ts) (over-passed Fs (close F ts))

-- THE WHOLE: the rows passed and the rows to come spell what the frames are around the trees to come
pub whole : (Fs : List Frame) (right : List Row) → tree_of (passed_rows Fs ++ right) ≡ top (around Fs (trees right))
unfolding tree_of
whole Fs right = ap top (trees-over (passed_rows Fs) right ∙ over-passed Fs (trees right))

-- What is passed goes to the end of the rows passed: a row that is entered, a whole tree
pub rows-entered : (Fs : List Frame) (h : Head) (u : ℕ) → passed_rows (entered h u ∷ Fs) ≡ passed_rows Fs ++ (record { head = h; type = u } ∷ [])
unfolding passed_rows spelled
rows-entered Fs h u = refl

pub spelled-append : (B C : List Tree) → spelled (B ++ C) ≡ spelled B ++ spelled C
unfolding spelled
spelled-append [] C = refl
spelled-append (t ∷ B) C = rw (spelled-append B C) (sym (append_assoc (flat t) (spelled B) (spelled C)))

pub rows-passed : (F : Frame) (Fs : List Frame) (t : Tree) (v : Bool) → passed_rows (passed_by F t v ∷ Fs) ≡ passed_rows (F ∷ Fs) ++ flat t
unfolding passed_rows spelled
rows-passed F Fs t v = rw (spelled-append F.before (t ∷ []), append-nil) (simp append_assoc)

-- Left with its last tree, a frame's rows are those of its tree
pub rows_left : (F : Frame) (Fs : List Frame) → passed_rows (F ∷ Fs) ≡ passed_rows Fs ++ (row_of_frame F ∷ spelled F.before)
unfolding passed_rows
rows_left F Fs = refl

-- Rows of trees ----------------------------------------------------------------------------------------------------

pub spelled-some : (b : Tree) (B : List Tree) → 1 ≤ length (spelled (b ∷ B))
unfolding spelled
spelled-some b B = omega (arith, length-append (flat b) (spelled B), length-flat b, size-some b)

spelled-kids : (n : ℕ) (ts : List Tree) → n ≤ length ts → flats (kids n ts) ++ spelled (drop n ts) ≡ spelled ts
unfolding kids flat spelled
spelled-kids zero ts h = refl
spelled-kids (suc n) [] h = absurd (omega arith)
spelled-kids (suc n) (t ∷ ts) h = append_assoc (flat t) (flats (kids n ts)) (spelled (drop n ts)) ∙ ap (λ (l : List Row). flat t ++ l) (spelled-kids n ts (omega arith))

-- a frame that is closed has its row before the rows of its trees
pub spelled-close : (F : Frame) (ts : List Tree) → arity F.head ≤ length (F.before ++ ts) → spelled (close F ts) ≡ row_of_frame F ∷ spelled (F.before ++ ts)
unfolding close below spelled flat
spelled-close F ts h = ap (λ (l : List Row). row_of_frame F ∷ l) (spelled-kids (arity F.head) (F.before ++ ts) h)
