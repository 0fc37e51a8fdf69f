-- What code keeps of a search: the rows passed in one slice, the rows to come at the end of another, a number for each frame. Assumes nothing.
use Rattle.std.specs.Prelude.{ℕ, zero, suc, ◌+◌, ◌*◌, ◌-◌, ◌/◌, ◌%◌, ◌≤◌, ◌≡◌, Bool, false, cond, not, List, [], ◌∷◌, ◌++◌, map, eqb, ltb, length, get_or, set, take, drop}
use Rattle.meaning.specs.Bytes.{◌∧ᵇ◌, read, reads, term_row}
use Rattle.meaning.specs.Types.{member}
use Rattle.meaning.specs.Terms.{arity, Tree, raw, row_of, size, tree_of}
use Rattle.meaning.specs.Steps.{value_kinds, made_of_values}
use Rattle.search.specs.Frames.{Frame, passed_rows}
use Rattle.search.specs.declared.Stand.{Stand}

-- the n rows of a slice that begin at byte `at`
unfoldable pub table : List ℕ → ℕ → ℕ → List (List ℕ)
table s at n = reads term_row n (drop at s)

-- how many rows a slice has, and those from row r on
abbrev pub row_count : List ℕ → ℕ
row_count s = length s / 8

unfoldable pub to_come : List ℕ → ℕ → List (List ℕ)
to_come right r = table right (8 * r) (row_count right - r)

-- n rows go from row r of one slice to row l of another
unfoldable pub copied : List ℕ → ℕ → List ℕ → ℕ → ℕ → List ℕ
copied left l right r n = take (8 * l) left ++ (take (8 * n) (drop (8 * r) right) ++ drop (8 * l + 8 * n) left)

-- a frame's number: its row among the rows passed, its trees still to come, its flag
unfoldable pub row_in : ℕ → ℕ
row_in x = x / 1024

unfoldable pub owed_in : ℕ → ℕ
owed_in x = x % 1024 / 2

unfoldable pub flag_in : ℕ → Bool
flag_in x = eqb (x % 2) 1

-- the number of a frame that is entered, and of one in which a tree is passed that is as its rule wants it or not
unfoldable pub entered_number : ℕ → ℕ → ℕ
entered_number l n = 1024 * l + 2 * n + 1

unfoldable pub passed_number : ℕ → Bool → ℕ
passed_number x fine = cond fine (x - 2) (x - 2 - x % 2)

pub record Entry (x : ℕ) (F : Frame) (Fs : List Frame) : Type 0 where
  pub at : row_in x ≡ length (passed_rows Fs)
  pub owes : owed_in x + length F.before ≡ arity F.head
  pub flag : flag_in x ≡ F.clear

unfoldable pub Held : List ℕ → ℕ → List Frame → Type 0
Held frames zero [] = Unit {0}
Held frames zero (F ∷ Fs) = ⊥
Held frames (suc d) [] = ⊥
Held frames (suc d) (F ∷ Fs) = Entry (get_or frames d 0) F Fs × Held frames d Fs

-- the first l rows are the rows passed, each as it is written, and d numbers are the frames
pub record Kept (left frames : List ℕ) (l d : ℕ) (Fs : List Frame) : Type 0 where
  pub rows : table left 0 l ≡ map raw (passed_rows Fs)
  pub held : Held frames d Fs

-- the search goes on by n rows, into k frames
unfoldable pub moved : Stand → ℕ → ℕ → Stand
moved s n k = record { l = s.l + n; r = s.r + n; d = s.d + k; here = false }

-- the first tree of the rows to come
unfoldable pub tree_here : List ℕ → ℕ → Tree
tree_here right r = tree_of (map row_of (to_come right r))

-- a row was entered: it is a frame
pub record Enters (left left' right frames frames' : List ℕ) (s s' : Stand) : Type 0 where
  pub bytes : left' ≡ copied left s.l right s.r 1
  pub numbers : frames' ≡ set frames s.d (entered_number s.l (arity (row_of (read term_row (drop (8 * s.r) right))).head))
  pub few : arity (row_of (read term_row (drop (8 * s.r) right))).head ≤ 256
  pub stand : s' ≡ moved s 1 1

-- the tree at the search was passed
pub record Passes (left left' right frames frames' : List ℕ) (s : Stand) (fine : Bool) (s' : Stand) : Type 0 where
  pub bytes : left' ≡ copied left s.l right s.r (size (tree_here right s.r))
  pub numbers : frames' ≡ set frames (s.d - 1) (passed_number (get_or frames (s.d - 1) 0) fine)
  pub stand : s' ≡ moved s (size (tree_here right s.r)) 0

-- the innermost frame was left: its tree is passed in the frame around it
pub record Leaves (frames frames' : List ℕ) (s : Stand) (fine : Bool) (s' : Stand) : Type 0 where
  pub numbers : frames' ≡ set frames (s.d - 2) (passed_number (get_or frames (s.d - 2) 0) fine)
  pub stand : s' ≡ record { l = s.l; r = s.r; d = s.d - 1; here = false }

-- Whether a tree that is passed is as its frame's rule wants it ------------------------------------------------------

abbrev pub kind_at : List ℕ → ℕ → ℕ
kind_at s i = get_or s (8 * i) 0

-- the kind of a frame's first tree: behind the frame's row if it was passed, else at the search
unfoldable pub first_kind : List ℕ → ℕ → ℕ → ℕ → ℕ
first_kind left l at k = cond (ltb (at + 1) l) (kind_at left (at + 1)) k

-- the frame is no zip, which wants nothing that is looked at
unfoldable pub wants : ℕ → ℕ → Bool
wants k c = not (eqb k 8 ∧ᵇ eqb c 15)

-- the innermost frame, of the tree at the search
unfoldable pub wants_here : List ℕ → List ℕ → List ℕ → Stand → Bool
wants_here left right frames s = let at = row_in (get_or frames (s.d - 1) 0) in wants (kind_at left at) (first_kind left s.l at (kind_at right s.r))

-- a row whose own rule stays, in the innermost frame
unfoldable pub fits_here : List ℕ → List ℕ → List ℕ → Stand → Bool
fits_here left right frames s = wants_here left right frames s ∧ᵇ member (kind_at right s.r) value_kinds

-- the innermost frame, all of whose trees are passed: whether its tree is a value
unfoldable pub value_end : List ℕ → List ℕ → ℕ → Bool
value_end left frames i = member (kind_at left (row_in (get_or frames i 0))) made_of_values ∧ᵇ flag_in (get_or frames i 0)

-- and whether it is as the frame around it wants it
unfoldable pub fits_end : List ℕ → List ℕ → Stand → Bool
fits_end left frames s =
    let at = row_in (get_or frames (s.d - 2) 0) in
    wants (kind_at left at) (kind_at left (at + 1)) ∧ᵇ value_end left frames (s.d - 1)
