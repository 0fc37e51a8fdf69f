-- Rows of one hash in chains: a row that equals row t is on the chain of its hash. Assumes nothing.
use Rattle.std.specs.Prelude.{ℕ, zero, suc, ◌+◌, ◌*◌, ◌/◌, ◌%◌, ◌<◌, ◌≡◌, Bool, true, cond, List, [], ◌∷◌, eqb, length, drop, get_or}
use Rattle.meaning.specs.Types.{form_no, parts_no, result_no, fresh}
use Rattle.types.specs.Table.{type_at, rows_before}

-- a row's hash, below 256: its words by weights that differ, then spread
unfoldable pub weigh : List ℕ → ℕ → ℕ
weigh [] w = 0
weigh (x ∷ []) w = 0
weigh (x ∷ y ∷ s) w = w * (x + 65536 * y) + weigh s (w * 37 % 65536)

unfoldable pub hash : List ℕ → ℕ
hash r = (form_no r + 256 * parts_no r + 65536 * result_no r + weigh (drop 3 r) 37) % 4294967296 * 2654435769 / 16777216 % 256

abbrev pub hash_at : List ℕ → ℕ → ℕ
hash_at s t = hash (type_at s t)

-- the last row before t of hash h, counted from 1; 0 if there is none
unfoldable pub last_of : (ℕ → ℕ) → ℕ → ℕ → ℕ
last_of key zero h = 0
last_of key (suc t) h = cond (eqb (key t) h) (suc t) (last_of key t h)

-- each row before t is linked to the last before it of its hash
pub record Linked (s links : List ℕ) (t : ℕ) : Type 0 where
  pub sized : length links ≡ 256
  pub link : (j : ℕ) → j < t → get_or links j 0 ≡ last_of (hash_at s) j (hash_at s j)

-- the rows before t are in chains, and each hash has the head of its chain
pub record Chained (s heads links : List ℕ) (t : ℕ) : Type 0 where
  pub many : length heads ≡ 256
  pub head : (h : ℕ) → h < 256 → get_or heads h 0 ≡ last_of (hash_at s) t h
  pub linked : Linked s links t

-- whether row t is fresh; if so it is in a chain too
pub record Joined (s heads links : List ℕ) (t : ℕ) (b : Bool) : Type 0 where
  pub answer : b ≡ fresh (rows_before s t) (type_at s t)
  pub chained : b ≡ true → Chained s heads links (t + 1)
