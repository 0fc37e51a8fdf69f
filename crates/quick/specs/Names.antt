-- The names in scope as an array holds them, the innermost first, and the chains through it: one for each remainder of a name by 256.
-- Assumes nothing.
use Rattle.std.specs.Prelude.{ℕ, suc, ◌+◌, ◌*◌, ◌/◌, ◌%◌, ◌≤◌, ◌<◌, ◌≡◌, cond, List, [], ◌∷◌, map, eqb, length, get_or, drop}
use Rattle.meaning.specs.Types.{Param}

-- an entry is one number: the name, its type, and the entry that is next in its chain
abbrev pub packed : ℕ → ℕ → ℕ → ℕ
packed x t k = x + 65536 * t + 4294967296 * k

abbrev pub name_in : ℕ → ℕ
name_in e = e % 65536

abbrev pub type_in : ℕ → ℕ
type_in e = e / 65536 % 65536

abbrev pub link_in : ℕ → ℕ
link_in e = e / 4294967296 % 65536

unfoldable pub param_in : ℕ → Param
param_in e = record { name = name_in e; type = type_in e }

-- the names in scope, where the innermost is entry b
unfoldable pub in_scope : List ℕ → ℕ → List Param
in_scope es b = map param_in (drop b es)

-- how many entries stand before the first one of chain h
unfoldable pub ahead : ℕ → List ℕ → ℕ
ahead h [] = 0
ahead h (e ∷ es) = cond (eqb (name_in e % 256) h) 0 (suc (ahead h es))

-- each chain begins at its first entry from b on, and goes on from each of its entries to the next
pub record NamesChained (es hs : List ℕ) (b : ℕ) : Type 0 where
  pub low : b ≤ length es
  pub few : length es ≤ 65535
  pub chains : length hs ≡ 256
  pub heads : (h : ℕ) → h < 256 → get_or hs h 0 ≡ b + ahead h (drop b es)
  pub links : (j : ℕ) → b ≤ j → j < length es → link_in (get_or es j 0) ≡ suc j + ahead (name_in (get_or es j 0) % 256) (drop (suc j) es)
