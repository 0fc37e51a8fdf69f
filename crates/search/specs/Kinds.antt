-- What a row waits for and where it looks, by the numbers of the rows in sight. Assumes nothing.
use Rattle.std.specs.Prelude.{ℕ, ◌-◌, Bool, true, false, cond, not, List, [], ◌∷◌, eqb}
use Rattle.meaning.specs.Bytes.{◌∧ᵇ◌}
use Rattle.terms.specs.Masks.{bit}
use Rattle.meaning.specs.Steps.{◌∨ᵇ◌}

-- a row of kind k whose first tree is of kind c
unfoldable pub waits_by : ℕ → ℕ → Bool
waits_by k c =
    cond (eqb k 8) (not (eqb c 6))
    (cond (eqb k 10) (not (eqb c 3 ∨ᵇ eqb c 4))
    (cond (eqb k 13) true
    (cond (eqb k 14) (not (eqb c 12 ∨ᵇ eqb c 13))
    (cond (eqb k 16) true
    (cond (eqb k 17) (not (eqb c 16))
    (cond (eqb k 18) (not (eqb c 12 ∨ᵇ eqb c 13)) false))))))

-- place j of a row that waits, of kind k, whose first tree is of kind c with mask m, where a tree of kind t stands
unfoldable pub looks_by : ℕ → ℕ → ℕ → ℕ → ℕ → Bool
looks_by k j c m t =
    cond (eqb k 8) (cond (eqb c 7) (not (eqb j 0)) (cond (eqb c 15) (not (eqb j 0) ∧ᵇ (bit m (j - 1) ∧ᵇ not (eqb t 12 ∨ᵇ eqb t 13))) (eqb j 0)))
    (cond (eqb k 13) true (cond (eqb k 16) true (eqb j 0)))

-- the rows that are values with no tree below them, and those that are made of values; and how many trees such a row has below it
abbrev pub part_kinds : List ℕ
part_kinds = 1 ∷ 2 ∷ 3 ∷ 4 ∷ 7 ∷ 12 ∷ 13 ∷ 16 ∷ []

unfoldable pub parts_below : ℕ → ℕ → ℕ
parts_below k n = cond (eqb k 16) n (cond (eqb k 13) 2 0)
