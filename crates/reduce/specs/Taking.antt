-- What becomes of rows that go to a sink. Assumes nothing.
use Rattle.std.specs.Prelude.{ℕ, ◌+◌, ◌≤◌, ◌≡◌, Bool, true, List, ◌++◌, length}

-- if all went well they are taken, behind those that it holds; where there is room, all goes well
pub record Takes {S : Type 0} (holds : S → List (List ℕ) → Type 0) (room loan : S → ℕ) (sink sink' : S) (well : Bool) (x : List (List ℕ)) : Type 0 where
  pub taken : well ≡ true → (l : List (List ℕ)) → holds sink l → holds sink' (l ++ x) × (room sink' + length x ≡ room sink)
  pub fits : length x ≤ room sink → well ≡ true
  pub same_loan : loan sink' ≡ loan sink
