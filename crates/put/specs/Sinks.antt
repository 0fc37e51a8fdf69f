-- What a sink holds behind a pass. Assumes nothing.
use Rattle.std.specs.Prelude.{ℕ, ◌+◌, ◌≡◌, List, map, length}
use Rattle.meaning.specs.Types.{Form}
use Rattle.meaning.specs.Terms.{row_of, size, tree_at}
use Rattle.put.specs.Put.{put_rows}

-- the rows with the arguments put are taken, and the row behind the body is e
pub record Taken {S : Type 0} (holds : S → List (List ℕ) → Type 0) (room loan : S → ℕ) (form : ℕ → Form) (l : List (List ℕ)) (body : ℕ) (names bounds : List ℕ) (sink sink' : S) (e : ℕ) : Type 0 where
  pub behind : e ≡ body + size (tree_at (map row_of l) body)
  pub rows : holds sink' (put_rows form l body names bounds)
  pub left : room sink' + length (put_rows form l body names bounds) ≡ room sink
  pub same_loan : loan sink' ≡ loan sink
