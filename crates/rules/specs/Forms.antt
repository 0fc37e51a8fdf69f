-- What the type of a number says, and the types that a few children state. Assumes nothing.
use Rattle.std.specs.Prelude.{ℕ, zero, suc, Bool, ◌≡◌, List}
use Rattle.meaning.specs.Types.{Form, form_of, empty}
use Rattle.meaning.specs.Terms.{Head, arity}
use Rattle.meaning.specs.Typing.{Tys, ⟨⟩, ◌▹◌, rule_ok}

abbrev pub forms : List (List ℕ) → ℕ → Form
forms ts = form_of ts

-- the first n of three types
unfoldable pub three : (n : ℕ) → ℕ → ℕ → ℕ → Tys n
three zero a b c = ⟨⟩
three (suc n) a b c = a ▹ three n b c 0

-- the rule of a head with at most three children, over the types that they state
unfoldable pub fixed_rule : (ℕ → Form) → Head → ℕ → ℕ → ℕ → ℕ → Bool
fixed_rule F h ty a b c = rule_ok F empty h ty (three (arity h) a b c)

-- a kind whose children are at most three and whose rule asks only what they state
pub record FixedKind (k : ℕ) : Type 0 where
  pub no-variable : k ≡ 5 → ⊥
  pub no-apply : k ≡ 8 → ⊥
  pub no-fix : k ≡ 11 → ⊥
  pub no-tuple : k ≡ 16 → ⊥
