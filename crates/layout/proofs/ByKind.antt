-- The head that a number makes, by the kind that it stands for. Assumes nothing.
use Rattle.std.specs.Prelude.{ℕ, ◌≡◌, refl, Option, Some, None}
use Rattle.std.proofs.Common.{ap, ◌∙◌, arith}
use Rattle.layout.specs.declared.kinds.Kind.{Kind}
use Rattle.layout.specs.declared.kinds.Kind.TheVariants as kind
use Rattle.layout.specs.Kinds.{number_of, IsKind, head_of}
use Rattle.meaning.specs.Terms.{lit, str, head_from}

head-known : (k : Kind) (n w : ℕ) → head_from (number_of k) n w ≡ head_of (Some k) n w
unfolding head_from
head-known kind.Text n w = refl
head-known kind.File n w = refl
head-known kind.True n w = refl
head-known kind.False n w = refl
head-known kind.Variable n w = refl
head-known kind.Native n w = refl
head-known kind.Foreign n w = refl
head-known kind.Apply n w = refl
head-known kind.Future n w = refl
head-known kind.If n w = refl
head-known kind.Fix n w = refl
head-known kind.Nil n w = refl
head-known kind.Cons n w = refl
head-known kind.IsNil n w = refl
head-known kind.Zip n w = refl
head-known kind.Tuple n w = refl
head-known kind.Project n w = refl
head-known kind.ListProject n w = refl
head-known kind.Let n w = refl

head-unknown : (b n w : ℕ) → IsKind None b → head_from b n w ≡ lit (str w)
unfolding head_from
head-unknown b n w h = grind arith

-- WHAT A NAMED KIND TELLS
pub head_named : (o : Option Kind) (b n w : ℕ) → IsKind o b → head_from b n w ≡ head_of o n w
head_named (Some k) b n w h = ap (λ (x : ℕ). head_from x n w) h ∙ head-known k n w
head_named None b n w h = head-unknown b n w h
