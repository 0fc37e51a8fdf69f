-- The kinds by name: the number of each, and the head that it makes of n and word. Assumes nothing.
use Rattle.std.specs.Prelude.{ℕ, ◌≡◌, ◌<◌, ◌⊎◌, true, false, Option, Some, None}
use Rattle.layout.specs.declared.kinds.Kind.{Kind}
use Rattle.layout.specs.declared.kinds.Kind.TheVariants as kind
use Rattle.meaning.specs.Terms.{Head, lit, str, file, truth, var, lambda, foreign, apply, future, ite, fix, nil, cons, isnil, zip, tuple, project, lproject, bind}

-- the byte of a kind in its row
abbrev pub number_of : Kind → ℕ
number_of kind.Text = 1
number_of kind.File = 2
number_of kind.True = 3
number_of kind.False = 4
number_of kind.Variable = 5
number_of kind.Native = 6
number_of kind.Foreign = 7
number_of kind.Apply = 8
number_of kind.Future = 9
number_of kind.If = 10
number_of kind.Fix = 11
number_of kind.Nil = 12
number_of kind.Cons = 13
number_of kind.IsNil = 14
number_of kind.Zip = 15
number_of kind.Tuple = 16
number_of kind.Project = 17
number_of kind.ListProject = 18
number_of kind.Let = 19

-- what a byte stands for
abbrev pub IsKind : Option Kind → ℕ → Type 0
IsKind (Some k) b = b ≡ number_of k
IsKind None b = (b ≡ 0) ⊎ (19 < b)

-- the head that a kind makes of n and word; what is no kind makes one that no rule treats apart
abbrev pub head_of : Option Kind → ℕ → ℕ → Head
head_of (Some kind.Text) n w = lit (str w)
head_of (Some kind.File) n w = lit (file w)
head_of (Some kind.True) n w = lit (truth true)
head_of (Some kind.False) n w = lit (truth false)
head_of (Some kind.Variable) n w = var w
head_of (Some kind.Native) n w = lambda
head_of (Some kind.Foreign) n w = foreign w
head_of (Some kind.Apply) n w = apply n
head_of (Some kind.Future) n w = future w
head_of (Some kind.If) n w = ite
head_of (Some kind.Fix) n w = fix
head_of (Some kind.Nil) n w = nil
head_of (Some kind.Cons) n w = cons
head_of (Some kind.IsNil) n w = isnil
head_of (Some kind.Zip) n w = zip n
head_of (Some kind.Tuple) n w = tuple n
head_of (Some kind.Project) n w = project n
head_of (Some kind.ListProject) n w = lproject n
head_of (Some kind.Let) n w = bind w
head_of None n w = lit (str w)
