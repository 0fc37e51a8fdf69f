-- By the rule.
use Prim.Native.Nat.{ℕ, ◌≤◌}
use mathlib.Core.Path.{◌≡◌, refl, sym, ◌∙◌}
use mathlib.Core.Bool.{false, false≢true}
use mathlib.Core.List.{List, map}
use lib.ListN.{length}
use Rattle.layout.specs.Rows.{row_table}
use Rattle.meaning.specs.Types.{Form, form_of}
use Rattle.meaning.specs.Terms.{raw, row_of, size, tree_of}
use Rattle.reduce.specs.Once.{Goes, Applies}
use Rattle.reduce.specs.declared.once.Rule.{Rule}
use Rattle.reduce.specs.declared.once.Rule.TheVariants as rule
use Rattle.reduce.proofs.AtOnce.{let-some, call-some, if_some, tie-some}
use Rattle.reduce.proofs.once.goes.Goals as goal

-- each of the rules but a zip's makes a tree
rule-goes : (form : ℕ → Form) (l : List (List ℕ)) → map raw (map row_of l) ≡ l → size (tree_of (map row_of l)) ≤ length l → (r : Rule) → Applies form l r → (r ≡ rule.Zip → ⊥) → Goes form l
rule-goes form l exact inside rule.Let e z = let-some l exact inside e form
rule-goes form l exact inside rule.Call (e, q) z = call-some l exact inside e q form
rule-goes form l exact inside rule.Zip a z = absurd (z refl)
rule-goes form l exact inside rule.Then (e, q) z = if_some l exact inside e q form
rule-goes form l exact inside rule.Tie t z = tie-some l exact inside form t

pub returns : goal.returns
returns c = λ b. rule-goes (form_of c.args.types.now) (row_table c.args.rows.now) c.requires.exact c.requires.inside _ c.in-Some.ensures (λ e. let n : c.ne.result ≡ false = rw e at c.ne.ensures in false≢true (sym n ∙ b))
