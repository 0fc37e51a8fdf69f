-- By the kind of the function, and by its names.
use Prim.Native.Nat.{ℕ, ◌≤◌}
use mathlib.Core.Path.{◌≡◌, refl, ap}
use mathlib.Core.List.{List, [], ◌∷◌, map}
use native.Mathlib.Omega.{arith}
use native.Mathlib.Decide.{ℕ_discrete}
use lib.ListN.{length}
use Rattle.layout.specs.Rows.{row_table}
use Rattle.meaning.specs.Types.{Form, Param, form_of, params}
use Rattle.meaning.specs.Terms.{kind_no, type_no, size, raw, row_of, tree_of}
use Rattle.reduce.specs.Plan.{row_no, TiesAt, Plans}
use Rattle.reduce.specs.declared.Plan.TheVariants.{Stays}
use Rattle.reduce.proofs.Roots.{whole_in}
use Rattle.reduce.proofs.Quiet.{redex-front}
use Rattle.reduce.proofs.Given.{plan-no-function, plan-nameless}
use Rattle.reduce.proofs.plans.plan_fix.Goals as goal

-- a fix that does not tie stays
untied : (form : ℕ → Form) (l : List (List ℕ)) → map raw (map row_of l) ≡ l → size (tree_of (map row_of l)) ≤ length l → kind_no (row_no l 0) ≡ 11 → (TiesAt form l → ⊥) → Plans form l Stays
untied form l exact inside e z = elim (ℕ_discrete (kind_no (row_no l 1)) 6) [ yes q ↦ named q (params (form (type_no (row_no l 1)))) refl | no q ↦ plan-no-function l exact inside e form q ]
  where
    named : kind_no (row_no l 1) ≡ 6 → (ps : List Param) → params (form (type_no (row_no l 1))) ≡ ps → Plans form l Stays
    named q [] p = plan-nameless l exact inside e q form p
    named q (x ∷ ps) p = absurd (z (e, q, λ n. omega (arith, ap (λ (y : List Param). length y) n, ap (λ (y : List Param). length y) p)))

pub ties-requires : goal.ties-requires
ties-requires c = (redex-front c.args.rows.now c.requires.0, c.requires.1)

pub returns-else-ties : goal.returns-else-ties
returns-else-ties c = untied (form_of c.args.types.now) (row_table c.args.rows.now) c.requires.0.exact (whole_in c.requires.0.one) c.requires.1 (rw c.if-ties.false at c.ties.ensures)

pub returns-then-ties : goal.returns-then-ties
returns-then-ties c = unfold Plans in rw c.if-ties.true at c.ties.ensures
