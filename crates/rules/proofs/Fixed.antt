-- The rule of a kind by the rule of its head. Assumes nothing.
use Rattle.std.proofs.Common.{ℕ, List, true, ◌≡◌, refl}
use Rattle.meaning.specs.Types.{Form, form_no, empty}
use Rattle.meaning.specs.Terms.{Lit, lit, lambda, foreign, future, ite, nil, cons, isnil, zip, project, lproject, bind}
use Rattle.std.specs.Prelude.{eqb}
use Rattle.meaning.specs.Typing.{⟨⟩, ◌▹◌, rule_ok, lit_base, base_no}
use Rattle.rules.proofs.ByRule.{rule-lit, rule-foreign, rule-nil}
use Rattle.rules.specs.Forms.{forms, three, fixed_rule}
use Rattle.layout.specs.Forms.{says}

module _ (ty a b c : ℕ) where
  module _ (s : List (List ℕ)) where
    pub fixed_lit : (l : Lit) → fixed_rule (forms s) (lit l) ty a b c ≡ eqb (form_no (says s ty)) (base_no (lit_base l))
    unfolding fixed_rule three
    fixed_lit l = rule-lit s empty ty l

    pub fixed_foreign : (w : ℕ) → fixed_rule (forms s) (foreign w) ty a b c ≡ eqb (form_no (says s ty)) 7
    unfolding fixed_rule three
    fixed_foreign w = rule-foreign s empty ty w

    pub fixed_nil : fixed_rule (forms s) nil ty a b c ≡ eqb (form_no (says s ty)) 4
    unfolding fixed_rule three
    fixed_nil = rule-nil s empty ty

  module _ (F : ℕ → Form) where
    pub fixed_lambda : fixed_rule F lambda ty a b c ≡ rule_ok F empty lambda ty (a ▹ ⟨⟩)
    unfolding fixed_rule three
    fixed_lambda = refl

    pub fixed_future : (w : ℕ) → fixed_rule F (future w) ty a b c ≡ true
    unfolding fixed_rule three rule_ok
    fixed_future w = refl

    pub fixed_if : fixed_rule F ite ty a b c ≡ rule_ok F empty ite ty (a ▹ b ▹ c ▹ ⟨⟩)
    unfolding fixed_rule three
    fixed_if = refl

    pub fixed_cons : fixed_rule F cons ty a b c ≡ rule_ok F empty cons ty (a ▹ b ▹ ⟨⟩)
    unfolding fixed_rule three
    fixed_cons = refl

    pub fixed_isnil : fixed_rule F isnil ty a b c ≡ rule_ok F empty isnil ty (a ▹ ⟨⟩)
    unfolding fixed_rule three
    fixed_isnil = refl

    pub fixed_zip : (n : ℕ) → fixed_rule F (zip n) ty a b c ≡ rule_ok F empty (zip n) ty (a ▹ ⟨⟩)
    unfolding fixed_rule three
    fixed_zip n = refl

    pub fixed_project : (n : ℕ) → fixed_rule F (project n) ty a b c ≡ rule_ok F empty (project n) ty (a ▹ ⟨⟩)
    unfolding fixed_rule three
    fixed_project n = refl

    pub fixed_lproject : (n : ℕ) → fixed_rule F (lproject n) ty a b c ≡ rule_ok F empty (lproject n) ty (a ▹ ⟨⟩)
    unfolding fixed_rule three
    fixed_lproject n = refl

    pub fixed_let : (w : ℕ) → fixed_rule F (bind w) ty a b c ≡ eqb b ty
    unfolding fixed_rule three rule_ok
    fixed_let w = refl

pub ruleset fixed_rules = (fixed_lit, fixed_foreign, fixed_nil, fixed_lambda, fixed_future, fixed_if, fixed_cons, fixed_isnil, fixed_zip, fixed_project, fixed_lproject, fixed_let)
