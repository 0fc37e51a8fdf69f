-- A rule that sends nothing does not ask for the next number; and rows that are a tree's are one. Assumes nothing.
use Prim.Native.Nat.{ℕ, ◌≤◌}
use mathlib.Core.Path.{◌≡◌, refl, ap, sym, ◌∙◌, subst}
use mathlib.Core.Bool.{Bool, true, false, cond}
use mathlib.Core.List.{List, [], ◌∷◌, map}
use Rattle.std.specs.Prelude.{Option, None, Some}
use lib.Dec.{eqb}
use lib.ListN.{length, get_or, length-map}
use Rattle.layout.specs.Rows.{row_table, term_rows}
use Rattle.layout.proofs.Tables.{row-table-length}
use Rattle.meaning.specs.Bytes.{◌∧ᵇ◌, within}
use Rattle.meaning.specs.Types.{Form}
use Rattle.meaning.specs.Terms.{Head, lit, var, lambda, foreign, apply, future, ite, fix, nil, cons, isnil, zip, tuple, project, lproject, bind, arity, code, Tree, Forest, node, end, more, head_of, is, flat, size, raw, row_of, tree_of}
use Rattle.meaning.specs.Typing.{first_is}
use Rattle.meaning.specs.Steps.{Out, stay, go, become, child, values, ready, any_nil, if_step, isnil_step, project_step, send_step, lproject_step, tie, fix_step, zip_step, apply_step, let_step, contract}
use Rattle.meaning.specs.Types.{Param}
use Rattle.meaning.specs.Terms.{n_of}
use Rattle.meaning.specs.Terms.{kind_no, n_no, word_no, row_fault, kind_fields, none-used, a-number, within_one}
use Rattle.meaning.proofs.Trees.Tests.{within-if}
use native.Mathlib.Omega.{arith}
use Rattle.meaning.specs.Records.{version}
use Rattle.meaning.proofs.Trees.EachRow.{Every}
use Rattle.meaning.proofs.Bytes.RowTables.{rows-raw, legal, in-range}
use Rattle.meaning.proofs.Trees.Parse.{length-flat, tree-of-flat}
use Rattle.reduce.specs.Rule.{quiet, rule_of, Redex, Front}

-- a call of a foreign function: what sends, if anything does
abbrev pub calls : (h : Head) → Forest (arity h) → Bool
calls h f = eqb (code h) 8 ∧ᵇ first_is 7 f

cond_same : {A : Type 0} (b : Bool) (x : A) → cond b x x ≡ x
cond_same true x = refl
cond_same false x = refl

quiet-cond : (b : Bool) (o p : Out) → quiet (cond b o p) ≡ cond b (quiet o) (quiet p)
quiet-cond true o p = refl
quiet-cond false o p = refl

pub send-quiet : {n : ℕ} (k u : ℕ) (c : Tree) (args : Forest n) → quiet (send_step k u c args) ≡ None
unfolding quiet send_step
send-quiet k u c args = quiet-cond (values args) _ _ ∙ cond_same (values args) None

module _ (form : ℕ → Form) where
  apply-quiet : {n : ℕ} (k u : ℕ) (c : Tree) (args : Forest n) → quiet (apply_step form k u c args) ≡ quiet (apply_step form 0 u c args)
  unfolding apply_step
  apply-quiet k u c args = by_kind (is 6 c) (is 7 c) _ _
    where
      by_kind : (a b : Bool) (p q : Out) → quiet (cond a p (cond b (send_step k u c args) q)) ≡ quiet (cond a p (cond b (send_step 0 u c args) q))
      by_kind true b p q = refl
      by_kind false true p q = send-quiet k u c args ∙ sym (send-quiet 0 u c args)
      by_kind false false p q = refl

  -- THE NEXT NUMBER does not matter
  pub quiet-rule : (k : ℕ) (h : Head) (u : ℕ) (f : Forest (arity h)) → quiet (contract form k h u f) ≡ rule_of form (node h u f)
  unfolding rule_of contract
  quiet-rule k (lit l) u f = refl
  quiet-rule k (var x) u f = refl
  quiet-rule k lambda u f = refl
  quiet-rule k (foreign w) u f = refl
  quiet-rule k (apply n) u (more c args) = apply-quiet k u c args
  quiet-rule k (future j) u f = refl
  quiet-rule k ite u (more c (more a (more b end))) = refl
  quiet-rule k fix u (more c end) = refl
  quiet-rule k nil u f = refl
  quiet-rule k cons u f = refl
  quiet-rule k isnil u (more c end) = refl
  quiet-rule k (zip m) u f = refl
  quiet-rule k (tuple n) u f = refl
  quiet-rule k (project i) u (more c end) = refl
  quiet-rule k (lproject i) u (more c end) = refl
  quiet-rule k (bind x) u (more a (more b end)) = refl

  -- what is done without a call
  abbrev Quiet : Out → Type 0
  Quiet o = o ≡ become (quiet o)

  still-quiet : (b : Bool) (o p : Out) → Quiet o → Quiet p → Quiet (cond b o p)
  still-quiet true o p x y = x
  still-quiet false o p x y = y

  goes-quiet : (t : Tree) → Quiet (go None t)
  unfolding quiet become
  goes-quiet t = refl

  stays-quiet : Quiet stay
  unfolding quiet become
  stays-quiet = refl

  becomes-quiet : (o : Option Tree) → Quiet (become o)
  unfolding quiet become
  becomes-quiet None = refl
  becomes-quiet (Some t) = refl

  tie-quiet : (u : ℕ) (c : Tree) (ps : List Param) → Quiet (tie form u c ps)
  unfolding tie
  tie-quiet u c [] = stays-quiet
  tie-quiet u c (p ∷ ps) = goes-quiet _

  own-quiet : (k : ℕ) (h : Head) (u : ℕ) (f : Forest (arity h)) → calls h f ≡ false → Quiet (contract form k h u f)
  unfolding contract code first_is ◌∧ᵇ◌ apply_step if_step isnil_step project_step lproject_step fix_step let_step zip_step
  own-quiet k (lit l) u f e = stays-quiet
  own-quiet k (var x) u f e = stays-quiet
  own-quiet k lambda u f e = stays-quiet
  own-quiet k (foreign w) u f e = stays-quiet
  own-quiet k (apply n) u (more c args) e =
      rw e (still-quiet (is 6 c) _ _ (goes-quiet _) (still-quiet (is 15 c) _ _ (still-quiet (ready (n_of (head_of c)) args) _ _ (still-quiet (any_nil (n_of (head_of c)) args) _ _ (goes-quiet _) (goes-quiet _)) stays-quiet) stays-quiet))
  own-quiet k (future j) u f e = stays-quiet
  own-quiet k ite u (more c (more a (more b end))) e = still-quiet (is 3 c) _ _ (goes-quiet a) (still-quiet (is 4 c) _ _ (goes-quiet b) stays-quiet)
  own-quiet k fix u (more c end) e = still-quiet (is 6 c) _ _ (tie-quiet u c _) stays-quiet
  own-quiet k nil u f e = stays-quiet
  own-quiet k cons u f e = stays-quiet
  own-quiet k isnil u (more c end) e = still-quiet (is 12 c) _ _ (goes-quiet _) (still-quiet (is 13 c) _ _ (goes-quiet _) stays-quiet)
  own-quiet k (zip m) u f e = stays-quiet
  own-quiet k (tuple n) u f e = stays-quiet
  own-quiet k (project i) u (more c end) e = still-quiet (is 16 c) _ _ (becomes-quiet (child i c)) stays-quiet
  own-quiet k (lproject i) u (more c end) e = still-quiet (is 12 c) _ _ (goes-quiet _) (still-quiet (is 13 c) _ _ (goes-quiet _) stays-quiet)
  own-quiet k (bind x) u (more a (more b end)) e = goes-quiet _

  -- WHERE NOTHING IS SENT the rule of a row is all that reduces there
  pub rule-is : (k : ℕ) (h : Head) (u : ℕ) (f : Forest (arity h)) → calls h f ≡ false → contract form k h u f ≡ become (rule_of form (node h u f))
  rule-is k h u f e = own-quiet k h u f e ∙ ap become (quiet-rule k h u f)

one-range : (w : ℕ) → within_one a-number.words w ≡ true → w ≤ 65535
unfolding within_one
one-range w e = by-test (within 1 65535 w) refl e
  where
    by-test : (b : Bool) → within 1 65535 w ≡ b → cond b true false ≡ true → w ≤ 65535
    by-test true p q = (within-if 1 65535 w p).1
    by-test false p q = let z : ◌≡◌ {A = ℕ} 0 1 = cc in absurd (omega arith)

word_fits : (count : ℕ) (r : List ℕ) → row_fault version count r ≡ None → kind_no r ≡ 19 → word_no r ≤ 65535
word_fits count r p k = one-range (word_no r) (ap (λ (x : ℕ). within_one (get_or kind_fields x none-used).words (word_no r)) (sym k) ∙ (in-range version count r p).word_in)

args_fit : (count : ℕ) (r : List ℕ) → row_fault version count r ≡ None → kind_no r ≡ 8 → n_no r ≤ 8
args_fit count r p k = subst (λ (x : ℕ). n_no r ≤ (get_or kind_fields x none-used).n_high) k (in-range version count r p).n_to

first-args : (count : ℕ) (x : Tree) → Every (legal count) x → kind_no (get_or (map raw (flat x)) 0 []) ≡ 8 → n_no (get_or (map raw (flat x)) 0 []) ≤ 8
unfolding flat Every
first-args count (node h u f) (p, ps) k = args_fit count (raw (record { head = h; type = u })) p k

first-named : (count : ℕ) (x : Tree) → Every (legal count) x → kind_no (get_or (map raw (flat x)) 0 []) ≡ 19 → word_no (get_or (map raw (flat x)) 0 []) ≤ 65535
unfolding flat Every
first-named count (node h u f) (p, ps) k = word_fits count (raw (record { head = h; type = u })) p k

-- the rows of a tree
module _ (rows : List ℕ) (t : Tree) (e : row_table rows ≡ map raw (flat t)) where
  rows-flat : term_rows rows ≡ flat t
  rows-flat = ap (map row_of) e ∙ rows-raw (flat t)

  pub tree_is : tree_of (term_rows rows) ≡ t
  tree_is = ap tree_of rows-flat ∙ tree-of-flat t

  -- a let's name is in range where its row is
  let-named : (count : ℕ) → Every (legal count) t → kind_no (get_or (row_table rows) 0 []) ≡ 19 → word_no (get_or (row_table rows) 0 []) ≤ 65535
  let-named count d q = rw e (first-named count t d (rw e at q))

  args-few : (count : ℕ) → Every (legal count) t → kind_no (get_or (row_table rows) 0 []) ≡ 8 → n_no (get_or (row_table rows) 0 []) ≤ 8
  args-few count d q = rw e (first-args count t d (rw e at q))

  pub redex-of : (count : ℕ) → Every (legal count) t → length rows ≤ 16384 → Redex rows
  redex-of count d h =
      record {
        few = h;
        exact = ap (map raw) rows-flat ∙ sym e;
        one = ap size tree_is ∙ sym (length-flat t) ∙ sym (ap length e ∙ length-map (flat t) raw);
        name = let-named count d;
        args = args-few count d;
      }

-- rows that are one tree begin with it
pub redex-front : (rows : List ℕ) → Redex rows → Front rows
redex-front rows R = record { few = omega (arith, R.few, row-table-length rows); exact = R.exact; inside = omega (arith, R.one); name = R.name }
