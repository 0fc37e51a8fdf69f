-- What a step does to the rows: those before the changed place and those behind it stand. Assumes nothing.
use Prim.Native.Nat.{ℕ}
use mathlib.Core.Path.{◌≡◌, ap, sym, ◌∙◌}
use mathlib.Core.List.{List, [], ◌∷◌, ◌++◌, append_assoc, append-nil}
use Rattle.std.specs.Prelude.{Option}
use Rattle.meaning.specs.Types.{Form}
use Rattle.meaning.specs.Terms.{Head, arity, Tree, Forest, node, Row, flat, flats}
use Rattle.meaning.specs.Steps.{Call, go, contract, Places, step}
use Rattle.meaning.proofs.Steps.FreeOrder.{Follows, FollowsIn, root, inside, this, that, step-free}

module _ (form : ℕ → Form) where
  -- rows `ts` become rows `us` by one rule at the row behind `before`
  pub record Changed (k : ℕ) (c : Option Call) (ts us : List Row) : Type 0 where
    pub before : List Row
    pub after : List Row
    pub head : Head
    pub type : ℕ
    pub below : Forest (arity head)
    pub new : Tree
    pub rule : contract form k head type below ≡ go c new
    pub was : ts ≡ before ++ (flat (node head type below) ++ after)
    pub is : us ≡ before ++ (flat new ++ after)

  ahead : {k : ℕ} {c : Option Call} {ts us : List Row} (p : List Row) → Changed k c ts us → Changed k c (p ++ ts) (p ++ us)
  ahead p d = record {
    before = p ++ d.before;
    after = d.after;
    head = d.head;
    type = d.type;
    below = d.below;
    new = d.new;
    rule = d.rule;
    was = ap (λ l. p ++ l) d.was ∙ simp append_assoc;
    is = ap (λ l. p ++ l) d.is ∙ simp append_assoc;
  }

  followed : {k : ℕ} {c : Option Call} {ts us : List Row} (q : List Row) → Changed k c ts us → Changed k c (ts ++ q) (us ++ q)
  followed q d = record {
    before = d.before;
    after = d.after ++ q;
    head = d.head;
    type = d.type;
    below = d.below;
    new = d.new;
    rule = d.rule;
    was = ap (λ l. l ++ q) d.was ∙ simp append_assoc;
    is = ap (λ l. l ++ q) d.is ∙ simp append_assoc;
  }

  mutual
    unfolding flat

    pub changed : {k : ℕ} {c : Option Call} {t u : Tree} → Follows form k c t u → Changed k c (flat t) (flat u)
    changed (root {h} {u} {f} {t} e) = record { before = []; after = []; head = h; type = u; below = f; new = t; rule = e; was = sym (append-nil _); is = sym (append-nil _) }
    changed (inside {h} {u} p) = ahead (record { head = h; type = u } ∷ []) (changed-in p)

    changed-in : {n k : ℕ} {c : Option Call} {a : Places} {f g : Forest n} → FollowsIn form n k c a f g → Changed k c (flats f) (flats g)
    changed-in (this {f} e p) = followed (flats f) (changed p)
    changed-in (that {t} p) = ahead (flat t) (changed-in p)

  pub step-changes : (k : ℕ) (c : Option Call) (t u : Tree) → step form k t ≡ go c u → Changed k c (flat t) (flat u)
  step-changes k c t u e = changed (step-free form k c t u e)
