-- The values of a ground type are data: lists and tuples of literals. Assumes nothing.
use Prim.Native.Nat.{ℕ}
use mathlib.Core.Path.{◌≡◌, refl}
use mathlib.Core.Bool.{Bool, true, false, false≢true}
use mathlib.Core.List.{List, [], ◌∷◌}
use Rattle.meaning.specs.Bytes.{◌∧ᵇ◌}
use Rattle.meaning.specs.Types.{Form, f_tuple, every, ground, member, empty, pick, find, ◌⹁◌}
use Rattle.meaning.specs.Terms.{str, file, truth, lit, var, lambda, foreign, apply, future, ite, fix, nil, cons, isnil, zip, tuple, project, lproject, bind, code, Tree, Forest, node, end, more, ty_of}
use Rattle.meaning.specs.Typing.{list, tys, Rule, scope, Typed, TypedF}
use Rattle.meaning.specs.Steps.{value, values}
use Rattle.meaning.proofs.Trees.Tests.{both, left, right}
use Rattle.meaning.specs.Entries.{reply_kinds}
use Rattle.meaning.proofs.Bytes.TypeTables.{ground-elem, ground-parts, ground-no-function}
use Rattle.meaning.proofs.Trees.EachRow.{Fact, Every, Everys}
use Rattle.meaning.proofs.Steps.Preservation.{bare}

-- the kinds of data, those that a reply may have
abbrev pub Plain : Fact
Plain h u = member (code h) reply_kinds ≡ true

-- Groundness goes down ---------------------------------------------------------------------------------------------

every-right : (p q : ℕ → Bool) (xs : List ℕ) → every (λ x. p x ∧ᵇ q x) xs ≡ true → every q xs ≡ true
unfolding every
every-right p q [] e = refl
every-right p q (x ∷ xs) e = both _ _ (right _ _ (left _ _ e)) (every-right p q xs (right _ _ e))

module _ (form : ℕ → Form) where
  tuple-ground : (t : ℕ) (ts : List ℕ) → ground form t ≡ true → form t ≡ f_tuple ts → every (ground form) ts ≡ true
  tuple-ground t ts g q = every-right _ _ ts (ground-parts form t ts q g)

  cons-ground : (u : ℕ) (f : Forest 2) → Rule form empty cons u (tys f) → ground form u ≡ true → every (ground form) (list (tys f)) ≡ true
  unfolding Rule tys list every
  cons-ground u (more a (more b end)) (e, q) g = both _ _ (ground-elem form u (ty_of a) e g).1 (both _ _ (rw q g) refl)

  -- Their values -------------------------------------------------------------------------------------------------

  mutual
    unfolding Every Typed Rule scope tys ty_of list every value member code ◌∧ᵇ◌ ◌⹁◌ pick find

    ground-plain : (t : Tree) → ground form (ty_of t) ≡ true → value t ≡ true → Typed form empty t → Every Plain t
    ground-plain (node (lit (str w)) u end) g v d = (refl, tt)
    ground-plain (node (lit (file w)) u end) g v d = (refl, tt)
    ground-plain (node (lit (truth true)) u end) g v d = (refl, tt)
    ground-plain (node (lit (truth false)) u end) g v d = (refl, tt)
    ground-plain (node (var x) u f) g v d = absurd (false≢true v)
    ground-plain (node lambda u (more b end)) g v ((ps, e), _, _) = absurd (ground-no-function form u _ _ _ e g)
    ground-plain (node (foreign w) u end) g v ((ps, r, e), _, _) = absurd (ground-no-function form u _ _ _ e g)
    ground-plain (node (apply n) u f) g v d = absurd (false≢true v)
    ground-plain (node (future k) u f) g v d = absurd (false≢true v)
    ground-plain (node ite u f) g v d = absurd (false≢true v)
    ground-plain (node fix u f) g v d = absurd (false≢true v)
    ground-plain (node nil u end) g v d = (refl, tt)
    ground-plain (node cons u f) g v (r, _, d) = (refl, grounds-plain f (cons-ground u f r g) v d)
    ground-plain (node isnil u f) g v d = absurd (false≢true v)
    ground-plain (node (zip m) u (more c end)) g v ((s, ps, r, qs, l, e₁, e₂, e₃, z), _, _) = absurd (ground-no-function form u _ _ _ e₂ g)
    ground-plain (node (tuple n) u f) g v (e, _, d) = (refl, grounds-plain f (tuple-ground u (list (tys f)) g e) v d)
    ground-plain (node (project i) u f) g v d = absurd (false≢true v)
    ground-plain (node (lproject i) u f) g v d = absurd (false≢true v)
    ground-plain (node (bind x) u f) g v d = absurd (false≢true v)

    pub grounds-plain : {n : ℕ} (f : Forest n) → every (ground form) (list (tys f)) ≡ true → values f ≡ true → TypedF form empty bare f → Everys Plain f
    grounds-plain end g v d = tt
    grounds-plain (more t f) g v (c, d) =
        (ground-plain t (left (ground form (ty_of t)) _ g) (left (value t) (values f) v) c, grounds-plain f (right (ground form (ty_of t)) _ g) (right (value t) (values f) v) d)

  pub value-plain : (ty : ℕ) (t : Tree) → ground form ty ≡ true → value t ≡ true → Typed form empty t → ty_of t ≡ ty → Every Plain t
  value-plain ty t g v d e = ground-plain t (rw e g) v d

-- and a tree of such rows is a value
mutual
  unfolding Every value member code ◌∧ᵇ◌

  pub plain_value : (t : Tree) → Every Plain t → value t ≡ true
  plain_value (node (lit (str w)) u f) (e, d) = refl
  plain_value (node (lit (file w)) u f) (e, d) = refl
  plain_value (node (lit (truth true)) u f) (e, d) = refl
  plain_value (node (lit (truth false)) u f) (e, d) = refl
  plain_value (node (var x) u f) (e, d) = absurd (false≢true e)
  plain_value (node lambda u f) (e, d) = absurd (false≢true e)
  plain_value (node (foreign w) u f) (e, d) = absurd (false≢true e)
  plain_value (node (apply n) u f) (e, d) = absurd (false≢true e)
  plain_value (node (future k) u f) (e, d) = absurd (false≢true e)
  plain_value (node ite u f) (e, d) = absurd (false≢true e)
  plain_value (node fix u f) (e, d) = absurd (false≢true e)
  plain_value (node nil u f) (e, d) = refl
  plain_value (node cons u f) (e, d) = plain-values f d
  plain_value (node isnil u f) (e, d) = absurd (false≢true e)
  plain_value (node (zip m) u f) (e, d) = absurd (false≢true e)
  plain_value (node (tuple n) u f) (e, d) = plain-values f d
  plain_value (node (project i) u f) (e, d) = absurd (false≢true e)
  plain_value (node (lproject i) u f) (e, d) = absurd (false≢true e)
  plain_value (node (bind x) u f) (e, d) = absurd (false≢true e)

  plain-values : {n : ℕ} (f : Forest n) → Everys Plain f → values f ≡ true
  plain-values end d = refl
  plain-values (more t f) (c, d) = both (value t) (values f) (plain_value t c) (plain-values f d)
