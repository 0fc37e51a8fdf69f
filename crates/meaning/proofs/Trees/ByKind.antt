-- What the number of a kind tells of a tree: its head and the trees below it. Assumes nothing.
use Prim.Native.Nat.{ℕ}
use mathlib.Core.Path.{◌≡◌, refl, ap, sym, ◌∙◌, subst}
use mathlib.Core.Bool.{true, false}
use lib.Dec.{eqb}
use borrow.Author.Tests.{eqb-true}
use Rattle.meaning.specs.Terms.{Lit, str, file, truth, Head, lit, var, lambda, foreign, apply, future, ite, fix, nil, cons, isnil, zip, tuple, project, lproject, bind, arity, code, n_of, word_of, head_from, Tree, Forest, node, end, more, head_of, ty_of, is}
use Rattle.meaning.specs.Typing.{below_ok}

-- a head is what its kind makes of its fields
pub made : (h : Head) → head_from (code h) (n_of h) (word_of h) ≡ h
unfolding head_from code n_of word_of
made (lit (str w)) = refl
made (lit (file w)) = refl
made (lit (truth true)) = refl
made (lit (truth false)) = refl
made (var x) = refl
made lambda = refl
made (foreign w) = refl
made (apply n) = refl
made (future k) = refl
made ite = refl
made fix = refl
made nil = refl
made cons = refl
made isnil = refl
made (zip m) = refl
made (tuple n) = refl
made (project i) = refl
made (lproject i) = refl
made (bind x) = refl

pub head-is : (k : ℕ) (h : Head) → eqb (code h) k ≡ true → h ≡ head_from k (n_of h) (word_of h)
head-is k h e = sym (made h) ∙ ap (λ x. head_from x (n_of h) (word_of h)) (eqb-true (code h) k e)

-- a tree under another name of its head
renamed : {h h' : Head} (ty : ℕ) (f : Forest (arity h)) → h ≡ h' → (g : Forest (arity h')) × (node h ty f ≡ node h' ty g)
renamed {h} ty f e = subst (λ x. (g : Forest (arity x)) × (node h ty f ≡ node x ty g)) e (f, refl)

-- a tree whose kind is k
kind-is : (k : ℕ) (t : Tree) → is k t ≡ true
    → (f : Forest (arity (head_from k (n_of (head_of t)) (word_of (head_of t))))) × (t ≡ node (head_from k (n_of (head_of t)) (word_of (head_of t))) (ty_of t) f)
unfolding is head_of ty_of
kind-is k (node h ty f) e = renamed ty f (head-is k h e)

pub lambda-is : (t : Tree) → is 6 t ≡ true → (b : Tree) × (t ≡ node lambda (ty_of t) (more b end))
unfolding head_from
lambda-is t e = below (kind-is 6 t e)
  where
    below : (f : Forest 1) × (t ≡ node lambda (ty_of t) f) → (b : Tree) × (t ≡ node lambda (ty_of t) (more b end))
    below (more b end, q) = (b, q)

pub foreign-is : (t : Tree) → is 7 t ≡ true → t ≡ node (foreign (word_of (head_of t))) (ty_of t) end
unfolding head_from
foreign-is t e = below (kind-is 7 t e)
  where
    below : (f : Forest 0) × (t ≡ node (foreign (word_of (head_of t))) (ty_of t) f) → t ≡ node (foreign (word_of (head_of t))) (ty_of t) end
    below (end, q) = q

pub cons-is : (t : Tree) → is 13 t ≡ true → (a b : Tree) × (t ≡ node cons (ty_of t) (more a (more b end)))
unfolding head_from
cons-is t e = below (kind-is 13 t e)
  where
    below : (f : Forest 2) × (t ≡ node cons (ty_of t) f) → (a b : Tree) × (t ≡ node cons (ty_of t) (more a (more b end)))
    below (more a (more b end), q) = (a, b, q)

pub zip-is : (t : Tree) → is 15 t ≡ true → (c : Tree) × (t ≡ node (zip (n_of (head_of t))) (ty_of t) (more c end))
unfolding head_from
zip-is t e = below (kind-is 15 t e)
  where
    below : (f : Forest 1) × (t ≡ node (zip (n_of (head_of t))) (ty_of t) f) → (c : Tree) × (t ≡ node (zip (n_of (head_of t))) (ty_of t) (more c end))
    below (more c end, q) = (c, q)

pub tuple_is : (t : Tree) → is 16 t ≡ true → (f : Forest (n_of (head_of t))) × (t ≡ node (tuple (n_of (head_of t))) (ty_of t) f)
unfolding head_from
tuple_is t e = kind-is 16 t e

-- below a literal no kind is asked for
pub below-lit : (l : Lit) (f : Forest 0) → below_ok (lit l) f ≡ true
unfolding below_ok code
below-lit (str w) f = refl
below-lit (file w) f = refl
below-lit (truth true) f = refl
below-lit (truth false) f = refl
