-- The pass over a tree's rows writes the rows of the tree with the names put. Assumes nothing.
use Prim.Native.Nat.{ℕ, zero, suc, ◌+◌, ◌*◌, ◌<◌, ◌%◌}
use mathlib.Core.Path.{◌≡◌, refl, ap, sym, ◌∙◌}
use mathlib.Core.Bool.{Bool, true, false, cond}
use mathlib.Core.List.{List, [], ◌∷◌, ◌++◌, map, append_assoc, append-nil, map-append}
use Rattle.std.specs.Prelude.{Option, None, Some}
use native.Mathlib.Omega.{arith}
use lib.Dec.{eqb}
use lib.ListN.{length, take}
use borrow.Author.Tests.{eqb-true}
use Rattle.meaning.specs.Types.{Param, Form, params, names, find, low, rest}
use Rattle.meaning.specs.Terms.{str, file, truth, Head, lit, var, lambda, foreign, apply, future, ite, fix, nil, cons, isnil, zip, tuple, project, lproject, bind, arity, code, word_of, Tree, Forest, node, end, more, Row, flat, flats, raw, row_of, blank}
use Rattle.meaning.proofs.Trees.Tests.{none-some}
use Rattle.meaning.proofs.Bytes.RowTables.{row-raw}
use Rattle.meaning.specs.Typing.{Tys, ⟨⟩, ◌▹◌, tys, scope}
use Rattle.meaning.specs.Steps.{◌∨ᵇ◌, Sub, veil, hide, swap, hit, assign, put, puts}
use Rattle.put.specs.Put.{next, pick, mark, fan, at_place, binds, rows_for, inner, after, chosen, run}
use Rattle.std.specs.Prelude.{is_some}

-- Masks ----------------------------------------------------------------------------------------------------------

low_bit : (b : Bool) (n : ℕ) → low (cond b 1 0 + 2 * n) ≡ b
unfolding low
low_bit true n = let e : (1 + 2 * n) % 2 ≡ 1 = omega arith in rw e refl
low_bit false n = let e : (0 + 2 * n) % 2 ≡ 0 = omega arith in rw e refl

rest-bit : (b : Bool) (n : ℕ) → rest (cond b 1 0 + 2 * n) ≡ n
unfolding rest
rest-bit true n = omega arith
rest-bit false n = omega arith

next-hidden : (b : Bool) (o : Option ℕ) → next (cond b None o) ≡ cond b None (next o)
unfolding next
next-hidden true o = refl
next-hidden false o = refl

both-hide : (l b : Bool) (o : Option ℕ) → cond (l ∨ᵇ b) None o ≡ cond b None (cond l None o)
unfolding ◌∨ᵇ◌
both-hide true true o = refl
both-hide true false o = refl
both-hide false b o = refl

-- a name that is marked is not picked, others as before
pub mark-picks : (b : ℕ → Bool) (ys : List ℕ) (m x : ℕ) → pick ys (mark b ys m) x ≡ cond (b x) None (pick ys m x)
unfolding pick mark
mark-picks b [] m x = by_bit (b x)
  where
    by_bit : (c : Bool) → ◌≡◌ {A = Option ℕ} None (cond c None None)
    by_bit true = refl
    by_bit false = refl
mark-picks b (y ∷ ys) m x =
    rw (low_bit (low m ∨ᵇ b y) (mark b ys (rest m)), rest-bit (low m ∨ᵇ b y) (mark b ys (rest m)), mark-picks b ys (rest m) x) (by_name (eqb x y) refl)
  where
    by_name : (c : Bool) → eqb x y ≡ c → cond c (cond (low m ∨ᵇ b y) None (Some 0)) (next (cond (b x) None (pick ys (rest m) x))) ≡ cond (b x) None (cond c (cond (low m) None (Some 0)) (next (pick ys (rest m) x)))
    by_name true e = rw (eqb-true x y e) (both-hide (low m) (b y) (Some 0))
    by_name false e = next-hidden (b x) (pick ys (rest m) x)

-- What is put --------------------------------------------------------------------------------------------------

unfoldable pub from : (ℕ → Tree) → Option ℕ → Option Tree
from ts None = None
from ts (Some j) = Some (ts j)

-- what is put where the names in the mask are hidden
abbrev pub sub : List ℕ → (ℕ → Tree) → ℕ → Sub
sub ys ts m x = from ts (pick ys m x)

veiled : (ts : ℕ → Tree) (o : Option ℕ) (p : Option ℕ) → from ts (cond (is_some o) None p) ≡ veil o (from ts p)
unfolding from veil
veiled ts None p = refl
veiled ts (Some t) p = refl

pub mark-hides : (ys : List ℕ) (ts : ℕ → Tree) (m : ℕ) (b : ℕ → Bool) (qs : List Param) → ((x : ℕ) → b x ≡ is_some (find qs x)) → (x : ℕ) → sub ys ts (mark b ys m) x ≡ hide qs (sub ys ts m) x
unfolding hide
mark-hides ys ts m b qs e x = ap (from ts) (mark-picks b ys m x) ∙ rw (e x) (veiled ts (find qs x) (pick ys m x))

told-one : (b : Bool) (t : ℕ) → b ≡ is_some (cond b (Some t) None)
told-one true t = refl
told-one false t = refl

module _ (form : ℕ → Form) (ys : List ℕ) (ts : ℕ → Tree) where
  -- the mask that the pass hands to a row's tree hides what the row binds there
  pub inner-hides : (h : Head) (ty : ℕ) (us : Tys (arity h)) (m i x : ℕ) → sub ys ts (inner form ys h ty m i) x ≡ hide (scope form h ty us i) (sub ys ts m) x
  unfolding inner scope hide veil find code binds word_of at_place
  inner-hides (lit (str w)) ty us m i x = refl
  inner-hides (lit (file w)) ty us m i x = refl
  inner-hides (lit (truth true)) ty us m i x = refl
  inner-hides (lit (truth false)) ty us m i x = refl
  inner-hides (var y) ty us m i x = refl
  inner-hides lambda ty us m i x = mark-hides ys ts m (binds form lambda ty) (params (form ty)) (λ y. refl) x
  inner-hides (foreign w) ty us m i x = refl
  inner-hides (apply n) ty us m i x = refl
  inner-hides (future k) ty us m i x = refl
  inner-hides ite ty us m i x = refl
  inner-hides fix ty us m i x = refl
  inner-hides nil ty us m i x = refl
  inner-hides cons ty us m i x = refl
  inner-hides isnil ty us m i x = refl
  inner-hides (zip k) ty us m i x = refl
  inner-hides (tuple n) ty us m i x = refl
  inner-hides (project j) ty us m i x = refl
  inner-hides (lproject j) ty us m i x = refl
  inner-hides (bind y) ty (a ▹ b ▹ ⟨⟩) m zero x = refl
  inner-hides (bind y) ty (a ▹ b ▹ ⟨⟩) m (suc i) x = mark-hides ys ts m (binds form (bind y) ty) (record { name = y; type = a } ∷ []) (λ z. told-one (eqb z y) a) x

  -- a row's own rows and those below it
  here : (σ : Sub) (m : ℕ) → ((x : ℕ) → sub ys ts m x ≡ σ x) → (h : Head) (ty : ℕ) (g : Forest (arity h)) (l : List (List ℕ))
      → rows_for (λ j. map raw (flat (ts j))) (chosen ys h m) (raw (record { head = h; type = ty })) ++ (map raw (flats g) ++ l) ≡ map raw (flat (swap (hit σ h) (node h ty g))) ++ l
  unfolding rows_for chosen hit swap flat code word_of from
  here σ m e (lit (str w)) ty g l = refl
  here σ m e (lit (file w)) ty g l = refl
  here σ m e (lit (truth true)) ty g l = refl
  here σ m e (lit (truth false)) ty g l = refl
  here σ m e (var x) ty end l = rw (sym (e x)) (by-pick (pick ys m x))
    where
      by-pick : (o : Option ℕ) → rows_for (λ j. map raw (flat (ts j))) o (raw (record { head = var x; type = ty })) ++ l ≡ map raw (flat (swap (from ts o) (node (var x) ty end))) ++ l
      by-pick None = refl
      by-pick (Some j) = refl
  here σ m e lambda ty g l = refl
  here σ m e (foreign w) ty g l = refl
  here σ m e (apply n) ty g l = refl
  here σ m e (future k) ty g l = refl
  here σ m e ite ty g l = refl
  here σ m e fix ty g l = refl
  here σ m e nil ty g l = refl
  here σ m e cons ty g l = refl
  here σ m e isnil ty g l = refl
  here σ m e (zip k) ty g l = refl
  here σ m e (tuple n) ty g l = refl
  here σ m e (project j) ty g l = refl
  here σ m e (lproject j) ty g l = refl
  here σ m e (bind x) ty g l = refl

  -- the pass at a row that is a head's numbers
  pub at_row : (args : ℕ → List (List ℕ)) (r : Row) (rs : List (List ℕ)) (m : ℕ) (ms : List ℕ)
      → run form ys args (raw r ∷ rs) (m ∷ ms) ≡ rows_for args (chosen ys r.head m) (raw r) ++ run form ys args rs (after form ys r m ms)
  unfolding run
  at_row args r rs m ms = rw (row-raw r) refl

  mutual
    unfolding flat put run after fan hide

    -- THE PASS over a tree
    pub run-tree : (t : Tree) (σ : Sub) (m : ℕ) (ms : List ℕ) (rs : List (List ℕ)) → ((x : ℕ) → sub ys ts m x ≡ σ x)
        → run form ys (λ j. map raw (flat (ts j))) (map raw (flat t) ++ rs) (m ∷ ms) ≡ map raw (flat (put form σ t)) ++ run form ys (λ j. map raw (flat (ts j))) rs ms
    run-tree (node h ty f) σ m ms rs e =
        at_row (λ j. map raw (flat (ts j))) (record { head = h; type = ty }) (map raw (flats f) ++ rs) m ms
        ∙ ap (λ l. rows_for (λ j. map raw (flat (ts j))) (chosen ys h m) (raw (record { head = h; type = ty })) ++ l)
        (run-trees f (scope form h ty (tys f)) σ (inner form ys h ty m) ms rs (λ i x. inner-hides h ty (tys f) m i x ∙ ap (veil (find (scope form h ty (tys f) i) x)) (e x)))
        ∙ here σ m e h ty (puts form (scope form h ty (tys f)) σ f) (run form ys (λ j. map raw (flat (ts j))) rs ms)

    run-trees : {n : ℕ} (f : Forest n) (s : ℕ → List Param) (σ : Sub) (g : ℕ → ℕ) (ms : List ℕ) (rs : List (List ℕ)) → ((i x : ℕ) → sub ys ts (g i) x ≡ hide (s i) σ x)
        → run form ys (λ j. map raw (flat (ts j))) (map raw (flats f) ++ rs) (fan n g ms) ≡ map raw (flats (puts form s σ f)) ++ run form ys (λ j. map raw (flat (ts j))) rs ms
    run-trees end s σ g ms rs e = refl
    run-trees (more t f) s σ g ms rs e =
        rw (
          map-append raw (flat t) (flats f),
          append_assoc (map raw (flat t)) (map raw (flats f)) rs,
          map-append raw (flat (put form (hide (s 0) σ) t)) (flats (puts form (λ i. s (suc i)) σ f)),
          append_assoc (map raw (flat (put form (hide (s 0) σ) t))) (map raw (flats (puts form (λ i. s (suc i)) σ f))) (run form ys (λ j. map raw (flat (ts j))) rs ms),
        )
        (run-tree t (hide (s 0) σ) (g 0) _ (map raw (flats f) ++ rs) (e 0)
        ∙ ap (λ l. map raw (flat (put form (hide (s 0) σ) t)) ++ l) (run-trees f (λ i. s (suc i)) σ (λ i. g (suc i)) ms rs (λ i. e (suc i))))

-- The arguments of a rule ----------------------------------------------------------------------------------------

-- the j-th tree of a forest, counted from 0
unfoldable pub tree : {n : ℕ} → Forest n → ℕ → Tree
tree end j = blank
tree (more t f) zero = t
tree (more t f) (suc j) = tree f j

from_next : {n : ℕ} (t : Tree) (f : Forest n) (o : Option ℕ) → from (tree f) o ≡ from (tree (more t f)) (next o)
unfolding from next tree
from_next t f None = refl
from_next t f (Some j) = refl

by-put : {n : ℕ} (t : Tree) (f : Forest n) (ps : List Param) (x : ℕ) (c : Bool) (o : Option Tree) → sub (take n (names ps)) (tree f) 0 x ≡ o → from (tree (more t f)) (cond c (Some 0) (next (pick (take n (names ps)) 0 x))) ≡ cond c (Some t) o
unfolding from tree
by-put t f ps x true o e = refl
by-put {n} t f ps x false o e = sym (from_next t f (pick (take n (names ps)) 0 x)) ∙ e

pub assign-picks : {n : ℕ} (ps : List Param) (f : Forest n) (x : ℕ) → sub (take n (names ps)) (tree f) 0 x ≡ assign ps f x
unfolding assign names from pick low rest tree
assign-picks [] end x = refl
assign-picks [] (more t f) x = refl
assign-picks (p ∷ ps) end x = refl
assign-picks (p ∷ ps) (more t f) x = by-put t f ps x (eqb x p.name) (assign ps f x) (assign-picks ps f x)

pub run_none : (form : ℕ → Form) (ys : List ℕ) (args : ℕ → List (List ℕ)) (rs : List (List ℕ)) → run form ys args rs [] ≡ []
unfolding run
run_none form ys args [] = refl
run_none form ys args (r ∷ rs) = refl

-- only the arguments of names that are put count
next-below : (o : Option ℕ) (n j : ℕ) → ((i : ℕ) → o ≡ Some i → i < n) → next o ≡ Some j → j < suc n
unfolding next
next-below None n j h e = absurd (none-some j e)
next-below (Some i) n j h e = let q : suc i ≡ j = cc in omega (arith, h i refl)

pub pick-below : (ys : List ℕ) (m x j : ℕ) → pick ys m x ≡ Some j → j < length ys
unfolding pick
pick-below [] m x j e = absurd (none-some j e)
pick-below (y ∷ ys) m x j e = by_name (eqb x y) (low m) (λ i. pick-below ys (rest m) x i) e
  where
    by_name : (c l : Bool) → ((i : ℕ) → pick ys (rest m) x ≡ Some i → i < length ys) → cond c (cond l None (Some 0)) (next (pick ys (rest m) x)) ≡ Some j → j < suc (length ys)
    by_name true true k e = absurd (none-some j e)
    by_name true false k e = let q : 0 ≡ j = cc in omega arith
    by_name false l k e = next-below (pick ys (rest m) x) (length ys) j k e

pub chosen-below : (ys : List ℕ) (h : Head) (m j : ℕ) → chosen ys h m ≡ Some j → j < length ys
unfolding chosen
chosen-below ys h m j e = by_kind (eqb (code h) 5) e
  where
    by_kind : (c : Bool) → cond c (pick ys m (word_of h)) None ≡ Some j → j < length ys
    by_kind true e = pick-below ys m (word_of h) j e
    by_kind false e = absurd (none-some j e)

module _ (form : ℕ → Form) (ys : List ℕ) (a b : ℕ → List (List ℕ)) (same : (j : ℕ) → j < length ys → a j ≡ b j) where
  rows_same : (o : Option ℕ) (r : List ℕ) → ((j : ℕ) → o ≡ Some j → j < length ys) → rows_for a o r ≡ rows_for b o r
  unfolding rows_for
  rows_same None r h = refl
  rows_same (Some j) r h = same j (h j refl)

  pub run-same : (rs : List (List ℕ)) (ms : List ℕ) → run form ys a rs ms ≡ run form ys b rs ms
  unfolding run
  run-same [] ms = refl
  run-same (r ∷ rs) [] = refl
  run-same (r ∷ rs) (m ∷ ms) = rw (rows_same (chosen ys (row_of r).head m) r (chosen-below ys (row_of r).head m), run-same rs (after form ys (row_of r) m ms)) refl

-- THE PASS over a body, where each name's argument stands as `args` says: the rows of the body with the arguments put for the names
pub pass-puts : {n : ℕ} (form : ℕ → Form) (ps : List Param) (f : Forest n) (args : ℕ → List (List ℕ)) → ((j : ℕ) → j < length (take n (names ps)) → args j ≡ map raw (flat (tree f j))) → (t : Tree) (rs : List (List ℕ))
    → run form (take n (names ps)) args (map raw (flat t) ++ rs) (0 ∷ []) ≡ map raw (flat (put form (assign ps f) t))
pass-puts {n} form ps f args same t rs =
    run-same form (take n (names ps)) args (λ j. map raw (flat (tree f j))) same (map raw (flat t) ++ rs) (0 ∷ [])
    ∙ run-tree form (take n (names ps)) (tree f) t (assign ps f) 0 [] rs (assign-picks ps f)
    ∙ rw (run_none form (take n (names ps)) (λ j. map raw (flat (tree f j))) rs) (append-nil _)
