-- The chains of names: what a chain finds is what the scope means, and they stay right when names come and go. Assumes nothing.
use Prim.Native.Nat.{ℕ, zero, suc, ◌+◌, ◌%◌, ◌≤◌, ◌<◌}
use mathlib.Core.Path.{◌≡◌, refl, ap, sym, ◌∙◌, subst}
use mathlib.Core.List.{List, [], ◌∷◌, ◌++◌, map}
use Rattle.std.specs.Prelude.{None, Some}
use native.Mathlib.Omega.{arith}
use native.Mathlib.Decide.{ℕ_discrete}
use borrow.Author.Tests.{eq-eqb, ne_eqb}
use lib.ListN.{length, get_or, drop, set, length-set, length-drop, drop_of_length-le}
use lib.Seq.{drop-cons, drop-drop, drop-set-lt, get_or-drop, get_or-set_same, get_or-set_other}
use Rattle.meaning.specs.Types.{Param, find}
use Rattle.rules.proofs.ByPart.{parts-front}
use Rattle.quick.specs.Names.{packed, name_in, type_in, link_in, param_in, in_scope, ahead, NamesChained}

-- A stored entry in front --------------------------------------------------------------------------------------------

pub stored-front : (l : List ℕ) (j v : ℕ) → j < length l → drop j (set l j v) ≡ v ∷ drop (suc j) l
stored-front l j v h = drop-cons (set l j v) j 0 (omega (arith, length-set l j v)) ∙ rw (get_or-set_same l j v 0 h, drop-set-lt (suc j) l j v (omega arith))

-- The parts of an entry ----------------------------------------------------------------------------------------------

module _ (x t k : ℕ) (hx : x < 65536) (ht : t < 65536) (hk : k < 65536) where
  pub name-packed : name_in (packed x t k) ≡ x
  name-packed = omega arith

  pub type-packed : type_in (packed x t k) ≡ t
  type-packed = omega arith

  pub link-packed : link_in (packed x t k) ≡ k
  link-packed = omega arith

-- What a chain finds -------------------------------------------------------------------------------------------------

here : (h e : ℕ) (es : List ℕ) → name_in e % 256 ≡ h → ahead h (e ∷ es) ≡ 0
unfolding ahead
here h e es q = rw (eq-eqb (name_in e % 256) h q)

there : (h e : ℕ) (es : List ℕ) → (name_in e % 256 ≡ h → ⊥) → ahead h (e ∷ es) ≡ suc (ahead h es)
unfolding ahead
there h e es q = rw (ne_eqb (name_in e % 256) h q)

pub no-entry : (h : ℕ) → ahead h [] ≡ 0
unfolding ahead
no-entry h = refl

pub ahead_within : (h : ℕ) (es : List ℕ) → ahead h es ≤ length es
ahead_within h [] = omega (arith, no-entry h)
ahead_within h (e ∷ es) =
    elim (ℕ_discrete (name_in e % 256) h) [
      | yes q ↦ omega (arith, here h e es q)
      | no q ↦ omega (arith, there h e es q, ahead_within h es)
    ]

-- the entry that a chain comes to is one of its own
pub ahead_own : (h : ℕ) (es : List ℕ) → ahead h es < length es → name_in (get_or es (ahead h es) 0) % 256 ≡ h
ahead_own h [] g = absurd (omega arith)
ahead_own h (e ∷ es) g =
    elim (ℕ_discrete (name_in e % 256) h) [
      | yes q ↦ rw (here h e es q) q
      | no q ↦ rw (there h e es q) (ahead_own h es (omega (arith, there h e es q)))
    ]

-- an entry of another name is passed over
pub other_name : (e x : ℕ) (es : List ℕ) → (name_in e ≡ x → ⊥) → find (map param_in (e ∷ es)) x ≡ find (map param_in es) x
unfolding find param_in
other_name e x es q = rw (ne_eqb x (name_in e) (λ z. q (sym z)))

skipped : (x : ℕ) (es : List ℕ) → find (map param_in es) x ≡ find (map param_in (drop (ahead (x % 256) es) es)) x
skipped x [] = rw (drop_of_length-le {A = ℕ} [] {i = ahead (x % 256) []} (omega arith))
skipped x (e ∷ es) =
    elim (ℕ_discrete (name_in e % 256) (x % 256)) [
      | yes q ↦ rw (here (x % 256) e es q)
      | no q ↦ rw (there (x % 256) e es q) (other_name e x es (λ z. q (ap (λ (n : ℕ). n % 256) z)) ∙ skipped x es)
    ]

-- a scope from entry b on, and from the first entry of the name's chain on
pub scope-chain : (es : List ℕ) (b x : ℕ) → find (in_scope es b) x ≡ find (in_scope es (b + ahead (x % 256) (drop b es))) x
unfolding in_scope
scope-chain es b x = skipped x (drop b es) ∙ rw (drop-drop (ahead (x % 256) (drop b es)) b es)

-- an entry of the name tells its type
pub own_name : (es : List ℕ) (j x : ℕ) → j < length es → name_in (get_or es j 0) ≡ x → find (in_scope es j) x ≡ Some (type_in (get_or es j 0))
unfolding in_scope find param_in
own_name es j x h q = rw (drop-cons es j 0 h, eq-eqb x (name_in (get_or es j 0)) (sym q))

pub scope-none : (es : List ℕ) (j x : ℕ) → length es ≤ j → find (in_scope es j) x ≡ None
unfolding in_scope find
scope-none es j x h = rw (drop_of_length-le es {i = j} h)

pub scope-more : (es : List ℕ) (j : ℕ) → j < length es → in_scope es j ≡ param_in (get_or es j 0) ∷ in_scope es (suc j)
unfolding in_scope
scope-more es j h = rw (drop-cons es j 0 h)

-- Names come and go --------------------------------------------------------------------------------------------------

module _ (es hs : List ℕ) (b : ℕ) (c : NamesChained es hs b) where
  -- the first entry of a chain
  pub head-own : (h : ℕ) → h < 256 → get_or hs h 0 < length es → name_in (get_or es (get_or hs h 0) 0) % 256 ≡ h
  head-own h g q =
      let e = c.heads h g in
      let k = ahead h (drop b es) in
      rw e (rw (get_or-drop b es k 0) at (ahead_own h (drop b es) (omega (arith, length-drop b es))))

  -- and the one behind one of its entries
  pub link-own : (j h : ℕ) → b ≤ j → j < length es → name_in (get_or es j 0) % 256 ≡ h → link_in (get_or es j 0) < length es
      → name_in (get_or es (link_in (get_or es j 0)) 0) % 256 ≡ h
  link-own j h g q z y =
      let e : link_in (get_or es j 0) ≡ suc j + ahead h (drop (suc j) es) = rw z at (c.links j g q) in
      let k = ahead h (drop (suc j) es) in
      rw e (rw (get_or-drop (suc j) es k 0) at (ahead_own h (drop (suc j) es) (omega (arith, length-drop (suc j) es))))

  -- what a name means, from the first entry of its chain on, and on from an entry that is of another name
  pub scope-head : (x : ℕ) → find (in_scope es b) x ≡ find (in_scope es (get_or hs (x % 256) 0)) x
  scope-head x = scope-chain es b x ∙ rw (c.heads (x % 256) (omega arith))

  pub scope-link : (j x : ℕ) → b ≤ j → j < length es → name_in (get_or es j 0) % 256 ≡ x % 256 → (name_in (get_or es j 0) ≡ x → ⊥)
      → find (in_scope es j) x ≡ find (in_scope es (link_in (get_or es j 0))) x
  unfolding in_scope
  scope-link j x g q z n =
      let e : link_in (get_or es j 0) ≡ suc j + ahead (x % 256) (drop (suc j) es) = rw z at (c.links j g q) in
      rw (drop-cons es j 0 q) (other_name (get_or es j 0) x (drop (suc j) es) n ∙ scope-chain es (suc j) x ∙ rw e)

  -- the innermost name falls out of scope
  module _ (h : b < length es) where
    abbrev outer : List ℕ
    outer = set hs (name_in (get_or es b 0) % 256) (link_in (get_or es b 0))

    pub unbound : NamesChained es outer (suc b)
    unbound =
        record {
          low = h;
          few = c.few;
          chains = length-set hs (name_in (get_or es b 0) % 256) (link_in (get_or es b 0)) ∙ c.chains;
          heads = head;
          links = λ j g q. c.links j (omega arith) q;
        }
      where
        head : (k : ℕ) → k < 256 → get_or outer k 0 ≡ suc b + ahead k (drop (suc b) es)
        head k g =
            elim (ℕ_discrete k (name_in (get_or es b 0) % 256)) [
              | yes q ↦ rw (q, get_or-set_same hs (name_in (get_or es b 0) % 256) (link_in (get_or es b 0)) 0 (omega (arith, c.chains))) (c.links b (omega arith) h)
              | no q ↦ rw (get_or-set_other hs (name_in (get_or es b 0) % 256) k (link_in (get_or es b 0)) 0 q) (
                  c.heads k g
                  ∙ rw (drop-cons es b 0 h, there k (get_or es b 0) (drop (suc b) es) (λ z. q (sym z))) (omega arith))
            ]

  -- one name more
  module _ (j x t : ℕ) (below : suc j ≡ b) (hx : x < 65536) (ht : t < 65536) where
    abbrev link : ℕ
    link = get_or hs (x % 256) 0

    abbrev more : List ℕ
    more = set es j (packed x t link)

    abbrev inner : List ℕ
    inner = set hs (x % 256) j

    link-is : link ≡ b + ahead (x % 256) (drop b es)
    link-is = c.heads (x % 256) (omega arith)

    link-few : link < 65536
    link-few = omega (arith, link-is, ahead_within (x % 256) (drop b es), length-drop b es, c.few, c.low)

    front : drop j more ≡ packed x t link ∷ drop b es
    front = stored-front es j (packed x t link) (omega (arith, c.low)) ∙ rw below

    pub scope-bound : in_scope more j ≡ record { name = x; type = t } ∷ in_scope es b
    unfolding in_scope param_in
    scope-bound = rw (front, name-packed x t link hx ht link-few, type-packed x t link hx ht link-few)

    pub bound : NamesChained more inner j
    bound =
        record {
          low = omega (arith, c.low, length-set es j (packed x t link));
          few = omega (arith, c.few, length-set es j (packed x t link));
          chains = length-set hs (x % 256) j ∙ c.chains;
          heads = head;
          links = next;
        }
      where
        head : (k : ℕ) → k < 256 → get_or inner k 0 ≡ j + ahead k (drop j more)
        head k g =
            elim (ℕ_discrete k (x % 256)) [
              | yes q ↦ rw (q, get_or-set_same hs (x % 256) j 0 (omega (arith, c.chains)), front, here (x % 256) (packed x t link) (drop b es) (ap (λ (n : ℕ). n % 256) (name-packed x t link hx ht link-few))) (omega arith)
              | no q ↦ rw (get_or-set_other hs (x % 256) k j 0 q, front, there k (packed x t link) (drop b es) (λ z. q (sym z ∙ ap (λ (n : ℕ). n % 256) (name-packed x t link hx ht link-few)))) (omega (arith, c.heads k g))
            ]

        next : (k : ℕ) → j ≤ k → k < length more → link_in (get_or more k 0) ≡ suc k + ahead (name_in (get_or more k 0) % 256) (drop (suc k) more)
        next k g q =
            elim (ℕ_discrete k j) [
              | yes z ↦ rw (z, get_or-set_same es j (packed x t link) 0 (omega (arith, c.low)), drop-set-lt (suc j) es j (packed x t link) (omega arith), link-packed x t link hx ht link-few, name-packed x t link hx ht link-few, below) link-is
              | no z ↦ rw (get_or-set_other es j k (packed x t link) 0 z, drop-set-lt (suc k) es j (packed x t link) (omega arith)) (c.links k (omega arith) (omega (arith, length-set es j (packed x t link))))
            ]

-- One more in front of those that are there already ------------------------------------------------------------------

pub parts_none : (ps : List Param) (k : ℕ) → length ps ≤ k → drop k ps ≡ []
parts_none ps k h = drop_of_length-le ps {i = k} h

pub names_none : (ps : List Param) → [] ++ ps ≡ ps
names_none ps = refl

pub names_one : (p : Param) (qs ps : List Param) → (p ∷ qs) ++ ps ≡ p ∷ (qs ++ ps)
names_one p qs ps = refl

pub ruleset parts_bound = (parts-front, parts_none, names_none, names_one)

drop-mapped : (n : ℕ) (es : List ℕ) → map param_in (drop n es) ≡ drop n (map param_in es)
drop-mapped zero es = refl
drop-mapped (suc n) [] = refl
drop-mapped (suc n) (e ∷ es) = drop-mapped n es

-- without the n innermost names
pub scope-drop : (es : List ℕ) (b n : ℕ) → in_scope es (b + n) ≡ drop n (in_scope es b)
unfolding in_scope
scope-drop es b n = sym (ap (map param_in) (drop-drop n b es)) ∙ drop-mapped n (drop b es)

pub scope-end : (es : List ℕ) → in_scope es (length es) ≡ []
unfolding in_scope
scope-end es = rw (drop_of_length-le es {i = length es} (omega arith))

-- the innermost name falls out of scope
pub unbound_one : (es hs : List ℕ) (b : ℕ) → NamesChained es hs b → b < length es
    → NamesChained es (set hs (name_in (get_or es b 0) % 256) (link_in (get_or es b 0))) (b + 1)
unbound_one es hs b c h =
    let m : suc b ≡ b + 1 = omega arith in
    subst (NamesChained es _) m (unbound es hs b c h)
