-- What the rows of a table state, and the names that they bind. Assumes nothing.
use Prim.Native.Nat.{ℕ, zero, suc, ◌+◌, ◌-◌, ◌*◌, ◌/◌, ◌<◌, ◌≤◌}
use mathlib.Core.Path.{◌≡◌, refl, ap, sym, ◌∙◌}
use mathlib.Core.Bool.{Bool, true, false, cond}
use mathlib.Core.List.{List, [], ◌∷◌}
use Rattle.std.specs.Prelude.{None, Some}
use native.Mathlib.Omega.{arith}
use native.Mathlib.Numerals.{add-one}
use native.Mathlib.Decide.{dec_lt, ℕ_discrete}
use lib.Dec.{eqb}
use borrow.Author.Tests.{eq-eqb, ne_eqb, lt-ltb, eqb-false}
use lib.ListN.{length, get_or, drop, drop_of_length-le, length-map}
use lib.Seq.{drop-cons}
use Rattle.layout.specs.Rows.{row_table, term_rows}
use Rattle.layout.proofs.Tables.{row-table-length}
use Rattle.meaning.specs.Bytes.{◌∧ᵇ◌, read, term_row}
use Rattle.meaning.specs.Types.{Form, params, find, Ctx, empty, pick, ◌⹁◌, same_numbers}
use Rattle.meaning.specs.Terms.{Head, lit, var, lambda, foreign, apply, future, ite, fix, nil, cons, isnil, zip, tuple, project, lproject, bind, arity, Forest, node, Row, head_of, ty_of, is, code, head_from, row_of, size, sizes, blank, kids, trees, top, tree_at, grove}
use Rattle.meaning.specs.Typing.{Tys, ⟨⟩, ◌▹◌, list, tys, scope, rule_ok}
use Rattle.meaning.proofs.Trees.Parse.{grove-more}
use Rattle.terms.specs.Tables.{Ends}
use Rattle.terms.proofs.ByKind.{below, head-other}
use Rattle.terms.proofs.Scan.{tree-here, size-some, grove-size}
use Rattle.rules.specs.Forms.{three}
use Rattle.rules.proofs.Finding.{find-empty}
use Rattle.rules.proofs.ByPart.{types-length, and_first, and_none}
use Rattle.typing.specs.Scope.{behind, binds, chain}
use Rattle.typing.proofs.Faults.{chain_more}

-- Kinds ----------------------------------------------------------------------------------------------------------

-- the kind that code reads, against the kind of the head
pub code_at : (c k n w : ℕ) → 2 ≤ c → c < 20 → eqb (code (head_from k n w)) c ≡ eqb k c
unfolding head_from code
code_at c k n w h g =
    elim (dec_lt k 20) [
      | yes q ↦ below (λ k. eqb (code (head_from k n w)) c ≡ eqb k c) 20 (
        (
          (
            (
              (
                (
                  (
                    (
                      (
                        (
                          (
                            (
                              (
                                (
                                  (
                                    (
                                      (
                                        (
                                          (
                                            (
                                              tt,
                                              ne_eqb 1 c (omega arith) ∙ sym (ne_eqb 0 c (omega
                                                  arith)),
                                            ),
                                            refl,
                                          ),
                                          refl,
                                        ),
                                        refl,
                                      ),
                                      refl,
                                    ),
                                    refl,
                                  ),
                                  refl,
                                ),
                                refl,
                              ),
                              refl,
                            ),
                            refl,
                          ),
                          refl,
                        ),
                        refl,
                      ),
                      refl,
                    ),
                    refl,
                  ),
                  refl,
                ),
                refl,
              ),
              refl,
            ),
            refl,
          ),
          refl,
        ),
        refl,
      ) k q
      | no q ↦ rw (head-other k n w (omega arith)) (ne_eqb 1 c (omega arith) ∙ sym (ne_eqb k c (omega arith)))
    ]

-- What rows state ------------------------------------------------------------------------------------------------

module _ (s : List ℕ) (p : ℕ) where
  tree-out : length s / 8 ≤ p → tree_at (term_rows s) p ≡ blank
  unfolding tree_at trees top
  tree-out h = rw (drop_of_length-le (term_rows s) {i = p} (omega (arith, row-table-length s, length-map (row_table s) row_of))) refl

  pub type-out : length s / 8 ≤ p → ty_of (tree_at (term_rows s) p) ≡ 0
  unfolding blank ty_of
  type-out h = ap ty_of (tree-out h)

  pub native-out : length s / 8 ≤ p → is 6 (tree_at (term_rows s) p) ≡ false
  unfolding blank is head_of code
  native-out h = ap (is 6) (tree-out h)

  module _ (k n ty w : ℕ) (h : p < length s / 8) (e : k ∷ n ∷ ty ∷ w ∷ [] ≡ read term_row (drop (8 * p) s)) where
    pub tree-in : tree_at (term_rows s) p ≡ node (head_from k n w) ty (grove (term_rows s) (p + 1) (arity (head_from k n w)))
    unfolding row_of
    tree-in = tree-here s p (k ∷ n ∷ ty ∷ w ∷ []) h e

    pub type-in : ty_of (tree_at (term_rows s) p) ≡ ty
    unfolding ty_of
    type-in = ap ty_of tree-in

    pub native-in : is 6 (tree_at (term_rows s) p) ≡ eqb k 6
    unfolding is head_of
    native-in = ap (is 6) tree-in ∙ code_at 6 k n w (omega arith) (omega arith)

pub behind-in : (l : List Row) (es : List ℕ) (rows p : ℕ) → Ends l rows es → p < rows → behind es rows p ≡ p + size (tree_at l p)
behind-in l es rows p e h = rw (lt-ltb p rows h) (e p h)

-- Children in order ----------------------------------------------------------------------------------------------

pub list_length : {n : ℕ} (us : Tys n) → length (list us) ≡ n
unfolding list
list_length ⟨⟩ = refl
list_length (t ▹ us) = ap suc (list_length us)

never : (b : Bool) → b ∧ᵇ false ≡ false
unfolding ◌∧ᵇ◌
never true = refl
never false = refl

eqb_comm : (x y : ℕ) → eqb x y ≡ eqb y x
eqb_comm x y = elim (ℕ_discrete x y) [ yes e ↦ eq-eqb x y e ∙ sym (eq-eqb y x (sym e)) | no e ↦ ne_eqb x y e ∙ sym (ne_eqb y x (λ q. e (sym q))) ]

numbers-lengths : (xs ys : List ℕ) → (length xs ≡ length ys → ⊥) → same_numbers xs ys ≡ false
unfolding same_numbers
numbers-lengths [] [] h = absurd (h refl)
numbers-lengths [] (y ∷ ys) h = refl
numbers-lengths (x ∷ xs) [] h = refl
numbers-lengths (x ∷ xs) (y ∷ ys) h = rw (numbers-lengths xs ys (λ e. h (ap suc e))) (never (eqb x y))

pub numbers-comm : (xs ys : List ℕ) → same_numbers xs ys ≡ same_numbers ys xs
unfolding same_numbers
numbers-comm [] [] = refl
numbers-comm [] (y ∷ ys) = refl
numbers-comm (x ∷ xs) [] = refl
numbers-comm (x ∷ xs) (y ∷ ys) = rw (eqb_comm x y, numbers-comm xs ys) refl

module _ (l : List Row) (ts : List ℕ) where
  pub types-lengths : (at n : ℕ) → (length ts ≡ n → ⊥) → same_numbers (list (tys (grove l at n))) ts ≡ false
  types-lengths at n h = numbers-lengths (list (tys (grove l at n))) ts (λ e. h (sym e ∙ list_length (tys (grove l at n))))

  types_more : (p k m m' : ℕ) → m ≡ suc m' → k < length ts → same_numbers (list (tys (grove l p m))) (drop k ts)
      ≡ eqb (ty_of (tree_at l p)) (get_or ts k 0) ∧ᵇ same_numbers (list (tys (grove l (p + size (tree_at l p)) m'))) (drop (k + 1) ts)
  unfolding same_numbers list tys
  types_more p k m m' e h =
      ap (λ (x : ℕ). same_numbers (list (tys (grove l p x))) (drop k ts)) e
      ∙ ap (λ (f : Forest (suc m')). same_numbers (list (tys f)) (drop k ts)) (grove-more l p m')
      ∙ rw (add-one, drop-cons ts k 0 h) refl

  -- the trees left of n, against the parts from the k-th on
  pub types_rest : (p n k : ℕ) → k < n → k < length ts → same_numbers (list (tys (grove l p (n - k)))) (drop k ts)
      ≡ eqb (ty_of (tree_at l p)) (get_or ts k 0) ∧ᵇ same_numbers (list (tys (grove l (p + size (tree_at l p)) (n - (k + 1))))) (drop (k + 1) ts)
  types_rest p n k h g = types_more p k (n - k) (n - (k + 1)) (omega arith) g

  pub types_over : (p n k : ℕ) → n ≤ k → length ts ≤ k → same_numbers (list (tys (grove l p (n - k)))) (drop k ts) ≡ true
  unfolding same_numbers list tys grove kids
  types_over p n k e h = let z : n - k ≡ 0 = omega arith in rw (z, drop_of_length-le ts h) refl

-- the first of the trees left of n, and those behind it
pub sizes_rest : (l : List Row) (p n k : ℕ) → k < n → sizes (grove l p (n - k)) ≡ size (tree_at l p) + sizes (grove l (p + size (tree_at l p)) (n - (k + 1)))
sizes_rest l p n k h =
    let e : n - k ≡ suc (n - (k + 1)) = omega arith in
    ap (λ (x : ℕ). sizes (grove l p x)) e ∙ grove-size l p (n - (k + 1))

-- the first three children
pub tys-more : (l : List Row) (p n : ℕ) → tys (grove l p (suc n)) ≡ ty_of (tree_at l p) ▹ tys (grove l (p + size (tree_at l p)) n)
unfolding tys
tys-more l p n = ap tys (grove-more l p n)

pub tys-none : (l : List Row) (p : ℕ) → tys (grove l p 0) ≡ ⟨⟩
unfolding tys grove kids
tys-none l p = refl

module _ (l : List Row) (es : List ℕ) (rows p q r : ℕ) (ends : Ends l rows es) (eq : q ≡ behind es rows p) (er : r ≡ behind es rows q) where
  pub tys-three : (n : ℕ) → n ≤ 3 → p + sizes (grove l p n) ≤ rows → tys (grove l p n) ≡ three n (ty_of (tree_at l p)) (ty_of (tree_at l q)) (ty_of (tree_at
      l r))
  unfolding three
  tys-three zero h g = tys-none l p
  tys-three (suc zero) h g = tys-more l p 0 ∙ ap (λ (us : Tys 0). ty_of (tree_at l p) ▹ us) (tys-none l (p + size (tree_at l p)))
  tys-three (suc (suc zero)) h g =
      let z = grove-size l p 1 in
      let e : p + size (tree_at l p) ≡ q = sym (eq ∙ behind-in l es rows p ends (omega (arith, size-some (tree_at l p)))) in
      tys-more l p 1
      ∙ ap (λ (x : ℕ). ty_of (tree_at l p) ▹ tys (grove l x 1)) e
      ∙ ap (λ (us : Tys 1). ty_of (tree_at l p) ▹ us) (tys-more l q 0 ∙ ap (λ (us : Tys 0). ty_of (tree_at l q) ▹ us) (tys-none l (q + size (tree_at l
      q))))
  tys-three (suc (suc (suc zero))) h g =
      let z = grove-size l p 2 in
      let e : p + size (tree_at l p) ≡ q = sym (eq ∙ behind-in l es rows p ends (omega (arith, size-some (tree_at l p)))) in
      let y = grove-size l q 1 in
      let x : sizes (grove l (p + size (tree_at l p)) 2) ≡ sizes (grove l q 2) = ap (λ (x : ℕ). sizes (grove l x 2)) e in
      let f : q + size (tree_at l q) ≡ r = sym (er ∙ behind-in l es rows q ends (omega (arith, size-some (tree_at l q)))) in
      tys-more l p 2
      ∙ ap (λ (x : ℕ). ty_of (tree_at l p) ▹ tys (grove l x 2)) e
      ∙ ap (λ (us : Tys 2). ty_of (tree_at l p) ▹ us)
      (tys-more l q 1
      ∙ ap (λ (x : ℕ). ty_of (tree_at l q) ▹ tys (grove l x 1)) f
      ∙ ap (λ (us : Tys 1). ty_of (tree_at l q) ▹ us) (tys-more l r 0 ∙ ap (λ (us : Tys 0). ty_of (tree_at l r) ▹ us) (tys-none l (r + size (tree_at l
      r)))))
  tys-three (suc (suc (suc (suc n)))) h g = absurd (omega arith)

-- Rules and names around -----------------------------------------------------------------------------------------

-- names around a row matter only to a variable
pub rule-any : (F : ℕ → Form) (Γ : Ctx) (h : Head) (ty : ℕ) (ts : Tys (arity h)) → eqb (code h) 5 ≡ false → rule_ok F Γ h ty ts ≡ rule_ok F empty h ty
    ts
unfolding rule_ok code
rule-any F Γ (lit l) ty ⟨⟩ e = refl
rule-any F Γ (var x) ty ts e = absurd (eqb-false 5 5 e refl)
rule-any F Γ lambda ty (b ▹ ⟨⟩) e = refl
rule-any F Γ (foreign w) ty ⟨⟩ e = refl
rule-any F Γ (apply n) ty (c ▹ us) e = refl
rule-any F Γ (future k) ty ⟨⟩ e = refl
rule-any F Γ ite ty (c ▹ a ▹ b ▹ ⟨⟩) e = refl
rule-any F Γ fix ty (c ▹ ⟨⟩) e = refl
rule-any F Γ nil ty ⟨⟩ e = refl
rule-any F Γ cons ty (a ▹ b ▹ ⟨⟩) e = refl
rule-any F Γ isnil ty (c ▹ ⟨⟩) e = refl
rule-any F Γ (zip m) ty (c ▹ ⟨⟩) e = refl
rule-any F Γ (tuple n) ty us e = refl
rule-any F Γ (project i) ty (c ▹ ⟨⟩) e = refl
rule-any F Γ (lproject i) ty (c ▹ ⟨⟩) e = refl
rule-any F Γ (bind x) ty (a ▹ b ▹ ⟨⟩) e = refl

-- Binders --------------------------------------------------------------------------------------------------------

-- only a native function and a let bind names
pub scope-none : (F : ℕ → Form) (h : Head) (ty : ℕ) (ts : Tys (arity h)) (q : ℕ) → eqb (code h) 6 ≡ false → eqb (code h) 19 ≡ false → scope F h ty ts
    q ≡ []
unfolding scope code
scope-none F (lit l) ty ts q e f = refl
scope-none F (var x) ty ts q e f = refl
scope-none F lambda ty ts q e f = absurd (eqb-false 6 6 e refl)
scope-none F (foreign w) ty ts q e f = refl
scope-none F (apply n) ty ts q e f = refl
scope-none F (future k) ty ts q e f = refl
scope-none F ite ty ts q e f = refl
scope-none F fix ty ts q e f = refl
scope-none F nil ty ts q e f = refl
scope-none F cons ty ts q e f = refl
scope-none F isnil ty ts q e f = refl
scope-none F (zip m) ty ts q e f = refl
scope-none F (tuple n) ty ts q e f = refl
scope-none F (project j) ty ts q e f = refl
scope-none F (lproject j) ty ts q e f = refl
scope-none F (bind x) ty ts q e f = absurd (eqb-false 19 19 f refl)

module _ (F : ℕ → Form) (s : List ℕ) (p k n ty w : ℕ) (h : p < length s / 8) (e : k ∷ n ∷ ty ∷ w ∷ [] ≡ read term_row (drop (8 * p) s)) where
  abbrev l : List Row
  l = term_rows s

  pub binds-native : k ≡ 6 → binds F (tree_at l p) ≡ params (F ty)
  unfolding binds head_from scope
  binds-native q = ap (binds F) (tree-in s p k n ty w h e) ∙ ap (λ (x : ℕ). binds F (node (head_from x n w) ty (grove l (p + 1) (arity
      (head_from x n w))))) q

  pub binds-let : k ≡ 19 → binds F (tree_at l p) ≡ record { name = w; type = ty_of (tree_at l (p + 1)) } ∷ []
  unfolding binds head_from scope
  binds-let q =
      let t = tree_at l (p + 1) in
      let j = p + 1 + size t in
      ap (binds F) (tree-in s p k n ty w h e)
      ∙ ap (λ (x : ℕ). binds F (node (head_from x n w) ty (grove l (p + 1) (arity (head_from x n w))))) q
      ∙ ap (λ (us : Tys 2). scope F (bind w) ty us 1) (tys-more l (p + 1) 1 ∙ ap (λ (us : Tys 1). ty_of t ▹ us) (tys-more l j 0 ∙ ap (λ (us : Tys 0).
      ty_of (tree_at l j) ▹ us) (tys-none l (j + size (tree_at l j)))))

  pub binds-none : (k ≡ 6 → ⊥) → (k ≡ 19 → ⊥) → binds F (tree_at l p) ≡ []
  unfolding binds
  binds-none a b =
      ap (binds F) (tree-in s p k n ty w h e)
      ∙ scope-none F (head_from k n w) ty (tys (grove l (p + 1) (arity (head_from k n w)))) 1 (code_at 6 k n w (omega arith) (omega arith) ∙ ne_eqb k 6
      a) (code_at 19 k n w (omega arith) (omega arith) ∙ ne_eqb k 19 b)

pub find-one : (y t x : ℕ) → find (record { name = y; type = t } ∷ []) x ≡ cond (eqb x y) (Some t) None
unfolding find
find-one y t x = refl

-- one binder of a chain
module _ (F : ℕ → Form) (l : List Row) (sc : List ℕ) (low : (p : ℕ) → get_or sc p 0 ≤ p) (v b x : ℕ) (e : v ≡ suc b) where
  at-binder : chain F l sc v v x ≡ pick (find (binds F (tree_at l b)) x) (chain F l sc (get_or sc b 0) (get_or sc b 0) x)
  unfolding ◌⹁◌
  at-binder = ap (λ (v : ℕ). chain F l sc v v x) e ∙ ap (λ (Γ : Ctx). Γ x) (chain_more F l sc b low)

  pub chain-found : (t : ℕ) → Some t ≡ find (binds F (tree_at l b)) x → chain F l sc v v x ≡ Some t
  unfolding pick
  chain-found t q = at-binder ∙ rw (sym q) refl

  pub chain_next : None ≡ find (binds F (tree_at l b)) x → chain F l sc v v x ≡ chain F l sc (get_or sc b 0) (get_or sc b 0) x
  unfolding pick
  chain_next q = at-binder ∙ rw (sym q) refl

pub chain-none : (F : ℕ → Form) (l : List Row) (sc : List ℕ) (v x : ℕ) → v ≡ 0 → chain F l sc v v x ≡ None
unfolding chain empty
chain-none F l sc v x e = rw e refl

-- WHAT ROWS STATE AND BIND
pub ruleset rows_state = (type-in, type-out, native-in, native-out)

pub ruleset rows_bind = (binds-native, binds-let, binds-none, find-one, find-empty)

pub ruleset chains = (chain-found, chain_next, chain-none)

pub ruleset types_alike = (types-lengths, types_rest, types_over, types-length, behind-in, size-some, sizes_rest, and_first, and_none)
