-- What the bytes in sight tell of the trees there. Assumes nothing.
use Prim.Native.Nat.{ℕ, zero, suc, ◌+◌, ◌*◌, ◌-◌, ◌<◌, ◌≤◌}
use mathlib.Core.Path.{◌≡◌, refl, ap, sym, ◌∙◌}
use mathlib.Core.Bool.{Bool, true}
use mathlib.Core.List.{List, [], ◌∷◌, ◌++◌, map, append_assoc}
use native.Mathlib.Omega.{arith}
use native.Mathlib.Decide.{ℕ_discrete}
use lib.ListN.{length, get_or, drop, length-append, length-map}
use borrow.Author.Tests.{ne_eqb, lt-ltb, le-ltb}
use Rattle.layout.specs.Rows.{numbers}
use Rattle.layout.specs.declared.Row.{Row as RowRead}
use Rattle.layout.proofs.Laws.{term-row, row-kind}
use Rattle.meaning.specs.Bytes.{number, read, term_row}
use Rattle.meaning.specs.Terms.{Head, arity, code, head_from, Tree, Forest, node, end, more, head_of, ty_of, Row, raw, row_of, kind_no, flat, flats, kids}
use Rattle.meaning.specs.Steps.{looks}
use Rattle.search.specs.Frames.{waits, spelled}
use Rattle.search.specs.Kinds.{waits_by, looks_by}
use Rattle.search.specs.Kept.{table, row_count, to_come}
use Rattle.search.specs.Search.{next_kind, looked_by}
use Rattle.search.proofs.OneRow.{first_head}
use Rattle.search.proofs.ByNumber.{waits-by, waits-told, leaf-waits, head_at_lem, looks-by, looks-told}
use Rattle.search.proofs.Tables.{table-length, row-of-behind}

-- The functions that read ----------------------------------------------------------------------------------------

pub kind-byte : (f : RowRead) (s : List ℕ) (p : ℕ) → numbers f ≡ read term_row (drop p s) → f.kind ≡ get_or s p 0
kind-byte f s p e = row-kind f _ e ∙ ap kind_no (term-row p s)

module _ (left : List ℕ) (at : ℕ) (right : List ℕ) (r o k a : ℕ) (b : Bool) (ek : k ≡ get_or left (8 * at) 0) (ea : a ≡ arity (row_of (read term_row (drop (8 * at) left))).head) where
  pub sees-first : a ≡ o → b ≡ looks_by k 0 (get_or right (8 * r) 0) (get_or right (8 * r + 1) 0) (get_or right (8 * r) 0) → b ≡ looked_by left at right r o
  unfolding looked_by
  sees-first e q = let z : a - o ≡ 0 = omega arith in rw (sym ea, z) (q ∙ rw ek refl)

  pub sees-later : o ≤ a → (a ≡ o → ⊥) → b ≡ looks_by k (a - o) (get_or left (8 * at + 8) 0) (get_or left (8 * at + 9) 0) (get_or right (8 * r) 0) → b ≡ looked_by left at right r o
  unfolding looked_by
  sees-later h e q = rw (sym ea, ne_eqb (a - o) 0 (λ z. e (omega arith))) (q ∙ rw ek refl)

pub next-some : (right : List ℕ) (r : ℕ) → r + 1 < row_count right → next_kind right r ≡ get_or right (8 * r + 8) 0
unfolding next_kind
next-some right r h = rw (lt-ltb (r + 1) (row_count right) h) refl

pub next-none : (right : List ℕ) (r : ℕ) → row_count right ≤ r + 1 → next_kind right r ≡ 0
unfolding next_kind
next-none right r h = rw (le-ltb (r + 1) (row_count right) h) refl

-- Rows and trees in sight ----------------------------------------------------------------------------------------

-- its head by its bytes
pub head_bytes : (s : List ℕ) (p : ℕ) → (row_of (read term_row (drop p s))).head ≡ head_from (get_or s p 0) (get_or s (p + 1) 0) (number 4 (drop (p + 4) s))
unfolding row_of
head_bytes s p = rw (term-row p s) refl

told : (s : List ℕ) (p : ℕ) (x : Row) → row_of (read term_row (drop p s)) ≡ x → head_from (get_or s p 0) (get_or s (p + 1) 0) (number 4 (drop (p + 4) s)) ≡ x.head
told s p x e = sym (head_bytes s p) ∙ ap (λ (y : Row). y.head) e

-- trees begin with the row of the first
pub first-row : {n : ℕ} (f : Forest n) → (n ≡ 0 → ⊥) → (u : ℕ) × (B : List Row) × (flats f ≡ record { head = first_head f; type = u } ∷ B)
unfolding flat first_head head_of
first-row end z = absurd (z refl)
first-row (more (node h u g) f) z = (u, flats g ++ flats f, refl)

-- THE ROW AT THE SEARCH waits if its bytes say so
pub waits-seen : (right : List ℕ) (r : ℕ) (h : Head) (u : ℕ) (f : Forest (arity h)) (ts : List Tree) → r ≤ row_count right → to_come right r ≡ map raw (spelled (node h u f ∷ ts))
    → waits_by (get_or right (8 * r) 0) (next_kind right r) ≡ waits h f
unfolding spelled flat to_come
waits-seen right r h u f ts g q =
    let k = told right (8 * r) (record { head = h; type = u }) (row-of-behind right (8 * r) (row_count right - r) (8 * r) [] (flats f ++ spelled ts) (record { head = h; type = u }) (omega arith) q) in
    elim (ℕ_discrete (arity h) 0) [
      | yes z ↦
          sym (waits-told (get_or right (8 * r) 0) (get_or right (8 * r + 1) 0) (number 4 (drop (8 * r + 4) right)) (next_kind right r) 0 0)
          ∙ ap (λ (x : Head). waits_by (code x) (code (head_from (next_kind right r) 0 0))) k
          ∙ leaf-waits h _ _ z
          ∙ sym (waits-by h f)
      | no z ↦
          let (v, B, ef) = first-row f z in
          let x : Row = record { head = first_head f; type = v } in
          let q' : table right (8 * r) (row_count right - r) ≡ map raw ((record { head = h; type = u } ∷ []) ++ (x ∷ (B ++ spelled ts))) = q ∙ ap (λ (l : List Row). map raw (record { head = h; type = u } ∷ (l ++ spelled ts))) ef in
          let n = told right (8 * r + 8) x (row-of-behind right (8 * r) (row_count right - r) (8 * r + 8) (record { head = h; type = u } ∷ []) (B ++ spelled ts) x (omega arith) q') in
          let long : r + 1 < row_count right = omega (arith, table-length right (8 * r) (row_count right - r), ap length q' ∙ length-map ((record { head = h; type = u } ∷ []) ++ (x ∷ (B ++ spelled ts))) raw) in
          ap (waits_by (get_or right (8 * r) 0)) (next-some right r long)
          ∙ sym (waits-told (get_or right (8 * r) 0) (get_or right (8 * r + 1) 0) (number 4 (drop (8 * r + 4) right)) (get_or right (8 * r + 8) 0) (get_or right (8 * r + 8 + 1) 0) (number 4 (drop (8 * r + 8 + 4) right)))
          ∙ cc (k, n)
          ∙ sym (waits-by h f)
    ]

tree-row : (t : Tree) → (B : List Row) × (flat t ≡ record { head = head_of t; type = ty_of t } ∷ B)
unfolding flat head_of ty_of
tree-row (node h u f) = (flats f, refl)

first_of : (n : ℕ) (t : Tree) (ts : List Tree) → 0 < n → first_head (kids n (t ∷ ts)) ≡ head_of t
unfolding first_head kids
first_of zero t ts h = absurd (omega arith)
first_of (suc n) t ts h = refl

-- THE FRAME looks at the tree at the search if its bytes say so
module _ (left : List ℕ) (l at : ℕ) (right : List ℕ) (r m o : ℕ) (h : Head) (u : ℕ) (A : List Row) (t : Tree) (ts : List Tree) (ea : at ≡ length A) (q : table right (8 * r) m ≡ map raw (spelled (t ∷ ts))) where
  here-told : head_from (get_or right (8 * r) 0) (get_or right (8 * r + 1) 0) (number 4 (drop (8 * r + 4) right)) ≡ head_of t
  unfolding spelled
  here-told =
      let (B, e) = tree-row t in
      told right (8 * r) (record { head = head_of t; type = ty_of t }) (row-of-behind right (8 * r) m (8 * r) [] (B ++ spelled ts) (record { head = head_of t; type = ty_of t }) (omega arith) (q ∙ ap (λ (x : List Row). map raw (x ++ spelled ts)) e))

  frame-told : (C : List Row) → table left 0 l ≡ map raw (A ++ (record { head = h; type = u } ∷ C)) → row_of (read term_row (drop (8 * at) left)) ≡ record { head = h; type = u }
  frame-told C p = row-of-behind left 0 l (8 * at) A C (record { head = h; type = u }) (omega arith) p

  pub looks-seen : (B : List Tree) → table left 0 l ≡ map raw (A ++ (record { head = h; type = u } ∷ spelled B)) → waits h (kids (arity h) (B ++ (t ∷ ts))) ≡ true → 0 < o → o + length B ≡ arity h
      → looked_by left at right r o ≡ looks h (kids (arity h) (B ++ (t ∷ ts))) (length B)
  unfolding looked_by spelled
  looks-seen [] p w s e =
      let k = frame-told [] p in
      let j : arity (row_of (read term_row (drop (8 * at) left))).head - o ≡ 0 = omega (arith, ap (λ (x : Row). arity x.head) k) in
      let f = told left (8 * at) (record { head = h; type = u }) k in
      let g = first_of (arity h) t ts (omega arith) in
      let i = head_at_lem (arity h) [] t ts (omega arith) in
      rw j (
      sym (looks-told (get_or left (8 * at) 0) (get_or left (8 * at + 1) 0) (number 4 (drop (8 * at + 4) left)) 0 (get_or right (8 * r) 0) (get_or right (8 * r + 1) 0) (number 4 (drop (8 * r + 4) right)) (get_or right (8 * r) 0) (get_or right (8 * r + 1) 0) (number 4 (drop (8 * r + 4) right)))
      ∙ cc (f, here-told, g, i)
      ∙ sym (looks-by h (kids (arity h) (t ∷ ts)) 0 w (omega arith)))
  looks-seen (b ∷ B) p w s e =
      let k = frame-told (flat b ++ spelled B) p in
      let z : length (b ∷ B) ≡ suc (length B) = refl in
      let j : arity (row_of (read term_row (drop (8 * at) left))).head - o ≡ suc (length B) = omega (arith, ap (λ (x : Row). arity x.head) k) in
      let f = told left (8 * at) (record { head = h; type = u }) k in
      let (C, eb) = tree-row b in
      let p' : table left 0 l ≡ map raw ((A ++ (record { head = h; type = u } ∷ [])) ++ (record { head = head_of b; type = ty_of b } ∷ (C ++ spelled B))) =
      p ∙ ap (λ (x : List Row). map raw (A ++ (record { head = h; type = u } ∷ (x ++ spelled B)))) eb ∙ ap (map raw) (sym (append_assoc A (record { head = h; type = u } ∷ []) (record { head = head_of b; type = ty_of b } ∷ (C ++ spelled B)))) in
      let pos : 0 + 8 * length (A ++ (record { head = h; type = u } ∷ [])) ≡ 8 * at + 8 = rw (length-append A (record { head = h; type = u } ∷ [])) (omega arith) in
      let n = told left (8 * at + 8) (record { head = head_of b; type = ty_of b }) (row-of-behind left 0 l (8 * at + 8) (A ++ (record { head = h; type = u } ∷ [])) (C ++ spelled B) (record { head = head_of b; type = ty_of b }) (sym pos) p') in
      let nine : 8 * at + 8 + 1 ≡ 8 * at + 9 = omega arith in
      let g = first_of (arity h) b (B ++ (t ∷ ts)) (omega arith) in
      let i = head_at_lem (arity h) (b ∷ B) t ts (omega arith) in
      rw (j, sym nine, ne_eqb (suc (length B)) 0 (λ y. omega arith)) (
      sym (looks-told (get_or left (8 * at) 0) (get_or left (8 * at + 1) 0) (number 4 (drop (8 * at + 4) left)) (suc (length B)) (get_or left (8 * at + 8) 0) (get_or left (8 * at + 8 + 1) 0) (number 4 (drop (8 * at + 8 + 4) left)) (get_or right (8 * r) 0) (get_or right (8 * r + 1) 0) (number 4 (drop (8 * r + 4) right)))
      ∙ cc (f, here-told, n, g, i)
      ∙ sym (looks-by h (kids (arity h) (b ∷ (B ++ (t ∷ ts)))) (suc (length B)) w (omega arith)))
