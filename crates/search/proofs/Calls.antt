-- What is in sight where a call is entered and its function passed, by the bytes alone. Assumes nothing.
use Prim.Native.Nat.{ℕ, suc, ◌+◌, ◌*◌, ◌-◌, ◌<◌, ◌≤◌}
use mathlib.Core.Path.{◌≡◌, refl, ap, sym, ◌∙◌}
use mathlib.Core.Bool.{Bool, true, false, cond, false≢true}
use mathlib.Core.List.{List, ◌++◌}
use native.Mathlib.Omega.{arith}
use native.Mathlib.Decide.{ℕ_discrete}
use borrow.Author.Tests.{ne_eqb}
use lib.Dec.{eqb}
use lib.ListN.{length, get_or, set, take, drop, length-take, length-drop, get_or-append}
use lib.Seq.{get_or-append-add, get_or-take, get_or-drop, get_or-set_same}
use Rattle.meaning.specs.Bytes.{read, term_row}
use Rattle.meaning.specs.Types.{member}
use Rattle.meaning.specs.Terms.{arity, head_from, row_of, size}
use Rattle.meaning.specs.Steps.{made_of_values}
use Rattle.search.specs.Kinds.{waits_by, looks_by}
use Rattle.search.specs.Kept.{copied, row_in, owed_in, entered_number, passed_number, tree_here, moved, Enters, Passes}
use Rattle.search.specs.Search.{Room, Sees, Nested, next_kind, looked_by}
use Rattle.search.specs.declared.Stand.{Stand}
use Rattle.search.specs.declared.Sight.TheVariants.{Skip, Enter}
use Rattle.search.proofs.Sights.{head_bytes, next-some}
use Rattle.search.proofs.Entries.{passed-row}
use Rattle.search.proofs.Turns.{skip-sight, frame-sight}
use Rattle.search.proofs.Values.{one-row-tree}

-- A frame that is made of values looks at all its trees
looks-all : (k j c m t : ℕ) → member k made_of_values ≡ true → looks_by k j c m t ≡ true
unfolding looks_by member
looks-all k j c m t e =
    elim (ℕ_discrete k 13) [
      | yes q ↦ rw q refl
      | no q ↦
          elim (ℕ_discrete k 16) [
            | yes g ↦ rw g refl
            | no g ↦ let z : member k made_of_values ≡ false = rw (ne_eqb k 13 q, ne_eqb k 16 g) refl in absurd (false≢true (sym z ∙ e))
          ]
    ]

either : (b x y : Bool) → x ≡ true → y ≡ true → cond b x y ≡ true
either true x y p q = p
either false x y p q = q

pub all-looked : (left : List ℕ) (at : ℕ) (right : List ℕ) (r o : ℕ) → member (get_or left (8 * at) 0) made_of_values ≡ true → looked_by left at right r o ≡ true
unfolding looked_by
all-looked left at right r o e =
    let j = arity (row_of (read term_row (drop (8 * at) left))).head - o in
    let k = get_or left (8 * at) 0 in
    let t = get_or right (8 * r) 0 in
    either (eqb j 0) (looks_by k j t (get_or right (8 * r + 1) 0) t) (looks_by k j (get_or left (8 * at + 8) 0) (get_or left (8 * at + 9) 0) t) (looks-all k j t (get_or right (8 * r + 1) 0) t e)
    (looks-all k j (get_or left (8 * at + 8) 0) (get_or left (8 * at + 9) 0) t e)

-- Rows copied ----------------------------------------------------------------------------------------------------

module _ (left left' right : List ℕ) (l r n : ℕ) (hl : 8 * l + 8 * n ≤ length left) (hr : 8 * r + 8 * n ≤ length right) (e : left' ≡ copied left l right r n) where
  pub copied_byte : (i : ℕ) → i < 8 * n → get_or left' (8 * l + i) 0 ≡ get_or right (8 * r + i) 0
  unfolding copied
  copied_byte i h =
      let a : length (take (8 * l) left) ≡ 8 * l = length-take (8 * l) left ∙ omega arith in
      let b : length (take (8 * n) (drop (8 * r) right)) ≡ 8 * n = length-take (8 * n) (drop (8 * r) right) ∙ omega (arith, length-drop (8 * r) right) in
      let z : 8 * l + i ≡ length (take (8 * l) left) + i = omega arith in
      ap (λ (x : List ℕ). get_or x (8 * l + i) 0) e
      ∙ ap (λ (j : ℕ). get_or (take (8 * l) left ++ (take (8 * n) (drop (8 * r) right) ++ drop (8 * l + 8 * n) left)) j 0) z
      ∙ get_or-append-add (take (8 * l) left) (take (8 * n) (drop (8 * r) right) ++ drop (8 * l + 8 * n) left) i 0
      ∙ get_or-append (take (8 * n) (drop (8 * r) right)) (drop (8 * l + 8 * n) left) 0 i (omega arith)
      ∙ get_or-take (8 * n) (drop (8 * r) right) i 0 h
      ∙ get_or-drop (8 * r) right i 0

  pub before-byte : (j : ℕ) → j < 8 * l → get_or left' j 0 ≡ get_or left j 0
  unfolding copied
  before-byte j h =
      let a : length (take (8 * l) left) ≡ 8 * l = length-take (8 * l) left ∙ omega arith in
      ap (λ (x : List ℕ). get_or x j 0) e
      ∙ get_or-append (take (8 * l) left) (take (8 * n) (drop (8 * r) right) ++ drop (8 * l + 8 * n) left) 0 j (omega arith)
      ∙ get_or-take (8 * l) left j 0 h

-- the trees below a call, and below a foreign function
call-arity : (s : List ℕ) (p : ℕ) → get_or s p 0 ≡ 8 → arity (row_of (read term_row (drop p s))).head ≡ suc (get_or s (p + 1) 0)
unfolding head_from
call-arity s p e = rw (head_bytes s p, e) refl

pub function-arity : (s : List ℕ) (p : ℕ) → get_or s p 0 ≡ 7 → arity (row_of (read term_row (drop p s))).head ≡ 0
unfolding head_from
function-arity s p e = rw (head_bytes s p, e) refl

entered_at : (l n : ℕ) → n ≤ 256 → (row_in (entered_number l n) ≡ l) × (owed_in (entered_number l n) ≡ n)
unfolding entered_number row_in owed_in
entered_at l n h = (omega arith, omega arith)

-- what a call looks at
call-first : (k j c m t : ℕ) → k ≡ 8 → c ≡ 7 → j ≡ 0 → looks_by k j c m t ≡ false
unfolding looks_by
call-first k j c m t a b d = rw (a, b, d) refl

call-later : (k j c m t : ℕ) → k ≡ 8 → c ≡ 7 → j ≡ 1 → looks_by k j c m t ≡ true
unfolding looks_by
call-later k j c m t a b d = rw (a, b, d) refl

first-looked : (left : List ℕ) (at : ℕ) (right : List ℕ) (r o : ℕ) → arity (row_of (read term_row (drop (8 * at) left))).head ≡ o → get_or left (8 * at) 0 ≡ 8 → get_or right (8 * r) 0 ≡ 7 → looked_by left at right r o ≡ false
unfolding looked_by
first-looked left at right r o a k t =
    let z : arity (row_of (read term_row (drop (8 * at) left))).head - o ≡ 0 = omega arith in
    rw z (call-first _ 0 _ _ _ k t refl)

second-looked : (left : List ℕ) (at : ℕ) (right : List ℕ) (r o : ℕ) → arity (row_of (read term_row (drop (8 * at) left))).head ≡ o + 1 → get_or left (8 * at) 0 ≡ 8 → get_or left (8 * at + 8) 0 ≡ 7 → looked_by left at right r o ≡ true
unfolding looked_by
second-looked left at right r o a k c =
    let z : arity (row_of (read term_row (drop (8 * at) left))).head - o ≡ 1 = omega arith in
    rw z (call-later _ 1 _ _ _ k c refl)

call-waits : (k c : ℕ) → k ≡ 8 → c ≡ 7 → waits_by k c ≡ true
unfolding waits_by
call-waits k c a b = rw (a, b) refl

-- A CALL IS ENTERED: its function is not looked at
module _ (left left1 right frames frames1 : List ℕ) (s s1 : Stand) (room : Room left right frames s) (shallow : s.d ≤ s.l) (b : Nested right s.r) (p : Enters left left1 right frames frames1 s s1) where
  stood-l : s1.l ≡ s.l + 1
  unfolding moved
  stood-l = ap (λ (y : Stand). y.l) p.stand

  stood-r : s1.r ≡ s.r + 1
  unfolding moved
  stood-r = ap (λ (y : Stand). y.r) p.stand

  stood-d : s1.d ≡ suc s.d
  unfolding moved
  stood-d = let z : s1.d ≡ s.d + 1 = ap (λ (y : Stand). y.d) p.stand in omega arith

  number_in : get_or frames1 s.d 0 ≡ entered_number s.l (suc (get_or right (8 * s.r + 1) 0))
  number_in =
      ap (λ (x : List ℕ). get_or x s.d 0) p.numbers ∙ get_or-set_same frames s.d _ 0 (omega (arith, room.deep, room.ends, b.long)) ∙ ap (entered_number s.l) (call-arity right (8 * s.r) b.outer)

  few : suc (get_or right (8 * s.r + 1) 0) ≤ 256
  few = omega (arith, p.few, call-arity right (8 * s.r) b.outer)

  byte-in : (i : ℕ) → i < 8 → get_or left1 (8 * s.l + i) 0 ≡ get_or right (8 * s.r + i) 0
  byte-in i h = copied_byte left left1 right s.l s.r 1 (omega (arith, room.left-long, room.ends, b.long)) (omega (arith, b.long)) p.bytes i (omega arith)

  kind-in : get_or left1 (8 * s.l) 0 ≡ 8
  kind-in =
      let y : 8 * s.l + 0 ≡ 8 * s.l = omega arith in
      let z : 8 * s.r + 0 ≡ 8 * s.r = omega arith in
      ap (λ (i : ℕ). get_or left1 i 0) (sym y) ∙ byte-in 0 (omega arith) ∙ ap (λ (i : ℕ). get_or right i 0) z ∙ b.outer

  at-function : get_or right (8 * s1.r) 0 ≡ 7
  at-function = ap (λ (i : ℕ). get_or right (8 * i) 0) stood-r ∙ b.called

  pub function-size : size (tree_here right s1.r) ≡ 1
  function-size = one-row-tree right s1.r (omega (arith, stood-r, b.long)) (function-arity right (8 * s1.r) at-function)

  pub function-skipped : Room left1 right frames1 s1 → Sees Skip left1 right frames1 s1
  function-skipped room1 form k Fs ts x =
      let n = suc (get_or right (8 * s.r + 1) 0) in
      let y = entered_at s.l n few in
      let many = call-arity left1 (8 * s.l) kind-in ∙ ap suc (byte-in 1 (omega arith)) in
      skip-sight form k left1 right frames1 s1 room1 s.d stood-d (looked_by left1 s.l right s1.r n) Fs ts n s.l (sym (ap owed_in number_in ∙ y.1)) (sym (ap row_in number_in ∙ y.0)) (omega arith) refl
      (first-looked left1 s.l right s1.r n many kind-in at-function) x

  -- AND ITS FUNCTION PASSED: its first argument waits
  module _ (left2 frames2 : List ℕ) (s2 : Stand) (room1 : Room left1 right frames1 s1) (q : Passes left1 left2 right frames1 frames2 s1 true s2) where
    on-l : s2.l ≡ s1.l + 1
    unfolding moved
    on-l = ap (λ (y : Stand). y.l) q.stand ∙ ap (λ (n : ℕ). s1.l + n) function-size

    on-r : s2.r ≡ s1.r + 1
    unfolding moved
    on-r = ap (λ (y : Stand). y.r) q.stand ∙ ap (λ (n : ℕ). s1.r + n) function-size

    on-d : s2.d ≡ suc s.d
    unfolding moved
    on-d = let z : s2.d ≡ s1.d + 0 = ap (λ (y : Stand). y.d) q.stand in omega (arith, stood-d)

    bytes_on : left2 ≡ copied left1 s1.l right s1.r 1
    bytes_on = q.bytes ∙ ap (copied left1 s1.l right s1.r) function-size

    fits-left : 8 * s1.l + 8 * 1 ≤ length left1
    fits-left = omega (arith, room1.left-long, room1.ends, stood-r, b.long)

    fits-right : 8 * s1.r + 8 * 1 ≤ length right
    fits-right = omega (arith, stood-r, b.long)

    byte-on : (i : ℕ) → i < 8 → get_or left2 (8 * s.l + i) 0 ≡ get_or right (8 * s.r + i) 0
    byte-on i h = before-byte left1 left2 right s1.l s1.r 1 fits-left fits-right bytes_on (8 * s.l + i) (omega (arith, stood-l)) ∙ byte-in i h

    kind-on : get_or left2 (8 * s.l) 0 ≡ 8
    kind-on =
        let y : 8 * s.l + 0 ≡ 8 * s.l = omega arith in
        let z : 8 * s.r + 0 ≡ 8 * s.r = omega arith in
        ap (λ (i : ℕ). get_or left2 i 0) (sym y) ∙ byte-on 0 (omega arith) ∙ ap (λ (i : ℕ). get_or right i 0) z ∙ b.outer

    function-on : get_or left2 (8 * s.l + 8) 0 ≡ 7
    function-on =
        let y : 8 * s1.l + 0 ≡ 8 * s.l + 8 = omega (arith, stood-l) in
        let z : 8 * s1.r + 0 ≡ 8 * s1.r = omega arith in
        ap (λ (i : ℕ). get_or left2 i 0) (sym y) ∙ copied_byte left1 left2 right s1.l s1.r 1 fits-left fits-right bytes_on 0 (omega arith) ∙ ap (λ (i : ℕ). get_or right i 0) z ∙ at-function

    number-on : get_or frames2 s.d 0 ≡ passed_number (entered_number s.l (suc (get_or right (8 * s.r + 1) 0))) true
    number-on =
        let i : s1.d - 1 ≡ s.d = omega (arith, stood-d) in
        ap (λ (x : List ℕ). get_or x s.d 0) (q.numbers ∙ ap (λ (j : ℕ). set frames1 j (passed_number (get_or frames1 j 0) true)) i)
        ∙ get_or-set_same frames1 s.d _ 0 (omega (arith, room1.deep, room1.ends, stood-l, stood-r, b.long))
        ∙ ap (λ (x : ℕ). passed_number x true) number_in

    pub argument-waits : Room left2 right frames2 s2 → Sees Enter left2 right frames2 s2
    argument-waits room2 form k Fs ts x =
        let n = get_or right (8 * s.r + 1) 0 in
        let y = entered_at s.l (suc n) few in
        let w = passed-row (entered_number s.l (suc n)) true (omega (arith, y.1)) in
        let o : n ≡ owed_in (get_or frames2 s.d 0) = omega (arith, ap owed_in number-on, w.1, y.1) in
        let at : s.l ≡ row_in (get_or frames2 s.d 0) = sym (ap row_in number-on ∙ w.0 ∙ y.0) in
        let many : arity (row_of (read term_row (drop (8 * s.l) left2))).head ≡ n + 1 = call-arity left2 (8 * s.l) kind-on ∙ ap suc (byte-on 1 (omega arith)) ∙ omega arith in
        let r2 : s2.r ≡ s.r + 2 = omega (arith, on-r, stood-r) in
        let r3 : 8 * s2.r + 8 ≡ 8 * (s.r + 3) = omega arith in
        let waiting = call-waits (get_or right (8 * s2.r) 0) (next_kind right s2.r) (ap (λ (i : ℕ). get_or right (8 * i) 0) r2 ∙ b.inner) (next-some right s2.r (omega (arith, r2, b.long)) ∙ ap (λ (i : ℕ). get_or right i 0) r3 ∙ b.next) in
        (frame-sight form k left2 right frames2 s2 room2 s.d on-d true true Fs ts n s.l o at b.arguments (sym (second-looked left2 s.l right s2.r n many kind-on function-on)) refl (record { waiting = λ y. waiting; zipping = λ y. absurd (false≢true (sym y)) }) x).0 refl

-- a frame that is made of values looks at all its trees
pub ruleset looked = (all-looked)
