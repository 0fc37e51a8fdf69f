-- A search in bytes: how it begins, the rows of the whole, and what a rule that stays or goes tells of the whole. Assumes nothing.
use Prim.Native.Nat.{ℕ, zero, suc, ◌+◌, ◌-◌, ◌≤◌}
use mathlib.Core.Path.{◌≡◌, refl, ap, sym, ◌∙◌}
use mathlib.Core.Bool.{Bool, true, not}
use mathlib.Core.List.{List, [], ◌∷◌, ◌++◌, map, append_assoc, append-nil}
use Rattle.std.specs.Prelude.{Option}
use native.Mathlib.Omega.{arith}
use lib.ListN.{length, length-append, length-drop}
use Rattle.meaning.specs.Bytes.{◌∧ᵇ◌, reads}
use Rattle.meaning.specs.Types.{Form, member}
use Rattle.meaning.specs.Terms.{Head, arity, code, Tree, Forest, node, Row, raw, flat, top}
use Rattle.meaning.specs.Steps.{value, value_kinds, made_of_values, Call, stay, go, contract, looks, step}
use Rattle.search.specs.Frames.{Rests, zips, spelled, Frame, below, close, around, row_of_frame, passed_rows, Open, Passed}
use Rattle.search.specs.Kept.{table, to_come, Held, Passes}
use Rattle.search.specs.Search.{owing, Searching, Reached, Room, Resting}
use Rattle.search.specs.declared.Stand.{Stand}
use Rattle.search.proofs.OneRow.{resting-row}
use Rattle.search.proofs.Over.{spelled-close, spelled-append}
use Rattle.search.proofs.Tables.{map-append}
use Rattle.search.proofs.Frames.{found, passing, value-resting, ended, opened}
use Rattle.search.proofs.Turns.{tree-passed}
use Rattle.search.proofs.Changes.{owing-some}

-- IT BEGINS with all rows to come: those of one tree
pub begins : (form : ℕ → Form) (k : ℕ) (left right frames : List ℕ) (s : Stand) (t : Tree) → s.l ≡ 0 → s.d ≡ 0 → to_come right s.r ≡ map raw (flat t) → Searching form k left right frames s [] (t ∷ [])
unfolding spelled owing Held Passed passed_rows table reads
begins form k left right frames s t el ed q = record { kept = rw (el, ed) (record { rows = refl; held = tt }); coming = q ∙ ap (map raw) (sym (append-nil (flat t))); count = refl; passed = tt }

closed-long : (F : Frame) (ts : List Tree) (n : ℕ) → length ts ≡ (arity F.head - length F.before) + (n - 1) → length F.before ≤ arity F.head → 1 ≤ n → length (close F ts) ≡ n
unfolding close
closed-long F ts n c e h = omega (arith, c, e, length-append F.before ts, length-drop (arity F.head) (F.before ++ ts))

-- THE WHOLE has the rows passed and the rows to come
module _ (form : ℕ → Form) (k : ℕ) (frames : List ℕ) where
  -- also with other trees to come than those that were passed by
  pub whole-rows : (d : ℕ) (Fs : List Frame) (ts us : List Tree) → Held frames d Fs → length ts ≡ owing Fs → Passed form k Fs us → passed_rows Fs ++ spelled ts ≡ flat (top (around Fs ts))
  unfolding passed_rows owing Passed Held around spelled top
  whole-rows zero [] [] us h c p = absurd (omega (arith, c))
  whole-rows zero [] (t ∷ []) us h c p = append-nil (flat t)
  whole-rows zero [] (t ∷ u ∷ ts) us h c p = absurd (omega (arith, c))
  whole-rows zero (F ∷ Fs) ts us h c p = absurd h
  whole-rows (suc d) [] ts us h c p = absurd h
  whole-rows (suc d) (F ∷ Fs) ts us (e, h) c (_, o, p) =
      let long = length-append F.before ts in
      let some = owing-some Fs (close F us) o in
      let n : length (close F ts) ≡ owing Fs = closed-long F ts (owing Fs) c (omega (arith, e.owes)) some in
      append_assoc (passed_rows Fs) (row_of_frame F ∷ spelled F.before) (spelled ts)
      ∙ ap (λ (l : List Row). passed_rows Fs ++ (row_of_frame F ∷ l)) (sym (spelled-append F.before ts))
      ∙ ap (λ (l : List Row). passed_rows Fs ++ l) (sym (spelled-close F ts (omega (arith, c, e.owes, long))))
      ∙ whole-rows d Fs (close F ts) (close F us) h n p

module _ (form : ℕ → Form) (k : ℕ) (left right frames : List ℕ) (s : Stand) where
  abbrev At : List Frame → List Tree → Type 0
  At Fs ts = Searching form k left right frames s Fs ts

  pub all-rows : (Fs : List Frame) (ts : List Tree) → At Fs ts → table left 0 s.l ++ to_come right s.r ≡ map raw (flat (top (around Fs ts)))
  all-rows Fs ts x = cc (x.kept.rows, x.coming) ∙ sym (map-append raw (passed_rows Fs) (spelled ts)) ∙ ap (map raw) (whole-rows form k frames s.d Fs ts ts x.kept.held x.count x.passed)

  -- A ROW WHOSE OWN RULE IS TRIED: if it goes, so does the whole
  pub here-goes : (Fs : List Frame) (h : Head) (u : ℕ) (f : Forest (arity h)) (ts : List Tree) (c : Option Call) (t : Tree) → At Fs (node h u f ∷ ts) → Open Fs (node h u f ∷ ts) → Rests h f
      → contract form k h u f ≡ go c t → step form k (top (around Fs (node h u f ∷ ts))) ≡ go c (top (around Fs (t ∷ ts)))
  here-goes Fs h u f ts c t x o w g = found form k Fs (node h u f) t ts c o x.passed (resting-row form k h u f w ∙ g)

  -- at the root, if it stays, so does the whole
  pub root-stays : (h : Head) (u : ℕ) (f : Forest (arity h)) (ts : List Tree) → Rests h f → contract form k h u f ≡ stay
      → (step form k (top (around [] (node h u f ∷ ts))) ≡ stay) × (value (top (around [] (node h u f ∷ ts))) ≡ member (code h) value_kinds)
  unfolding around top
  root-stays h u f ts w g = (resting-row form k h u f w ∙ g, value-resting h u f w)

  -- in a frame, if it stays, it is passed
  pub here-passed : (left' frames' : List ℕ) (s' : Stand) (fine : Bool) (F : Frame) (Fs : List Frame) (h : Head) (u : ℕ) (f : Forest (arity h)) (ts : List Tree) → Room left right frames s
      → Resting form k left right frames s F Fs h u f ts
      → (not (zips F.head (below F (node h u f ∷ ts))) ∧ᵇ member (code h) value_kinds) ≡ fine
      → Passes left left' right frames frames' s fine s'
      → Reached form k (F ∷ Fs) (node h u f ∷ ts) left' right frames' s'
  here-passed left' frames' s' fine F Fs h u f ts room x v p =
      let still : looks F.head (below F (node h u f ∷ ts)) (length F.before) ≡ true → step form k (node h u f) ≡ stay = (λ y. resting-row form k h u f x.rests ∙ x.stays) in
      tree-passed form k left right frames s room left' frames' s' fine F Fs (node h u f) ts x.search x.looked.inside still
      (passing form k F Fs (node h u f) fine ts x.search.passed still (rw (x.looked.seen, value-resting h u f x.rests) v)) p

  -- A FRAME'S END: its own rule comes last
  pub end_goes : (F : Frame) (Fs : List Frame) (ts : List Tree) (c : Option Call) (t : Tree) → At (F ∷ Fs) ts → length F.before ≡ arity F.head
      → contract form k F.head F.type (below F ts) ≡ go c t → step form k (top (around (F ∷ Fs) ts)) ≡ go c (top (around Fs (t ∷ ts)))
  end_goes F Fs ts c t x n g = opened form k F ts n Fs c t x.passed g

  -- THE END: nothing is to come, and the rule of the outermost row stays
  pub end_stays : (F : Frame) (ts : List Tree) → At (F ∷ []) ts → length F.before ≡ arity F.head → contract form k F.head F.type (below F ts) ≡ stay
      → (step form k (top (around (F ∷ []) ts)) ≡ stay) × (value (top (around (F ∷ []) ts)) ≡ (member (code F.head) made_of_values ∧ᵇ F.clear))
  end_stays F ts x n g = ended form k F ts n x.passed g
