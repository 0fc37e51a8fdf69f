-- A search that stopped: where the rows of its tree stand, what its rule tells of the whole, and what is behind a step. Assumes nothing.
use Prim.Native.Nat.{ℕ, zero, suc, ◌+◌, ◌*◌, ◌-◌, ◌<◌, ◌≤◌}
use mathlib.Core.Path.{◌≡◌, refl, ap, sym, ◌∙◌}
use mathlib.Core.Bool.{Bool, true, false, cond, not, false≢true}
use mathlib.Core.List.{List, ◌∷◌, map}
use Rattle.std.specs.Prelude.{Option, None}
use native.Mathlib.Omega.{arith}
use lib.Dec.{eqb}
use borrow.Author.Tests.{eqb-true}
use lib.ListN.{length, get_or, length-append}
use Rattle.meaning.specs.Bytes.{◌∧ᵇ◌}
use Rattle.meaning.specs.Types.{Form}
use Rattle.meaning.specs.Terms.{str, file, truth, Head, lit, var, lambda, foreign, apply, future, ite, fix, nil, cons, isnil, zip, tuple, project, lproject, bind, arity, code, n_of, Tree, Forest, node, end, more, head_of, is, raw, flat, size, top}
use Rattle.meaning.specs.Typing.{first_is}
use Rattle.meaning.specs.Steps.{Call, go, ready, any_nil, zip_cons, zip_step, apply_step, contract, step}
use Rattle.meaning.proofs.Trees.Parse.{length-flat}
use Rattle.meaning.proofs.Trees.Tests.{left, right}
use Rattle.reduce.specs.Lists.{zips, lists_below, zips_lists, tree_zips}
use Rattle.search.specs.Frames.{waits, Rests, spelled, Frame, below, around, row_of_frame, passed_rows}
use Rattle.search.specs.Kept.{table, to_come, row_count, row_in, Held}
use Rattle.search.specs.Search.{Searching, Seen, here, done, stop, Changed}
use Rattle.search.specs.declared.Stand.{Stand}
use Rattle.search.proofs.Tables.{first_rows, later_rows}
use Rattle.search.proofs.Entries.{rows_long, held-few}
use Rattle.search.proofs.Turns.{rest-rows, some-row}
use Rattle.search.proofs.Changes.{frame-rows, here-changed, end-changed}
use Rattle.search.proofs.Ends.{here-goes, end_goes}
use Rattle.runs.specs.Sites.{Site, at_row, at-end, own}

-- Every stop is a site --------------------------------------------------------------------------------------------

pub record Found (b : Bool) (Fs : List Frame) (ts : List Tree) : Type 0 where
  pub tree : Tree
  pub outer : List Frame
  pub rest : List Tree
  pub site : Site b Fs ts tree outer rest

pub site-of : (b : Bool) (Fs : List Frame) (ts : List Tree) → Seen (stop b) Fs ts → Found b Fs ts
site-of true Fs ts (here {h = h} {u = u} {f = f} {ts = us} o w) = record { tree = node h u f; outer = Fs; rest = us; site = at_row o w }
site-of false Gs us (done {F = F} {Fs = Fs} {ts = ts} e) = record { tree = node F.head F.type (below F ts); outer = Fs; rest = ts; site = at-end e }

module _ (form : ℕ → Form) (k : ℕ) (left right frames : List ℕ) (s : Stand) where
  abbrev At : List Frame → List Tree → Type 0
  At Fs ts = Searching form k left right frames s Fs ts

  -- IF THE RULE GOES, so does the whole
  pub site-goes : (b : Bool) (Fs : List Frame) (ts : List Tree) (old : Tree) (outer : List Frame) (rest : List Tree) (c : Option Call) (t : Tree) → Site b Fs ts old outer rest → At Fs ts → own form k old ≡ go c t
      → step form k (top (around Fs ts)) ≡ go c (top (around outer (t ∷ rest)))
  unfolding own
  site-goes b Fs ts old outer rest c t (at_row {h = h} {u = u} {f = f} o w) x g = here-goes form k left right frames s outer h u f rest c t x o w g
  site-goes b Fs ts old outer rest c t (at-end {F = F} e) x g = end_goes form k left right frames s F outer rest c t x e g

  -- THE ROWS of its tree: at the search
  pub here-rows : (Fs : List Frame) (ts : List Tree) (old : Tree) (outer : List Frame) (rest : List Tree) → Site true Fs ts old outer rest → At Fs ts
      → (table right (8 * s.r) (size old) ≡ map raw (flat old)) × (to_come right (s.r + size old) ≡ map raw (spelled rest)) × (size old ≤ row_count right - s.r)
  unfolding to_come spelled
  here-rows Fs ts old outer rest (at_row {h = h} {u = u} {f = f} o w) x =
      let first = first_rows right (8 * s.r) (row_count right - s.r) (flat old) (spelled rest) x.coming in
      (ap (table right (8 * s.r)) (sym (length-flat old)) ∙ first, rest-rows right s.r (size old) (flat old) (spelled rest) (length-flat old) x.coming, some-row right s.r old rest x.coming)

  -- or at the end of the rows passed
  pub end-rows : (Fs : List Frame) (ts : List Tree) (old : Tree) (outer : List Frame) (rest : List Tree) → Site false Fs ts old outer rest → At Fs ts
      → (s.l ≡ length (passed_rows outer) + size old) × (table left (8 * length (passed_rows outer)) (size old) ≡ map raw (flat old)) × (to_come right s.r ≡ map raw (spelled rest))
  unfolding passed_rows
  end-rows Fs ts old outer rest (at-end {F = F} e) x =
      let rows = frame-rows F rest e in
      let n : size old ≡ suc (length (spelled F.before)) = sym (length-flat old) ∙ ap length rows in
      let l = rows_long left frames s.l s.d (F ∷ outer) x.kept ∙ length-append (passed_rows outer) (row_of_frame F ∷ spelled F.before) in
      let later = later_rows left 0 s.l (passed_rows outer) (row_of_frame F ∷ spelled F.before) x.kept.rows in
      let z : s.l - length (passed_rows outer) ≡ size old = omega (arith, l, n) in
      let p : 0 + 8 * length (passed_rows outer) ≡ 8 * length (passed_rows outer) = omega arith in
      (omega (arith, l, n), cc (p, z) ∙ later ∙ ap (map raw) (sym rows), x.coming)

  -- the frame's row
  pub end-at : (Fs : List Frame) (ts : List Tree) (old : Tree) (outer : List Frame) (rest : List Tree) → Site false Fs ts old outer rest → At Fs ts
      → (row_in (get_or frames (s.d - 1) 0) ≡ length (passed_rows outer)) × (0 < s.d) × (s.d - 1 ≤ length (passed_rows outer))
  unfolding Held
  end-at Fs ts old outer rest (at-end {F = F} e) x = held s.d x.kept.held
    where
      held : (d : ℕ) → Held frames d (F ∷ outer) → (row_in (get_or frames (d - 1) 0) ≡ length (passed_rows outer)) × (0 < d) × (d - 1 ≤ length (passed_rows outer))
      held zero h = absurd h
      held (suc d) h = let z : suc d - 1 ≡ d = omega arith in (rw z h.0.at, omega arith, rw z (held-few frames d outer h.1))

-- BEHIND A STEP: the new tree stands in the place of the old one
module _ (form : ℕ → Form) (k : ℕ) (left left' right right' frames : List ℕ) (s s' : Stand) where
  pub here-behind : (Fs : List Frame) (ts : List Tree) (old t : Tree) (outer : List Frame) (rest : List Tree) → Site true Fs ts old outer rest → Searching form k left right frames s Fs ts
      → s'.l ≡ s.l → s'.d ≡ s.d → table left' 0 s.l ≡ table left 0 s.l → to_come right' s'.r ≡ map raw (spelled (t ∷ rest))
      → Changed form k left' right' frames s' outer t rest
  here-behind Fs ts old t outer rest (at_row {h = h} {u = u} {f = f} o w) x el ed same q = here-changed form k left left' right right' frames s s' outer (node h u f) t rest x o el ed same q

  pub end-behind : (Fs : List Frame) (ts : List Tree) (old t : Tree) (outer : List Frame) (rest : List Tree) → Site false Fs ts old outer rest → Searching form k left right frames s Fs ts
      → s'.l ≡ length (passed_rows outer) → s'.d ≡ s.d - 1 → to_come right' s'.r ≡ map raw (spelled (t ∷ rest))
      → Changed form k left right' frames s' outer t rest
  end-behind Fs ts old t outer rest (at-end {F = F} e) x el ed q = end-changed form k left left' right right' frames s s' F outer t rest x e el ed q

-- A row that rests is no call -------------------------------------------------------------------------------------

six-not-seven : (c : Tree) → not (is 6 c) ≡ false → is 7 c ≡ false
unfolding is
six-not-seven c e = ap (λ (i : ℕ). eqb i 7) (eqb-true (code (head_of c)) 6 (not-false (eqb (code (head_of c)) 6) e))
  where
    not-false : (b : Bool) → not b ≡ false → b ≡ true
    not-false true e = refl
    not-false false e = absurd (false≢true (sym e))

at-once-no-call : (h : Head) (f : Forest (arity h)) → waits h f ≡ false → (eqb (code h) 8 ∧ᵇ first_is 7 f) ≡ false
unfolding waits code first_is ◌∧ᵇ◌
at-once-no-call (lit (str w)) f e = refl
at-once-no-call (lit (file w)) f e = refl
at-once-no-call (lit (truth true)) f e = refl
at-once-no-call (lit (truth false)) f e = refl
at-once-no-call (var x) f e = refl
at-once-no-call lambda f e = refl
at-once-no-call (foreign w) f e = refl
at-once-no-call (apply n) (more c args) e = six-not-seven c e
at-once-no-call (future j) f e = refl
at-once-no-call ite f e = refl
at-once-no-call fix f e = refl
at-once-no-call nil f e = refl
at-once-no-call cons f e = refl
at-once-no-call isnil f e = refl
at-once-no-call (zip m) f e = refl
at-once-no-call (tuple n) f e = refl
at-once-no-call (project i) f e = refl
at-once-no-call (lproject i) f e = refl
at-once-no-call (bind x) f e = refl

first-zip : {n : ℕ} (f : Forest n) → first_is 15 f ≡ true → first_is 7 f ≡ false
unfolding first_is is
first-zip end e = refl
first-zip (more c f) e = ap (λ (i : ℕ). eqb i 7) (eqb-true (code (head_of c)) 15 e)

zip-no-call : (h : Head) (f : Forest (arity h)) → zips_lists h f ≡ true → (eqb (code h) 8 ∧ᵇ first_is 7 f) ≡ false
unfolding zips_lists zips ◌∧ᵇ◌
zip-no-call h f e = ap (λ (b : Bool). eqb (code h) 8 ∧ᵇ b) (first-zip f (right (eqb (code h) 8) (first_is 15 f) (left (eqb (code h) 8 ∧ᵇ first_is 15 f) (lists_below f) e))) ∙ never (eqb (code h) 8)
  where
    never : (b : Bool) → (b ∧ᵇ false) ≡ false
    never true = refl
    never false = refl

rests-no-call : (h : Head) (f : Forest (arity h)) → Rests h f → (eqb (code h) 8 ∧ᵇ first_is 7 f) ≡ false
rests-no-call h f r = by-wait (waits h f) refl
  where
    by-wait : (b : Bool) → waits h f ≡ b → (eqb (code h) 8 ∧ᵇ first_is 7 f) ≡ false
    by-wait true e = zip-no-call h f (r e)
    by-wait false e = at-once-no-call h f e

-- whether a tree is a call of a foreign function
unfoldable pub is_call : Tree → Bool
is_call (node h u f) = eqb (code h) 8 ∧ᵇ first_is 7 f

pub here-no-call : (Fs : List Frame) (ts : List Tree) (old : Tree) (outer : List Frame) (rest : List Tree) → Site true Fs ts old outer rest → is_call old ≡ false
unfolding is_call
here-no-call Fs ts old outer rest (at_row {h = h} {u = u} {f = f} o w) = rests-no-call h f w

-- A call of a zip that rests goes ---------------------------------------------------------------------------------

zip-waits : (h : Head) (f : Forest (arity h)) → zips h f ≡ true → waits h f ≡ true
unfolding zips waits first_is code is ◌∧ᵇ◌
zip-waits (apply n) (more c args) e = ap (λ (i : ℕ). not (eqb i 6)) (eqb-true (code (head_of c)) 15 e)
zip-waits (lit (str w)) f e = absurd (false≢true e)
zip-waits (lit (file w)) f e = absurd (false≢true e)
zip-waits (lit (truth true)) f e = absurd (false≢true e)
zip-waits (lit (truth false)) f e = absurd (false≢true e)
zip-waits (var x) f e = absurd (false≢true e)
zip-waits lambda f e = absurd (false≢true e)
zip-waits (foreign w) f e = absurd (false≢true e)
zip-waits (future j) f e = absurd (false≢true e)
zip-waits ite f e = absurd (false≢true e)
zip-waits fix f e = absurd (false≢true e)
zip-waits nil f e = absurd (false≢true e)
zip-waits cons f e = absurd (false≢true e)
zip-waits isnil f e = absurd (false≢true e)
zip-waits (zip m) f e = absurd (false≢true e)
zip-waits (tuple n) f e = absurd (false≢true e)
zip-waits (project i) f e = absurd (false≢true e)
zip-waits (lproject i) f e = absurd (false≢true e)
zip-waits (bind x) f e = absurd (false≢true e)

module _ (form : ℕ → Form) (k : ℕ) where
  zip-goes : (h : Head) (u : ℕ) (f : Forest (arity h)) → zips_lists h f ≡ true → (v : Tree) × (contract form k h u f ≡ go None v)
  unfolding zips_lists zips lists_below contract apply_step zip_step first_is code is ◌∧ᵇ◌
  zip-goes (apply n) u (more c args) e =
      let q : code (head_of c) ≡ 15 = eqb-true (code (head_of c)) 15 (left (eqb (code (head_of c)) 15) (ready (n_of (head_of c)) args) e) in
      let v : ready (n_of (head_of c)) args ≡ true = right (eqb (code (head_of c)) 15) (ready (n_of (head_of c)) args) e in
      (cond (any_nil (n_of (head_of c)) args) (node nil u end) (zip_cons form u (n_of (head_of c)) c args), rw (q, v) (either (any_nil (n_of (head_of c)) args) (node nil u end) (zip_cons form u (n_of (head_of c)) c args)))
    where
      either : (b : Bool) (x y : Tree) → cond b (go None x) (go None y) ≡ go None (cond b x y)
      either true x y = refl
      either false x y = refl
  zip-goes (lit (str w)) u f e = absurd (false≢true e)
  zip-goes (lit (file w)) u f e = absurd (false≢true e)
  zip-goes (lit (truth true)) u f e = absurd (false≢true e)
  zip-goes (lit (truth false)) u f e = absurd (false≢true e)
  zip-goes (var x) u f e = absurd (false≢true e)
  zip-goes lambda u f e = absurd (false≢true e)
  zip-goes (foreign w) u f e = absurd (false≢true e)
  zip-goes (future j) u f e = absurd (false≢true e)
  zip-goes ite u f e = absurd (false≢true e)
  zip-goes fix u f e = absurd (false≢true e)
  zip-goes nil u f e = absurd (false≢true e)
  zip-goes cons u f e = absurd (false≢true e)
  zip-goes isnil u f e = absurd (false≢true e)
  zip-goes (zip m) u f e = absurd (false≢true e)
  zip-goes (tuple n) u f e = absurd (false≢true e)
  zip-goes (project i) u f e = absurd (false≢true e)
  zip-goes (lproject i) u f e = absurd (false≢true e)
  zip-goes (bind x) u f e = absurd (false≢true e)

  pub here-zips : (Fs : List Frame) (ts : List Tree) (old : Tree) (outer : List Frame) (rest : List Tree) → Site true Fs ts old outer rest → tree_zips old ≡ true → (v : Tree) × (own form k old ≡ go None v)
  unfolding own tree_zips
  here-zips Fs ts old outer rest (at_row {h = h} {u = u} {f = f} o w) e = zip-goes h u f (w (zip-waits h f e))
