-- Everything is passed and the rule at the root stays: the whole stays, and whether it is a value. Assumes nothing.
use Prim.Native.Nat.{ℕ, ◌+◌, ◌*◌, ◌-◌, ◌<◌, ◌≤◌}
use mathlib.Core.Path.{◌≡◌, ap, sym, ◌∙◌, subst}
use mathlib.Core.Bool.{Bool, true, false}
use mathlib.Core.List.{List, [], ◌∷◌}
use native.Mathlib.Omega.{arith}
use lib.ListN.{length, get_or}
use Rattle.meaning.specs.Types.{Form, member}
use Rattle.meaning.specs.Terms.{Tree, head_of, top}
use Rattle.meaning.specs.Steps.{stay, value, value_kinds, made_of_values, step}
use Rattle.meaning.proofs.Bytes.Records.{size-some}
use Rattle.search.specs.Frames.{Frame, below, around}
use Rattle.search.specs.Kept.{kind_at, row_in, value_end}
use Rattle.search.specs.Search.{Room, Searching}
use Rattle.search.specs.declared.Stand.{Stand}
use Rattle.search.proofs.Ends.{root-stays, end_stays}
use Rattle.search.proofs.Fits.{here-kind, end-kind, value-end}
use Rattle.search.proofs.Values.{value_stays, built-stays}
use Rattle.runs.specs.Sites.{Site, at_row, at-end, own, Halted}
use Rattle.runs.proofs.Tries.{here-fits}
use Rattle.runs.proofs.EndTries.{end_row_lem, end_below}

-- A ROW THAT IS A VALUE, or that is made of values, has no rule that reduces
module _ (form : ℕ → Form) (k : ℕ) (left right frames : List ℕ) (s : Stand) where
  kind-rests : (Fs : List Frame) (ts : List Tree) (old : Tree) (outer : List Frame) (rest : List Tree) → Site true Fs ts old outer rest → Searching form k left right frames s Fs ts → member (kind_at right s.r) value_kinds ≡ true → own form k old ≡ stay
  unfolding own head_of
  kind-rests Fs ts old outer rest (at_row {h = h} {u = u} {f = f} o w) x e =
      value_stays form k u h f (ap (λ (i : ℕ). member i value_kinds) (sym (here-kind right s.r old rest x.coming)) ∙ e)

  frame-rests : (Fs : List Frame) (ts : List Tree) (old : Tree) (outer : List Frame) (rest : List Tree) → Site false Fs ts old outer rest → Searching form k left right frames s Fs ts
      → member (kind_at left (row_in (get_or frames (s.d - 1) 0))) made_of_values ≡ true → own form k old ≡ stay
  unfolding own
  frame-rests Fs ts old outer rest (at-end {F = F} n) x e =
      built-stays form k F.type F.head (below F ts) (ap (λ (i : ℕ). member i made_of_values) (sym (end-kind form k left right frames s F outer ts x)) ∙ e)

module _ (form : ℕ → Form) (k : ℕ) (left right frames : List ℕ) (s : Stand) where
  abbrev Told : Bool → Tree → Type 0
  Told b t = (step form k t ≡ stay) × (value t ≡ b)

  at-the-root : (Fs : List Frame) (ts : List Tree) (old : Tree) (outer : List Frame) (rest : List Tree) → Site true Fs ts old outer rest → Searching form k left right frames s Fs ts → outer ≡ [] → own form k old ≡ stay
      → Told (member (kind_at right s.r) value_kinds) (top (around Fs ts))
  unfolding own head_of
  at-the-root Fs ts old outer rest (at_row {h = h} {u = u} {f = f} o w) x e g =
      let (p, q) = root-stays form k left right frames s h u f rest w g in
      let z = here-kind right s.r old rest x.coming in
      subst (λ (Gs : List Frame). Told (member (kind_at right s.r) value_kinds) (top (around Gs (old ∷ rest)))) (sym e) (p, q ∙ ap (λ (i : ℕ). member i value_kinds) (sym z))

  at-the-end : (Fs : List Frame) (ts : List Tree) (old : Tree) (outer : List Frame) (rest : List Tree) → Site false Fs ts old outer rest → Searching form k left right frames s Fs ts → outer ≡ [] → own form k old ≡ stay
      → Told (value_end left frames (s.d - 1)) (top (around Fs ts))
  unfolding own
  at-the-end Gs ts old outer rest (at-end {F = F} n) x e g =
      let y : Searching form k left right frames s (F ∷ []) ts = subst (λ (Fs : List Frame). Searching form k left right frames s (F ∷ Fs) ts) e x in
      let (p, q) = end_stays form k left right frames s F ts y n g in
      subst (λ (Fs : List Frame). Told (value_end left frames (s.d - 1)) (top (around (F ∷ Fs) ts))) (sym e) (p, q ∙ value-end form k left right frames s F [] ts y)

  module _ (t : Tree) (h : Halted form k left right frames s t) where
    pub rests-here : s.here ≡ true → h.outer ≡ [] → own form k h.tree ≡ stay → Told (member (kind_at right s.r) value_kinds) t
    rests-here b e g =
        subst (Told (member (kind_at right s.r) value_kinds)) h.all.whole
        (at-the-root h.all.frames_around h.all.trees h.tree h.outer h.rest (subst (λ (x : Bool). Site x h.all.frames_around h.all.trees h.tree h.outer h.rest) b h.site) h.all.search e g)

    pub rests-last : s.here ≡ false → h.outer ≡ [] → own form k h.tree ≡ stay → Told (value_end left frames (s.d - 1)) t
    rests-last b e g =
        subst (Told (value_end left frames (s.d - 1))) h.all.whole
        (at-the-end h.all.frames_around h.all.trees h.tree h.outer h.rest (subst (λ (x : Bool). Site x h.all.frames_around h.all.trees h.tree h.outer h.rest) b h.site) h.all.search e g)

    -- a rule that need not be tried
    pub value-rests : s.here ≡ true → member (kind_at right s.r) value_kinds ≡ true → own form k h.tree ≡ stay
    value-rests b e = kind-rests form k left right frames s h.all.frames_around h.all.trees h.tree h.outer h.rest (subst (λ (x : Bool). Site x h.all.frames_around h.all.trees h.tree h.outer h.rest) b h.site) h.all.search e

    pub built-rests : s.here ≡ false → member (kind_at left (row_in (get_or frames (s.d - 1) 0))) made_of_values ≡ true → own form k h.tree ≡ stay
    built-rests b e = frame-rests form k left right frames s h.all.frames_around h.all.trees h.tree h.outer h.rest (subst (λ (x : Bool). Site x h.all.frames_around h.all.trees h.tree h.outer h.rest) b h.site) h.all.search e

    -- what is read there is there
    pub row-there : s.here ≡ true → Room left right frames s → 8 * s.r < length right
    row-there b room = omega (arith, here-fits form k left right frames s t h b, size-some h.tree, room.ends)

    pub frame-there : s.here ≡ false → Room left right frames s → (0 < s.d) × (s.d - 1 < length frames) × (s.d - 1 ≤ 4096) × (8 * row_in (get_or frames (s.d - 1) 0) + 8 ≤ length left)
    frame-there b room =
        let r = end_row_lem form k left right frames s t h b in
        let l = end_below form k left right frames s t h b in
        (r.1, omega (arith, r.0, r.2, l, room.deep), omega (arith, r.0, r.2, l, room.rows), omega (arith, l, room.left-long))
