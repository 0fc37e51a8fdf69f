-- A rule that is tried: the rows lent to it, and what its outcome tells. Assumes nothing.
use Prim.Native.Nat.{ℕ, ◌+◌, ◌*◌, ◌-◌, ◌/◌, ◌<◌, ◌≤◌}
use mathlib.Core.Path.{◌≡◌, refl, ap, sym, ◌∙◌, subst}
use mathlib.Core.Bool.{Bool, true, false}
use mathlib.Core.List.{List, [], ◌∷◌, ◌++◌, map, append_assoc}
use Rattle.std.specs.Prelude.{Option, None, Some}
use native.Mathlib.Omega.{arith}
use lib.ListN.{length, get_or, take, drop, length-take, length-drop, length-map, take-append-drop}
use Rattle.layout.specs.Rows.{row_table, type_table, term_rows}
use Rattle.layout.proofs.Tables.{row-table-take, row-table-cut, row-table-length, type-table-cut}
use Rattle.meaning.specs.Bytes.{Limits, width, reads, term_row, calls_at, rows_at}
use Rattle.meaning.specs.Types.{Form}
use Rattle.meaning.specs.Terms.{Tree, node, Row, raw, row_of, flat, size, top, tree_of, kind_no, word_no}
use Rattle.meaning.specs.Steps.{Out, stay, go, become}
use Rattle.meaning.specs.Records.{types_in, type_count}
use Rattle.meaning.proofs.Trees.EachRow.{Fact, Every, AllRows, rows_left, rows_right, every-rows, rows-every}
use Rattle.meaning.proofs.Trees.Parse.{length-flat, tree-at-zero}
use Rattle.meaning.proofs.Bytes.RowTables.{legal, rows-raw}
use Rattle.search.specs.Frames.{spelled, Frame, around, row_of_frame, passed_rows}
use Rattle.search.specs.Kept.{table, to_come, row_count, tree_here}
use Rattle.search.proofs.Turns.{tree-here, rest-rows}
use Rattle.search.specs.Search.{Searching}
use Rattle.search.specs.declared.Stand.{Stand}
use Rattle.terms.proofs.Scan.{size-some}
use lib.Seq.{take_at, length-take-le}
use Rattle.search.specs.Search.{Changed}
use Rattle.search.proofs.Tables.{map-append, rows_before_lem, pasted_length, pasted-before, pasted-there, table_same, lent_length, lent_rows, lent-tree}
use Rattle.search.proofs.Changes.{frame-rows}
use Rattle.search.proofs.Ends.{all-rows}
use Rattle.reduce.specs.Rule.{Redex, Front, size_if, rows_if, rule_of}
use Rattle.reduce.specs.Behind.{Begins, StandsBehind}
use Rattle.reduce.specs.Once.{Goes as Goes', MadeAtOnce}
use Rattle.reduce.specs.Lists.{tree_zips}
use Rattle.put.specs.declared.Made.{Made}
use Rattle.reduce.proofs.Quiet.{rule-is, tree_is, redex-of}
use Rattle.runs.specs.Sites.{Site, at_row, at-end, own, Turns, Halted, Tells}
use Rattle.runs.specs.declared.Tried.{Tried}
use Rattle.runs.specs.Tries.{Trying, Tries, Turning, Going, Stands, Makes}
use Rattle.runs.proofs.Sites.{is_call, here-rows, here-no-call, here-zips, here-behind}

-- the types as they are lent
pub lent-types : (kept : List ℕ) (e : ℕ) → e ≡ 20 + 36 * type_count kept → 20 + 36 * type_count kept ≤ length kept → type_table (take (e - 20) (drop 20 kept)) ≡ types_in kept
unfolding types_in width
lent-types kept e q h =
    let z : e - 20 ≡ 36 * type_count kept = omega (arith, q) in
    type-table-cut kept 20 (type_count kept) (e - 20) z (omega (arith, z, h))

-- WHAT AN OUTCOME TELLS of a tree that is no call
own-rule : (form : ℕ → Form) (k : ℕ) (t : Tree) → is_call t ≡ false → own form k t ≡ become (rule_of form t)
unfolding own is_call
own-rule form k (node h u f) e = rule-is form k h u f e

pub told-stays : (form : ℕ → Form) (k : ℕ) (t : Tree) → is_call t ≡ false → None ≡ size_if (rule_of form t) → own form k t ≡ stay
unfolding size_if become
told-stays form k t e q = own-rule form k t e ∙ ap become (none_made (rule_of form t) q)
  where
    none_made : (o : Option Tree) → None ≡ size_if o → o ≡ None
    none_made None q = refl
    none_made (Some u) q = let z : ◌≡◌ {A = ℕ} 0 1 = ap (λ (o : Option ℕ). elim o [ None ↦ 0 | Some i ↦ 1 ]) (q ∙ refl) in absurd (omega arith)

pub told-goes : (form : ℕ → Form) (k : ℕ) (t : Tree) (n : ℕ) → is_call t ≡ false → Some n ≡ size_if (rule_of form t) → (u : Tree) × (own form k t ≡ go None u) × (size u ≡ n)
unfolding size_if become
told-goes form k t n e q = some-made (rule_of form t) refl q
  where
    some-made : (o : Option Tree) → rule_of form t ≡ o → Some n ≡ size_if o → (u : Tree) × (own form k t ≡ go None u) × (size u ≡ n)
    some-made None p q = let z : ◌≡◌ {A = ℕ} 1 0 = ap (λ (o : Option ℕ). elim o [ None ↦ 0 | Some i ↦ 1 ]) q in absurd (omega arith)
    some-made (Some u) p q = (u, own-rule form k t e ∙ ap become p, sym (ap (λ (o : Option ℕ). elim o [ None ↦ n | Some i ↦ i ]) q))

-- all rows of a tree give way to all of the other
pub turns-anew : (here : Bool) (t u : Tree) (old new : ℕ) → size t ≡ old → size u ≡ new → Turns here t u old new
turns-anew here t u old new a b =
    record { within = omega (arith, a); sizes = omega (arith, a, b); anew = λ h. a; stands = λ z. absurd (omega (arith, b, z, size-some u)) }

-- the end of a tree stands already
pub told-stands : (form : ℕ → Form) (k : ℕ) (here : Bool) (t : Tree) (n : ℕ) → is_call t ≡ false → here ≡ true → StandsBehind form t n → (u : Tree) × (own form k t ≡ go None u) × Turns here t u n 0
unfolding become
told-stands form k here t n e b x =
    let u = x.made in
    let z : size u ≡ size t - n = sym (length-flat u) ∙ ap length x.rows ∙ length-drop n (flat t) ∙ ap (λ (i : ℕ). i - n) (length-flat t) in (
      u,
      own-rule form k t e ∙ ap become x.rule,
      record { within = omega (arith, z, size-some u); sizes = omega (arith, z, size-some u); anew = λ h. absurd (omega (arith, h)); stands = λ q. (b, x.rows) },
    )

-- ITS ROWS are in range
module _ (form : ℕ → Form) (k : ℕ) (left right frames : List ℕ) (s : Stand) (P : Fact) where
  whole-flat : (Fs : List Frame) (ts : List Tree) → Searching form k left right frames s Fs ts → passed_rows Fs ++ spelled ts ≡ flat (top (around Fs ts))
  whole-flat Fs ts x =
      let e : map raw (passed_rows Fs ++ spelled ts) ≡ map raw (flat (top (around Fs ts))) = map-append raw (passed_rows Fs) (spelled ts) ∙ cc (x.kept.rows, x.coming, all-rows form k left right frames s Fs ts x) in
      sym (rows-raw (passed_rows Fs ++ spelled ts)) ∙ ap (map row_of) e ∙ rows-raw (flat (top (around Fs ts)))

  site-range : (b : Bool) (Fs : List Frame) (ts : List Tree) (old : Tree) (outer : List Frame) (rest : List Tree) → Site b Fs ts old outer rest → Searching form k left right frames s Fs ts → AllRows P (passed_rows Fs ++ spelled ts) → Every P old
  unfolding spelled passed_rows
  site-range b Fs ts old outer rest (at_row {h = h} {u = u} {f = f} o w) x a = rows-every P old (rows_left P (flat old) (spelled rest) (rows_right P (passed_rows outer) (flat old ++ spelled rest) a))
  site-range b Fs ts old outer rest (at-end {F = F} e) x a =
      rows-every P old (subst (λ (l : List Row). AllRows P l) (sym (frame-rows F rest e)) (rows_right P (passed_rows outer) (row_of_frame F ∷ spelled F.before) (rows_left P (passed_rows (F ∷ outer)) (spelled rest) a)))

  pub in-range : (t : Tree) (h : Halted form k left right frames s t) → Every P t → Every P h.tree
  in-range t h d =
      let a = h.all in
      site-range s.here a.frames_around a.trees h.tree h.outer h.rest h.site a.search
      (subst (λ (l : List Row). AllRows P l) (sym (whole-flat a.frames_around a.trees a.search ∙ ap flat a.whole)) (every-rows P t d))

-- WHAT A RULE MAKES
made-rule : (form : ℕ → Form) (k : ℕ) (t u : Tree) → is_call t ≡ false → own form k t ≡ go None u → rule_of form t ≡ Some u
unfolding become
made-rule form k t u e g = by (rule_of form t) (sym (own-rule form k t e) ∙ g)
  where
    by : (o : Option Tree) → become o ≡ go None u → o ≡ Some u
    by None q = let z : ◌≡◌ {A = ℕ} 0 1 = ap (λ (x : Out). elim x [ stay ↦ 0 | go c v ↦ 1 ]) q in absurd (omega arith)
    by (Some v) q = ap Some (ap (λ (x : Out). elim x [ stay ↦ u | go c w ↦ w ]) q)

-- AT THE SEARCH
module _ (form : ℕ → Form) (k : ℕ) (left right frames : List ℕ) (s : Stand) (t : Tree) (h : Halted form k left right frames s t) (here : s.here ≡ true) where
  here-site : Site true h.all.frames_around h.all.trees h.tree h.outer h.rest
  here-site = subst (λ (b : Bool). Site b h.all.frames_around h.all.trees h.tree h.outer h.rest) here h.site

  here-all : (table right (8 * s.r) (size h.tree) ≡ map raw (flat h.tree)) × (to_come right (s.r + size h.tree) ≡ map raw (spelled h.rest)) × (size h.tree ≤ row_count right - s.r)
  here-all = here-rows form k left right frames s h.all.frames_around h.all.trees h.tree h.outer h.rest here-site h.all.search

  here-cut : reads term_row (size h.tree) (drop (8 * s.r) right) ≡ map raw (flat h.tree)
  unfolding table
  here-cut = here-all.0

  pub here-fits : size h.tree ≤ row_count right - s.r
  here-fits = here-all.2

  here-come : to_come right s.r ≡ map raw (flat h.tree ++ spelled h.rest)
  unfolding spelled
  here-come = come h.all.frames_around h.all.trees h.tree h.outer h.rest here-site h.all.search
    where
      come : (Fs : List Frame) (ts : List Tree) (old : Tree) (outer : List Frame) (rest : List Tree) → Site true Fs ts old outer rest → Searching form k left right frames s Fs ts → to_come right s.r ≡ map raw (flat old ++ spelled rest)
      come Fs ts old outer rest (at_row {h = g} {u = u} {f = f} o w) x = x.coming

  -- a tree that is the end of it comes behind so many rows
  pub behind-come : (u : Tree) (n : ℕ) → n ≤ size h.tree → flat u ≡ drop n (flat h.tree) → to_come right (s.r + n) ≡ map raw (flat u ++ spelled h.rest)
  behind-come u n fits e =
      let A = take n (flat h.tree) in
      let parts : flat h.tree ++ spelled h.rest ≡ A ++ (flat u ++ spelled h.rest) = ap (λ (l : List Row). l ++ spelled h.rest) (sym (take-append-drop n (flat h.tree)) ∙ ap (λ (l : List Row). A ++ l) (sym e)) ∙ append_assoc A (flat u) (spelled h.rest) in
      rest-rows right s.r n A (flat u ++ spelled h.rest) (length-take-le n (flat h.tree) (omega (arith, fits, length-flat h.tree))) (here-come ∙ ap (map raw) parts)

  pub here-tree : tree_here right s.r ≡ h.tree
  here-tree = first_of h.all.frames_around h.all.trees h.tree h.outer h.rest here-site h.all.search
    where
      first_of : (Fs : List Frame) (ts : List Tree) (old : Tree) (outer : List Frame) (rest : List Tree) → Site true Fs ts old outer rest → Searching form k left right frames s Fs ts → tree_here right s.r ≡ old
      first_of Fs ts old outer rest (at_row {h = g} {u = u} {f = f} o w) x = tree-here right s.r (node g u f) rest x.coming

  -- the rows to come begin with it
  module _ (x : List ℕ) (fits : 8 * s.r ≤ length right) (ex : x ≡ take (length right - 8 * s.r) (drop (8 * s.r) right)) where
    here-first : tree_of (term_rows x) ≡ h.tree
    here-first = sym (tree-at-zero (term_rows x)) ∙ lent-tree right x s.r fits ex ∙ here-tree

    pub here-begins : row_count right - s.r ≤ 2048 → Begins x
    here-begins few =
        let n = lent_length right x s.r fits ex in
        record { few = omega (arith, n, few); inside = omega (arith, ap size here-first, here-fits, row-table-length x, n) }

    -- each row as its head is written, and a let's name in range
    first-row : (y : Tree) (more : List Row) → get_or (map raw (flat y ++ more)) 0 [] ≡ get_or (map raw (flat y)) 0 []
    unfolding flat
    first-row (node g u f) more = refl

    pub here-front : s.r ≤ row_count right → (count : ℕ) → Every (legal count) t → row_count right - s.r ≤ 2048 → Front x
    here-front ends count d few =
        let n = size h.tree in
        let Y = take (8 * n) (drop (8 * s.r) right) in
        let all : row_table x ≡ map raw (flat h.tree ++ spelled h.rest) = lent_rows right x s.r fits ex ∙ here-come in
        let R = redex-of Y h.tree (row-table-cut right (8 * s.r) n (8 * n) refl (omega (arith, here-fits, ends)) ∙ here-cut) count (in-range form k left right frames s (legal count) t h d) (omega (arith, here-fits, few, length-take (8 * n) (drop (8 * s.r) right))) in
        let first : get_or (row_table x) 0 [] ≡ get_or (row_table Y) 0 [] = ap (λ (l : List (List ℕ)). get_or l 0 []) all ∙ first-row h.tree (spelled h.rest) ∙ sym (ap (λ (l : List (List ℕ)). get_or l 0 []) (row-table-cut right (8 * s.r) n (8 * n) refl (omega (arith, here-fits, ends)) ∙ here-cut)) in
        record {
          few = omega (arith, row-table-length x, lent_length right x s.r fits ex, few);
          exact = ap (λ (l : List (List ℕ)). map raw (map row_of l)) all ∙ ap (map raw) (rows-raw (flat h.tree ++ spelled h.rest)) ∙ sym all;
          inside = (here-begins few).inside;
          name = λ q. subst (λ (r : List ℕ). word_no r ≤ 65535) (sym first) (R.name (ap (λ (r : List ℕ). kind_no r) (sym first) ∙ q));
        }

    -- a rule that goes there, and the rows that it makes
    pub here-uncounted : Goes' form (row_table x) → (s.here ≡ true) × ((u : Tree) × (own form k h.tree ≡ go None u))
    unfolding become
    here-uncounted (u, e) = (here, (u, own-rule form k h.tree (here-no-call _ _ _ _ _ here-site) ∙ ap (λ (y : Tree). become (rule_of form y)) (sym here-first) ∙ ap become e))

    pub here-zip : tree_zips (tree_of (term_rows x)) ≡ true → (s.here ≡ true) × ((u : Tree) × (own form k h.tree ≡ go None u))
    here-zip e = (here, here-zips form k _ _ _ _ _ here-site (ap tree_zips (sym here-first) ∙ e))

    pub here-once : (to : List (List ℕ)) (m : Made) → MadeAtOnce form (row_table x) to m → (u : Tree) × (own form k h.tree ≡ go None u) × Turns s.here h.tree u m.end m.rows
    unfolding become here-uncounted
    here-once to m c = (c.made, (here-uncounted (c.made, c.rule)).1.1, turns-anew s.here h.tree c.made m.end m.rows (sym (c.whole ∙ ap size here-first)) (sym c.count))

    pub here-fresh : (to : List (List ℕ)) (m : Made) → MadeAtOnce form (row_table x) to m → (u : Tree) → own form k h.tree ≡ go None u → take m.rows to ≡ map raw (flat u)
    here-fresh to m c u g =
        let v = c.made in
        let r : Some v ≡ Some u = sym c.rule ∙ ap (rule_of form) here-first ∙ made-rule form k h.tree u (here-no-call _ _ _ _ _ here-site) g in
        let w : v ≡ u = ap (λ (o : Option Tree). elim o [ None ↦ v | Some y ↦ y ]) r in
        c.front ∙ ap (λ (y : Tree). map raw (flat y)) w

    pub here-stands : (n : ℕ) → StandsBehind form (tree_of (term_rows x)) n → (u : Tree) × (own form k h.tree ≡ go None u) × Turns s.here h.tree u n 0
    here-stands n y = told-stands form k s.here h.tree n (here-no-call _ _ _ _ _ here-site) here (subst (λ (t : Tree). StandsBehind form t n) here-first y)

  module _ (n : ℕ) (x : List ℕ) (en : n ≡ size h.tree) (ex : x ≡ take (8 * n) (drop (8 * s.r) right)) (ends : s.r ≤ row_count right) where
    pub here-table : row_table x ≡ map raw (flat h.tree)
    unfolding table
    here-table =
        ap (λ (y : List ℕ). row_table y) ex ∙ row-table-cut right (8 * s.r) n (8 * n) refl (omega (arith, en, here-fits, ends)) ∙ ap (λ (i : ℕ). reads term_row i (drop (8 * s.r) right)) en ∙ here-all.0

    pub here-length : length x ≡ 8 * n
    here-length = ap length ex ∙ length-take (8 * n) (drop (8 * s.r) right) ∙ omega (arith, length-drop (8 * s.r) right, en, here-fits, ends)

    pub here-redex : (count : ℕ) → Every (legal count) t → n ≤ 2048 → Redex x
    here-redex count d few = redex-of x h.tree here-table count (in-range form k left right frames s (legal count) t h d) (omega (arith, here-length, few))

    pub here-stays : None ≡ size_if (rule_of form (tree_of (term_rows x))) → own form k h.tree ≡ stay
    here-stays q = told-stays form k h.tree (here-no-call _ _ _ _ _ here-site) (q ∙ ap (λ (y : Tree). size_if (rule_of form y)) (tree_is x h.tree here-table))

    pub here-goes : (m : ℕ) → Some m ≡ size_if (rule_of form (tree_of (term_rows x))) → (u : Tree) × (own form k h.tree ≡ go None u) × (size u ≡ m)
    here-goes m q = told-goes form k h.tree m (here-no-call _ _ _ _ _ here-site) (q ∙ ap (λ (y : Tree). size_if (rule_of form y)) (tree_is x h.tree here-table))

    pub here-turns : (m : ℕ) → Some m ≡ size_if (rule_of form (tree_of (term_rows x))) → (u : Tree) × (own form k h.tree ≡ go None u) × Turns s.here h.tree u n m
    here-turns m q = let (u, g, b) = here-goes m q in (u, g, turns-anew s.here h.tree u n m (sym en) b)

-- at the search
module _ (form : ℕ → Form) (k : ℕ) (left left' right right' frames : List ℕ) (s s' : Stand) (t : Tree) (h : Halted form k left right frames s t) (here : s.here ≡ true) (u : Tree) (g : own form k h.tree ≡ go None u) where
  here-rule : rule_of form h.tree ≡ Some u
  here-rule = made-rule form k h.tree u (here-no-call _ _ _ _ _ (here-site form k left right frames s t h here)) g

  pub here-made-rows : (x : List ℕ) → row_table x ≡ map raw (flat h.tree) → rows_if (rule_of form (tree_of (term_rows x))) ≡ map raw (flat u)
  unfolding rows_if
  here-made-rows x e = ap (λ (y : Tree). rows_if (rule_of form y)) (tree_is x h.tree e) ∙ ap rows_if here-rule

  pub here-made : (to : List ℕ) (old new : ℕ) → size h.tree ≡ old → size u ≡ new → s.r ≤ row_count right → new ≤ s.r + old → s'.l ≡ s.l → s'.d ≡ s.d → s'.r ≡ s.r + old - new
      → table left' 0 s.l ≡ table left 0 s.l → row_table to ≡ map raw (flat u) → length to ≡ 8 * new
      → right' ≡ take (8 * (s.r + old - new)) right ++ (to ++ drop (8 * (s.r + old - new) + 8 * new) right)
      → Changed form k left' right' frames s' h.outer u h.rest
  unfolding spelled
  here-made to old new eo en ends fits el ed er same rows lt e =
      let z : s.r + old - new + new ≡ s.r + size h.tree = omega (arith, eo, fits) in
      let n : length to / 8 ≡ new = omega (arith, lt) in
      let made : reads term_row new to ≡ map raw (flat u) = ap (λ (i : ℕ). reads term_row i to) (sym n) ∙ rows in
      let all = here-all form k left right frames s t h here in
      let q = rows_before_lem right to right' (s.r + old - new) new e (omega (arith, z, eo, all.2, ends)) lt (flat u) (spelled h.rest) made (ap (to_come right) z ∙ all.1) in
      here-behind form k left left' right right' frames s s' h.all.frames_around h.all.trees h.tree u h.outer h.rest (here-site form k left right frames s t h here) h.all.search el ed same (ap (to_come right') er ∙ q)

-- it stands already
pub falls-makes : (form : ℕ → Form) (left right : List ℕ) (s s' : Stand) (old new : ℕ) → new ≡ 0 → s'.l ≡ s.l → s'.d ≡ s.d → s'.r ≡ s.r + old → Makes form left left right right s s' old new
unfolding spelled
falls-makes form left right s s' old new z el ed er =
    record {
      long = refl;
      changed = λ k frames t h u g turns.
          let (here, e) = turns.stands z in
          here-behind form k left left right right frames s s' h.all.frames_around h.all.trees h.tree u h.outer h.rest (here-site form k left right frames s t h here) h.all.search el ed refl
          (ap (to_come right) er ∙ behind-come form k left right frames s t h here u old turns.within e);
    }

-- the rows copied behind the rows passed
module _ (m : Limits) (kept kept' work : List ℕ) (s : Stand) (old : ℕ) (h : rows_at m + 8 * s.l + 8 * old ≤ length kept) (g : 8 * s.r + 8 * old ≤ length work)
    (e : kept' ≡ take (rows_at m + 8 * s.l) kept ++ (take (8 * old) (drop (8 * s.r) work) ++ drop (rows_at m + 8 * s.l + 8 * old) kept)) where
  ly : length (take (8 * old) (drop (8 * s.r) work)) ≡ 8 * old
  ly = length-take (8 * old) (drop (8 * s.r) work) ∙ omega (arith, length-drop (8 * s.r) work)

  pub source-long : length kept' ≡ length kept
  source-long = pasted_length kept (take (8 * old) (drop (8 * s.r) work)) kept' (rows_at m + 8 * s.l) (8 * old) e h ly

  pub source-front : take (rows_at m) kept' ≡ take (rows_at m) kept
  source-front = pasted-before kept (take (8 * old) (drop (8 * s.r) work)) kept' (rows_at m + 8 * s.l) (8 * old) e h ly 0 (rows_at m) (omega arith)

  pub source-types : (n : ℕ) → 20 + n ≤ rows_at m → take n (drop 20 kept') ≡ take n (drop 20 kept)
  source-types n q = pasted-before kept (take (8 * old) (drop (8 * s.r) work)) kept' (rows_at m + 8 * s.l) (8 * old) e h ly 20 n (omega (arith, q))

  pub source-rows : take (8 * old) (drop (rows_at m + 8 * s.l) kept') ≡ take (8 * old) (drop (8 * s.r) work)
  source-rows = ap (take (8 * old)) (pasted-there kept (take (8 * old) (drop (8 * s.r) work)) kept' (rows_at m + 8 * s.l) (8 * old) e h ly) ∙ take_at (take (8 * old) (drop (8 * s.r) work)) (drop (rows_at m + 8 * s.l + 8 * old) kept) (8 * old) ly

  pub source-passed : table (drop (rows_at m) kept') 0 s.l ≡ table (drop (rows_at m) kept) 0 s.l
  source-passed = table_same (drop (rows_at m) kept') (drop (rows_at m) kept) 0 0 s.l (pasted-before kept (take (8 * old) (drop (8 * s.r) work)) kept' (rows_at m + 8 * s.l) (8 * old) e h ly (rows_at m) (8 * s.l) (omega arith))

-- the types stand before the row space
pub types-fit : (m : Limits) (n : ℕ) → n ≤ m.types → 20 + 36 * n ≤ rows_at m
unfolding rows_at calls_at width
types-fit m n h = omega (arith, h)

-- a rule that writes something writes all rows of the tree that it makes
pub going-anew : (form : ℕ → Form) (left right frames : List ℕ) (s : Stand) (old new : ℕ) → Turning form left right frames s old new → 0 < new → Going form left right frames s old new
going-anew form left right frames s old new g writes =
    record { trying = g.trying; made = g.made; goes = g.goes; rows = g.turns.anew writes; made-rows = omega (arith, g.turns.sizes, g.turns.anew writes) }

pub falling-fits : (form : ℕ → Form) (left right frames : List ℕ) (s : Stand) (old new : ℕ) → Turning form left right frames s old new → new ≡ 0 → old ≤ row_count right - s.r
falling-fits form left right frames s old new g z =
    let T = g.trying in
    omega (arith, g.turns.within, here-fits form T.number left right frames s T.whole T.halted (g.turns.stands z).0)

-- the rows lent to a rule that goes
module _ (form : ℕ → Form) (left right frames : List ℕ) (s : Stand) (old new : ℕ) (here : s.here ≡ true) (g : Going form left right frames s old new) where
  abbrev T : Trying form left right frames s
  T = g.trying

  pub going-fits : old ≤ row_count right - s.r
  going-fits = omega (arith, g.rows, here-fits form T.number left right frames s T.whole T.halted here)

  pub going-some : 0 < new
  going-some = omega (arith, g.made-rows, size-some g.made)

  pub going-redex : (x : List ℕ) → x ≡ take (8 * old) (drop (8 * s.r) right) → s.r ≤ row_count right → old ≤ 2048 → Redex x
  going-redex x e ends few = here-redex form T.number left right frames s T.whole T.halted here old x (sym g.rows) e ends T.count T.in-range few

  pub going-rows : (x : List ℕ) → x ≡ take (8 * old) (drop (8 * s.r) right) → s.r ≤ row_count right → length (rows_if (rule_of form (tree_of (term_rows x)))) ≡ new
  going-rows x e ends =
      ap length (here-made-rows form T.number left left right right frames s s T.whole T.halted here g.made g.goes x (here-table form T.number left right frames s T.whole T.halted here old x (sym g.rows) e ends))
      ∙ length-map (flat g.made) raw ∙ length-flat g.made ∙ g.made-rows

-- and what it writes
pub here-makes : (form : ℕ → Form) (left left' right right' to x : List ℕ) (s s' : Stand) (old new : ℕ) → s.here ≡ true → 0 < new → s.r ≤ row_count right → new ≤ s.r + old → s'.l ≡ s.l → s'.d ≡ s.d → s'.r ≡ s.r + old - new
    → table left' 0 s.l ≡ table left 0 s.l → x ≡ take (8 * old) (drop (8 * s.r) right) → row_table to ≡ rows_if (rule_of form (tree_of (term_rows x))) → length to ≡ 8 * new
    → right' ≡ take (8 * (s.r + old - new)) right ++ (to ++ drop (8 * (s.r + old - new) + 8 * new) right) → length right' ≡ length right
    → Makes form left left' right right' s s' old new
here-makes form left left' right right' to x s s' old new here writes ends fits el ed er same ex rows lt e n =
    record {
      long = n;
      changed = λ k frames t h u g turns.
          let eo = turns.anew writes in
          let made = rows ∙ here-made-rows form k left left' right right' frames s s' t h here u g x (here-table form k left right frames s t h here old x (sym eo) ex ends) in
          let count : size u ≡ new = sym (length-flat u) ∙ sym (length-map (flat u) raw) ∙ ap length (sym made) ∙ row-table-length to ∙ omega (arith, lt) in
          here-made form k left left' right right' frames s s' t h here u g to old new eo count ends fits el ed er same made lt e;
    }

-- rows that are made already come to stand there
pub fresh-makes : (form : ℕ → Form) (left right right' fresh : List ℕ) (s s' : Stand) (old new : ℕ) → s.here ≡ true → 0 < new → s.r ≤ row_count right → new ≤ s.r + old → new ≤ row_count fresh → s'.l ≡ s.l → s'.d ≡ s.d → s'.r ≡ s.r + old - new
    → Stands form right fresh s new → right' ≡ take (8 * (s.r + old - new)) right ++ (take (8 * new) (drop 0 fresh) ++ drop (8 * (s.r + old - new) + 8 * new) right) → length right' ≡ length right
    → Makes form left left right right' s s' old new
fresh-makes form left right right' fresh s s' old new here writes ends fits there el ed er stands e n =
    record {
      long = n;
      changed = λ k frames t h u g turns.
          let to = take (8 * new) fresh in
          let lt : length to ≡ 8 * new = length-take-le (8 * new) fresh (omega (arith, there)) in
          let made : row_table to ≡ map raw (flat u) = row-table-take fresh new (omega (arith, there)) ∙ stands left frames k t h u g in
          let count : size u ≡ new = sym (length-flat u) ∙ sym (length-map (flat u) raw) ∙ ap length (sym made) ∙ row-table-length to ∙ omega (arith, lt) in
          here-made form k left left right right' frames s s' t h here u g to old new (turns.anew writes) count ends fits el ed er refl made lt e;
    }

-- they are all there
pub fresh-there : (form : ℕ → Form) (left right frames fresh : List ℕ) (s : Stand) (old new : ℕ) → 0 < new → Turning form left right frames s old new → Stands form right fresh s new → new ≤ row_count fresh
fresh-there form left right frames fresh s old new writes g stands =
    let T = g.trying in
    let e = stands left frames T.number T.whole T.halted g.made g.goes in
    let l = sym (length-take new (row_table fresh)) ∙ ap length e ∙ length-map (flat g.made) raw ∙ length-flat g.made in
    omega (arith, l, g.turns.sizes, g.turns.anew writes, row-table-length fresh)

pub once-some : (form : ℕ → Form) (l to : List (List ℕ)) (m : Made) → MadeAtOnce form l to m → 0 < m.rows
once-some form l to m c = omega (arith, c.count, size-some c.made)

-- a rule that goes does not stay and sends nothing
pub goes-against : (form : ℕ → Form) (left right frames : List ℕ) (s : Stand) → Trying form left right frames s → Tries form left right frames s Tried.Uncounted → (x : Tried) → Tries form left right frames s x → ((old new : ℕ) → x ≡ Tried.Goes old new → ⊥) → (x ≡ Tried.Uncounted → ⊥) → ⊥
unfolding Tells
goes-against form left right frames s try y Tried.Stays z g n =
    let a = (y try.number try.whole try.halted).1.1 in
    let b = z try.number try.whole try.halted in
    let q : ◌≡◌ {A = ℕ} 0 1 = ap (λ (o : Out). elim o [ stay ↦ 0 | go c v ↦ 1 ]) (sym b ∙ a) in
    omega arith
goes-against form left right frames s try y (Tried.Goes old new) z g n = g old new refl
goes-against form left right frames s try y (Tried.Sends old) z g n =
    let a = (y try.number try.whole try.halted).1.1 in
    let b = (z try.number try.whole try.halted).1.2 in
    let q : ◌≡◌ {A = ℕ} 1 0 = ap (λ (o : Out). elim o [ stay ↦ 0 | go c v ↦ elim c [ None ↦ 0 | Some d ↦ 1 ] ]) (sym b ∙ a) in
    omega arith
goes-against form left right frames s try y Tried.Uncounted z g n = n refl
