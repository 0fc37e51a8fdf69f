-- The rule of a frame at its end: its rows, whether it is a call, and what its flag tells. Assumes nothing.
use Prim.Native.Nat.{ℕ, zero, suc, ◌+◌, ◌*◌, ◌-◌, ◌/◌, ◌<◌, ◌≤◌}
use mathlib.Core.Path.{◌≡◌, refl, ap, sym, ◌∙◌, subst}
use mathlib.Core.Bool.{Bool, true, false, false≢true}
use mathlib.Core.List.{List, [], ◌∷◌, ◌++◌, map}
use Rattle.std.specs.Prelude.{None, Some}
use native.Mathlib.Omega.{arith}
use native.Mathlib.Decide.{dec_lt}
use borrow.Author.Tests.{lt-ltb, le-ltb}
use lib.Dec.{eqb, ltb}
use lib.ListN.{length, get_or, take, drop, length-take, length-drop, length-map}
use Rattle.layout.specs.Rows.{row_table, term_rows}
use Rattle.layout.proofs.Laws.{term-row}
use Rattle.layout.proofs.Tables.{row-table-cut, row-table-length, row-table-at}
use Rattle.meaning.specs.Bytes.{◌∧ᵇ◌, reads, term_row}
use Rattle.meaning.specs.Types.{Form}
use Rattle.meaning.specs.Terms.{str, file, truth, Head, lit, var, lambda, foreign, apply, future, ite, fix, nil, cons, isnil, zip, tuple, project, lproject, bind, arity, code, word_of, Tree, node, end, more, head_of, is, raw, kind_no, flat, flats, size, kids, tree_of}
use Rattle.meaning.specs.Typing.{first_is}
use Rattle.meaning.specs.Steps.{Call, stay, go, contract}
use Rattle.meaning.proofs.Trees.EachRow.{Every}
use Rattle.meaning.proofs.Trees.Parse.{length-flat}
use Rattle.meaning.proofs.Bytes.RowTables.{legal}
use Rattle.terms.proofs.Scan.{size-some}
use Rattle.search.specs.Frames.{spelled, Frame, below, passed_rows, Stands, Passed}
use Rattle.search.specs.Kept.{table, to_come, row_count, row_in, flag_in, Held}
use Rattle.search.specs.Search.{Searching, Changed}
use Rattle.search.proofs.Tables.{rows_before_lem}
use Rattle.search.specs.declared.Stand.{Stand}
use Rattle.search.proofs.Frames.{call-left}
use Rattle.reduce.specs.Rule.{Redex, quiet, size_if, rows_if, rule_of}
use Rattle.reduce.proofs.Quiet.{quiet-rule, tree_is, redex-of}
use Rattle.runs.specs.Sites.{Site, at-end, own, Halted}
use Rattle.runs.specs.Tries.{Trying, Going, Makes, call_by}
use Rattle.runs.proofs.Sites.{is_call, end-rows, end-at, end-behind}
use Rattle.runs.proofs.Tries.{in-range, told-stays, told-goes}

-- whether a tree is a call is told by the kinds of its first two rows
kinds-told : (t : Tree) → is_call t ≡ (eqb (kind_no (get_or (map raw (flat t)) 0 [])) 8 ∧ᵇ (ltb 1 (size t) ∧ᵇ eqb (kind_no (get_or (map raw (flat t)) 1 [])) 7))
unfolding is_call flat raw code first_is ◌∧ᵇ◌ is
kinds-told (node (lit (str w)) u f) = refl
kinds-told (node (lit (file w)) u f) = refl
kinds-told (node (lit (truth true)) u f) = refl
kinds-told (node (lit (truth false)) u f) = refl
kinds-told (node (var x) u f) = refl
kinds-told (node lambda u f) = refl
kinds-told (node (foreign w) u f) = refl
kinds-told (node (apply n) u (more (node h ty g) args)) =
    let z : 1 < size (node (apply n) u (more (node h ty g) args)) = unfold size in omega arith in
    rw (lt-ltb 1 (size (node (apply n) u (more (node h ty g) args))) z) (unfold head_of in refl)
kinds-told (node (future j) u f) = refl
kinds-told (node ite u f) = refl
kinds-told (node fix u f) = refl
kinds-told (node nil u f) = refl
kinds-told (node cons u f) = refl
kinds-told (node isnil u f) = refl
kinds-told (node (zip m) u f) = refl
kinds-told (node (tuple n) u f) = refl
kinds-told (node (project i) u f) = refl
kinds-told (node (lproject i) u f) = refl
kinds-told (node (bind x) u f) = refl

pub call-told : (rows : List ℕ) (t : Tree) → row_table rows ≡ map raw (flat t) → length rows ≡ 8 * size t → call_by rows ≡ is_call t
unfolding call_by ◌∧ᵇ◌
call-told rows t e n =
    let first : get_or rows 0 0 ≡ kind_no (get_or (map raw (flat t)) 0 []) = sym (ap kind_no (term-row 0 rows)) ∙ ap kind_no (sym (row-table-at rows 0 [] (omega (arith, n, size-some t)))) ∙ ap (λ (l : List (List ℕ)). kind_no (get_or l 0 [])) e in
    elim (dec_lt 1 (size t)) [
      | yes y ↦
          let second : get_or rows 8 0 ≡ kind_no (get_or (map raw (flat t)) 1 []) = sym (ap kind_no (term-row 8 rows)) ∙ ap kind_no (sym (row-table-at rows 1 [] (omega (arith, n, y)))) ∙ ap (λ (l : List (List ℕ)). kind_no (get_or l 1 [])) e in
          sym (kinds-told t ∙ rw (lt-ltb 1 (size t) y, lt-ltb 8 (length rows) (omega (arith, n, y)), first, second) refl)
      | no y ↦ sym (kinds-told t ∙ rw (le-ltb 1 (size t) (omega (arith, y)), le-ltb 8 (length rows) (omega (arith, n, y)), first) refl)
    ]

-- a call at its end is sent if the frame's flag says so
module _ (form : ℕ → Form) (k : ℕ) where
  flag-call : (n u : ℕ) (B ts : List Tree) (v : Bool) → length B ≡ suc n → Stands form k (record { head = apply n; type = u; before = B; clear = v }) ts → is_call (node (apply n) u (kids (suc n) (B ++ ts))) ≡ true
      → (v ≡ true → (c : Call) × (w : Tree) × (contract form k (apply n) u (kids (suc n) (B ++ ts)) ≡ go (Some c) w)) × (v ≡ false → contract form k (apply n) u (kids (suc n) (B ++ ts)) ≡ stay)
  unfolding is_call code first_is kids ◌∧ᵇ◌
  flag-call n u [] ts v e d q = absurd (omega arith)
  flag-call n u (b ∷ B) ts v e d q =
      let x = call-left n u b B ts (omega (arith, e)) form k v d q in
      ((λ y. (record { tool = word_of (head_of b); rows = flats (kids n (B ++ ts)); result = u }, node (future k) u end, x ∙ rw y refl)), (λ y. x ∙ rw y refl))

-- AT A FRAME'S END
module _ (form : ℕ → Form) (k : ℕ) (left right frames : List ℕ) (s : Stand) (t : Tree) (h : Halted form k left right frames s t) (last : s.here ≡ false) where
  pub end-site : Site false h.all.frames_around h.all.trees h.tree h.outer h.rest
  end-site = subst (λ (b : Bool). Site b h.all.frames_around h.all.trees h.tree h.outer h.rest) last h.site

  pub end-all : (s.l ≡ length (passed_rows h.outer) + size h.tree) × (table left (8 * length (passed_rows h.outer)) (size h.tree) ≡ map raw (flat h.tree)) × (to_come right s.r ≡ map raw (spelled h.rest))
  end-all = end-rows form k left right frames s h.all.frames_around h.all.trees h.tree h.outer h.rest end-site h.all.search

  pub end_row_lem : (row_in (get_or frames (s.d - 1) 0) ≡ length (passed_rows h.outer)) × (0 < s.d) × (s.d - 1 ≤ length (passed_rows h.outer))
  end_row_lem = end-at form k left right frames s h.all.frames_around h.all.trees h.tree h.outer h.rest end-site h.all.search

  pub end-size : s.l - row_in (get_or frames (s.d - 1) 0) ≡ size h.tree
  end-size = omega (arith, end-all.0, end_row_lem.0)

  pub end_below : row_in (get_or frames (s.d - 1) 0) < s.l
  end_below = omega (arith, end-all.0, end_row_lem.0, size-some h.tree)

  module _ (i n : ℕ) (x : List ℕ) (ei : i ≡ row_in (get_or frames (s.d - 1) 0)) (en : n ≡ s.l - i) (ex : x ≡ take (8 * n) (drop (8 * i) left)) (room : 8 * s.l ≤ length left) where
    size_is : n ≡ size h.tree
    size_is = omega (arith, en, ei, end-size)

    pub end-table : row_table x ≡ map raw (flat h.tree)
    unfolding table
    end-table =
        ap (λ (y : List ℕ). row_table y) ex ∙ row-table-cut left (8 * i) n (8 * n) refl (omega (arith, en, ei, end_below, room))
        ∙ ap (λ (j : ℕ). reads term_row j (drop (8 * i) left)) size_is ∙ ap (λ (j : ℕ). reads term_row (size h.tree) (drop (8 * j) left)) (ei ∙ end_row_lem.0) ∙ end-all.1

    pub end-length : length x ≡ 8 * n
    end-length = ap length ex ∙ length-take (8 * n) (drop (8 * i) left) ∙ omega (arith, length-drop (8 * i) left, en, ei, end_below, room)

    pub end-call : call_by x ≡ is_call h.tree
    end-call = call-told x h.tree end-table (omega (arith, end-length, size_is))

    pub end-redex : (count : ℕ) → Every (legal count) t → n ≤ 2048 → Redex x
    end-redex count d few = redex-of x h.tree end-table count (in-range form k left right frames s (legal count) t h d) (omega (arith, end-length, few))

    pub end_stays : call_by x ≡ false → None ≡ size_if (rule_of form (tree_of (term_rows x))) → own form k h.tree ≡ stay
    end_stays c q = told-stays form k h.tree (sym end-call ∙ c) (q ∙ ap (λ (y : Tree). size_if (rule_of form y)) (tree_is x h.tree end-table))

    pub end_goes : (m : ℕ) → call_by x ≡ false → Some m ≡ size_if (rule_of form (tree_of (term_rows x))) → (u : Tree) × (own form k h.tree ≡ go None u) × (size u ≡ m)
    end_goes m c q = told-goes form k h.tree m (sym end-call ∙ c) (q ∙ ap (λ (y : Tree). size_if (rule_of form y)) (tree_is x h.tree end-table))

-- a call there
call_shape : (form : ℕ → Form) (k : ℕ) (h : Head) (u : ℕ) (B ts : List Tree) (v : Bool) → length B ≡ arity h → Stands form k (record { head = h; type = u; before = B; clear = v }) ts → is_call (node h u (kids (arity h) (B ++ ts))) ≡ true
    → (v ≡ true → (c : Call) × (w : Tree) × (contract form k h u (kids (arity h) (B ++ ts)) ≡ go (Some c) w)) × (v ≡ false → contract form k h u (kids (arity h) (B ++ ts)) ≡ stay)
unfolding is_call code ◌∧ᵇ◌
call_shape form k (lit (str w)) u B ts v e d q = absurd (false≢true q)
call_shape form k (lit (file w)) u B ts v e d q = absurd (false≢true q)
call_shape form k (lit (truth true)) u B ts v e d q = absurd (false≢true q)
call_shape form k (lit (truth false)) u B ts v e d q = absurd (false≢true q)
call_shape form k (var x) u B ts v e d q = absurd (false≢true q)
call_shape form k lambda u B ts v e d q = absurd (false≢true q)
call_shape form k (foreign w) u B ts v e d q = absurd (false≢true q)
call_shape form k (apply n) u B ts v e d q = flag-call form k n u B ts v e d q
call_shape form k (future j) u B ts v e d q = absurd (false≢true q)
call_shape form k ite u B ts v e d q = absurd (false≢true q)
call_shape form k fix u B ts v e d q = absurd (false≢true q)
call_shape form k nil u B ts v e d q = absurd (false≢true q)
call_shape form k cons u B ts v e d q = absurd (false≢true q)
call_shape form k isnil u B ts v e d q = absurd (false≢true q)
call_shape form k (zip m) u B ts v e d q = absurd (false≢true q)
call_shape form k (tuple n) u B ts v e d q = absurd (false≢true q)
call_shape form k (project i) u B ts v e d q = absurd (false≢true q)
call_shape form k (lproject i) u B ts v e d q = absurd (false≢true q)
call_shape form k (bind x) u B ts v e d q = absurd (false≢true q)

module _ (form : ℕ → Form) (k : ℕ) (left right frames : List ℕ) (s : Stand) (t : Tree) (h : Halted form k left right frames s t) (last : s.here ≡ false) where
  flag-site : (Fs : List Frame) (ts : List Tree) (old : Tree) (outer : List Frame) (rest : List Tree) → Site false Fs ts old outer rest → Searching form k left right frames s Fs ts → is_call old ≡ true
      → (flag_in (get_or frames (s.d - 1) 0) ≡ true → (c : Call) × (w : Tree) × (own form k old ≡ go (Some c) w)) × (flag_in (get_or frames (s.d - 1) 0) ≡ false → own form k old ≡ stay)
  unfolding own below Passed Held
  flag-site Fs ts old outer rest (at-end {F = F} e) x q =
      let y = call_shape form k F.head F.type F.before rest F.clear e x.passed.0 q in
      let f = held s.d x.kept.held in
      ((λ z. y.0 (sym f ∙ z)), (λ z. y.1 (sym f ∙ z)))
    where
      held : (d : ℕ) → Held frames d (F ∷ outer) → flag_in (get_or frames (d - 1) 0) ≡ F.clear
      held zero p = absurd p
      held (suc d) p = let z : suc d - 1 ≡ d = omega arith in rw z p.0.flag

  pub call-flag : is_call h.tree ≡ true → (flag_in (get_or frames (s.d - 1) 0) ≡ true → (c : Call) × (w : Tree) × (own form k h.tree ≡ go (Some c) w)) × (flag_in (get_or frames (s.d - 1) 0) ≡ false → own form k h.tree ≡ stay)
  call-flag q = flag-site h.all.frames_around h.all.trees h.tree h.outer h.rest (end-site form k left right frames s t h last) h.all.search q

-- WHAT A RULE THAT COMES LAST MAKES
rule-made : (form : ℕ → Form) (k : ℕ) (t u : Tree) → own form k t ≡ go None u → rule_of form t ≡ Some u
unfolding own quiet
rule-made form k (node h ty f) u g = sym (quiet-rule form k h ty f) ∙ ap quiet g

module _ (form : ℕ → Form) (k : ℕ) (left right right' frames : List ℕ) (s s' : Stand) (t : Tree) (h : Halted form k left right frames s t) (last : s.here ≡ false) (u : Tree) (g : own form k h.tree ≡ go None u) (old : ℕ) (eo : size h.tree ≡ old)
    (x : List ℕ) (ex : x ≡ take (8 * old) (drop (8 * (s.l - old)) left)) (room : 8 * s.l ≤ length left) where
  row_is : s.l - old ≡ row_in (get_or frames (s.d - 1) 0)
  row_is = omega (arith, (end-all form k left right frames s t h last).0, (end_row_lem form k left right frames s t h last).0, eo)

  old-fits : old ≡ s.l - (s.l - old)
  old-fits = omega (arith, (end-all form k left right frames s t h last).0, eo)

  pub last-table : row_table x ≡ map raw (flat h.tree)
  last-table = end-table form k left right frames s t h last (s.l - old) old x row_is old-fits ex room

  pub last-made-rows : rows_if (rule_of form (tree_of (term_rows x))) ≡ map raw (flat u)
  unfolding rows_if
  last-made-rows = ap (λ (y : Tree). rows_if (rule_of form y)) (tree_is x h.tree last-table) ∙ ap rows_if (rule-made form k h.tree u g)

  pub last_made : (to : List ℕ) (new : ℕ) → size u ≡ new → s.r ≤ row_count right → new ≤ s.r → s'.l ≡ s.l - old → s'.d ≡ s.d - 1 → s'.r ≡ s.r - new → row_table to ≡ map raw (flat u) → length to ≡ 8 * new
      → right' ≡ take (8 * (s.r - new)) right ++ (to ++ drop (8 * (s.r - new) + 8 * new) right) → Changed form k left right' frames s' h.outer u h.rest
  unfolding spelled
  last_made to new en ends fits el ed er rows lt e =
      let z : s.r - new + new ≡ s.r = omega (arith, fits) in
      let n : length to / 8 ≡ new = omega (arith, lt) in
      let made : reads term_row new to ≡ map raw (flat u) = ap (λ (i : ℕ). reads term_row i to) (sym n) ∙ rows in
      let all = end-all form k left right frames s t h last in
      let q = rows_before_lem right to right' (s.r - new) new e (omega (arith, z, ends)) lt (flat u) (spelled h.rest) made (ap (to_come right) z ∙ all.2) in
      end-behind form k left left right right' frames s s' h.all.frames_around h.all.trees h.tree u h.outer h.rest (end-site form k left right frames s t h last) h.all.search (el ∙ row_is ∙ (end_row_lem form k left right frames s t h last).0) ed (ap (to_come right') er ∙ q)

-- the rows lent to a rule that goes
module _ (form : ℕ → Form) (left right frames : List ℕ) (s : Stand) (old new : ℕ) (last : s.here ≡ false) (room : 8 * s.l ≤ length left) (g : Going form left right frames s old new) where
  abbrev T : Trying form left right frames s
  T = g.trying

  pub ending-fits : old ≤ s.l
  ending-fits = omega (arith, g.rows, (end-all form T.number left right frames s T.whole T.halted last).0)

  pub ending-some : 0 < new
  ending-some = omega (arith, g.made-rows, size-some g.made)

  pub ending-deep : 0 < s.d
  ending-deep = (end_row_lem form T.number left right frames s T.whole T.halted last).1

  pub ending-redex : (x : List ℕ) → x ≡ take (8 * old) (drop (8 * (s.l - old)) left) → old ≤ 2048 → Redex x
  ending-redex x e few =
      end-redex form T.number left right frames s T.whole T.halted last (s.l - old) old x (row_is form T.number left right right frames s s T.whole T.halted last g.made g.goes old g.rows x e room)
      (old-fits form T.number left right right frames s s T.whole T.halted last g.made g.goes old g.rows x e room) e room T.count T.in-range few

  pub ending-rows : (x : List ℕ) → x ≡ take (8 * old) (drop (8 * (s.l - old)) left) → length (rows_if (rule_of form (tree_of (term_rows x)))) ≡ new
  ending-rows x e =
      ap length (last-made-rows form T.number left right right frames s s T.whole T.halted last g.made g.goes old g.rows x e room)
      ∙ length-map (flat g.made) raw ∙ length-flat g.made ∙ g.made-rows

pub end-makes : (form : ℕ → Form) (left right right' to x : List ℕ) (s s' : Stand) (old new : ℕ) → s.here ≡ false → 0 < new → 8 * s.l ≤ length left → s.r ≤ row_count right → new ≤ s.r → s'.l ≡ s.l - old → s'.d ≡ s.d - 1 → s'.r ≡ s.r - new
    → x ≡ take (8 * old) (drop (8 * (s.l - old)) left) → row_table to ≡ rows_if (rule_of form (tree_of (term_rows x))) → length to ≡ 8 * new
    → right' ≡ take (8 * (s.r - new)) right ++ (to ++ drop (8 * (s.r - new) + 8 * new) right) → length right' ≡ length right
    → Makes form left left right right' s s' old new
end-makes form left right right' to x s s' old new last writes room ends fits el ed er ex rows lt e n =
    record {
      long = n;
      changed = λ k frames t h u g turns.
          let eo = turns.anew writes in
          let made = rows ∙ last-made-rows form k left right right' frames s s' t h last u g old eo x ex room in
          let count : size u ≡ new = sym (length-flat u) ∙ sym (length-map (flat u) raw) ∙ ap length (sym made) ∙ row-table-length to ∙ omega (arith, lt) in
          last_made form k left right right' frames s s' t h last u g old eo x ex room to new count ends fits el ed er made lt e;
    }
