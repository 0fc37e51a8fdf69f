-- One pass that writes: rows that stand, trees in which all names are hidden, and arguments. Assumes nothing.
use Prim.Native.Nat.{ℕ, zero, suc, ◌+◌, ◌-◌, ◌≤◌, ◌<◌}
use mathlib.Core.Path.{◌≡◌, refl, ap, sym, ◌∙◌, subst}
use mathlib.Core.Bool.{Bool, true, false, cond}
use mathlib.Core.List.{List, [], ◌∷◌, ◌++◌, map, append_assoc, append-nil, map-append}
use Rattle.std.specs.Prelude.{Option, None, Some}
use native.Mathlib.Omega.{arith}
use native.Mathlib.Decide.{dec_lt, ℕ_discrete}
use lib.Dec.{eqb}
use lib.ListN.{length, get_or, take, drop, length-append, length-map, length-replicate, take-append-drop}
use lib.Seq.{drop-drop}
use borrow.Author.Tests.{eqb-true, eq-eqb, ne_eqb}
use Rattle.meaning.specs.Types.{Form, Param, params, names as names_of, find, low, rest, form_no, parts}
use Rattle.meaning.specs.Terms.{Head, arity, code, word_of, head_from, Tree, Forest, node, end, more, head_of, ty_of, Row, flat, flats, raw, row_of, size, sizes, tree_at, grove, blank}
use Rattle.meaning.specs.Steps.{◌∨ᵇ◌}
use Rattle.meaning.proofs.Trees.Parse.{tree-row}
use Rattle.rules.specs.Forms.{forms}
use Rattle.layout.specs.Forms.{says}
use Rattle.rules.proofs.ByRule.{params-few, params-high, params-all}
use Rattle.terms.proofs.Scan.{grove-size}
use Rattle.layout.specs.declared.Row.{Row as Line}
use Rattle.put.specs.Put.{Clear, StandsAlways, next, pick, mark, fan, at_place, binds, rows_for, inner, after, chosen, run, standing, below, arg_rows, put_rows, Bare, Ready, Among, Within, Shut, Turns, Exact}
use Rattle.std.specs.Prelude.{is_some}
use Rattle.put.specs.declared.Range.{Range}
use Rattle.put.specs.declared.Span.{Span}
use Rattle.put.specs.declared.Turn.{Turn}
use Rattle.put.specs.declared.Turn.TheVariants.{Stands, Whole, Puts}
use Rattle.put.specs.Sinks.{Taken}
use Rattle.put.proofs.Turning.{binds-fun, chosen-var, chosen_none, span-at, span-own, below_on}
use Rattle.put.proofs.Passing.{mark-picks, at_row}
use Rattle.put.proofs.Meets.{stands}
use Rattle.put.proofs.Loops.{Going, left, row_any, standing-length, going_start, none_left, going-behind, going-in, copied-span, going_next, written_start, turned}
use Rattle.put.proofs.Bare.{unhidden, none_hidden, bare-other, bare-let, bare-descends, first-bare, end-bare, standing-join, standing-none, pending_next}

-- The names of a function ------------------------------------------------------------------------------------------

module _ (s : List (List ℕ)) (t : ℕ) where
  pub params-parts : 0 < length (params (forms s t)) → params (forms s t) ≡ parts (says s t)
  params-parts h =
      let f = form_no (says s t) in
      elim (dec_lt f 6) [
        | yes k ↦ absurd (omega (arith, h, ap length (params-few s t f refl k)))
        | no k ↦ elim (dec_lt 7 f) [
          | yes m ↦ absurd (omega (arith, h, ap length (params-high s t f refl m)))
          | no m ↦ params-all s t f refl (omega arith) (omega arith)
        ]
      ]

-- a function binds its k-th name
pub find-there : (ps : List Param) (k : ℕ) → k < length ps → is_some (find ps (get_or (names_of ps) k 0)) ≡ true
unfolding find names_of
find-there [] k h = absurd (omega arith)
find-there (p ∷ ps) zero h = rw (eq-eqb p.name p.name refl) refl
find-there (p ∷ ps) (suc k) h = by (eqb (get_or (names_of ps) k 0) p.name) (find-there ps k (omega arith))
  where
    by : (b : Bool) → is_some (find ps (get_or (names_of ps) k 0)) ≡ true → is_some (cond b (Some p.type) (find ps (get_or (names_of ps) k 0))) ≡ true
    by true e = refl
    by false e = e

pub among-more : (names : List ℕ) (ps : List Param) (k : ℕ) → k < length ps → get_or (names_of ps) k 0 ≡ get_or names k 0 → ((j : ℕ) → j < k → is_some (find ps (get_or names j 0)) ≡ true) → (j : ℕ) → j < k + 1 → is_some (find ps (get_or names j 0)) ≡ true
among-more names ps k h e a j i = elim (ℕ_discrete j k) [
  | yes q ↦ rw (q, ← e) (find-there ps k h)
  | no q ↦ a j (omega (arith, i, q))
]

-- Names in a range -------------------------------------------------------------------------------------------------

pub unpicked-out : (names : List ℕ) (w : ℕ) → ((j : ℕ) → j < length names → get_or names j 0 ≡ w → ⊥) → pick names 0 w ≡ None
unfolding pick next rest low
unpicked-out [] w h = refl
unpicked-out (y ∷ ys) w h =
    let e : eqb w y ≡ false = ne_eqb w y (λ q. h 0 (omega arith) (sym q)) in
    let z : pick ys 0 w ≡ None = unpicked-out ys w (λ j k. h (suc j) (omega (arith, k))) in
    rw (e, z) refl

-- a row that is no function, and whose word is none of the names
module _ (form : ℕ → Form) (names : List ℕ) (k n w ty : ℕ) (function : k ≡ 6 → ⊥) (unpicked : pick names 0 w ≡ None) where
  pub other-bare : mark (binds form (head_from k n w) ty) names 0 ≡ 0
  other-bare = elim (ℕ_discrete k 19) [
    | yes e ↦ bare-let form names k n w ty e (ap is_some unpicked)
    | no e ↦ bare-other form names k n w ty function e
  ]

  pub other-chosen : chosen names (head_from k n w) 0 ≡ None
  other-chosen = elim (ℕ_discrete k 5) [
    | yes e ↦ chosen-var names k n w 0 e ∙ unpicked
    | no e ↦ chosen_none names k n w 0 e
  ]

module _ (form : ℕ → Form) (names : List ℕ) (x : Range) (inside : Within names x) (k n w ty : ℕ) (function : k ≡ 6 → ⊥) (out : x.low ≤ w → w ≤ x.high → ⊥) where
  none-picked : pick names 0 w ≡ None
  none-picked = unpicked-out names w (λ j h e. let q = inside.each j h in out (omega (arith, q.0, e)) (omega (arith, q.1, e)))

  pub out-bare : mark (binds form (head_from k n w) ty) names 0 ≡ 0
  out-bare = other-bare form names k n w ty function none-picked

  pub out-chosen : chosen names (head_from k n w) 0 ≡ None
  out-chosen = other-chosen form names k n w ty function none-picked

-- a row that no name in the range touches stands
pub clear-stands : (names bounds : List ℕ) (x : Range) → Within names x → (r : Line) → Clear x r → StandsAlways names bounds r
unfolding Turns row_of
clear-stands names bounds x inside r k form =
    (out-bare form names x inside r.kind r.n r.word r.ty k.other k.out, out-chosen form names x inside r.kind r.n r.word r.ty k.other k.out)

-- Where all names are hidden ---------------------------------------------------------------------------------------

hidden-picks : (b : ℕ → Bool) (ys : List ℕ) (m x : ℕ) → ((j : ℕ) → j < length ys → b (get_or ys j 0) ≡ true) → cond (b x) None (pick ys m x) ≡ None
unfolding pick next
hidden-picks b [] m x h = by (b x)
  where
    by : (c : Bool) → ◌≡◌ {A = Option ℕ} (cond c None None) None
    by true = refl
    by false = refl
hidden-picks b (y ∷ ys) m x h = by (eqb x y) refl (b x) refl (hidden-picks b ys (rest m) x (λ j k. h (suc j) (omega (arith, k))))
  where
    by : (c : Bool) → eqb x y ≡ c → (d : Bool) → b x ≡ d → cond (b x) None (pick ys (rest m) x) ≡ None → cond (b x) None (cond c (cond (low m) None (Some 0)) (next (pick ys (rest m) x))) ≡ None
    by true e d f i = let z : b x ≡ true = ap b (eqb-true x y e) ∙ h 0 (omega arith) in rw z refl
    by false e true f i = rw f refl
    by false e false f i = let z : pick ys (rest m) x ≡ None = rw f at i in rw (f, z) refl

mark-shut : (b : ℕ → Bool) (ys : List ℕ) (m : ℕ) → Shut ys m → Shut ys (mark b ys m)
mark-shut b ys m s x = mark-picks b ys m x ∙ rw (s x) (by (b x))
  where
    by : (c : Bool) → ◌≡◌ {A = Option ℕ} (cond c None None) None
    by true = refl
    by false = refl

-- a function that binds all of them
pub all-shut : (form : ℕ → Form) (names : List ℕ) (k n w ty : ℕ) → k ≡ 6 → Among names (params (form ty)) → (i : ℕ) → Shut names (inner form names (head_from k n w) ty 0 i)
unfolding inner head_from code
all-shut form names k n w ty e a i x =
    let b = binds form (head_from k n w) ty in
    let z : inner form names (head_from k n w) ty 0 i ≡ mark b names 0 = rw e refl in
    ap (λ (m : ℕ). pick names m x) z ∙ mark-picks b names 0 x ∙ hidden-picks b names 0 x (λ j h. binds-fun form k n w ty (get_or names j 0) e ∙ a j h)

module _ (form : ℕ → Form) (names : List ℕ) (args : ℕ → List (List ℕ)) where
  inner-shut : (h : Head) (ty m i : ℕ) → Shut names m → Shut names (inner form names h ty m i)
  unfolding inner at_place
  inner-shut h ty m i s = by (eqb (code h) 6) (eqb (code h) 19) i
    where
      M : ℕ
      M = mark (binds form h ty) names m

      by : (a c : Bool) (i : ℕ) → Shut names (cond a M (cond c (at_place i m M) m))
      by true c i = mark-shut (binds form h ty) names m s
      by false true zero = s
      by false true (suc i) = mark-shut (binds form h ty) names m s
      by false false i = s

  chosen-shut : (h : Head) (m : ℕ) → Shut names m → chosen names h m ≡ None
  unfolding chosen
  chosen-shut h m s = by (eqb (code h) 5)
    where
      by : (a : Bool) → cond a (pick names m (word_of h)) None ≡ None
      by true = s (word_of h)
      by false = refl

  mutual
    unfolding flat run after fan rows_for head_of ty_of

    -- the pass leaves a tree as it is where no name is put at its root or below it
    pub shut-below : (t : Tree) (m : ℕ) (ms : List ℕ) (rs : List (List ℕ)) → chosen names (head_of t) m ≡ None → ((i : ℕ) → Shut names (inner form names (head_of t) (ty_of t) m i))
        → run form names args (map raw (flat t) ++ rs) (m ∷ ms) ≡ map raw (flat t) ++ run form names args rs ms
    shut-below (node h ty f) m ms rs c s =
        at_row form names (λ j. blank) args (record { head = h; type = ty }) (map raw (flats f) ++ rs) m ms
        ∙ ap (λ (o : Option ℕ). rows_for args o (raw (record { head = h; type = ty })) ++ run form names args (map raw (flats f) ++ rs) (after form names (record { head = h; type = ty }) m ms)) c
        ∙ ap (λ (l : List (List ℕ)). raw (record { head = h; type = ty }) ∷ l) (shut-trees f (inner form names h ty m) ms rs s)

    shut-trees : {n : ℕ} (f : Forest n) (g : ℕ → ℕ) (ms : List ℕ) (rs : List (List ℕ)) → ((i : ℕ) → Shut names (g i))
        → run form names args (map raw (flats f) ++ rs) (fan n g ms) ≡ map raw (flats f) ++ run form names args rs ms
    shut-trees end g ms rs s = refl
    shut-trees (more t f) g ms rs s =
        rw (
          map-append raw (flat t) (flats f),
          append_assoc (map raw (flat t)) (map raw (flats f)) rs,
          append_assoc (map raw (flat t)) (map raw (flats f)) (run form names args rs ms),
        )
        (shut-below t (g 0) _ (map raw (flats f) ++ rs) (chosen-shut (head_of t) (g 0) (s 0)) (λ i. inner-shut (head_of t) (ty_of t) (g 0) i (s 0))
        ∙ ap (λ (l : List (List ℕ)). map raw (flat t) ++ l) (shut-trees f (λ i. g (suc i)) ms rs (λ i. s (suc i))))

-- One name ---------------------------------------------------------------------------------------------------------

pub one-picked : (y x : ℕ) → x ≡ y → pick (y ∷ []) 0 x ≡ Some 0
unfolding pick low
one-picked y x e = rw (eq-eqb x y e) refl

pub one-unpicked : (y x : ℕ) → (x ≡ y → ⊥) → pick (y ∷ []) 0 x ≡ None
unfolding pick next
one-unpicked y x e = rw (ne_eqb x y e) refl

pub one-among : (y : ℕ) (ps : List Param) → is_some (find ps y) ≡ true → Among (y ∷ []) ps
one-among y ps e zero h = e
one-among y ps e (suc j) h = absurd (omega arith)

-- a function that does not bind it
pub one-bare : (form : ℕ → Form) (y k n w ty : ℕ) → k ≡ 6 → is_some (find (params (form ty)) y) ≡ false → mark (binds form (head_from k n w) ty) (y ∷ []) 0 ≡ 0
unfolding mark low rest ◌∨ᵇ◌
one-bare form y k n w ty e h = rw (binds-fun form k n w ty y e ∙ h) refl

-- A turn -----------------------------------------------------------------------------------------------------------

-- what the turn says
module _ (form : ℕ → Form) (names bounds : List ℕ) (r : Row) (x : Turn) (t : Turns form names bounds r x) where
  pub turn-stands : x ≡ Stands → Bare form names r × (chosen names r.head 0 ≡ None)
  unfolding Turns
  turn-stands e = subst (λ (y : Turn). Turns form names bounds r y) e t

  pub turn-whole : x ≡ Whole → (chosen names r.head 0 ≡ None) × ((i : ℕ) → Shut names (inner form names r.head r.type 0 i))
  unfolding Turns
  turn-whole e = subst (λ (y : Turn). Turns form names bounds r y) e t

  pub turn-puts : (s : Span) → x ≡ Puts s → Bare form names r × ((j : ℕ) × (chosen names r.head 0 ≡ Some j) × (s.from ≡ get_or bounds j 0) × (s.to ≡ get_or bounds (j + 1) 0))
  unfolding Turns
  turn-puts s e = subst (λ (y : Turn). Turns form names bounds r y) e t

-- what the pass keeps: the rows taken, those from row `from` on that stand side by side and are still to be taken, and those left are all
pub record Onward {S : Type 0} (holds : S → List (List ℕ) → Type 0) (room loan : S → ℕ) (form : ℕ → Form) (l : List (List ℕ)) (body : ℕ) (names bounds : List ℕ) (owed i from : ℕ) (sink sink' : S) : Type 0 where
  pub taken : List (List ℕ)
  pub held : holds sink' taken
  pub going : Going form l body names bounds unhidden owed i (length taken + (i - from))
  pub behind : from ≤ i
  pub rows : taken ++ (standing l from i ++ left form l names bounds unhidden owed i) ≡ put_rows form l body names bounds
  pub room_left : room sink' + length taken ≡ room sink
  pub same_loan : loan sink' ≡ loan sink

module _ {S : Type 0} {holds : S → List (List ℕ) → Type 0} {room loan : S → ℕ} {l : List (List ℕ)} {body : ℕ} {names bounds : List ℕ} (ready : Ready l body names bounds) where
  pub onward-start : (form : ℕ → Form) (s : S) → holds s [] → Onward holds room loan form l body names bounds 1 body body s s
  onward-start form s h =
      let z : 0 + (body - body) ≡ 0 = omega arith in
      record {
        taken = [];
        held = h;
        going = rw z (going_start ready form unhidden (length-replicate {A = ℕ} 2048 0) (none_hidden 0));
        behind = omega arith;
        rows = rw (standing-none l body) (written_start ready form unhidden [] (none_hidden 0));
        room_left = omega arith;
        same_loan = refl;
      }

  module _ {form : ℕ → Form} {owed i from : ℕ} {s₀ s : S} (o : Onward holds room loan form l body names bounds owed i from s₀ s) where
    -- the rows that stand before row i are taken
    abbrev pub Took : S → Type 0
    Took s' = (holds s' (o.taken ++ standing l from i) × (room s' + (i - from) ≡ room s)) × (loan s' ≡ loan s)

    -- at the end
    pub onward-behind : owed ≡ 0 → (i ≡ body + size (tree_at (map row_of l) body)) × (i ≤ length l)
    onward-behind z = let e = going-behind ready o.going z in (e, omega (arith, e, ready.whole))

    pub onward-end : owed ≡ 0 → (s' : S) → Took s' → Taken holds room loan form l body names bounds s₀ s' i
    onward-end z s' k =
        let A = o.taken ++ standing l from i in
        let e : A ≡ put_rows form l body names bounds =
        sym (append-nil A) ∙ append_assoc o.taken (standing l from i) [] ∙ ap (λ (x : List (List ℕ)). o.taken ++ (standing l from i ++ x)) (sym (none_left ready o.going z)) ∙ o.rows in
        let n : length A ≡ length o.taken + (i - from) = length-append o.taken (standing l from i) ∙ ap (λ (x : ℕ). length o.taken + x) (standing-length l from i o.behind (onward-behind z).1) in
        record {
          behind = (onward-behind z).0;
          rows = rw e at k.0.0;
          left = omega (arith, o.room_left, k.0.1, n, ap length e);
          same_loan = k.1 ∙ o.same_loan;
        }

    module _ (some-owed : 0 < owed) where
      pub onward-in : (i < length l) × (owed ≤ 2048)
      onward-in = let k = going-in ready o.going some-owed in (k.0, omega (arith, k.1, length-replicate {A = ℕ} 2048 0))

      module _ {r : List ℕ} (g : get_or l i [] ≡ r) where
        abbrev L : List Row
        L = map row_of l

        module _ (bare : Bare form names (row_of r)) {owed' : ℕ} (d : owed' ≡ owed - 1 + arity (row_of r).head) where
          -- the row stands
          pub onward-stands : chosen names (row_of r).head 0 ≡ None → Onward holds room loan form l body names bounds owed' (i + 1) from s₀ s
          onward-stands c =
              let de = bare-descends form names (row_of r) bare owed owed' d in
              let sp = span-own bounds i (chosen names (row_of r).head 0) c in
              let fe = first-bare names bounds (row_of r) i (owed - 1) i sp.0 in
              let te = end-bare names bounds (row_of r) i (owed - 1) (i + 1) sp.1 in
              let n = going_next ready o.going some-owed g de fe te in
              let z : length o.taken + (i - from) + (i + 1 - i) ≡ length o.taken + (i + 1 - from) = omega (arith, o.behind) in
              record {
                taken = o.taken;
                held = o.held;
                going = rw z at n;
                behind = omega (arith, o.behind);
                rows = pending_next l _ _ o.taken _ from i i (i + 1) o.behind refl refl (turned ready o.going some-owed g de fe te) o.rows;
                room_left = o.room_left;
                same_loan = o.same_loan;
              }

          -- an argument is put for it
          module _ {f t : ℕ} (j : ℕ) (c : chosen names (row_of r).head 0 ≡ Some j) (ef : f ≡ get_or bounds j 0) (et : t ≡ get_or bounds (j + 1) 0) where
            pub onward-span : (f ≤ t) × (t ≤ length l)
            onward-span =
                let de = bare-descends form names (row_of r) bare owed owed' d in
                let sp = span-at bounds i (chosen names (row_of r).head 0) j f t c ef et in
                copied-span ready o.going some-owed g de (first-bare names bounds (row_of r) i (owed - 1) f sp.0) (end-bare names bounds (row_of r) i (owed - 1) t sp.1)

            pub onward-puts : (s' s″ : S) → Took s' → (holds s″ ((o.taken ++ standing l from i) ++ standing l f t) × (room s″ + (t - f) ≡ room s')) × (loan s″ ≡ loan s')
                → Onward holds room loan form l body names bounds owed' (i + 1) (i + 1) s₀ s″
            onward-puts s' s″ k q =
                let de = bare-descends form names (row_of r) bare owed owed' d in
                let sp = span-at bounds i (chosen names (row_of r).head 0) j f t c ef et in
                let fe = first-bare names bounds (row_of r) i (owed - 1) f sp.0 in
                let te = end-bare names bounds (row_of r) i (owed - 1) t sp.1 in
                let n = going_next ready o.going some-owed g de fe te in
                let A = o.taken ++ standing l from i in
                let P = A ++ standing l f t in
                let R = left form l names bounds unhidden owed' (i + 1) in
                let la : length A ≡ length o.taken + (i - from) = length-append o.taken (standing l from i) ∙ ap (λ (x : ℕ). length o.taken + x) (standing-length l from i o.behind (omega (arith, onward-in.0))) in
                let lp : length P ≡ length A + (t - f) = length-append A (standing l f t) ∙ ap (λ (x : ℕ). length A + x) (standing-length l f t onward-span.0 onward-span.1) in
                let z : length o.taken + (i - from) + (t - f) ≡ length P + (i + 1 - (i + 1)) = omega (arith, la, lp) in
                record {
                  taken = P;
                  held = q.0.0;
                  going = rw z at n;
                  behind = omega arith;
                  rows = ap (λ (x : List (List ℕ)). P ++ (x ++ R)) (standing-none l (i + 1))
                      ∙ append_assoc A (standing l f t) R
                      ∙ append_assoc o.taken (standing l from i) (standing l f t ++ R)
                      ∙ ap (λ (u : List (List ℕ)). o.taken ++ (standing l from i ++ u)) (sym (turned ready o.going some-owed g de fe te))
                      ∙ o.rows;
                  room_left = omega (arith, o.room_left, k.0.1, q.0.1, la, lp);
                  same_loan = q.1 ∙ k.1 ∙ o.same_loan;
                }

        -- the row and all its trees stand
        module _ (exact : Exact l) (c : chosen names (row_of r).head 0 ≡ None) (shut : (k : ℕ) → Shut names (inner form names (row_of r).head (row_of r).type 0 k)) where
          there : tree_at L i ≡ node (row_of r).head (row_of r).type (grove L (i + 1) (arity (row_of r).head))
          there = tree-row L i (row_of r) (row_of r) (omega (arith, onward-in.0, length-map l row_of)) (row_any l i r onward-in.0 g)

          abbrev E : ℕ
          E = i + size (tree_at L i)

          -- trees owed, one fewer
          one_less : i + sizes (grove L i owed) ≡ E + sizes (grove L E (owed - 1))
          one_less =
              let k : owed ≡ suc (owed - 1) = omega arith in
              ap (λ (n : ℕ). i + sizes (grove L i n)) k ∙ omega (arith, grove-size L i (owed - 1))

          pub tree-in : E ≤ length l
          tree-in = omega (arith, one_less, o.going.ends, ready.whole)

          tree-left : left form l names bounds unhidden owed i ≡ standing l i E ++ left form l names bounds unhidden (owed - 1) E
          unfolding head_of ty_of
          tree-left =
              let n = size (tree_at L i) in
              let z : E - i ≡ n = omega arith in
              let st : standing l i E ≡ map raw (flat (tree_at L i)) = stands l exact i E refl tree-in in
              let dr : drop i l ≡ map raw (flat (tree_at L i)) ++ drop E l =
              sym (take-append-drop n (drop i l)) ∙ ap (λ (x : List (List ℕ)). x ++ drop n (drop i l)) (ap (λ (k : ℕ). take k (drop i l)) (sym z) ∙ st) ∙ ap (λ (x : List (List ℕ)). map raw (flat (tree_at L i)) ++ x) (drop-drop n i l) in
              let bl : below unhidden owed ≡ 0 ∷ below unhidden (owed - 1) = below_on unhidden owed (owed - 1) (omega arith) ∙ ap (λ (x : ℕ). x ∷ below unhidden (owed - 1)) (none_hidden (owed - 1)) in
              ap (λ (x : List (List ℕ)). run form names (arg_rows l bounds) x (below unhidden owed)) dr
              ∙ ap (run form names (arg_rows l bounds) (map raw (flat (tree_at L i)) ++ drop E l)) bl
              ∙ shut-below form names (arg_rows l bounds) (tree_at L i) 0 (below unhidden (owed - 1)) (drop E l) (rw there c) (rw there shut)
              ∙ ap (λ (x : List (List ℕ)). x ++ left form l names bounds unhidden (owed - 1) E) (sym st)

          pub onward-tree : {e : ℕ} → e ≡ E → Onward holds room loan form l body names bounds (owed - 1) e from s₀ s
          onward-tree {e} q =
              let k : i ≤ E = omega arith in
              let h : from ≤ E = omega (arith, o.behind) in
              let len : length (left form l names bounds unhidden owed i) ≡ size (tree_at L i) + length (left form l names bounds unhidden (owed - 1) E) =
              ap length tree-left ∙ length-append (standing l i E) (left form l names bounds unhidden (owed - 1) E) ∙ ap (λ (x : ℕ). x + length (left form l names bounds unhidden (owed - 1) E)) (standing-length l i E k tree-in ∙ omega arith) in
              rw q record {
                taken = o.taken;
                held = o.held;
                going = record {
                  long = o.going.long;
                  ends = sym one_less ∙ o.going.ends;
                  counted = omega (arith, o.going.counted, len, o.behind);
                  few = omega (arith, o.going.few, o.behind);
                };
                behind = h;
                rows = ap (λ (u : List (List ℕ)). o.taken ++ u)
                    (ap (λ (u : List (List ℕ)). u ++ left form l names bounds unhidden (owed - 1) E) (sym (standing-join l from i E o.behind k))
                    ∙ append_assoc (standing l from i) (standing l i E) (left form l names bounds unhidden (owed - 1) E)
                    ∙ ap (λ (u : List (List ℕ)). standing l from i ++ u) (sym tree-left))
                    ∙ o.rows;
                room_left = o.room_left;
                same_loan = o.same_loan;
              }
