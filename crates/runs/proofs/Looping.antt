-- A run under way on a sound record, and what it says where it ends. Assumes nothing.
use Prim.Native.Nat.{ℕ, ◌+◌, ◌-◌, ◌/◌, ◌<◌, ◌≤◌}
use mathlib.Core.Path.{◌≡◌, refl, ap, sym, ◌∙◌, subst}
use mathlib.Core.Bool.{Bool, true, false, false≢true}
use mathlib.Core.List.{List, [], ◌∷◌, map}
use Rattle.std.specs.Prelude.{Option, None, Some}
use native.Mathlib.Omega.{arith}
use borrow.Author.Tests.{eq-eqb}
use lib.ListN.{length, take, replicate, length-drop}
use Rattle.meaning.specs.Bytes.{◌∧ᵇ◌, Limits, padded, rows_at, record_bytes}
use Rattle.meaning.specs.Types.{Form, form_of}
use Rattle.meaning.specs.Terms.{code, Tree, size, top}
use Rattle.meaning.specs.Steps.{Call, stay, go, step}
use Rattle.meaning.specs.Records.{State, record_of, state_of, sound, type_count, types_in, open_count, next_number, head_sound, entry_of, row_count as row_count'}
use Rattle.meaning.specs.Entries.{Ended, stepped, runs, lent, ran_out, run, RunSays, letter_of}
use Rattle.meaning.specs.declared.Answer.{Answer}
use Rattle.meaning.specs.Answers.{Run}
use Rattle.meaning.specs.Answers.{ended_by}
use Rattle.meaning.proofs.Trees.Tests.{both, left}
use Rattle.meaning.proofs.Bytes.Layouts.{AllBytes, padded-none}
use Rattle.meaning.proofs.Bytes.Records.{Good, good-state, record-state, state-record, record-length, sound-record, Header, header}
use Rattle.meaning.proofs.Trees.EachRow.{Every}
use Rattle.meaning.proofs.Bytes.RowTables.{legal}
use Rattle.meaning.proofs.Entries.GoodStays.{Board}
use Rattle.search.specs.Frames.{around}
use Rattle.search.specs.Kept.{row_count}
use Rattle.search.specs.Search.{Room}
use Rattle.search.specs.declared.Stand.{Stand}
use Rattle.runs.specs.Sites.{Site, Whole, Halted, own, InRecord, Turns, Tells, Calling}
use Rattle.runs.specs.Going.{space, later, OnTheWay, Begins, PutBack, Fronts}
use Rattle.runs.specs.Loops.{Ready, SentOff, Outgrown}
use Rattle.runs.specs.Tries.{Trying, Tries, Turning, Steps, Found}
use Rattle.runs.specs.declared.Next.{Next}
use Rattle.runs.specs.declared.Tried.{Tried}
use Rattle.runs.specs.declared.Tried.TheVariants.{Stays, Goes, Sends}
use Rattle.runs.proofs.CallOut.{whole-size}
use Rattle.runs.proofs.Fronting.{types_same, entries-same, next-same, head-sound-same}
use Rattle.runs.proofs.Sites.{site-goes, is_call, here-no-call}
use Rattle.runs.proofs.PutBack.{begun, record-long, rows-from}
use Rattle.runs.proofs.OnTheWay.{begins, step-on, step-good, ends-sent}
use Rattle.runs.proofs.SendOff.{calls_count}
use Rattle.runs.proofs.Letter.{sends-at}
use Rattle.meaning.proofs.Steps.Sends.{send-smaller}
use Rattle.meaning.specs.Typing.{first_is}
use Rattle.meaning.specs.declared.Answer.TheVariants.{Sent}
use Rattle.runs.proofs.SiteSizes.{site-size}
use Rattle.runs.proofs.Tries.{here-fits}
use Rattle.runs.proofs.EndTries.{end-all}

module _ (m : Limits) (kept₀ : List ℕ) (budget : ℕ) where
  -- the buffers hold the term after some steps
  pub record Under (kept work frames : List ℕ) (s : Stand) (made : ℕ) : Type 0 where
    pub tree : Tree
    pub whole : Whole (form_of (state_of m kept₀).types) (state_of m kept₀).next (space m kept) work frames s tree
    pub way : OnTheWay m budget made (state_of m kept₀) tree
    pub good : Good m (stepped (state_of m kept₀) tree)
    pub front : take (rows_at m) kept ≡ take (rows_at m) kept₀
    pub long : length kept ≡ length kept₀
    pub room : Room (space m kept) work frames s

  -- and the search has stopped in it
  pub record Stopped (kept work frames : List ℕ) (s : Stand) (made : ℕ) : Type 0 where
    pub tree : Tree
    pub halted : Halted (form_of (state_of m kept₀).types) (state_of m kept₀).next (space m kept) work frames s tree
    pub way : OnTheWay m budget made (state_of m kept₀) tree
    pub good : Good m (stepped (state_of m kept₀) tree)
    pub front : take (rows_at m) kept ≡ take (rows_at m) kept₀
    pub long : length kept ≡ length kept₀
    pub room : Room (space m kept) work frames s

-- what a rule that was tried tells, by its case
told-by : (x y : Tried) (form : ℕ → Form) (left right frames : List ℕ) (s : Stand) → x ≡ y → Tries form left right frames s x → Tries form left right frames s y
told-by x y form left right frames s e h = subst (Tries form left right frames s) e h

module _ (m : Limits) (kept₀ work₀ : List ℕ) (budget : ℕ) where
  abbrev start : State
  start = state_of m kept₀

  abbrev form₀ : ℕ → Form
  form₀ = form_of start.types

  -- what is known of the record and of the board from the beginning
  pub record Began : Type 0 where
    pub board : Board m
    pub long : length kept₀ ≡ record_bytes m
    pub bytes : AllBytes kept₀
    pub is-sound : sound m kept₀ ≡ true
    pub work-long : length work₀ ≡ m.work_bytes

  pub began : (frames : List ℕ) → Ready m kept₀ work₀ frames → AllBytes kept₀ → Began
  began frames r b =
      record {
        board = record { small = record { types = omega (arith, r.types); rows = omega (arith, r.rows); calls = omega (arith, r.calls); numbers = omega (arith, r.numbers) }; numbers = r.numbers; programs = r.programs; letters = omega (arith, r.wide) };
        long = r.long;
        bytes = b;
        is-sound = r.is-sound;
        work-long = r.work-long;
      }

  module _ (z : Began) where
    pub good₀ : Good m start
    good₀ = good-state m kept₀ z.board.small z.long z.bytes z.is-sound

    heads : Header m kept₀ z.board.small z.long z.bytes z.is-sound
    heads = header m kept₀ z.board.small z.long z.bytes z.is-sound

    pub rows_few : row_count' kept₀ ≤ m.rows
    rows_few = heads.rows_many

    types₀ : types_in kept₀ ≡ start.types
    unfolding state_of
    types₀ = refl

    -- the record's front says what it said
    module _ (kept : List ℕ) (front : take (rows_at m) kept ≡ take (rows_at m) kept₀) (long : length kept ≡ length kept₀) where
      pub same-types : (type_count kept ≤ m.types) × (form_of (types_in kept) ≡ form₀)
      same-types = let (n, e) = types_same m kept kept₀ front (long ∙ z.long) z.long heads.types_many in (omega (arith, n, heads.types_many), ap form_of (e ∙ types₀))

      pub record-head : 20 ≤ length kept
      record-head = omega (arith, long, z.long, record-long m, rows-from m)

      pub same_head : head_sound m kept ≡ true
      unfolding sound
      same_head = head-sound-same m kept kept₀ front (long ∙ z.long) z.long ∙ left _ _ z.is-sound

      pub same-calls : (open_count kept ≡ length start.calls) × (start.calls ≡ (state_of m kept).calls)
      unfolding state_of
      same-calls =
          let (n, e) = entries-same m kept kept₀ front (long ∙ z.long) z.long heads.calls_many in
          (n ∙ sym (calls_count m kept₀), ap (map entry_of) (sym e))

      pub same_next : next_number kept ≡ start.next
      unfolding state_of
      same_next = next-same m kept kept₀ front (long ∙ z.long) z.long

      pub same-fronts : Fronts m kept start
      same-fronts =
          record {
            roomy = record { types = good₀.types_many; calls = good₀.calls_many; rows = good₀.rows_many };
            front = front ∙ ap (take (rows_at m)) (sym (record-state m kept₀ z.board.small z.long z.bytes z.is-sound));
          }

    -- IT BEGINS
    pub under-begins : (work frames : List ℕ) (s : Stand) → Begins m kept₀ work₀ work s → length work ≡ length work₀ → row_count' kept₀ ≤ length frames → length work₀ ≤ 32768 → m.rows ≤ 2048 → Under m kept₀ budget kept₀ work frames s 0
    unfolding stepped
    under-begins work frames s b lw deep few rows =
        let w = begun m kept₀ work₀ work frames s form₀ start.next z.board.small z.long z.bytes z.is-sound (omega (arith, heads.rows_many, record-long m, z.long)) b in
        let n = whole-size form₀ start.next (space m kept₀) work frames s start.tree w in
        let rc : row_count work ≡ row_count work₀ = ap (λ (i : ℕ). i / 8) lw in
        let g = good₀.rows_many in
        record {
          tree = start.tree;
          whole = w;
          way = begins m budget start;
          good = good₀;
          front = refl;
          long = refl;
          room = record { ends = omega (arith, b.first, rc); few = omega (arith, rc); rows = omega (arith, n); left-long = omega (arith, n, length-drop (rows_at m) kept₀, record-long m, z.long); deep = omega (arith, b.first, b.none_passed, rc, deep) };
        }

    -- what the next search asks
    module _ (kept work frames : List ℕ) (s : Stand) (made : ℕ) (x : Under m kept₀ budget kept work frames s made) where
      pub under-total : s.l + (row_count work - s.r) ≤ m.rows
      unfolding stepped
      under-total = omega (arith, whole-size form₀ start.next (space m kept) work frames s x.tree x.whole, x.good.rows_many)

      pub under-somewhere : (k : ℕ) × (t : Tree) × (count : ℕ) × Whole (form_of (types_in kept)) k (space m kept) work frames s t × Every (legal count) t
      unfolding stepped
      under-somewhere = (start.next, x.tree, length start.types, rw (same-types kept x.front x.long).1 x.whole, x.good.legal_rows)

      -- IT STOPS
      pub stops : (kept' frames' : List ℕ) (n : Next) → InRecord m kept kept' × Found (form_of (types_in kept)) (space m kept) (space m kept') work frames frames' s n → Stopped m kept₀ budget kept' work frames' n.s made
      stops kept' frames' n c =
          let f = (same-types kept x.front x.long).1 in
          let h = c.1.halted start.next x.tree (rw f x.whole) in
          record { tree = x.tree; halted = rw f at h; way = x.way; good = x.good; front = c.0.front ∙ x.front; long = c.0.long ∙ x.long; room = c.1.room }

      pub stop-tells : (kept' frames' : List ℕ) (n : Next) → InRecord m kept kept' × Found (form_of (types_in kept)) (space m kept) (space m kept') work frames frames' s n → Tries form₀ (space m kept') work frames' n.s n.tried
      stop-tells kept' frames' n c = rw (same-types kept x.front x.long).1 at c.1.tries

      pub stop-stays : (kept' frames' : List ℕ) (n : Next) → InRecord m kept kept' × Found (form_of (types_in kept)) (space m kept) (space m kept') work frames frames' s n → n.tried ≡ Stays
          → (k : ℕ) (t : Tree) (h : Halted form₀ k (space m kept') work frames' n.s t) → (h.outer ≡ []) × (own form₀ k h.tree ≡ stay)
      unfolding Tells
      stop-stays kept' frames' n c e k t h =
          let root = rw (same-types kept x.front x.long).1 at (c.1.at-root e) in
          (root k t h, told-by n.tried Stays form₀ (space m kept') work frames' n.s e (stop-tells kept' frames' n c) k t h)

      pub stop-sends : (kept' frames' : List ℕ) (n : Next) (old : ℕ) → InRecord m kept kept' × Found (form_of (types_in kept)) (space m kept) (space m kept') work frames frames' s n → n.tried ≡ Sends old
          → (k : ℕ) (t : Tree) (h : Halted form₀ k (space m kept') work frames' n.s t) → (size h.tree ≡ old) × ((c : Call) × (u : Tree) × (own form₀ k h.tree ≡ go (Some c) u))
      unfolding Tells
      stop-sends kept' frames' n old c e k t h = told-by n.tried (Sends old) form₀ (space m kept') work frames' n.s e (stop-tells kept' frames' n c) k t h

    -- WHAT IS SAID where it ends
    pub says : (r : Run) (e : Ended) (kept' work' : List ℕ) → runs m budget start ≡ e → r ≡ ended_by e.answer e.made → kept' ≡ record_of m e.state → work' ≡ padded m.work_bytes e.letter → RunSays m kept₀ work₀ budget r kept' work'
    unfolding run ran_out lent
    says r e kept' work' q a k w =
        let l = both _ _ (eq-eqb (length kept₀) (record_bytes m) z.long) (eq-eqb (length work₀) m.work_bytes z.work-long) in
        record { answer = a ∙ rw (l, z.is-sound, q) refl; kept-bytes = k ∙ rw (l, z.is-sound, q) refl; work-bytes = w ∙ rw (l, z.is-sound, q) refl }

    module _ (kept work frames : List ℕ) (s : Stand) (made : ℕ) (x : Stopped m kept₀ budget kept work frames s made) where
      pub stopped-size : size x.tree ≡ s.l + (row_count work - s.r)
      stopped-size = whole-size form₀ start.next (space m kept) work frames s x.tree x.halted.all

      pub stopped-total : s.l + (row_count work - s.r) ≤ m.rows
      unfolding stepped
      stopped-total = omega (arith, stopped-size, x.good.rows_many)

      pub stopped-part : size x.halted.tree ≤ s.l + (row_count work - s.r)
      stopped-part = by s.here refl
        where
          by : (b : Bool) → s.here ≡ b → size x.halted.tree ≤ s.l + (row_count work - s.r)
          by true e = omega (arith, here-fits form₀ start.next (space m kept) work frames s x.tree x.halted e)
          by false e = omega (arith, (end-all form₀ start.next (space m kept) work frames s x.tree x.halted e).0)

      -- what making rows at once asks, and what it tells
      pub fresh-asks : (y : Tried) → Tries form₀ (space m kept) work frames s y → Trying (form_of (types_in kept)) (space m kept) work frames s × Tries (form_of (types_in kept)) (space m kept) work frames s y
      unfolding stepped
      fresh-asks y tells =
          let f = (same-types kept x.front x.long).1 in
          let T : Trying form₀ (space m kept) work frames s = record { number = start.next; whole = x.tree; halted = x.halted; count = length start.types; in-range = x.good.legal_rows } in
          (subst (λ (g : ℕ → Form). Trying g (space m kept) work frames s) (sym f) T, subst (λ (g : ℕ → Form). Tries g (space m kept) work frames s y) (sym f) tells)

      pub fresh-goes : (old new : ℕ) → Tries (form_of (types_in kept)) (space m kept) work frames s (Goes old new) → (u : Tree) × (own form₀ start.next x.halted.tree ≡ go None u) × Turns s.here x.halted.tree u old new
      unfolding Tells
      fresh-goes old new y =
          let f = (same-types kept x.front x.long).1 in
          subst (λ (g : ℕ → Form). Tries g (space m kept) work frames s (Goes old new)) f y start.next x.tree x.halted

      -- with an answer of the table, or at the budget
      pub halts-says : (a : Answer) (r : Run) (kept' work' : List ℕ) → length work ≡ length work₀ → runs m budget start ≡ record { answer = a; made = made; state = stepped start x.tree; letter = [] }
          → (r ≡ ended_by a made) × PutBack m kept kept' work s × (work' ≡ replicate (length work) 0) → RunSays m kept₀ work₀ budget r kept' work'
      halts-says a r kept' work' lw q (p, b, w) =
          says r _ kept' work' q p (b form₀ start.next frames start x.tree (same-fronts kept x.front x.long) x.halted.all) (w ∙ ap (λ (i : ℕ). replicate i 0) (lw ∙ z.work-long) ∙ sym (padded-none m.work_bytes))

      -- where its term outgrows the frames, the record of the whole goes on
      pub leaves : (few kept' : List ℕ) → length few < m.rows → PutBack m kept kept' work s → Outgrown m kept₀ few budget made kept'
      leaves few kept' short b =
          let u = stepped start x.tree in
          let e : kept' ≡ record_of m u = b form₀ start.next frames start x.tree (same-fronts kept x.front x.long) x.halted.all in
          record {
            short = short;
            few = x.way.few;
            long = ap length e ∙ record-length m u z.board.small x.good;
            is-sound = ap (sound m) e ∙ sound-record m u z.board.small x.good;
            goes_on = x.way.goes_on ∙ ap (λ (v : State). later made (runs m (budget - made) v)) (sym (ap (state_of m) e ∙ state-record m u z.board.small x.good));
          }

      -- the whole does what the rule does
      pub whole-goes : (c : Option Call) (u : Tree) → own form₀ start.next x.halted.tree ≡ go c u → step form₀ start.next x.tree ≡ go c (top (around x.halted.outer (u ∷ x.halted.rest)))
      whole-goes c u g =
          let h = x.halted in
          ap (step form₀ start.next) (sym h.all.whole) ∙ site-goes form₀ start.next (space m kept) work frames s s.here h.all.frames_around h.all.trees h.tree h.outer h.rest c u h.site h.all.search g

      pub whole-grows : (u : Tree) → size (top (around x.halted.outer (u ∷ x.halted.rest))) + size x.halted.tree ≡ size x.tree + size u
      whole-grows u =
          let h = x.halted in
          site-size form₀ start.next s.here h.all.frames_around h.all.trees h.tree u h.outer h.rest h.site h.all.search.passed ∙ ap (λ (t : Tree). size t + size u) h.all.whole

      -- a rule that goes, as the code carries it out
      pub stopped-going : (old new : ℕ) → (u : Tree) × (own form₀ start.next x.halted.tree ≡ go None u) × Turns s.here x.halted.tree u old new → Turning (form_of (types_in kept)) (space m kept) work frames s old new
      unfolding stepped
      stopped-going old new (u, g, b) =
          let f = (same-types kept x.front x.long).1 in
          let y : Turning form₀ (space m kept) work frames s old new = record { trying = record { number = start.next; whole = x.tree; halted = x.halted; count = length start.types; in-range = x.good.legal_rows }; made = u; goes = g; turns = b } in
          rw f y

      -- A STEP ON
      pub steps_on : (kept' work' : List ℕ) (e : Stand) (old new : ℕ) (u : Tree) → own form₀ start.next x.halted.tree ≡ go None u → Turns s.here x.halted.tree u old new
          → s.l + (row_count work - s.r) + new ≤ m.rows + old → (made ≡ budget → ⊥)
          → InRecord m kept kept' × Steps (form_of (types_in kept)) (space m kept) (space m kept') work work' frames s e old new → Under m kept₀ budget kept' work' frames e (made + 1)
      steps_on kept' work' e old new u g b fits more (r, c) =
          let f = (same-types kept x.front x.long).1 in
          let d : Steps form₀ (space m kept) (space m kept') work work' frames s e old new = rw f at c in
          let n : size (top (around x.halted.outer (u ∷ x.halted.rest))) ≤ m.rows = omega (arith, whole-grows u, stopped-size, b.sizes) in
          record {
            tree = top (around x.halted.outer (u ∷ x.halted.rest));
            whole = d.reached start.next x.tree x.halted u g b;
            way = step-on m budget made start x.tree x.way _ (whole-goes None u g) n more;
            good = step-good m budget made start x.tree x.way _ (whole-goes None u g) z.board n x.good;
            front = r.front ∙ x.front;
            long = r.long ∙ x.long;
            room = d.room;
          }

      -- A CALL
      module _ (d : Call) (u : Tree) (g : own form₀ start.next x.halted.tree ≡ go (Some d) u) where
        pub call-smaller : size (top (around x.halted.outer (u ∷ x.halted.rest))) ≤ m.rows
        unfolding stepped
        call-smaller = omega (arith, send-smaller form₀ start.next x.tree d _ (whole-goes (Some d) u g), x.good.rows_many)

        is-call : is_call x.halted.tree ≡ true
        unfolding is_call code first_is ◌∧ᵇ◌
        is-call = let y = sends-at form₀ start.next x.halted.tree d u g in rw y.was y.tool

        pub call-last : s.here ≡ false
        call-last = by s.here refl
          where
            by : (b : Bool) → s.here ≡ b → s.here ≡ false
            by false e = e
            by true e =
                let h = x.halted in
                absurd (false≢true (sym (here-no-call h.all.frames_around h.all.trees h.tree h.outer h.rest (subst (λ (b : Bool). Site b h.all.frames_around h.all.trees h.tree h.outer h.rest) e h.site)) ∙ is-call))

        pub calling : (old next : ℕ) → next ≡ start.next → size x.halted.tree ≡ old → Calling (space m kept) work frames s old next
        calling old next e a = rw e (record { form = form₀; whole = x.tree; halted = x.halted; call = d; made = u; goes = g; rows = a })

        pub sent-says : (old next : ℕ) (r : Run) (kept' work' : List ℕ) → next ≡ start.next → size x.halted.tree ≡ old → length work ≡ length work₀ → length start.calls < m.calls → start.next ≤ m.last_number → (made ≡ budget → ⊥)
            → SentOff m kept kept' work work' frames s old next → r ≡ ended_by (Sent next) (made + 1) → RunSays m kept₀ work₀ budget r kept' work'
        sent-says old next r kept' work' e a lw held last more off q =
            let o : SentOff m kept kept' work work' frames s old start.next = subst (SentOff m kept kept' work work' frames s old) e off in
            let (k, w) = o form₀ start x.tree x.halted d u (same-fronts kept x.front x.long) refl (same-calls kept x.front x.long).1 g a in
            says r _ kept' work' (ends-sent m budget made start x.tree x.way d _ (whole-goes (Some d) u g) held last call-smaller more) (q ∙ ap (λ (i : ℕ). ended_by (Sent i) (made + 1)) e) k (w ∙ ap (λ (i : ℕ). padded i (letter_of start.next d)) (lw ∙ z.work-long))
