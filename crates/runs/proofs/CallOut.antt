-- A call goes out: the rows behind it, the future in its place, the letter. Assumes nothing.
use Prim.Native.Nat.{ℕ, ◌+◌, ◌*◌, ◌-◌, ◌/◌, ◌<◌, ◌≤◌}
use mathlib.Core.Path.{◌≡◌, refl, ap, sym, ◌∙◌, subst}
use mathlib.Core.Bool.{Bool, false}
use mathlib.Core.List.{List, [], ◌∷◌, ◌++◌, map, append-nil}
use Rattle.std.specs.Prelude.{Some}
use native.Mathlib.Omega.{arith}
use lib.ListN.{length, take, drop, length-take, length-drop, length-append, length-map}
use lib.Seq.{take_at, drop_at, drop-drop}
use Rattle.layout.specs.Rows.{row_table}
use Rattle.layout.proofs.Tables.{row-table-cut, term-width}
use Rattle.meaning.specs.Bytes.{number, read, reads, write, term_row, call_head}
use Rattle.meaning.specs.Types.{Form}
use Rattle.meaning.specs.Terms.{future, code, n_of, word_of, Tree, node, end, Row, raw, flat, size, top}
use Rattle.meaning.specs.Steps.{Call, go, step}
use Rattle.meaning.specs.Entries.{letter_of}
use Rattle.meaning.proofs.Bytes.Layouts.{AllBytes, bytes_drop, bytes_take, Fits, pow256, read-write, length-write}
use Rattle.meaning.proofs.Trees.Parse.{length-flat}
use Rattle.meaning.proofs.Steps.Sends.{send-smaller}
use Rattle.search.specs.Frames.{spelled, around, passed_rows}
use Rattle.search.specs.Kept.{table, to_come, row_count}
use Rattle.search.specs.Search.{Room, Changed, Resumes}
use Rattle.search.specs.declared.Stand.{Stand}
use Rattle.search.proofs.Tables.{rows_before_lem, table-length}
use Rattle.search.proofs.Ends.{all-rows}
use Rattle.runs.specs.Sites.{Site, own, Whole, Halted, CallsOut, Calling}
use Rattle.runs.specs.Going.{letter_from}
use Rattle.runs.proofs.Sites.{end-rows, end-at, end-behind, site-goes}
use Rattle.runs.proofs.LetterBytes.{call-width}
use Rattle.runs.proofs.Letter.{letter-told, result-told, future-told, call_long, many}

pub come-length : (right : List ℕ) (r : ℕ) → length (to_come right r) ≡ row_count right - r
unfolding to_come
come-length right r = table-length right (8 * r) (row_count right - r)

-- how many rows the whole has
pub whole-size : (form : ℕ → Form) (k : ℕ) (left right frames : List ℕ) (s : Stand) (t : Tree) → Whole form k left right frames s t → size t ≡ s.l + (row_count right - s.r)
whole-size form k left right frames s t w =
    let all = all-rows form k left right frames s w.frames_around w.trees w.search ∙ ap (λ (x : Tree). map raw (flat x)) w.whole in
    let n = sym (length-append (table left 0 s.l) (to_come right s.r)) ∙ ap length all ∙ length-map (flat t) raw ∙ length-flat t in
    omega (arith, n, table-length left 0 s.l, come-length right s.r)

-- a letter before the rows to come changes nothing of the whole
pub lettered : (form : ℕ → Form) (k : ℕ) (left right right' letter frames : List ℕ) (s : Stand) (t : Tree) → right' ≡ letter ++ drop (length letter) right → length letter ≤ 8 * s.r → 8 * s.r ≤ length right
    → Whole form k left right frames s t → Whole form k left right' frames s t
unfolding to_come table
lettered form k left right right' letter frames s t e h g w =
    let z : length letter + (8 * s.r - length letter) ≡ 8 * s.r = omega arith in
    let n : length right' ≡ length right = ap length e ∙ length-append letter (drop (length letter) right) ∙ omega (arith, length-drop (length letter) right) in
    let rest : drop (8 * s.r) right' ≡ drop (8 * s.r) right =
    ap (λ (i : ℕ). drop i right') (sym z) ∙ sym (drop-drop (8 * s.r - length letter) (length letter) right') ∙ ap (drop (8 * s.r - length letter)) (ap (drop (length letter)) e ∙ drop_at letter (drop (length letter) right) (length letter) refl)
    ∙ drop-drop (8 * s.r - length letter) (length letter) right ∙ ap (λ (i : ℕ). drop i right) z in
    let x = w.search in
    record {
      frames_around = w.frames_around;
      trees = w.trees;
      search = record { kept = x.kept; coming = cc (n, rest) ∙ x.coming; count = x.count; passed = x.passed };
      whole = w.whole;
    }

-- the future's row
future-reads : (k ty : ℕ) → k < 4294967296 → ty < 65536 → reads term_row 1 (write term_row (9 ∷ 0 ∷ ty ∷ k ∷ [])) ≡ map raw (record { head = future k; type = ty } ∷ [])
unfolding reads raw code n_of word_of Fits pow256
future-reads k ty hk ht =
    ap (λ (l : List ℕ). l ∷ [])
    (ap (read term_row) (sym (append-nil (write term_row (9 ∷ 0 ∷ ty ∷ k ∷ [])))) ∙ read-write term_row (9 ∷ 0 ∷ ty ∷ k ∷ []) [] (omega arith, (omega arith, (omega arith, (omega arith, tt)))))

pub letter-length : (next : ℕ) (call : List ℕ) → 16 ≤ length call → length (letter_from next call) ≡ length call - 4
unfolding letter_from
letter-length next call h =
    let head = next ∷ number 4 (drop 12 call) ∷ (length call / 8 - 2) ∷ number 2 (drop 2 call) ∷ [] in
    length-append (write call_head head) (drop 16 call) ∙ omega (arith, length-write call_head head ∙ call-width, length-drop 16 call)

-- THE CALL
module _ (left work call frames : List ℕ) (s : Stand) (old next : ℕ) (room : Room left work frames s) (here : s.here ≡ false) (bytes : AllBytes left)
    (ecall : call ≡ take (8 * old) (drop (8 * (s.l - old)) left)) where
  -- its rows
  module _ (form : ℕ → Form) (t : Tree) (h : Halted form next left work frames s t) (c : Call) (u : Tree) (g : own form next h.tree ≡ go (Some c) u) (n : size h.tree ≡ old) where
    site : Site false h.all.frames_around h.all.trees h.tree h.outer h.rest
    site = subst (λ (b : Bool). Site b h.all.frames_around h.all.trees h.tree h.outer h.rest) here h.site

    ends : (s.l ≡ length (passed_rows h.outer) + size h.tree) × (table left (8 * length (passed_rows h.outer)) (size h.tree) ≡ map raw (flat h.tree)) × (to_come work s.r ≡ map raw (spelled h.rest))
    ends = end-rows form next left work frames s h.all.frames_around h.all.trees h.tree h.outer h.rest site h.all.search

    pub call_fits : old ≤ s.l
    call_fits = omega (arith, ends.0, n)

    pub call_length : length call ≡ 8 * old
    call_length = ap length ecall ∙ length-take (8 * old) (drop (8 * (s.l - old)) left) ∙ omega (arith, length-drop (8 * (s.l - old)) left, room.left-long, call_fits)

    call_rows : row_table call ≡ map raw (flat h.tree)
    unfolding table
    call_rows =
        let p : 8 * (s.l - old) ≡ 8 * length (passed_rows h.outer) = omega (arith, ends.0, n) in
        ap (λ (x : List ℕ). row_table x) ecall ∙ row-table-cut left (8 * (s.l - old)) old (8 * old) refl (omega (arith, room.left-long, call_fits))
        ∙ ap (λ (i : ℕ). reads term_row old (drop i left)) p ∙ ap (λ (i : ℕ). reads term_row i (drop (8 * length (passed_rows h.outer)) left)) (sym n) ∙ ends.1

    call-bytes : AllBytes call
    call-bytes = subst (λ (x : List ℕ). AllBytes x) (sym ecall) (bytes_take (8 * old) _ (bytes_drop (8 * (s.l - old)) left bytes))

    pub call-two : 2 ≤ old
    call-two = omega (arith, call_length, call_long form next call h.tree c u call-bytes old call_length call_rows g)

    -- behind it: the future before the rows to come
    pub behind : (work1 : List ℕ) (s1 : Stand) (ty : ℕ) → ty ≡ number 2 (drop 2 call) → next < 4294967296 → ty < 65536 → 0 < s.r → s1.l ≡ s.l - old → s1.r ≡ s.r - 1 → s1.d ≡ s.d - 1
        → work1 ≡ take (8 * (s.r - 1)) work ++ (write term_row (9 ∷ 0 ∷ ty ∷ next ∷ []) ++ drop (8 * (s.r - 1) + 8) work)
        → Changed form next left work1 frames s1 h.outer u h.rest
    unfolding spelled flat
    behind work1 s1 ty ety hk ht hr el er ed e =
        let y = write term_row (9 ∷ 0 ∷ ty ∷ next ∷ []) in
        let ly : length y ≡ 8 * 1 = length-write term_row (9 ∷ 0 ∷ ty ∷ next ∷ []) ∙ term-width in
        let back : s.r - 1 + 1 ≡ s.r = omega arith in
        let row : Row = record { head = future next; type = ty } in
        let q = rows_before_lem work y work1 (s.r - 1) 1 e (omega (arith, room.ends, hr)) ly (row ∷ []) (spelled h.rest) (future-reads next ty hk ht) (rw back ends.2) in
        let f : u ≡ node (future next) ty end = future-told form next call h.tree c u call-bytes old call_length call_rows g ∙ ap (λ (i : ℕ). node (future next) i end) (sym ety) in
        let rows : to_come work1 s1.r ≡ map raw (spelled (u ∷ h.rest)) = ap (to_come work1) er ∙ q ∙ ap (λ (x : Tree). map raw (spelled (x ∷ h.rest))) (sym f) in
        end-behind form next left left work work1 frames s s1 h.all.frames_around h.all.trees h.tree u h.outer h.rest site h.all.search (el ∙ omega (arith, ends.0, n)) ed rows

    -- and the letter
    pub letter-sent : letter_from next call ≡ letter_of next c
    letter-sent = letter-told form next call h.tree c u call-bytes old call_length call_rows g

    pub result-sent : number 2 (drop 2 call) ≡ c.result
    result-sent = result-told form next call h.tree c u call-bytes old call_length call_rows g

    -- the whole is smaller by the call's rows but one
    pub smaller : size (top (around h.outer (u ∷ h.rest))) + old ≡ s.l + (row_count work - s.r) + 1
    smaller =
        let e = site-goes form next left work frames s false h.all.frames_around h.all.trees h.tree h.outer h.rest (Some c) u site h.all.search g in
        let x = send-smaller form next t c (top (around h.outer (u ∷ h.rest))) (ap (step form next) (sym h.all.whole) ∙ e) in
        omega (arith, x, whole-size form next left work frames s t h.all, many form next call h.tree c u call-bytes old call_length call_rows g)

  -- ALL OF IT
  pub calls-out : (work1 work2 work3 : List ℕ) (s1 e : Stand) (ty : ℕ) → ty ≡ number 2 (drop 2 call) → next < 4294967296 → ty < 65536 → s.l + 2 ≤ s.r → s1.l ≡ s.l - old → s1.r ≡ s.r - 1 → s1.d ≡ s.d - 1
      → work1 ≡ take (8 * (s.r - 1)) work ++ (write term_row (9 ∷ 0 ∷ ty ∷ next ∷ []) ++ drop (8 * (s.r - 1) + 8) work) → length work1 ≡ length work
      → Resumes left work1 work2 frames s1 e → work3 ≡ letter_from next call ++ drop (length call - 4) work2 → length work3 ≡ length work2 → 16 ≤ length call → length call ≡ 8 * old → CallsOut left work work3 frames s e old next
  calls-out work1 work2 work3 s1 e ty ety hk ht gap el er ed p1 n1 resumes p3 n3 long cl =
      let same : length work3 ≡ length work = n3 ∙ resumes.long ∙ n1 in
      let rc3 : row_count work3 ≡ row_count work2 = ap (λ (i : ℕ). i / 8) n3 in
      let rc2 : row_count work2 ≡ row_count work = ap (λ (i : ℕ). i / 8) (resumes.long ∙ n1) in
      let ll = letter-length next call long in
      let room2 = resumes.room in
      record {
        long = same;
        room = record { ends = omega (arith, rc3, room2.ends); few = omega (arith, rc3, room2.few); rows = omega (arith, rc3, room2.rows); left-long = omega (arith, rc3, room2.left-long); deep = omega (arith, rc3, room2.deep) };
        sent = λ form t h c u g n.
            let y = resumes.reached form next h.outer u h.rest (behind form t h c u g n work1 s1 ty ety hk ht (omega (arith, gap)) el er ed p1) in
            let w : Whole form next left work2 frames e (top (around h.outer (u ∷ h.rest))) = record { frames_around = y.frames_around; trees = y.trees; search = y.search; whole = ap top y.whole } in
            let size2 = whole-size form next left work2 frames e (top (around h.outer (u ∷ h.rest))) w in
            let far : length (letter_from next call) ≤ 8 * e.r = omega (arith, ll, cl, size2, smaller form t h c u g n, rc2, gap, room.ends, room2.ends, call_fits form t h c u g n) in
            let p : work3 ≡ letter_from next call ++ drop (length (letter_from next call)) work2 = p3 ∙ ap (λ (i : ℕ). letter_from next call ++ drop i work2) (sym ll) in
            let q : 8 * old - 4 ≡ length (letter_from next call) = omega (arith, ll, cl) in (
              lettered form next left work2 work3 (letter_from next call) frames e (top (around h.outer (u ∷ h.rest))) p far (omega (arith, room2.ends)) w,
              ap (take (8 * old - 4)) p ∙ take_at (letter_from next call) _ (8 * old - 4) (sym q) ∙ letter-sent form t h c u g n,
            );
      }

-- What the code asks for ------------------------------------------------------------------------------------------

pub record Ready-to-call (left frames : List ℕ) (s : Stand) (old : ℕ) : Type 0 where
  pub fits : old ≤ s.l
  pub two : 2 ≤ old
  pub deep : 0 < s.d
  pub shallow : s.d - 1 ≤ s.l - old
  pub length : length (take (8 * old) (drop (8 * (s.l - old)) left)) ≡ 8 * old

pub ready-to-call : (left work frames : List ℕ) (s : Stand) (old next : ℕ) → Room left work frames s → s.here ≡ false → AllBytes left → Calling left work frames s old next → Ready-to-call left frames s old
ready-to-call left work frames s old next room here bytes x =
    let call = take (8 * old) (drop (8 * (s.l - old)) left) in
    let fits = call_fits left work call frames s old next room here bytes refl x.form x.whole x.halted x.call x.made x.goes x.rows in
    let h = x.halted in
    let site = subst (λ (b : Bool). Site b h.all.frames_around h.all.trees h.tree h.outer h.rest) here h.site in
    let at = end-at x.form next left work frames s h.all.frames_around h.all.trees h.tree h.outer h.rest site h.all.search in
    let rows = end-rows x.form next left work frames s h.all.frames_around h.all.trees h.tree h.outer h.rest site h.all.search in
    record {
      fits = fits;
      two = call-two left work call frames s old next room here bytes refl x.form x.whole h x.call x.made x.goes x.rows;
      deep = at.1;
      shallow = omega (arith, at.2, rows.0, x.rows);
      length = call_length left work call frames s old next room here bytes refl x.form x.whole h x.call x.made x.goes x.rows;
    }

pub room-behind : (left work work1 frames : List ℕ) (s : Stand) (old : ℕ) → Room left work frames s → length work1 ≡ length work → 2 ≤ old → old ≤ s.l → 0 < s.r
    → Room left work1 frames (record { l = s.l - old; r = s.r - 1; d = s.d - 1; here = false })
room-behind left work work1 frames s old room n two fits positive =
    let rc : row_count work1 ≡ row_count work = ap (λ (i : ℕ). i / 8) n in
    record { ends = omega (arith, rc, room.ends); few = omega (arith, rc, room.few); rows = omega (arith, rc, room.rows, room.ends); left-long = omega (arith, rc, room.left-long, room.ends); deep = omega (arith, rc, room.deep, room.ends) }
