-- A call sent: its letter and zeros in the work buffer, its future in the record, its entry in the list. Assumes nothing.
use Prim.Native.Nat.{ℕ, suc, ◌+◌, ◌*◌, ◌-◌, ◌≤◌}
use mathlib.Core.Path.{◌≡◌, refl, ap, sym, ◌∙◌}
use mathlib.Core.Bool.{false}
use mathlib.Core.List.{List, [], ◌∷◌, ◌++◌, append-nil}
use native.Mathlib.Omega.{arith}
use lib.ListN.{length, take, drop, replicate, length-map, length-take, drop_of_length-le}
use Rattle.meaning.specs.Bytes.{Limits, number, padded, entry_row, calls_at}
use Rattle.meaning.specs.Terms.{top}
use Rattle.meaning.specs.Records.{Entry, record_of, state_of, open_count, entries_in, entry_of}
use Rattle.meaning.specs.Entries.{sent, stepped, letter_of}
use Rattle.meaning.proofs.Bytes.Layouts.{AllBytes, length-reads}
use Rattle.open.specs.Open.{opened, Lists}
use Rattle.open.specs.declared.entries.OpenList.{OpenList}
use Rattle.keep.specs.Keep.{recalled, Roomy, CallsRenewed}
use Rattle.search.specs.Frames.{around}
use Rattle.search.specs.Kept.{row_count}
use Rattle.search.specs.Search.{Room}
use Rattle.search.specs.declared.Stand.{Stand}
use Rattle.runs.specs.Sites.{CallsOut, Calling}
use Rattle.runs.specs.Going.{space, PutBack}
use Rattle.runs.specs.Loops.{SentOff}
use Rattle.runs.proofs.CallOut.{whole-size, result-sent, smaller, ready-to-call}

padded-cleared : (work x letter : List ℕ) (n : ℕ) → n ≤ length work → take n work ≡ letter → x ≡ take n work ++ (replicate (length work - n) 0 ++ drop (length work) work) → x ≡ padded (length work) letter
unfolding padded
padded-cleared work x letter n h e q =
    let l : length letter ≡ n = ap length (sym e) ∙ length-take n work ∙ omega arith in
    let d : drop (length work) work ≡ [] = drop_of_length-le work {i = length work} (omega arith) in
    q ∙ rw (d, append-nil {A = ℕ} (replicate (length work - n) 0), e, l) refl

-- how long the list is
pub calls_count : (m : Limits) (kept : List ℕ) → length (state_of m kept).calls ≡ open_count kept
unfolding state_of entries_in
calls_count m kept = length-map (entries_in m kept) entry_of ∙ length-reads entry_row (open_count kept) (drop (calls_at m) kept)

-- what the code asks for on the way
pub record Fitting (m : Limits) (work1 : List ℕ) (s e : Stand) (old : ℕ) : Type 0 where
  pub fits : old ≤ s.l
  pub two : 2 ≤ old
  pub total : e.l + (row_count work1 - e.r) ≤ m.rows

pub fitting : (m : Limits) (left work work1 frames : List ℕ) (s e : Stand) (old next : ℕ) → Room left work frames s → s.here ≡ false → AllBytes left → s.l + (row_count work - s.r) ≤ m.rows → Calling left work frames s old next
    → CallsOut left work work1 frames s e old next → Fitting m work1 s e old
fitting m left work work1 frames s e old next room here bytes h x out =
    let call = take (8 * old) (drop (8 * (s.l - old)) left) in
    let y = ready-to-call left work frames s old next room here bytes x in
    let new = top (around x.halted.outer (x.made ∷ x.halted.rest)) in
    let z = whole-size x.form next left work1 frames e new (out.sent x.form x.whole x.halted x.call x.made x.goes x.rows).0 in
    let k = smaller left work call frames s old next room here bytes refl x.form x.whole x.halted x.call x.made x.goes x.rows in
    record { fits = y.fits; two = y.two; total = omega (arith, z, k, y.two) }

pub sent-off : (m : Limits) (kept kept1 kept2 work work1 work2 frames : List ℕ) (s e : Stand) (old next ty : ℕ) (list list' : OpenList)
    → Room (space m kept) work frames s → s.here ≡ false → AllBytes (space m kept) → ty ≡ number 2 (drop 2 (take (8 * old) (drop (8 * (s.l - old)) (space m kept))))
    → CallsOut (space m kept) work work1 frames s e old next → e.l + (row_count work1 - e.r) ≤ m.rows → PutBack m kept kept1 work1 e
    → Lists list (state_of m kept).calls → Lists list' (opened list ++ (record { number = next; type = ty } ∷ [])) → ((es : List Entry) → Lists list' es → CallsRenewed m kept1 kept2 es (next + 1))
    → 8 * old - 4 ≤ length work1 → work2 ≡ take (8 * old - 4) work1 ++ (replicate (length work1 - (8 * old - 4)) 0 ++ drop (length work1) work1)
    → SentOff m kept kept2 work work2 frames s old next
unfolding recalled sent stepped
sent-off m kept kept1 kept2 work work1 work2 frames s e old next ty list list' room here bytes ety out fits back l l' renew few clear form from t h c u fr nx cl g n =
    let left = space m kept in
    let call = take (8 * old) (drop (8 * (s.l - old)) left) in
    let new = top (around h.outer (u ∷ h.rest)) in
    let (w, letter) = out.sent form t h c u g n in
    let z = whole-size form next left work1 frames e new w in
    let k1 : kept1 ≡ record_of m (stepped from new) = back form next frames from new fr w in
    let tr : ty ≡ c.result = ety ∙ result-sent left work call frames s old next room here bytes refl form t h c u g n in
    let es = from.calls ++ (record { number = next; type = c.result } ∷ []) in
    let q : opened list ++ (record { number = next; type = ty } ∷ []) ≡ es = cc (l.entries, cl, tr) in
    let li : Lists list' es = record { entries = l'.entries ∙ q; count = l'.count ∙ ap length q } in
    let roomy : Roomy m (stepped from new) = record { types = fr.roomy.types; calls = fr.roomy.calls; rows = omega (arith, z) } in
    let k2 = renew es li (stepped from new) roomy k1 in
    let state : recalled (stepped from new) es (next + 1) ≡ sent from c new =
    λ i. record { types = from.types; tree = new; calls = from.calls ++ (record { number = sym nx i; type = c.result } ∷ []); next = nexts i; program = from.program } in
    (k2 ∙ ap (record_of m) state, padded-cleared work1 work2 (letter_of next c) (8 * old - 4) few letter clear ∙ ap (λ (i : ℕ). padded i (letter_of next c)) out.long)
  where
    nexts : next + 1 ≡ suc from.next
    nexts = omega (arith, nx)
