-- The future, the search behind it, the letter.
use Prim.Native.Nat.{ℕ, ◌*◌, ◌-◌}
use mathlib.Core.Path.{◌≡◌, refl, ap, sym, ◌∙◌, subst}
use mathlib.Core.Bool.{false}
use mathlib.Core.List.{List, ◌++◌}
use native.Mathlib.Omega.{arith}
use lib.ListN.{length, take, drop}
use Rattle.layout.specs.Rows.{board}
use Rattle.meaning.specs.Bytes.{rows_at}
use Rattle.meaning.proofs.Bytes.Layouts.{bytes_drop}
use Rattle.search.specs.Search.{Room, Resumes}
use Rattle.search.specs.declared.Stand.{Stand}
use Rattle.runs.specs.Going.{space, letter_from}
use Rattle.runs.proofs.PutBack.{record-long}
use Rattle.runs.proofs.GoingOn.{lent_rows, lent-space, rows_fit}
use Rattle.runs.proofs.CallOut.{ready-to-call, room-behind, calls-out}
use Rattle.runs.proofs.call_out.Goals as goal

pub call_type-requires : goal.call_type-requires
call_type-requires c = let y = ready-to-call (space (board c.args.m) c.args.kept.now) c.args.work.now c.args.frames.now c.args.s c.args.o.old c.args.o.next c.requires.1 c.requires.2 (bytes_drop (rows_at (board c.args.m)) c.args.kept.now (λ i. omega (arith, c.shared_slice_known-1.given i))) c.requires.6 in let pre = c.requires in (pre.0, y.fits, omega (arith, pre.4), y.two)

pub put_future-requires : goal.put_future-requires
put_future-requires c = let pre = c.requires in (omega (arith, pre.5), omega (arith, pre.1.ends))

pub slice_bounds-back_up-count : goal.slice_bounds-back_up-count
slice_bounds-back_up-count c = rows_fit (board c.args.m) c.args.kept.now c.rows_at-at.result c.rows_at-at.ensures c.requires.0

pub slice_bounds-back_up-start : goal.slice_bounds-back_up-start
slice_bounds-back_up-start c = rows_fit (board c.args.m) c.args.kept.now c.rows_at-at.result c.rows_at-at.ensures c.requires.0

pub overflow_sub-l : goal.overflow_sub-l
overflow_sub-l c = let y = ready-to-call (space (board c.args.m) c.args.kept.now) c.args.work.now c.args.frames.now c.args.s c.args.o.old c.args.o.next c.requires.1 c.requires.2 (bytes_drop (rows_at (board c.args.m)) c.args.kept.now (λ i. omega (arith, c.shared_slice_known-1.given i))) c.requires.6 in omega (arith, y.fits)

pub overflow_sub-r : goal.overflow_sub-r
overflow_sub-r c = omega (arith, c.requires.5)

pub overflow_sub-s : goal.overflow_sub-s
overflow_sub-s c = let y = ready-to-call (space (board c.args.m) c.args.kept.now) c.args.work.now c.args.frames.now c.args.s c.args.o.old c.args.o.next c.requires.1 c.requires.2 (bytes_drop (rows_at (board c.args.m)) c.args.kept.now (λ i. omega (arith, c.shared_slice_known-1.given i))) c.requires.6 in omega (arith, y.deep)

pub back_up-e-requires : goal.back_up-e-requires
back_up-e-requires c =
    let args = c.args in
    let pre = c.requires in
    let y = ready-to-call (space (board c.args.m) c.args.kept.now) c.args.work.now c.args.frames.now c.args.s c.args.o.old c.args.o.next c.requires.1 c.requires.2 (bytes_drop (rows_at (board c.args.m)) c.args.kept.now (λ i. omega (arith, c.shared_slice_known-1.given i))) c.requires.6 in
    let e = c.rows_at-at.ensures in
    let q = lent-space (board args.m) args.kept.now c.rows_at-at.result e (rows_fit (board args.m) args.kept.now c.rows_at-at.result e pre.0) in (
      subst (λ (x : List ℕ). Room x c.put_future.new.work args.frames.now (record { l = args.s.l - args.o.old; r = args.s.r - 1; d = args.s.d - 1; here = false })) (sym q)
          (room-behind (space (board args.m) args.kept.now) args.work.now c.put_future.new.work args.frames.now args.s args.o.old pre.1 c.put_future.auto.work y.two y.fits (omega (arith, pre.5))),
      omega (arith, pre.5),
      y.shallow,
    )

pub overflow_sub-p : goal.overflow_sub-p
overflow_sub-p c = let y = ready-to-call (space (board c.args.m) c.args.kept.now) c.args.work.now c.args.frames.now c.args.s c.args.o.old c.args.o.next c.requires.1 c.requires.2 (bytes_drop (rows_at (board c.args.m)) c.args.kept.now (λ i. omega (arith, c.shared_slice_known-1.given i))) c.requires.6 in omega (arith, y.fits)

pub overflow_mul-p : goal.overflow_mul-p
overflow_mul-p c = let y = ready-to-call (space (board c.args.m) c.args.kept.now) c.args.work.now c.args.frames.now c.args.s c.args.o.old c.args.o.next c.requires.1 c.requires.2 (bytes_drop (rows_at (board c.args.m)) c.args.kept.now (λ i. omega (arith, c.shared_slice_known-1.given i))) c.requires.6 in omega (arith, y.fits, c.requires.1.rows)

pub overflow_add-p : goal.overflow_add-p
overflow_add-p c = let y = ready-to-call (space (board c.args.m) c.args.kept.now) c.args.work.now c.args.frames.now c.args.s c.args.o.old c.args.o.next c.requires.1 c.requires.2 (bytes_drop (rows_at (board c.args.m)) c.args.kept.now (λ i. omega (arith, c.shared_slice_known-1.given i))) c.requires.6 in omega (arith, y.fits, c.rows_at-at.ensures, c.requires.0, c.requires.4, record-long (board c.args.m))

pub overflow_mul-q : goal.overflow_mul-q
overflow_mul-q c = let y = ready-to-call (space (board c.args.m) c.args.kept.now) c.args.work.now c.args.frames.now c.args.s c.args.o.old c.args.o.next c.requires.1 c.requires.2 (bytes_drop (rows_at (board c.args.m)) c.args.kept.now (λ i. omega (arith, c.shared_slice_known-1.given i))) c.requires.6 in omega (arith, y.fits, c.requires.1.rows)

pub overflow_add-q : goal.overflow_add-q
overflow_add-q c = let y = ready-to-call (space (board c.args.m) c.args.kept.now) c.args.work.now c.args.frames.now c.args.s c.args.o.old c.args.o.next c.requires.1 c.requires.2 (bytes_drop (rows_at (board c.args.m)) c.args.kept.now (λ i. omega (arith, c.shared_slice_known-1.given i))) c.requires.6 in omega (arith, y.fits, c.rows_at-at.ensures, c.requires.0, c.requires.4, record-long (board c.args.m))

pub slice_bounds-write_letter-end : goal.slice_bounds-write_letter-end
slice_bounds-write_letter-end c = let y = ready-to-call (space (board c.args.m) c.args.kept.now) c.args.work.now c.args.frames.now c.args.s c.args.o.old c.args.o.next c.requires.1 c.requires.2 (bytes_drop (rows_at (board c.args.m)) c.args.kept.now (λ i. omega (arith, c.shared_slice_known-1.given i))) c.requires.6 in omega (arith, y.fits, c.rows_at-at.ensures, c.requires.0, c.requires.4, record-long (board c.args.m))

pub write_letter-requires : goal.write_letter-requires
write_letter-requires c =
    let args = c.args in
    let pre = c.requires in
    let y = ready-to-call (space (board c.args.m) c.args.kept.now) c.args.work.now c.args.frames.now c.args.s c.args.o.old c.args.o.next c.requires.1 c.requires.2 (bytes_drop (rows_at (board c.args.m)) c.args.kept.now (λ i. omega (arith, c.shared_slice_known-1.given i))) c.requires.6 in
    let q = ap length (lent_rows (board args.m) args.kept.now c.rows_at-at.result (8 * (args.s.l - args.o.old)) (8 * args.o.old) c.rows_at-at.ensures) ∙ y.length in
    (omega (arith, q, y.two), omega (arith, q, y.fits, pre.3, pre.4), omega (arith, q, y.fits, pre.5, pre.1.ends, c.back_up-e.ensures.long, c.put_future.auto.work))

pub returns : goal.returns
returns c =
    let args = c.args in
    let pre = c.requires in
    let y = ready-to-call (space (board c.args.m) c.args.kept.now) c.args.work.now c.args.frames.now c.args.s c.args.o.old c.args.o.next c.requires.1 c.requires.2 (bytes_drop (rows_at (board c.args.m)) c.args.kept.now (λ i. omega (arith, c.shared_slice_known-1.given i))) c.requires.6 in
    let left = space (board args.m) args.kept.now in
    let e = c.rows_at-at.ensures in
    let q = lent-space (board args.m) args.kept.now c.rows_at-at.result e (rows_fit (board args.m) args.kept.now c.rows_at-at.result e pre.0) in
    let call = take (8 * args.o.old) (drop (8 * (args.s.l - args.o.old)) left) in
    let ec = lent_rows (board args.m) args.kept.now c.rows_at-at.result (8 * (args.s.l - args.o.old)) (8 * args.o.old) e in
    let ly : length call ≡ 8 * args.o.old = y.length in
    let bu = c.back_up-e in
    let s1 : Stand = record { l = args.s.l - args.o.old; r = args.s.r - 1; d = args.s.d - 1; here = false } in
    calls-out left args.work.now call args.frames.now args.s args.o.old args.o.next pre.1 pre.2 (bytes_drop (rows_at (board args.m)) args.kept.now (λ i. omega (arith, c.shared_slice_known-1.given i))) refl
    c.put_future.new.work bu.new.right c.write_letter.new.work s1 bu.result c.call_type.result c.call_type.ensures pre.7 (omega arith) pre.5 refl refl refl
    c.put_future.ensures c.put_future.auto.work (subst (λ (x : List ℕ). Resumes x c.put_future.new.work bu.new.right args.frames.now s1 bu.result) q bu.ensures)
    (c.write_letter.ensures ∙ ap (λ (x : List ℕ). letter_from args.o.next x ++ drop (length x - 4) bu.new.right) ec) c.write_letter.auto.work (omega (arith, ly, y.two)) ly
