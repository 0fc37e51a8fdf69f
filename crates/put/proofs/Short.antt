-- A body with names put is not too long to count. Assumes nothing.
use Prim.Native.Nat.{ℕ, ◌+◌, ◌*◌, ◌-◌, ◌≤◌}
use mathlib.Core.List.{List, [], ◌∷◌}
use Rattle.std.specs.Prelude.{Option, None, Some}
use native.Mathlib.Omega.{arith}
use lib.ListN.{length, get_or, drop, length-append, length-take, length-drop}
use Rattle.meaning.specs.Types.{Form}
use Rattle.meaning.specs.Terms.{row_of}
use Rattle.put.specs.Put.{standing, rows_for, chosen, after, run, arg_rows, put_rows}

module _ (form : ℕ → Form) (ys : List ℕ) (args : ℕ → List (List ℕ)) (short : (j : ℕ) → length (args j) ≤ 2048) where
  row-short : (o : Option ℕ) (r : List ℕ) → length (rows_for args o r) ≤ 2048
  unfolding rows_for
  row-short None r = omega arith
  row-short (Some j) r = short j

  run_short : (rs : List (List ℕ)) (ms : List ℕ) → length (run form ys args rs ms) ≤ 2048 * length rs
  unfolding run
  run_short [] ms = omega arith
  run_short (r ∷ rs) [] = omega arith
  run_short (r ∷ rs) (m ∷ ms) =
      let h = row-short (chosen ys (row_of r).head m) r in
      let k = run_short rs (after form ys (row_of r) m ms) in
      omega (arith, length-append (rows_for args (chosen ys (row_of r).head m) r) (run form ys args rs (after form ys (row_of r) m ms)), h, k)

pub put-short : (form : ℕ → Form) (l : List (List ℕ)) (body : ℕ) (names bounds : List ℕ) → length l ≤ 2048 → length (put_rows form l body names bounds) ≤ 4194304
unfolding put_rows
put-short form l body names bounds h =
    let k = run_short form names (arg_rows l bounds) (λ j. part-short (get_or bounds j 0) (get_or bounds (j + 1) 0)) (drop body l) (0 ∷ []) in
    omega (arith, k, length-drop body l, h)
  where
    part-short : (a b : ℕ) → length (standing l a b) ≤ 2048
    part-short a b = omega (arith, length-take (b - a) (drop a l), length-drop a l, h)
