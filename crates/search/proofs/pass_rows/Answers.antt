-- The rows are copied, the frame's number is written.
use Prim.Native.Nat.{ℕ, ◌+◌, ◌-◌}
use mathlib.Core.Path.{◌≡◌, sym, ap, ◌∙◌}
use mathlib.Core.Bool.{false}
use native.Mathlib.Omega.{arith}
use lib.ListN.{set}
use Rattle.search.specs.Kept.{copied, moved}
use Rattle.search.specs.declared.Stand.{Stand}
use Rattle.search.proofs.pass_rows.Goals as goal

stood : (s : Stand) (m n : ℕ) → m ≡ n → record { l = s.l + m; r = s.r + m; d = s.d; here = false } ≡ moved s n 0
unfolding moved
stood s m n e = let z : s.d ≡ s.d + 0 = omega arith in cc (e, z)

pub returns : goal.returns
returns c =
    let args = c.args in
    let n = c.requires.1 in
    record {
      bytes = c.copy_rows.ensures ∙ ap (copied args.left.now args.s.l args.right.now args.s.r) (sym n);
      numbers = ap (set args.frames.now (args.s.d - 1)) c.passed_number.ensures;
      stand = stood args.s args.n _ (sym n);
    }
