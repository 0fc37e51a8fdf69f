-- The row is copied, its number written.
use Prim.Native.Nat.{ℕ}
use mathlib.Core.Path.{refl, ap, ◌∙◌}
use mathlib.Core.List.{List}
use lib.ListN.{set}
use Rattle.meaning.specs.Terms.{arity, row_of}
use Rattle.search.specs.Kept.{copied, entered_number, moved}
use Rattle.search.proofs.enter.Goals as goal

pub returns : goal.returns
returns c =
    let args = c.args in
    let n = c.children-n.ensures.0 ∙ ap (λ (x : List ℕ). arity (row_of x).head) c.row_at.ensures in
    record {
      bytes = unfold copied in c.copy_row.ensures;
      numbers = ap (set args.frames.now args.s.d) (c.entered_number.ensures ∙ ap (entered_number args.s.l) n);
      few = rw n at c.children-n.ensures.1;
      stand = unfold moved in refl;
    }
