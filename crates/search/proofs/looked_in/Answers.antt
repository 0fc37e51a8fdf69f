-- By the first tree of the frame, which stands at the search or behind the frame's row.
use Prim.Native.Nat.{ℕ, ◌*◌}
use mathlib.Core.Path.{ap, ◌∙◌}
use mathlib.Core.List.{List}
use Rattle.meaning.specs.Terms.{arity, row_of}
use Rattle.search.proofs.Sights.{kind-byte, sees-first, sees-later}
use Rattle.search.proofs.looked_in.Goals as goal

pub returns-then-a-o : goal.returns-then-a-o
returns-then-a-o c =
    let args = c.args in
    let row_at = c.row_at-f in
    let children = c.children-a in
    sees-first args.left.now args.at args.right.now args.r args.o row_at.result.kind children.result c.looks.result
    (kind-byte row_at.result args.left.now (8 * args.at) row_at.ensures) (children.ensures.0 ∙ ap (λ (x : List ℕ). arity (row_of x).head) row_at.ensures)
    c.if-a-o.true c.looks.ensures

pub returns : goal.returns
returns c =
    let args = c.args in
    let row_at = c.row_at-f in
    let children = c.children-a in
    sees-later args.left.now args.at args.right.now args.r args.o row_at.result.kind children.result c.looks-2.result
    (kind-byte row_at.result args.left.now (8 * args.at) row_at.ensures) (children.ensures.0 ∙ ap (λ (x : List ℕ). arity (row_of x).head) row_at.ensures)
    (rw (c.children-a.ensures.0 ∙ ap (λ (x : List ℕ). arity (row_of x).head) c.row_at-f.ensures) c.requires.3) c.if-a-o.false c.looks-2.ensures
