-- By whether a tree of the frame was passed.
use Prim.Native.Nat.{◌+◌}
use mathlib.Core.Path.{refl}
use native.Mathlib.Omega.{arith}
use borrow.Author.Tests.{lt-ltb, le-ltb}
use Rattle.search.specs.Kept.{first_kind}
use Rattle.search.proofs.first_kind.Goals as goal

pub returns-then-at-l : goal.returns-then-at-l
unfolding first_kind
returns-then-at-l c = rw (lt-ltb _ _ c.if-at-l.true) refl

pub returns : goal.returns
unfolding first_kind
returns c = rw (le-ltb (c.args.at + 1) c.args.l (omega arith)) refl
