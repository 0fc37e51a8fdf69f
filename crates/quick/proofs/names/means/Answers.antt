-- The loop's invariant: the name means from entry j on what it means in the whole scope, and entry j is of its chain. Assumes nothing.
use Prim.Native.Nat.{ℕ, ◌%◌}
use mathlib.Core.Path.{◌≡◌, sym, ap, ◌∙◌}
use native.Mathlib.Omega.{arith}
use Rattle.meaning.specs.Typing.{given}
use Rattle.std.specs.Prelude.{Option}
use lib.ListN.{get_or}
use Rattle.quick.specs.Names.{name_in}
use Rattle.quick.proofs.Chains.{head-own, link-own, scope-head, scope-link, scope-none, own_name}
use Rattle.quick.proofs.names.means.Goals as goal

pub bounds-heads-x : goal.bounds-heads-x
bounds-heads-x c = omega (arith, c.requires.1.chains)

pub loop-j-init : goal.loop-j-init
loop-j-init c =
    let args = c.args in
    let es = args.bound.now in
    let hs = args.heads.now in
    let w = c.wide-j.ensures in
    λ b ch. rw w (omega (arith, ch.heads (args.x % 256) (omega arith)), scope-head es hs b ch args.x, λ q. head-own es hs b ch (args.x % 256) (omega arith) q)

pub returns-then-word_of-x : goal.returns-then-word_of-x
unfolding given
returns-then-word_of-x c =
    (
    let args = c.args in
    let loop = c.loop-j in
    let es = args.bound.now in
    λ b ch.
    let z = loop.invariant b ch in
    let own : name_in (get_or es loop.j 0) ≡ args.x = omega (arith, c.if-word_of-x.true) in
    rw c.type_in.ensures (sym (ap (λ (o : Option ℕ). given o args.t) (z.1 ∙ own_name es loop.j args.x (omega arith) own))))

pub loop-j-smaller : goal.loop-j-smaller
loop-j-smaller c =
    let args = c.args in
    let loop = c.loop-j in
    let pre = c.requires in
    let z = loop.invariant pre.0 pre.1 in
    omega (arith, c.wide-j-in-loop-j.ensures, c.link_in.ensures, pre.1.links loop.j z.0 (omega arith))

pub loop-j-preserved : goal.loop-j-preserved
loop-j-preserved c =
    let args = c.args in
    let loop = c.loop-j in
    let es = args.bound.now in
    let hs = args.heads.now in
    λ b ch.
    let z = loop.invariant b ch in
    let own = z.2 (omega arith) in
    let w = c.wide-j-in-loop-j.ensures ∙ c.link_in.ensures in
    let other : name_in (get_or es loop.j 0) ≡ args.x → ⊥ = λ q. c.if-word_of-x.false (omega arith) in
    rw w (omega (arith, ch.links loop.j z.0 (omega arith)), z.1 ∙ scope-link es hs b ch loop.j args.x z.0 (omega arith) own other, λ q. link-own es hs b ch loop.j (args.x % 256) z.0 (omega arith) own q)

pub returns : goal.returns
unfolding given
returns c =
    (
    let args = c.args in
    let loop = c.loop-j in
    λ b ch. sym (ap (λ (o : Option ℕ). given o args.t) ((loop.invariant b ch).1 ∙ scope-none args.bound.now loop.j args.x (omega arith))))
