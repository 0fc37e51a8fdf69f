-- Rows that no name touches are passed: where the trees owed end stays, and so does what a pass that writes keeps. Assumes nothing.
use Prim.Native.Nat.{ℕ, ◌+◌, ◌-◌, ◌≤◌, ◌<◌}
use mathlib.Core.Path.{◌≡◌, refl, ap, sym, ◌∙◌, subst}
use mathlib.Core.Bool.{Bool, true, false, cond}
use mathlib.Core.List.{List, [], map}
use Rattle.std.specs.Prelude.{None, Some}
use native.Mathlib.Omega.{arith}
use lib.Dec.{eqb}
use lib.ListN.{length, get_or}
use Rattle.layout.specs.Rows.{numbers}
use Rattle.layout.specs.declared.Row.{Row as Line}
use Rattle.meaning.specs.Types.{Form}
use Rattle.meaning.specs.Terms.{Head, arity, code, n_of, word_of, head_from, row_of, sizes, grove}
use Rattle.meaning.proofs.Trees.Tests.{none-some}
use Rattle.meaning.proofs.Trees.ByKind.{head-is}
use Rattle.terms.proofs.Scan.{owed-some}
use Rattle.put.specs.Put.{pick, mark, binds, chosen, Ready, Owing, Skips, still, past, StandsAlways, Turns}
use Rattle.put.specs.declared.Scan.{Scan}
use Rattle.put.proofs.Loops.{owed-fits, owed-on}
use Rattle.put.proofs.Bare.{bare-other}
use Rattle.put.proofs.Once.{Onward, onward-stands}

-- a name's row has no children
pub chosen-leaf : (names : List ℕ) (h : Head) (m j : ℕ) → chosen names h m ≡ Some j → arity h ≡ 0
unfolding chosen head_from
chosen-leaf names h m j e = by (eqb (code h) 5) refl e
  where
    by : (b : Bool) → eqb (code h) 5 ≡ b → cond b (pick names m (word_of h)) None ≡ Some j → arity h ≡ 0
    by true p e = ap arity (head-is 5 h p)
    by false p e = absurd (none-some j e)

-- and it hides nothing
pub chosen-bare : (form : ℕ → Form) (names : List ℕ) (h : Head) (ty m j : ℕ) → chosen names h m ≡ Some j → mark (binds form h ty) names 0 ≡ 0
unfolding chosen
chosen-bare form names h ty m j e = by (eqb (code h) 5) refl e
  where
    by : (b : Bool) → eqb (code h) 5 ≡ b → cond b (pick names m (word_of h)) None ≡ Some j → mark (binds form h ty) names 0 ≡ 0
    by true p e = rw (head-is 5 h p) (bare-other form names 5 (n_of h) (word_of h) ty (λ q. omega arith) (λ q. omega arith))
    by false p e = absurd (none-some j e)

module _ {P : Line → Type 0} {l : List (List ℕ)} where
  -- one row more
  pub skips-past : {i owed j n : ℕ} → Skips P l i owed j n → 0 < n → (r : Line) → get_or l j [] ≡ numbers r → P r → {c : ℕ} → c ≡ arity (row_of (numbers r)).head → Skips P l i owed (j + 1) (n - 1 + c)
  skips-past {i} {owed} {j} {n} s h r g k e = subst (λ (a : ℕ). Skips P l i owed (j + 1) (n - 1 + a)) (sym e) (past s h r g k)

  -- and others behind them
  pub skips-on : {i owed j n k m : ℕ} → Skips P l i owed j n → Skips P l j n k m → Skips P l i owed k m
  skips-on s still = s
  skips-on s (past t h r g k) = past (skips-on s t) h r g k

  pub skips-up : {i owed j n : ℕ} → Skips P l i owed j n → i ≤ j
  skips-up still = omega arith
  skips-up (past s h r g k) = omega (arith, skips-up s)

  -- of which another thing holds
  pub skips-as : {Q : Line → Type 0} → ((r : Line) → P r → Q r) → {i owed j n : ℕ} → Skips P l i owed j n → Skips Q l i owed j n
  skips-as f still = still
  skips-as f (past s h r g k) = past (skips-as f s) h r g (f r k)

  module _ {at : Scan} (o : Owing l at) where
    pub skips-ends : {j n : ℕ} → Skips P l at.i at.owed j n → j + sizes (grove (map row_of l) j n) ≡ at.i + sizes (grove (map row_of l) at.i at.owed)
    skips-ends still = refl
    skips-ends (past {j} {n} s h r g k) =
        let e = skips-ends s in
        let z : n ≡ 0 → ⊥ = λ q. omega arith in
        sym (owed-on l j n z (numbers r) (omega (arith, e, o.within, owed-some (map row_of l) j n z)) g) ∙ e

    pub skips-owing : {j n : ℕ} → Skips P l at.i at.owed j n → Owing l (record { i = j; owed = n })
    skips-owing s = record { few = o.few; within = omega (arith, skips-ends s, o.within) }

    pub skips-few : {j n : ℕ} → Skips P l at.i at.owed j n → (j ≤ 2048) × (n ≤ 2048)
    skips-few {j} {n} s = let e = skips-ends s in (omega (arith, e, o.few, o.within), omega (arith, e, o.few, o.within, owed-fits (map row_of l) n j))

    pub skips-in : {j n : ℕ} → Skips P l at.i at.owed j n → 0 < n → j < length l
    skips-in {j} {n} s h = omega (arith, skips-ends s, o.within, owed-some (map row_of l) j n (λ q. omega arith))

-- what a pass keeps
module _ {S : Type 0} {holds : S → List (List ℕ) → Type 0} {room loan : S → ℕ} {l : List (List ℕ)} {body : ℕ} {names bounds : List ℕ} (ready : Ready l body names bounds) {form : ℕ → Form} {from : ℕ} {s₀ s : S} where
  pub onward-skips : {i owed j n : ℕ} → Skips (StandsAlways names bounds) l i owed j n → Onward holds room loan form l body names bounds owed i from s₀ s → Onward holds room loan form l body names bounds n j from s₀ s
  unfolding Turns
  onward-skips still o = o
  onward-skips (past k h r g t) o = onward-stands ready (onward-skips k o) h g (t form).0 refl (t form).1
