-- What holds of a record at each moment: it is sound, its type table and the term's type are the program's, and the term is a value, or a rule
-- applies, or it awaits a call that is open under its type. Assumes nothing.
use Prim.Native.Nat.{ℕ}
use mathlib.Core.Path.{◌≡◌, ap, ◌∙◌}
use mathlib.Core.Bool.{true}
use mathlib.Core.List.{List}
use Rattle.std.specs.Prelude.{Option, Some}
use Rattle.meaning.specs.Bytes.{Limits}
use Rattle.meaning.specs.Types.{form_of, empty}
use Rattle.meaning.specs.Terms.{Tree, ty_of}
use Rattle.meaning.specs.Typing.{Typed}
use Rattle.meaning.specs.Paper.{no_arg, type_of, Has}
use Rattle.meaning.specs.Steps.{Call, go, step, value, Awaited, awaited}
use Rattle.meaning.specs.Records.{State, record_of, state_of, sound, listed}
use Rattle.meaning.proofs.Bytes.Records.{Small, Good, state-record, sound-record}
use Rattle.meaning.proofs.Steps.Progress.{Progress, done, moves, waits, progress, awaited-listed}
use Rattle.meaning.proofs.Entries.PaperTyped.{good-has}

-- "it is a value, or a rule applies, or it holds a call still open, under the same type, where the rules look"
pub data Moment (s : State) : Type 0 where
  a-value : value s.tree ≡ true → Moment s
  a-rule : (c : Option Call) (u : Tree) → step (form_of s.types) s.next s.tree ≡ go c u → Moment s
  a_call : (e : Awaited) → awaited s.tree ≡ Some e → listed s.calls e.number ≡ Some e.type → Moment s

good-moment : (m : Limits) (s : State) → Good m s → Moment s
good-moment m s g = told (progress (form_of s.types) s.next s.tree g.typed)
  where
    told : Progress (form_of s.types) s.next s.tree → Moment s
    told (done e) = a-value e
    told (moves c u e) = a-rule c u e
    told (waits e q) = a_call e q (awaited-listed (listed s.calls) s.tree e g.listed q)

-- of a program: its table of types and its type
pub record Of (types : List (List ℕ)) (p : ℕ) (s : State) : Type 0 where
  pub same-types : s.types ≡ types
  pub same-program : s.program ≡ p

-- of a record, under a table of types and the program's type
pub record Alive (m : Limits) (types : List (List ℕ)) (p : ℕ) (b : List ℕ) : Type 0 where
  pub is-sound : sound m b ≡ true
  pub same-types : (state_of m b).types ≡ types
  pub same-program : (state_of m b).program ≡ p
  pub typed : Typed (form_of (state_of m b).types) empty (state_of m b).tree
  pub of-type : ty_of (state_of m b).tree ≡ p
  pub has-type : Has (type_of (form_of types)) no_arg (state_of m b).tree (type_of (form_of types) p)
  pub moment : Moment (state_of m b)

-- and of a state, by its record
pub record Lives (m : Limits) (types : List (List ℕ)) (p : ℕ) (s : State) : Type 0 where
  pub shown : state_of m (record_of m s) ≡ s
  pub alive : Alive m types p (record_of m s)

pub lives-state : (m : Limits) → Small m → (types : List (List ℕ)) (p : ℕ) (s : State) → Good m s → Of types p s → Lives m types p s
lives-state m k types p s g o =
    let r = state-record m s k g in
    record {
      shown = r;
      alive = record {
        is-sound = sound-record m s k g;
        same-types = ap (λ (x : State). x.types) r ∙ o.same-types;
        same-program = ap (λ (x : State). x.program) r ∙ o.same-program;
        typed = rw r g.typed;
        of-type = rw r (g.program ∙ o.same-program);
        has-type = rw (r, ← o.same-types, ← o.same-program) (good-has m s g);
        moment = rw r (good-moment m s g);
      };
    }
