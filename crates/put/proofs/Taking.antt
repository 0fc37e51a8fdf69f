-- A pass that hands its rows to a sink: those taken and those left are all. Assumes nothing.
use Prim.Native.Nat.{ℕ, ◌+◌, ◌-◌, ◌≤◌, ◌<◌}
use mathlib.Core.Path.{◌≡◌, refl, ap, sym, ◌∙◌}
use mathlib.Core.List.{List, [], ◌++◌, append_assoc, append-nil}
use native.Mathlib.Omega.{arith}
use lib.ListN.{length, get_or, take, drop, length-append}
use lib.Seq.{take_at, take_all}
use Rattle.std.specs.Prelude.{true, Option, Some, None, IfSome, IsSome, Result, Ok, Err, IfOk, is_ok}
use Rattle.meaning.specs.Types.{Form}
use Rattle.meaning.specs.Terms.{row_of}
use Rattle.put.specs.Put.{standing, put_rows, Descends, Ready, first_row, end_row, chosen}
use Rattle.put.specs.Sinks.{Taken}
use Rattle.put.proofs.Loops.{Going, left, standing-length, going_start, written_start, going-behind, going-fits, going_next, copied-span, none_left, turned}

pub record Taking {S : Type 0} (holds : S → List (List ℕ) → Type 0) (room loan : S → ℕ) (form : ℕ → Form) (l : List (List ℕ)) (body : ℕ) (names bounds masks : List ℕ) (owed i : ℕ) (sink sink' : S) : Type 0 where
  pub taken : List (List ℕ)
  pub held : holds sink' taken
  pub rows : taken ++ left form l names bounds masks owed i ≡ put_rows form l body names bounds
  pub going : Going form l body names bounds masks owed i (length taken)
  pub room_left : room sink' + length taken ≡ room sink
  pub same_loan : loan sink' ≡ loan sink

module _ {S : Type 0} (holds : S → List (List ℕ) → Type 0) (room loan : S → ℕ) {l : List (List ℕ)} {body : ℕ} {names bounds : List ℕ} (ready : Ready l body names bounds) where
  pub taking-start : (form : ℕ → Form) (masks : List ℕ) (s : S) → holds s [] → length masks ≡ 2048 → get_or masks 0 0 ≡ 0 → Taking holds room loan form l body names bounds masks 1 body s s
  taking-start form masks s h k z =
      record { taken = []; held = h; rows = written_start ready form masks [] z; going = going_start ready form masks k z; room_left = omega arith; same_loan = refl }

  module _ {form : ℕ → Form} {masks : List ℕ} {owed i : ℕ} {s₀ s : S} (t : Taking holds room loan form l body names bounds masks owed i s₀ s) where
    pub taking-end : owed ≡ 0 → Taken holds room loan form l body names bounds s₀ s i
    taking-end z =
        let e : t.taken ≡ put_rows form l body names bounds = sym (append-nil t.taken) ∙ ap (λ (x : List (List ℕ)). t.taken ++ x) (sym (none_left ready t.going z)) ∙ t.rows in
        record {
          behind = going-behind ready t.going z;
          rows = rw e at t.held;
          left = omega (arith, t.room_left, ap length e);
          same_loan = t.same_loan;
        }

    module _ (some-owed : 0 < owed) {r : List ℕ} (g : get_or l i [] ≡ r) {masks' : List ℕ} {owed' f u : ℕ} (d : Descends form names (row_of r) masks masks' owed owed')
        (fe : f ≡ first_row bounds i (chosen names (row_of r).head (get_or masks (owed - 1) 0))) (te : u ≡ end_row bounds i (chosen names (row_of r).head (get_or masks (owed - 1) 0))) where
      pub taking-span : (f ≤ u) × (u ≤ length l)
      taking-span = copied-span ready t.going some-owed g d fe te

      pub taking-room : length (put_rows form l body names bounds) ≤ room s₀ → u - f ≤ room s
      taking-room h = omega (arith, going-fits ready t.going some-owed g d fe te, t.room_left)

      pub taking-next : (s' : S) → holds s' (t.taken ++ standing l f u) × (room s' + (u - f) ≡ room s) → loan s' ≡ loan s → Taking holds room loan form l body names bounds masks' owed' (i + 1) s₀ s'
      taking-next s' h lo =
          let n : length (t.taken ++ standing l f u) ≡ length t.taken + (u - f) = length-append t.taken (standing l f u) ∙ ap (λ (x : ℕ). length t.taken + x) (standing-length l f u taking-span.0 taking-span.1) in
          record {
            taken = t.taken ++ standing l f u;
            held = h.0;
            rows = append_assoc t.taken (standing l f u) (left form l names bounds masks' owed' (i + 1)) ∙ ap (λ (x : List (List ℕ)). t.taken ++ x) (sym (turned ready t.going some-owed g d fe te)) ∙ t.rows;
            going = rw n (going_next ready t.going some-owed g d fe te);
            room_left = omega (arith, n, h.1, t.room_left);
            same_loan = lo ∙ t.same_loan;
          }

-- a span written behind the rows that a table holds
pub held-more : (to to' l rows : List (List ℕ)) (w f u : ℕ) → (w ≡ length l) × (w ≤ length to) × (take w to ≡ l) → f ≤ u → u ≤ length rows → u - f ≤ length to - w → length to' ≡ length to
    → to' ≡ take w to ++ (take (u - f) (drop f rows) ++ drop (w + (u - f)) to)
    → ((w + (u - f) ≡ length (l ++ standing rows f u)) × (w + (u - f) ≤ length to') × (take (w + (u - f)) to' ≡ l ++ standing rows f u)) × (length to' - (w + (u - f)) + (u - f) ≡ length to - w)
held-more to to' l rows w f u h p q room same e =
    let B = standing rows f u in
    let C = drop (w + (u - f)) to in
    let lb : length B ≡ u - f = standing-length rows f u p q in
    let lab : length (l ++ B) ≡ w + (u - f) = length-append l B ∙ omega (arith, h.0, lb) in
    let z : to' ≡ (l ++ B) ++ C = e ∙ ap (λ (x : List (List ℕ)). x ++ (B ++ C)) h.2 ∙ sym (append_assoc l B C) in
    ((sym lab, omega (arith, same, h.1), ap (take (w + (u - f))) z ∙ take_at (l ++ B) C (w + (u - f)) lab), omega (arith, same, h.1))

-- a table that holds as many rows as it has room for
pub full-table : (to l : List (List ℕ)) (w n : ℕ) → (w ≡ length l) × (w ≤ length to) × (take w to ≡ l) → length to - w + length l ≡ n → n ≡ length l → to ≡ l
full-table to l w n h r e = sym (take_all w to (omega (arith, h.0, h.1))) ∙ h.2

-- what holds of a value holds of one
pub if-some : {P : ℕ → Type 0} (o : Option ℕ) → IsSome o → IfSome o P → (e : ℕ) × P e
if-some (Some e) s h = (e, h)
if-some None s h = cc

pub if-ok : {E : Type 0} {P : ℕ → Type 0} (r : Result ℕ E) → is_ok r ≡ true → IfOk r P → (e : ℕ) × P e
if-ok (Ok e) s h = (e, h)
if-ok (Err x) s h = cc
