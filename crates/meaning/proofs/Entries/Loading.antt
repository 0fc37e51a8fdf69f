-- Load: a file is accepted exactly if it is of legal form and well typed; of legal form and not well typed, it is
-- refused at the first row whose own rule fails. Assumes nothing.
use Prim.Native.Nat.{ℕ}
use mathlib.Core.Path.{◌≡◌, refl, ap, ◌∙◌}
use mathlib.Core.Logic.{◌↔◌}
use mathlib.Core.List.{List, []}
use Rattle.std.specs.Prelude.{Option, None, Some}
use lib.ListN.{length}
use Rattle.meaning.specs.Bytes.{Limits, record_bytes}
use Rattle.meaning.specs.Types.{form_of, empty}
use Rattle.meaning.specs.Typing.{Typed, first_bad}
use Rattle.meaning.specs.Entries.{refuse, load, load_verdict, LegalFile, file_types, file_tree}
use Rattle.meaning.specs.declared.Refusal.{Refusal}
use Rattle.meaning.specs.declared.Refusal.TheVariants.{Typing}
use Rattle.meaning.specs.Answers.{Verdict}
use Rattle.std.specs.Prelude.{Ok, Err}
use Rattle.meaning.proofs.Typing.FirstBad.{typed-if, typed-of}
use Rattle.meaning.proofs.Entries.InOrder.{load_lines, first-refuse, line-holds, lines-done, AllAsk, first-accepted, verdict-in-order, first_one, load-order-one}

-- of a legal file only the typing is left to test
pub legal-verdict : (m : Limits) (file : List ℕ) → LegalFile m file
    → load_verdict m file (record_bytes m) ≡ refuse (first_bad (form_of (file_types file)) empty (file_tree file)) Typing (Ok tt)
legal-verdict m file l =
    first_one (load_lines m file (record_bytes m)) _ _ (load-order-one m file (record_bytes m)) (verdict-in-order m file (record_bytes m))
    (line-holds _ _ _ refl
    (line-holds _ _ _ l.long
    (line-holds _ _ _ l.mark
    (line-holds _ _ _ l.edition
    (line-holds _ _ _ (l.zero-byte, (l.types-some, l.types-many), (l.rows-some, l.rows-many))
    (line-holds _ _ _ l.size
    (line-holds _ _ _ l.types-good
    (line-holds _ _ _ l.one-tree
    (line-holds _ _ _ l.no-future (first-refuse [] (first_bad (form_of (file_types file)) empty (file_tree file)) Typing (Ok tt) lines-done))))))))))

-- an accepted file is of legal form, and its rows keep their rules
pub accepted-legal : (m : Limits) (file : List ℕ) (room : ℕ) → load_verdict m file room ≡ Ok tt
    → (room ≡ record_bytes m) × LegalFile m file × (first_bad (form_of (file_types file)) empty (file_tree file) ≡ None)
unfolding AllAsk
accepted-legal m file room e =
    let (a, (b, (c, (d, ((f, (t₁, t₂), (r₁, r₂)), (g, (h, (i, (j, (k, _)))))))))) = first-accepted (load_lines m file room) _ (verdict-in-order m file room) e in (
      a,
      record {
        long = b;
        mark = c;
        edition = d;
        zero-byte = f;
        types-some = t₁;
        types-many = t₂;
        rows-some = r₁;
        rows-many = r₂;
        size = g;
        types-good = h;
        one-tree = i;
        no-future = j;
      },
      k,
    )

pub refuse-pass : (o : Option ℕ) (f : ℕ → Refusal) (v : Verdict) → o ≡ None → refuse o f v ≡ v
unfolding refuse
refuse-pass o f v e = rw e refl

-- "A program of legal form is accepted exactly if it is well typed"
pub accepts : (m : Limits) (file kept : List ℕ) → length kept ≡ record_bytes m
    → ((load m file kept).verdict ≡ Ok tt) ↔ (LegalFile m file × Typed (form_of (file_types file)) empty (file_tree file))
unfolding load
accepts m file kept n = (
  (λ e. let (_, l, k) = accepted-legal m file (length kept) e in (l, typed-if (form_of (file_types file)) empty (file_tree file) k)),
  (λ p. ap (λ (r : ℕ). load_verdict m file r) n ∙ legal-verdict m file p.0 ∙ refuse-pass _ Typing (Ok tt) (typed-of (form_of (file_types file)) empty (file_tree file) p.1)),
)

-- "else refused at the stated row"
pub refuses-row : (m : Limits) (file kept : List ℕ) (i : ℕ) → length kept ≡ record_bytes m → LegalFile m file
    → first_bad (form_of (file_types file)) empty (file_tree file) ≡ Some i → (load m file kept).verdict ≡ Err (Typing i)
unfolding load refuse
refuses-row m file kept i n l e = ap (λ (r : ℕ). load_verdict m file r) n ∙ legal-verdict m file l ∙ rw e refl
