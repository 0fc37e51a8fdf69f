-- The list part of a record: an entry read, an entry written, the rest cleared. Assumes nothing.
use Prim.Native.Nat.{ℕ, zero, suc, ◌+◌, ◌-◌, ◌*◌, ◌<◌, ◌≤◌}
use mathlib.Core.Path.{◌≡◌, refl, ap, sym, ◌∙◌}
use mathlib.Core.List.{List, [], ◌∷◌, ◌++◌, map, map-append, append_assoc, append-nil}
use native.Mathlib.Omega.{arith}
use native.Mathlib.Numerals.{add-one}
use lib.ListN.{length, get_or, take, drop, set, replicate, length-map, length-append}
use lib.Seq.{sets, sets-eq, take_at, take-suc, take-suc-set, drop-drop, length-take-le}
use Rattle.meaning.specs.Bytes.{Layout, width, number, spell, read, write, reads, writes, padded, entry_row}
use Rattle.meaning.specs.Records.{Entry as Call}
use Rattle.meaning.specs.Records.{entry_of, raw_entry}
use Rattle.meaning.proofs.Bytes.Layouts.{length-spell, length-write, length-writes}
use Rattle.layout.proofs.Laws.{three-runs}
use Rattle.open.specs.declared.entries.Entry.{Entry}
use Rattle.open.specs.Open.{call}

-- Reading --------------------------------------------------------------------------------------------------------

-- the rows of a table and one more
pub reads_more : (l : Layout) (n : ℕ) (s : List ℕ) → reads l (n + 1) s ≡ reads l n s ++ (read l (drop (width l * n) s) ∷ [])
unfolding reads
reads_more l zero s = let e : width l * 0 ≡ 0 = omega arith in rw e refl
reads_more l (suc n) s =
    let e : width l + width l * n ≡ width l * suc n = omega arith in
    let k : suc n + 1 ≡ suc (n + 1) = omega arith in
    ap (λ (x : ℕ). reads l x s) k
    ∙ ap (λ (x : List (List ℕ)). read l s ∷ x) (reads_more l n (drop (width l) s))
    ∙ rw (drop-drop (width l * n) (width l) s, e)

-- an entry by its bytes
pub entry_read : (s : List ℕ) (p q n t : ℕ) → q ≡ p + 4 → n ≡ number 4 (drop p s) → t ≡ number 2 (drop q s) → ◌≡◌ {A = Call} (record { number = n; type = t }) (entry_of (read entry_row (drop p s)))
unfolding entry_of read
entry_read s p q n t e a b = rw (a, b, e) (ap (λ (x : List ℕ). record { number = number 4 (drop p s); type = number 2 x }) (sym (drop-drop 4 p s)))

pub read_more : (xs : List Entry) (s : List ℕ) (i : ℕ) (e : Entry) → i < length xs → call e ≡ entry_of (read entry_row (drop (8 * i) s)) → map call (take i xs) ≡ map entry_of (reads entry_row i s)
    → map call (take (i + 1) (set xs i e)) ≡ map entry_of (reads entry_row (i + 1) s)
unfolding width
read_more xs s i e h q w =
    rw (add-one i, take-suc-set xs i e h)
    (map-append call (take i xs) (e ∷ [])
    ∙ ap (λ (x : List Call). x ++ (call e ∷ [])) w
    ∙ ap (λ (x : Call). map entry_of (reads entry_row i s) ++ (x ∷ [])) q
    ∙ sym (ap (λ (n : ℕ). map entry_of (reads entry_row n s)) (sym (add-one i)) ∙ ap (map entry_of) (reads_more entry_row i s) ∙ map-append entry_of (reads entry_row i s) (read entry_row (drop (8 * i) s) ∷ [])))

-- Writing --------------------------------------------------------------------------------------------------------

pub entry-put : (s x y z : List ℕ) (p : ℕ) (e : Entry) → x ≡ sets s p (spell 4 e.number) → y ≡ sets x (p + 4) (spell 2 e.ty) → z ≡ sets y (p + 6) (spell 2 0)
    → z ≡ sets s p (write entry_row (raw_entry (call e)))
unfolding raw_entry write
entry-put s x y z p e a b c =
    three-runs p (p + 4) (p + 6) (spell 4 e.number) (spell 2 e.ty) (spell 2 0) s x y z a b c (omega (arith, length-spell 4 e.number)) (omega (arith, length-spell 2 e.ty))
    ∙ ap (λ (v : List ℕ). sets s p (spell 4 e.number ++ (spell 2 e.ty ++ v))) (sym (append-nil (spell 2 0)))

pub writes-append : (l : Layout) (rs ts : List (List ℕ)) → writes l (rs ++ ts) ≡ writes l rs ++ writes l ts
unfolding writes
writes-append l [] ts = refl
writes-append l (r ∷ rs) ts = ap (λ (x : List ℕ). write l r ++ x) (writes-append l rs ts) ∙ sym (append_assoc (write l r) (writes l rs) (writes l ts))

-- the bytes of entries
abbrev pub entry_bytes : List Entry → List ℕ
entry_bytes es = writes entry_row (map raw_entry (map call es))

entry-bytes-more : (es : List Entry) (e : Entry) → entry_bytes (es ++ (e ∷ [])) ≡ entry_bytes es ++ write entry_row (raw_entry (call e))
unfolding writes
entry-bytes-more es e =
    ap (writes entry_row) (ap (map raw_entry) (map-append call es (e ∷ [])) ∙ map-append raw_entry (map call es) (call e ∷ []))
    ∙ writes-append entry_row (map raw_entry (map call es)) (raw_entry (call e) ∷ [])
    ∙ ap (λ (x : List ℕ). entry_bytes es ++ x) (append-nil (write entry_row (raw_entry (call e))))

-- one entry more is stored
pub store-more : (b : List ℕ) (es : List Entry) (i : ℕ) (d e : Entry) → get_or es i d ≡ e → 8 * i + 8 ≤ length b → i < length es → take (8 * i) b ≡ entry_bytes (take i es)
    → take (8 * (i + 1)) (sets b (8 * i) (write entry_row (raw_entry (call e)))) ≡ entry_bytes (take (i + 1) es)
unfolding width
store-more b es i d e g h k w =
    let v = write entry_row (raw_entry (call e)) in
    let u : length v ≡ 8 = length-write entry_row (raw_entry (call e)) in
    let q : length (take (8 * i) b ++ v) ≡ 8 * (i + 1) = length-append (take (8 * i) b) v ∙ omega (arith, length-take-le (8 * i) b (omega arith)) in
    let t : take (i + 1) es ≡ take i es ++ (e ∷ []) = rw (add-one, ← g) (take-suc es i d k) in
    ap (take (8 * (i + 1))) (sets-eq v b (8 * i) (omega arith))
    ∙ take_at (take (8 * i) b ++ v) (drop (8 * i + length v) b) (8 * (i + 1)) q
    ∙ ap (λ (y : List ℕ). y ++ v) w
    ∙ sym (entry-bytes-more (take i es) e)
    ∙ ap entry_bytes (sym t)

-- then zeros
pub stored : (b : List ℕ) (es : List Entry) (n len : ℕ) → length b ≡ len → n ≤ length es → take (8 * n) b ≡ entry_bytes (take n es)
    → take (8 * n) b ++ (replicate (len - 8 * n) 0 ++ drop len b) ≡ padded len (entry_bytes (take n es))
unfolding padded width
stored b es n len e h w =
    let z : drop len b ≡ [] = rw (← e) (lib.Seq.drop-length b) in
    let q : length (entry_bytes (take n es)) ≡ 8 * n =
    length-writes entry_row (map raw_entry (map call (take n es)))
    ∙ ap (λ (x : ℕ). 8 * x) (length-map (map call (take n es)) raw_entry ∙ length-map (take n es) call ∙ length-take-le n es h) in
    rw (w, z, q) (ap (λ (x : List ℕ). entry_bytes (take n es) ++ x) (append-nil (replicate (len - 8 * n) 0)))
