-- A letter and a row written field by field. Assumes nothing.
use Prim.Native.Nat.{ℕ, ◌+◌, ◌-◌, ◌/◌, ◌≤◌}
use mathlib.Core.Path.{◌≡◌, refl, ap, sym, ◌∙◌}
use mathlib.Core.List.{List, [], ◌∷◌, ◌++◌, append_assoc}
use native.Mathlib.Omega.{arith}
use lib.ListN.{length, take, drop, set, length-append, length-drop}
use lib.Seq.{sets, sets-eq, drop_at, take_at, take_all, drop-drop}
use Rattle.layout.proofs.Laws.{sets-sets, sets-front}
use Rattle.meaning.specs.Bytes.{width, spell, write, number, term_row, call_head}
use Rattle.meaning.proofs.Bytes.Layouts.{length-write}
use Rattle.runs.specs.Going.{letter_from}

-- four fields, one behind the other
four_runs : (l a b d e t u v w : List ℕ) (i j k n : ℕ) → a ≡ sets l i t → b ≡ sets a j u → d ≡ sets b k v → e ≡ sets d n w → i + length t ≡ j → j + length u ≡ k → k + length v ≡ n
    → e ≡ sets l i (t ++ (u ++ (v ++ w)))
four_runs l a b d e t u v w i j k n p q r s x y z =
    let first : b ≡ sets l i (t ++ u) = q ∙ ap (λ (m : List ℕ). sets m j u) p ∙ sets-sets t u l i j x in
    let g : i + length (t ++ u) ≡ k = omega (arith, length-append t u) in
    let second : d ≡ sets l i ((t ++ u) ++ v) = r ∙ ap (λ (m : List ℕ). sets m k v) first ∙ sets-sets (t ++ u) v l i k g in
    let h : i + length ((t ++ u) ++ v) ≡ n = omega (arith, length-append (t ++ u) v, g) in
    s ∙ ap (λ (m : List ℕ). sets m n w) second ∙ sets-sets ((t ++ u) ++ v) w l i n h
    ∙ ap (sets l i) (append_assoc (t ++ u) v w ∙ append_assoc t u (v ++ w))

pub call-width : width call_head ≡ 12
unfolding width
call-width = refl

head_bytes : (work a b d e : List ℕ) (i j k n : ℕ) → 12 ≤ length work → a ≡ sets work 0 (spell 4 i) → b ≡ sets a 4 (spell 4 j) → d ≡ sets b 8 (spell 2 k) → e ≡ sets d 10 (spell 2 n)
    → e ≡ write call_head (i ∷ j ∷ k ∷ n ∷ []) ++ drop 12 work
unfolding spell write
head_bytes work a b d e i j k n h pa pb pd pe =
    pe ∙ ap (λ (x : List ℕ). sets x 10 (spell 2 n)) (pd ∙ ap (λ (x : List ℕ). sets x 8 (spell 2 k)) (pb ∙ ap (λ (x : List ℕ). sets x 4 (spell 4 j)) pa))
    ∙ sets-front (write call_head (i ∷ j ∷ k ∷ n ∷ [])) work 12 refl h

pub letter-bytes : (call work a b d e x : List ℕ) (next n : ℕ) → n ≡ length call → 16 ≤ n → n ≤ length work
    → a ≡ sets work 0 (spell 4 next) → b ≡ sets a 4 (spell 4 (number 4 (drop 12 call))) → d ≡ sets b 8 (spell 2 (n / 8 - 2)) → e ≡ sets d 10 (spell 2 (number 2 (drop 2 call)))
    → x ≡ take 12 e ++ (take (n - 16) (drop 16 call) ++ drop (12 + (n - 16)) e) → x ≡ letter_from next call ++ drop (length call - 4) work
unfolding letter_from
letter-bytes call work a b d e x next n en h k pa pb pd pe px =
    let head = write call_head (next ∷ number 4 (drop 12 call) ∷ (n / 8 - 2) ∷ number 2 (drop 2 call) ∷ []) in
    let lh : length head ≡ 12 = length-write call_head (next ∷ number 4 (drop 12 call) ∷ (n / 8 - 2) ∷ number 2 (drop 2 call) ∷ []) ∙ call-width in
    let g = head_bytes work a b d e next (number 4 (drop 12 call)) (n / 8 - 2) (number 2 (drop 2 call)) (omega arith) pa pb pd pe in
    let front : take 12 e ≡ head = ap (take 12) g ∙ take_at head (drop 12 work) 12 lh in
    let p : 12 + (n - 16) ≡ length call - 4 = omega arith in
    let back : drop (12 + (n - 16)) e ≡ drop (length call - 4) work =
    sym (drop-drop (n - 16) 12 e) ∙ ap (drop (n - 16)) (ap (drop 12) g ∙ drop_at head (drop 12 work) 12 lh) ∙ drop-drop (n - 16) 12 work ∙ ap (λ (i : ℕ). drop i work) p in
    let rest : take (n - 16) (drop 16 call) ≡ drop 16 call = take_all (n - 16) (drop 16 call) (omega (arith, length-drop 16 call)) in
    px ∙ cc (front, rest, back) ∙ sym (append_assoc head (drop 16 call) (drop (length call - 4) work))
    ∙ ap (λ (i : ℕ). (write call_head (next ∷ number 4 (drop 12 call) ∷ (i / 8 - 2) ∷ number 2 (drop 2 call) ∷ []) ++ drop 16 call) ++ drop (length call - 4) work) en

pub future-bytes : (work a b d x : List ℕ) (p ty next : ℕ) → p + 8 ≤ length work → a ≡ set work p 9 → b ≡ set a (p + 1) 0 → d ≡ sets b (p + 2) (spell 2 ty) → x ≡ sets d (p + 4) (spell 4 next)
    → x ≡ take p work ++ (write term_row (9 ∷ 0 ∷ ty ∷ next ∷ []) ++ drop (p + 8) work)
unfolding write spell
future-bytes work a b d x p ty next h pa pb pd px =
    four_runs work a b d x (9 ∷ []) (0 ∷ []) (spell 2 ty) (spell 4 next) p (p + 1) (p + 2) (p + 4) pa pb pd px (omega arith) (omega arith) (omega arith)
    ∙ sets-eq (write term_row (9 ∷ 0 ∷ ty ∷ next ∷ [])) work p (omega arith) ∙ append_assoc (take p work) (write term_row (9 ∷ 0 ∷ ty ∷ next ∷ [])) (drop (p + 8) work)
