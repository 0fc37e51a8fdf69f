-- Types: what a type row says, which rows are bad (refusal 6), which types are ground, and what names mean. Assumes nothing.
use Rattle.std.specs.Prelude.{ℕ, zero, suc, ◌+◌, ◌*◌, ◌/◌, ◌%◌, Bool, true, false, cond, not, List, [], ◌∷◌, ◌++◌, eqb, leb, ltb, length, take, drop, get_or}
use Rattle.std.specs.Prelude.{Option, None, Some}
use Rattle.meaning.specs.Bytes.{◌∧ᵇ◌, within, zeros}

pub data Base : Type 0 where
  Str File Truth : Base

-- native or foreign
pub data Side : Type 0 where
  ntv frn : Side

pub record Param : Type 0 where
  pub name : ℕ
  pub type : ℕ

-- what a type number says; everything above reads types through one function from number to form
pub data Form : Type 0 where
  absent : Form
  base : Base → Form
  f_list : ℕ → Form
  f_tuple : List ℕ → Form
  f_fun : Side → List Param → ℕ → Form

unfoldable pub types : List Param → List ℕ
types [] = []
types (p ∷ ps) = p.type ∷ types ps

unfoldable pub names : List Param → List ℕ
names [] = []
names (p ∷ ps) = p.name ∷ names ps

-- the names that a function's type binds in its body
unfoldable pub params : Form → List Param
params absent = []
params (base b) = []
params (f_list e) = []
params (f_tuple ts) = []
params (f_fun s ps r) = ps

-- the element type of a list type
unfoldable pub elem_of : Form → ℕ
elem_of absent = 0
elem_of (base b) = 0
elem_of (f_list e) = e
elem_of (f_tuple ts) = 0
elem_of (f_fun s ps r) = 0

-- Type rows ------------------------------------------------------------------------------------------------------

-- a type row: form, n, result, eight pairs of a name and a type, as the numbers that the layout reads
unfoldable pub pairs : List ℕ → List Param
pairs [] = []
pairs (x ∷ []) = []
pairs (x ∷ t ∷ s) = record { name = x; type = t } ∷ pairs s

abbrev pub form_no : List ℕ → ℕ
form_no r = get_or r 0 0

abbrev pub parts_no : List ℕ → ℕ
parts_no r = get_or r 1 0

abbrev pub result_no : List ℕ → ℕ
result_no r = get_or r 2 0

unfoldable pub parts : List ℕ → List Param
parts r = take (parts_no r) (pairs (drop 3 r))

-- "Forms: 1 Str, 2 File, 3 Bool, 4 List (result = element), 5 tuple .., 6 native function, 7 foreign function"
unfoldable pub form_row : List ℕ → Form
form_row r =
    cond (eqb (form_no r) 1) (base Str)
    (cond (eqb (form_no r) 2) (base File)
    (cond (eqb (form_no r) 3) (base Truth)
    (cond (eqb (form_no r) 4) (f_list (result_no r))
    (cond (eqb (form_no r) 5) (f_tuple (types (parts r)))
    (cond (eqb (form_no r) 6) (f_fun ntv (parts r) (result_no r))
    (cond (eqb (form_no r) 7) (f_fun frn (parts r) (result_no r)) absent))))))

-- the form of a number in a table; a number beyond it has none
unfoldable pub form_of : List (List ℕ) → ℕ → Form
form_of rows t = form_row (get_or rows t [])

-- "Whether a type is ground is told by going down through its parts", each of a smaller number
unfoldable pub every : (ℕ → Bool) → List ℕ → Bool
every p [] = true
every p (x ∷ xs) = p x ∧ᵇ every p xs

-- "Str, File, Bool, lists of ground types and tuples of ground types are ground"
unfoldable pub ground_form : (ℕ → Bool) → Form → Bool
ground_form q absent = false
ground_form q (base b) = true
ground_form q (f_list e) = q e
ground_form q (f_tuple ts) = every q ts
ground_form q (f_fun s ps r) = false

unfoldable pub ground_below : (ℕ → Form) → ℕ → ℕ → Bool
ground_below form zero t = false
ground_below form (suc d) t = ground_form (λ p. ltb p t ∧ᵇ ground_below form d p) (form t)

unfoldable pub ground : (ℕ → Form) → ℕ → Bool
ground form t = ground_below form (suc t) t

-- which forms an edition of the file knows: edition 1 those up to 7
unfoldable pub last_form : ℕ → ℕ
last_form edition = get_or (0 ∷ 7 ∷ []) edition 0

unfoldable pub nonzero : ℕ → Bool
nonzero n = leb 1 n

unfoldable pub member : ℕ → List ℕ → Bool
member x [] = false
member x (y ∷ ys) = cond (eqb x y) true (member x ys)

unfoldable pub distinct : List ℕ → Bool
distinct [] = true
distinct (x ∷ xs) = not (member x xs) ∧ᵇ distinct xs

-- "Each type referred to has a smaller number than its user"
unfoldable pub below : ℕ → ℕ → Bool
below i t = ltb t i

-- the fields of row number i by its form. "Unused fields are zero"; "a zero result means unused only in forms 1, 2, 3 and 5"
unfoldable pub plain_ok : List ℕ → Bool
plain_ok r = eqb (parts_no r) 0 ∧ᵇ eqb (result_no r) 0

unfoldable pub list_ok : ℕ → List ℕ → Bool
list_ok i r = eqb (parts_no r) 0 ∧ᵇ below i (result_no r)

-- "tuple (n 1 to 8, names 0)"
unfoldable pub tuple_ok : ℕ → List ℕ → Bool
tuple_ok i r = within 1 8 (parts_no r) ∧ᵇ eqb (result_no r) 0 ∧ᵇ zeros (names (parts r)) ∧ᵇ every (below i) (types (parts r))

-- "(n 0 to 8, names nonzero and distinct within the row)"
unfoldable pub names_ok : List ℕ → Bool
names_ok xs = every nonzero xs ∧ᵇ distinct xs

unfoldable pub function_ok : ℕ → List ℕ → Bool
function_ok i r = leb (parts_no r) 8 ∧ᵇ below i (result_no r) ∧ᵇ names_ok (names (parts r)) ∧ᵇ every (below i) (types (parts r))

-- a line a form, from 0 on, which is none
abbrev pub form_fields : ℕ → List ℕ → List Bool
form_fields i r =
    false
    -- 1 Str, 2 File, 3 Bool
    ∷ plain_ok r ∷ plain_ok r ∷ plain_ok r
    -- 4 List
    ∷ list_ok i r
    -- 5 tuple
    ∷ tuple_ok i r
    -- 6 native function, 7 foreign function
    ∷ function_ok i r ∷ function_ok i r
    ∷ []

unfoldable pub fields_ok : ℕ → List ℕ → Bool
fields_ok i r = zeros (drop (3 + 2 * parts_no r) r) ∧ᵇ get_or (form_fields i r) (form_no r) false

unfoldable pub same_numbers : List ℕ → List ℕ → Bool
same_numbers [] [] = true
same_numbers [] (y ∷ ys) = false
same_numbers (x ∷ xs) [] = false
same_numbers (x ∷ xs) (y ∷ ys) = eqb x y ∧ᵇ same_numbers xs ys

-- "No type row equals an earlier one"
unfoldable pub fresh : List (List ℕ) → List ℕ → Bool
fresh [] r = true
fresh (s ∷ old) r = not (same_numbers s r) ∧ᵇ fresh old r

-- "A foreign function has ground arguments and a ground result"
unfoldable pub ground_call : (ℕ → Form) → List ℕ → Bool
ground_call form r = cond (eqb (form_no r) 7) (ground form (result_no r) ∧ᵇ every (ground form) (types (parts r))) true

-- a row behind the earlier ones
unfoldable pub type_ok : ℕ → List (List ℕ) → List ℕ → Bool
type_ok edition old r = within 1 (last_form edition) (form_no r) ∧ᵇ fields_ok (length old) r ∧ᵇ fresh old r ∧ᵇ ground_call (form_of old) r

-- refusal 6: "first bad type row", behind those that have passed
unfoldable pub bad_type_from : ℕ → List (List ℕ) → List (List ℕ) → Option ℕ
bad_type_from edition old [] = None
bad_type_from edition old (r ∷ rs) = cond (type_ok edition old r) (bad_type_from edition (old ++ (r ∷ [])) rs) (Some (length old))

unfoldable pub bad_type : ℕ → List (List ℕ) → Option ℕ
bad_type edition rows = bad_type_from edition [] rows

-- Names ----------------------------------------------------------------------------------------------------------

-- the type of a name among those bound at once
unfoldable pub find : List Param → ℕ → Option ℕ
find [] x = None
find (p ∷ ps) x = cond (eqb x p.name) (Some p.type) (find ps x)

-- what each name means
abbrev pub Ctx : Type 0
Ctx = ℕ → Option ℕ

unfoldable pub empty : Ctx
empty x = None

unfoldable pub pick : Option ℕ → Option ℕ → Option ℕ
pick None o = o
pick (Some t) o = Some t

-- "The innermost binder wins"
infixl 20 ◌⹁◌
unfoldable pub ◌⹁◌ : Ctx → List Param → Ctx
(Γ ⹁ ps) x = pick (find ps x) (Γ x)

-- the i-th of a list, counted from 1
unfoldable pub place : ℕ → List ℕ → Option ℕ
place i [] = None
place zero (t ∷ ts) = None
place (suc zero) (t ∷ ts) = Some t
place (suc (suc i)) (t ∷ ts) = place (suc i) ts

-- "mask .., bit 0 = first argument"
unfoldable pub low : ℕ → Bool
low m = eqb (m % 2) 1

unfoldable pub rest : ℕ → ℕ
rest m = m / 2
