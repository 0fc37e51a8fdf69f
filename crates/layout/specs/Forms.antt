-- The forms of types by name: the number of each; and what the type of a number says in a table.
use Rattle.std.specs.Prelude.{ℕ, ◌≡◌, ◌<◌, ◌⊎◌, Bool, true, cond, Option, Some, None, List, [], eqb, get_or}
use Rattle.layout.specs.declared.forms.Form.{Form}
use Rattle.layout.specs.declared.forms.Form.TheVariants as form
use Rattle.meaning.specs.Types.{parts, types}

-- the byte of a form in its type row
abbrev pub form_byte : Form → ℕ
form_byte form.Str = 1
form_byte form.File = 2
form_byte form.Bool = 3
form_byte form.List = 4
form_byte form.Tuple = 5
form_byte form.Native = 6
form_byte form.Foreign = 7

-- what a byte stands for
abbrev pub IsForm : Option Form → ℕ → Type 0
IsForm (Some f) b = b ≡ form_byte f
IsForm None b = (b ≡ 0) ⊎ (7 < b)

-- the numbers of type t of a table; none beyond it
unfoldable pub says : List (List ℕ) → ℕ → List ℕ
says ts t = get_or ts t []

abbrev pub part_types : List ℕ → List ℕ
part_types r = types (parts r)

-- native or foreign function
abbrev pub is_function : ℕ → Bool
is_function f = cond (eqb f 6) true (eqb f 7)
