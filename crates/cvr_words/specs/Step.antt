-- The form of a step of a drill: `K=FILE` or `K>L`. (This project's own.)
use Rattle.std.specs.Prelude.{ℕ, Bool, List, [], ◌∷◌, Option, Some, None, length, ◌==◌, ◌&&◌}
use Rattle.std.specs.Prelude.{nat_lt, nat_le, if◌then◌else◌}
use Rattle.std.specs.List.{list_all, before_first, after_first}
use Rattle.std.specs.Str.Parse.{digits_value}
use Rattle.std.specs.Char.{is_ascii_digit}

-- a text by its bytes
abbrev pub Text : Type 0
Text = List ℕ

-- an office takes in the file at a path, or one office what another holds
pub data StepForm : Type 0 where
  import_form : ℕ → Text → StepForm
  exchange_form : ℕ → ℕ → StepForm

-- one to nine decimal digits
abbrev pub is_number : Text → Bool
is_number text = nat_lt 0 (length text) && (nat_le (length text) 9 && list_all is_ascii_digit text)

abbrev pub number_of_text : Text → Option ℕ
number_of_text text = if is_number text then Some (digits_value 10 text) else None

-- what stands before and after the first of a byte (61 is `=`, 62 is `>`)
abbrev pub before : ℕ → Text → Text
before byte text = before_first (λ b. b == byte) text

abbrev pub after : ℕ → Text → Text
after byte text = after_first (λ b. b == byte) text

-- a number, `=` and a path that is not empty
abbrev pub import_in : Text → Option StepForm
import_in text =
    if is_number (before 61 text) && nat_lt 0 (length (after 61 text))
    then Some (import_form (digits_value 10 (before 61 text)) (after 61 text))
    else None

-- a number, `>` and a number
abbrev pub exchange_in : Text → Option StepForm
exchange_in text =
    if is_number (before 62 text) && is_number (after 62 text)
    then Some (exchange_form (digits_value 10 (before 62 text)) (digits_value 10 (after 62 text)))
    else None

abbrev pub or_else : Option StepForm → Option StepForm → Option StepForm
or_else (Some form) other = Some form
or_else None other = other

-- the form of a step; no text has both
unfoldable pub step_form : Text → Option StepForm
step_form text = or_else (import_in text) (exchange_in text)

-- the path that a form names
abbrev pub path_in : StepForm → List Text
path_in (import_form office path) = path ∷ []
path_in (exchange_form from to) = []
