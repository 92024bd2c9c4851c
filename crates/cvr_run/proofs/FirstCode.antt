-- The first code that parts name.
use Rattle.std.proofs.Common.{◌≡◌, ◌∙◌, ◌++◌, ◌==◌, ℕ, Option, Some, None, List, [], ◌∷◌, ap, refl}
use Rattle.std.proofs.Common.{arith, length, map}
use Rattle.std.specs.List.{position_or_len}
use Rattle.std.specs.Option.{option_or}
use Rattle.cvr_run.specs.declared.code.Code.{Code}
use Rattle.cvr_run.specs.Explained.{code_of, first_code, parts_of}
use Rattle.cvr_run.specs.ListedPaths.{parts_at}
use Rattle.cvr_run.proofs.ListedPaths.{last_path}

pub found : (name : List ℕ) (names : List (List ℕ)) (code : Code) → code_of name ≡ Some code
    → first_code (name ∷ names) ≡ Some code
unfolding first_code
found name names code is = ap (λ (o : Option Code). option_or o (first_code names)) is

pub passed : (name : List ℕ) (names : List (List ℕ)) → code_of name ≡ None
    → first_code (name ∷ names) ≡ first_code names
unfolding first_code
passed name names is = ap (λ (o : Option Code). option_or o (first_code names)) is

or_none : (o : Option Code) → option_or o None ≡ o
or_none None = refl
or_none (Some code) = refl

-- of one part
alone : (name : List ℕ) → first_code (name ∷ []) ≡ code_of name
unfolding first_code
alone name = or_none (code_of name)

-- of a text without a blank
pub last_code : (text : List ℕ) → position_or_len (λ b. b == 32) text ≡ length text
    → first_code (parts_at 32 text) ≡ code_of text
unfolding first_code parts_at
last_code [] all = refl
last_code (byte ∷ text) all =
    ap first_code (last_path 32 (byte ∷ text) (λ is. cc) all) ∙ alone (byte ∷ text)

-- where no word is left, there is none
pub none_left : {X : Type 0} (text_of : X → List ℕ) (words : List X) → length words ≡ 0
    → first_code (parts_of (map text_of words)) ≡ None
unfolding first_code
none_left text_of [] none = refl
none_left text_of (word ∷ words) none = absurd (omega (arith, none))

-- of three, in either order of putting together
three : (a b c : Option Code) → option_or a (option_or b c) ≡ option_or (option_or a b) c
three None b c = refl
three (Some code) b c = refl

-- of some parts and more: of the first ones, or else of the others
append : (names more : List (List ℕ))
    → first_code (names ++ more) ≡ option_or (first_code names) (first_code more)
unfolding first_code
append [] more = refl
append (name ∷ names) more =
    ap (λ (o : Option Code). option_or (code_of name) o) (append names more)
    ∙ three (code_of name) (first_code names) (first_code more)

pub found_before : (names more : List (List ℕ)) (code : Code) → first_code names ≡ Some code
    → first_code (names ++ more) ≡ Some code
found_before names more code is =
    append names more ∙ ap (λ (o : Option Code). option_or o (first_code more)) is

pub passed_all : (names more : List (List ℕ)) → first_code names ≡ None
    → first_code (names ++ more) ≡ first_code more
passed_all names more is =
    append names more ∙ ap (λ (o : Option Code). option_or o (first_code more)) is
