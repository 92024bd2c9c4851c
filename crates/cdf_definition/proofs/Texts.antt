-- The value of a file, by its text.
use Rattle.std.proofs.Common.{◌≡◌, ℕ, List, [], ◌∷◌, ◌&&◌, nat_lt, Bool, true, Some, sym, ap, ◌∙◌}
use Rattle.std.specs.Str.{IsUtf8, IsAscii}
use Rattle.std.proofs.lemmas.Bool.{and_parts, ltb-true}
use Rattle.std.proofs.lemmas.Str.{is_utf8-from_IsUtf8, IsUtf8-from_ascii}
use Rattle.std.proofs.lemmas.Str.Ascii.{IsAscii-nil, IsAscii-cons}
use Rattle.serde_json.specs.Data.{Data}
use Rattle.serde_json.specs.Read.{read}
use Rattle.cdf_form.specs.Reading.{value_of}

pub value_of_text : (bytes text : List ℕ) (d : Data) → text ≡ bytes → IsUtf8 bytes
    → read text ≡ Some d → value_of bytes ≡ Some d
value_of_text bytes text d same utf8 value =
    rw (is_utf8-from_IsUtf8 bytes utf8) (ap read (sym same) ∙ value)

abbrev pub all_ascii : List ℕ → Bool
all_ascii [] = true
all_ascii (b ∷ bs) = nat_lt b 128 && all_ascii bs

pub ascii : (bs : List ℕ) → all_ascii bs ≡ true → IsAscii bs
ascii [] h = IsAscii-nil
ascii (b ∷ bs) h = let both = and_parts (nat_lt b 128) (all_ascii bs) h in
    IsAscii-cons b bs (ltb-true b 128 both.0) (ascii bs both.1)

pub ascii_value : (bytes : List ℕ) → all_ascii bytes ≡ true → value_of bytes ≡ read bytes
ascii_value bytes a = rw (is_utf8-from_IsUtf8 bytes (IsUtf8-from_ascii bytes (ascii bytes a)))
