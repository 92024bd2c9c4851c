-- The words of a command, by the ids of its arguments. (This project's own.)
use Rattle.std.specs.Prelude.{◌≡◌, ◌≤◌, ℕ, pos, List, [], Some, codes, unwrap_or}
use Rattle.std.specs.Str.Parse.{digits_value, without_leading_plus}
use Rattle.clap.specs.Lexer.{without_minus}
use Rattle.clap.specs.Values.{IsSignedIn}
use Rattle.clap.specs.Words.{Row, Text, all_of, first_of, one_of}

-- the words of an argument that may stand several times
abbrev pub words_in : Text → List Row → List Text
words_in id rows = unwrap_or (all_of id rows) []

-- the word of an argument that stands once
abbrev pub IsWord : Text → List Row → Text → Type 0
IsWord id rows word = first_of id rows ≡ Some word

-- the number of an argument that stands once, in its range
abbrev pub IsNumber : Text → ℕ → ℕ → List Row → ℕ → Type 0
IsNumber id low high rows n =
    (text : Text) × (one_of id rows ≡ Some text) × (n ≡ digits_value 10 (without_leading_plus text))
    × (low ≤ n) × (n ≤ high)

-- an argument has a word; one has a number in its range
abbrev pub HasWord : Text → List Row → Type 0
HasWord id rows = (word : Text) × (first_of id rows ≡ Some word)

abbrev pub HasNumber : Text → ℕ → ℕ → List Row → Type 0
HasNumber id low high rows =
    (word : Text) × (one_of id rows ≡ Some (without_minus word))
    × IsSignedIn (pos low) (pos high) word

-- what has to stand among the matches of a command
abbrev pub IsMergeWhole : List Row → Type 0
IsMergeWhole rows = HasWord (codes "DATE") rows × HasWord (codes "DEVICE") rows
    × HasNumber (codes "VOLUME") 1 4294967295 rows

pub record AreRowsOf (name : Text) (rows : List Row) : Type 0 where
  pub def : HasWord (codes "DEF") rows
  pub merge : name ≡ codes "merge" → IsMergeWhole rows
  pub drill : name ≡ codes "drill" → HasNumber (codes "OFFICES") 1 64 rows
