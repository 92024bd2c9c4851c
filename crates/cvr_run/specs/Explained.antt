-- Words that ask what a code means. (This project's own.)
use Rattle.std.specs.Prelude.{◌≡◌, ◌⊎◌, ℕ, List, [], ◌∷◌, codes, Option, Some, None}
use Rattle.std.specs.Option.{option_or}
use Rattle.std.specs.List.{find, flat_map}
use Rattle.std.specs.Str.{str_eq_ignore_ascii_case}
use Rattle.clap.specs.Words.{fault_of}
use Rattle.clap.specs.declared.error.ErrorKind.TheVariants.{DisplayHelp, InvalidSubcommand}
use Rattle.clap.specs.declared.error.ErrorKind.TheVariants.{UnknownArgument}
use Rattle.cvr_words.specs.Line.{cvr_line, with_program}
use Rattle.cvr_run.specs.declared.code.Code.{Code}
use Rattle.cvr_run.specs.declared.code.Code.TheVariants.{E3, RuleLine, H1}
use Rattle.cvr_run.specs.declared.status.Status.{Status}
use Rattle.cvr_run.specs.declared.status.Status.TheVariants.{CommandLine}
use Rattle.cvr_run.specs.Code.{all_codes, code_name, code_text, explain_text, no_code_text}
use Rattle.cvr_run.specs.Devices.{Outputs}
use Rattle.cvr_run.specs.ListedPaths.{parts_at}
use Rattle.cvr_run.specs.Log.{Logs}
use Rattle.cvr_run.specs.OwnWords.{PrintsOwn}

-- ---- words

-- `explain` and what is asked; or `help explain`, which asks nothing
abbrev pub AsksCode : List (List ℕ) → List (List ℕ) → Type 0
AsksCode words asked = (words ≡ codes "explain" ∷ asked)
    ⊎ ((words ≡ codes "help" ∷ codes "explain" ∷ []) × (asked ≡ []))

-- no command of the line has that name: whatever is asked, the first word is unknown
abbrev pub ExplainUnknownLaw : Type 0
ExplainUnknownLaw = (asked : List (List ℕ))
    → fault_of cvr_line (with_program (codes "explain" ∷ asked))
    ≡ UnknownArgument ∷ InvalidSubcommand ∷ []

-- and there is no help on it
abbrev pub HelpUnknownLaw : Type 0
HelpUnknownLaw = fault_of cvr_line (with_program (codes "help" ∷ codes "explain" ∷ []))
    ≡ DisplayHelp ∷ InvalidSubcommand ∷ []

-- ---- codes

-- the code of this name, capitals or not
abbrev pub code_of : List ℕ → Option Code
code_of name = find (λ code. str_eq_ignore_ascii_case name (code_name code)) all_codes

-- the first code that one of these names
unfoldable pub first_code : List (List ℕ) → Option Code
first_code [] = None
first_code (name ∷ names) = option_or (code_of name) (first_code names)

-- the parts of what is asked: each word, cut at its blanks
abbrev pub parts_of : List (List ℕ) → List (List ℕ)
parts_of asked = flat_map (parts_at 32) asked

-- each code is found by its name
abbrev pub EachCodeLaw : Type 0
EachCodeLaw = (code : Code) → code_of (code_name code) ≡ Some code

-- a line, as one word or as several, and other names; a code in the middle of a part is none
abbrev pub CodesOfLines : Type 0
CodesOfLines =
    (first_code (parts_of (codes "a b.json: E3 /CVR/0 2" ∷ [])) ≡ Some E3)
    × (first_code (parts_of (codes "a" ∷ codes "b.json:" ∷ codes "E3" ∷ codes "/CVR/0" ∷ [])) ≡ Some E3)
    × (first_code (parts_of (codes "rule" ∷ codes "2" ∷ [])) ≡ Some RuleLine)
    × (first_code (parts_of (codes "merge: h1" ∷ [])) ≡ Some H1)
    × (first_code (parts_of (codes "E33" ∷ codes "aE3" ∷ [])) ≡ None)

-- ---- answers

-- `explain` itself is asked for: no word is behind it, or the one that asks for help
abbrev pub AsksUse : List (List ℕ) → Type 0
AsksUse asked = (asked ≡ []) ⊎ (asked ≡ codes "-h" ∷ []) ⊎ (asked ≡ codes "--help" ∷ [])

-- the text of a code is printed
pub record PrintsCode (asked : List (List ℕ)) (answer : Status) (old new : Outputs) : Type 0 where
  pub code : Code
  pub named : first_code (parts_of asked) ≡ Some code
  pub printed : PrintsOwn (code_text code) answer old new

-- that of `explain` is
pub record PrintsUse (asked : List (List ℕ)) (answer : Status) (old new : Outputs) : Type 0 where
  pub asks : AsksUse asked
  pub printed : PrintsOwn explain_text answer old new

-- no code is named, which is reported; the output stays unchanged
pub record LogsNoCode (asked : List (List ℕ)) (answer : Status) (old new : Outputs)
    (unchanged : Type 0) : Type 0 where
  pub unknown : first_code (parts_of asked) ≡ None
  pub some : ¬ AsksUse asked
  pub quiet : unchanged
  pub status : answer ≡ CommandLine
  pub log : Logs old.log new.log no_code_text

-- the text of the first code that is named, or of `explain`; or none is, which is reported
abbrev pub Explains : List (List ℕ) → Status → Outputs → Outputs → Type 0 → Type 0
Explains asked answer old new unchanged =
    PrintsCode asked answer old new ⊎ PrintsUse asked answer old new
    ⊎ LogsNoCode asked answer old new unchanged
