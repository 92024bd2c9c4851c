-- Files that are accepted beside a definition, and files that are refused. (This project's own.)
use Rattle.std.specs.Prelude.{ℕ, List, Bool, if◌then◌else◌, is_some, Option, None}
use Rattle.serde_json.specs.Data.{Data}
use Rattle.cdf_form.specs.Reading.{value_of}
use Rattle.cdf_definition.specs.Frame.{Frame}
use Rattle.cdf_definition.specs.Acceptance.{first_unsound, first_refusal}

-- whether a file is refused as a definition
abbrev pub is_unsound : List ℕ → Bool
is_unsound bytes = is_some (first_unsound bytes)

-- whether a file is refused beside a definition
abbrev pub is_refused : Frame → List ℕ → Bool
is_refused definition bytes = is_some (first_refusal definition bytes)

-- the value of an accepted file
abbrev pub accepted_value : Frame → List ℕ → Option Data
accepted_value definition bytes = if is_refused definition bytes then None else value_of bytes
