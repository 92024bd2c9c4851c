use Rattle.std.proofs.Common.{arith}
use Rattle.std.proofs.Common.{◌≢◌, List, Option, Some, None, option_map, codes, refl}
use Rattle.std.specs.Option.{option_or}
use Rattle.std.specs.Fmt.{digits}
use Rattle.serde_json.specs.Data.{Data}
use Rattle.serde_json.proofs.OnLiterals.{serde_json_on_literals}
use Rattle.cdf_types.specs.declared.fault.ReadFault.TheVariants.{TooLong, Reference}
use Rattle.cdf_form.specs.Form.{Fault, first}
use Rattle.cdf_form.specs.Form as form
use Rattle.cdf_form.specs.Path.{path_text}
use Rattle.cdf_form.specs.Reading.{value_of, document_faults, refusal_of, of_value}
use Rattle.cdf_definition.specs.Paths.{Path}
use Rattle.cdf_definition.specs.References.{missing_paths}
use Rattle.cdf_definition.specs.Acceptance.{own_refusal}
use Rattle.cdf_check.proofs.Ascii.{ascii_unsound}
use Rattle.cdf_check.proofs.examples.files.Goals as goal

-- no fault of a value is one of the file's length
fault_not_long : (fs : List Fault) (ps : List Path)
    → option_or (option_map refusal_of (form.first fs))
    (option_map (λ p. Reference (path_text p)) (first ps)) ≢ Some TooLong
fault_not_long fs ps e = grind arith

value_not_long : (o : Option Data) → of_value own_refusal o ≢ Some TooLong
value_not_long None e = cc
value_not_long (Some d) e = fault_not_long (document_faults d) (missing_paths d) e

pub returns-clause-no_json : goal.returns-clause-no_json
unfolding serde_json_on_literals digits
returns-clause-no_json c =
    ascii_unsound (codes "{\"@type\":\"CVR.CastVoteRecordReport\"") _ refl refl refl

pub returns-clause-too_long : goal.returns-clause-too_long
returns-clause-too_long c bytes h = rw h refl

pub returns-clause-longest : goal.returns-clause-longest
returns-clause-longest c bytes h = rw h (value_not_long (value_of bytes))
