use Rattle.std.proofs.Common.{refl}
use Rattle.std.specs.Fmt.{digits}
use Rattle.serde_json.proofs.OnLiterals.{serde_json_on_literals}
use Rattle.jiff.proofs.OnLiterals.{jiff_on_literals}
use Rattle.cdf_check.specs.FileExamples as file
use Rattle.cdf_check.proofs.Ascii.{ascii_unsound, ascii_refusal}
use Rattle.cdf_check.proofs.examples.worked_files.Goals as goal

pub returns : goal.returns
unfolding serde_json_on_literals jiff_on_literals digits
returns c = record {
  one_definition = ascii_unsound file.one_file _ refl refl refl;
  one_file = ascii_refusal file.definition_file file.one_file _ refl refl refl refl;
  first_fault = ascii_refusal file.definition_file file.two_faults_file _ refl refl refl refl;
  fraction_first = ascii_refusal file.definition_file file.fraction_file _ refl refl refl refl;
  fractional_votes =
      ascii_refusal file.definition_file file.fractional_votes_file _ refl refl refl refl;
  escaped_path = ascii_refusal file.definition_file file.escaped_file _ refl refl refl refl;
  repeated_snapshot = ascii_refusal file.definition_file file.repeated_id_file _ refl refl refl refl;
  other_selection =
      ascii_refusal file.definition_file file.other_selection_file _ refl refl refl refl;
  unknown_contest =
      ascii_refusal file.definition_file file.unknown_contest_file _ refl refl refl refl;
  unknown_current =
      ascii_refusal file.definition_file file.unknown_current_file _ refl refl refl refl;
  other_election = ascii_refusal file.definition_file file.other_election_file _ refl refl refl refl;
  other_unit = ascii_refusal file.definition_file file.other_unit_file _ refl refl refl refl;
  reference_first =
      ascii_refusal file.definition_file file.other_unit_and_election_file _ refl refl refl refl;
}
