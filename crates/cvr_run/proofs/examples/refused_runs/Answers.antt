-- Definition and files of the examples are literals in ASCII, so refusals, log lines and the text
-- of a drill can be computed. The body is empty: no local is named.
use Rattle.std.proofs.Common.{refl, ◌∙◌}
use Rattle.std.specs.Prelude.{codes, Some, None}
use Rattle.std.specs.Fmt.{digits}
use Rattle.json.specs.Print.{escape_byte}
use Rattle.serde_json.proofs.OnLiterals.{serde_json_on_literals}
use Rattle.jiff.proofs.OnLiterals.{jiff_on_literals}
use Rattle.cdf_types.specs.declared.fault.ReadFault.TheVariants.{Schema, Reference}
use Rattle.cdf_types.specs.declared.rule.Rule.TheVariants.{Missing}
use Rattle.cdf_definition.specs.Acceptance.{frame_in}
use Rattle.cdf_check.specs.FileExamples as file
use Rattle.cdf_check.proofs.Lemmas.{ascii_unsound, ascii_refusal}
use Rattle.cvr_run.specs.RunExamples as example
use Rattle.cvr_run.proofs.GivenDrills.{three_devices, of_one_file, with_second, second-given}
use Rattle.cvr_run.proofs.GivenDrills.{starts-given, facts-given, drill-given, run-given}
use Rattle.cvr_run.proofs.RefusedRuns.{told_of_definition, told_of_one, told_of_three, told_of_drill}
use Rattle.cvr_run.proofs.RefusedRuns.{causes_of_three, due_by, due_is, first_of}
use Rattle.cvr_run.proofs.examples.refused_runs.Goals as goal

pub returns : goal.returns
unfolding serde_json_on_literals jiff_on_literals digits escape_byte
returns c = record {
  two_refused =
      told_of_three (codes "def.json") file.definition_file (codes "a.json") (codes "b.json")
      (codes "c.json") file.two_faults_file file.one_file file.other_selection_file _ _ _ _
      (ascii_unsound file.definition_file _ refl refl refl)
      (ascii_refusal file.definition_file file.two_faults_file _ refl refl refl refl)
      (ascii_refusal file.definition_file file.one_file _ refl refl refl refl)
      (ascii_refusal file.definition_file file.other_selection_file _ refl refl refl refl)
      refl;
  causes_of_three =
      causes_of_three file.definition_file example.three_paths file.two_faults_file file.one_file
      file.other_selection_file _ _ _
      (ascii_unsound file.definition_file _ refl refl refl)
      (ascii_refusal file.definition_file file.two_faults_file _ refl refl refl refl)
      (ascii_refusal file.definition_file file.one_file _ refl refl refl refl)
      (ascii_refusal file.definition_file file.other_selection_file _ refl refl refl refl);
  other_election =
      told_of_one (codes "def.json") file.definition_file (codes "d.json") file.other_election_file
      _ _
      (ascii_unsound file.definition_file _ refl refl refl)
      (ascii_refusal file.definition_file file.other_election_file _ refl refl refl refl)
      refl;
  five_steps_refused =
      told_of_drill (codes "def.json") file.definition_file example.three_paths file.two_faults_file
      file.one_file file.other_selection_file _ _ _ 3 example.seven_steps _
      (ascii_unsound file.definition_file _ refl refl refl)
      (ascii_refusal file.definition_file file.two_faults_file _ refl refl refl refl)
      (ascii_refusal file.definition_file file.one_file _ refl refl refl refl)
      (ascii_refusal file.definition_file file.other_selection_file _ refl refl refl refl)
      refl;
  drill =
      let first = Some (Schema (codes "/CVR/0/UniqueId") Missing) in
      let third = Some (Reference (codes
      "/CVR/0/CVRSnapshot/0/CVRContest/0/CVRContestSelection/0/ContestSelectionId")) in
      run-given file.definition_file example.three_paths example.three_files 3 example.five_steps _
      (ascii_unsound file.definition_file _ refl refl refl)
      (drill-given (frame_in file.definition_file) 3 example.three_files
      (due_by (first_of first None third) 3)
      (due_is (frame_in file.definition_file) 3 file.two_faults_file file.one_file
      file.other_selection_file first None third
      (ascii_refusal file.definition_file file.two_faults_file first refl refl refl refl)
      (ascii_refusal file.definition_file file.one_file None refl refl refl refl)
      (ascii_refusal file.definition_file file.other_selection_file third refl refl refl refl))
      three_devices (starts-given file.definition_file three_devices refl refl)
      (with_second file.two_faults_file of_one_file file.other_selection_file)
      (second-given file.two_faults_file file.one_file file.other_selection_file of_one_file
      (facts-given file.one_file of_one_file refl refl))
      example.five_steps
      ∙ refl);
  definition_refused = told_of_definition (codes "def.json") file.two_faults_file example.three_paths
      example.three_files _ _ (ascii_unsound file.two_faults_file _ refl refl refl) refl;
}
