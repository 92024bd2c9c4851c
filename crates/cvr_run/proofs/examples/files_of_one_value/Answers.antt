use Rattle.std.proofs.Common.{refl, sym, ◌∙◌}
use Rattle.std.specs.Fmt.{digits}
use Rattle.serde_json.proofs.OnLiterals.{serde_json_on_literals}
use Rattle.jiff.proofs.OnLiterals.{jiff_on_literals}
use Rattle.cdf_definition.specs.Acceptance.{frame_in}
use Rattle.cdf_check.specs.FileExamples as file
use Rattle.cdf_check.proofs.Lemmas.{ascii_refusal}
use Rattle.cvr_run.specs.RunExamples as example
use Rattle.cvr_run.proofs.GivenValues.{same_values}
use Rattle.cvr_facts.proofs.Lemmas.{value_in-ascii}
use Rattle.cvr_run.proofs.examples.files_of_one_value.Goals as goal

pub returns : goal.returns
unfolding serde_json_on_literals jiff_on_literals digits
returns c =
    same_values (frame_in file.definition_file) example.spelled_anew file.one_file file.two_faults_file
    _
    (ascii_refusal file.definition_file example.spelled_anew _ refl refl refl refl)
    (ascii_refusal file.definition_file file.one_file _ refl refl refl refl)
    (ascii_refusal file.definition_file file.two_faults_file _ refl refl refl refl)
    (value_in-ascii example.spelled_anew refl ∙ sym (value_in-ascii file.one_file refl))
