use Rattle.std.proofs.Common.{refl}
use Rattle.std.specs.Prelude.{codes}
use Rattle.std.specs.Fmt.{digits}
use Rattle.serde_json.proofs.OnLiterals.{serde_json_on_literals}
use Rattle.jiff.proofs.OnLiterals.{jiff_on_literals}
use Rattle.cdf_check.specs.FileExamples as file
use Rattle.cdf_check.proofs.Lemmas.{ascii_unsound, ascii_refusal}
use Rattle.cvr_run.specs.RunExamples as example
use Rattle.cvr_run.proofs.GivenChecks.{check-given}
use Rattle.cvr_run.proofs.examples.lines_of_check.Goals as goal

pub returns : goal.returns
unfolding serde_json_on_literals jiff_on_literals digits
returns c =
    check-given file.definition_file (codes "a.json") (codes "b.json") (codes "c.json")
    file.one_file file.two_faults_file example.three_records_file _ _
    (ascii_unsound file.definition_file _ refl refl refl)
    (ascii_refusal file.definition_file file.one_file _ refl refl refl refl)
    (ascii_refusal file.definition_file file.two_faults_file _ refl refl refl refl)
    (ascii_refusal file.definition_file example.three_records_file _ refl refl refl refl)
    refl refl refl
