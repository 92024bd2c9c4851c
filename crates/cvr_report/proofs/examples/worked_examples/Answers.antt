use Rattle.std.proofs.Common.{map, ◌∷◌, [], ◌∙◌, refl}
use Rattle.std.specs.Fmt.{digits}
use Rattle.serde_json.proofs.OnLiterals.{serde_json_on_literals}
use Rattle.jiff.proofs.OnLiterals.{jiff_on_literals}
use Rattle.cvr_report.specs.Examples.{county, heading, of_six, second_record}
use Rattle.cvr_report.specs.DeviceExamples.{town, town_heading, of_town, two_devices}
use Rattle.cvr_report.proofs.GivenVolume.{volumes-given, volume-given, record-given}
use Rattle.cvr_report.proofs.examples.worked_examples.Goals as goal

pub returns : goal.returns
unfolding serde_json_on_literals jiff_on_literals digits
returns c = record {
  number = volumes-given of_six ∙ refl;
  first = volume-given of_six county heading 1 ∙ refl;
  second = volume-given of_six county heading 2 ∙ refl;
  third = volume-given of_six county heading 3 ∙ refl;
  current = (λ j. map (λ i. (record-given of_six i second_record j).current) (1 ∷ 2 ∷ 3 ∷ []))
      ∙ refl;
  devices = record {
    number = volumes-given of_town ∙ refl;
    first = volume-given of_town town town_heading 1 ∙ refl;
    second = volume-given of_town town town_heading 2 ∙ refl;
  };
  no_record = record {
    number = volumes-given two_devices ∙ refl;
    only = volume-given two_devices county heading 1 ∙ refl;
    least = volumes-given [] ∙ refl;
  };
}
