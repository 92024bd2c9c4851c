use Rattle.std.proofs.Common.{◌≡◌, ◌∷◌, [], ◌++◌, length, nat_le, Some, refl, sym, ap, ◌∙◌, subst}
use Rattle.std.specs.Prelude.{codes}
use Rattle.std.specs.Fmt.{digits}
use Rattle.json.specs.Print.{escape_byte}
use Rattle.serde_json.proofs.OnLiterals.{serde_json_on_literals}
use Rattle.jiff.proofs.OnLiterals.{jiff_on_literals}
use Rattle.cdf_types.specs.declared.fault.ReadFault.TheVariants.{Schema}
use Rattle.cdf_types.specs.declared.rule.Rule.TheVariants.{Missing}
use Rattle.cdf_form.specs.Reading.{max_file}
use Rattle.cdf_definition.specs.Acceptance.{Sound, Valid, frame_in, value_in}
use Rattle.cdf_definition.proofs.Lemmas.{frame_put}
use Rattle.cdf_definition.proofs.Laws.{sound_file, valid_file}
use Rattle.cdf_check.specs.FileExamples as file
use Rattle.cdf_check.proofs.Lemmas.{ascii_unsound, ascii_refusal}
use Rattle.cvr_facts.specs.Choosing.{data_of}
use Rattle.cvr_facts.proofs.Lemmas.{at_head, at_tail, value_in-ascii, only_one}
use Rattle.cvr_report.specs.Head.{is_device_of}
use Rattle.cvr_report.specs.Page.{volumes}
use Rattle.cvr_report.specs.Volume.{volume}
use Rattle.cvr_report.proofs.Lemmas.{volume-given, volumes-given}
use Rattle.cvr_run.specs.RunExamples.{spelled_anew}
use Rattle.cvr_run.proofs.Lemmas.{currents-given, facts-given, of_one_file, same_values}
use Rattle.cvr_run.proofs.Lemmas.{starts-given, three_devices}
use Rattle.cvr_whole.specs.Examples.{OneIsClean, TwoAreNot, SameInput, TextOfOne, OneVolume}
use Rattle.cvr_whole.specs.Examples.{definition_anew, heading}
use Rattle.cvr_whole.proofs.OneFile.{frame_is, one_by_value, held_once, held_twice}
use Rattle.cvr_whole.proofs.OneFile.{currents_given, one_volume}
use Rattle.cvr_whole.proofs.examples.worked_examples.Goals as goal

-- ---- the files

def_value : value_in file.definition_file ≡ data_of file.definition_file
unfolding serde_json_on_literals jiff_on_literals digits
def_value = value_in-ascii file.definition_file refl

anew_value : value_in definition_anew ≡ data_of definition_anew
unfolding serde_json_on_literals jiff_on_literals digits
anew_value = value_in-ascii definition_anew refl

def_sound : Sound file.definition_file
unfolding serde_json_on_literals jiff_on_literals digits
def_sound = (sound_file file.definition_file).0
    (ascii_unsound file.definition_file _ refl refl refl)

anew_sound : Sound definition_anew
unfolding serde_json_on_literals jiff_on_literals digits
anew_sound = (sound_file definition_anew).0 (ascii_unsound definition_anew _ refl refl refl)

one_valid : Valid (frame_in file.definition_file) file.one_file
unfolding serde_json_on_literals jiff_on_literals digits
one_valid = (valid_file (frame_in file.definition_file) file.one_file).0
    (ascii_refusal file.definition_file file.one_file _ refl refl refl refl)

one_there : Valid (frame_in definition_anew) file.one_file
unfolding serde_json_on_literals jiff_on_literals digits
one_there = (valid_file (frame_in definition_anew) file.one_file).0
    (ascii_refusal definition_anew file.one_file _ refl refl refl refl)

-- ---- the examples

one_is_clean : OneIsClean
one_is_clean = record {
  sound = def_sound;
  valid = λ f at. subst (Valid (frame_in file.definition_file)) (only_one file.one_file f at)
      one_valid;
  no_fault = refl;
}

two_are_not : TwoAreNot
unfolding serde_json_on_literals jiff_on_literals digits
two_are_not clean =
    let some = ascii_refusal file.definition_file file.two_faults_file
    (Some (Schema (codes "/CVR/0/UniqueId") Missing)) refl refl refl refl in
    let clash = sym some ∙ (valid_file (frame_in file.definition_file) file.two_faults_file).1
    (clean.valid file.two_faults_file
    (at_tail file.one_file file.two_faults_file (file.two_faults_file ∷ [])
    (at_head file.two_faults_file []))) in
    Prim.cc clash

same_input : SameInput
unfolding serde_json_on_literals jiff_on_literals digits
same_input = record {
  task = refl;
  definition = one_by_value file.definition_file definition_anew def_sound anew_sound
      (def_value ∙ sym anew_value);
  files = same_values (frame_in file.definition_file) spelled_anew file.one_file
      file.two_faults_file _
      (ascii_refusal file.definition_file spelled_anew _ refl refl refl refl)
      (ascii_refusal file.definition_file file.one_file _ refl refl refl refl)
      (ascii_refusal file.definition_file file.two_faults_file _ refl refl refl refl)
      (value_in-ascii spelled_anew refl ∙ sym (value_in-ascii file.one_file refl));
}

text_of_one : TextOfOne
unfolding serde_json_on_literals jiff_on_literals digits escape_byte
text_of_one =
    currents_given definition_anew (file.one_file ∷ file.one_file ∷ [])
    (three_devices ++ of_one_file) _ anew_sound
    (held_twice (frame_in definition_anew) file.one_file three_devices of_one_file
    (starts-given definition_anew three_devices refl refl) one_there
    (facts-given file.one_file of_one_file refl refl))
    (currents-given (three_devices ++ of_one_file) ∙ refl)

one_volume_is : OneVolume
unfolding serde_json_on_literals jiff_on_literals digits escape_byte
one_volume_is =
    let held = held_once (frame_in file.definition_file) file.one_file three_devices of_one_file
    (starts-given file.definition_file three_devices refl refl) one_valid
    (facts-given file.one_file of_one_file refl refl) in
    let frame = frame_is file.definition_file def_value in
    one_volume file.definition_file heading (file.one_file ∷ [])
    (record {
      heading = record { moment = refl; text = (heading.date, (refl, refl)) };
      device = ap (λ f. is_device_of f heading.device) frame ∙ refl;
    })
    (ap volumes held ∙ (volumes-given (three_devices ++ of_one_file) ∙ refl))
    ((λ i. nat_le (length (volume (frame i) heading (held i) 1)) max_file)
    ∙ (ap (λ text. nat_le (length text) max_file)
    (volume-given (three_devices ++ of_one_file) (frame_put (data_of file.definition_file)) heading
    1) ∙ refl))

pub returns : goal.returns
returns c = record {
  clean = one_is_clean;
  refused = two_are_not;
  same = same_input;
  text = text_of_one;
  volume = one_volume_is;
}
