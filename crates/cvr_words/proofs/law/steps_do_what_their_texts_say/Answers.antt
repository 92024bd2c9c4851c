use Rattle.cvr_words.proofs.DoneSteps.{step_forms, step_places, step_texts}
use Rattle.cvr_words.proofs.OneForm.{one_form}
use Rattle.cvr_words.proofs.law.steps_do_what_their_texts_say.Goals as goal

pub returns : goal.returns
returns c = record {
  texts = step_texts;
  forms = step_forms;
  places = step_places;
  one_form = one_form;
}
