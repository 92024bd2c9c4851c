use Rattle.std.proofs.Common.{refl}
use Rattle.cvr_words.specs.Step.{step_form}
use Rattle.cvr_words.specs.Steps.{bad_place, paths_of, steps_of}
use Rattle.cvr_words.proofs.examples.worked_examples.Goals as goal

pub returns : goal.returns
unfolding step_form bad_place paths_of steps_of
returns c = record {
  imports = refl;
  exchanges = refl;
  no_steps = refl;
  no_exchanges = refl;
  steps = refl;
  paths = refl;
  bad_step = refl;
}
