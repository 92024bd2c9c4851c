use Rattle.cdf_definition.proofs.Resolving.{references}
use Rattle.cdf_definition.proofs.Agreeing.{agreement}
use Rattle.cdf_definition.proofs.Sounding.{sound}
use Rattle.cdf_definition.proofs.Accepting.{value_law, sound_file, valid_file}
use Rattle.cdf_definition.proofs.law.acceptance.Goals as goal

pub returns : goal.returns
returns c = record {
  references = references;
  agreement = agreement;
  sound = sound;
  value = value_law;
  sound_file = sound_file;
  valid_file = valid_file;
}
