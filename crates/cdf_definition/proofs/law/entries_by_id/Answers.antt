use Rattle.cdf_definition.specs.Laws.{two_of_one_id}
use Rattle.cdf_definition.proofs.ById.{by_id_law, by_id-put}
use Rattle.cdf_definition.proofs.law.entries_by_id.Goals as goal

pub returns : goal.returns
returns c = record { entries = by_id_law; example = by_id-put two_of_one_id }
