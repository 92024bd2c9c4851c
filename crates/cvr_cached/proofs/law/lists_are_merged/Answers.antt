use Rattle.cvr_cached.proofs.MergedFacts.{merged_put}
use Rattle.cvr_cached.proofs.law.lists_are_merged.Goals as goal

pub returns : goal.returns
returns c = merged_put
