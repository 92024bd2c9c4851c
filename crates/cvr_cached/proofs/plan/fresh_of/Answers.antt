use Rattle.std.proofs.Common.{rules}
use Rattle.std.proofs.lemmas.Fn.{filter_same}
use Rattle.cvr_cached.specs.Fresh.{is_fresh}
use Rattle.cvr_cached.proofs.plan.fresh_of.Goals as goal

pub returns : goal.returns
returns c = filter_same _ (is_fresh c.args.facts.now) _ (λ x b f' k. search rules) _ _
    c.retain.ensures.filtered
