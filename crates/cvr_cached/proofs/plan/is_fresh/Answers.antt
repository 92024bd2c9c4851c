use Rattle.std.proofs.Common.{◌∙◌, sym, ap}
use Rattle.std.proofs.Math.Bool.{not-not}
use Rattle.std.specs.Prelude.{not}
use Rattle.cvr_lists.proofs.Lemmas.{search_is}
use Rattle.cvr_cached.proofs.plan.is_fresh.Goals as goal

pub returns : goal.returns
returns c = λ rises.
    c.is_err.ensures.value ∙ (sym (not-not _)
    ∙ ap not (sym (search_is c.args.facts.now c.args.fact.now c.binary_search.result rises
    c.binary_search.ensures.bound c.binary_search.ensures.position)))
