use Rattle.std.proofs.Common.{subst}
use Rattle.cdf_node.specs.View.{view}
use Rattle.cdf_definition.specs.Lists.{AreListsOf, HasLists}
use Rattle.cdf_definition.proofs.OneElection.{has_lists}
use Rattle.cdf_definition.proofs.Trees.{when}
use Rattle.cdf_definition.proofs.definition.Definition.has_lists.Goals as goal

pub returns : goal.returns
returns c =
    let d = view c.args.value.now in
    when c.are_in.result (λ a. subst (λ f. HasLists f d) c.self.view_is
    (has_lists _ _ d c.self.invariant (subst (λ l. AreListsOf l d) c.as_ref.ensures a)))
    c.are_in.ensures
