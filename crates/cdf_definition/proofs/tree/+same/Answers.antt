use Rattle.std.proofs.Common.{ap, sym, ◌∙◌}
use Rattle.serde_json.specs.Data.{object}
use Rattle.cdf_definition.specs.Tree.{owned_members}
use Rattle.cdf_node.proofs.Lemmas.{view-Object}
use Rattle.cdf_definition.proofs.Trees.{owned-Object, when}
use Rattle.cdf_definition.proofs.tree.+same.Goals as goal

pub same-returns-in-Object-Object : goal.same-returns-in-Object-Object
same-returns-in-Object-Object t c =
    let its = ap owned_members c.deref-in-Object-Object.ensures.value in
    rw (c.in-Object-Object.is-0, c.in-Object-Object.is-1, owned-Object, view-Object)
    (when c.same_members.result (λ e. ap object (sym its ∙ e)) c.same_members.ensures)
