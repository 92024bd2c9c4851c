use Rattle.std.proofs.Common.{arith}
use Rattle.serde_json.specs.Data.{array, object}
use Rattle.cdf_node.specs.View.{view, items_of, members_view}
use Rattle.cdf_node.proofs.Lemmas.{view-Array, view-Object}
use Rattle.cdf_pull.proofs.Folding.{list_of-items_of, without_items-scalar}
use Rattle.cdf_pull.proofs.fold.read_emptied.Goals as goal

pub returns-in_ok-kept-in-BeginArray-clause-value : goal.returns-in_ok-kept-in-BeginArray-clause-value
returns-in_ok-kept-in-BeginArray-clause-value g c =
    let h = c.in_ok-kept-in-BeginArray.ensures.items in
    (array (items_of h.0), grind (arith, h.1), view-Array _, rw list_of-items_of h.2)

pub returns-in_ok-found-in-BeginObject-clause-value : goal.returns-in_ok-found-in-BeginObject-clause-value
returns-in_ok-found-in-BeginObject-clause-value g c = (
  object (members_view c.in_ok-found-in-BeginObject.found.now),
  grind arith,
  view-Object _,
  c.none.ensures,
)

pub returns-in_ok-scalar-in_default-clause-value : goal.returns-in_ok-scalar-in_default-clause-value
returns-in_ok-scalar-in_default-clause-value g c =
    let d = view c.in_ok-scalar-in_default.field-0 in
    let plain = without_items-scalar d c.in_ok-scalar-in_default.ensures.scalar in (
      d,
      grind (arith, c.in_ok-scalar-in_default.ensures.value),
      plain.0,
      rw plain.1
          c.none-in_default.ensures,
    )
