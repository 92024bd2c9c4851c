-- An array (`items`) and a scalar stay as they are, and nothing is kept of them; of an object,
-- `found` has none of the items under the name, and what is kept is of these.
use Rattle.std.proofs.Common.{ap, ◌∙◌, arith}
use Rattle.std.proofs.lemmas.Option.{MatchOption-at_some}
use Rattle.serde_json.specs.Data.{array, object}
use Rattle.cdf_node.specs.View.{view, items_view}
use Rattle.cdf_node.proofs.Laws.{sorted_next}
use Rattle.cdf_node.proofs.Lemmas.{view-Array, view-Object}
use Rattle.cdf_pull.proofs.Folding.{left_beside-scalar, ordered}
use Rattle.cdf_pull.proofs.fold.read_beside.Goals as goal

pub returns-in_ok-items-in-BeginArray-clause-value : goal.returns-in_ok-items-in-BeginArray-clause-value
returns-in_ok-items-in-BeginArray-clause-value g c = (
  array (items_view c.in_ok-items-in-BeginArray.items.now),
  grind arith,
  view-Array _,
  c.none.ensures,
  tt,
)

pub returns-in_ok-found-in-BeginObject-clause-value : goal.returns-in_ok-found-in-BeginObject-clause-value
returns-in_ok-found-in-BeginObject-clause-value g c =
    let h = c.in_ok-found-in-BeginObject.ensures.members in (
      object h.0,
      grind (arith, h.1),
      view-Object _
          ∙ ap object h.2,
      h.3,
      ordered (object h.0)
          (MatchOption-at_some _ _ _ h.1 (sorted_next _ _)),
    )

pub returns-in_ok-scalar-in_default-clause-value : goal.returns-in_ok-scalar-in_default-clause-value
returns-in_ok-scalar-in_default-clause-value g c =
    let d = view c.in_ok-scalar-in_default.field-0 in
    let plain = left_beside-scalar c.args.name.now d c.in_ok-scalar-in_default.ensures.scalar in (
      d,
      grind (arith, c.in_ok-scalar-in_default.ensures.value),
      plain.0,
      rw plain.1
          c.none-in_default.ensures,
      plain.2,
    )
