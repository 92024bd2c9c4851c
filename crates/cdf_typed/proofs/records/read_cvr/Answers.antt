use Rattle.std.proofs.Common.{ap, map, ◌∙◌}
use Rattle.std.specs.Prelude.{codes}
use Rattle.std.specs.List.{list_any}
use Rattle.cdf_node.specs.View.{view}
use Rattle.serde_json.specs.Written.{has_float}
use Rattle.cdf_parts.proofs.Laws.{whole_array}
use Rattle.cdf_typed.specs.Typed.{snapshot_of}
use Rattle.cdf_typed.proofs.records.read_cvr.Goals as goal

pub read_snapshots-requires : goal.read_snapshots-requires
read_snapshots-requires c = ap (list_any has_float) c.items_at.ensures
    ∙ whole_array (view c.args.cvr.now) (codes "CVRSnapshot") c.requires

pub returns : goal.returns
returns c =
    let snapshots = c.in_ok-snapshots.ensures
    ∙ ap (map (snapshot_of c.args.contests.now)) c.items_at.ensures in
    λ i. record {
      device = (c.in_ok-device.ensures ∙ c.text_at.ensures) i;
      unique = (c.in_ok-unique.ensures ∙ c.text_at-2.ensures) i;
      unit = (c.in_ok-unit.ensures ∙ c.text_in.ensures) i;
      batch = (c.in_ok-batch.ensures ∙ c.text_in-2.ensures) i;
      body = c.in_ok-body.ensures i;
      snapshots = snapshots i;
    }
