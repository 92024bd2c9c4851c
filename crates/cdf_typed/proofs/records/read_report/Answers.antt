use Rattle.std.proofs.Common.{ap, ◌∙◌}
use Rattle.std.specs.Prelude.{codes}
use Rattle.std.specs.List.{list_any}
use Rattle.cdf_node.specs.View.{view}
use Rattle.serde_json.specs.Written.{has_float}
use Rattle.cdf_parts.proofs.Laws.{whole_array}
use Rattle.cdf_typed.proofs.records.read_report.Goals as goal

pub read_devices-requires : goal.read_devices-requires
read_devices-requires c = ap (list_any has_float) c.items_at.ensures
    ∙ whole_array (view c.args.report.now) (codes "ReportingDevice") c.requires.whole

pub read_cvrs-requires : goal.read_cvrs-requires
read_cvrs-requires c = ap (list_any has_float) c.items_at-2.ensures
    ∙ whole_array (view c.args.report.now) (codes "CVR") c.requires.whole
