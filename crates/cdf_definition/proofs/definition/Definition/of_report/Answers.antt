use Rattle.std.proofs.Common.{ap, ◌∙◌}
use Rattle.std.specs.Prelude.{codes}
use Rattle.std.specs.List.{list_any}
use Rattle.cdf_node.specs.View.{view}
use Rattle.serde_json.specs.Written.{has_float}
use Rattle.cdf_definition.proofs.OneElection.{whole_at}
use Rattle.cdf_definition.proofs.definition.Definition.of_report.Goals as goal

pub of_items-requires : goal.of_items-requires
of_items-requires c = ap (list_any has_float) c.items_at.ensures
    ∙ whole_at (codes "Election") (view c.args.report.now) c.requires.sound.0

pub of_items-requires-2 : goal.of_items-requires-2
of_items-requires-2 c = ap (list_any has_float) c.items_at-2.ensures
    ∙ whole_at (codes "GpUnit") (view c.args.report.now) c.requires.sound.0

pub of_items-requires-3 : goal.of_items-requires-3
of_items-requires-3 c = ap (list_any has_float) c.items_at-3.ensures
    ∙ whole_at (codes "Party") (view c.args.report.now) c.requires.sound.0

pub of_items-requires-4 : goal.of_items-requires-4
of_items-requires-4 c = ap (list_any has_float) c.items_at-4.ensures
    ∙ whole_at (codes "ReportingDevice") (view c.args.report.now) c.requires.sound.0
