use Rattle.std.specs.Prelude.{codes}
use Rattle.cdf_node.specs.View.{view}
use Rattle.cdf_form.specs.Found.{path_of}
use Rattle.cdf_definition.proofs.Entries.{all_named}
use Rattle.cdf_definition.proofs.rest.generated_by.Goals as goal

pub returns : goal.returns
returns c = all_named path_of c.args.devices.now (codes "ReportGeneratingDeviceIds")
    (view c.args.value.now) c.in_ok-found.found c.is_none.result c.in_ok-found.ensures
    c.is_none.ensures
