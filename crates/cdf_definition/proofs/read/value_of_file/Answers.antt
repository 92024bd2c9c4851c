use Rattle.std.proofs.Common.{rules}
use Rattle.cdf_node.specs.View.{view}
use Rattle.cdf_definition.proofs.Texts.{value_of_text}
use Rattle.cdf_definition.proofs.read.value_of_file.Goals as goal

pub returns-in-Ok-Some-clause-ok : goal.returns-in-Ok-Some-clause-ok
returns-in-Ok-Some-clause-ok c = (
  search rules,
  value_of_text c.args.bytes.now c.in_ok-file_text.field-0.now
      (view c.in-Ok-Some.value) (search rules) (search rules) (search rules),
)
