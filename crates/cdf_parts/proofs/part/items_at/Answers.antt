use Rattle.std.proofs.Common.{[], option_map, ap, ◌∙◌}
use Rattle.std.specs.Prelude.{unwrap_or}
use Rattle.cdf_node.specs.Items.{list_of}
use Rattle.cdf_parts.proofs.PartsOf.{items_or_none}
use Rattle.cdf_parts.proofs.part.items_at.Goals as goal

pub returns : goal.returns
returns c =
    items_or_none c.items_in.result c.unwrap_or_default.result c.unwrap_or_default.ensures
    ∙ ap (λ o. unwrap_or (option_map list_of o) []) c.items_in.ensures
