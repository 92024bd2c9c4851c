use Rattle.std.proofs.Common.{option_map, ◌∙◌}
use Rattle.cdf_typed.proofs.votes.read_selection.Goals as goal

pub returns : goal.returns
returns c =
    let positions =
    c.in_ok-read_positions.ensures ∙ c.positions.ensures (option_map (λ i. i.now) c.args.ids) in
    λ i. record { selection = c.selection.ensures i; positions = positions i }
