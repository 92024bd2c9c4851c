use Rattle.std.proofs.Common.{◌≡◌, ap, ◌∙◌}
use Rattle.cvr_fact_types.specs.Columns.{VotesFor}
use Rattle.cvr_tally.specs.declared.row.Row.{Row}
use Rattle.cvr_tally.proofs.row.take_from.Goals as goal

pub take_votes-requires-clause-has : goal.take_votes-requires-clause-has
take_votes-requires-clause-has c place =
    let votes : c.as_mut_slice.result.now ≡ c.args.row.now.votes =
    c.as_mut_slice.ensures.value ∙ ap (λ (r : Row). r.votes) c.row.view_is in
    rw (votes, c.as_slice.ensures) (c.requires.has (VotesFor place))
