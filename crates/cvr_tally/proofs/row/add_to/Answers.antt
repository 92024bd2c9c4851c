use Rattle.std.proofs.Common.{◌≡◌, ap, ◌∙◌}
use Rattle.cvr_fact_types.specs.Columns.{VotesFor}
use Rattle.cvr_tally.specs.declared.row.Row.{Row}
use Rattle.cvr_tally.proofs.row.add_to.Goals as goal

pub add_votes-requires-clause-room : goal.add_votes-requires-clause-room
add_votes-requires-clause-room c place =
    let votes : c.as_mut_slice.result.now ≡ c.args.row.now.votes =
    c.as_mut_slice.ensures.value ∙ ap (λ (r : Row). r.votes) c.row.view_is in
    rw (votes, c.as_slice.ensures) (c.requires.room (VotesFor place))
