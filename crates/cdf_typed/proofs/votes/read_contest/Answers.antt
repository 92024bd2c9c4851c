use Rattle.std.proofs.Common.{◌∙◌, map, ap}
use Rattle.cdf_node.specs.View.{view}
use Rattle.cdf_parts.specs.Places.{selections_of}
use Rattle.cdf_typed.specs.Typed.{selection_vote_of}
use Rattle.cdf_typed.proofs.votes.read_contest.Goals as goal

pub returns : goal.returns
returns c =
    let contests = c.args.contests.now in
    let told = ap (λ ids. map (λ v. selection_vote_of ids (view v)) c.selections.result.now)
    (c.selections_of-ids.ensures ∙ ap (selections_of contests) c.text_at.ensures) in
    let selections = c.in_ok-read_selections.ensures ∙ told ∙ c.selections.ensures contests in
    λ i. record {
      contest = (c.unwrap_or.ensures ∙ c.contest.ensures.place) i;
      overvotes = c.overvotes.ensures contests i;
      undervotes = c.undervotes.ensures contests i;
      write_ins = c.write_ins.ensures contests i;
      selections = selections i;
    }
