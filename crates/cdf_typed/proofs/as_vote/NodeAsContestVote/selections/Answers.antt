use Rattle.std.proofs.Common.{map, codes, sym, ap, ◌∙◌}
use Rattle.std.proofs.lemmas.Simd.{map-map}
use Rattle.cdf_node.specs.View.{view}
use Rattle.cdf_parts.specs.Parts.{text_at}
use Rattle.cdf_parts.specs.Places.{selections_of}
use Rattle.cdf_typed.specs.Typed.{selection_vote_of}
use Rattle.cdf_typed.proofs.as_vote.NodeAsContestVote.selections.Goals as goal

pub returns : goal.returns
returns c contests =
    let told = selection_vote_of (selections_of contests
    (text_at (codes "ContestId") (view c.args.self.now))) in
    sym (map-map told view c.items_at.result.now) ∙ ap (map told) c.items_at.ensures
