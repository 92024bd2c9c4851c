use Rattle.cvr_whole.proofs.Volumes.{each_vote, each_ballot}
use Rattle.cvr_whole.proofs.law.no_vote_is_lost.Goals as goal

pub returns : goal.returns
returns c = record { votes = each_vote; ballots = each_ballot }
