-- Whether a row has room for the sums of a ballot, and whether it has them: column by column.
use Rattle.std.proofs.Common.{zero, suc, [], ◌∷◌, arith}
use Rattle.cvr_fact_types.specs.Columns.{Ballots, Undervotes, VotesFor}
use Rattle.cvr_tally.specs.Rows.{HasRoom, HasSums}
use Rattle.cvr_tally.specs.Examples.{RoomOfARow, SumsOfARow, sums_of_a_ballot, with_ballots}
use Rattle.cvr_tally.specs.Examples.{with_undervotes, with_votes, row_of_a_ballot}

room_for_a_ballot : HasRoom (with_ballots 18_446_744_073_709_551_614) sums_of_a_ballot
room_for_a_ballot (VotesFor zero) = omega arith
room_for_a_ballot (VotesFor (suc zero)) = omega arith
room_for_a_ballot (VotesFor (suc (suc place))) = omega arith
room_for_a_ballot _ = omega arith

room_for_undervotes : HasRoom (with_undervotes 340_282_366_920_938_463_463_374_607_431_768_211_435)
    sums_of_a_ballot
room_for_undervotes (VotesFor zero) = omega arith
room_for_undervotes (VotesFor (suc zero)) = omega arith
room_for_undervotes (VotesFor (suc (suc place))) = omega arith
room_for_undervotes _ = omega arith

room_for_votes : HasRoom (with_votes (600 ∷ 340_282_366_920_938_463_463_374_607_431_768_211_375
    ∷ [])) sums_of_a_ballot
room_for_votes (VotesFor zero) = omega arith
room_for_votes (VotesFor (suc zero)) = omega arith
room_for_votes (VotesFor (suc (suc place))) = omega arith
room_for_votes _ = omega arith

has_just : HasSums row_of_a_ballot sums_of_a_ballot
has_just (VotesFor zero) = omega arith
has_just (VotesFor (suc zero)) = omega arith
has_just (VotesFor (suc (suc place))) = omega arith
has_just _ = omega arith

pub rooms : RoomOfARow
rooms = record {
  last_ballot = room_for_a_ballot;
  no_ballot = λ room. let below = room Ballots in omega (arith, below);
  undervotes = room_for_undervotes;
  no_undervotes = λ room. let below = room Undervotes in omega (arith, below);
  votes = room_for_votes;
  no_votes = λ room. let below = room (VotesFor 1) in omega (arith, below);
}

pub has_sums : SumsOfARow
has_sums = record {
  just = has_just;
  no_ballot = λ has. let below = has Ballots in omega (arith, below);
  few_undervotes = λ has. let below = has Undervotes in omega (arith, below);
  few_votes = λ has. let below = has (VotesFor 1) in omega (arith, below);
}
