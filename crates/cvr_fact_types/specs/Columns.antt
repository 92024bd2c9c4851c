-- The columns of a tally, and what a ballot adds to each. (NIST SP 1500-103, class CVRContest; that
-- ballots, pending and unassigned votes are columns is this project's own.)
use Rattle.std.specs.Prelude.{ℕ, List, [], ◌∷◌, slice_index}
use Rattle.cvr_fact_types.specs.declared.sums.VoteSums.{VoteSums}

-- a column of each row, or that of a selection, by its place in the contest
pub data Column : Type 0 where
  Ballots : Column
  Overvotes : Column
  Undervotes : Column
  WriteIns : Column
  Pending : Column
  Unassigned : Column
  VotesFor : (place : ℕ) → Column

-- those of each row, in the order in which they are printed
abbrev pub columns : List Column
columns = Ballots ∷ Overvotes ∷ Undervotes ∷ WriteIns ∷ Pending ∷ Unassigned ∷ []

-- what the sums of a ballot add to a column: 1 to ballots, and their own number to every other
abbrev pub worth : Column → VoteSums → ℕ
worth Ballots sums = 1
worth Overvotes sums = sums.overvotes
worth Undervotes sums = sums.undervotes
worth WriteIns sums = sums.write_ins
worth Pending sums = sums.pending
worth Unassigned sums = sums.unassigned
worth (VotesFor place) sums = slice_index sums.votes place

-- the sums of a contest with these numbers in its columns, in their order but for ballots, 0 where
-- the list ends before, and these votes of its selections
abbrev pub sums_from : ℕ → List ℕ → List ℕ → VoteSums
sums_from contest numbers votes = record {
  contest = contest;
  votes = votes;
  overvotes = slice_index numbers 0;
  undervotes = slice_index numbers 1;
  write_ins = slice_index numbers 2;
  pending = slice_index numbers 3;
  unassigned = slice_index numbers 4;
}
