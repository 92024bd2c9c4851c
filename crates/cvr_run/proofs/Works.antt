-- Words that ask for nothing else are worked on.
use Rattle.std.proofs.Common.{ℕ, List}
use Rattle.cvr_run.specs.declared.status.Status.{Status}
use Rattle.cvr_run.specs.Devices.{Devices}
use Rattle.cvr_run.specs.Explained.{AsksCode}
use Rattle.cvr_run.specs.Listed.{AsksListed, ListedRequest}
use Rattle.cvr_run.specs.OwnWords.{AsksVersion}
use Rattle.cvr_run.specs.Responds.{Responds, Works}
use Rattle.cvr_run.proofs.CodeWords.{neither}
use Rattle.cvr_run.proofs.ListWords.{only_paths}

pub works_alone : (words : List (List ℕ)) (answer : Status) (old new : Devices)
    (unchanged : Type 0) → ¬ AsksVersion words
    → ((asked : List (List ℕ)) → ¬ AsksCode words asked)
    → ((asked : ListedRequest) → ¬ AsksListed words asked)
    → Works words answer old new unchanged → Responds words answer old new unchanged
works_alone words answer old new unchanged version code list works = record {
  version = λ asks. absurd (version asks);
  explains = λ asked asks. absurd (code asked asks);
  listed = λ asked asks. absurd (list asked asks);
  works = λ _ _ _. works.answers;
  given = λ job given. works.given job (only_paths old.opener.at words job list given);
  asked = works.asked;
  says = works.says;
  unopened = neither words version code;
}
