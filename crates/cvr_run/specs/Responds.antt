-- What the program ensures of its answer to words. (This project's own.)
use Rattle.std.specs.Prelude.{◌≢◌, ◌⊎◌, ℕ, List, []}
use Rattle.cvr_words.specs.Line.{with_program}
use Rattle.cvr_words.specs.Request.{IsRequest}
use Rattle.cvr_words.specs.declared.request.Request.{Request}
use Rattle.cvr_run.specs.declared.happened.Happened.{Happened}
use Rattle.cvr_run.specs.declared.status.Status.{Status}
use Rattle.cvr_run.specs.declared.status.Status.TheVariants.{CommandLine}
use Rattle.cvr_run.specs.Answered.{Answers, IsGiven}
use Rattle.cvr_run.specs.Devices.{Devices, outputs}
use Rattle.cvr_run.specs.Ends.{Ran}
use Rattle.cvr_run.specs.Explained.{AsksCode, Explains}
use Rattle.cvr_run.specs.Happened.{IsNoted}
use Rattle.cvr_run.specs.Job.{Job}
use Rattle.cvr_run.specs.Listed.{AnswersListed, AsksListed, IsGivenEither, ListedRequest}
use Rattle.cvr_run.specs.Opening.{Opens, SaysTheSame}
use Rattle.cvr_run.specs.Outcome.{IsWhole}
use Rattle.cvr_run.specs.OwnWords.{AsksVersion, PrintsOwn, version_text}

-- the request of the words was done, or it was said why they ask for none
pub record Works (words : List (List ℕ)) (answer : Status) (old new : Devices)
    (unchanged : Type 0) : Type 0 where
  pub answers : Answers words answer old new unchanged
  pub given : (job : Job) → IsGiven old.opener.at words job → IsWhole answer
      → Ran job answer (outputs old) (outputs new)
  pub asked : (request : Request) → IsRequest (with_program words) request → answer ≢ CommandLine
  pub says : SaysTheSame old.opener new.opener

-- the same, where words may also ask for the version, for a code, or for a request by a list
pub record Responds (words : List (List ℕ)) (answer : Status) (old new : Devices)
    (unchanged : Type 0) : Type 0 where
  pub version : AsksVersion words → PrintsOwn version_text answer (outputs old) (outputs new)
  pub explains : (asked : List (List ℕ)) → AsksCode words asked
      → Explains asked answer (outputs old) (outputs new) unchanged
  pub listed : (asked : ListedRequest) → AsksListed words asked
      → AnswersListed asked answer old new unchanged
  pub works : ¬ AsksVersion words → ((asked : List (List ℕ)) → ¬ AsksCode words asked)
      → ((asked : ListedRequest) → ¬ AsksListed words asked)
      → Answers words answer old new unchanged
  pub given : (job : Job) → IsGivenEither old.opener.at words job → IsWhole answer
      → Ran job answer (outputs old) (outputs new)
  pub asked : (request : Request) → IsRequest (with_program words) request → answer ≢ CommandLine
  pub says : SaysTheSame old.opener new.opener
  pub unopened : AsksVersion words ⊎ ((asked : List (List ℕ)) × AsksCode words asked)
      → Opens old.opener new.opener []

-- what happened is noted of each such job, if its run was whole
abbrev pub NotesEach : (Job → Type 0) → Status → Happened → Type 0
NotesEach is answer happened = (job : Job) → is job → IsWhole answer → IsNoted job happened
