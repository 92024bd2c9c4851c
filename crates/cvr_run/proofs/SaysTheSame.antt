-- Whatever was opened, an opener says of paths what it said.
use Rattle.std.proofs.Common.{ℕ, List, inl, inr}
use Rattle.cvr_words.specs.declared.request.Request.{Request}
use Rattle.cvr_run.specs.declared.status.Status.{Status}
use Rattle.cvr_run.specs.Answered.{Does}
use Rattle.cvr_run.specs.Devices.{Devices}
use Rattle.cvr_run.specs.Listed.{DoesListed, ListedRequest}
use Rattle.cvr_run.specs.Opening.{Opener, SaysTheSame}
use Rattle.cvr_run.specs.Worked.{Stop, Unread, NoRoom, CanStop}
use Rattle.cvr_run.proofs.Opened.{opens_same}

stop_same : (old new : Opener) (paths : List (List ℕ)) (stop : Stop) → CanStop old new paths stop
    → SaysTheSame old new
stop_same old new paths (Unread path cause) u = opens_same old new _ u.opened
stop_same old new paths NoRoom u = opens_same old new _ u.opened

pub does_same : (request : Request) (answer : Status) (old new : Devices) (unchanged : Type 0)
    → Does request answer old new unchanged → SaysTheSame old.opener new.opener
does_same request answer old new unchanged (inl (quiet, (line, stops, logs))) =
    stop_same old.opener new.opener _ stops.stop stops.possible
does_same request answer old new unchanged (inr run) = opens_same old.opener new.opener _ run.opened

pub does_listed_same : (asked : ListedRequest) (answer : Status) (old new : Devices)
    (unchanged : Type 0) → DoesListed asked answer old new unchanged
    → SaysTheSame old.opener new.opener
does_listed_same asked answer old new unchanged (inl (quiet, (line, inl stops, logs))) =
    stop_same old.opener new.opener _ stops.stop stops.possible
does_listed_same asked answer old new unchanged (inl (quiet, (line, inr none, logs))) =
    opens_same old.opener new.opener _ none.opened
does_listed_same asked answer old new unchanged (inr (text, read, is, does)) =
    let same = does_same _ answer _ new unchanged does in
    record { at = same.at; may_fail = same.may_fail }
