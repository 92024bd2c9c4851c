-- What a run makes of the files that it has taken so far. (This project's own.)
use Rattle.std.specs.Prelude.{◌≡◌, ℕ, List, length, false}
use Rattle.std.specs.List.{list_any}
use Rattle.cdf_definition.specs.Frame.{Frame}
use Rattle.cvr_office.specs.declared.event.Outcome.{Outcome}
use Rattle.cvr_run.specs.Refusals.{is_want, AreDue}
use Rattle.cvr_run.specs.Logged.{file_dues}

-- each file has a path and the outcome that is due; and unless memory ran out for one, this holds
pub record AreTaken (definition : Frame) (paths files : List (List ℕ)) (outcomes : List Outcome)
    (fact : Type 0) : Type 0 where
  pub named : length paths ≡ length files
  pub due : AreDue (file_dues definition files) outcomes
  pub made : list_any is_want outcomes ≡ false → fact
