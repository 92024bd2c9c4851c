-- All volumes of files, in the place of the files. (This project's own.)
use Rattle.std.specs.Prelude.{◌≡◌, ◌≤◌, ℕ, List, map, length}
use Rattle.std.specs.List.{Contains}
use Rattle.cdf_form.specs.Reading.{max_file}
use Rattle.cdf_definition.specs.Acceptance.{Sound, frame_in}
use Rattle.cvr_fact_types.specs.Facts.{Facts}
use Rattle.cvr_report.specs.Head.{Head}
use Rattle.cvr_report.specs.Page.{volumes}
use Rattle.cvr_exchange.specs.Passing.{CanHead, AreAllTo}
use Rattle.cvr_words.specs.declared.request.Task.{Task}
use Rattle.cvr_run.specs.Merge.{merge_text}
use Rattle.cvr_run.specs.Outcome.{content_of_files, run_text}
use Rattle.cvr_whole.specs.Runs.{IsOfAllFiles}

-- what is held of files under a definition
abbrev pub held : List ℕ → List (List ℕ) → Facts
held def files = content_of_files (frame_in def) files

-- what `merge` prints of files under a heading: the volume of each of these numbers
abbrev pub merged : List ℕ → Head → List (List ℕ) → List ℕ → List (List ℕ)
merged def head files numbers =
    map (λ i. merge_text (frame_in def) head.date head.device i (held def files)) numbers

-- the numbers of all volumes, in any order and with any repeats; each is short enough for a file
pub record AreVolumes (def : List ℕ) (head : Head) (files : List (List ℕ))
    (numbers : List ℕ) : Type 0 where
  pub heading : CanHead (frame_in def) head
  pub all : AreAllTo (volumes (held def files)) numbers
  pub short : (file : List ℕ) → Contains (merged def head files numbers) file
      → length file ≤ max_file

-- used as files, these volumes hold what the files hold
abbrev pub VolumesHoldLaw : Type 0
VolumesHoldLaw = (def : List ℕ) (head : Head) (files : List (List ℕ)) (numbers : List ℕ)
    → Sound def → AreVolumes def head files numbers
    → held def (merged def head files numbers) ≡ held def files

-- so a run over them prints what one over the files does
abbrev pub VolumesTextLaw : Type 0
VolumesTextLaw = (task : Task) (def : List ℕ) (head : Head) (paths other_paths : List (List ℕ))
    (files : List (List ℕ)) (numbers : List ℕ)
    → IsOfAllFiles task → Sound def → AreVolumes def head files numbers
    → run_text task def other_paths (merged def head files numbers) ≡ run_text task def paths files
