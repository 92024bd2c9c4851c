-- Worked examples: a clean run, two that hold the same, and a volume in the place of a file. (This
-- project's own.)
use Rattle.std.specs.Prelude.{◌≡◌, ℕ, List, [], ◌∷◌, ◌++◌, codes}
use Rattle.cdf_check.specs.FileExamples as file
use Rattle.cvr_report.specs.Head.{Head}
use Rattle.cvr_words.specs.declared.request.Task.TheVariants.{Currents}
use Rattle.cvr_run.specs.Ends.{job_text}
use Rattle.cvr_run.specs.Job.{Job}
use Rattle.cvr_run.specs.RunExamples.{spelled_anew}
use Rattle.cvr_whole.specs.Runs.{HaveSameInput, IsClean}
use Rattle.cvr_whole.specs.Volumes.{AreVolumes}

-- ---- jobs

-- the current snapshots of these files under this definition
abbrev pub currents_of : List ℕ → List (List ℕ) → Job
currents_of def files = record {
  request = record { task = Currents; def = codes "def.json"; paths = [] };
  def = def;
  files = files;
}

-- a file that is accepted is clean, and beside one that is refused it isn't
abbrev pub OneIsClean : Type 0
OneIsClean = IsClean (currents_of file.definition_file (file.one_file ∷ []))

abbrev pub TwoAreNot : Type 0
TwoAreNot =
    ¬ IsClean (currents_of file.definition_file (file.one_file ∷ file.two_faults_file ∷ []))

-- ---- the same input

-- the definition, with a line feed before it
abbrev pub definition_anew : List ℕ
definition_anew = codes "\n" ++ file.definition_file

-- the same record, with other bytes and beside a refused file, and given twice: one input
abbrev pub SameInput : Type 0
SameInput = HaveSameInput
    (currents_of file.definition_file (spelled_anew ∷ file.two_faults_file ∷ []))
    (currents_of definition_anew (file.one_file ∷ file.one_file ∷ []))

-- of which this is printed
abbrev pub TextOfOne : Type 0
TextOfOne = job_text (currents_of definition_anew (file.one_file ∷ file.one_file ∷ []))
    ≡ codes "\"s1\" \"u1\" \"a\" original\n"

-- ---- a volume

abbrev pub heading : Head
heading = record { date = codes "2024-11-07T18:00:00-05:00"; device = codes "desk" }

-- of this file there is one volume, which is short enough for a file
abbrev pub OneVolume : Type 0
OneVolume = AreVolumes file.definition_file heading (file.one_file ∷ []) (1 ∷ [])
