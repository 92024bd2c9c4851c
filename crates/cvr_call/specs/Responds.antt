-- What the program answers to words over given files. (This project's own.)
use Rattle.std.specs.Prelude.{◌≡◌, ◌⊎◌, ◌++◌, ℕ, Bool, List, [], Some, false}
use Rattle.cdf_types.specs.Device.{Taken}
use Rattle.cvr_run.specs.declared.status.Status.{Status}
use Rattle.cvr_run.specs.Devices.{Devices}
use Rattle.cvr_run.specs.OwnWords.{AsksVersion, version_text}
use Rattle.cvr_run.specs.Responds.{Responds}
use Rattle.cvr_call.specs.Given.{File, Given, opener_over}

-- a status, what was printed, and what was logged
pub record Answer : Type 0 where
  pub status : Status
  pub text : List ℕ
  pub log : List ℕ

-- an output that took these bytes, and has failed or not
abbrev pub holding : List ℕ → Bool → Taken
holding bytes failed = record { bytes = Some bytes; failed = failed }

-- the devices of a run over files that has printed and logged this, and whether they failed
abbrev pub devices_with : List File → Taken → Taken → Devices
devices_with files out log = record { opener = opener_over files; out = out; log = log }

-- the program did this for the words over the files, from empty outputs on
abbrev pub Did : Given → Status → Taken → Taken → Type 0 → Type 0
Did given status out log unchanged = Responds given.words status
    (devices_with given.files (holding [] false) (holding [] false))
    (devices_with given.files out log) unchanged

-- the program's answer to the words over the files: neither output failed
abbrev pub IsAnswer : Given → Answer → Type 0
IsAnswer given answer = Did given answer.status (holding answer.text false)
    (holding answer.log false) (answer.text ≡ [])

-- the program did this for them, also where an output had no memory for more
pub record IsBegun (given : Given) (text log : List ℕ) : Type 0 where
  pub status : Status
  pub text_failed : Bool
  pub log_failed : Bool
  pub did : Did given status (holding text text_failed) (holding log log_failed) (text ≡ [])

-- what was printed and logged before memory ran out: nothing, where it did for the input itself
abbrev pub IsSoFar : Given → List ℕ → List ℕ → Type 0
IsSoFar given text log = ((text ≡ []) × (log ≡ [])) ⊎ IsBegun given text log

-- so where words ask for the version, a text is how the version begins
abbrev pub VersionCut : Type 0
VersionCut = (given : Given) → AsksVersion given.words → (text log : List ℕ)
    → IsSoFar given text log → (rest : List ℕ) × (text ++ rest ≡ version_text)
