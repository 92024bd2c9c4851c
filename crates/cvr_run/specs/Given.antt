-- The files of a run, lent or opened. (This project's own.)
use Rattle.std.specs.Prelude.{◌≡◌, ◌<◌, ◌⊎◌, ℕ, List, [], ◌∷◌, length, take}
use Rattle.std.specs.Prelude.{slice_index_or}
use Rattle.cvr_run.specs.declared.given.Files.{Files}
use Rattle.cvr_run.specs.declared.given.Files.TheVariants.{Lent, Opened}
use Rattle.cvr_run.specs.declared.status.Status.{Status}
use Rattle.cvr_run.specs.declared.status.Status.TheVariants.{Memory}
use Rattle.cvr_run.specs.Devices.{Devices}
use Rattle.cvr_run.specs.Log.{memory_line}
use Rattle.cvr_run.specs.Opening.{Opener, AreRead, IsRead, Opens}
use Rattle.cvr_run.specs.Outcome.{files_of, IsWhole}
use Rattle.cvr_run.specs.Logged.{LogsSome}
use Rattle.cvr_run.specs.Worked.{Stops}

-- ---- one file

-- where they are lent, one stands at this place
abbrev pub IsThere : Files → ℕ → Type 0
IsThere (Lent files) place = place < length files.now
IsThere Opened place = Unit {0}

-- where they are opened, the one at this path was, and these bytes were read of it
abbrev pub IsFilled : Files → Opener → Opener → List ℕ → List ℕ → Type 0
IsFilled (Lent files) old new path bytes = Unit {0}
IsFilled Opened old new path bytes = IsRead (old.at path) bytes × Opens old new (path ∷ [])

-- this is the file at the place: the lent one, or what was read last
abbrev pub IsFile : Files → ℕ → List ℕ → List ℕ → Type 0
IsFile (Lent files) place read file = file ≡ slice_index_or (files_of files.now) place []
IsFile Opened place read file = file ≡ read

-- ---- all

-- where they are lent, there are as many as paths
abbrev pub AreAsMany : Files → List (List ℕ) → Type 0
AreAsMany (Lent files) paths = length paths ≡ length files.now
AreAsMany Opened paths = Unit {0}

-- at these paths a run had these files, and no other: they were lent, or each was opened and read
abbrev pub AreHad : Files → Opener → Opener → List (List ℕ) → List (List ℕ) → Type 0
AreHad (Lent lent) old new paths files = files ≡ take (length paths) (files_of lent.now)
AreHad Opened old new paths files = AreRead old.at paths files × Opens old new paths

-- a run stops before it had all: where they are lent, only since memory ran out
abbrev pub StopsAmong : Files → Opener → Opener → List (List ℕ) → Status → List ℕ → Type 0
StopsAmong (Lent files) old new paths answer line = (answer ≡ Memory) × (line ≡ memory_line)
StopsAmong Opened old new paths answer line = Stops old new paths answer line

-- the same of a run that has read a file before these
abbrev pub StopsBehind : Files → Opener → Opener → List (List ℕ) → Status → List ℕ → Type 0
StopsBehind (Lent files) old new paths answer line = (answer ≡ Memory) × (line ≡ memory_line)
StopsBehind Opened old new paths answer line =
    (before : Opener) (path file : List ℕ) → IsRead (before.at path) file
    → Opens before old (path ∷ []) → Stops before new (path ∷ paths) answer line

-- a run stops, and the output stays unchanged; or it had these files, and of them this holds
abbrev pub StopsOr : Files → List (List ℕ) → Status → Devices → Devices → Type 0
    → (List (List ℕ) → Type 0) → Type 0
StopsOr from paths answer old new unchanged P =
    (unchanged × LogsSome (StopsBehind from old.opener new.opener paths answer) old.log new.log)
    ⊎ ((files : List (List ℕ)) × AreHad from old.opener new.opener paths files × P files)

-- a run that is whole had these files, and of them this holds
abbrev pub HadWhole : Files → List (List ℕ) → Status → Opener → Opener → (List (List ℕ) → Type 0)
    → Type 0
HadWhole from paths answer old new P =
    IsWhole answer → (files : List (List ℕ)) × AreHad from old new paths files × P files
