-- How a run over an opener goes: the definition and the files are read, in order, and it runs over
-- them; or it stops at the first that is not read. (This project's own.)
use Rattle.std.specs.Prelude.{◌≡◌, ℕ, List, [], ◌∷◌, ◌++◌, codes, Some, true, false}
use Rattle.cvr_run.specs.declared.file.FileFault.{FileFault}
use Rattle.cvr_run.specs.declared.file.FileFault.TheVariants.{Device, Memory}
use Rattle.cvr_words.specs.declared.request.Request.{Request}
use Rattle.cvr_run.specs.declared.status.Status.{Status}
use Rattle.cvr_run.specs.declared.status.Status.TheVariants as status
use Rattle.cvr_run.specs.Devices.{Devices, outputs}
use Rattle.cvr_run.specs.Ends.{Ran}
use Rattle.cvr_run.specs.File.{is_file_device}
use Rattle.cvr_run.specs.Log.{memory_line}
use Rattle.cvr_run.specs.Opening.{Absent, Has, Opener, AreRead, FailedAt, Opens}

-- ---- a file that is not read

-- the status of a run that stops there
abbrev pub unread_status : FileFault → Status
unread_status Device = status.Device
unread_status Memory = status.Memory

-- its line: the path, as it was given, and the cause
abbrev pub unread_line : List ℕ → FileFault → List ℕ
unread_line path Device = path ++ codes ": K1\n"
unread_line path Memory = path ++ codes ": K2\n"

-- of these paths this is the first whose file was not read: since a device failed; or since memory
-- ran out, unless the opener says that no file is there. Those up to it were opened, and no other
pub record IsUnread (old new : Opener) (paths : List (List ℕ)) (path : List ℕ)
    (cause : FileFault) : Type 0 where
  pub before : List (List ℕ)
  pub after : List (List ℕ)
  pub split : paths ≡ before ++ path ∷ after
  pub files : List (List ℕ)
  pub read : AreRead old.at before files
  pub device : is_file_device cause ≡ true → FailedAt (old.at path) (old.may_fail path)
  pub absent : old.at path ≡ Absent → cause ≡ Device
  pub opened : Opens old new (before ++ path ∷ [])

-- ---- a run that stops

-- of these paths the first ones, one or more, were opened and read, and no other
pub record AreSomeRead (old new : Opener) (paths : List (List ℕ)) : Type 0 where
  pub before : List (List ℕ)
  pub path : List ℕ
  pub after : List (List ℕ)
  pub split : paths ≡ before ++ path ∷ after
  pub files : List (List ℕ)
  pub read : AreRead old.at (before ++ path ∷ []) files
  pub opened : Opens old new (before ++ path ∷ [])

-- why it stops: a file was not read; or, once one was read, what is kept of it had no room
pub data Stop : Type 0 where
  Unread : (path : List ℕ) → (cause : FileFault) → Stop
  NoRoom : Stop

abbrev pub CanStop : Opener → Opener → List (List ℕ) → Stop → Type 0
CanStop old new paths (Unread path cause) = IsUnread old new paths path cause
CanStop old new paths NoRoom = AreSomeRead old new paths

abbrev pub stop_status : Stop → Status
stop_status (Unread path cause) = unread_status cause
stop_status NoRoom = status.Memory

abbrev pub stop_line : Stop → List ℕ
stop_line (Unread path cause) = unread_line path cause
stop_line NoRoom = memory_line

-- the run stops over these paths, with this answer and this line for the log
pub record Stops (old new : Opener) (paths : List (List ℕ)) (answer : Status)
    (line : List ℕ) : Type 0 where
  pub stop : Stop
  pub possible : CanStop old new paths stop
  pub status : answer ≡ stop_status stop
  pub said : line ≡ stop_line stop

-- ---- a run over what was read: each path was opened once, in order

-- each path was opened once, in order; its file was read, and the run went over these bytes
pub record Runs (request : Request) (answer : Status) (old new : Devices) : Type 0 where
  pub def : List ℕ
  pub files : List (List ℕ)
  pub read : AreRead old.opener.at (request.def ∷ request.paths) (def ∷ files)
  pub opened : Opens old.opener new.opener (request.def ∷ request.paths)
  pub ran : Ran (record { request = request; def = def; files = files }) answer (outputs old)
      (outputs new)

-- ---- an example

-- an opener says that a file stands at `d`, that none does at `a`, and that no reading fails
pub record HasOnlyD (opener : Opener) : Type 0 where
  pub d : opener.at (codes "d") ≡ Has (1 ∷ 2 ∷ [])
  pub a : opener.at (codes "a") ≡ Absent
  pub reads : opener.may_fail (codes "d") ≡ false
  pub opened : opener.opened ≡ Some []

-- a run over `d`, `a` and `b` that stops with Device reports `a`, and opened `d` and `a` alone
pub record StopsAtA (new : Opener) (line : List ℕ) : Type 0 where
  pub said : line ≡ codes "a: K1\n"
  pub opened : new.opened ≡ Some (codes "d" ∷ codes "a" ∷ [])

abbrev pub TheMissingIsReported : Type 0
TheMissingIsReported =
    (old new : Opener) (line : List ℕ) → HasOnlyD old
    → Stops old new (codes "d" ∷ codes "a" ∷ codes "b" ∷ []) status.Device line → StopsAtA new line
