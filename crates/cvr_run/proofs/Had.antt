-- The files that a run had so far, lent or opened, and where it stops.
use Rattle.std.proofs.Common.{◌≡◌, ℕ, ◌<◌, ◌+◌, List, [], ◌∷◌, ◌++◌, length, get_or, take, true}
use Rattle.std.proofs.Common.{refl, sym, ap, ◌∙◌, subst, arith}
use Rattle.std.proofs.lemmas.List.{take_more, length-take-le, take_all, length-map}
use Rattle.std.specs.Global.{Vec}
use Rattle.cvr_run.specs.declared.file.FileFault.{FileFault}
use Rattle.cvr_run.specs.declared.file.FileFault.TheVariants.{Device}
use Rattle.cvr_run.specs.declared.given.Files.{Files}
use Rattle.cvr_run.specs.declared.given.Files.TheVariants.{Lent, Opened}
use Rattle.cvr_run.specs.declared.status.Status.{Status}
use Rattle.cvr_run.specs.declared.status.Status.TheVariants.{Memory}
use Rattle.cvr_run.specs.File.{is_file_device}
use Rattle.cvr_run.specs.Given.{AreAsMany, AreHad, IsFile, IsFilled, IsThere, StopsAmong}
use Rattle.cvr_run.specs.Given.{StopsBehind}
use Rattle.cvr_run.specs.Log.{memory_line}
use Rattle.cvr_run.specs.Opening.{Absent, FailedAt, IsRead, Opener, Opens}
use Rattle.cvr_run.specs.Outcome.{files_of}
use Rattle.cvr_run.specs.Worked.{unread_line, unread_status, NoRoom}
use Rattle.cvr_run.proofs.Opened.{opens_none, opens_one_more, opens_both, opens_same, read_one_more}
use Rattle.cvr_run.proofs.Opened.{stops_at, stops_full, stops_later}

-- ---- the files so far

pub had_none : (from : Files) (state : Opener) → AreHad from state state [] []
had_none (Lent files) state = refl
had_none Opened state = (tt, opens_none state)

-- one is there for each path
pub there_at : (from : Files) (paths : List (List ℕ)) (n : ℕ) → AreAsMany from paths
    → n < length paths → IsThere from n
there_at (Lent files) paths n many lt = omega (arith, many, lt)
there_at Opened paths n many lt = tt

module _ (old between new : Opener) (paths : List (List ℕ)) (n : ℕ) (path : List ℕ)
    (lt : n < length paths) (named : path ≡ get_or paths n []) where
  pub had_more : (from : Files) (files : List (List ℕ)) (read file : List ℕ)
      → AreAsMany from paths → AreHad from old between (take n paths) files
      → IsFilled from between new path read → IsFile from n read file
      → AreHad from old new (take (n + 1) paths) (files ++ file ∷ [])
  had_more (Lent lent) files read file many had filled is =
      let all = files_of lent.now in
      let as_many : length all ≡ length paths =
      length-map lent.now (λ (f : Vec ℕ). f.items) ∙ sym many in
      let before : length (take n paths) ≡ n = length-take-le n paths (omega (arith, lt)) in
      let now : length (take (n + 1) paths) ≡ n + 1 =
      length-take-le (n + 1) paths (omega (arith, lt)) in
      (λ i. (had ∙ ap (λ k. take k all) before) i ++ is i ∷ [])
      ∙ (sym (take_more all n [] (omega (arith, lt, as_many)))
      ∙ ap (λ k. take k all) (sym now))
  had_more Opened files read file many had filled is = (
    read_one_more old.at paths n path files file lt named had.0
        (subst (λ at. IsRead (at path) file) (opens_same old between (take n paths) had.1).at
        (subst (IsRead (between.at path)) (sym is) filled.0)),
    opens_one_more old between new paths n path lt named had.1 filled.1,
  )

  -- where the next one isn't read
  pub stops_unread : (from : Files) (files : List (List ℕ)) (cause : FileFault) (answer : Status)
      → AreHad from old between (take n paths) files → from ≡ Opened
      → (is_file_device cause ≡ true → FailedAt (between.at path) (between.may_fail path))
      → (between.at path ≡ Absent → cause ≡ Device) → Opens between new (path ∷ [])
      → answer ≡ unread_status cause → StopsAmong from old new paths answer (unread_line path cause)
  stops_unread (Lent lent) files cause answer had is device absent opens status = absurd (cc)
  stops_unread Opened files cause answer had is device absent opens status =
      let same = opens_same old between (take n paths) had.1 in
      stops_at old new paths answer n path files cause lt named had.0
      (subst (λ at. is_file_device cause ≡ true → FailedAt (at path) (old.may_fail path)) same.at
      (subst (λ may. is_file_device cause ≡ true → FailedAt (between.at path) (may path))
      same.may_fail device))
      (subst (λ at. at path ≡ Absent → cause ≡ Device) same.at absent)
      (opens_both old between new (take n paths) (path ∷ []) had.1 opens) status

  -- where there is no room for it
  pub stops_lacking : (from : Files) (files : List (List ℕ)) (read file : List ℕ) (answer : Status)
      → AreHad from old between (take n paths) files → IsFilled from between new path read
      → answer ≡ Memory → StopsAmong from old new paths answer memory_line
  stops_lacking (Lent lent) files read file answer had filled status = (status, refl)
  stops_lacking Opened files read file answer had filled status =
      stops_full old new paths answer n path files read lt named had.0
      (subst (λ at. IsRead (at path) read) (opens_same old between (take n paths) had.1).at filled.0)
      (opens_both old between new (take n paths) (path ∷ []) had.1 filled.1) status

-- ---- behind a file that was read before

pub stops_behind : (from : Files) (old new : Opener) (paths : List (List ℕ)) (answer : Status)
    (line : List ℕ) → StopsAmong from old new paths answer line
    → StopsBehind from old new paths answer line
stops_behind (Lent files) old new paths answer line stops = stops
stops_behind Opened old new paths answer line stops = λ before path file read opens.
    stops_later before new path file read paths old answer line opens stops

-- where nothing more was opened
pub stops_at_once : (from : Files) (state : Opener) (paths : List (List ℕ)) (answer : Status)
    → answer ≡ Memory → StopsBehind from state state paths answer memory_line
stops_at_once (Lent files) state paths answer is = (is, refl)
stops_at_once Opened state paths answer is = λ before path file read opens. record {
  stop = NoRoom;
  possible = record {
    before = [];
    path = path;
    after = paths;
    split = refl;
    files = file ∷ [];
    read = (read, tt);
    opened = opens;
  };
  status = is;
  said = refl;
}

-- lent files are had whole
pub had_all : (files : List (Vec ℕ)) (paths had : List (List ℕ))
    → length paths ≡ length files → had ≡ take (length paths) (files_of files) → had ≡ files_of files
had_all files paths had many is =
    is ∙ take_all (length paths) (files_of files)
    (omega (arith, many, length-map files (λ (f : Vec ℕ). f.items)))
