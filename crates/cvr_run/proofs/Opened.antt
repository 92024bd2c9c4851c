-- What was read over an opener, and a run that stops at a file that was not read.
use Rattle.std.proofs.Common.{◌≡◌, ◌≢◌, ℕ, ◌<◌, ◌+◌, List, [], ◌∷◌, ◌++◌, length, get_or, take}
use Rattle.std.proofs.Common.{drop, Bool, true, false, Option, Some, None, Result, Ok, Err, IfSome}
use Rattle.std.proofs.Common.{OnOk, IfErr, IsErrAnd, refl, sym, ap, ◌∙◌, subst, append-nil}
use Rattle.std.proofs.Common.{option_map, true≢false, arith}
use Rattle.std.proofs.lemmas.List.{take_more, drop_more, take-append-drop, append_assoc}
use Rattle.cvr_run.specs.declared.file.FileFault.{FileFault}
use Rattle.cvr_run.specs.declared.file.FileFault.TheVariants.{Device}
use Rattle.cvr_run.specs.declared.status.Status.{Status}
use Rattle.cvr_run.specs.declared.status.Status.TheVariants.{Memory}
use Rattle.cvr_run.specs.File.{held_bytes, is_file_device}
use Rattle.cvr_run.specs.Log.{memory_line}
use Rattle.cvr_run.specs.Opening.{At, Unknown, Absent, Has, Opener, has_file, opened_more, IsOpened}
use Rattle.cvr_run.specs.Opening.{IsRead, AreRead, FailedAt, Opens, SaysTheSame}
use Rattle.cvr_run.specs.Worked.{unread_status, unread_line, Stop, Unread, NoRoom, CanStop, Stops}

-- ---- one file

is_read : (at : At) (left : Option (List ℕ)) (bytes : List ℕ) → IsOpened at left
    → IfSome left (λ all. bytes ≡ take held_bytes all) → IsRead at bytes
is_read Unknown left bytes opened given = tt
is_read Absent left bytes opened given = opened
is_read (Has all) left bytes opened given =
    subst (λ o. IfSome o (λ all. bytes ≡ take held_bytes all)) opened given

-- what a source gave is what was read of its file
pub read_of : {T : Type 0} (at : At) (left : Option (List ℕ)) (bytes : List ℕ)
    (answer : Result T FileFault) → IsOpened at left
    → OnOk answer (IfSome left (λ all. bytes ≡ take held_bytes all)) → OnOk answer (IsRead at bytes)
read_of at left bytes (Ok v) opened given = is_read at left bytes opened given
read_of at left bytes (Err e) opened given = tt

pub failed_to_open : (at : At) (may_fail : Bool) → has_file at ≡ false → FailedAt at may_fail
failed_to_open at may_fail none = grind (arith, true≢false)

may_have_failed : (at : At) (may_fail : Bool) → may_fail ≢ false → FailedAt at may_fail
may_have_failed at may_fail may = grind arith

-- where the reading failed by a device, its source has failed, so that it could
pub failed_of : {T : Type 0} (at : At) (may_fail can_fail has_failed : Bool)
    (answer : Result T FileFault)
    → (may_fail ≡ false → can_fail ≡ false) → (can_fail ≡ false → has_failed ≡ false)
    → IfErr answer (λ e. has_failed ≡ is_file_device e)
    → IfErr answer (λ e. is_file_device e ≡ true → FailedAt at may_fail)
failed_of at may_fail can_fail has_failed (Ok v) opened read is_logged = tt
failed_of at may_fail can_fail has_failed (Err e) opened read is_logged =
    λ device. may_have_failed at may_fail
    (λ never. true≢false (sym (is_logged ∙ device) ∙ read (opened never)))

-- what holds of the fault that is handed on
pub at_err : {T E : Type 0} (answer : Result T E) (P Q : E → Type 0) → IsErrAnd answer P
    → ((e : E) → P e → Q e) → IfErr answer Q
at_err (Ok x) P Q is more = tt
at_err (Err e) P Q is more = more e is

-- ---- files in order

read_last : (file_at : List ℕ → At) (paths files : List (List ℕ)) (path file : List ℕ)
    → AreRead file_at paths files → IsRead (file_at path) file
    → AreRead file_at (paths ++ path ∷ []) (files ++ file ∷ [])
read_last file_at [] [] path file before last = (last, tt)
read_last file_at [] (f ∷ files) path file before last = absurd before
read_last file_at (p ∷ paths) [] path file before last = absurd before
read_last file_at (p ∷ paths) (f ∷ files) path file before last =
    (before.0, read_last file_at paths files path file before.1 last)

-- one more of them
pub read_one_more : (file_at : List ℕ → At) (paths : List (List ℕ)) (n : ℕ) (path : List ℕ)
    (files : List (List ℕ)) (file : List ℕ) → n < length paths → path ≡ get_or paths n []
    → AreRead file_at (take n paths) files → IsRead (file_at path) file
    → AreRead file_at (take (n + 1) paths) (files ++ file ∷ [])
read_one_more file_at paths n path files file lt named before last =
    let more : take (n + 1) paths ≡ take n paths ++ path ∷ [] =
    take_more paths n [] lt ∙ ap (λ p. take n paths ++ p ∷ []) (sym named) in
    subst (λ ps. AreRead file_at ps (files ++ file ∷ [])) (sym more)
    (read_last file_at (take n paths) files path file before last)

-- ---- what was opened

none_more : (opened : Option (List (List ℕ))) → opened ≡ option_map (λ is_logged. is_logged ++ []) opened
none_more None = refl
none_more (Some is_logged) = ap (λ (o : List (List ℕ)). Some o) (sym (append-nil is_logged))

twice_more : (opened : Option (List (List ℕ))) (paths more : List (List ℕ))
    → option_map (λ is_logged. is_logged ++ more) (option_map (λ is_logged. is_logged ++ paths) opened)
    ≡ option_map (λ is_logged. is_logged ++ (paths ++ more)) opened
twice_more None paths more = refl
twice_more (Some is_logged) paths more =
    ap (λ (o : List (List ℕ)). Some o) (append_assoc is_logged paths more)

pub opens_none : (old : Opener) → Opens old old []
opens_none old = ap (λ (o : Option (List (List ℕ))). opening old o) (none_more old.opened)
  where
    opening : Opener → Option (List (List ℕ)) → Opener
    opening old o = record old { opened = o }

-- these, and then those
pub more_more : (old : Opener) (paths more : List (List ℕ))
    → opened_more (opened_more old paths) more ≡ opened_more old (paths ++ more)
more_more old paths more =
    ap (λ (o : Option (List (List ℕ))). opening o) (twice_more old.opened paths more)
  where
    opening : Option (List (List ℕ)) → Opener
    opening o = record old { opened = o }

pub opens_both : (old between new : Opener) (paths more : List (List ℕ)) → Opens old between paths
    → Opens between new more → Opens old new (paths ++ more)
opens_both old between new paths more first then =
    then ∙ (ap (λ o. opened_more o more) first ∙ more_more old paths more)

-- the first n of these, and the next one
pub opens_one_more : (old between new : Opener) (paths : List (List ℕ)) (n : ℕ) (path : List ℕ)
    → n < length paths → path ≡ get_or paths n []
    → Opens old between (take n paths) → Opens between new (path ∷ [])
    → Opens old new (take (n + 1) paths)
opens_one_more old between new paths n path lt named first then =
    let more : take (n + 1) paths ≡ take n paths ++ path ∷ [] =
    take_more paths n [] lt ∙ ap (λ p. take n paths ++ p ∷ []) (sym named) in
    subst (Opens old new) (sym more) (opens_both old between new (take n paths) (path ∷ []) first
    then)

-- whatever was opened
pub opens_same : (old new : Opener) (paths : List (List ℕ)) → Opens old new paths
    → SaysTheSame old new
opens_same old new paths opens =
    record {
      at = ap (λ (o : Opener). o.at) opens;
      may_fail = ap (λ (o : Opener). o.may_fail) opens;
    }

-- ---- a run that stops

module _ (old new : Opener) (paths : List (List ℕ)) (answer : Status) where
  among_at : (n : ℕ) (path : List ℕ) → n < length paths → path ≡ get_or paths n []
      → paths ≡ take n paths ++ path ∷ drop (n + 1) paths
  among_at n path lt named =
      sym (take-append-drop n paths)
      ∙ ap (λ rest. take n paths ++ rest)
      (drop_more paths n [] lt ∙ ap (λ p. p ∷ drop (n + 1) paths) (sym named))

  -- at the nth of its paths
  pub stops_at : (n : ℕ) (path : List ℕ) (files : List (List ℕ)) (cause : FileFault)
      → n < length paths → path ≡ get_or paths n [] → AreRead old.at (take n paths) files
      → (is_file_device cause ≡ true → FailedAt (old.at path) (old.may_fail path))
      → (old.at path ≡ Absent → cause ≡ Device) → Opens old new (take n paths ++ path ∷ [])
      → answer ≡ unread_status cause
      → Stops old new paths answer (unread_line path cause)
  stops_at n path files cause lt named read device absent opened is = record {
    stop = Unread path cause;
    possible = record {
      before = take n paths;
      after = drop (n + 1) paths;
      split = among_at n path lt named;
      files = files;
      read = read;
      device = device;
      absent = absent;
      opened = opened;
    };
    status = is;
    said = refl;
  }

  -- where there is no room for the file at the nth
  pub stops_full : (n : ℕ) (path : List ℕ) (files : List (List ℕ)) (file : List ℕ)
      → n < length paths → path ≡ get_or paths n [] → AreRead old.at (take n paths) files
      → IsRead (old.at path) file
      → Opens old new (take n paths ++ path ∷ []) → answer ≡ Memory
      → Stops old new paths answer memory_line
  stops_full n path files file lt named before here opened is = record {
    stop = NoRoom;
    possible = record {
      before = take n paths;
      path = path;
      after = drop (n + 1) paths;
      split = among_at n path lt named;
      files = files ++ file ∷ [];
      read = read_last old.at (take n paths) files path file before here;
      opened = opened;
    };
    status = is;
    said = refl;
  }

  -- at a path before these
  pub stops_first : (path : List ℕ) (cause : FileFault)
      → (is_file_device cause ≡ true → FailedAt (old.at path) (old.may_fail path))
      → (old.at path ≡ Absent → cause ≡ Device) → Opens old new (path ∷ [])
      → answer ≡ unread_status cause
      → Stops old new (path ∷ paths) answer (unread_line path cause)
  stops_first path cause device absent opened is = record {
    stop = Unread path cause;
    possible = record {
      before = [];
      after = paths;
      split = refl;
      files = [];
      read = tt;
      device = device;
      absent = absent;
      opened = opened;
    };
    status = is;
    said = refl;
  }

-- after a path before these was read
module _ (old new : Opener) (path file : List ℕ) (read : IsRead (old.at path) file)
    (paths : List (List ℕ)) where
  can_stop_later : (stop : Stop) → CanStop (opened_more old (path ∷ [])) new paths stop
      → CanStop old new (path ∷ paths) stop
  can_stop_later (Unread at cause) u = record {
    before = path ∷ u.before;
    after = u.after;
    split = ap (λ ps. path ∷ ps) u.split;
    files = file ∷ u.files;
    read = (read, u.read);
    device = u.device;
    absent = u.absent;
    opened = u.opened ∙ more_more old (path ∷ []) (u.before ++ at ∷ []);
  }
  can_stop_later NoRoom u = record {
    before = path ∷ u.before;
    path = u.path;
    after = u.after;
    split = ap (λ ps. path ∷ ps) u.split;
    files = file ∷ u.files;
    read = (read, u.read);
    opened = u.opened ∙ more_more old (path ∷ []) (u.before ++ u.path ∷ []);
  }

  pub stops_later : (between : Opener) (answer : Status) (line : List ℕ)
      → Opens old between (path ∷ []) → Stops between new paths answer line
      → Stops old new (path ∷ paths) answer line
  stops_later between answer line opened stops =
      let s = subst (λ (o : Opener). Stops o new paths answer line) opened stops in
      record {
        stop = s.stop;
        possible = can_stop_later s.stop s.possible;
        status = s.status;
        said = s.said;
      }
