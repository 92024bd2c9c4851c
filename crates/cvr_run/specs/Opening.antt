-- What an opener says of its files, and what was read of them. (This project's own.)
use Rattle.std.specs.Prelude.{◌≡◌, ℕ, List, [], ◌∷◌, ◌++◌, take, map, Bool, true, false, Option}
use Rattle.std.specs.Prelude.{Some, option_map, codes}
use Rattle.cvr_run.specs.File.{held_bytes}

-- what an opener says of a path: nothing; that no file is there, which it finds out without memory;
-- or that a file is there, with these bytes
pub data At : Type 0 where
  Unknown : At
  Absent : At
  Has : (bytes : List ℕ) → At

-- it says that a file is there
abbrev pub has_file : At → Bool
has_file (Has bytes) = true
has_file at = false

-- a file was opened, with this left to read: all of its bytes
abbrev pub IsOpened : At → Option (List ℕ) → Type 0
IsOpened Unknown left = Unit {0}
IsOpened Absent left = ⊥
IsOpened (Has bytes) left = left ≡ Some bytes

-- these bytes were read: those of the file, as far as a file is held
abbrev pub IsRead : At → List ℕ → Type 0
IsRead Unknown bytes = Unit {0}
IsRead Absent bytes = ⊥
IsRead (Has all) bytes = bytes ≡ take held_bytes all

-- at each path its file was read
abbrev pub AreRead : (List ℕ → At) → List (List ℕ) → List (List ℕ) → Type 0
AreRead file_at [] [] = Unit {0}
AreRead file_at (path ∷ paths) (file ∷ files) =
    IsRead (file_at path) file × AreRead file_at paths files
AreRead file_at paths files = ⊥

-- at each path there is its file
abbrev pub AreAt : (List ℕ → At) → List (List ℕ) → List (List ℕ) → Type 0
AreAt file_at paths files = map file_at paths ≡ map Has files

-- a device can have failed at a path: where a file is there, only if its reading may fail
abbrev pub FailedAt : At → Bool → Type 0
FailedAt (Has bytes) may_fail = may_fail ≡ true
FailedAt at may_fail = Unit {0}

-- ---- openers

-- what contracts see of an opener: what it says of each path, whether the reading of a file may
-- fail, and the paths that it was to open, in order, where it shows them
pub record Opener : Type 0 where
  pub at : List ℕ → At
  pub may_fail : List ℕ → Bool
  pub opened : Option (List (List ℕ))

-- the opener after it was to open these more
abbrev pub opened_more : Opener → List (List ℕ) → Opener
opened_more opener paths =
    record opener { opened = option_map (λ opened. opened ++ paths) opener.opened }

-- an opener was to open exactly these, in this order; what it says of paths stays
abbrev pub Opens : Opener → Opener → List (List ℕ) → Type 0
Opens old new paths = new ≡ opened_more old paths

-- what an opener says of paths, and which readings may fail, is as it was
pub record SaysTheSame (old new : Opener) : Type 0 where
  pub at : new.at ≡ old.at
  pub may_fail : new.may_fail ≡ old.may_fail

-- ---- an example

-- an opener that showed `a` and `b`, and was to open `c` and `a` more, shows the four in this
-- order, and says of paths what it said
pub record ShowsFour (old new : Opener) : Type 0 where
  pub opened : new.opened ≡ Some (codes "a" ∷ codes "b" ∷ codes "c" ∷ codes "a" ∷ [])
  pub at : new.at ≡ old.at
  pub may_fail : new.may_fail ≡ old.may_fail

abbrev pub FourAreShown : Type 0
FourAreShown =
    (old new : Opener) → old.opened ≡ Some (codes "a" ∷ codes "b" ∷ [])
    → Opens old new (codes "c" ∷ codes "a" ∷ []) → ShowsFour old new
