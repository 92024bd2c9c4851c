-- The files of an opener in memory. (This project's own.)
use Rattle.std.specs.Prelude.{◌≡◌, ℕ, List, [], ◌∷◌, ◌==◌, if◌then◌else◌, Bool, true, false, not}
use Rattle.std.specs.Prelude.{codes, None}
use Rattle.std.specs.Cmp.Lexicographic.{pointwise}
use Rattle.cvr_run.specs.declared.memory_files.MemoryFile.{MemoryFile}
use Rattle.cvr_run.specs.Opening.{At, Absent, Has, Opener}

-- at a path stands the first of the files with that path
abbrev pub found_at : List MemoryFile → List ℕ → At
found_at [] path = Absent
found_at (file ∷ files) path =
    if pointwise ◌==◌ file.path.now path then Has file.bytes.now else found_at files path

-- the reading of the file at a path can fail: one of its calls is to fail; where no file is,
-- nothing is read
abbrev pub can_fail_at : List MemoryFile → List ℕ → Bool
can_fail_at [] path = false
can_fail_at (file ∷ files) path =
    if pointwise ◌==◌ file.path.now path then not (file.fail_at == 0) else can_fail_at files path

-- the opener over these files, which doesn't show what it was to open
abbrev pub opener_over : List MemoryFile → Opener
opener_over files = record { at = found_at files; may_fail = can_fail_at files; opened = None }

-- ---- as an example, three files: two at one path

-- a file at a path, and which call of its reading fails
pub record IsFileAt (file : MemoryFile) (path : List ℕ) (call : ℕ) : Type 0 where
  pub stands : file.path.now ≡ path
  pub fails : file.fail_at ≡ call

-- the first file of a path alone says whether its reading can fail
pub record FailWhereSet (x y z : MemoryFile) : Type 0 where
  pub first : can_fail_at (x ∷ y ∷ z ∷ []) (codes "a") ≡ false
  pub other : can_fail_at (x ∷ y ∷ z ∷ []) (codes "b") ≡ true
  pub reversed : can_fail_at (z ∷ y ∷ x ∷ []) (codes "a") ≡ true
  pub absent : can_fail_at (x ∷ y ∷ z ∷ []) (codes "c") ≡ false
