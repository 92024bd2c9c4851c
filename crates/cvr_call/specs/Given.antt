-- The words and the files that a call is given. (This project's own.)
use Rattle.std.specs.Prelude.{◌≡◌, ℕ, List, [], ◌∷◌, ◌++◌, length, if◌then◌else◌, false, None}
use Rattle.std.specs.Prelude.{All, IsUtf8, codes, flat_map}
use Rattle.std.specs.Str.{bytes_eq}
use Rattle.cvr_run.specs.Opening.{At, Absent, Has, Opener}
use Rattle.cvr_call.specs.Pieces.{AreCut}

-- a file: its path and its bytes
pub record File : Type 0 where
  pub path : List ℕ
  pub bytes : List ℕ

pub record Given : Type 0 where
  pub words : List (List ℕ)
  pub files : List File

-- ---- how they are passed

-- of each file its path, then its bytes
abbrev pub file_pieces : List File → List (List ℕ)
file_pieces files = flat_map (λ file. file.path ∷ file.bytes ∷ []) files

-- pieces give these words, which are texts, and then these files; so many of them are words
pub record AreGiven (pieces : List (List ℕ)) (count : ℕ) (given : Given) : Type 0 where
  pub split : pieces ≡ given.words ++ file_pieces given.files
  pub counted : length given.words ≡ count
  pub texts : All IsUtf8 given.words

-- so does an input, cut into its pieces at its ends
pub record IsInput (input ends : List ℕ) (count : ℕ) (given : Given) : Type 0 where
  pub pieces : List (List ℕ)
  pub cut : AreCut 0 input ends pieces
  pub gives : AreGiven pieces count given

-- ---- what an opener finds

-- the files of such pieces
abbrev pub files_in : List (List ℕ) → List File
files_in (path ∷ bytes ∷ pieces) = (record { path = path; bytes = bytes }) ∷ files_in pieces
files_in pieces = []

-- at a path stands the first of the files with that path
abbrev pub found_at : List File → List ℕ → At
found_at [] path = Absent
found_at (file ∷ files) path =
    if bytes_eq file.path path then Has file.bytes else found_at files path

-- the opener over files: their reading doesn't fail, and it doesn't show what it was to open
abbrev pub opener_over : List File → Opener
opener_over files = record { at = found_at files; may_fail = λ path. false; opened = None }

-- ---- an example

-- the words `tally d f`, and the files `d` and `f`
abbrev pub tally_of_two : Given
tally_of_two = record {
  words = codes "tally" ∷ codes "d" ∷ codes "f" ∷ [];
  files = record { path = codes "d"; bytes = codes "{}" }
      ∷ record { path = codes "f"; bytes = codes "[1]" } ∷ [];
}

-- their pieces as one input
abbrev pub TallyCut : Type 0
TallyCut = AreCut 0 (codes "tallydfd{}f[1]") (5 ∷ 6 ∷ 7 ∷ 8 ∷ 10 ∷ 11 ∷ 14 ∷ [])
    (tally_of_two.words ++ file_pieces tally_of_two.files)
