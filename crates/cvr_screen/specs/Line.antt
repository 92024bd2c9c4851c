-- The line about files on a terminal. (This project's own.)
use Rattle.std.specs.Prelude.{ℕ, List, codes, decimal, ◌++◌}

-- it says how many files were read
abbrev pub line_text : ℕ → List ℕ
line_text files = codes "read " ++ decimal files ++ codes " files"

-- what it is overwritten with
abbrev pub blanks_text : List ℕ
blanks_text = codes "                               "
