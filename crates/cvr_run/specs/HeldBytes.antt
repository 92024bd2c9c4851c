-- What is held of a file is enough for all that a run says of it. (This project's own.)
use Rattle.std.specs.Prelude.{◌≡◌, ℕ, List, take, map}
use Rattle.cvr_words.specs.declared.request.Task.{Task}
use Rattle.cvr_run.specs.File.{held_bytes}
use Rattle.cvr_run.specs.Outcome.{run_text, run_fault, any_refused}
use Rattle.cvr_run.specs.Logged.{run_lines}

-- what is held of a file: its first bytes, which are all of them unless it is too long
abbrev pub held_part : List ℕ → List ℕ
held_part file = take held_bytes file

-- a run over what is held of each file prints the text of one over the files
abbrev pub HeldTextLaw : Type 0
HeldTextLaw = (task : Task) (def : List ℕ) (paths files : List (List ℕ))
    → run_text task (held_part def) paths (map held_part files) ≡ run_text task def paths files

-- logs the same refusals
abbrev pub HeldLinesLaw : Type 0
HeldLinesLaw = (task : Task) (what def : List ℕ) (paths files : List (List ℕ))
    → run_lines task what (held_part def) paths (map held_part files)
    ≡ run_lines task what def paths files

-- has the same fault of a merge
abbrev pub HeldFaultLaw : Type 0
HeldFaultLaw = (task : Task) (def : List ℕ) (files : List (List ℕ))
    → run_fault task (held_part def) (map held_part files) ≡ run_fault task def files

-- and refuses something where it does
abbrev pub HeldRefusedLaw : Type 0
HeldRefusedLaw = (task : Task) (def : List ℕ) (files : List (List ℕ))
    → any_refused task (held_part def) (map held_part files) ≡ any_refused task def files
