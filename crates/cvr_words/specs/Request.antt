-- What the words ask for. (This project's own.)
use Rattle.std.specs.Prelude.{◌≡◌, List, [], None, Some, Bool, true, false, codes}
use Rattle.std.specs.Prelude.{if◌then◌else◌}
use Rattle.std.specs.Int.NonZero.{non_zero_u32_get}
use Rattle.clap.specs.Words.{Row, Text, fault_of, subcommand_of}
use Rattle.cvr_words.specs.Line.{cvr_line}
use Rattle.cvr_words.specs.Rows.{IsNumber, IsWord, words_in}
use Rattle.cvr_words.specs.Steps.{bad_place, paths_of, steps_of}
use Rattle.cvr_words.specs.declared.request.Request.{Request}
use Rattle.cvr_words.specs.declared.request.Task.{Task}
use Rattle.cvr_words.specs.declared.request.Task.TheVariants.{Currents, Conflicts, Tally, Check}
use Rattle.cvr_words.specs.declared.request.Task.TheVariants.{Merge, Drill}

-- the task is that of the command's name, with the values of its arguments
abbrev pub IsTask : Text → List Row → Task → Type 0
IsTask name rows Currents = name ≡ codes "currents"
IsTask name rows Conflicts = name ≡ codes "conflicts"
IsTask name rows Tally = name ≡ codes "tally"
IsTask name rows Check = name ≡ codes "check"
IsTask name rows (Merge date device volume) =
    (name ≡ codes "merge") × IsWord (codes "DATE") rows date × IsWord (codes "DEVICE") rows device
    × IsNumber (codes "VOLUME") 1 4294967295 rows (non_zero_u32_get volume)
IsTask name rows (Drill offices steps) =
    (name ≡ codes "drill") × IsNumber (codes "OFFICES") 1 64 rows offices
    × (bad_place (words_in (codes "STEP") rows) ≡ None)
    × (steps ≡ steps_of 0 (words_in (codes "STEP") rows))

-- `drill` has steps in the place of files
abbrev pub takes_files : Task → Bool
takes_files (Drill offices steps) = false
takes_files task = true

-- the files of a drill are those of its imports
abbrev pub paths_in : Task → List Row → List Text
paths_in task rows = if takes_files task then words_in (codes "FILE") rows
    else paths_of (words_in (codes "STEP") rows)

-- the request is what the matches of the named command say
pub record Asks (name : Text) (rows : List Row) (request : Request) : Type 0 where
  pub task : IsTask name rows request.task
  pub def : IsWord (codes "DEF") rows request.def
  pub paths : request.paths ≡ paths_in request.task rows

-- the request is what the words say: clap finds no fault in them, and its matches of them name its
-- command
abbrev pub IsRequest : List Text → Request → Type 0
IsRequest words request =
    (fault_of cvr_line words ≡ []) × (name : Text) × (rows : List Row)
    × (subcommand_of cvr_line words ≡ Some (name, rows)) × Asks name rows request
