-- Words that ask for a text of the program's own: it is printed, and no file is opened. (This
-- project's own.)
use Rattle.std.specs.Prelude.{◌≡◌, ◌⊎◌, ℕ, List, [], ◌∷◌, codes, false, if◌then◌else◌}
use Rattle.clap.specs.Words.{fault_of}
use Rattle.clap.specs.declared.error.ErrorKind.TheVariants.{UnknownArgument}
use Rattle.cdf_types.specs.Device.{Appends, AppendsPrefix}
use Rattle.cvr_words.specs.Line.{cvr_line, with_program}
use Rattle.cvr_run.specs.declared.status.Status.{Status}
use Rattle.cvr_run.specs.declared.status.Status.TheVariants.{Done, Device}
use Rattle.cvr_run.specs.Devices.{Outputs}
use Rattle.cvr_run.specs.Log.{Logs}
use Rattle.cvr_run.specs.Logged.{out_line}

-- the program's name and its version
abbrev pub version_text : List ℕ
version_text = codes "cvr 1.4.0\n"

-- the words ask for the version: `--version` or `-V`, alone
abbrev pub AsksVersion : List (List ℕ) → Type 0
AsksVersion words = (words ≡ codes "--version" ∷ []) ⊎ (words ≡ codes "-V" ∷ [])

-- the line of the commands has neither word
abbrev pub UnknownVersionLaw : Type 0
UnknownVersionLaw = (words : List (List ℕ)) → AsksVersion words
    → fault_of cvr_line (with_program words) ≡ UnknownArgument ∷ []

-- the text is printed whole; or the output has failed, which is reported
pub record PrintsOwn (text : List ℕ) (answer : Status) (old new : Outputs) : Type 0 where
  pub status : answer ≡ (if new.out.failed then Device else Done)
  pub whole : new.out.failed ≡ false → Appends old.out new.out text
  pub prefix : AppendsPrefix old.out new.out text
  pub log : Logs old.log new.log (out_line new.out.failed)
