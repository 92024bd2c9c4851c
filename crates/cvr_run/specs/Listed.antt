-- Requests whose files stand in a list: which words ask for one, and what is done. (This project's
-- own.)
use Rattle.std.specs.Prelude.{◌≡◌, ◌<◌, ◌⊎◌, ℕ, List, [], ◌∷◌, ◌++◌, length, codes, Bool, true}
use Rattle.std.specs.Prelude.{false, if◌then◌else◌, IsUtf8}
use Rattle.std.specs.Str.{bytes_eq}
use Rattle.cvr_words.specs.Line.{with_program}
use Rattle.cvr_words.specs.Request.{IsRequest, takes_files}
use Rattle.cvr_words.specs.declared.fault.LoggedFault.TheVariants as fault
use Rattle.cvr_words.specs.declared.request.Request.{Request}
use Rattle.cvr_words.specs.declared.request.Task.TheVariants.{Tally}
use Rattle.cvr_run.specs.declared.status.Status.{Status}
use Rattle.cvr_run.specs.declared.status.Status.TheVariants.{CommandLine}
use Rattle.cvr_run.specs.Answered.{Does, IsGiven, LogsWords}
use Rattle.cvr_run.specs.Devices.{Devices, outputs}
use Rattle.cvr_run.specs.File.{held_bytes}
use Rattle.cvr_run.specs.Job.{Job}
use Rattle.cvr_run.specs.ListedPaths.{end_of, parts_at}
use Rattle.cvr_run.specs.Opening.{At, Has, Opener, AreAt, IsRead, Opens, opened_more}
use Rattle.cvr_run.specs.Logged.{LogsSome}
use Rattle.cvr_run.specs.Worked.{Stops}

-- ---- words

-- the words that name a list
abbrev pub list_tail : List ℕ → Bool → List (List ℕ)
list_tail list by_null = codes "--files-from" ∷ list ∷ (if by_null then codes "--null" ∷ [] else [])

-- the words of a command up to its files, then the list in their place
abbrev pub list_words : List (List ℕ) → List ℕ → Bool → List (List ℕ)
list_words before list by_null = before ++ list_tail list by_null

-- as many words as a command and DEF; or as `merge`, DEF, DATE, DEVICE and VOLUME
abbrev pub IsBefore : List (List ℕ) → Type 0
IsBefore before = (length before ≡ 2) ⊎ (length before ≡ 5)

-- a request whose files stand in a list: the request without files, the word that names the list,
-- and whether each path of the list ends with a NUL byte
pub record ListedRequest : Type 0 where
  pub request : Request
  pub list : List ℕ
  pub by_null : Bool

-- as they stand the words ask for no request; those before the list ask for this one, which names
-- no file
pub record AsksListed (words : List (List ℕ)) (asked : ListedRequest) : Type 0 where
  pub before : List (List ℕ)
  pub short : IsBefore before
  pub split : words ≡ list_words before asked.list asked.by_null
  pub free : (other : Request) → ¬ IsRequest (with_program words) other
  pub request : IsRequest (with_program before) asked.request
  pub files : takes_files asked.request.task ≡ true
  pub none : asked.request.paths ≡ []

-- ---- what is done

-- where the list stands: `-` is standard input
abbrev pub list_place : List ℕ → List ℕ
list_place list = if bytes_eq list (codes "-") then codes "/dev/stdin" else list

-- the text can be a list: it is UTF-8, and no longer than a file may be
abbrev pub IsList : List ℕ → Type 0
IsList text = IsUtf8 text × (length text < held_bytes)

abbrev pub bad_list_line : List ℕ → List ℕ
bad_list_line path = path ++ codes ": L5\n"

-- the request over the paths of a list of this text
abbrev pub over_list : ListedRequest → List ℕ → Request
over_list asked text =
    record {
      task = asked.request.task;
      def = asked.request.def;
      paths = parts_at (end_of asked.by_null) text;
    }

-- what was read at a path is no list: that is logged, and nothing else is opened
pub record IsNoList (old new : Opener) (path : List ℕ) (answer : Status)
    (line : List ℕ) : Type 0 where
  pub text : List ℕ
  pub read : IsRead (old.at path) text
  pub bad : ¬ IsList text
  pub opened : Opens old new (path ∷ [])
  pub status : answer ≡ CommandLine
  pub said : line ≡ bad_list_line path

-- the list isn't read, or is none
abbrev pub HasNoList : Opener → Opener → List ℕ → Status → List ℕ → Type 0
HasNoList old new path answer line =
    Stops old new (path ∷ []) answer line ⊎ IsNoList old new path answer line

-- so, and the output stays unchanged; or, once the list is opened and read, its request is done
abbrev pub DoesListed : ListedRequest → Status → Devices → Devices → Type 0 → Type 0
DoesListed asked answer old new unchanged =
    let path = list_place asked.list in
    (unchanged × LogsSome (HasNoList old.opener new.opener path answer) old.log new.log)
    ⊎ ((text : List ℕ) × IsRead (old.opener.at path) text × IsList text
    × Does (over_list asked text) answer
    (record old { opener = opened_more old.opener (path ∷ []) }) new unchanged)

-- that; or memory ran out for the words, and nothing is opened
abbrev pub AnswersListed : ListedRequest → Status → Devices → Devices → Type 0 → Type 0
AnswersListed asked answer old new unchanged =
    (Opens old.opener new.opener [] × LogsWords fault.Memory answer (outputs old) (outputs new)
    unchanged)
    ⊎ DoesListed asked answer old new unchanged

-- ---- where the opener says what stands at each path

-- a job's request is this one over the paths of the list, and its files stand there
pub record ListsFiles (at : List ℕ → At) (asked : ListedRequest) (job : Job) : Type 0 where
  pub text : List ℕ
  pub at_place : at (list_place asked.list) ≡ Has text
  pub listed : job.request ≡ over_list asked text
  pub there : AreAt at (job.request.def ∷ job.request.paths) (job.def ∷ job.files)

-- the words ask for the request of a job by a list of its paths, and its files stand there
pub record IsGivenListed (at : List ℕ → At) (words : List (List ℕ)) (job : Job) : Type 0 where
  pub by : ListedRequest
  pub asked : AsksListed words by
  pub lists : ListsFiles at by job

-- by its paths, or by a list of them
abbrev pub IsGivenEither : (List ℕ → At) → List (List ℕ) → Job → Type 0
IsGivenEither at words job = IsGiven at words job ⊎ IsGivenListed at words job

-- ---- an example

-- these words ask for the tally of the files that `l` lists
abbrev pub TallyListed : Type 0
TallyListed =
    AsksListed (codes "tally" ∷ codes "d" ∷ codes "--files-from" ∷ codes "l" ∷ [])
    (record {
      request = record { task = Tally; def = codes "d"; paths = [] };
      list = codes "l";
      by_null = false;
    })
