-- Worked examples: what a run logs of refused files, and what a drill prints. (This project's
-- own.)
use Rattle.std.specs.Prelude.{◌≡◌, ℕ, List, [], ◌∷◌, ◌++◌, codes, Some, None}
use Rattle.cdf_types.specs.declared.fault.ReadFault.TheVariants.{Schema, Reference}
use Rattle.cdf_types.specs.declared.rule.Rule.TheVariants.{Missing}
use Rattle.cdf_definition.specs.Acceptance.{frame_in}
use Rattle.cdf_check.specs.FileExamples as file
use Rattle.cvr_words.specs.declared.request.Task.TheVariants.{Currents, Check, Drill}
use Rattle.cvr_words.specs.declared.request.Act.TheVariants.{Import, Exchange}
use Rattle.cvr_words.specs.declared.request.Step.{Step}
use Rattle.cvr_office.specs.declared.event.Cause.TheVariants.{Read}
use Rattle.cvr_run.specs.Happened.{causes, run_dues}
use Rattle.cvr_run.specs.Laws.{HaveSameValues}
use Rattle.cvr_run.specs.Outcome.{run_text}
use Rattle.cvr_run.specs.Logged.{run_lines}

-- a cast vote record without UniqueId, one that is accepted, and one with a selection of another
-- contest
abbrev pub three_paths : List (List ℕ)
three_paths = codes "a.json" ∷ codes "b.json" ∷ codes "c.json" ∷ []

abbrev pub three_files : List (List ℕ)
three_files = file.two_faults_file ∷ file.one_file ∷ file.other_selection_file ∷ []

-- a line for each of the two that are refused, in order
abbrev pub TwoRefused : Type 0
TwoRefused =
    run_lines Currents (codes "def.json") file.definition_file three_paths three_files
    ≡ codes "a.json: E3 /CVR/0/UniqueId 2\n"
    ++ codes
    "c.json: E4 /CVR/0/CVRSnapshot/0/CVRContest/0/CVRContestSelection/0/ContestSelectionId\n"

-- why each was: the second was not
abbrev pub CausesOfThree : Type 0
CausesOfThree = causes (run_dues Currents file.definition_file three_paths three_files)
    ≡ Some (Read (Schema (codes "/CVR/0/UniqueId") Missing)) ∷ None
    ∷ Some (Read (Reference (codes
    "/CVR/0/CVRSnapshot/0/CVRContest/0/CVRContestSelection/0/ContestSelectionId"))) ∷ []

-- and of one with another election
abbrev pub OtherElection : Type 0
OtherElection = run_lines Currents (codes "def.json") file.definition_file (codes "d.json" ∷ [])
    (file.other_election_file ∷ []) ≡ codes "d.json: E5 /Election/0\n"

-- of a definition that is refused its line alone, under its own path
abbrev pub DefinitionRefused : Type 0
DefinitionRefused = run_lines Currents (codes "def.json") file.two_faults_file three_paths
    three_files ≡ codes "def.json: E3 /CVR/0/UniqueId 2\n"

-- ---- the lines of `check`

-- a mark for Ann in the record of this name
abbrev pub scan_of : List ℕ → List ℕ
scan_of unique = file.cvr (file.snapshot (codes "original") (codes ""))
    (codes ",\"UniqueId\":\"" ++ unique ++ codes "\"")

abbrev pub three_records_file : List ℕ
three_records_file = file.report (scan_of (codes "u7") ++ codes "," ++ scan_of (codes "u8")
    ++ codes "," ++ scan_of (codes "u9")) (codes "")

-- of one record, of two that are refused, and of three: a line for each of the two that are
-- accepted
abbrev pub CheckOfThree : Type 0
CheckOfThree =
    run_text Check file.definition_file three_paths
    (file.one_file ∷ file.two_faults_file ∷ three_records_file ∷ [])
    ≡ codes "a.json 1\n" ++ codes "c.json 3\n"

-- ---- files of one value

-- the one that is accepted, with other bytes: a line feed before it, and a space behind it
abbrev pub spelled_anew : List ℕ
spelled_anew = codes "\n" ++ file.one_file ++ codes " "

-- beside one that is refused it has the same values as the other, given twice
abbrev pub OneValue : Type 0
OneValue = HaveSameValues (frame_in file.definition_file) (spelled_anew ∷ file.two_faults_file ∷ [])
    (file.one_file ∷ file.one_file ∷ [])

-- ---- a drill of three offices

-- as words give them: each import has the path of its own
abbrev pub seven_steps : List Step
seven_steps =
    record { text = codes "2=a.json"; act = Import 2 0 }
    ∷ record { text = codes "1>4"; act = Exchange 1 4 } ∷
    record { text = codes "1>3"; act = Exchange 1 3 }
    ∷ record { text = codes "0=b.json"; act = Import 0 1 }
    ∷ record { text = codes "3=c.json"; act = Import 3 2 } ∷
    record { text = codes "2>2"; act = Exchange 2 2 }
    ∷ record { text = codes "3>0"; act = Exchange 3 0 } ∷ []

-- a line for each of the five that are refused: two for their files, and three since there is no
-- office 4 and no office 0
abbrev pub FiveStepsRefused : Type 0
FiveStepsRefused =
    run_lines (Drill 3 seven_steps) (codes "def.json") file.definition_file three_paths three_files
    ≡ codes "2=a.json: E3 /CVR/0/UniqueId 2\n" ++ codes "1>4: N1\n" ++ codes "0=b.json: N1\n"
    ++ codes
    "3=c.json: E4 /CVR/0/CVRSnapshot/0/CVRContest/0/CVRContestSelection/0/ContestSelectionId\n"
    ++ codes "3>0: N1\n"

-- one of its files is accepted: office 2 takes it in, and office 3 takes it from office 2
abbrev pub five_steps : List Step
five_steps =
    record { text = codes "1=a.json"; act = Import 1 0 }
    ∷ record { text = codes "2=b.json"; act = Import 2 1 } ∷
    record { text = codes "2>3"; act = Exchange 2 3 }
    ∷ record { text = codes "1>2"; act = Exchange 1 2 }
    ∷ record { text = codes "1=c.json"; act = Import 1 2 } ∷ []

-- each holds the three devices of the definition; those two a header and a snapshot besides
abbrev pub LinesOfThree : Type 0
LinesOfThree =
    run_text (Drill 3 five_steps) file.definition_file three_paths three_files
    ≡ codes "office 1 records 0 facts 3 same 1\n" ++ codes "office 2 records 1 facts 5 same 2\n"
    ++ codes "office 3 records 1 facts 5 same 2\n"
