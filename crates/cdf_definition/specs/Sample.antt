-- The texts of a small report, for worked examples. (This project's own.)
use Rattle.std.specs.Prelude.{ℕ, List, ◌++◌, codes}

-- an election with a contest for mayor and a ballot measure, with the text of one more member at
-- its end
abbrev pub election : List ℕ → List ℕ
election more =
    codes "{\"@id\":\"e\",\"@type\":\"CVR.Election\",\"Contest\":[" ++
    codes "{\"@id\":\"mayor\",\"@type\":\"CVR.CandidateContest\",\"ContestSelection\":[" ++
    codes "{\"@id\":\"ann\",\"@type\":\"CVR.CandidateSelection\"},{\"@id\":\"bob\",\"@type\":\"CVR.CandidateSelection\"}," ++
    codes "{\"@id\":\"wi\",\"@type\":\"CVR.CandidateSelection\",\"IsWriteIn\":true}]}," ++
    codes "{\"@id\":\"q1\",\"@type\":\"CVR.BallotMeasureContest\",\"ContestSelection\":[" ++
    codes "{\"@id\":\"yes\",\"@type\":\"CVR.BallotMeasureSelection\",\"Selection\":\"Yes\"}," ++
    codes "{\"@id\":\"no\",\"@type\":\"CVR.BallotMeasureSelection\",\"Selection\":\"No\"}]}],\"ElectionScopeId\":\"p1\"" ++ more ++ codes "}"

-- two precincts, the first with the text of one more member at its end
abbrev pub units : List ℕ → List ℕ
units more =
    codes "{\"@id\":\"p1\",\"@type\":\"CVR.GpUnit\",\"Type\":\"precinct\"" ++ more ++ codes "}," ++
    codes "{\"@id\":\"p2\",\"@type\":\"CVR.GpUnit\",\"Type\":\"precinct\"}"

-- a desk and two scanners
abbrev pub devices_text : List ℕ
devices_text =
    codes "{\"@id\":\"desk\",\"@type\":\"CVR.ReportingDevice\"},{\"@id\":\"s1\",\"@type\":\"CVR.ReportingDevice\"}," ++
    codes "{\"@id\":\"s2\",\"@type\":\"CVR.ReportingDevice\"}"

-- a report of these cast vote records and this election and units, with the text of one more member
-- after its Election
abbrev pub report_with : List ℕ → List ℕ → List ℕ → List ℕ → List ℕ
report_with cvrs its_election its_units more =
    codes "{\"@type\":\"CVR.CastVoteRecordReport\",\"CVR\":[" ++ cvrs ++ codes "],\"Election\":["
    ++ its_election ++ codes "]," ++ more ++
    codes "\"GeneratedDate\":\"2024-11-05T20:00:00Z\",\"GpUnit\":[" ++ its_units ++
    codes "],\"ReportGeneratingDeviceIds\":[\"s1\"],\"ReportingDevice\":[" ++ devices_text
    ++ codes "],\"Version\":\"1.0.0\"}"

-- the same with the definition's election and units
abbrev pub report : List ℕ → List ℕ → List ℕ
report cvrs more = report_with cvrs (election (codes "")) (units (codes "")) more

-- the definition: no records
abbrev pub definition_file : List ℕ
definition_file = report (codes "") (codes "")
