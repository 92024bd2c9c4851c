-- Worked examples: the whole text of each volume of what six files bring. (This project's own.)
use Rattle.std.specs.Prelude.{◌≡◌, ℕ, List, [], ◌∷◌, ◌++◌, map, codes}
use Rattle.std.specs.FinSet.{from_list}
use Rattle.cdf_definition.specs.Frame.{Frame}
use Rattle.cvr_fact_types.specs.declared.name.RecordName.{RecordName}
use Rattle.cvr_fact_types.specs.Facts.{Fact, Facts, Device, Header, Snapshot}
use Rattle.cvr_report.specs.Head.{Head}
use Rattle.cvr_report.specs.Page.{volumes, shown_record}
use Rattle.cvr_report.specs.Volume.{volume}

-- ---- a definition and a heading

-- two units, of which p10 is before p9 by bytes, two parties, one device and two contests
abbrev pub county : Frame
county = record {
  elections = (
    codes "e5",
    codes "{\"@id\":\"e5\",\"@type\":\"CVR.Election\",\"Contest\":[{\"@id\":\"mayor\",\"@type\":\"CVR.CandidateContest\"}," ++
        codes "{\"@id\":\"judge\",\"@type\":\"CVR.RetentionContest\"}],\"ElectionScopeId\":\"p10\"}",
  ) ∷ [];
  units = (codes "p10", codes "{\"@id\":\"p10\",\"@type\":\"CVR.GpUnit\"}")
      ∷ (codes "p9", codes "{\"@id\":\"p9\",\"@type\":\"CVR.GpUnit\"}") ∷ [];
  parties = (codes "y1", codes "{\"@id\":\"y1\",\"@type\":\"CVR.Party\"}")
      ∷ (codes "y2", codes "{\"@id\":\"y2\",\"@type\":\"CVR.Party\"}") ∷ [];
  devices = (codes "g7", codes "{\"@id\":\"g7\",\"@type\":\"CVR.ReportingDevice\"}") ∷ [];
  contests = (codes "mayor", []) ∷ (codes "judge", []) ∷ [];
}

abbrev pub heading : Head
heading = record { date = codes "2024-11-07T18:00:00-05:00"; device = codes "g7" }

-- ---- three records

abbrev pub example_record : RecordName
example_record = record { device = codes "s3"; unique = codes "u21" }

abbrev pub second_record : RecordName
second_record = record { device = codes "s3"; unique = codes "u4" }

-- which is before the others by bytes
abbrev pub third_record : RecordName
third_record = record { device = codes "s10"; unique = codes "u7" }

-- ---- facts

abbrev pub device : List ℕ → Fact
device id = Device id (codes "{\"@id\":\"" ++ id ++ codes "\",\"@type\":\"CVR.ReportingDevice\"}")

-- a header with its unit or its batch, given as the text of a member
abbrev pub header : RecordName → List ℕ → Fact
header key place =
    Header key.device key.unique
    (codes "{\"@type\":\"CVR.CVR\"," ++ place ++ codes ",\"CreatingDeviceId\":\"" ++ key.device
    ++ codes "\",\"ElectionId\":\"e5\",\"UniqueId\":\"" ++ key.unique ++ codes "\"}")

abbrev pub at_time : List ℕ → List ℕ
at_time time =
    codes "\"Annotation\":[{\"@type\":\"CVR.Annotation\",\"TimeStamp\":\"" ++ time ++ codes "\"}],"

-- the body of a snapshot, with the text of its annotations as a member, and with these overvotes in
-- one contest
abbrev pub body : List ℕ → List ℕ → List ℕ → List ℕ → List ℕ → List ℕ
body id annotations contest overvotes kind =
    codes "{\"@id\":\"" ++ id ++ codes "\",\"@type\":\"CVR.CVRSnapshot\"," ++ annotations ++
    codes "\"CVRContest\":[{\"@type\":\"CVR.CVRContest\",\"ContestId\":\"" ++ contest
    ++ codes "\",\"Overvotes\":" ++ overvotes ++ codes "}]," ++
    codes "\"Type\":\"" ++ kind ++ codes "\"}"

abbrev pub snapshot : RecordName → List ℕ → List ℕ → List ℕ → List ℕ → List ℕ → Fact
snapshot key id annotations contest overvotes kind =
    Snapshot key.device key.unique id (body id annotations contest overvotes kind)

-- ---- what six files bring, in no order

-- of the first record: two files put it into different units, and have a snapshot each
abbrev pub of_scanner : List Fact
of_scanner =
    snapshot example_record (codes "k34") (codes "") (codes "mayor") (codes "11") (codes "original")
    ∷
    header example_record (codes "\"BallotStyleUnitId\":\"p9\"") ∷ device (codes "s3") ∷ []

abbrev pub of_board : List Fact
of_board =
    device (codes "s3") ∷ header example_record (codes "\"BallotStyleUnitId\":\"p10\"") ∷
    snapshot example_record (codes "k31") (codes "") (codes "judge") (codes "12") (codes "modified")
    ∷ []

-- of the second record: three files have a body each under k52, in another order by bytes than by
-- choosing; two have one under k53 as well, of 13:00 and of 12:00 in UTC
abbrev pub of_first_reader : List Fact
of_first_reader =
    snapshot second_record (codes "k53") (at_time (codes "2024-11-05T08:00:00-05:00"))
    (codes "judge") (codes "16") (codes "interpreted") ∷
    header second_record (codes "\"BatchId\":\"b16\"")
    ∷ snapshot second_record (codes "k52") (codes "") (codes "mayor") (codes "15")
    (codes "original") ∷ device (codes "s3") ∷ []

abbrev pub of_second_reader : List Fact
of_second_reader =
    device (codes "s3") ∷ snapshot second_record (codes "k52")
    (at_time (codes "2024-11-05T09:00:00Z")) (codes "mayor") (codes "14") (codes "interpreted")
    ∷
    snapshot second_record (codes "k53") (at_time (codes "2024-11-05T07:00:00-05:00"))
    (codes "judge") (codes "19") (codes "interpreted") ∷
    header second_record (codes "\"BatchId\":\"b16\"") ∷ []

abbrev pub of_third_reader : List Fact
of_third_reader =
    header second_record (codes "\"BatchId\":\"b17\"") ∷ device (codes "s3") ∷
    snapshot second_record (codes "k52") (codes "") (codes "judge") (codes "13") (codes "modified")
    ∷ []

-- of the third record: it has no conflict; the id of its snapshot has a quote
abbrev pub of_other_scanner : List Fact
of_other_scanner =
    Snapshot (codes "s10") (codes "u7") (codes "k\"29")
    (body (codes "k\\\"29") (codes "") (codes "mayor") (codes "17") (codes "original")) ∷
    device (codes "s10") ∷ header third_record (codes "\"BallotStyleUnitId\":\"p10\"") ∷ []

-- all of them, and the device of the definition
abbrev pub of_six : List Fact
of_six = of_third_reader ++ of_scanner ++ device (codes "g7") ∷ of_other_scanner ++ of_first_reader
    ++ of_board ++ of_second_reader

-- ---- their volumes

-- three, since one name has three bodies
abbrev pub NumberOfSix : Type 0
NumberOfSix = volumes (from_list of_six) ≡ 3

-- what each volume has after its records, as far as its devices
abbrev pub county_text : List ℕ
county_text =
    codes ",\"Election\":[{\"@id\":\"e5\",\"@type\":\"CVR.Election\",\"Contest\":[{\"@id\":\"mayor\",\"@type\":\"CVR.CandidateContest\"}," ++
    codes "{\"@id\":\"judge\",\"@type\":\"CVR.RetentionContest\"}],\"ElectionScopeId\":\"p10\"}]" ++
    codes ",\"GeneratedDate\":\"2024-11-07T18:00:00-05:00\"" ++
    codes ",\"GpUnit\":[{\"@id\":\"p10\",\"@type\":\"CVR.GpUnit\"},{\"@id\":\"p9\",\"@type\":\"CVR.GpUnit\"}]" ++
    codes ",\"Party\":[{\"@id\":\"y1\",\"@type\":\"CVR.Party\"},{\"@id\":\"y2\",\"@type\":\"CVR.Party\"}]" ++
    codes ",\"ReportGeneratingDeviceIds\":[\"g7\"],\"ReportType\":[\"aggregated\"]"

-- every device, in each of them
abbrev pub end_of_six : List ℕ
end_of_six =
    county_text ++ codes ",\"ReportingDevice\":[{\"@id\":\"g7\",\"@type\":\"CVR.ReportingDevice\"},"
    ++
    codes "{\"@id\":\"s10\",\"@type\":\"CVR.ReportingDevice\"},{\"@id\":\"s3\",\"@type\":\"CVR.ReportingDevice\"}],\"Version\":\"1.0.0\"}"

-- volume 1 has all three records: the first record with its greater header, the second with its
-- adjudicated body, which is current
abbrev pub first_text : List ℕ
first_text =
    codes "{\"@type\":\"CVR.CastVoteRecordReport\",\"CVR\":[" ++
    codes "{\"@type\":\"CVR.CVR\",\"BallotStyleUnitId\":\"p10\",\"CVRSnapshot\":[" ++
    codes "{\"@id\":\"k\\\"29\",\"@type\":\"CVR.CVRSnapshot\",\"CVRContest\":[{\"@type\":\"CVR.CVRContest\",\"ContestId\":\"mayor\",\"Overvotes\":17}],\"Type\":\"original\"}" ++
    codes "],\"CreatingDeviceId\":\"s10\",\"CurrentSnapshotId\":\"k\\\"29\",\"ElectionId\":\"e5\",\"UniqueId\":\"u7\"}," ++
    codes "{\"@type\":\"CVR.CVR\",\"BallotStyleUnitId\":\"p9\",\"CVRSnapshot\":[" ++
    codes "{\"@id\":\"k31\",\"@type\":\"CVR.CVRSnapshot\",\"CVRContest\":[{\"@type\":\"CVR.CVRContest\",\"ContestId\":\"judge\",\"Overvotes\":12}],\"Type\":\"modified\"}," ++
    codes "{\"@id\":\"k34\",\"@type\":\"CVR.CVRSnapshot\",\"CVRContest\":[{\"@type\":\"CVR.CVRContest\",\"ContestId\":\"mayor\",\"Overvotes\":11}],\"Type\":\"original\"}" ++
    codes "],\"CreatingDeviceId\":\"s3\",\"CurrentSnapshotId\":\"k31\",\"ElectionId\":\"e5\",\"UniqueId\":\"u21\"}," ++
    codes "{\"@type\":\"CVR.CVR\",\"BatchId\":\"b17\",\"CVRSnapshot\":[" ++
    codes "{\"@id\":\"k52\",\"@type\":\"CVR.CVRSnapshot\",\"CVRContest\":[{\"@type\":\"CVR.CVRContest\",\"ContestId\":\"judge\",\"Overvotes\":13}],\"Type\":\"modified\"}," ++
    codes "{\"@id\":\"k53\",\"@type\":\"CVR.CVRSnapshot\",\"Annotation\":[{\"@type\":\"CVR.Annotation\",\"TimeStamp\":\"2024-11-05T08:00:00-05:00\"}]," ++
    codes "\"CVRContest\":[{\"@type\":\"CVR.CVRContest\",\"ContestId\":\"judge\",\"Overvotes\":16}],\"Type\":\"interpreted\"}" ++
    codes "],\"CreatingDeviceId\":\"s3\",\"CurrentSnapshotId\":\"k52\",\"ElectionId\":\"e5\",\"UniqueId\":\"u4\"}]" ++ end_of_six

abbrev pub FirstOfSix : Type 0
FirstOfSix = volume county heading (from_list of_six) 1 ≡ first_text

-- volume 2 has the two records with several bodies under a name: of the second record the readings
-- of 09:00 and of 12:00, of which the later is current
abbrev pub second_text : List ℕ
second_text =
    codes "{\"@type\":\"CVR.CastVoteRecordReport\",\"CVR\":[" ++
    codes "{\"@type\":\"CVR.CVR\",\"BallotStyleUnitId\":\"p10\",\"CVRSnapshot\":[" ++
    codes "{\"@id\":\"k31\",\"@type\":\"CVR.CVRSnapshot\",\"CVRContest\":[{\"@type\":\"CVR.CVRContest\",\"ContestId\":\"judge\",\"Overvotes\":12}],\"Type\":\"modified\"}," ++
    codes "{\"@id\":\"k34\",\"@type\":\"CVR.CVRSnapshot\",\"CVRContest\":[{\"@type\":\"CVR.CVRContest\",\"ContestId\":\"mayor\",\"Overvotes\":11}],\"Type\":\"original\"}" ++
    codes "],\"CreatingDeviceId\":\"s3\",\"CurrentSnapshotId\":\"k31\",\"ElectionId\":\"e5\",\"UniqueId\":\"u21\"}," ++
    codes "{\"@type\":\"CVR.CVR\",\"BatchId\":\"b16\",\"CVRSnapshot\":[" ++
    codes "{\"@id\":\"k52\",\"@type\":\"CVR.CVRSnapshot\",\"Annotation\":[{\"@type\":\"CVR.Annotation\",\"TimeStamp\":\"2024-11-05T09:00:00Z\"}]," ++
    codes "\"CVRContest\":[{\"@type\":\"CVR.CVRContest\",\"ContestId\":\"mayor\",\"Overvotes\":14}],\"Type\":\"interpreted\"}," ++
    codes "{\"@id\":\"k53\",\"@type\":\"CVR.CVRSnapshot\",\"Annotation\":[{\"@type\":\"CVR.Annotation\",\"TimeStamp\":\"2024-11-05T07:00:00-05:00\"}]," ++
    codes "\"CVRContest\":[{\"@type\":\"CVR.CVRContest\",\"ContestId\":\"judge\",\"Overvotes\":19}],\"Type\":\"interpreted\"}" ++
    codes "],\"CreatingDeviceId\":\"s3\",\"CurrentSnapshotId\":\"k53\",\"ElectionId\":\"e5\",\"UniqueId\":\"u4\"}]" ++ end_of_six

abbrev pub SecondOfSix : Type 0
SecondOfSix = volume county heading (from_list of_six) 2 ≡ second_text

-- volume 3 has the second record alone: its scan, and once more its last header and the reading of
-- 12:00
abbrev pub third_text : List ℕ
third_text =
    codes "{\"@type\":\"CVR.CastVoteRecordReport\",\"CVR\":[" ++
    codes "{\"@type\":\"CVR.CVR\",\"BatchId\":\"b16\",\"CVRSnapshot\":[" ++
    codes "{\"@id\":\"k52\",\"@type\":\"CVR.CVRSnapshot\",\"CVRContest\":[{\"@type\":\"CVR.CVRContest\",\"ContestId\":\"mayor\",\"Overvotes\":15}],\"Type\":\"original\"}," ++
    codes "{\"@id\":\"k53\",\"@type\":\"CVR.CVRSnapshot\",\"Annotation\":[{\"@type\":\"CVR.Annotation\",\"TimeStamp\":\"2024-11-05T07:00:00-05:00\"}]," ++
    codes "\"CVRContest\":[{\"@type\":\"CVR.CVRContest\",\"ContestId\":\"judge\",\"Overvotes\":19}],\"Type\":\"interpreted\"}" ++
    codes "],\"CreatingDeviceId\":\"s3\",\"CurrentSnapshotId\":\"k53\",\"ElectionId\":\"e5\",\"UniqueId\":\"u4\"}]" ++ end_of_six

abbrev pub ThirdOfSix : Type 0
ThirdOfSix = volume county heading (from_list of_six) 3 ≡ third_text

-- which snapshot of a record each of three volumes calls current
abbrev pub called_current : Facts → RecordName → List (List ℕ)
called_current facts key = map (λ i. (shown_record facts i key).current) (1 ∷ 2 ∷ 3 ∷ [])

abbrev pub CurrentsOfSix : Type 0
CurrentsOfSix =
    called_current (from_list of_six) second_record ≡ codes "k52" ∷ codes "k53" ∷ codes "k53" ∷ []
