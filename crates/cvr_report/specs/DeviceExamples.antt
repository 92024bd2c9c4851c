-- Worked examples: the volumes of two devices, of which one has two bodies, and the one volume of
-- devices alone. (This project's own.)
use Rattle.std.specs.Prelude.{◌≡◌, ℕ, List, [], ◌∷◌, ◌++◌, codes}
use Rattle.std.specs.FinSet.{from_list}
use Rattle.cdf_definition.specs.Frame.{Frame}
use Rattle.cvr_fact_types.specs.Facts.{Fact, Device, Header, Snapshot}
use Rattle.cvr_report.specs.Head.{Head}
use Rattle.cvr_report.specs.Page.{volumes}
use Rattle.cvr_report.specs.Volume.{volume}
use Rattle.cvr_report.specs.Examples.{county, heading, county_text, device, body}

-- ---- two bodies of a device

-- a definition with no party
abbrev pub town : Frame
town = record {
  elections = (codes "e6", codes "{\"@id\":\"e6\",\"@type\":\"CVR.Election\",\"Contest\":[{\"@id\":\"clerk\",\"@type\":\"CVR.Contest\"}],\"ElectionScopeId\":\"p2\"}") ∷ [];
  units = (codes "p2", codes "{\"@id\":\"p2\",\"@type\":\"CVR.GpUnit\"}") ∷ [];
  parties = [];
  devices = (
    codes "s5",
    codes
        "{\"@id\":\"s5\",\"@type\":\"CVR.ReportingDevice\",\"SerialNumber\":\"61\"}",
  ) ∷ [];
  contests = (codes "clerk", []) ∷ [];
}

abbrev pub town_heading : Head
town_heading = record { date = codes "2024-11-08T09:30:00Z"; device = codes "s5" }

abbrev pub with_serial : List ℕ → Fact
with_serial serial = Device (codes "s5")
    (codes "{\"@id\":\"s5\",\"@type\":\"CVR.ReportingDevice\",\"SerialNumber\":\"" ++ serial
    ++ codes "\"}")

-- of s5 the definition's body and another one; of t8 one body; and one record
abbrev pub of_town : List Fact
of_town =
    device (codes "t8") ∷ with_serial (codes "61")
    ∷ Snapshot (codes "t8") (codes "u9") (codes "k41")
    (body (codes "k41") (codes "") (codes "clerk") (codes "18") (codes "original")) ∷
    with_serial (codes "62") ∷ Header (codes "t8") (codes "u9") (codes "{\"@type\":\"CVR.CVR\",\"CreatingDeviceId\":\"t8\",\"ElectionId\":\"e6\",\"UniqueId\":\"u9\"}") ∷ []

-- what both volumes have after their records, as far as their devices: no Party
abbrev pub town_text : List ℕ
town_text =
    codes ",\"Election\":[{\"@id\":\"e6\",\"@type\":\"CVR.Election\",\"Contest\":[{\"@id\":\"clerk\",\"@type\":\"CVR.Contest\"}],\"ElectionScopeId\":\"p2\"}]" ++
    codes ",\"GeneratedDate\":\"2024-11-08T09:30:00Z\"" ++
    codes ",\"GpUnit\":[{\"@id\":\"p2\",\"@type\":\"CVR.GpUnit\"}]" ++
    codes ",\"ReportGeneratingDeviceIds\":[\"s5\"]" ++
    codes ",\"ReportType\":[\"aggregated\"]"

-- volume 1 shows the greater body of s5, and the record
abbrev pub first_of_town : List ℕ
first_of_town =
    codes "{\"@type\":\"CVR.CastVoteRecordReport\",\"CVR\":[{\"@type\":\"CVR.CVR\",\"CVRSnapshot\":[" ++
    codes "{\"@id\":\"k41\",\"@type\":\"CVR.CVRSnapshot\",\"CVRContest\":[{\"@type\":\"CVR.CVRContest\",\"ContestId\":\"clerk\",\"Overvotes\":18}],\"Type\":\"original\"}" ++
    codes "],\"CreatingDeviceId\":\"t8\",\"CurrentSnapshotId\":\"k41\",\"ElectionId\":\"e6\",\"UniqueId\":\"u9\"}]" ++ town_text ++
    codes ",\"ReportingDevice\":[{\"@id\":\"s5\",\"@type\":\"CVR.ReportingDevice\",\"SerialNumber\":\"62\"},{\"@id\":\"t8\",\"@type\":\"CVR.ReportingDevice\"}]" ++
    codes ",\"Version\":\"1.0.0\"}"

-- volume 2 shows its other body, t8 again, and has no CVR
abbrev pub second_of_town : List ℕ
second_of_town =
    codes "{\"@type\":\"CVR.CastVoteRecordReport\"" ++ town_text ++
    codes ",\"ReportingDevice\":[{\"@id\":\"s5\",\"@type\":\"CVR.ReportingDevice\",\"SerialNumber\":\"61\"},{\"@id\":\"t8\",\"@type\":\"CVR.ReportingDevice\"}]" ++
    codes ",\"Version\":\"1.0.0\"}"

-- two volumes, with these texts
pub record VolumesOfTown : Type 0 where
  pub number : volumes (from_list of_town) ≡ 2
  pub first : volume town town_heading (from_list of_town) 1 ≡ first_of_town
  pub second : volume town town_heading (from_list of_town) 2 ≡ second_of_town

-- ---- devices alone

abbrev pub two_devices : List Fact
two_devices = device (codes "s12") ∷ device (codes "g7") ∷ []

abbrev pub devices_text : List ℕ
devices_text =
    codes "{\"@type\":\"CVR.CastVoteRecordReport\"" ++ county_text ++
    codes ",\"ReportingDevice\":[{\"@id\":\"g7\",\"@type\":\"CVR.ReportingDevice\"},{\"@id\":\"s12\",\"@type\":\"CVR.ReportingDevice\"}]" ++
    codes ",\"Version\":\"1.0.0\"}"

-- one volume, with this text; and where there is no fact at all, one volume, too
pub record VolumeOfDevices : Type 0 where
  pub number : volumes (from_list two_devices) ≡ 1
  pub only : volume county heading (from_list two_devices) 1 ≡ devices_text
  pub least : volumes (from_list []) ≡ 1
