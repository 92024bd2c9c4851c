-- The text of a volume in the pieces in which it is written. (This project's own.)
use Rattle.std.specs.Prelude.{ℕ, List, [], ◌∷◌, ◌++◌, map, codes, false, Option, Some, None}
use Rattle.std.specs.Prelude.{if◌then◌else◌}
use Rattle.std.specs.List.{filter_map}
use Rattle.json.specs.Print.{quoted}
use Rattle.serde_json.specs.Written.{compact_text}
use Rattle.cdf_definition.specs.Frame.{Frame}
use Rattle.cdf_definition.specs.Named.{texts_of}
use Rattle.cvr_fact_types.specs.declared.name.RecordName.{RecordName}
use Rattle.cvr_fact_types.specs.Facts.{Facts}
use Rattle.cvr_office.specs.Readers.{device_list}
use Rattle.cvr_report.specs.Record.{comma_list}
use Rattle.cvr_report.specs.Page.{shown_body, stands, shown_record}
use Rattle.cvr_report.specs.Volume.{record_data}

abbrev pub head_text : List ℕ
head_text = codes "{\"@type\":\"CVR.CastVoteRecordReport\""

-- the text of a record that stands in volume i
abbrev pub record_text : Facts → ℕ → RecordName → Option (List ℕ)
record_text facts i key =
    if stands facts i key then Some (compact_text (record_data (shown_record facts i key)))
    else None

-- the texts of those of these records that stand in it
abbrev pub record_texts : Facts → ℕ → List RecordName → List (List ℕ)
record_texts facts i keys = filter_map (record_text facts i) keys

-- the member of the parties, left out where there are none
abbrev pub party_text : List (List ℕ) → List ℕ
party_text [] = []
party_text (t ∷ ts) = codes ",\"Party\":[" ++ (comma_list false (t ∷ ts) ++ codes "]")

-- from the Election to the devices
abbrev pub middle_text : Frame → List ℕ → List ℕ → List ℕ
middle_text frame date device =
    codes ",\"Election\":[" ++ (comma_list false (texts_of frame.elections)
    ++ (codes "],\"GeneratedDate\":" ++ (quoted date
    ++ (codes ",\"GpUnit\":[" ++ (comma_list false (texts_of frame.units)
    ++ (codes "]" ++ (party_text (texts_of frame.parties)
    ++ (codes ",\"ReportGeneratingDeviceIds\":["
    ++ (quoted device
    ++ codes "],\"ReportType\":[\"aggregated\"],\"ReportingDevice\":[")))))))))

-- the bodies of these devices that volume i shows
abbrev pub device_texts : Facts → ℕ → List (List ℕ) → List (List ℕ)
device_texts facts i ids = map (λ id. shown_body i (device_list facts id)) ids

abbrev pub end_text : List ℕ
end_text = codes "],\"Version\":\"1.0.0\"}"
