-- Each record of a valid file has a header, a snapshot and a device.
use Rattle.std.proofs.Common.{◌≡◌, ℕ, List, [], true, Some, IsSome, Contains, codes, sym, ap, ◌∙◌}
use Rattle.std.proofs.Common.{subst}
use Rattle.std.specs.Prelude.{unwrap_or}
use Rattle.std.specs.FinSet.{contains}
use Rattle.serde_json.specs.Data.{Data, null}
use Rattle.serde_json.specs.Written.{compact_text}
use Rattle.cdf_parts.specs.Parts.{id_of, text_at, text_in}
use Rattle.cdf_form.proofs.Lemmas.{some_of}
use Rattle.cdf_definition.specs.Acceptance.{IsReport, value_in}
use Rattle.cdf_check.proofs.Laws.{report_read}
use Rattle.cvr_fact_types.specs.Facts.{Fact, Device}
use Rattle.cvr_facts.specs.Stands.{HasRecord, IsOfRecord}
use Rattle.cvr_office.specs.FileFacts.{RecordsWholeLaw}
use Rattle.cvr_facts.specs.Reports.{device_fact, header_fact, snapshot_fact, facts}
use Rattle.cvr_facts.proofs.Lemmas.{one_listed, from_map}
use Rattle.cvr_facts.specs.Sources.{devices_in, cvrs_in, snapshots_in, Source, of_device, of_header}
use Rattle.cvr_facts.specs.Sources.{of_snapshot}
use Rattle.cvr_facts.proofs.Laws.{device_listed, header_listed, snapshot_listed, fact_source}
use Rattle.cvr_facts.proofs.Laws.{fact_held}

-- ---- parts of a record

abbrev device_id : Data → List ℕ
device_id c = text_at (codes "CreatingDeviceId") c

abbrev unique_id : Data → List ℕ
unique_id c = text_at (codes "UniqueId") c

text_there : (name : List ℕ) (c : Data) → IsSome (text_in name c)
    → text_in name c ≡ Some (text_at name c)
text_there name c there =
    let s = some_of (text_in name c) there in s.1 ∙ ap Some (sym (ap (λ o. unwrap_or o []) s.1))

module _ (d : Data) (report : IsReport d) (c : Data) (a : Contains (cvrs_in d) c) where
  has_snapshot : (s : Data) × Contains (snapshots_in c) s
  has_snapshot = one_listed (snapshots_in c)
      (((report_read d report.form report.references).cvrs.items c a).some)

  has_device : (e : Data) × Contains (devices_in d) e × (id_of e ≡ device_id c)
  has_device =
      let there = ((report_read d report.form report.references).cvrs.items c a).device in
      let named = (report.references.cvrs c a).device (device_id c)
      (text_there (codes "CreatingDeviceId") c there) in
      from_map id_of (device_id c) (devices_in d) named

-- ---- files

record_whole : (bytes : List ℕ) → IsReport (value_in bytes) → (c : Data)
    → Contains (cvrs_in (value_in bytes)) c
    → HasRecord (facts bytes) (device_id c) (unique_id c)
record_whole bytes report c a =
    let d = value_in bytes in
    let s = has_snapshot d report c a in
    let e = has_device d report c a in
    let held = fact_held bytes (device_fact e.0) (device_listed d e.0 e.1) in
    record {
      header = (_, fact_held bytes (header_fact c) (header_listed d c a));
      snapshot = (
        id_of s.0,
        compact_text s.0,
        fact_held bytes (snapshot_fact c s.0)
            (snapshot_listed d c s.0 a s.1),
      );
      creator = (
        compact_text e.0,
        subst
            (λ id. contains (facts bytes) (Device id (compact_text e.0)) ≡ true) e.2 held,
      );
    }

source_whole : (bytes : List ℕ) (f : Fact) → IsReport (value_in bytes) → Source (value_in bytes) f
    → IsOfRecord (facts bytes) f
source_whole bytes _ report (of_device e a) = tt
source_whole bytes _ report (of_header c a) = record_whole bytes report c a
source_whole bytes _ report (of_snapshot c s a b) = record_whole bytes report c a

pub records_whole : RecordsWholeLaw
records_whole frame bytes f valid held =
    let is : value_in bytes ≡ valid.0 = ap (λ o. unwrap_or o null) valid.1.1 in
    source_whole bytes f (subst IsReport (sym is) valid.2) (fact_source bytes f held)
