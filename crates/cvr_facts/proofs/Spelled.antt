-- What a typed report gives is what the bodies spell.
use Rattle.std.proofs.Common.{◌≡◌, ℕ, List, [], map, Contains, false, Some, codes, refl, sym, ap}
use Rattle.std.proofs.Common.{◌∙◌, subst, arith}
use Rattle.std.specs.Prelude.{option_and_then, unwrap_or}
use Rattle.serde_json.specs.Data.{Data, null, boolean, number, string, array, object}
use Rattle.serde_json.specs.Find.{get, as_str}
use Rattle.serde_json.specs.Read.{read, max_depth}
use Rattle.serde_json.specs.Written.{compact_text, has_float}
use Rattle.cdf_types.specs.declared.report.Report.{Report}
use Rattle.cdf_parts.specs.Parts.{text_in, text_at}
use Rattle.cdf_parts.specs.Places.{Contest}
use Rattle.cdf_parts.specs.Proper.{IsProper}
use Rattle.cdf_parts.specs.Removing.{without}
use Rattle.cdf_parts.proofs.Laws.{listed_part, listed_reads_back, part_proper, part_reads_back}
use Rattle.cdf_parts.proofs.Laws.{read-proper, others_stay, without_proper, proper_read}
use Rattle.cdf_typed.specs.Typed.{device_of, snapshot_of, header_of, cvr_of, report_of}
use Rattle.cdf_definition.specs.Frame.{Frame}
use Rattle.cdf_definition.specs.Acceptance.{value_in}
use Rattle.cdf_definition.specs.Bodies.{IsInHeader}
use Rattle.cdf_definition.proofs.Laws.{valid_file, was_read, is_kept}
use Rattle.cvr_fact_types.specs.declared.device.DeviceFact.{DeviceFact}
use Rattle.cvr_fact_types.specs.declared.header.HeaderFact.{HeaderFact}
use Rattle.cvr_fact_types.specs.declared.snapshot.SnapshotFact.{SnapshotFact}
use Rattle.cvr_facts.specs.declared.list.FactList.{FactList}
use Rattle.cvr_facts.specs.Lists.{stated_device, stated_header, stated_snapshot, stated_snapshots}
use Rattle.cvr_facts.specs.Lists.{stated_list, AreFactsOf, IsReportOf}
use Rattle.cvr_facts.specs.Stands.{IsSpelledDevice, IsSpelledHeader, IsSpelledSnapshot}
use Rattle.cvr_facts.specs.Stands.{ListIsSpelled}
use Rattle.cvr_facts.proofs.Members.{from_map, from_flat}
use Rattle.cvr_facts.specs.Sources.{devices_in, cvrs_in, snapshots_in}

-- ---- headers

-- what a header keeps is what the record has
pub get-header_of : (name : List ℕ) (c : Data) → IsInHeader name
    → get name (header_of c) ≡ get name c
get-header_of name c kept = grind (arith, others_stay, codes, without)

-- so is a text in it
pub text_in-header_of : (name : List ℕ) (c : Data) → IsInHeader name
    → text_in name (header_of c) ≡ text_in name c
text_in-header_of name c kept = ap (option_and_then as_str) (get-header_of name c kept)

pub text_at-header_of : (name : List ℕ) (c : Data) → IsInHeader name
    → text_at name (header_of c) ≡ text_at name c
text_at-header_of name c kept = ap (λ o. unwrap_or o []) (text_in-header_of name c kept)

null_proper : (n : ℕ) → IsProper n null
null_proper n = record { well = tt; whole = refl; shallow = omega arith }

-- a proper record's header is proper
pub header_proper : (n : ℕ) (c : Data) → IsProper n c → IsProper n (header_of c)
header_proper n null h = null_proper n
header_proper n (boolean b) h = null_proper n
header_proper n (number x) h = null_proper n
header_proper n (string s) h = null_proper n
header_proper n (array ds) h = null_proper n
header_proper n (object ms) h =
    without_proper n (codes "CurrentSnapshotId") (without (codes "CVRSnapshot") ms)
    (without_proper n (codes "CVRSnapshot") ms h)

-- ---- bodies

spelled_device : (e : Data) → read (compact_text e) ≡ Some e
    → IsSpelledDevice (stated_device (device_of e))
spelled_device e back = record { id = rw back refl }

spelled_header : (contests : List Contest) (c : Data)
    → read (compact_text (header_of c)) ≡ Some (header_of c)
    → IsSpelledHeader (stated_header (cvr_of contests c))
spelled_header contests c back = record {
  device = rw back (sym (text_at-header_of (codes "CreatingDeviceId") c
      (is_kept (codes "CreatingDeviceId") refl refl)));
  unique =
      rw back (sym (text_at-header_of (codes "UniqueId") c (is_kept (codes "UniqueId") refl refl)));
  unit = rw back (sym (text_in-header_of (codes "BallotStyleUnitId") c
      (is_kept (codes "BallotStyleUnitId") refl refl)));
  batch = rw back (sym (text_in-header_of (codes "BatchId") c
      (is_kept (codes "BatchId") refl refl)));
}

spelled_snapshot : (contests : List Contest) (c s : Data) → read (compact_text s) ≡ Some s
    → IsSpelledSnapshot contests (stated_snapshot contests (cvr_of contests c)
    (snapshot_of contests s))
spelled_snapshot contests c s back =
    record { id = rw back refl; kind = rw back refl; moment = rw back refl; votes = rw back refl }

-- ---- a report that was read

module _ (contests : List Contest) (text : List ℕ) (d : Data) (is : read text ≡ Some d)
    (whole : has_float d ≡ false) where
  abbrev stated : FactList
  stated = stated_list contests (report_of contests d)

  device_stated : (f : DeviceFact) → Contains stated.devices f
      → IsSpelledDevice f
  device_stated f a =
      let t = from_map stated_device f (map device_of (devices_in d)) a in
      let e = from_map device_of t.0 (devices_in d) t.1 in
      let back =
      part_reads_back text d e.0 is whole (listed_part (codes "ReportingDevice") d e.0 e.1) in
      subst IsSpelledDevice (ap stated_device e.2 ∙ t.2) (spelled_device e.0 back)

  header_back : (c : Data) → Contains (cvrs_in d) c
      → read (compact_text (header_of c)) ≡ Some (header_of c)
  header_back c a =
      read-proper (header_of c)
      (header_proper max_depth c (part_proper max_depth c d (listed_part (codes "CVR") d c a)
      (proper_read text d is whole)))

  header_told : (f : HeaderFact) → Contains stated.headers f
      → IsSpelledHeader f
  header_told f a =
      let t = from_map stated_header f (map (cvr_of contests) (cvrs_in d)) a in
      let c = from_map (cvr_of contests) t.0 (cvrs_in d) t.1 in
      subst IsSpelledHeader (ap stated_header c.2 ∙ t.2)
      (spelled_header contests c.0 (header_back c.0 c.1))

  snapshot_back : (c s : Data) → Contains (cvrs_in d) c → Contains (snapshots_in c) s
      → read (compact_text s) ≡ Some s
  snapshot_back c s a b =
      listed_reads_back text (codes "CVR") (codes "CVRSnapshot") d c s is whole a b

  snapshot_of_cvr : (c : Data) (f : SnapshotFact) → Contains (cvrs_in d) c
      → Contains (stated_snapshots contests (cvr_of contests c)) f → IsSpelledSnapshot contests f
  snapshot_of_cvr c f a b =
      let t = from_map (stated_snapshot contests (cvr_of contests c)) f
      (map (snapshot_of contests) (snapshots_in c)) b in
      let s = from_map (snapshot_of contests) t.0 (snapshots_in c) t.1 in
      subst (IsSpelledSnapshot contests) (ap (stated_snapshot contests (cvr_of contests c)) s.2 ∙ t.2)
      (spelled_snapshot contests c s.0 (snapshot_back c s.0 a s.1))

  snapshot_stated : (f : SnapshotFact) → Contains stated.snapshots f → IsSpelledSnapshot contests f
  snapshot_stated f a =
      let t = from_flat (stated_snapshots contests) f (map (cvr_of contests) (cvrs_in d)) a in
      let c = from_map (cvr_of contests) t.0 (cvrs_in d) t.1 in
      snapshot_of_cvr c.0 f c.1 (subst (λ x. Contains (stated_snapshots contests x) f) (sym c.2) t.2)

-- ---- an accepted file

-- what its report says is what its bodies spell
pub spelled_told : (frame : Frame) (bytes : List ℕ) (report : Report)
    → IsReportOf frame bytes report
    → ListIsSpelled frame.contests (stated_list frame.contests report)
spelled_told frame bytes report of =
    let v = (valid_file frame bytes).0 of.accepted in
    let same : value_in bytes ≡ v.0 = ap (λ o. unwrap_or o null) v.1.1 in
    let is : report ≡ report_of frame.contests v.0 =
    of.report_is ∙ ap (report_of frame.contests) same in
    let read = was_read bytes v.0 v.1.1 in
    subst (λ r. ListIsSpelled frame.contests (stated_list frame.contests r)) (sym is) (record {
      devices = device_stated frame.contests bytes v.0 read v.2.whole;
      headers = header_told frame.contests bytes v.0 read v.2.whole;
      snapshots = snapshot_stated frame.contests bytes v.0 read v.2.whole;
    })

-- so is each fact that the report says
pub spelled_are : (frame : Frame) (bytes : List ℕ) (report : Report) (list : FactList)
    → IsReportOf frame bytes report
    → AreFactsOf frame.contests report list → ListIsSpelled frame.contests list
spelled_are frame bytes report list of stated =
    let all = spelled_told frame bytes report of in
    record {
      devices = λ f a. all.devices f (stated.devices f a);
      headers = λ f a. all.headers f (stated.headers f a);
      snapshots = λ f a. all.snapshots f (stated.snapshots f a);
    }
