-- The members of a volume.
use Rattle.std.proofs.Common.{◌≡◌, ℕ, suc, List, [], ◌∷◌, Option, Some, None, IsUtf8, codes, refl}
use Rattle.std.proofs.Common.{subst, arith}
use Rattle.serde_json.specs.Data.{Data, string, array, object, Items, no_items, item, Members}
use Rattle.serde_json.specs.Data.{no_members, put}
use Rattle.serde_json.specs.Find.{get}
use Rattle.cvr_report.specs.Volume.{volume_of}
use Rattle.cvr_exchange.proofs.Clean.{IsClean, clean_string, clean_array, clean_put, clean_none}
use Rattle.cvr_exchange.proofs.Records.{name_utf8}
use Rattle.cvr_facts.proofs.Lemmas.{only_one}

-- the report of these parts
abbrev pub made_of : (es us : Items) (date device : List ℕ) (ds ps rs : Items) → Data
made_of es us date device ds ps rs = volume_of
    (record {
      elections = es;
      date = date;
      units = us;
      parties = ps;
      device = device;
      devices = ds;
    }) rs

-- a list, left out where it is empty
abbrev pub unless_none : Items → Option Data
unless_none no_items = None
unless_none (item d ds) = Some (array (item d ds))

abbrev put_unless : List ℕ → Items → Members → Members
put_unless k no_items ms = ms
put_unless k (item d ds) ms = put k (array (item d ds)) ms

-- ---- each member

module _ (es us : Items) (date device : List ℕ) (ds : Items) where
  pub at_class : (ps rs : Items) → get (codes "@type") (made_of es us date device ds ps rs)
      ≡ Some (string (codes "CVR.CastVoteRecordReport"))
  at_class ps rs = grind arith

  pub at_cvrs : (ps rs : Items) → get (codes "CVR") (made_of es us date device ds ps rs)
      ≡ unless_none rs
  at_cvrs ps rs = grind arith

  pub at_elections : (ps rs : Items) → get (codes "Election") (made_of es us date device ds ps rs)
      ≡ Some (array es)
  at_elections ps rs = grind arith

  pub at_date : (ps rs : Items) → get (codes "GeneratedDate") (made_of es us date device ds ps rs)
      ≡ Some (string date)
  at_date ps rs = grind arith

  pub at_units : (ps rs : Items) → get (codes "GpUnit") (made_of es us date device ds ps rs)
      ≡ Some (array us)
  at_units ps rs = grind arith

  pub at_notes : (ps rs : Items) → get (codes "Notes") (made_of es us date device ds ps rs) ≡ None
  at_notes ps rs = grind arith

  pub at_other_type : (ps rs : Items) → get (codes "OtherReportType")
      (made_of es us date device ds ps rs) ≡ None
  at_other_type ps rs = grind arith

  pub at_parties : (ps rs : Items) → get (codes "Party") (made_of es us date device ds ps rs)
      ≡ unless_none ps
  at_parties ps rs = grind arith

  pub at_generating : (ps rs : Items) → get (codes "ReportGeneratingDeviceIds")
      (made_of es us date device ds ps rs) ≡ Some (array (item (string device) no_items))
  at_generating ps rs = grind arith

  pub at_report_type : (ps rs : Items) → get (codes "ReportType")
      (made_of es us date device ds ps rs)
      ≡ Some (array (item (string (codes "aggregated")) no_items))
  at_report_type ps rs = grind arith

  pub at_devices : (ps rs : Items) → get (codes "ReportingDevice")
      (made_of es us date device ds ps rs) ≡ Some (array ds)
  at_devices ps rs = grind arith

  pub at_version : (ps rs : Items) → get (codes "Version") (made_of es us date device ds ps rs)
      ≡ Some (string (codes "1.0.0"))
  at_version ps rs = grind arith

-- ---- the members, put in one after the other

abbrev from_device : List ℕ → Items → Members
from_device device ds =
    put (codes "ReportGeneratingDeviceIds") (array (item (string device) no_items))
    (put (codes "ReportType") (array (item (string (codes "aggregated")) no_items))
    (put (codes "ReportingDevice") (array ds)
    (put (codes "Version") (string (codes "1.0.0")) no_members)))

abbrev all_put : (es us : Items) (date device : List ℕ) (ds ps rs : Items) → Members
all_put es us date device ds ps rs =
    put (codes "@type") (string (codes "CVR.CastVoteRecordReport"))
    (put_unless (codes "CVR") rs
    (put (codes "Election") (array es)
    (put (codes "GeneratedDate") (string date)
    (put (codes "GpUnit") (array us)
    (put_unless (codes "Party") ps (from_device device ds))))))

put_in_order : (es us : Items) (date device : List ℕ) (ds ps rs : Items)
    → object (all_put es us date device ds ps rs) ≡ made_of es us date device ds ps rs
put_in_order es us date device ds ps rs = grind arith

clean_unless : (n : ℕ) (k : List ℕ) (ds : Items) (ms : Members) → IsUtf8 k → IsClean n (array ds)
    → IsClean (suc n) (object ms) → IsClean (suc n) (object (put_unless k ds ms))
clean_unless n k no_items ms u a h = h
clean_unless n k (item d ds) ms u a h = clean_put n k (array (item d ds)) ms u a h

clean_one : (s : List ℕ) → IsUtf8 s → IsClean 126 (array (item (string s) no_items))
clean_one s u = clean_array 125 (string s ∷ [])
    (λ d a. subst (IsClean 125) (only_one (string s) d a) (clean_string 125 s u))

-- a volume of clean parts is clean
pub made_clean : (es us : Items) (date device : List ℕ) (ds ps rs : Items) → IsUtf8 date
    → IsUtf8 device
    → IsClean 126 (array es) → IsClean 126 (array us) → IsClean 126 (array ds)
    → IsClean 126 (array ps) → IsClean 126 (array rs)
    → IsClean 127 (made_of es us date device ds ps rs)
made_clean es us date device ds ps rs hdate hdevice hes hus hds hps hrs =
    let m1 = clean_put 126 (codes "Version") (string (codes "1.0.0")) no_members
    (name_utf8 (codes "Version") refl)
    (clean_string 126 (codes "1.0.0") (name_utf8 (codes "1.0.0") refl)) (clean_none 126) in
    let m2 = clean_put 126 (codes "ReportingDevice") (array ds) _
    (name_utf8 (codes "ReportingDevice") refl) hds m1 in
    let m3 = clean_put 126 (codes "ReportType")
    (array (item (string (codes "aggregated")) no_items)) _
    (name_utf8 (codes "ReportType") refl)
    (clean_one (codes "aggregated") (name_utf8 (codes "aggregated") refl)) m2 in
    let m4 = clean_put 126 (codes "ReportGeneratingDeviceIds")
    (array (item (string device) no_items)) _
    (name_utf8 (codes "ReportGeneratingDeviceIds") refl) (clean_one device hdevice) m3 in
    let m5 = clean_unless 126 (codes "Party") ps (from_device device ds)
    (name_utf8 (codes "Party") refl) hps m4 in
    let m6 = clean_put 126 (codes "GpUnit") (array us)
    (put_unless (codes "Party") ps (from_device device ds)) (name_utf8 (codes "GpUnit") refl)
    hus m5 in
    let m7 = clean_put 126 (codes "GeneratedDate") (string date)
    (put (codes "GpUnit") (array us) (put_unless (codes "Party") ps (from_device device ds)))
    (name_utf8 (codes "GeneratedDate") refl) (clean_string 126 date hdate) m6 in
    let m8 = clean_put 126 (codes "Election") (array es)
    (put (codes "GeneratedDate") (string date)
    (put (codes "GpUnit") (array us) (put_unless (codes "Party") ps (from_device device ds))))
    (name_utf8 (codes "Election") refl) hes m7 in
    let m9 = clean_unless 126 (codes "CVR") rs
    (put (codes "Election") (array es)
    (put (codes "GeneratedDate") (string date)
    (put (codes "GpUnit") (array us) (put_unless (codes "Party") ps (from_device device ds)))))
    (name_utf8 (codes "CVR") refl) hrs m8 in
    let m10 = clean_put 126 (codes "@type") (string (codes "CVR.CastVoteRecordReport"))
    (put_unless (codes "CVR") rs (put (codes "Election") (array es)
    (put (codes "GeneratedDate") (string date)
    (put (codes "GpUnit") (array us) (put_unless (codes "Party") ps (from_device device ds))))))
    (name_utf8 (codes "@type") refl)
    (clean_string 126 (codes "CVR.CastVoteRecordReport")
    (name_utf8 (codes "CVR.CastVoteRecordReport") refl)) m9 in
    subst (IsClean 127) (put_in_order es us date device ds ps rs) m10
