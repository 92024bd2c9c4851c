-- Where in a file a fact comes from.
use Rattle.std.proofs.Common.{◌≡◌, ℕ, List, map, true, Contains, inl, inr, subst}
use Rattle.std.specs.List.{flat_map}
use Rattle.std.specs.FinSet.{contains}
use Rattle.std.proofs.lemmas.List.Elements.{Contains-append_left, Contains-append_right}
use Rattle.std.proofs.lemmas.List.Elements.{Contains-append_cases}
use Rattle.serde_json.specs.Data.{Data}
use Rattle.cdf_definition.specs.Acceptance.{value_in}
use Rattle.cvr_fact_types.specs.Facts.{Fact, fact_total, fact_exact}
use Rattle.cvr_facts.specs.Reports.{device_fact, header_fact, snapshot_fact, cvr_facts}
use Rattle.cvr_facts.specs.Reports.{report_facts, facts}
use Rattle.cvr_facts.specs.Sources.{devices_in, cvrs_in, snapshots_in, Source, of_device, of_header}
use Rattle.cvr_facts.specs.Sources.{of_snapshot}
use Rattle.cvr_facts.proofs.Members.{at_head, at_tail, head_or_tail, in_map, from_map, in_flat}
use Rattle.cvr_facts.proofs.Members.{from_flat, in_set, from_set}

source_in_cvr : (d c : Data) (f : Fact) → Contains (cvrs_in d) c → Contains (cvr_facts c) f
    → Source d f
source_in_cvr d c f a b =
    elim (head_or_tail (header_fact c) f (map (snapshot_fact c) (snapshots_in c)) b) [
      | inl is ↦ subst (Source d) is (of_header c a)
      | inr more ↦ let r = from_map (snapshot_fact c) f (snapshots_in c) more in
          subst (Source d) r.2 (of_snapshot c r.0 a r.1)
    ]

pub source_of : (d : Data) (f : Fact) → Contains (report_facts d) f → Source d f
source_of d f a =
    elim (Contains-append_cases (map device_fact (devices_in d)) (flat_map cvr_facts (cvrs_in d)) f
    a) [
      | inl here ↦ let r =
          from_map device_fact f (devices_in d) here in subst (Source d) r.2 (of_device r.0 r.1)
      | inr there ↦ let r = from_flat cvr_facts f (cvrs_in d) there in source_in_cvr d r.0 f r.1 r.2
    ]

listed_in_cvr : (d c : Data) (f : Fact) → Contains (cvrs_in d) c → Contains (cvr_facts c) f
    → Contains (report_facts d) f
listed_in_cvr d c f a b =
    Contains-append_right (map device_fact (devices_in d)) (flat_map cvr_facts (cvrs_in d)) f
    (in_flat cvr_facts c f (cvrs_in d) a b)

pub device_listed : (d e : Data) → Contains (devices_in d) e
    → Contains (report_facts d) (device_fact e)
device_listed d e a =
    Contains-append_left (map device_fact (devices_in d)) (flat_map cvr_facts (cvrs_in d))
    (device_fact e) (in_map device_fact e (devices_in d) a)

pub header_listed : (d c : Data) → Contains (cvrs_in d) c
    → Contains (report_facts d) (header_fact c)
header_listed d c a = listed_in_cvr d c (header_fact c) a
    (at_head (header_fact c) (map (snapshot_fact c) (snapshots_in c)))

pub snapshot_listed : (d c s : Data) → Contains (cvrs_in d) c → Contains (snapshots_in c) s
    → Contains (report_facts d) (snapshot_fact c s)
snapshot_listed d c s a b =
    listed_in_cvr d c (snapshot_fact c s) a
    (at_tail (header_fact c) (snapshot_fact c s) (map (snapshot_fact c) (snapshots_in c))
    (in_map (snapshot_fact c) s (snapshots_in c) b))

-- ---- of a file

pub fact_source : (bytes : List ℕ) (f : Fact) → contains (facts bytes) f ≡ true
    → Source (value_in bytes) f
fact_source bytes f h = source_of (value_in bytes) f
    (from_set fact_total fact_exact (report_facts (value_in bytes)) f h)

pub fact_held : (bytes : List ℕ) (f : Fact) → Contains (report_facts (value_in bytes)) f
    → contains (facts bytes) f ≡ true
fact_held bytes f a = in_set fact_total fact_exact (report_facts (value_in bytes)) f a
