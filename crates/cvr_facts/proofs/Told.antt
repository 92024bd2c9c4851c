-- What a typed report gives is the facts of its file.
use Rattle.std.proofs.Common.{◌≡◌, ℕ, List, [], ◌∷◌, ◌++◌, map, Contains, inl, inr, refl, ap, ◌∙◌}
use Rattle.std.proofs.Common.{subst}
use Rattle.std.specs.List.{flat_map}
use Rattle.std.specs.FinSet.{from_list}
use Rattle.std.proofs.lemmas.List.{map-append}
use Rattle.std.proofs.lemmas.List.Elements.{Contains-append_left, Contains-append_right}
use Rattle.std.proofs.lemmas.List.Elements.{Contains-append_cases}
use Rattle.serde_json.specs.Data.{Data}
use Rattle.cdf_types.specs.declared.report.Report.{Report}
use Rattle.cdf_parts.specs.Places.{Contest}
use Rattle.cdf_typed.specs.Typed.{device_of, snapshot_of, cvr_of, report_of}
use Rattle.cdf_definition.specs.Frame.{Frame}
use Rattle.cdf_definition.specs.Acceptance.{value_in}
use Rattle.cvr_fact_types.specs.Facts.{Fact, fact_cmp, fact_total, fact_exact}
use Rattle.cvr_facts.specs.Reports.{device_fact, header_fact, snapshot_fact, report_facts, facts}
use Rattle.cvr_facts.specs.Lists.{stated_device, stated_header, stated_snapshot, stated_snapshots}
use Rattle.cvr_facts.specs.Lists.{fact_of_device, fact_of_header, fact_of_snapshot, facts_in}
use Rattle.cvr_facts.specs.Lists.{stated_list, IsReportOf}
use Rattle.cvr_facts.proofs.Members.{in_map, from_map, in_flat, from_flat, same_from_list}
use Rattle.cvr_facts.specs.Sources.{devices_in, cvrs_in, snapshots_in, Source, of_device, of_header}
use Rattle.cvr_facts.specs.Sources.{of_snapshot}
use Rattle.cvr_facts.proofs.Sources.{source_of, device_listed, header_listed, snapshot_listed}

-- ---- the facts, kind by kind

abbrev snapshots_of : Data → List Fact
snapshots_of c = map (snapshot_fact c) (snapshots_in c)

-- of the records, headers before snapshots
abbrev of_records : Data → List Fact
of_records d = map header_fact (cvrs_in d) ++ flat_map snapshots_of (cvrs_in d)

abbrev by_kind : Data → List Fact
by_kind d = map device_fact (devices_in d) ++ of_records d

devices_told : (es : List Data) → map fact_of_device (map stated_device (map device_of es))
    ≡ map device_fact es
devices_told [] = refl
devices_told (e ∷ es) = ap (λ fs. device_fact e ∷ fs) (devices_told es)

headers_stated : (contests : List Contest) (cs : List Data)
    → map fact_of_header (map stated_header (map (cvr_of contests) cs)) ≡ map header_fact cs
headers_stated contests [] = refl
headers_stated contests (c ∷ cs) = ap (λ fs. header_fact c ∷ fs) (headers_stated contests cs)

snapshots_told : (contests : List Contest) (c : Data) (ss : List Data)
    → map fact_of_snapshot (map (stated_snapshot contests (cvr_of contests c))
    (map (snapshot_of contests) ss)) ≡ map (snapshot_fact c) ss
snapshots_told contests c [] = refl
snapshots_told contests c (s ∷ ss) =
    ap (λ fs. snapshot_fact c s ∷ fs) (snapshots_told contests c ss)

all_snapshots_told : (contests : List Contest) (cs : List Data)
    → map fact_of_snapshot (flat_map (stated_snapshots contests) (map (cvr_of contests) cs))
    ≡ flat_map snapshots_of cs
all_snapshots_told contests [] = refl
all_snapshots_told contests (c ∷ cs) =
    map-append fact_of_snapshot (stated_snapshots contests (cvr_of contests c))
    (flat_map (stated_snapshots contests) (map (cvr_of contests) cs))
    ∙ rw (snapshots_told contests c (snapshots_in c), all_snapshots_told contests cs) refl

told_by_kind : (contests : List Contest) (d : Data)
    → facts_in (stated_list contests (report_of contests d)) ≡ by_kind d
told_by_kind contests d = rw (
  devices_told (devices_in d),
  headers_stated contests (cvrs_in d),
  all_snapshots_told contests (cvrs_in d),
) refl

-- ---- the same members

record_source : (d : Data) (f : Fact) → Contains (of_records d) f → Source d f
record_source d f a =
    elim (Contains-append_cases (map header_fact (cvrs_in d)) (flat_map snapshots_of (cvrs_in d)) f
    a) [
      | inl here ↦ let r =
          from_map header_fact f (cvrs_in d) here in subst (Source d) r.2 (of_header r.0 r.1)
      | inr there ↦
          let c = from_flat snapshots_of f (cvrs_in d) there in
          let s = from_map (snapshot_fact c.0) f (snapshots_in c.0) c.2 in
          subst (Source d) s.2 (of_snapshot c.0 s.0 c.1 s.1)
    ]

told_source : (d : Data) (f : Fact) → Contains (by_kind d) f → Source d f
told_source d f a =
    elim (Contains-append_cases (map device_fact (devices_in d)) (of_records d) f a) [
      | inl here ↦ let r =
          from_map device_fact f (devices_in d) here in subst (Source d) r.2 (of_device r.0 r.1)
      | inr there ↦ record_source d f there
    ]

listed : (d : Data) (f : Fact) → Source d f → Contains (report_facts d) f
listed d _ (of_device e a) = device_listed d e a
listed d _ (of_header c a) = header_listed d c a
listed d _ (of_snapshot c s a b) = snapshot_listed d c s a b

of_record : (d : Data) (f : Fact) → Contains (of_records d) f → Contains (by_kind d) f
of_record d f a = Contains-append_right (map device_fact (devices_in d)) (of_records d) f a

stated : (d : Data) (f : Fact) → Source d f → Contains (by_kind d) f
stated d _ (of_device e a) =
    Contains-append_left (map device_fact (devices_in d)) (of_records d) (device_fact e)
    (in_map device_fact e (devices_in d) a)
stated d _ (of_header c a) =
    of_record d (header_fact c)
    (Contains-append_left (map header_fact (cvrs_in d)) (flat_map snapshots_of (cvrs_in d))
    (header_fact c) (in_map header_fact c (cvrs_in d) a))
stated d _ (of_snapshot c s a b) =
    of_record d (snapshot_fact c s)
    (Contains-append_right (map header_fact (cvrs_in d)) (flat_map snapshots_of (cvrs_in d))
    (snapshot_fact c s)
    (in_flat snapshots_of c (snapshot_fact c s) (cvrs_in d) a
    (in_map (snapshot_fact c) s (snapshots_in c) b)))

same_facts : (d : Data) → from_list {R = fact_cmp} (by_kind d) ≡ from_list (report_facts d)
same_facts d =
    same_from_list fact_total fact_exact (by_kind d) (report_facts d)
    (λ f a. listed d f (told_source d f a))
    (λ f a. stated d f (source_of d f a))

pub told_are : (frame : Frame) (bytes : List ℕ) (report : Report) → IsReportOf frame bytes report
    → from_list {R = fact_cmp} (facts_in (stated_list frame.contests report)) ≡ facts bytes
told_are frame bytes report of =
    ap (λ r. from_list {R = fact_cmp} (facts_in (stated_list frame.contests r))) of.report_is
    ∙ ap (from_list {R = fact_cmp}) (told_by_kind frame.contests (value_in bytes))
    ∙ same_facts (value_in bytes)
