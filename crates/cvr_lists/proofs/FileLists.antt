-- The facts of an accepted file, as they are kept of it.
use Rattle.std.proofs.Common.{◌≡◌, ◌++◌, ℕ, List, [], ◌∷◌, map, Contains, Some, None, inl, inr, refl}
use Rattle.std.proofs.Common.{sym, ap, ◌∙◌, subst}
use Rattle.std.specs.List.{flat_map}
use Rattle.std.specs.FinSet.{from_list, union}
use Rattle.std.proofs.lemmas.List.{map-append}
use Rattle.std.proofs.lemmas.List.Elements.{Contains-append_cases}
use Rattle.serde_json.specs.Data.{Data}
use Rattle.cdf_types.specs.declared.report.Cvr.{Cvr}
use Rattle.cdf_types.specs.declared.report.Report.{Report}
use Rattle.cdf_parts.specs.Places.{Contest}
use Rattle.cdf_typed.specs.Typed.{device_of, snapshot_of, cvr_of}
use Rattle.cdf_definition.specs.Acceptance.{first_refusal, report_in, value_in}
use Rattle.cdf_definition.specs.Frame.{Frame}
use Rattle.cvr_fact_types.specs.declared.name.RecordName.{RecordName}
use Rattle.cvr_fact_types.specs.declared.snapshot.SnapshotFact.{SnapshotFact}
use Rattle.cvr_fact_types.specs.Facts.{fact_cmp, fact_total, fact_exact}
use Rattle.cvr_facts.specs.Lists.{stated_header, stated_list, stated_snapshot}
use Rattle.cvr_facts.specs.Lists.{stated_snapshots}
use Rattle.cvr_facts.specs.Reports.{cvr_facts, device_fact, facts, header_fact, snapshot_fact}
use Rattle.cvr_facts.specs.Sources.{cvrs_in, devices_in, snapshots_in}
use Rattle.cvr_facts.specs.Stands.{ListIsSpelled}
use Rattle.cvr_facts.specs.Unions.{empty_union}
use Rattle.cvr_facts.proofs.Laws.{spelled_told}
use Rattle.cvr_facts.proofs.Lemmas.{from_flat, from_map, head_or_tail, in_flat, in_map, none_listed}
use Rattle.cvr_office.specs.declared.any_fact.AnyFact.{AnyFact}
use Rattle.cvr_office.specs.declared.any_fact.AnyFact.TheVariants as any
use Rattle.cvr_office.specs.Names.{record_of}
use Rattle.cvr_office.specs.Place.{fact_of}
use Rattle.cvr_office.specs.Plain.{set_of, IsPut, IsSpelled}
use Rattle.cvr_office.specs.Runs.{AreSpelled}
use Rattle.cvr_lists.specs.Kept.{device_stated, record_stated}
use Rattle.cvr_lists.proofs.Insertions.{set_both}

-- ---- they are those of its value

devices_are : (es : List Data) → map fact_of (map device_stated (map device_of es))
    ≡ map device_fact es
devices_are [] = refl
devices_are (e ∷ es) = ap (λ fs. device_fact e ∷ fs) (devices_are es)

module _ (contests : List Contest) where
  snapshots_are : (c : Data) (ss : List Data) → map fact_of
      (map any.Snapshot (map (stated_snapshot contests (cvr_of contests c))
      (map (snapshot_of contests) ss))) ≡ map (snapshot_fact c) ss
  snapshots_are c [] = refl
  snapshots_are c (s ∷ ss) = ap (λ fs. snapshot_fact c s ∷ fs) (snapshots_are c ss)

  record_is : (c : Data) → map fact_of (record_stated contests (cvr_of contests c)) ≡ cvr_facts c
  record_is c = ap (λ fs. header_fact c ∷ fs) (snapshots_are c (snapshots_in c))

  records_are : (cs : List Data) → map fact_of
      (flat_map (record_stated contests) (map (cvr_of contests) cs)) ≡ flat_map cvr_facts cs
  records_are [] = refl
  records_are (c ∷ cs) =
      map-append fact_of (record_stated contests (cvr_of contests c))
      (flat_map (record_stated contests) (map (cvr_of contests) cs))
      ∙ (λ i. record_is c i ++ records_are cs i)

-- ---- each fact of its records

-- what holds of each header and of each snapshot holds of each fact
each_kept : (contests : List Contest) (cvrs : List Cvr) (P : AnyFact → Type 0)
    → ((cvr : Cvr) → Contains cvrs cvr → P (any.Header (stated_header cvr)))
    → ((s : SnapshotFact) → Contains (flat_map (stated_snapshots contests) cvrs) s
    → P (any.Snapshot s))
    → (f : AnyFact) → Contains (flat_map (record_stated contests) cvrs) f → P f
each_kept contests cvrs P headers snapshots f at =
    let of = from_flat (record_stated contests) f cvrs at in
    elim (head_or_tail (any.Header (stated_header of.0))
    f (map any.Snapshot (stated_snapshots contests of.0)) of.2) [
      | inl is ↦ subst P is (headers of.0 of.1)
      | inr more ↦
          let s = from_map any.Snapshot f (stated_snapshots contests of.0) more in
          subst P s.2
          (snapshots s.0 (in_flat (stated_snapshots contests) of.0 s.0 cvrs of.1 s.1))
    ]

-- ---- the file's

-- these are the facts of the file: of its devices, and of its records
pub record AreFileFacts (frame : Frame) (bytes : List ℕ) (ds rs : List AnyFact) : Type 0 where
  pub facts : set_of (ds ++ rs) ≡ facts bytes
  pub spelled : AreSpelled frame.contests (ds ++ rs)
  pub devices : (f : AnyFact) → Contains ds f → record_of (fact_of f) ≡ None
  pub records : (f : AnyFact) → Contains rs f
      → (k : RecordName) × (record_of (fact_of f) ≡ Some k)

module _ (frame : Frame) (bytes : List ℕ) (accepted : first_refusal frame bytes ≡ None)
    (devices kept none records : List AnyFact)
    (devices_is : devices ≡ map device_stated (report_in frame.contests bytes).devices)
    (kept_is : kept ≡ flat_map (record_stated frame.contests) (report_in frame.contests bytes).cvrs)
    (none_is : none ≡ []) (put : IsPut none kept records) where
  abbrev report : Report
  report = report_in frame.contests bytes

  sorted : set_of records ≡ set_of kept
  sorted = put.set ∙ ((λ i. union (set_of (none_is i)) (set_of kept))
      ∙ empty_union fact_total fact_exact (set_of kept))

  set_is : set_of (devices ++ records) ≡ facts bytes
  set_is =
      set_both devices records ∙ ap (union (set_of devices)) sorted ∙ sym (set_both devices kept)
      ∙ (λ i. set_of (devices_is i ++ kept_is i))
      ∙ ap (from_list {R = fact_cmp})
      (map-append fact_of (map device_stated report.devices)
      (flat_map (record_stated frame.contests) report.cvrs)
      ∙ (λ i. devices_are (devices_in (value_in bytes)) i
      ++ records_are frame.contests (cvrs_in (value_in bytes)) i))

  in_kept : (f : AnyFact) → Contains records f
      → Contains (flat_map (record_stated frame.contests) report.cvrs) f
  in_kept f at = elim (put.from f at) [
    | inl gone ↦ absurd (none_listed f (subst (λ xs. Contains xs f) none_is gone))
    | inr more ↦ subst (λ xs. Contains xs f) kept_is more
  ]

  told : ListIsSpelled frame.contests (stated_list frame.contests report)
  told = spelled_told frame bytes report (record { accepted = accepted; report_is = refl })

  are_spelled : AreSpelled frame.contests (devices ++ records)
  are_spelled f at = elim (Contains-append_cases devices records f at) [
    | inl a ↦ let from = from_map device_stated f report.devices
        (subst (λ xs. Contains xs f) devices_is a) in subst (IsSpelled frame.contests) from.2 tt
    | inr b ↦ each_kept frame.contests report.cvrs (IsSpelled frame.contests)
        (λ cvr c. told.headers (stated_header cvr) (in_map stated_header cvr report.cvrs c))
        (λ s c. told.snapshots s c) f (in_kept f b)
  ]

  of_no_record : (f : AnyFact) → Contains devices f → record_of (fact_of f) ≡ None
  of_no_record f at =
      let from = from_map device_stated f report.devices
      (subst (λ xs. Contains xs f) devices_is at) in
      ap (λ x. record_of (fact_of x)) (sym from.2)

  of_record : (f : AnyFact) → Contains records f
      → (k : RecordName) × (record_of (fact_of f) ≡ Some k)
  of_record f at = each_kept frame.contests report.cvrs
      (λ x. (k : RecordName) × (record_of (fact_of x) ≡ Some k))
      (λ cvr c. ((stated_header cvr).key, refl)) (λ s c. (s.key, refl)) f (in_kept f at)

  pub file_facts : AreFileFacts frame bytes devices records
  file_facts = record {
    facts = set_is;
    spelled = are_spelled;
    devices = of_no_record;
    records = of_record;
  }
