-- The sums of each current snapshot are those of contests of the definition, in range.
use Rattle.std.proofs.Common.{◌≡◌, ℕ, List, true, false, cond, Contains, Some, None, codes, sym, ap}
use Rattle.std.proofs.Common.{subst}
use Rattle.std.specs.Prelude.{unwrap_or}
use Rattle.std.specs.FinSet.{items, contains}
use Rattle.std.proofs.Math.Logic.{∥∥₁_elim}
use Rattle.std.proofs.Math.Nat.{ℕ_set}
use native.Mathlib.Bridge.{le_prop}
use Rattle.serde_json.specs.Data.{Data, null}
use Rattle.serde_json.specs.Read.{read}
use Rattle.serde_json.specs.Written.{compact_text}
use Rattle.cdf_parts.specs.Places.{Contest}
use Rattle.cdf_parts.proofs.Laws.{listed_reads_back}
use Rattle.cdf_typed.specs.Range.{SnapshotInRange}
use Rattle.cdf_typed.specs.Typed.{snapshot_of, cvr_of}
use Rattle.cdf_definition.specs.Acceptance.{Valid, value_in}
use Rattle.cdf_definition.specs.Frame.{Frame}
use Rattle.cdf_definition.specs.Sound.{IsFrame}
use Rattle.cdf_definition.proofs.Laws.{was_read}
use Rattle.cdf_check.proofs.Laws.{in_range, contests_agree}
use Rattle.cvr_fact_types.specs.declared.name.RecordName.{RecordName}
use Rattle.cvr_fact_types.specs.Facts.{Fact, Device, Header, Snapshot, Facts}
use Rattle.cvr_facts.specs.Choosing.{data_of, is_name, snapshot_body}
use Rattle.cvr_facts.proofs.Laws.{AreInRange-from_snapshot, current as current_is, contains_iff}
use Rattle.cvr_facts.proofs.Laws.{fact_source}
use Rattle.cvr_facts.proofs.Lemmas.{in_map, from-filter_map}
use Rattle.cvr_facts.specs.Sources.{cvrs_in, snapshots_in, Source, of_device, of_header}
use Rattle.cvr_facts.specs.Sources.{of_snapshot}
use Rattle.cvr_office.specs.Tallied.{sums_of_body}
use Rattle.cvr_office.specs.CanHold.{CanHold}
use Rattle.cvr_office.specs.Adding.{AreSums, CurrentsAreSums}
use Rattle.cvr_office.proofs.Lemmas.{sums_in_place}
use Rattle.std.proofs.lemmas.Map.Keys.{IsDistinct-prop}

-- the snapshot that a fact spells, if it is one
abbrev InRange : List Contest → Fact → Type 0
InRange contests (Device i b) = Unit {0}
InRange contests (Header d u b) = Unit {0}
InRange contests (Snapshot d u i b) = SnapshotInRange contests (snapshot_of contests (data_of b))

module _ (frame : Frame) (bytes : List ℕ) (sound : IsFrame frame) (valid : Valid frame bytes) where
  value_is : value_in bytes ≡ valid.0
  value_is = ap (λ o. unwrap_or o null) valid.1.1

  reads_back : (c s : Data) → Contains (cvrs_in (value_in bytes)) c → Contains (snapshots_in c) s
      → read (compact_text s) ≡ Some s
  reads_back c s a b =
      listed_reads_back bytes (codes "CVR") (codes "CVRSnapshot") valid.0 c s
      (was_read bytes valid.0 valid.1.1) valid.2.whole
      (subst (λ d. Contains (cvrs_in d) c) value_is a) b

  source_in_range : (f : Fact) → Source (value_in bytes) f → InRange frame.contests f
  source_in_range _ (of_device e a) = tt
  source_in_range _ (of_header c a) = tt
  source_in_range _ (of_snapshot c s a b) =
      let range = in_range contests_agree frame bytes sound valid (cvr_of frame.contests c)
      (in_map (cvr_of frame.contests) c (cvrs_in (value_in bytes)) a)
      (snapshot_of frame.contests s)
      (in_map (snapshot_of frame.contests) s (snapshots_in c) b)
      in
      subst (λ d. SnapshotInRange frame.contests (snapshot_of frame.contests d))
      (sym (ap (λ o. unwrap_or o null) (reads_back c s a b))) range

sums_of_fact : (frame : Frame) (f : Fact) (key : RecordName) (body : List ℕ)
    → InRange frame.contests f → snapshot_body key f ≡ Some body
    → AreSums frame.contests (sums_of_body frame.contests body)
sums_of_fact frame (Device i b) key body range is = Prim.cc is
sums_of_fact frame (Header d u b) key body range is = Prim.cc is
sums_of_fact frame (Snapshot d u i b) key body range is =
    elim (is_name key d u) as (λ t. cond t (Some b) None ≡ Some body
    → AreSums frame.contests (sums_of_body frame.contests body)) [
      | true ↦ λ is.
          let same : b ≡ body = Prim.cc is in
          subst (λ x. AreSums frame.contests (sums_of_body frame.contests x)) same
          (sums_in_place frame.contests (snapshot_of frame.contests (data_of b)).contests
          (AreInRange-from_snapshot frame.contests (snapshot_of frame.contests (data_of b))
          range))
      | false ↦ λ is. Prim.cc is
    ] is

pub currents_are_sums : (frame : Frame) (s : Facts) → CanHold frame s
    → CurrentsAreSums frame.contests s
currents_are_sums frame s keeps key body is =
    let at =
    from-filter_map (snapshot_body key) (items s) body ((current_is s key body).0 is).listed in
    let held = (contains_iff s at.0).1 at.1 in
    ∥∥₁_elim (keeps.given at.0 held) (hlevel (IsDistinct-prop, ℕ_set, le_prop))
    (λ q. sums_of_fact frame at.0 key body
    (source_in_range frame q.0 keeps.sound q.1 at.0 (fact_source q.0 at.0 q.2)) at.2)

-- so are those of each snapshot
pub facts_are_sums : (frame : Frame) (s : Facts) → CanHold frame s → (d u i b : List ℕ)
    → contains s (Snapshot d u i b) ≡ true → AreSums frame.contests (sums_of_body frame.contests b)
facts_are_sums frame s keeps d u i b held =
    ∥∥₁_elim (keeps.given (Snapshot d u i b) held) (hlevel (IsDistinct-prop, ℕ_set, le_prop))
    (λ q. sums_in_place frame.contests (snapshot_of frame.contests (data_of b)).contests
    (AreInRange-from_snapshot frame.contests (snapshot_of frame.contests (data_of b))
    (source_in_range frame q.0 keeps.sound q.1 (Snapshot d u i b)
    (fact_source q.0 (Snapshot d u i b) q.2))))
