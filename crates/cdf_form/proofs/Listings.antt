-- The lists of texts in the class tables are those of the enumerations.
use Rattle.std.proofs.Common.{◌≡◌, ℕ, zero, suc, true, List, [], ◌∷◌, map, Contains, bytes_eq}
use Rattle.std.proofs.Common.{refl, sym, subst, arith}
use Rattle.std.specs.List.{list_any}
use Rattle.std.proofs.lemmas.Map.Views.{Contains-from_any}
use Rattle.std.proofs.lemmas.Slice.Eq.{bytes_eq-Decides}
use Rattle.cdf_types.specs.declared.snapshot_kind.SnapshotKind.{SnapshotKind}
use Rattle.cdf_types.specs.declared.snapshot_kind.SnapshotKind.TheVariants as snapshot_kind
use Rattle.cdf_types.specs.declared.status.CvrStatus.{CvrStatus}
use Rattle.cdf_types.specs.declared.status.CvrStatus.TheVariants as cvr_status
use Rattle.cdf_types.specs.declared.status.ContestStatus.{ContestStatus}
use Rattle.cdf_types.specs.declared.status.ContestStatus.TheVariants as contest_status
use Rattle.cdf_types.specs.declared.status.SelectionStatus.{SelectionStatus}
use Rattle.cdf_types.specs.declared.status.SelectionStatus.TheVariants as selection_status
use Rattle.cdf_types.specs.declared.status.PositionStatus.{PositionStatus}
use Rattle.cdf_types.specs.declared.status.PositionStatus.TheVariants as position_status
use Rattle.cdf_types.specs.declared.mark.Indication.{Indication}
use Rattle.cdf_types.specs.declared.mark.Indication.TheVariants as indication
use Rattle.cdf_types.specs.declared.mark.Allocation.{Allocation}
use Rattle.cdf_types.specs.declared.mark.Allocation.TheVariants as allocation
use Rattle.cdf_types.specs.declared.report_kind.ReportKind.{ReportKind}
use Rattle.cdf_types.specs.declared.report_kind.ReportKind.TheVariants as report_kind
use Rattle.cdf_types.specs.declared.vote_variation.VoteVariation.{VoteVariation}
use Rattle.cdf_types.specs.declared.vote_variation.VoteVariation.TheVariants as vote_variation
use Rattle.cdf_types.specs.SnapshotKind.{snapshot_kind_text}
use Rattle.cdf_types.specs.Status.{cvr_status_text, contest_status_text, selection_status_text}
use Rattle.cdf_types.specs.Status.{position_status_text}
use Rattle.cdf_types.specs.Mark.{indication_text, allocation_text}
use Rattle.cdf_types.specs.ReportKind.{report_kind_text}
use Rattle.cdf_types.specs.VoteVariation.{vote_variation_text}
use Rattle.cdf_form.specs.declared.table.Listing.{Listing}
use Rattle.cdf_form.specs.declared.table.Listing.TheVariants as listing
use Rattle.cdf_form.specs.Tables.{listed_in}
use Rattle.cdf_form.specs.Listings.{HasTextsOf}

-- a text of the list is that of one of the values
of_value : {K : Type 0} (text_of : K → List ℕ) (values : List K) (text : List ℕ)
    → Contains (map text_of values) text → (value : K) × (text_of value ≡ text)
of_value text_of [] text (i, h, e) = absurd (omega (arith, h))
of_value text_of (v ∷ vs) text (zero, h, e) = (v, e)
of_value text_of (v ∷ vs) text (suc i, h, e) = of_value text_of vs text (i, omega (arith, h), e)

-- a list has the texts of these values, and each value's text is found there
lists : {K : Type 0} (text_of : K → List ℕ) (l : Listing) (values : List K)
    → map text_of values ≡ listed_in l
    → ((v : K) → list_any (bytes_eq (text_of v)) (listed_in l) ≡ true) → HasTextsOf text_of l
lists text_of l values same each text = (
  λ h. of_value text_of values text (subst (λ ts. Contains ts text) (sym same) h),
  λ p. subst (Contains (listed_in l)) p.1
      (Contains-from_any (λ x y e. (bytes_eq-Decides x y).0 e) (text_of p.0) (listed_in l)
      (each p.0)),
)

abbrev snapshot_kind_values : List SnapshotKind
snapshot_kind_values =
    snapshot_kind.Interpreted ∷
    snapshot_kind.Modified ∷
    snapshot_kind.Original ∷
    []

pub snapshot_kind_list : HasTextsOf snapshot_kind_text listing.CvrType
snapshot_kind_list =
    lists snapshot_kind_text listing.CvrType snapshot_kind_values refl (λ v. grind arith)

abbrev cvr_status_values : List CvrStatus
cvr_status_values = cvr_status.NeedsAdjudication ∷ cvr_status.Other ∷ []

pub cvr_status_list : HasTextsOf cvr_status_text listing.CvrStatus
cvr_status_list =
    lists cvr_status_text listing.CvrStatus cvr_status_values refl (λ v. grind arith)

abbrev contest_status_values : List ContestStatus
contest_status_values =
    contest_status.InvalidatedRules ∷
    contest_status.NotIndicated ∷
    contest_status.Other ∷
    contest_status.Overvoted ∷
    contest_status.Undervoted ∷
    []

pub contest_status_list : HasTextsOf contest_status_text listing.ContestStatus
contest_status_list =
    lists contest_status_text listing.ContestStatus contest_status_values refl (λ v. grind arith)

abbrev selection_status_values : List SelectionStatus
selection_status_values =
    selection_status.GeneratedRules ∷
    selection_status.InvalidatedRules ∷
    selection_status.NeedsAdjudication ∷
    selection_status.Other ∷
    []

pub selection_status_list : HasTextsOf selection_status_text listing.ContestSelectionStatus
selection_status_list =
    lists selection_status_text listing.ContestSelectionStatus selection_status_values refl
    (λ v. grind arith)

abbrev position_status_values : List PositionStatus
position_status_values =
    position_status.Adjudicated ∷
    position_status.GeneratedRules ∷
    position_status.InvalidatedRules ∷
    position_status.Other ∷
    []

pub position_status_list : HasTextsOf position_status_text listing.PositionStatus
position_status_list =
    lists position_status_text listing.PositionStatus position_status_values refl (λ v. grind arith)

abbrev indication_values : List Indication
indication_values = indication.No ∷ indication.Unknown ∷ indication.Yes ∷ []

pub indication_list : HasTextsOf indication_text listing.IndicationStatus
indication_list =
    lists indication_text listing.IndicationStatus indication_values refl (λ v. grind arith)

abbrev allocation_values : List Allocation
allocation_values = allocation.No ∷ allocation.Unknown ∷ allocation.Yes ∷ []

pub allocation_list : HasTextsOf allocation_text listing.AllocationStatus
allocation_list =
    lists allocation_text listing.AllocationStatus allocation_values refl (λ v. grind arith)

abbrev report_kind_values : List ReportKind
report_kind_values =
    report_kind.Adjudicated ∷
    report_kind.Aggregated ∷
    report_kind.OriginatingDeviceExport ∷
    report_kind.Other ∷
    report_kind.RcvRound ∷
    []

pub report_kind_list : HasTextsOf report_kind_text listing.ReportType
report_kind_list =
    lists report_kind_text listing.ReportType report_kind_values refl (λ v. grind arith)

abbrev vote_variation_values : List VoteVariation
vote_variation_values =
    vote_variation.Approval ∷
    vote_variation.Borda ∷
    vote_variation.Cumulative ∷
    vote_variation.Majority ∷
    vote_variation.NOfM ∷
    vote_variation.Other ∷
    vote_variation.Plurality ∷
    vote_variation.Proportional ∷
    vote_variation.Range ∷
    vote_variation.Rcv ∷
    vote_variation.SuperMajority ∷
    []

pub vote_variation_list : HasTextsOf vote_variation_text listing.VoteVariation
vote_variation_list =
    lists vote_variation_text listing.VoteVariation vote_variation_values refl (λ v. grind arith)
