-- Every reference names something exactly where no path is missing.
use Rattle.std.proofs.Common.{◌≡◌, ◌↔◌, ℕ, List, [], Option, Some, None, Contains, codes, bytes_eq}
use Rattle.std.proofs.Common.{refl, subst}
use Rattle.std.specs.List.{list_any}
use Rattle.std.proofs.lemmas.Cmp.{nat_list_eq_equiv}
use Rattle.std.proofs.lemmas.Slice.Eq.{bytes_eq-Decides}
use Rattle.std.proofs.lemmas.Map.Views.{list_any-from_Contains, Contains-from_any}
use Rattle.serde_json.specs.Data.{Data}
use Rattle.serde_json.specs.Find.{as_str}
use Rattle.cdf_form.specs.declared.table.Class.{Class}
use Rattle.cdf_form.specs.declared.table.Class.TheVariants as class
use Rattle.cdf_form.specs.declared.table.Group.TheVariants as group
use Rattle.cdf_form.specs.Form.{at_member, class_in}
use Rattle.cdf_parts.specs.Parts.{ids_at, text_in, text_at}
use Rattle.cdf_parts.specs.Places.{Texts, contest_ids, selections_of}
use Rattle.cdf_definition.specs.Paths.{itself_unless, each}
use Rattle.cdf_definition.specs.References.{Scope, scope_of, unknown, one, many, in_selection_vote}
use Rattle.cdf_definition.specs.References.{in_votes, in_contest_vote, in_snapshot, in_cvr}
use Rattle.cdf_definition.specs.References.{in_class, in_selection, in_contest, in_candidate}
use Rattle.cdf_definition.specs.References.{in_election}
use Rattle.cdf_definition.specs.Resolves.{Names, AllName, Each, VoteResolves, SnapshotResolves}
use Rattle.cdf_definition.specs.Resolves.{CvrResolves, SelectionResolves, ElectionResolves}
use Rattle.cdf_definition.specs.Laws.{ReferencesLaw}
use Rattle.cdf_definition.proofs.Empty.{two, inner, unless_nil, nil_unless, all_items}

-- ---- one text

known : (ids : Texts) (s : List ℕ) → (itself_unless (list_any (bytes_eq s) ids) ≡ [])
    ↔ Contains ids s
known ids s = (
  (λ e. Contains-from_any (λ x y. (bytes_eq-Decides x y).0) s ids (unless_nil _ e)),
  λ h. nil_unless _ (list_any-from_Contains nat_list_eq_equiv s ids h),
)

all_known : (ids : Texts) (o : Option (List ℕ))
    → (unknown ids o ≡ []) ↔ ((s : List ℕ) → o ≡ Some s → Contains ids s)
all_known ids None = ((λ e s is. absurd (cc)), λ h. refl)
all_known ids (Some t) = (
  (λ e s is. let same : t ≡ s = cc in subst (Contains ids) same ((known ids t).0 e)),
  λ h. (known ids t).1 (h t refl),
)

one_law : (ids : Texts) (name : List ℕ) (d : Data) → (one ids name d ≡ []) ↔ Names ids name d
one_law ids name d =
    inner (at_member name) (unknown ids (text_in name d)) (all_known ids (text_in name d))

pub many_law : (ids : Texts) (name : List ℕ) (d : Data) → (many ids name d ≡ []) ↔ AllName ids name d
many_law ids name d =
    let h = all_items (λ e. unknown ids (as_str e))
    (λ e. (s : List ℕ) → as_str e ≡ Some s → Contains ids s) (λ e. all_known ids (as_str e))
    name d in
    ((λ e x s c is. h.0 e x c s is), λ a. h.1 (λ x c s is. a x s c is))

-- ---- cast vote records

vote_selections : (o : Option Texts) (d : Data)
    → (each (in_selection_vote o) (codes "CVRContestSelection") d ≡ [])
    ↔ ((ids : Texts) → o ≡ Some ids → Each (Names ids (codes "ContestSelectionId"))
    (codes "CVRContestSelection") d)
vote_selections None d = (
  (λ e ids is. absurd (cc)),
  λ h. (all_items (in_selection_vote None) (λ x. Unit {0}) (λ x. ((λ e. tt), λ t. refl))
      (codes "CVRContestSelection") d).1 (λ x c. tt),
)
vote_selections (Some own) d =
    let h = all_items (in_selection_vote (Some own)) (Names own (codes "ContestSelectionId"))
    (one_law own (codes "ContestSelectionId")) (codes "CVRContestSelection") d in (
      (λ e ids is. let same : own ≡ ids = cc in
          subst (λ y. Each (Names y (codes "ContestSelectionId")) (codes "CVRContestSelection") d)
          same (h.0 e)),
      λ a. h.1 (a own refl),
    )

module _ (scope : Scope) where
  vote_law : (d : Data) → (in_contest_vote scope d ≡ []) ↔ VoteResolves scope d
  vote_law d =
      let h = two (in_votes scope d) (one (contest_ids scope.contests) (codes "ContestId") d)
      (vote_selections (selections_of scope.contests (text_at (codes "ContestId") d)) d)
      (one_law (contest_ids scope.contests) (codes "ContestId") d) in (
        (λ e. record { contest = (h.0 e).1; selections = (h.0 e).0 }),
        λ v.
            h.1 (v.selections, v.contest),
      )

  pub snapshot_law : (d : Data) → (in_snapshot scope d ≡ []) ↔ SnapshotResolves scope d
  snapshot_law =
      all_items (in_contest_vote scope) (VoteResolves scope) vote_law (codes "CVRContest")

  pub cvr_law : (d : Data) → (in_cvr scope d ≡ []) ↔ CvrResolves scope d
  cvr_law d =
      let h = two _ _ (one_law scope.units (codes "BallotStyleUnitId") d)
      (two _ _ (all_items (in_snapshot scope) (SnapshotResolves scope) snapshot_law
      (codes "CVRSnapshot") d)
      (two _ _ (one_law scope.devices (codes "CreatingDeviceId") d)
      (two _ _ (one_law (ids_at (codes "CVRSnapshot") d) (codes "CurrentSnapshotId") d)
      (two _ _ (one_law scope.elections (codes "ElectionId") d)
      (many_law scope.parties (codes "PartyIds") d))))) in (
        (λ e. let r = h.0 e in record {
          unit = r.0;
          snapshots = r.1.0;
          device = r.1.1.0;
          current = r.1.1.1.0;
          election = r.1.1.1.1.0;
          parties = r.1.1.1.1.1;
        }),
        λ r. h.1 (r.unit, (r.snapshots, (r.device, (r.current, (r.election, r.parties))))),
      )

-- ---- elections

module _ (scope : Scope) (candidates : Texts) (d : Data) where
  class_law : (o : Option Class) → (in_class scope candidates o d ≡ [])
      ↔ ((o ≡ Some class.CandidateSelection → AllName candidates (codes "CandidateIds") d)
      × (o ≡ Some class.PartySelection → AllName scope.parties (codes "PartyIds") d))
  class_law None = ((λ e. ((λ is. absurd (cc)), λ is. absurd (cc))), λ h. refl)
  class_law (Some class.CandidateSelection) =
      let h = many_law candidates (codes "CandidateIds") d in
      ((λ e. ((λ is. h.0 e), λ is. absurd (cc))), λ a. h.1 (a.0 refl))
  class_law (Some class.PartySelection) =
      let h = many_law scope.parties (codes "PartyIds") d in
      ((λ e. ((λ is. absurd (cc)), λ is. h.0 e)), λ a. h.1 (a.1 refl))
  class_law (Some c) = ((λ e. ((λ is. absurd (cc)), λ is. absurd (cc))), λ h. refl)

  selection_law : (in_selection scope candidates d ≡ []) ↔ SelectionResolves scope candidates d
  selection_law =
      let h = class_law (class_in group.ContestSelections d) in (
        (λ e. record { candidates = (h.0 e).0; parties = (h.0 e).1 }),
        λ r.
            h.1 (r.candidates, r.parties),
      )

module _ (scope : Scope) where
  contest_law : (candidates : Texts) (d : Data)
      → (in_contest scope candidates d ≡ [])
      ↔ Each (SelectionResolves scope candidates) (codes "ContestSelection") d
  contest_law candidates = all_items (in_selection scope candidates)
      (SelectionResolves scope candidates) (selection_law scope candidates)
      (codes "ContestSelection")

  election_law : (d : Data) → (in_election scope d ≡ []) ↔ ElectionResolves scope d
  election_law d =
      let own = ids_at (codes "Candidate") d in
      let h = two _ _ (all_items (in_candidate scope) (Names scope.parties (codes "PartyId"))
      (one_law scope.parties (codes "PartyId")) (codes "Candidate") d)
      (two _ _ (all_items (in_contest scope own)
      (Each (SelectionResolves scope own) (codes "ContestSelection")) (contest_law own)
      (codes "Contest") d)
      (one_law scope.units (codes "ElectionScopeId") d)) in (
        (λ e. let r = h.0 e in record { candidates = r.0; contests = r.1.0; unit = r.1.1 }),
        λ r.
            h.1 (r.candidates, (r.contests, r.unit)),
      )

-- ---- reports

pub references : ReferencesLaw
references d =
    let scope = scope_of d in
    let h = two _ _ (all_items (in_cvr scope) (CvrResolves scope) (cvr_law scope) (codes "CVR") d)
    (two _ _ (all_items (in_election scope) (ElectionResolves scope) (election_law scope)
    (codes "Election") d)
    (many_law scope.devices (codes "ReportGeneratingDeviceIds") d)) in (
      (λ e. let r = h.0 e in record { cvrs = r.0; elections = r.1.0; devices = r.1.1 }),
      λ r.
          h.1 (r.cvrs, (r.elections, r.devices)),
    )
