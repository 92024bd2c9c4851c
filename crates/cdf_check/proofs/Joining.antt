-- A report agrees with a definition, and all that its records name is there, exactly where what
-- they name is the definition's or their own, and what is left beside them has the rest.
use Rattle.std.proofs.Common.{◌≡◌, ℕ, List, [], ◌∷◌, slice_index_or, Contains, true, false, Some}
use Rattle.std.proofs.Common.{codes, refl, ap, subst, ◌∙◌}
use Rattle.std.specs.List.{All}
use Rattle.std.proofs.lemmas.List.Elements.{All-contains, Contains-get_or}
use Rattle.std.proofs.Math.Logic.{∥∥₁_elim}
use Rattle.std.proofs.Math.Nat.{ℕ_set}
use mathlib.Core.List.{is_set}
use Rattle.serde_json.specs.Data.{Data, object, Members}
use Rattle.serde_json.specs.Read.{read}
use Rattle.cdf_node.specs.View.{items_of}
use Rattle.serde_json.specs.Written.{has_float}
use Rattle.cdf_parts.specs.Parts.{array_at}
use Rattle.cdf_parts.proofs.Laws.{proper_read}
use Rattle.cdf_check.specs.declared.record_names.RecordNames.{RecordNames}
use Rattle.cdf_definition.specs.References.{Scope, scope_of, one, in_snapshot, in_cvr}
use Rattle.cdf_definition.specs.Scoped.{contests_alone}
use Rattle.cdf_definition.specs.Named.{id_and_text, ids_of}
use Rattle.cdf_definition.specs.Frame.{Frame, frame_of, entries_at}
use Rattle.cdf_definition.specs.Agreement.{AreListed, Agrees}
use Rattle.cdf_definition.specs.Sound.{IsSound, IsFrame, WasRead}
use Rattle.cdf_definition.specs.Acceptance.{IsReport}
use Rattle.cdf_check.specs.Wider.{Includes}
use Rattle.cdf_check.specs.Apart.{with_records}
use Rattle.cdf_check.specs.Within.{named_device, lists, named_parties, named_unit, AreNamed}
use Rattle.cdf_check.specs.Within.{ListsNamed}
use Rattle.cdf_definition.specs.Naming.{NamesOwn}
use Rattle.cdf_check.proofs.NamedTexts.{listed_all, listed_at, many_listed, one_listed}
use Rattle.cdf_definition.proofs.Laws.{sound}
use Rattle.cdf_definition.proofs.Laws.{one_election}
use Rattle.cdf_definition.proofs.Lemmas.{by_id-put, election_is}
use Rattle.cdf_check.proofs.SameElection.{proper_report, same_election}
use Rattle.cdf_check.proofs.Wider.{each_wider, one_wider, snapshot_wider, cvr_parts, parts_cvr}
use Rattle.cdf_check.proofs.Apart.{array_stays, agrees_apart}

-- ---- what a record names

-- all that it names is there, where it names the definition's or its own and the rest is there
resolved : (frame : Frame) (scope : Scope) (cvr : Data) → frame.contests ≡ scope.contests
    → ids_of frame.elections ≡ scope.elections → NamesOwn frame cvr
    → lists scope.devices (named_device cvr) ≡ true → lists scope.units (named_unit cvr) ≡ true
    → lists scope.parties (named_parties cvr) ≡ true → in_cvr scope cvr ≡ []
resolved frame scope cvr contests elections names device unit parties =
    parts_cvr scope cvr record {
      unit = (one_listed scope.units (codes "BallotStyleUnitId") cvr).1 unit;
      snapshots = each_wider (in_snapshot (contests_alone frame.contests)) (in_snapshot scope)
          (snapshot_wider (contests_alone frame.contests) scope contests) (codes "CVRSnapshot") cvr
          names.snapshots;
      device = (one_listed scope.devices (codes "CreatingDeviceId") cvr).1 device;
      current = names.current;
      election = subst (λ ids. one ids (codes "ElectionId") cvr ≡ []) elections names.election;
      parties = (many_listed scope.parties cvr).1 parties;
    }

-- and where all that it names is there, in a report that agrees, it names the definition's or its
-- own
settled : (frame : Frame) (scope : Scope) (cvr : Data) → scope.contests ≡ frame.contests
    → Includes scope.elections (ids_of frame.elections) → in_cvr scope cvr ≡ [] → NamesOwn frame cvr
settled frame scope cvr contests elections none =
    let p = cvr_parts scope cvr none in
    record {
      snapshots = each_wider (in_snapshot scope) (in_snapshot (contests_alone frame.contests))
          (snapshot_wider scope (contests_alone frame.contests) contests) (codes "CVRSnapshot") cvr
          p.snapshots;
      current = p.current;
      election = one_wider scope.elections (ids_of frame.elections) elections (codes "ElectionId")
          cvr p.election;
    }

pub all_settled : (frame : Frame) (scope : Scope) (ds : List Data) → scope.contests ≡ frame.contests
    → Includes scope.elections (ids_of frame.elections)
    → ((d : Data) → Contains ds d → in_cvr scope d ≡ []) → All (NamesOwn frame) ds
all_settled frame scope ds contests elections none =
    λ k d lt. settled frame scope (slice_index_or ds k d) contests elections
    (none (slice_index_or ds k d) (Contains-get_or ds k d lt))

module _ (left : Data) (ds : List Data) (names : RecordNames) (are_named : AreNamed ds names) where
  abbrev scope : Scope
  scope = scope_of left

  pub all_resolved : (frame : Frame) → frame.contests ≡ scope.contests
      → ids_of frame.elections ≡ scope.elections → All (NamesOwn frame) ds → ListsNamed left names
      → (d : Data) → Contains ds d → in_cvr scope d ≡ []
  all_resolved frame contests elections all listed d at =
      resolved frame scope d contests elections (All-contains (NamesOwn frame) ds d all at)
      (listed_at named_device scope.devices ds names.devices are_named.devices listed.devices d at)
      (listed_at named_unit scope.units ds names.units are_named.units listed.units d at)
      (listed_at named_parties scope.parties ds names.parties are_named.parties listed.parties d at)

  -- what records name is listed where all of it is there
  pub all_listed : ((d : Data) → Contains ds d → in_cvr scope d ≡ []) → ListsNamed left names
  all_listed none = record {
    devices = listed_all named_device scope.devices ds names.devices are_named.devices
        (λ e at. (one_listed scope.devices (codes "CreatingDeviceId") e).0
        (cvr_parts scope e (none e at)).device);
    units = listed_all named_unit scope.units ds names.units are_named.units
        (λ e at. (one_listed scope.units (codes "BallotStyleUnitId") e).0
        (cvr_parts scope e (none e at)).unit);
    parties = listed_all named_parties scope.parties ds names.parties are_named.parties
        (λ e at. (many_listed scope.parties e).0 (cvr_parts scope e (none e at)).parties);
  }

-- ---- the election is the definition's

module _ (frame : Frame) (bytes : List ℕ) (ds : List Data) (ms : Members)
    (is : read bytes ≡ Some (with_records ds ms)) (whole : has_float (with_records ds ms) ≡ false)
    (report : IsReport (object ms)) (agrees : Agrees frame (object ms)) where
  abbrev Origin : Type 0
  Origin = (d : Data) × WasRead d × IsSound d × (frame ≡ frame_of d)

  own : (e : Data) × (array_at (codes "Election") (object ms) ≡ e ∷ [])
  own = one_election (object ms) report

  first_own : (q : Origin) → (e : Data) × (array_at (codes "Election") q.0 ≡ e ∷ [])
  first_own q = one_election q.0 ((sound q.0).0 q.2)

  one_and_the_same : (q : Origin) → (first_own q).0 ≡ own.0
  one_and_the_same q =
      let all = with_records ds ms in
      let here : array_at (codes "Election") all ≡ own.0 ∷ [] =
      array_stays (items_of ds) ms (codes "Election") refl ∙ own.1 in
      let listed : AreListed (entries_at (codes "Election") q.0) (codes "Election") all = subst
      (λ f. AreListed f.elections (codes "Election") all) q.3
      (agrees_apart frame ds ms agrees).elections in
      same_election q.0 all (first_own q).0 own.0
      (proper_report q.1.0 q.0 q.1.1.1 ((sound q.0).0 q.2)) (proper_read bytes all is whole)
      (first_own q).1 here listed

  contests_at : Origin → frame.contests ≡ (scope_of (object ms)).contests
  contests_at q = rw (
    q.3,
    election_is q.0 (first_own q).0 (first_own q).1,
    one_and_the_same q,
    ←
        election_is (object ms) own.0 own.1,
  )

  elections_at : Origin → ids_of frame.elections ≡ (scope_of (object ms)).elections
  elections_at q = rw (q.3, (first_own q).1, one_and_the_same q, own.1)
      (ap ids_of (by_id-put (id_and_text own.0 ∷ [])))

  pub own_contests : IsFrame frame → frame.contests ≡ (scope_of (object ms)).contests
  own_contests of = ∥∥₁_elim of (hlevel (ℕ_set, is_set)) contests_at

  pub own_elections : IsFrame frame → ids_of frame.elections ≡ (scope_of (object ms)).elections
  own_elections of = ∥∥₁_elim of (hlevel (ℕ_set, is_set)) elections_at
