-- No default of the typed readers occurs in a report whose form and references are right.
use Rattle.std.proofs.Common.{◌≡◌, ◌<◌, ◌+◌, ℕ, zero, suc, List, [], ◌∷◌, length, map}
use Rattle.std.proofs.Common.{slice_index_or, Contains}
use Rattle.std.proofs.Common.{Bool, true, false, ◌||◌, cond, Option, Some, IsSome, bytes_eq, codes}
use Rattle.std.proofs.Common.{refl, sym, ap, ◌∙◌, subst, arith}
use Rattle.std.specs.Prelude.{ℤ, Result, Ok, Err, is_ok, not, ◌&&◌, ◌==◌, find, option_and_then}
use Rattle.std.specs.List.{list_any, position_from}
use Rattle.std.proofs.lemmas.Slice.Eq.{bytes_eq-Decides}
use Rattle.serde_json.specs.Data.{Data, number, unsigned}
use Rattle.serde_json.specs.Find.{get, as_number, as_u64}
use Rattle.jiff.specs.Words.{parse_timestamp}
use Rattle.cdf_types.specs.declared.snapshot_kind.SnapshotKind.TheVariants as kind
use Rattle.cdf_types.specs.declared.mark.Indication.TheVariants as indication
use Rattle.cdf_types.specs.declared.mark.Allocation.TheVariants as allocation
use Rattle.cdf_types.specs.SnapshotKind.{snapshot_kind_text}
use Rattle.cdf_types.specs.Mark.{indication_text, allocation_text}
use Rattle.cdf_form.specs.declared.table.Group.TheVariants as group
use Rattle.cdf_form.specs.declared.table.Listing.{Listing}
use Rattle.cdf_form.specs.declared.table.Listing.TheVariants as listing
use Rattle.cdf_form.specs.declared.table.Leaf.{Leaf}
use Rattle.cdf_form.specs.declared.table.Leaf.TheVariants as leaf
use Rattle.cdf_form.specs.declared.table.Key.TheVariants as key
use Rattle.cdf_form.specs.declared.table.Kind.TheVariants.{One, Array}
use Rattle.cdf_form.specs.Tables.{listed_in, required_member, optional_member, any}
use Rattle.cdf_form.specs.Form.{is_moment}
use Rattle.cdf_form.specs.HasForm.{HasForm}
use Rattle.cdf_parts.specs.Parts.{text_at, instant_of, ok_of}
use Rattle.cdf_parts.specs.Places.{Texts, place_in, contest_ids}
use Rattle.cdf_form.proofs.Lemmas.{some_of}
use Rattle.cdf_form.specs.ByEntry.{HasEntry, IsTextual}
use Rattle.cdf_form.proofs.Laws.{entry_named, is_object, text_has_form, may_be_text, must_text_in}
use Rattle.cdf_form.proofs.Laws.{must_have_form, moment_is_read, listed_is_among, count_form}
use Rattle.cdf_form.proofs.Laws.{is_an_array, items_have_form, items_are_few, items_are_some}
use Rattle.cdf_typed.specs.Typed.{kind_named, indication_named, allocation_named}
use Rattle.cdf_definition.specs.References.{Scope, scope_of}
use Rattle.cdf_definition.specs.Resolves.{Names, VoteResolves, SnapshotResolves, CvrResolves}
use Rattle.cdf_definition.specs.Resolves.{Resolves}
use Rattle.cdf_definition.specs.Acceptance.{value_in}
use Rattle.cdf_check.specs.Defaults.{HasText, HasCount, MayHaveCount}
use Rattle.cdf_check.specs.Defaults.{PositionIsRead, SelectionIsRead, ContestIsRead}
use Rattle.cdf_check.specs.Defaults.{AnnotationIsRead, SnapshotIsRead, CvrIsRead, ReportIsRead}
use Rattle.cdf_check.specs.Defaults.{NoDefaultLaw}
use Rattle.cdf_check.specs.Laws.{SameElectionLaw}

-- ---- places

found_at : (t : Bool) (i : ℕ) (rest : Option ℕ) → (t ≡ false → IsSome rest)
    → IsSome (cond t (Some i) rest)
found_at true i rest later = refl
found_at false i rest later = later refl

known_from : (s : List ℕ) (ids : Texts) (i k : ℕ) → k < length ids → slice_index_or ids k s ≡ s
    → IsSome (position_from (bytes_eq s) i ids)
known_from s [] i k h is = absurd (omega arith)
known_from s (x ∷ ids) i zero h is = rw ((bytes_eq-Decides s x).1 (sym is)) refl
known_from s (x ∷ ids) i (suc k) h is =
    found_at (bytes_eq s x) i (position_from (bytes_eq s) (i + 1) ids)
    (λ other. known_from s ids (i + 1) k (omega arith) is)

-- a text among the ids has a place
pub known_place : (ids : Texts) (s : List ℕ) → Contains ids s → IsSome (place_in ids s)
known_place ids s a = known_from s ids 0 a.0 a.1 a.2

-- ---- listed texts

named_at : {A : Type 0} (t b : Bool) (x : A) (rest : Option A) → (b ≡ true → IsSome rest)
    → (t || b) ≡ true → IsSome (cond t (Some x) rest)
named_at true b x rest later h = refl
named_at false b x rest later h = later h

-- a text that is spelled as one of these names one
pub is_named : {A : Type 0} (spell : A → List ℕ) (xs : List A) (s : List ℕ)
    → list_any (bytes_eq s) (map spell xs) ≡ true → IsSome (find (λ x. bytes_eq s (spell x)) xs)
is_named spell [] s h = absurd (cc)
is_named spell (x ∷ xs) s h =
    named_at (bytes_eq s (spell x)) (list_any (bytes_eq s) (map spell xs)) x _ (is_named spell xs s)
    h

turned : (a b c : Bool) → (a || (b || (c || false))) ≡ true → (c || (a || (b || false))) ≡ true
turned a b c h = grind arith

pub kind_is_named : (s : List ℕ) → list_any (bytes_eq s) (listed_in listing.CvrType) ≡ true
    → IsSome (kind_named s)
kind_is_named s h =
    is_named snapshot_kind_text (kind.Original ∷ kind.Interpreted ∷ kind.Modified ∷ []) s
    (turned (bytes_eq s (codes "interpreted")) (bytes_eq s (codes "modified"))
    (bytes_eq s (codes "original")) h)

pub indication_is_named : (s : List ℕ) → list_any (bytes_eq s) (listed_in listing.IndicationStatus)
    ≡ true → IsSome (indication_named s)
indication_is_named s h =
    is_named indication_text (indication.No ∷ indication.Unknown ∷ indication.Yes ∷ []) s h

pub allocation_is_named : (s : List ℕ) → list_any (bytes_eq s) (listed_in listing.AllocationStatus)
    ≡ true → IsSome (allocation_named s)
allocation_is_named s h =
    is_named allocation_text (allocation.No ∷ allocation.Unknown ∷ allocation.Yes ∷ []) s h

-- ---- one member

must_have_text : {n : List ℕ} {l : Leaf} {d : Data} → HasEntry true n (One l) d → IsTextual l
    → HasText n d
must_have_text entry q = rw (must_text_in entry q) refl

must_be_listed : {n : List ℕ} {l : Listing} {d : Data} → HasEntry true n (One (leaf.Listed l)) d
    → list_any (bytes_eq (text_at n d)) (listed_in l) ≡ true
must_be_listed {n = n} {l = l} {d = d} entry = listed_is_among l (text_at n d) (must_have_form entry tt)

count_read : (n : List ℕ) (d e : Data) → get n d ≡ Some e → HasForm (One leaf.Count) e
    → HasCount n d
count_read n d e at f =
    let p = count_form f in
    let is : get n d ≡ Some (number (unsigned p.0)) = at ∙ ap Some p.1 in
    (p.0, ap (λ o. option_and_then as_u64 (option_and_then as_number o)) is, p.2)

may_have_count : {b : Bool} {n : List ℕ} {d : Data} → HasEntry b n (One leaf.Count) d
    → MayHaveCount n d
may_have_count {n = n} {d = d} entry = λ e at. count_read n d e at (entry.part e at)

must_have_count : {n : List ℕ} {d : Data} → HasEntry true n (One leaf.Count) d → HasCount n d
must_have_count entry = let p = some_of _ (entry.there refl) in may_have_count entry p.0 p.1

-- ---- votes

position_read : (d : Data) → HasForm (One (leaf.Object group.SelectionPositions)) d
    → PositionIsRead d
position_read d f =
    let mark = entry_named group.SelectionPositions
    (required_member (codes "HasIndication") (One (leaf.Listed listing.IndicationStatus))) d
    (refl, tt) f in
    let allocable = entry_named group.SelectionPositions
    (optional_member (codes "IsAllocable") (One (leaf.Listed listing.AllocationStatus))) d
    (refl, tt) f in
    let votes = entry_named group.SelectionPositions
    (required_member (codes "NumberVotes") (One leaf.Count)) d (refl, tt) f in
    record {
      indication = indication_is_named (text_at (codes "HasIndication") d) (must_be_listed mark);
      allocation_text = may_be_text allocable tt;
      allocation = λ s is. allocation_is_named s
          (listed_is_among listing.AllocationStatus s (text_has_form allocable s is));
      votes = must_have_count votes;
    }

selection_read : (ids : Texts) (d : Data) → HasForm (One (leaf.Object group.CvrContestSelections)) d
    → Names ids (codes "ContestSelectionId") d → SelectionIsRead ids d
selection_read ids d f names =
    let id = entry_named group.CvrContestSelections
    (optional_member (codes "ContestSelectionId") (One leaf.Text)) d (refl, tt) f in
    let positions = entry_named group.CvrContestSelections
    (required_member (codes "SelectionPosition")
    (Array (leaf.Object group.SelectionPositions) 1 64 key.Free)) d (refl, tt) f in
    record {
      id_text = may_be_text id tt;
      place = λ s is. known_place ids s (names s is);
      positions = record {
        array = is_an_array positions;
        items = λ e a. position_read e (items_have_form positions e a);
      };
      some = items_are_some positions;
      few = items_are_few positions;
    }

contest_read : (scope : Scope) (d : Data) → HasForm (One (leaf.Object group.CvrContests)) d
    → VoteResolves scope d → ContestIsRead scope.contests d
contest_read scope d f r =
    let id = entry_named group.CvrContests (required_member (codes "ContestId") (One leaf.Text)) d
    (refl, tt) f in
    let overvotes = entry_named group.CvrContests (optional_member (codes "Overvotes") (One leaf.Count))
    d (refl, tt) f in
    let undervotes = entry_named group.CvrContests
    (optional_member (codes "Undervotes") (One leaf.Count)) d (refl, tt) f in
    let write_ins = entry_named group.CvrContests (optional_member (codes "WriteIns") (One leaf.Count)) d
    (refl, tt) f in
    let votes = entry_named group.CvrContests
    (optional_member (codes "CVRContestSelection")
    (Array (leaf.Object group.CvrContestSelections) 0 65536 key.Free)) d (refl, tt) f in
    record {
      id_text = must_have_text id tt;
      place = known_place (contest_ids scope.contests) (text_at (codes "ContestId") d)
          (r.contest (text_at (codes "ContestId") d) (must_text_in id tt));
      overvotes = may_have_count overvotes;
      undervotes = may_have_count undervotes;
      write_ins = may_have_count write_ins;
      selections = λ ids is. record {
        array = is_an_array votes;
        items = λ e a. selection_read ids e (items_have_form votes e a) (r.selections ids is e a);
      };
      few = items_are_few votes;
    }

-- ---- records

ok_and : {E : Type 0} (r : Result ℤ E) (b : Bool) → (is_ok r && b) ≡ true → IsSome (ok_of r)
ok_and (Ok n) b h = refl
ok_and (Err e) b h = absurd (cc)

-- a date-time has an instant
pub has_instant : (s : List ℕ) → is_moment s ≡ true → IsSome (instant_of s)
has_instant s h = ok_and (parse_timestamp s) (not (list_any (λ b. b == 91) s)) h

annotation_read : (d : Data) → HasForm (One (leaf.Object group.Annotations)) d → AnnotationIsRead d
annotation_read d f =
    let stamp = entry_named group.Annotations (optional_member (codes "TimeStamp") (One leaf.Moment)) d
    (refl, tt) f in
    record {
      text = may_be_text stamp tt;
      instant = λ s is. has_instant s (moment_is_read s (text_has_form stamp s is));
    }

pub snapshot_read : (scope : Scope) (d : Data) → HasForm (One (leaf.Object group.Snapshots)) d
    → SnapshotResolves scope d → SnapshotIsRead scope.contests d
snapshot_read scope d f r =
    let id =
    entry_named group.Snapshots (required_member (codes "@id") (One leaf.Name)) d (refl, tt) f in
    let type = entry_named group.Snapshots (required_member (codes "Type")
    (One (leaf.Listed listing.CvrType))) d (refl, tt) f in
    let annotations = entry_named group.Snapshots
    (optional_member (codes "Annotation")
    (Array (leaf.Object group.Annotations) 0 any key.Free)) d (refl, tt) f in
    let votes = entry_named group.Snapshots (optional_member (codes "CVRContest")
    (Array (leaf.Object group.CvrContests) 0 any key.Contest)) d (refl, tt) f in
    record {
      id = must_have_text id tt;
      kind = kind_is_named (text_at (codes "Type") d) (must_be_listed type);
      annotations = record {
        array = is_an_array annotations;
        items = λ e a. annotation_read e (items_have_form annotations e a);
      };
      votes = record {
        array = is_an_array votes;
        items = λ e a. contest_read scope e (items_have_form votes e a) (r e a);
      };
    }

cvr_read : (scope : Scope) (d : Data) → HasForm (One (leaf.Object group.Cvrs)) d
    → CvrResolves scope d → CvrIsRead scope.contests d
cvr_read scope d f r =
    let device = entry_named group.Cvrs (required_member (codes "CreatingDeviceId") (One leaf.Name)) d
    (refl, tt) f in
    let unique =
    entry_named group.Cvrs (required_member (codes "UniqueId") (One leaf.Name)) d (refl, tt) f in
    let unit = entry_named group.Cvrs (optional_member (codes "BallotStyleUnitId") (One leaf.Text)) d
    (refl, tt) f in
    let batch =
    entry_named group.Cvrs (optional_member (codes "BatchId") (One leaf.Text)) d (refl, tt) f in
    let snapshots = entry_named group.Cvrs (required_member (codes "CVRSnapshot")
    (Array (leaf.Object group.Snapshots) 1 any key.Id)) d (refl, tt) f in
    let own = is_object group.Cvrs d f in
    record {
      object = rw own.1 refl;
      device = must_have_text device tt;
      unique = must_have_text unique tt;
      unit = may_be_text unit tt;
      batch = may_be_text batch tt;
      snapshots = record {
        array = is_an_array snapshots;
        items = λ e a. snapshot_read scope e (items_have_form snapshots e a) (r.snapshots e a);
      };
      some = items_are_some snapshots;
    }

device_read : (d : Data) → HasForm (One (leaf.Object group.ReportingDevices)) d
    → HasText (codes "@id") d
device_read d f = must_have_text (entry_named group.ReportingDevices
    (required_member (codes "@id") (One leaf.Name)) d (refl, tt) f) tt

pub report_read : (d : Data) → HasForm (One (leaf.Object group.Reports)) d → Resolves d
    → ReportIsRead (scope_of d).contests d
report_read d f r =
    let devices = entry_named group.Reports (required_member (codes "ReportingDevice")
    (Array (leaf.Object group.ReportingDevices) 0 any key.Id)) d (refl, tt) f in
    let cvrs = entry_named group.Reports (optional_member (codes "CVR")
    (Array (leaf.Object group.Cvrs) 0 any key.Free)) d (refl, tt) f in
    record {
      listed = devices.there refl;
      devices = record {
        array = is_an_array devices;
        items = λ e a. device_read e (items_have_form devices e a);
      };
      cvrs = record {
        array = is_an_array cvrs;
        items = λ e a. cvr_read (scope_of d) e (items_have_form cvrs e a) (r.cvrs e a);
      };
    }

-- ---- accepted files

pub no_default : SameElectionLaw → NoDefaultLaw
no_default same frame bytes is_frame valid =
    let d = valid.0 in
    let is : value_in bytes ≡ d = rw valid.1.1 refl in
    let read : ReportIsRead (scope_of (value_in bytes)).contests (value_in bytes) = subst
    (λ x. ReportIsRead (scope_of x).contests x) (sym is)
    (report_read d valid.2.form valid.2.references) in
    subst (λ cs. ReportIsRead cs (value_in bytes)) (sym (same frame bytes is_frame valid)) read
