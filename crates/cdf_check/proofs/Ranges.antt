-- What an accepted file gives is in range.
use Rattle.std.proofs.Common.{◌≡◌, ◌<◌, ℕ, List, length, map, slice_index_or, Contains}
use Rattle.std.proofs.Common.{Option, Some, None, codes}
use Rattle.std.proofs.Common.{refl, sym, ap, ◌∙◌, subst, arith}
use Rattle.std.specs.Prelude.{option_map, unwrap_or, ◌==◌}
use Rattle.std.specs.List.{IsDistinct}
use Rattle.std.proofs.lemmas.Bool.{ne_eqb}
use Rattle.std.proofs.lemmas.List.{get_or-map, length-map}
use Rattle.std.proofs.lemmas.List.Elements.{All-map, All-contains, Contains-get_or}
use Rattle.std.proofs.lemmas.Simd.{map-map}
use Rattle.std.proofs.lemmas.Map.Keys.{IsDistinct-from_apart}
use Rattle.serde_json.specs.Data.{Data, null}
use Rattle.serde_json.specs.Find.{get}
use Rattle.cdf_form.specs.declared.table.Group.TheVariants as group
use Rattle.cdf_form.specs.declared.table.Leaf.TheVariants as leaf
use Rattle.cdf_form.specs.declared.table.Key.TheVariants as key
use Rattle.cdf_form.specs.declared.table.Kind.TheVariants.{One, Array}
use Rattle.cdf_form.specs.Tables.{required_member, optional_member, any}
use Rattle.cdf_form.specs.HasForm.{HasForm}
use Rattle.cdf_parts.specs.Parts.{array_at, text_at, text_in}
use Rattle.cdf_parts.specs.Places.{Texts, place_in, Contest, contest_ids, selections_at}
use Rattle.cdf_form.proofs.Lemmas.{some_of}
use Rattle.cdf_form.proofs.Laws.{fits_of, entry_named, items_have_form, items_are_apart}
use Rattle.cdf_form.specs.ByEntry.{ListApart}
use Rattle.cdf_typed.specs.Typed.{count_at, position_of, selection_place, selection_vote_of}
use Rattle.cdf_typed.specs.Typed.{contest_vote_of, snapshot_of, cvr_of, report_of}
use Rattle.cdf_typed.specs.Range.{IsCount, SelectionInRange, ContestInRange, SnapshotInRange}
use Rattle.cdf_typed.specs.Range.{CvrInRange, ReportInRange}
use Rattle.cdf_definition.specs.Acceptance.{value_in}
use Rattle.cdf_check.specs.Defaults.{HasText, HasCount, MayHaveCount}
use Rattle.cdf_check.specs.Defaults.{SelectionIsRead, ContestIsRead, SnapshotIsRead, CvrIsRead}
use Rattle.cdf_check.specs.Defaults.{ReportIsRead, InRangeLaw, RecordInRangeLaw}
use Rattle.cdf_definition.specs.References.{in_snapshot}
use Rattle.cdf_definition.specs.Resolves.{SnapshotResolves}
use Rattle.cdf_definition.specs.Scoped.{contests_alone}
use Rattle.cdf_check.specs.Laws.{SameElectionLaw}
use Rattle.cdf_definition.proofs.Lemmas.{all_items}
use Rattle.cdf_definition.proofs.Lemmas.{none_right}
use Rattle.cdf_check.proofs.NoDefault.{no_default, snapshot_read}
use Rattle.cdf_definition.proofs.Laws.{snapshot_law}
use Rattle.cdf_check.proofs.Places.{placed_in, one_place}

-- ---- lists

-- what holds of what each item gives holds of what is given
each_mapped : {A B : Type 0} (f : A → B) (P : B → Type 0) (xs : List A)
    → ((x : A) → Contains xs x → P (f x)) → (y : B) → Contains (map f xs) y → P y
each_mapped f P xs each y a =
    All-contains P (map f xs) y (All-map P f xs
    (λ k d h. each (slice_index_or xs k d) (Contains-get_or xs k d h))) a

-- ---- counts

count_is : (n : List ℕ) (d : Data) → HasCount n d → IsCount (count_at n d)
count_is n d h = rw h.1 h.2

count_may_be : (n : List ℕ) (d : Data) → MayHaveCount n d → IsCount (count_at n d)
count_may_be n d h = go (get n d) refl
  where
    go : (o : Option Data) → get n d ≡ o → IsCount (count_at n d)
    go None is = rw is (omega arith)
    go (Some e) is = count_is n d (h e is)

-- ---- votes

selection_below : (ids : Texts) (o : Option (List ℕ)) (i : ℕ)
    → selection_place (Some ids) o ≡ Some i → i < length ids
selection_below ids None i is = absurd (cc)
selection_below ids (Some s) i is = (placed_in ids s i is).0

selection_in_range : (ids : Texts) (d : Data) → SelectionIsRead ids d
    → SelectionInRange (length ids) (selection_vote_of (Some ids) d)
selection_in_range ids d h = record {
  place = λ i is. selection_below ids (text_in (codes "ContestSelectionId") d) i is;
  few = rw length-map h.few;
  votes = each_mapped position_of (λ p. IsCount p.votes) (array_at (codes "SelectionPosition") d)
      (λ e a. count_is (codes "NumberVotes") e (h.positions.items e a).votes);
}

contest_in_range : (contests : List Contest) (d : Data) → ContestIsRead contests d
    → ContestInRange contests (contest_vote_of contests d)
contest_in_range contests d h =
    let found = some_of (place_in (contest_ids contests) (text_at (codes "ContestId") d)) h.place in
    let ids = selections_at contests found.0 in
    let votes = array_at (codes "CVRContestSelection") d in
    record {
      place = rw (found.1, ← length-map contests (λ c. c.0))
          (placed_in (contest_ids contests) (text_at (codes "ContestId") d) found.0 found.1).0;
      overvotes = count_may_be (codes "Overvotes") d h.overvotes;
      undervotes = count_may_be (codes "Undervotes") d h.undervotes;
      write_ins = count_may_be (codes "WriteIns") d h.write_ins;
      few = rw length-map h.few;
      selections = rw found.1 (each_mapped (selection_vote_of (Some ids))
          (SelectionInRange (length ids)) votes
          (λ e a. selection_in_range ids e
          ((h.selections ids (ap (option_map (selections_at contests)) found.1)).items e a)));
    }

-- ---- contests of a snapshot

-- the place that a contest's vote has
abbrev vote_place : List Contest → Data → ℕ
vote_place contests d =
    unwrap_or (place_in (contest_ids contests) (text_at (codes "ContestId") d)) 0

own_text : (d : Data) → HasText (codes "ContestId") d
    → text_in (codes "ContestId") d ≡ Some (text_at (codes "ContestId") d)
own_text d h = let p = some_of (text_in (codes "ContestId") d) h in rw p.1

-- two votes with one place name one contest
same_contest : (contests : List Contest) (d e : Data) → ContestIsRead contests d
    → ContestIsRead contests e → vote_place contests d ≡ vote_place contests e
    → text_at (codes "ContestId") d ≡ text_at (codes "ContestId") e
same_contest contests d e h k same =
    let p = some_of (place_in (contest_ids contests) (text_at (codes "ContestId") d)) h.place in
    let q = some_of (place_in (contest_ids contests) (text_at (codes "ContestId") e)) k.place in
    let one : p.0 ≡ q.0 = rw (p.1, q.1) at same in
    one_place (contest_ids contests) _ _ q.0 (p.1 ∙ ap Some one) q.1

places_differ : (contests : List Contest) (xs : List Data) → ListApart key.Contest xs
    → ((e : Data) → Contains xs e → ContestIsRead contests e)
    → (i j : ℕ) → i < j → j < length xs → (d : Data)
    → vote_place contests (slice_index_or xs i d) ≡ vote_place contests (slice_index_or xs j d)
    → ⊥
places_differ contests xs apart each i j lt h d same =
    let a = slice_index_or xs i d in
    let b = slice_index_or xs j d in
    let at : i < length xs = omega (arith, lt, h) in
    let x = each a (Contains-get_or xs i d at) in
    let y = each b (Contains-get_or xs j d h) in
    let both : i ≡ j = apart i j d d _ at h
    (own_text a x.id_text ∙ ap Some (same_contest contests a b x y same)) (own_text b y.id_text)
    in
    omega (arith, both, lt)

distinct_places : (contests : List Contest) (xs : List Data) → ListApart key.Contest xs
    → ((e : Data) → Contains xs e → ContestIsRead contests e)
    → IsDistinct ◌==◌ (map (vote_place contests) xs)
distinct_places contests xs apart each =
    IsDistinct-from_apart ◌==◌ (map (vote_place contests) xs) (λ i j n lt h.
    let len : length (map (vote_place contests) xs) ≡ length xs =
    length-map xs (vote_place contests) in
    let later : j < length xs = omega (arith, len, h) in
    let left = get_or-map (vote_place contests) xs i null n (omega (arith, lt, later)) in
    let right = get_or-map (vote_place contests) xs j null n later in
    ne_eqb _ _ (λ same. places_differ contests xs apart each i j lt later null
    (sym left ∙ same ∙ right)))

snapshot_in_range : (contests : List Contest) (d : Data)
    → HasForm (One (leaf.Object group.Snapshots)) d → SnapshotIsRead contests d
    → SnapshotInRange contests (snapshot_of contests d)
snapshot_in_range contests d f h =
    let xs = array_at (codes "CVRContest") d in
    let entry = entry_named group.Snapshots (optional_member (codes "CVRContest")
    (Array (leaf.Object group.CvrContests) 0 any key.Contest)) d (refl, tt) f in
    record {
      once = rw map-map (distinct_places contests xs (items_are_apart entry) h.votes.items);
      votes = each_mapped (contest_vote_of contests) (ContestInRange contests) xs
          (λ e a. contest_in_range contests e (h.votes.items e a));
    }

-- ---- records

cvr_in_range : (contests : List Contest) (d : Data) → HasForm (One (leaf.Object group.Cvrs)) d
    → CvrIsRead contests d → CvrInRange contests (cvr_of contests d)
cvr_in_range contests d f h =
    let entry = entry_named group.Cvrs (required_member (codes "CVRSnapshot")
    (Array (leaf.Object group.Snapshots) 1 any key.Id)) d (refl, tt) f in
    each_mapped (snapshot_of contests) (SnapshotInRange contests) (array_at (codes "CVRSnapshot") d)
    (λ e a. snapshot_in_range contests e (items_have_form entry e a) (h.snapshots.items e a))

pub report_in_range : (contests : List Contest) (d : Data)
    → HasForm (One (leaf.Object group.Reports)) d → ReportIsRead contests d
    → ReportInRange contests (report_of contests d)
report_in_range contests d f h =
    let entry = entry_named group.Reports (optional_member (codes "CVR")
    (Array (leaf.Object group.Cvrs) 0 any key.Free)) d (refl, tt) f in
    each_mapped (cvr_of contests) (CvrInRange contests) (array_at (codes "CVR") d)
    (λ e a. cvr_in_range contests e (items_have_form entry e a) (h.cvrs.items e a))

pub record_in_range : RecordInRangeLaw
record_in_range contests d none names =
    let scope = contests_alone contests in
    let f : HasForm (One (leaf.Object group.Cvrs)) d =
    fits_of d (One (leaf.Object group.Cvrs)) key.Free refl (none_right _ none) in
    let entry = entry_named group.Cvrs (required_member (codes "CVRSnapshot")
    (Array (leaf.Object group.Snapshots) 1 any key.Id)) d (refl, tt) f in
    let resolved = (all_items (in_snapshot scope) (SnapshotResolves scope) (snapshot_law scope)
    (codes "CVRSnapshot") d).0 names in
    each_mapped (snapshot_of contests) (SnapshotInRange contests) (array_at (codes "CVRSnapshot") d)
    (λ e a. snapshot_in_range contests e (items_have_form entry e a)
    (snapshot_read scope e (items_have_form entry e a) (resolved e a)))

-- ---- accepted files

pub in_range : SameElectionLaw → InRangeLaw
in_range same frame bytes is_frame valid =
    let is : value_in bytes ≡ valid.0 = ap (λ o. unwrap_or o null) valid.1.1 in
    let f : HasForm (One (leaf.Object group.Reports)) (value_in bytes) =
    subst (λ x. HasForm (One (leaf.Object group.Reports)) x) (sym is) valid.2.form in
    report_in_range frame.contests (value_in bytes) f (no_default same frame bytes is_frame valid)
