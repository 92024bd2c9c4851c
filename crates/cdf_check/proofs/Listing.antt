-- The lists of a definition, and the places of its ids.
use Rattle.std.proofs.Common.{◌≡◌, ◌<◌, ◌+◌, ℕ, zero, suc, List, [], ◌∷◌, length, slice_index_or}
use Rattle.std.proofs.Common.{map, Bool, true, false, cond, Option, Some, Contains, codes, bytes_eq}
use Rattle.std.proofs.Common.{refl, sym, ap, ◌∙◌, subst, arith}
use Rattle.std.specs.List.{AllByRecursion, IsDistinct, position_from}
use Rattle.std.proofs.lemmas.Bool.{false_from_ne_true}
use Rattle.std.proofs.lemmas.Slice.Eq.{bytes_eq-Decides}
use Rattle.serde_json.specs.Data.{Data}
use Rattle.cdf_form.specs.declared.table.Group.{Group}
use Rattle.cdf_form.specs.declared.table.Group.TheVariants as group
use Rattle.cdf_form.specs.declared.table.Leaf.TheVariants as leaf
use Rattle.cdf_form.specs.declared.table.Key.TheVariants as key
use Rattle.cdf_form.specs.declared.table.Kind.TheVariants.{Array, One}
use Rattle.cdf_form.specs.Tables as tables
use Rattle.cdf_form.specs.Tables.{table, classes_of, any, required_member, optional_member}
use Rattle.cdf_form.specs.Form.{key_text}
use Rattle.cdf_parts.specs.Parts.{array_at, id_of, the_election}
use Rattle.cdf_form.specs.ByEntry.{AllClasses, find_entry, HasEntry, ListApart}
use Rattle.cdf_form.proofs.Laws.{entry_named, items_have_form, items_are_apart}
use Rattle.cdf_definition.specs.Named.{IdText, id_and_text, ids_of}
use Rattle.cdf_definition.specs.Frame.{entries_at}
use Rattle.cdf_definition.specs.Acceptance.{IsReport}
use Rattle.cdf_check.specs.Laws.{IsListOf, ListsLaw, AreFoundByIds, PlacesLaw}
use Rattle.cdf_definition.proofs.Lemmas.{at_head, at_tail, election_is, election_listed}
use Rattle.cdf_check.proofs.Entries.{AreAlone, same_by_id}
use Rattle.cdf_definition.specs.Depths.{id_entry, election_entry}
use Rattle.cdf_definition.proofs.Laws.{by_id_law, report_entry, has_id, one_election}
use Rattle.cdf_form.specs.HasForm.{HasForm}

abbrev contest_entry : tables.Entry
contest_entry = required_member (codes "Contest") (Array (leaf.Object group.Contests) 0 any key.Id)

election_form : (d : Data) → IsReport d
    → HasForm (One (leaf.Object group.Elections)) (the_election d)
election_form d h =
    let one = one_election d h in
    subst (λ e. HasForm (One (leaf.Object group.Elections)) e) (sym (election_is d one.0 one.1))
    (items_have_form (report_entry election_entry d refl h) one.0 (election_listed d one.0 one.1))

-- each value has an id
abbrev HaveIds : List Data → Type 0
HaveIds ds = (e : Data) → Contains ds e → key_text key.Id e ≡ Some (id_of e)

rest_have : (d : Data) (ds : List Data) → HaveIds (d ∷ ds) → HaveIds ds
rest_have d ds h e c = h e (at_tail d e ds c)

rest_apart : (d : Data) (ds : List Data) → ListApart key.Id (d ∷ ds) → ListApart key.Id ds
rest_apart d ds apart i j x y s p q u v =
    let h = apart (suc i) (suc j) x y s (omega (arith, p)) (omega (arith, q)) u v in
    omega (arith, h)

-- the first id is no later one
first_differs : (d e : Data) (ds : List Data) (i : ℕ) → HaveIds (d ∷ ds) → ListApart key.Id (d ∷ ds)
    → i < length ds → slice_index_or ds i e ≡ e → id_of e ≡ id_of d → ⊥
first_differs d e ds i h apart lt is same =
    let later : key_text key.Id (slice_index_or ds i e) ≡ Some (id_of d) =
    ap (key_text key.Id) is ∙ h e (at_tail d e ds (i, lt, is)) ∙ ap Some same in
    let p : 0 ≡ suc i = apart 0 (suc i) d e (id_of d) (omega arith) (omega (arith, lt))
    (h d (at_head d ds)) later in
    omega (arith, p)

-- ---- lists

none_has : (id : List ℕ) (ds : List Data) → ((e : Data) → Contains ds e → id_of e ≡ id → ⊥)
    → AllByRecursion (λ k. bytes_eq id k ≡ false) (ids_of (map id_and_text ds))
none_has id [] none = tt
none_has id (d ∷ ds) none = (
  false_from_ne_true (bytes_eq id (id_of d))
      (λ same. none d (at_head d ds) (sym ((bytes_eq-Decides id (id_of d)).0 same))),
  none_has id ds (λ e at. none e (at_tail d e ds at)),
)

alone : (ds : List Data) → HaveIds ds → ListApart key.Id ds → AreAlone (map id_and_text ds)
unfolding IsDistinct
alone [] h apart = tt
alone (d ∷ ds) h apart = (
  none_has (id_of d) ds (λ e at. first_differs d e ds at.0 h apart at.1 at.2),
  alone ds (rest_have d ds h) (rest_apart d ds apart),
)

listed : (name : List ℕ) (d : Data) → AreAlone (map id_and_text (array_at name d))
    → IsListOf (entries_at name d) name d
listed name d h = record {
  rises = (by_id_law (map id_and_text (array_at name d))).rises;
  members = same_by_id (map id_and_text (array_at name d)) h;
}

-- ---- places

id_at : (ds : List Data) (i : ℕ) → i < length ds
    → (e : Data) × (slice_index_or ds i e ≡ e) × (slice_index_or (map id_of ds) i [] ≡ id_of e)
id_at [] i lt = absurd (omega arith)
id_at (d ∷ ds) zero lt = (d, refl, refl)
id_at (d ∷ ds) (suc i) lt = id_at ds i (omega arith)

own_head : (t : Bool) (j : ℕ) (rest : Option ℕ) → t ≡ true → cond t (Some j) rest ≡ Some (j + 0)
own_head true j rest is = ap Some (omega arith)
own_head false j rest is = absurd (cc)

past_head : (t : Bool) (j p : ℕ) (rest : Option ℕ) → (t ≡ true → ⊥) → rest ≡ Some p
    → cond t (Some j) rest ≡ Some p
past_head true j p rest never is = absurd (never refl)
past_head false j p rest never is = is

found_from : (ds : List Data) (j i : ℕ) → HaveIds ds → ListApart key.Id ds → i < length ds
    → position_from (bytes_eq (slice_index_or (map id_of ds) i [])) j (map id_of ds) ≡ Some (j + i)
found_from [] j i h apart lt = absurd (omega arith)
found_from (d ∷ ds) j zero h apart lt =
    own_head (bytes_eq (id_of d) (id_of d)) j _ ((bytes_eq-Decides (id_of d) (id_of d)).1 refl)
found_from (d ∷ ds) j (suc i) h apart lt =
    let s = slice_index_or (map id_of ds) i [] in
    let p = id_at ds i (omega arith) in
    let z : (j + 1) + i ≡ j + suc i = omega arith in
    past_head (bytes_eq s (id_of d)) j (j + suc i) _
    (λ e. first_differs d p.0 ds i h apart (omega arith) p.1
    (sym p.2 ∙ (bytes_eq-Decides s (id_of d)).0 e))
    (found_from ds (j + 1) i (rest_have d ds h) (rest_apart d ds apart) (omega arith) ∙ ap Some z)

found : (name : List ℕ) (d : Data) → HaveIds (array_at name d) → ListApart key.Id (array_at name d)
    → AreFoundByIds name d
found name d h apart place lt =
    let z : 0 + place ≡ place = omega arith in
    found_from (array_at name d) 0 place h apart lt ∙ ap Some z

-- ---- arrays of objects with ids

module _ {b : Bool} {n : List ℕ} {g : Group} {d : Data}
    (each : AllClasses (λ c. find_entry (codes "@id") (table c) ≡ Some id_entry) (classes_of g))
    (entry : HasEntry b n (Array (leaf.Object g) 0 any key.Id) d) where
  have_ids : HaveIds (array_at n d)
  have_ids e c = has_id g e each (items_have_form entry e c)

  list_of_entry : IsListOf (entries_at n d) n d
  list_of_entry = listed n d (alone (array_at n d) have_ids (items_are_apart entry))

  found_of_entry : AreFoundByIds n d
  found_of_entry = found n d have_ids (items_are_apart entry)

abbrev units_entry : tables.Entry
units_entry = required_member (codes "GpUnit") (Array (leaf.Object group.GpUnits) 0 any key.Id)

abbrev parties_entry : tables.Entry
parties_entry = optional_member (codes "Party") (Array (leaf.Object group.Parties) 0 any key.Id)

abbrev devices_entry : tables.Entry
devices_entry = required_member (codes "ReportingDevice")
    (Array (leaf.Object group.ReportingDevices) 0 any key.Id)

abbrev selections_entry : tables.Entry
selections_entry = optional_member (codes "ContestSelection")
    (Array (leaf.Object group.ContestSelections) 0 any key.Id)

alone_one : (e : IdText) → AreAlone (e ∷ [])
unfolding IsDistinct
alone_one e = (tt, tt)

one_alone : (d : Data) → IsReport d → AreAlone (map id_and_text (array_at (codes "Election") d))
one_alone d h =
    let one = one_election d h in
    subst (λ ds. AreAlone (map id_and_text ds)) (sym one.1) (alone_one (id_and_text one.0))

pub lists : ListsLaw
lists d h = (
  listed (codes "Election") d (one_alone d h),
  list_of_entry (refl, tt) (report_entry units_entry d refl h),
  list_of_entry (refl, tt) (report_entry parties_entry d refl h),
  list_of_entry (refl, tt) (report_entry devices_entry d refl h),
)

pub found_by_ids : PlacesLaw
found_by_ids d h =
    let entry =
    entry_named group.Elections contest_entry (the_election d) (refl, tt) (election_form d h) in (
      found_of_entry (refl, (refl, (refl, (refl, (refl, tt))))) entry,
      λ c a. found_of_entry (refl, (refl, (refl, (refl, tt))))
          (entry_named group.Contests selections_entry c (refl, (refl, (refl, (refl, (refl, tt)))))
          (items_have_form entry c a)),
    )
