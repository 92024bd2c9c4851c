-- A report from its records and from what is left beside them.
use Rattle.std.proofs.Common.{◌≡◌, ◌≤◌, ℕ, zero, suc, List, [], ◌∷◌, length, Contains, Bool, true}
use Rattle.std.proofs.Common.{false, bytes_eq, Option, Some, None, IsSome, option_map}
use Rattle.std.proofs.Common.{option_and_then, unwrap_or, codes, refl, sym, ap, subst, ◌∙◌, arith}
use Rattle.std.proofs.lemmas.Bool.{or_from}
use Rattle.std.proofs.lemmas.Slice.Eq.{bytes_eq-Decides}
use Rattle.serde_json.specs.Data.{Data, array, object, Items, Members}
use Rattle.serde_json.specs.Find.{get_member, get_item, as_str, as_array}
use Rattle.serde_json.specs.Events.{items_len}
use Rattle.cdf_node.specs.View.{items_of}
use Rattle.serde_json.specs.Written.{has_float, items_have_float}
use Rattle.cdf_pull.specs.Fold.{with_items_at}
use Rattle.cdf_pull.proofs.Laws.{found_other, found_here, filled_is_whole}
use Rattle.cdf_form.specs.declared.table.Class.{Class}
use Rattle.cdf_form.specs.declared.table.Class.TheVariants as class_of
use Rattle.cdf_form.specs.declared.table.Group.TheVariants as group
use Rattle.cdf_form.specs.declared.table.Leaf.TheVariants as leaf
use Rattle.cdf_form.specs.declared.table.Key.TheVariants as key
use Rattle.cdf_form.specs.declared.table.Kind.{Kind}
use Rattle.cdf_form.specs.declared.table.Kind.TheVariants.{One, Array}
use Rattle.cdf_form.specs.Tables.{Entry, table, any, classes_of}
use Rattle.cdf_form.specs.Form.{find_class}
use Rattle.cdf_form.specs.HasForm.{HasForm, class, items, IsEntry}
use Rattle.cdf_node.specs.Items.{list_of}
use Rattle.cdf_parts.specs.Parts.{array_at}
use Rattle.cdf_parts.proofs.Laws.{list_of-items_of}
use Rattle.cdf_form.proofs.Lemmas.{class_of_group}
use Rattle.cdf_definition.specs.References.{scope_of}
use Rattle.cdf_definition.specs.Resolves.{CvrResolves, Resolves}
use Rattle.cdf_check.specs.Apart.{with_records, RecordsLaw, AgreesApartLaw, TypedApartLaw}
use Rattle.cdf_definition.proofs.Lemmas.{at_head, at_tail}

abbrev pub records : List ℕ
records = codes "CVR"

-- ---- lists of values

pub items_len-items_of : (ds : List Data) → items_len (items_of ds) ≡ length ds
items_len-items_of [] = refl
items_len-items_of (d ∷ ds) = ap suc (items_len-items_of ds)

pub listed_item : (ds : List Data) (i : ℕ) (e : Data) → get_item i (items_of ds) ≡ Some e
    → Contains ds e
listed_item [] i e h = absurd (cc)
listed_item (d ∷ ds) zero e h =
    let same : d ≡ e = cc in subst (λ x. Contains (d ∷ ds) x) same (at_head d ds)
listed_item (d ∷ ds) (suc i) e h = at_tail d e ds (listed_item ds i e h)

whole_items : (ds : List Data) → ((d : Data) → Contains ds d → has_float d ≡ false)
    → items_have_float (items_of ds) ≡ false
whole_items [] each = refl
whole_items (d ∷ ds) each = or_from (has_float d) (items_have_float (items_of ds))
    (each d (at_head d ds)) (whole_items ds (λ e h. each e (at_tail d e ds h)))

-- ---- the arrays of a report

abbrev pub listed : Option Data → List Data
listed o = unwrap_or (option_map list_of (option_and_then as_array o)) []

pub array_stays : (ds : Items) (ms : Members) (q : List ℕ) → bytes_eq q records ≡ false
    → array_at q (object (with_items_at records ds ms)) ≡ array_at q (object ms)
array_stays ds ms q other = ap listed (found_other records ds q ms other)

pub some_array : (ds : Items) (o : Option Data) → IsSome o
    → option_map (λ _. array ds) o ≡ Some (array ds)
some_array ds None h = absurd (cc)
some_array ds (Some d) h = refl

pub found_records : (ds : Items) (ms : Members) → IsSome (get_member records ms)
    → get_member records (with_items_at records ds ms) ≡ Some (array ds)
found_records ds ms h = found_here records ds ms ∙ some_array ds (get_member records ms) h

pub records_there : (ds : List Data) (ms : Members) → IsSome (get_member records ms)
    → array_at records (with_records ds ms) ≡ ds
records_there ds ms h = ap listed (found_records (items_of ds) ms h) ∙ list_of-items_of ds

-- ---- references

pub scope_stays : (ds : List Data) (ms : Members)
    → scope_of (with_records ds ms) ≡ scope_of (object ms)
scope_stays ds ms =
    let stays =
    λ (q : List ℕ) (other : bytes_eq q records ≡ false). array_stays (items_of ds) ms q other in
    cc (
      stays (codes "Election") refl,
      stays (codes "GpUnit") refl,
      stays (codes "Party") refl,
      stays (codes "ReportingDevice") refl,
    )

resolves : (ds : List Data) (ms : Members) → IsSome (get_member records ms) → Resolves (object ms)
    → ((d : Data) → Contains ds d → CvrResolves (scope_of (object ms)) d)
    → Resolves (with_records ds ms)
resolves ds ms some left each = record {
  cvrs = rw (scope_stays ds ms, records_there ds ms some) each;
  elections =
      rw (scope_stays ds ms, array_stays (items_of ds) ms (codes "Election") refl) left.elections;
  devices = rw (
    array_stays (items_of ds) ms (codes "ReportingDevice") refl,
    array_stays
        (items_of ds) ms (codes "ReportGeneratingDeviceIds") refl,
  ) left.devices;
}

-- ---- the form

abbrev records_kind : Kind
records_kind = Array (leaf.Object group.Cvrs) 0 any key.Free

-- an entry of that name is the entry of the records
abbrev HasKind : Class → Type 0
HasKind c = (r : Entry) → IsEntry (table c) r → bytes_eq r.name records ≡ true → r.kind ≡ records_kind

entry_kind : HasKind class_of.CastVoteRecordReport
entry_kind r entry h = grind arith

records_form : (ds : Items) → ((i : ℕ) (e : Data) → get_item i ds ≡ Some e
    → HasForm (One (leaf.Object group.Cvrs)) e) → items_len ds ≤ any
    → HasForm records_kind (array ds)
records_form ds each few = items refl (omega arith) few each (λ i j d e s p q u v. absurd (cc))

same_array : (ds : Items) (o : Option Data) (e : Data) → option_map (λ _. array ds) o ≡ Some e
    → array ds ≡ e
same_array ds None e h = absurd (cc)
same_array ds (Some d) e h = cc

module _ (ds : Items) (ms : Members) where
  there : (r : Entry) (b : Bool) → bytes_eq r.name records ≡ b → IsSome (get_member r.name ms)
      → IsSome (get_member r.name (with_items_at records ds ms))
  there r true is h =
      let same : r.name ≡ records = (bytes_eq-Decides r.name records).0 is in
      rw (same, found_records ds ms (rw same at h)) refl
  there r false is h = rw (found_other records ds r.name ms is) h

  module _ (each : (i : ℕ) (e : Data) → get_item i ds ≡ Some e
      → HasForm (One (leaf.Object group.Cvrs)) e) (few : items_len ds ≤ any) where
    part : (r : Entry) (e : Data) (b : Bool) → bytes_eq r.name records ≡ b
        → (bytes_eq r.name records ≡ true → r.kind ≡ records_kind)
        → (get_member r.name ms ≡ Some e → HasForm r.kind e)
        → get_member r.name (with_items_at records ds ms) ≡ Some e → HasForm r.kind e
    part r e true is kind old found =
        let same : r.name ≡ records = (bytes_eq-Decides r.name records).0 is in
        let whole : array ds ≡ e = same_array ds (get_member records ms) e
        (sym (found_here records ds ms)
        ∙ ap (λ n. get_member n (with_items_at records ds ms)) (sym same) ∙ found) in
        rw (kind is, ← whole) (records_form ds each few)
    part r e false is kind old found = old (sym (found_other records ds r.name ms is) ∙ found)

    pub form_stays : HasForm (One (leaf.Object group.Reports)) (object ms)
        → HasForm (One (leaf.Object group.Reports)) (object (with_items_at records ds ms))
    form_stays (class {c = c} is needs parts) =
        let kinds : HasKind c =
        class_of_group HasKind group.Reports (object ms) c (entry_kind, tt) is in
        class {c = c} (ap (λ o. option_and_then (find_class (classes_of group.Reports))
        (option_and_then as_str o)) (found_other records ds (codes "@type") ms refl) ∙ is)
        (λ r entry must. there r _ refl (needs r entry must))
        (λ r e entry found. part r e _ refl (kinds r entry) (parts r e entry) found)

-- ---- together

pub records_law : RecordsLaw
records_law cvrs left some few report each = record {
  whole = filled_is_whole records (items_of cvrs) left (whole_items cvrs (λ d h. (each d h).whole))
      report.whole;
  form = form_stays (items_of cvrs) left (λ i e h. (each e (listed_item cvrs i e h)).form)
      (subst (λ n. n ≤ any) (sym (items_len-items_of cvrs)) few) report.form;
  references = resolves cvrs left some report.references (λ d h. (each d h).references);
}

pub agrees_apart : AgreesApartLaw
agrees_apart frame cvrs left h = record {
  elections = rw (array_stays (items_of cvrs) left (codes "Election") refl) h.elections;
  units = rw (array_stays (items_of cvrs) left (codes "GpUnit") refl) h.units;
  parties = rw (array_stays (items_of cvrs) left (codes "Party") refl) h.parties;
}

pub typed_apart : TypedApartLaw
typed_apart contests cvrs left some = cc
    (array_stays (items_of cvrs) left (codes "ReportingDevice") refl, records_there cvrs left some)
