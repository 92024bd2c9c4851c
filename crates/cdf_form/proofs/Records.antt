-- The first fault of a record is the first of its report's form; records with none play no part.
use Rattle.std.proofs.Common.{◌≡◌, ℕ, ◌≤◌, List, [], ◌∷◌, ◌++◌, drop, Bool, true, false, not, ◌&&◌}
use Rattle.std.proofs.Common.{bytes_eq, Option, None, Some, option_map, option_and_then, codes}
use Rattle.std.proofs.Common.{refl, sym, ap, ◌∙◌, arith}
use Rattle.std.specs.Prelude.{if◌then◌else◌}
use Rattle.std.proofs.lemmas.Bool.{not-true, and_parts}
use Rattle.serde_json.specs.Data.{Data, array, object, Items, no_items, Members}
use Rattle.serde_json.specs.Find.{get_member, as_str}
use Rattle.serde_json.specs.Events.{items_len}
use Rattle.cdf_form.specs.declared.table.Class.TheVariants as class_of
use Rattle.cdf_form.specs.declared.table.Group.TheVariants as group
use Rattle.cdf_form.specs.declared.table.Leaf.TheVariants as leaf
use Rattle.cdf_form.specs.declared.table.Key.TheVariants as key
use Rattle.cdf_form.specs.declared.table.Kind.{Kind}
use Rattle.cdf_form.specs.declared.table.Kind.TheVariants.{One, Array}
use Rattle.cdf_form.specs.Tables.{Entry, optional_member, table, type_text, classes_of, any}
use Rattle.cdf_form.specs.Form.{Step, at_member, Fault, deeper_fault, under, first, find_class}
use Rattle.cdf_form.specs.Form.{type_faults, class_entries, repeat_faults, entry_faults, table_faults}
use Rattle.cdf_form.specs.Form.{faults, member_look}
use Rattle.cdf_form.specs.Records.{cvrs_faults, RecordsFirstLaw, RecordsApartLaw}
use Rattle.cdf_form.proofs.Parts.{first-append_some, first-under, faults-one, faults-array}
use Rattle.cdf_form.proofs.FormLaw.{object_ok, length_ok}

abbrev records : List ℕ
records = codes "CVR"

abbrev records_kind : Kind
records_kind = Array (leaf.Object group.Cvrs) 0 any key.Free

array_of_records : (ds : Items) (f : Fault) → items_len ds ≤ any → first (cvrs_faults ds) ≡ Some f
    → first (faults (array ds) records_kind key.Free) ≡ Some f
array_of_records ds f few e = rw (
  faults-array (array ds) ds (leaf.Object group.Cvrs) 0 any key.Free
      key.Free refl,
  length_ok 0 any (items_len ds) (omega arith) few,
) e

entry_there : (ms : Members) (r : Entry) (e : Data) (f : Fault) → get_member r.name ms ≡ Some e
    → first (faults e r.kind key.Free) ≡ Some f
    → first (entry_faults key.Free r (member_look (object ms) r.name r.kind)) ≡ Some f
entry_there ms r e f there h =
    ap (λ o. first (entry_faults key.Free r (option_map (λ x. faults x r.kind key.Free) o))) there
    ∙ first-append_some (faults e r.kind key.Free) (repeat_faults key.Free r.name) f h

entry_first : (s : Step) (xs ys : List Fault) (f : Fault) → first xs ≡ Some f
    → first (under s xs ++ ys) ≡ Some (deeper_fault s f)
entry_first s xs ys f e = first-append_some (under s xs) ys (deeper_fault s f)
    (first-under s xs ∙ ap (option_map (deeper_fault s)) e)

entries_begin : (ms : Members) (r : Entry) (rs : List Entry) (f : Fault)
    → first (entry_faults key.Free r (member_look (object ms) r.name r.kind)) ≡ Some f
    → first (table_faults (member_look (object ms)) key.Free (r ∷ rs))
    ≡ Some (deeper_fault (at_member r.name) f)
entries_begin ms r rs f e = entry_first (at_member r.name)
    (entry_faults key.Free r (member_look (object ms) r.name r.kind))
    (table_faults (member_look (object ms)) key.Free rs) f e

-- a report's table begins with the entry of its records
entries_first : (ms : Members) (ds : Items) (f : Fault) → get_member records ms ≡ Some (array ds)
    → items_len ds ≤ any → first (cvrs_faults ds) ≡ Some f
    → first (table_faults (member_look (object ms)) key.Free (table class_of.CastVoteRecordReport))
    ≡ Some (deeper_fault (at_member records) f)
entries_first ms ds f there few e = entries_begin ms (optional_member records records_kind)
    (drop 1 (table class_of.CastVoteRecordReport)) f
    (entry_there ms (optional_member records records_kind) (array ds) f there
    (array_of_records ds f few e))

pub records_first : RecordsFirstLaw
records_first ms ds f class there few e =
    rw (
      faults-one (object ms) (leaf.Object group.Reports) key.Free,
      object_ok group.Reports
          (object ms) class_of.CastVoteRecordReport class,
      class,
    ) (entries_first ms ds f there few e)

-- ---- a report and one that differs from it in its records alone

abbrev others_only : List Entry → Bool
others_only [] = true
others_only (r ∷ rs) = not (bytes_eq r.name records) && others_only rs

module _ (ms left : Members) (ds : Items)
    (same : (name : List ℕ) → bytes_eq name records ≡ false
    → get_member name ms ≡ get_member name left)
    (here : get_member records ms ≡ Some (array ds))
    (empty : get_member records left ≡ Some (array no_items)) (few : items_len ds ≤ any)
    (right : cvrs_faults ds ≡ []) where
  entries_same : (rs : List Entry) → others_only rs ≡ true
      → table_faults (member_look (object ms)) key.Free rs
      ≡ table_faults (member_look (object left)) key.Free rs
  entries_same [] e = refl
  entries_same (r ∷ rs) e =
      let looked : member_look (object ms) r.name r.kind
      ≡ member_look (object left) r.name r.kind = ap
      (option_map (λ d. faults d r.kind key.Free)) (same r.name (not-true _ (and_parts _ _ e).0))
      in
      ap (λ o. under (at_member r.name) (entry_faults key.Free r o)
      ++ table_faults (member_look (object ms)) key.Free rs) looked
      ∙ ap (λ fs. under (at_member r.name)
      (entry_faults key.Free r (member_look (object left) r.name r.kind)) ++ fs)
      (entries_same rs (and_parts _ _ e).1)

  array_right : faults (array ds) records_kind key.Free ≡ []
  array_right = rw (
    faults-array (array ds) ds (leaf.Object group.Cvrs) 0 any key.Free key.Free
        refl,
    length_ok 0 any (items_len ds) (omega arith) few,
  ) right

  records_look : member_look (object ms) records records_kind
      ≡ member_look (object left) records records_kind
  records_look = ap (option_map (λ d. faults d records_kind key.Free)) here ∙ ap Some array_right
      ∙ ap (option_map (λ d. faults d records_kind key.Free)) (sym empty)

  table_same : table_faults (member_look (object ms)) key.Free (table class_of.CastVoteRecordReport)
      ≡ table_faults (member_look (object left)) key.Free (table class_of.CastVoteRecordReport)
  table_same =
      let entry = optional_member records records_kind in
      let rest = drop 1 (table class_of.CastVoteRecordReport) in
      ap (λ o. under (at_member records) (entry_faults key.Free entry o)
      ++ table_faults (member_look (object ms)) key.Free rest) records_look
      ∙ ap (λ fs. under (at_member records)
      (entry_faults key.Free entry (member_look (object left) records records_kind)) ++ fs)
      (entries_same rest refl)

  class_same : (b : Bool) → table_faults (member_look (object ms)) key.Free
      (class_entries (if b then Some class_of.CastVoteRecordReport else None))
      ≡ table_faults (member_look (object left)) key.Free
      (class_entries (if b then Some class_of.CastVoteRecordReport else None))
  class_same true = table_same
  class_same false = refl

  text_same : (o : Option (List ℕ)) → table_faults (member_look (object ms)) key.Free
      (class_entries (option_and_then (find_class (classes_of group.Reports)) o))
      ≡ table_faults (member_look (object left)) key.Free
      (class_entries (option_and_then (find_class (classes_of group.Reports)) o))
  text_same None = refl
  text_same (Some s) = class_same (bytes_eq s (type_text class_of.CastVoteRecordReport))

  type_same : get_member (codes "@type") ms ≡ get_member (codes "@type") left
  type_same = same (codes "@type") refl

  apart : faults (object ms) (One (leaf.Object group.Reports)) key.Free
      ≡ faults (object left) (One (leaf.Object group.Reports)) key.Free
  apart =
      faults-one (object ms) (leaf.Object group.Reports) key.Free
      ∙ ap (λ o. type_faults group.Reports o
      ++ table_faults (member_look (object ms)) key.Free
      (class_entries (option_and_then (find_class (classes_of group.Reports))
      (option_and_then as_str o)))) type_same
      ∙ ap (λ fs. type_faults group.Reports (get_member (codes "@type") left) ++ fs)
      (text_same (option_and_then as_str (get_member (codes "@type") left)))
      ∙ sym (faults-one (object left) (leaf.Object group.Reports) key.Free)

pub records_apart : RecordsApartLaw
records_apart ms left ds same here empty few right = apart ms left ds same here empty few right
