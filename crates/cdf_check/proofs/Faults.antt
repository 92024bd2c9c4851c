-- The first fault of numbers or form of a file, by what was seen of its records and by what is left
-- beside them.
use Rattle.std.proofs.Common.{◌≡◌, ◌≤◌, ℕ, List, [], ◌∷◌, ◌++◌, length, Bool, true, false, bytes_eq}
use Rattle.std.proofs.Common.{Option, Some, None, IsSome, option_map, codes, refl, sym, ap, subst}
use Rattle.std.proofs.Common.{◌∙◌}
use Rattle.std.specs.Prelude.{if◌then◌else◌, ◌||◌, option_and_then}
use Rattle.std.specs.List.{list_any}
use Rattle.std.specs.Option.{option_or}
use Rattle.serde_json.specs.Data.{Data, array, object, Items, no_items, Members, no_members, member}
use Rattle.serde_json.specs.Find.{get_member, as_str}
use Rattle.serde_json.specs.Events.{items_len}
use Rattle.cdf_node.specs.View.{items_of}
use Rattle.serde_json.specs.Written.{has_float, items_have_float}
use Rattle.cdf_pull.specs.Fold.{with_items_at}
use Rattle.cdf_pull.proofs.Laws.{found_other, found_here}
use Rattle.cdf_types.specs.declared.fault.ReadFault.TheVariants.{Schema}
use Rattle.cdf_types.specs.declared.report.Cvr.{Cvr}
use Rattle.cdf_form.specs.declared.table.Class.TheVariants as class_of
use Rattle.cdf_form.specs.declared.table.Group.TheVariants as group
use Rattle.cdf_form.specs.declared.table.Leaf.{Leaf}
use Rattle.cdf_form.specs.declared.table.Leaf.TheVariants as leaf
use Rattle.cdf_form.specs.declared.table.Key.TheVariants as key
use Rattle.cdf_form.specs.declared.table.Kind.TheVariants.{One}
use Rattle.cdf_form.specs.Tables.{any, type_text, classes_of}
use Rattle.cdf_form.specs.Form.{at_member, Fault, deeper_fault, first, find_class, class_faults}
use Rattle.cdf_form.specs.Form.{type_text_faults, type_faults, leaf_faults, faults, float_faults}
use Rattle.cdf_form.specs.Form.{items_floats, members_floats}
use Rattle.cdf_form.specs.Reading.{document_faults, refusal_of}
use Rattle.cdf_form.specs.Records.{cvrs_faults}
use Rattle.cdf_form.proofs.Laws.{records_apart, records_first, no_float_faults, whole_document}
use Rattle.cdf_form.proofs.Laws.{whole_of}
use Rattle.cdf_parts.proofs.Laws.{whole_array}
use Rattle.cdf_check.specs.declared.seen.Seen.{Seen}
use Rattle.cdf_definition.specs.Frame.{Frame}
use Rattle.cdf_check.specs.Apart.{with_records}
use Rattle.cdf_check.specs.Seen.{in_file, file_fraction, first_of_file, form_refusal, IsSeen}
use Rattle.cdf_check.specs.Seen.{fraction_seen, fault_seen}
use Rattle.cdf_check.proofs.Apart.{items_len-items_of, records_there, some_array, records}
use Rattle.cdf_check.proofs.Numbers.{path_of, append_first, first_rule, all_of, first_filled}
use Rattle.cdf_definition.proofs.Lemmas.{none_right, unmapped}

-- ---- lists of faults, and the class of a report

abbrev pub report : Leaf
report = leaf.Object group.Reports

one_class : (b : Bool) → class_faults (if b then Some class_of.CastVoteRecordReport else None) ≡ []
    → (if b then Some class_of.CastVoteRecordReport else None) ≡ Some class_of.CastVoteRecordReport
one_class true e = refl
one_class false e = cc

type_class : (o : Option Data) → type_faults group.Reports o ≡ []
    → option_and_then (find_class (classes_of group.Reports)) (option_and_then as_str o)
    ≡ Some class_of.CastVoteRecordReport
type_class None e = cc
type_class (Some d) e = text_class (as_str d) e
  where
    text_class : (o : Option (List ℕ)) → type_text_faults group.Reports o ≡ []
        → option_and_then (find_class (classes_of group.Reports)) o
        ≡ Some class_of.CastVoteRecordReport
    text_class None p = cc
    text_class (Some s) p = one_class (bytes_eq s (type_text class_of.CastVoteRecordReport)) p

floats_at : (b : Bool) (ds : Items) (d : Data) → items_floats ds 0 ≡ []
    → (if b then array no_items else d) ≡ d
    → float_faults (if b then array ds else d) ≡ float_faults d
floats_at true ds d whole e = whole ∙ ap float_faults e
floats_at false ds d whole e = refl

floats_stay : (ds : Items) (ms : Members) → items_floats ds 0 ≡ []
    → with_items_at records no_items ms ≡ ms
    → members_floats (with_items_at records ds ms) ≡ members_floats ms
floats_stay ds no_members whole e = refl
floats_stay ds (member k d ms) whole e =
    rw (floats_at (bytes_eq k records) ds d whole (cc), floats_stay ds ms whole (cc))

-- ---- the form, where each number of the records is whole

module _ (ds : List Data) (ms : Members) (whole : items_have_float (items_of ds) ≡ false)
    (emptied : with_items_at records no_items ms ≡ ms) (some : IsSome (get_member records ms))
    (few : length ds ≤ any) where
  here : get_member records (with_items_at records (items_of ds) ms) ≡ Some (array (items_of ds))
  here = found_here records (items_of ds) ms
      ∙ some_array (items_of ds) (get_member records ms) some

  short : items_len (items_of ds) ≤ any
  short = subst (λ n. n ≤ any) (sym (items_len-items_of ds)) few

  numbers_stay : float_faults (with_records ds ms) ≡ float_faults (object ms)
  numbers_stay = floats_stay (items_of ds) ms (no_float_faults (array (items_of ds)) whole) emptied

  class_stays : leaf_faults report (with_records ds ms) ≡ leaf_faults report (object ms)
  class_stays =
      ap (type_faults group.Reports) (found_other records (items_of ds) (codes "@type") ms refl)

  faults_stay : cvrs_faults (items_of ds) ≡ []
      → document_faults (with_records ds ms) ≡ document_faults (object ms)
  faults_stay right =
      let empty : get_member records ms
      ≡ Some (array no_items) = ap (get_member records) (sym emptied)
      ∙ found_here records no_items ms ∙ some_array no_items (get_member records ms) some in
      rw (
        numbers_stay,
        records_apart (with_items_at records (items_of ds) ms) ms (items_of ds)
            (λ name other. found_other records (items_of ds) name ms other) here empty short right,
      )

  by_part : (o : Option Fault) (numbers class : List Fault) → first (cvrs_faults (items_of ds)) ≡ o
      → float_faults (object ms) ≡ numbers → leaf_faults report (object ms) ≡ class
      → first (numbers ++ faults (with_records ds ms) (One report) key.Free)
      ≡ option_or (first numbers) (option_or (first class)
      (option_or (option_map (deeper_fault (at_member records)) o)
      (first (document_faults (object ms)))))
  by_part o (f ∷ fs) class told is right = refl
  by_part o [] (f ∷ fs) told is right =
      append_first (leaf_faults report (with_records ds ms)) _ f (ap first (class_stays ∙ right))
  by_part None [] [] told is right = ap
      (λ fs. first (fs ++ faults (with_records ds ms) (One report) key.Free))
      (sym (numbers_stay ∙ is)) ∙ ap first (faults_stay (none_right _ told))
  by_part (Some f) [] [] told is right = records_first (with_items_at records (items_of ds) ms)
      (items_of ds) f (type_class (get_member (codes "@type")
      (with_items_at records (items_of ds) ms)) (class_stays ∙ right)) here short told

  file_first : (o : Option Fault) → first (cvrs_faults (items_of ds)) ≡ o
      → first (document_faults (with_records ds ms)) ≡ first_of_file (object ms) o
  file_first o told = rw numbers_stay (by_part o (float_faults (object ms))
      (leaf_faults report (object ms)) told refl refl)

-- ---- the numbers of the records

whole_list : (ds : List Data) → items_have_float (items_of ds) ≡ list_any has_float ds
whole_list [] = refl
whole_list (d ∷ ds) = ap (λ b. has_float d || b) (whole_list ds)

whole_records : (ds : List Data) (ms : Members) → IsSome (get_member records ms)
    → has_float (with_records ds ms) ≡ false → items_have_float (items_of ds) ≡ false
whole_records ds ms some whole = whole_list ds
    ∙ ap (list_any has_float) (sym (records_there ds ms some))
    ∙ whole_array (with_records ds ms) records whole

-- ---- together

module _ {T : Type 0} {keeps : List Cvr → T → Type 0} {frame : Frame} (ds : List Data)
    (ms : Members) (seen : Seen T) (h : IsSeen keeps frame ds seen)
    (some : IsSome (get_member records ms)) where
  no_fraction : items_have_float (items_of ds) ≡ false → fraction_seen seen ≡ None
  no_fraction whole = h.fraction ∙ ap (λ fs. option_map in_file (first fs))
      (no_float_faults (array (items_of ds)) whole)

  pub no_fraction_seen : document_faults (with_records ds ms) ≡ [] → fraction_seen seen ≡ None
  no_fraction_seen sound =
      no_fraction (whole_records ds ms some (whole_document (with_records ds ms) sound))

  module _ (emptied : with_items_at records no_items ms ≡ ms) where
    law_at : (o : Option Fault) → option_map path_of (first (float_faults (with_records ds ms)))
        ≡ file_fraction ms (fraction_seen seen) → first (float_faults (with_records ds ms)) ≡ o
        → option_map refusal_of (first (document_faults (with_records ds ms)))
        ≡ form_refusal (object ms) seen
    law_at (Some f) numbers is =
        let all = with_records ds ms in
        let found : first (document_faults all) ≡ Some f = append_first (float_faults all) _ f is in
        let path : file_fraction ms (fraction_seen seen) ≡ Some (path_of f) =
        sym numbers ∙ ap (option_map path_of) is in
        rw (found, path) (ap (λ r. Some (Schema (path_of f) r))
        (first_rule (float_faults all) f (all_of all) is))
    law_at None numbers is =
        let all = with_records ds ms in
        let whole : items_have_float (items_of ds) ≡ false =
        whole_records ds ms some (whole_of all (none_right _ is)) in
        let path : file_fraction ms (fraction_seen seen) ≡ None =
        sym numbers ∙ ap (option_map path_of) is in
        rw (
          path,
          file_first ds ms whole emptied some h.few (fault_seen seen)
              (sym (h.form (no_fraction whole))),
        )

    -- the refusal for numbers and form is what is answered
    pub form_law : option_map refusal_of (first (document_faults (with_records ds ms)))
        ≡ form_refusal (object ms) seen
    form_law = law_at _ (first_filled (items_of ds) _ (sym h.fraction) ms) refl

    -- records with no fault leave a file with none, where what is left has none
    pub records_right : fraction_seen seen ≡ None → fault_seen seen ≡ None
        → document_faults (object ms) ≡ [] → document_faults (with_records ds ms) ≡ []
    records_right whole right rest =
        let numbers = none_right _ (unmapped in_file _ (sym h.fraction ∙ whole)) in
        let forms = none_right _ (sym (h.form whole) ∙ right) in
        faults_stay ds ms (whole_of (array (items_of ds)) numbers) emptied some h.few forms ∙ rest
