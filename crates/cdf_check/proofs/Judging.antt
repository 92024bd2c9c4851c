-- The answer for a file, by what was seen of its records and by what is left beside them.
use Rattle.std.proofs.Common.{◌≡◌, inl, inr, ◌+◌, ℕ, List, [], ◌∷◌, ◌++◌, Contains, true, false}
use Rattle.std.proofs.Common.{Result, Ok, Err, Option, Some, None, IsSome, option_map, codes, refl}
use Rattle.std.proofs.Common.{All, sym, ap, subst, ◌∙◌, arith}
use Rattle.std.specs.Prelude.{option_and_then, unwrap_or, IfOk, IfErr, OnOk}
use Rattle.std.specs.Option.{option_or}
use Rattle.serde_json.specs.Data.{Data, array, object, Items, no_items, Members}
use Rattle.serde_json.specs.Find.{as_array, get, get_member}
use Rattle.serde_json.specs.Read.{read}
use Rattle.cdf_node.specs.View.{items_of}
use Rattle.serde_json.specs.Written.{has_float}
use Rattle.cdf_pull.specs.Fold.{items_found, items_under, left_beside, with_items_at, IsFolded}
use Rattle.cdf_pull.specs.Laws.{IsBeside}
use Rattle.cdf_pull.proofs.Laws.{beside}
use Rattle.cdf_types.specs.declared.fault.ReadFault.{ReadFault}
use Rattle.cdf_types.specs.declared.fault.ReadFault.TheVariants.{Reference, Disagrees}
use Rattle.cdf_types.specs.declared.report.Cvr.{Cvr}
use Rattle.cdf_types.specs.declared.report.Report.{Report}
use Rattle.cdf_types.specs.declared.report.ReportingDevice.{ReportingDevice}
use Rattle.cdf_form.specs.declared.found.Path.{Path as Found}
use Rattle.cdf_form.specs.Form as form
use Rattle.cdf_form.specs.Form.{Fault, at_member, deeper_fault, first}
use Rattle.cdf_form.specs.Found.{path_of}
use Rattle.cdf_node.specs.Items.{list_of}
use Rattle.cdf_parts.specs.Parts.{array_at}
use Rattle.cdf_parts.proofs.Laws.{list_of-items_of}
use Rattle.cdf_form.specs.Path.{path_text}
use Rattle.cdf_form.specs.Reading.{document_faults, refusal_of, IsMemory}
use Rattle.cdf_form.proofs.Laws.{whole_document}
use Rattle.cdf_typed.specs.Typed.{report_of}
use Rattle.cdf_typed.specs.Range.{ReportInRange}
use Rattle.cdf_check.specs.declared.record_names.RecordNames.{RecordNames}
use Rattle.cdf_check.specs.declared.seen.Seen.{Seen}
use Rattle.cdf_check.specs.declared.seen.Seen.TheVariants.{Right, Unsettled}
use Rattle.cdf_definition.specs.Paths.{Path, below, below_each, each}
use Rattle.cdf_definition.specs.References.{Scope, scope_of, many, in_cvr, in_election, in_report}
use Rattle.cdf_definition.specs.References.{missing_paths}
use Rattle.cdf_definition.specs.Frame.{Frame}
use Rattle.cdf_definition.specs.Agreement.{disagreements, Agrees}
use Rattle.cdf_definition.specs.Acceptance.{Holds, IsReport, value_refusal, first_refusal}
use Rattle.cdf_definition.specs.Acceptance.{report_in, Valid}
use Rattle.cdf_definition.specs.Sound.{IsFrame}
use Rattle.cdf_check.specs.Apart.{with_records}
use Rattle.cdf_check.specs.Seen.{Accepts, AreKept, IsKept, IsUnnamed, IsJudged, HasForms, IsSeen}
use Rattle.cdf_check.specs.Seen.{form_refusal, first_of_file, fraction_seen, fault_seen, is_array}
use Rattle.cdf_check.specs.Seen.{Settles, Refuses, IsRefusedFor}
use Rattle.cdf_check.specs.Within.{AreNamed}
use Rattle.cdf_definition.specs.Naming.{NamesOwn}
use Rattle.cdf_check.proofs.Apart.{records, typed_apart, array_stays, found_records, records_there}
use Rattle.cdf_check.proofs.Apart.{scope_stays}
use Rattle.cdf_definition.proofs.Lemmas.{either, file_holds}
use Rattle.cdf_definition.proofs.Laws.{valid_file, value_law}
use Rattle.cdf_definition.proofs.Laws.{agreement}
use Rattle.cdf_definition.proofs.Lemmas.{at_head, at_tail}
use Rattle.cdf_definition.proofs.Lemmas.{none_right}
use Rattle.cdf_check.proofs.Faults.{form_law, no_fraction_seen, records_right}
use Rattle.cdf_check.proofs.Joining.{all_listed, all_resolved, all_settled, own_contests}
use Rattle.cdf_check.proofs.Joining.{own_elections}
use Rattle.cdf_definition.proofs.Lemmas.{unmapped}
use Rattle.cdf_check.proofs.Ranges.{in_range}
use Rattle.cdf_definition.proofs.Laws.{cvr_law}
use Rattle.cdf_check.proofs.SameElection.{value_is, contests_agree}
use Rattle.cdf_definition.proofs.Laws.{sound}
use Rattle.cdf_check.proofs.Wider.{agreed_wider}

-- ---- lists of paths, and the refusal for them

-- what can be named in what is left
abbrev own : Members → Scope
own ms = scope_of (object ms)

-- the texts of what is left that name nothing
abbrev of_rest : Members → List Path
of_rest ms = each (in_election (own ms)) (codes "Election") (object ms)
    ++ many (own ms).devices (codes "ReportGeneratingDeviceIds") (object ms)

module _ (ds : List Data) (ms : Members) where
  missing_whole : IsSome (get_member records ms)
      → missing_paths (with_records ds ms)
      ≡ below (at_member records) (below_each (in_cvr (own ms)) ds 0) ++ of_rest ms
  missing_whole some =
      ap (λ s. in_report s (with_records ds ms)) (scope_stays ds ms)
      ∙ rw (
        records_there ds ms some,
        array_stays (items_of ds) ms (codes "Election") refl,
        array_stays (items_of ds) ms (codes "ReportGeneratingDeviceIds") refl,
      )

  missing_left : IsSome (get_member records ms) → with_items_at records no_items ms ≡ ms
      → missing_paths (object ms) ≡ of_rest ms
  missing_left some emptied =
      let none : array_at records (object ms) ≡ [] =
      subst (λ xs. array_at records (object xs) ≡ []) emptied (records_there [] ms some) in
      ap (λ xs. below (at_member records) (below_each (in_cvr (own ms)) xs 0) ++ of_rest ms) none

  agreement_stays : (frame : Frame) → disagreements frame (with_records ds ms)
      ≡ disagreements frame (object ms)
  agreement_stays frame = cc (
    array_stays (items_of ds) ms (codes "Election") refl,
    array_stays
        (items_of ds) ms (codes "GpUnit") refl,
    array_stays (items_of ds) ms (codes "Party") refl,
  )

-- ---- the refusal

abbrev unnamed : Path → ReadFault
unnamed p = Reference (path_text p)

-- why a value is refused, where a record names what isn't there, or else what is left
abbrev refusal_with : Frame → Option Path → Data → Option ReadFault
refusal_with frame o left =
    option_or (option_map (λ p. unnamed (at_member records ∷ p)) o) (value_refusal frame left)

records_first : (xs ys : List Path) (others : Option ReadFault)
    → option_or (option_map unnamed (first (below (at_member records) xs ++ ys))) others
    ≡ option_or (option_map (λ p. unnamed (at_member records ∷ p)) (first xs))
    (option_or (option_map unnamed (first ys)) others)
records_first [] ys others = refl
records_first (x ∷ xs) ys others = refl

-- ---- the second reading

absent_none : (scope : Scope) (ds : List Data) (i : ℕ)
    → ((d : Data) → Contains ds d → in_cvr scope d ≡ [])
    → first (below_each (in_cvr scope) ds i) ≡ None
absent_none scope [] i none = refl
absent_none scope (d ∷ ds) i none =
    rw (none d (at_head d ds)) (absent_none scope ds (i + 1) (λ e at. none e (at_tail d e ds at)))

module _ (frame : Frame) (text : List ℕ) (left : Data) (h : HasForms text left) where
  abbrev ds : List Data
  ds = h.records

  abbrev ms : Members
  ms = h.members

  abbrev all : Data
  all = with_records ds ms

  the_value : (d : Data) → read text ≡ Some d → all ≡ d
  the_value d is = let whole = h.whole in cc

  -- what the records name, and what is left
  refusal_own : value_refusal frame all
      ≡ refusal_with frame (first (below_each (in_cvr (own ms)) ds 0)) (object ms)
  refusal_own =
      rw (
        h.sound,
        h.rest,
        missing_whole ds ms h.some,
        missing_left ds ms h.some h.emptied,
        agreement_stays ds ms frame,
      )
      (records_first (below_each (in_cvr (own ms)) ds 0) (of_rest ms)
      (option_map (λ p. Disagrees (path_text p)) (first (disagreements frame (object ms)))))

  refused_by : {scope : Scope} {again : Data} (found : Option Found) → scope ≡ scope_of left
      → IsFolded (IsUnnamed scope) text records again found
      → value_refusal frame all ≡ refusal_with frame (option_map path_of found) left
  refused_by found is n =
      let listed : items_under records n.0
      ≡ ds = rw (← the_value n.0 n.1)
      (ap items_found (found_records (items_of ds) ms h.some) ∙ list_of-items_of ds) in
      let told : option_map path_of found ≡ first (below_each (in_cvr (scope_of left)) ds 0) =
      n.3 ∙ cc in
      refusal_own ∙ ap (λ d. refusal_with frame (first (below_each (in_cvr (scope_of d)) ds 0)) d)
      (sym h.left_is) ∙ ap (λ o. refusal_with frame o left) (sym told)

  -- a record names what isn't there
  pub unnamed_first : {scope : Scope} {again : Data} (found : Found) → scope ≡ scope_of left
      → IsFolded (IsUnnamed scope) text records again (Some found)
      → (e : ReadFault) → e ≡ Reference (path_text (at_member records ∷ path_of found))
      → IsRefusedFor frame text e
  unnamed_first found is n e fault d value =
      rw (← the_value d value, refused_by (Some found) is n, fault) refl

  -- none does, so that the refusal is that of what is left
  pub rest_first : {scope : Scope} {again : Data} → scope ≡ scope_of left
      → IsFolded (IsUnnamed scope) text records again None
      → (d : Data) → read text ≡ Some d → value_refusal frame d ≡ value_refusal frame left
  rest_first is n d value = rw (← the_value d value, refused_by None is n) refl

  -- ---- what is kept

  module _ {T : Type 0} (keeps : List Cvr → T → Type 0) (of : IsFrame frame) where
    whole : has_float all ≡ false
    whole = whole_document all h.sound

    -- what settles is accepted
    accepted : (names : RecordNames) (kept : T) → AreKept keeps frame ds names kept
        → Settles frame (object ms) names → value_refusal frame all ≡ None
    accepted names kept k s =
        let r : IsReport (object ms) = (sound (object ms)).0 s.sound in
        let a : Agrees frame (object ms) = (agreement frame (object ms)).0 s.agrees in
        let contests = own_contests frame text ds ms h.whole whole r a of in
        let elections = own_elections frame text ds ms h.whole whole r a of in
        let none = all_resolved (object ms) ds names k.names frame contests elections k.settled
        s.listed in
        rw (refusal_own, absent_none (own ms) ds 0 none) ((value_law frame (object ms)).1 (r, a))

    pub judged_joined : (names : RecordNames) (kept : T) → AreKept keeps frame ds names kept
        → (devices : List ReportingDevice) → Settles frame left names
        → devices ≡ (report_of frame.contests left).devices → (d : Data) → read text ≡ Some d
        → IsJudged keeps frame d (Ok (devices, kept))
    judged_joined names kept k devices s is d value =
        let apart = typed_apart frame.contests ds ms h.some in
        subst (λ x. IsJudged keeps frame x (Ok (devices, kept))) (the_value d value)
        (record {
          accepted = accepted names kept k (subst (λ x. Settles frame x names) h.left_is s);
          devices = is ∙ ap (λ e. (report_of frame.contests e).devices) h.left_is
              ∙ ap (λ r. r.devices) (sym apart);
          kept = subst (λ r. keeps r.cvrs kept) (sym apart) k.records;
          err = tt;
        })

    -- ---- what is accepted settles

    module _ (none : value_refusal frame all ≡ None) where
      all_is : IsReport all × Agrees frame all
      all_is = (value_law frame all).0 none

      left_is : IsReport (object ms) × Agrees frame (object ms)
      left_is = (value_law frame (object ms)).0 (either _ _ (sym refusal_own ∙ none)).1

      named_there : (d : Data) → Contains ds d → in_cvr (own ms) d ≡ []
      named_there d at =
          subst (λ s. in_cvr s d ≡ []) (scope_stays ds ms)
          ((cvr_law (scope_of all) d).1
          (all_is.0.references.cvrs d (rw (records_there ds ms h.some) at)))

      all_own : All (NamesOwn frame) ds
      all_own =
          let contests = sym (own_contests frame text ds ms h.whole whole left_is.0 left_is.1 of) in
          all_settled frame (own ms) ds contests
          (agreed_wider frame (object ms) left_is.1 contests).elections named_there

      settled : (names : RecordNames) → AreNamed ds names → Settles frame (object ms) names
      settled names are = record {
        sound = (sound (object ms)).1 left_is.0;
        agrees = (agreement frame (object ms)).1 left_is.1;
        listed = all_listed (object ms) ds names are named_there;
      }

    pub unsettled : (seen : Seen T) → IsKept keeps frame ds seen → fraction_seen seen ≡ None
        → fault_seen seen ≡ None → (Accepts frame left seen → ⊥) → Refuses frame text
    unsettled (Right names kept) k whole right never d value none =
        never (subst (λ x. Settles frame x names) (sym h.left_is)
        (settled (ap (value_refusal frame) (the_value d value) ∙ none) names k.names))
    unsettled Unsettled k whole right never d value none =
        k (all_own (ap (value_refusal frame) (the_value d value) ∙ none))
    unsettled seen k whole right never d value none = absurd (cc)

-- ---- what is left, and the records

array_of : (o : Option Data) → is_array o ≡ true → (es : Items) × (o ≡ Some (array es))
array_of (Some (array es)) e = (es, refl)
array_of _ e = absurd (cc)

none_at : (o : Option Data) → is_array o ≡ false
    → unwrap_or (option_map list_of (option_and_then as_array o)) [] ≡ []
none_at o e = grind arith

-- where no array stands, there are no records
pub no_records : (d : Data) → is_array (get records d) ≡ false → array_at records d ≡ []
no_records d e = none_at (get records d) e

abbrev Parts : {T : Type 0} → (List Cvr → T → Type 0) → Frame → List ℕ → Data → Seen T → Type 0
Parts keeps frame text left seen = record {
  ds : List Data;
  ms : Members;
  whole : read text ≡ Some (with_records ds ms);
  left_is : left ≡ object ms;
  emptied : with_items_at records no_items ms ≡ ms;
  some : IsSome (get_member records ms);
  seen_is : IsSeen keeps frame ds seen;
}

module _ {T : Type 0} {keeps : List Cvr → T → Type 0} {frame : Frame} {left : Data} {seen : Seen T}
    (text : List ℕ) (h : IsFolded (IsSeen keeps frame) text records left seen) where
  parts_at : is_array (get records left) ≡ true
      → IsBeside records h.0 (items_under records h.0) (left_beside records h.0)
      → Parts keeps frame text left seen
  parts_at there (inl q) = let a = array_of (get records left) there in
      absurd (q.2 a.0 (ap (get records) (sym (h.2 ∙ q.0)) ∙ a.1))
  parts_at there (inr q) = record {
    ds = items_under records h.0;
    ms = q.0;
    whole = h.1 ∙ ap Some q.4;
    left_is = h.2 ∙ q.1;
    emptied = q.3;
    some = rw q.2 refl;
    seen_is = h.3;
  }

  whole_at : is_array (get records left) ≡ false
      → IsBeside records h.0 (items_under records h.0) (left_beside records h.0) → left ≡ h.0
  whole_at none (inl q) = h.2 ∙ q.0
  whole_at none (inr q) = let e = rw (h.2 ∙ q.1, q.2) at none in absurd (cc)

  -- no array stands there, so what is left is all
  pub judged_whole : {answer : Result (List ReportingDevice × T) ReadFault}
      → is_array (get records left) ≡ false → IsJudged keeps frame left answer → (d : Data)
      → read text ≡ Some d → IsJudged keeps frame d answer
  judged_whole {answer} none j d value =
      let same : h.0 ≡ d = cc in
      subst (λ x. IsJudged keeps frame x answer) (whole_at none (beside records h.0 h.4) ∙ same) j

  -- ---- numbers and form

  module _ (there : is_array (get records left) ≡ true) where
    abbrev p : Parts keeps frame text left seen
    p = parts_at there (beside records h.0 h.4)

    -- what is left has no records
    pub emptied_left : array_at records left ≡ []
    emptied_left = subst (λ x. array_at records x ≡ []) (sym p.left_is)
        (subst (λ xs. array_at records (object xs) ≡ []) p.emptied (records_there [] p.ms p.some))

    law : option_map refusal_of (form.first (document_faults (with_records p.ds p.ms)))
        ≡ form_refusal left seen
    law = form_law p.ds p.ms seen p.seen_is p.some p.emptied
        ∙ ap (λ d. form_refusal d seen) (sym p.left_is)

    pub judged_form : (e : ReadFault) → form_refusal left seen ≡ Some e → (d : Data)
        → read text ≡ Some d → IsJudged keeps frame d (Err e)
    judged_form e is d value =
        let whole = p.whole in
        let same : with_records p.ds p.ms ≡ d = cc in
        record {
          accepted = tt;
          devices = tt;
          kept = tt;
          err = λ other. rw (← same, law, is) (refl {a = Some e});
        }

    right_kept : fraction_seen seen ≡ None → fault_seen seen ≡ None → document_faults left ≡ []
        → (h : HasForms text left) × IsKept keeps frame h.records seen
    right_kept whole right rest =
        let own : document_faults (object p.ms) ≡ [] =
        ap document_faults (sym p.left_is) ∙ rest in (
          record {
            records = p.ds;
            members = p.ms;
            whole = p.whole;
            left_is = p.left_is;
            emptied = p.emptied;
            some = p.some;
            sound = records_right p.ds p.ms seen p.seen_is p.some p.emptied whole right own;
            rest = own;
          },
          p.seen_is.kept,
        )

    module _ (of : IsFrame frame) where
      pub judged_accepted : (devices : List ReportingDevice) (names : RecordNames) (kept : T)
          → seen ≡ Right names kept → Accepts frame left seen
          → devices ≡ (report_of frame.contests left).devices → (d : Data) → read text ≡ Some d
          → IsJudged keeps frame d (Ok (devices, kept))
      judged_accepted devices names kept same a is =
          let s : Settles frame left names = subst (Accepts frame left) same a in
          let k = right_kept (ap fraction_seen same) (ap fault_seen same) s.sound.0 in
          judged_joined frame text left k.0 keeps of names kept
          (subst (IsKept keeps frame k.0.records) same k.1) devices s is

      -- what has no fault of numbers or form, and isn't accepted, is refused for a name or an
      -- object
      pub refused_for_names : (Accepts frame left seen → ⊥) → form_refusal left seen ≡ None
          → HasForms text left × Refuses frame text
      refused_for_names never none =
          let sound : document_faults (with_records p.ds p.ms) ≡ [] =
          none_right _ (unmapped refusal_of _ (law ∙ none)) in
          let apart = either _ _ (ap (λ d. form_refusal d seen) (sym p.left_is) ∙ none) in
          let faults : first_of_file (object p.ms) (fault_seen seen) ≡ None =
          unmapped refusal_of _ apart.1 in
          let by_class = either _ _ (either _ _ faults).1 in
          let by_record = either _ _ by_class.1 in
          let right : fault_seen seen ≡ None =
          unmapped (deeper_fault (at_member records)) _ by_record.0 in
          let whole : fraction_seen seen ≡ None =
          no_fraction_seen p.ds p.ms seen p.seen_is p.some sound in
          let k = right_kept whole right
          (ap document_faults p.left_is ∙ none_right _ by_record.1) in
          (k.0, unsettled frame text left k.0 keeps of seen k.1 whole right never)

-- ---- the file

abbrev IsAnswered : {T : Type 0} → (List Cvr → T → Type 0) → Frame → List ℕ
    → Result (List ReportingDevice × T) ReadFault → Type 0
IsAnswered keeps frame bytes answer = record {
  valid : OnOk answer (Valid frame bytes);
  devices : IfOk answer (λ p. p.0 ≡ (report_in frame.contests bytes).devices);
  kept : IfOk answer (λ p. keeps (report_in frame.contests bytes).cvrs p.1);
  first : IfErr answer (λ e. ¬ IsMemory e → first_refusal frame bytes ≡ Some e);
}

pub answered : {T : Type 0} (keeps : List Cvr → T → Type 0) (frame : Frame) (bytes : List ℕ)
    (d : Data) → Holds bytes d → (answer : Result (List ReportingDevice × T) ReadFault)
    → IsJudged keeps frame d answer → IsAnswered keeps frame bytes answer
answered keeps frame bytes d v (Ok p) j =
    let is = sym (value_is bytes d v.1) in
    record {
      valid = (valid_file frame bytes).0 (file_holds (value_refusal frame) bytes d v ∙ j.accepted);
      devices = j.devices ∙ ap (λ e. (report_of frame.contests e).devices) is;
      kept = subst (λ e. keeps (report_of frame.contests e).cvrs p.1) is j.kept;
      first = tt;
    }
answered keeps frame bytes d v (Err e) j = record {
  valid = tt;
  devices = tt;
  kept = tt;
  first = λ other. file_holds (value_refusal frame) bytes d v ∙ j.err other;
}

pub range_at : {E : Type 0} (frame : Frame) (bytes : List ℕ) (answer : Result Report E)
    → IsFrame frame → OnOk answer (Valid frame bytes)
    → IfOk answer (λ r. r ≡ report_in frame.contests bytes)
    → IfOk answer (λ r. ReportInRange frame.contests r)
range_at frame bytes (Ok r) of v is = rw is (in_range contests_agree frame bytes of v)
range_at frame bytes (Err e) of v is = tt
