-- A merge: its fault, or its volume.
use Rattle.std.proofs.Common.{◌≡◌, ◌≢◌, ℕ, ◌≤◌, List, [], Bool, true, false, not, Option, Some}
use Rattle.std.proofs.Common.{None, Result, Ok, Err, refl, sym, ap, ◌∙◌, arith}
use Rattle.std.specs.Prelude.{is_some, if◌then◌else◌, nat_lt}
use Rattle.std.specs.Result.{IsErrAnd}
use Rattle.std.specs.Int.NonZero.{non_zero_u32_get}
use Rattle.std.proofs.lemmas.Bool.Decides.{nat_tests}
use Rattle.cdf_types.specs.Device.{Taken, Appends, taken_with}
use Rattle.cdf_form.specs.Form.{is_moment}
use Rattle.cdf_definition.specs.Frame.{Frame}
use Rattle.cvr_fact_types.specs.Facts.{Facts}
use Rattle.cvr_report.specs.declared.heading.HeadFault.{HeadFault}
use Rattle.cvr_report.specs.declared.heading.HeadFault.TheVariants as head
use Rattle.cvr_report.specs.Head.{Head, IsHead, IsHeadFault, is_device_of}
use Rattle.cvr_report.specs.Page.{volumes, page}
use Rattle.cvr_report.specs.Volume.{volume, volume_data, cover_of, records_data}
use Rattle.cvr_report.proofs.Lemmas.{volume_text, appended_none}
use Rattle.serde_json.specs.Written.{compact_text}
use Rattle.cvr_run.specs.declared.merge.MergeFault.{MergeFault}
use Rattle.cvr_run.specs.declared.merge.MergeFault.TheVariants.{NotMoment, NoDevice, NoVolume}
use Rattle.cvr_run.specs.declared.printing.PrintFault.{PrintFault}
use Rattle.cvr_run.specs.declared.printing.PrintFault.TheVariants.{Memory}
use Rattle.cvr_words.specs.declared.request.Task.{Task}
use Rattle.cvr_run.specs.Merge.{merge_fault, merge_text}
use Rattle.cvr_run.specs.Outcome.{facts_fault, facts_text}
use Rattle.cvr_run.specs.Printing.{Prints, is_output, merge_part, of_head}

-- ---- by the three tests

abbrev by_tests : Bool → Bool → Bool → ℕ → Option MergeFault
by_tests moment device above n = if not moment then Some NotMoment
    else (if not device then Some NoDevice else (if above then Some (NoVolume n) else None))

told_number : (moment device above : Bool) (n k : ℕ)
    → by_tests moment device above n ≡ Some (NoVolume k) → k ≡ n
told_number moment device above n k is = grind arith

module _ (definition : Frame) (date device : List ℕ) (i : ℕ) (facts : Facts) where
  abbrev fault : Option MergeFault
  fault = merge_fault definition date device i facts

  abbrev text : List ℕ
  text = merge_text definition date device i facts

  by : is_moment date ≡ true → is_device_of definition device ≡ true → (above : Bool)
      → nat_lt (volumes facts) i ≡ above → fault ≡ by_tests true true above (volumes facts)
  by moment listed above is = λ k. by_tests (moment k) (listed k) (is k) (volumes facts)

  -- ---- no heading

  head_fault : (e : HeadFault) → IsHeadFault definition date device e → of_head e ≢ Memory
      → fault ≡ merge_part (of_head e)
  head_fault head.NotMoment is other = λ k.
      by_tests (is k) (is_device_of definition device) (nat_lt (volumes facts) i) (volumes facts)
  head_fault head.NoDevice is other =
      λ k. by_tests (is.0 k) (is.1 k) (nat_lt (volumes facts) i) (volumes facts)
  head_fault head.Memory is other = absurd (other refl)

  no_output : (e : HeadFault) → is_output (of_head e) ≡ false
  no_output e = grind arith

  pub no_heading : {T : Type 0} (before : Taken) (r : Result T PrintFault) (e : HeadFault)
      → IsErrAnd r (λ x. x ≡ of_head e) → IsHeadFault definition date device e
      → before.failed ≡ false
      → Prints before before r fault text
  no_heading before (Ok x) e h is works = absurd h
  no_heading before (Err x) e h is works = (
    ([], text, refl, appended_none before.bytes),
    works ∙ (sym (no_output e) ∙ sym (ap is_output h)),
    λ other. head_fault e is (λ want. other (h ∙ want)) ∙ sym (ap merge_part h),
  )

  -- ---- a heading

  module _ (h : Head) (are : IsHead definition date device h) where
    within_is : (n : ℕ) → n ≡ volumes facts → i ≤ n → nat_lt (volumes facts) i ≡ false
    within_is n is within = grind (arith, nat_tests)

    pub volume_printed : (n : ℕ) → n ≡ volumes facts → i ≤ n → (before after : Taken)
        → Appends before after (volume definition h facts i) → after.failed ≡ false
        → Appends before after text × (after.failed ≡ false) × (fault ≡ None)
    volume_printed n is within before after taken works =
        let none : fault ≡ None = by are.moment are.listed false (within_is n is within) in
        let text_is : volume definition h facts i ≡ text =
        (λ k. compact_text (volume_data definition (are.date_is k) (are.device_is k)
        (page facts i)))
        ∙ sym (ap (λ o. if is_some o then []
        else volume definition (record { date = date; device = device }) facts i) none) in
        (taken ∙ ap (taken_with before.bytes) text_is, works, none)

  -- ---- a fault or a volume

  pub whole_volume : fault ≡ None → text
      ≡ volume definition (record { date = date; device = device }) facts i
  whole_volume is = ap (λ o. if is_some o then []
      else volume definition (record { date = date; device = device }) facts i) is

  volume_not_empty : volume definition (record { date = date; device = device }) facts i ≢ []
  volume_not_empty is =
      let spelled = sym (volume_text (cover_of definition date device (page facts i))
      (records_data (page facts i))) ∙ is in
      Prim.cc spelled

  pub not_empty : fault ≡ None → text ≢ []
  not_empty none is = volume_not_empty (sym (whole_volume none) ∙ is)

  pub no_text : (e : MergeFault) → fault ≡ Some e → text ≡ []
  no_text e is = ap (λ o. if is_some o then []
      else volume definition (record { date = date; device = device }) facts i) is

  pub number : (n : ℕ) → fault ≡ Some (NoVolume n) → n ≡ volumes facts
  number n is = told_number (is_moment date) (is_device_of definition device)
      (nat_lt (volumes facts) i) (volumes facts) n is

-- a task that has a fault prints nothing
pub no_facts_text : (definition : Frame) (task : Task) (facts : Facts) (e : MergeFault)
    → facts_fault definition task facts ≡ Some e → facts_text definition task facts ≡ []
no_facts_text definition task facts e is = grind (arith, no_text, non_zero_u32_get)
