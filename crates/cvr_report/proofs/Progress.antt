-- A text that is written piece by piece, in a walk up a list.
use Rattle.std.proofs.Common.{◌≡◌, ℕ, ◌<◌, ◌||◌, Bool, true, false, List, [], ◌∷◌, ◌++◌, length}
use Rattle.std.proofs.Common.{Contains, Option, Some, None, IfSome, is_some, Result, Ok, refl, sym}
use Rattle.std.proofs.Common.{ap, ◌∙◌, subst, arith, append_assoc, append-nil}
use Rattle.std.specs.Result.{IsErrAnd}
use Rattle.std.specs.Cmp.Lexicographic.{nat_list_cmp_total}
use Rattle.serde_json.specs.Written.{comma_if}
use Rattle.cdf_types.specs.Device.{Taken, Appends, taken_with, AppendsPrefix}
use Rattle.cdf_types.proofs.Lemmas.{appended_twice}
use Rattle.cvr_fact_types.specs.declared.name.RecordName.{RecordName}
use Rattle.cvr_fact_types.specs.Facts.{Facts, name_cmp, text_cmp}
use Rattle.cvr_facts.proofs.Lemmas.{ordered_rises}
use Rattle.cvr_office.specs.Names.{records, devices}
use Rattle.cvr_office.specs.Readers.{next, device_list}
use Rattle.cvr_office.proofs.Laws.{name_total}
use Rattle.cvr_office.proofs.Lemmas.{from, next_listed, from-next_none, from-some}
use Rattle.cvr_report.specs.Record.{comma_list}
use Rattle.cvr_report.specs.Page.{shown_body}
use Rattle.cvr_report.specs.Pieces.{record_text, record_texts, device_texts}
use Rattle.cvr_report.specs.Writes.{Writes, is_write_device, list_text, record_piece, list_end}
use Rattle.cvr_report.specs.declared.fault.WriteFault.{WriteFault}
use Rattle.cvr_report.proofs.Pieces.{cut_short, goes_on, appended_none}

-- what was written of the whole, and what is left
pub record Progress (before after : Taken) (whole rest : List ℕ) : Type 0 where
  pub working : after.failed ≡ false
  pub done : List ℕ
  pub taken : Appends before after done
  pub whole_is : whole ≡ done ++ rest

pub starts : (before : Taken) (whole rest : List ℕ) → before.failed ≡ false → whole ≡ rest
    → Progress before before whole rest
starts before whole rest works is =
    record { working = works; done = []; taken = appended_none before.bytes; whole_is = is }

module _ (before mid after : Taken) (whole rest : List ℕ) (p : Progress before mid whole rest) where
  pub writes_on : (piece more : List ℕ) → rest ≡ piece ++ more → Appends mid after piece
      → after.failed ≡ false → Progress before after whole more
  writes_on piece more is took works = record {
    working = works;
    done = p.done ++ piece;
    taken = took ∙ (ap (λ o. taken_with o piece) p.taken
        ∙ appended_twice before.bytes p.done piece);
    whole_is = p.whole_is ∙ (ap (λ r. p.done ++ r) is ∙ sym (append_assoc p.done piece more));
  }

  pub ends : {T : Type 0} (r : Result T WriteFault) → Writes mid after r rest
      → Writes before after r whole
  ends r w = subst (Writes before after r) (sym p.whole_is)
      (goes_on before mid after r p.done rest p.taken w)

  pub stops : {T : Type 0} (r : Result T WriteFault) (e : WriteFault) (piece more : List ℕ)
      → rest ≡ piece ++ more → IsErrAnd r (λ x. x ≡ e)
      → AppendsPrefix mid after piece × (after.failed ≡ is_write_device e)
      → Writes before after r whole
  stops r e piece more is err w =
      ends r (subst (Writes mid after r) (sym is) (cut_short mid after r e piece more err w))

pub all_written : {T : Type 0} (before after : Taken) (whole rest : List ℕ) (x : T)
    → Progress before after whole rest → rest ≡ [] → Writes before after (Ok x) whole
all_written before after whole rest x p is = (
  p.taken ∙ ap (taken_with before.bytes)
      (sym (p.whole_is ∙ (ap (λ r. p.done ++ r) is ∙ append-nil p.done))),
  p.working,
)

-- ---- records

abbrev pub records_left : Facts → Option RecordName → List RecordName
records_left s key = from name_cmp key (records s)

-- the text of the records from a given one on
abbrev pub records_rest : Facts → ℕ → Bool → Option RecordName → List ℕ
records_rest s i later key = list_text later (record_texts s i (records_left s key))

module _ (s : Facts) (i : ℕ) where
  more_texts : (key : RecordName) (keys : List RecordName) (o : Option (List ℕ))
      → record_text s i key ≡ o → (later : Bool)
      → list_text later (record_texts s i (key ∷ keys))
      ≡ record_piece later o ++ list_text (later || is_some o) (record_texts s i keys)
  more_texts key keys None e true = rw e refl
  more_texts key keys None e false = rw e refl
  more_texts key keys (Some t) e true =
      rw e (ap (λ s. 44 ∷ s) (append_assoc t (comma_list true (record_texts s i keys)) (93 ∷ [])))
  more_texts key keys (Some t) e false = rw e refl

  pub record_there : (after found : Option RecordName) → found ≡ next name_cmp (records s) after
      → IfSome found (Contains (records s))
  record_there after found is =
      subst (λ o. IfSome o (Contains (records s))) (sym is) (next_listed name_cmp (records s) after)

  pub records_begin : (first : Option RecordName) → first ≡ next name_cmp (records s) None
      → list_text false (record_texts s i (records s)) ≡ records_rest s i false first
  records_begin first is = ap (λ ks. list_text false (record_texts s i ks))
      (sym (ap (records_left s) is ∙ from-next_none name_cmp name_total (records s)))

  module _ (here above : Option RecordName) (key : RecordName)
      (listed : IfSome here (Contains (records s))) (at : here ≡ Some key)
      (is : above ≡ next name_cmp (records s) (Some key)) where
    step_is : records_left s here ≡ key ∷ records_left s above
    step_is =
        ap (records_left s) at
        ∙ (from-some name_cmp name_total (records s) key (ordered_rises name_cmp _)
        (subst (λ o. IfSome o (Contains (records s))) at listed)
        ∙ ap (λ o. key ∷ records_left s o) (sym is))

    pub records_fewer : length (records_left s above) < length (records_left s here)
    records_fewer = let one = ap length step_is in omega (arith, one)

    pub record_next : (later : Bool) → records_rest s i later here
        ≡ record_piece later (record_text s i key)
        ++ records_rest s i (later || is_some (record_text s i key)) above
    record_next later = ap (λ ks. list_text later (record_texts s i ks)) step_is
        ∙ more_texts key (records_left s above) (record_text s i key) refl later

  pub records_end : (here : Option RecordName) → here ≡ None → (later : Bool)
      → records_rest s i later here ≡ list_end later
  records_end here is true = ap (records_rest s i true) is
  records_end here is false = ap (records_rest s i false) is

-- ---- devices

abbrev pub devices_left : Facts → Option (List ℕ) → List (List ℕ)
devices_left s id = from text_cmp id (devices s)

abbrev pub devices_rest : Facts → ℕ → Bool → Option (List ℕ) → List ℕ
devices_rest s i later id = comma_list later (device_texts s i (devices_left s id))

module _ (s : Facts) (i : ℕ) where
  pub device_there : (after found : Option (List ℕ)) → found ≡ next text_cmp (devices s) after
      → IfSome found (Contains (devices s))
  device_there after found is =
      subst (λ o. IfSome o (Contains (devices s))) (sym is) (next_listed text_cmp (devices s) after)

  pub devices_begin : (first : Option (List ℕ)) → first ≡ next text_cmp (devices s) None
      → comma_list false (device_texts s i (devices s)) ≡ devices_rest s i false first
  devices_begin first is = ap (λ ids. comma_list false (device_texts s i ids))
      (sym (ap (devices_left s) is ∙ from-next_none text_cmp nat_list_cmp_total (devices s)))

  module _ (here above : Option (List ℕ)) (id : List ℕ)
      (listed : IfSome here (Contains (devices s))) (at : here ≡ Some id)
      (is : above ≡ next text_cmp (devices s) (Some id)) where
    device_step : devices_left s here ≡ id ∷ devices_left s above
    device_step =
        ap (devices_left s) at
        ∙ (from-some text_cmp nat_list_cmp_total (devices s) id (ordered_rises text_cmp _)
        (subst (λ o. IfSome o (Contains (devices s))) at listed)
        ∙ ap (λ o. id ∷ devices_left s o) (sym is))

    pub devices_fewer : length (devices_left s above) < length (devices_left s here)
    devices_fewer = let one = ap length device_step in omega (arith, one)

    pub device_next : (later : Bool) → devices_rest s i later here
        ≡ (comma_if later ++ shown_body i (device_list s id)) ++ devices_rest s i true above
    device_next later = ap (λ ids. comma_list later (device_texts s i ids)) device_step
        ∙ sym (append_assoc (comma_if later) (shown_body i (device_list s id)) _)

  pub devices_end : (here : Option (List ℕ)) → here ≡ None → (later : Bool)
      → devices_rest s i later here ≡ []
  devices_end here is later = ap (devices_rest s i later) is
