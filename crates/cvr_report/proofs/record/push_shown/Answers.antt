-- The `header` is one that the office keeps, so its text can be cut; it, the snapshots of `ids` and
-- the id of the current one are what volume `i` is defined to show of the record.
use Rattle.std.proofs.Common.{Bor, ◌≡◌, ◌++◌, List, map, Result, Ok, Err, OnOk, Contains, sym, ap}
use Rattle.std.proofs.Common.{◌∙◌, subst}
use Rattle.serde_json.specs.Written.{compact_text}
use Rattle.cvr_fact_types.specs.declared.header.HeaderFact.{HeaderFact}
use Rattle.cvr_office.specs.Readers.{header_list}
use Rattle.cvr_report.specs.Record.{cvr_object}
use Rattle.cvr_report.specs.Found.{shown_bodies}
use Rattle.cvr_report.specs.Page.{Shown, shown_body, shown_snapshots, current_id}
use Rattle.cvr_report.specs.Volume.{values_of, members_in}
use Rattle.cvr_report.proofs.Kept.{header_kept}
use Rattle.cvr_report.proofs.Shows.{current_of, current_is, texts_are, header_listed}
use Rattle.cvr_report.proofs.record.push_shown.Goals as goal

on_ok : {T E : Type 0} {A B : Type 0} (r : Result T E) → OnOk r A → (A → B) → OnOk r B
on_ok (Ok x) a f = f a
on_ok (Err e) a f = a

pub returns : goal.returns
returns c =
    on_ok c.push_record.result c.push_record.ensures (λ wrote frame s key can_hold are.
    let i = c.args.i in
    let r = c.args.found.now in
    let h = c.shown_header-header.result.now in
    let hs : c.as_slice.result.now ≡ r.headers.items = c.as_slice.ensures.value in
    let ids : c.as_slice-ids.result.now ≡ r.ids.items = c.as_slice-ids.ensures.value in
    let listed : Contains (map (λ (h : Bor HeaderFact). h.now) r.headers.items) h = subst
    (λ (xs : List (Bor HeaderFact)). Contains (map (λ h. h.now) xs) h) hs
    c.shown_header-header.ensures.listed in
    let kept =
    header_kept frame s can_hold key h.body (header_listed frame.contests s key r are h listed) in
    let body : h.body ≡ shown_body i (header_list s key) = c.shown_header-header.ensures.body
    ∙ (ap (λ (xs : List (Bor HeaderFact)). shown_body i (map (λ h. h.now.body) xs)) hs
    ∙ ap (shown_body i) are.bodies) in
    let ds = values_of (map (λ (s : Shown). s.body) (shown_snapshots s i key)) in
    let id = current_id (shown_snapshots s i key) in
    let current : c.shown_current.result.now ≡ id = c.shown_current.ensures
    ∙ (ap (current_of i) ids ∙ current_is frame.contests s key r are i c.requires.number
    c.requires.some.shot) in
    let members = sym (ap members_in (sym body) ∙ kept.1.members) in
    let all = wrote kept.0 ds kept.1.well kept.1.header kept.1.text
    (ap (shown_bodies i) ids ∙ texts_are frame s can_hold key r are i c.requires.number) in
    all ∙ (λ j. c.args.out.now.items ++ compact_text (cvr_object (members j) ds (current j))))
