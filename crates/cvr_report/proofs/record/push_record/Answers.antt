-- The `text` of the header is cut where CVRSnapshot and CurrentSnapshotId belong, and with these
-- between its three parts it is the compact text of the whole record.
use Rattle.std.proofs.Common.{◌≡◌, ◌++◌, [], ◌∷◌, codes, false, true, sym, ap, ◌∙◌}
use Rattle.json.specs.Print.{quoted}
use Rattle.serde_json.specs.Written.{members_text}
use Rattle.cvr_report.specs.Record.{snapshots_name, current_name, front, back, inner, comma_list}
use Rattle.cvr_report.specs.Found.{shown_bodies}
use Rattle.cvr_report.proofs.Texts.{pieces, record_text, regroup_all, snapshots_lead}
use Rattle.cvr_report.proofs.record.push_record.Goals as goal

pub returns : goal.returns
returns c ms ds well hh text shown =
    let whole = c.as_bytes-text.result.now in
    let p =
    pieces whole c.split_at.result.1.now c.cut.result c.cut-2.result ms well hh
    (c.as_bytes-text.ensures.value ∙ (c.as_str.ensures ∙ text)) c.split_at.ensures.back
    c.cut.ensures.within c.cut.ensures.cut c.cut-2.ensures.within
    c.cut-2.ensures.cut in
    let a : c.split_at.result.0.now ≡ 123 ∷ inner false (front snapshots_name ms) =
    c.split_at.ensures.front ∙ p.0 in
    let e : c.split_at-2.result.0.now ≡ inner true (front current_name (back snapshots_name ms)) =
    c.split_at-2.ensures.front ∙ p.1 in
    let h : c.split_at-2.result.1.now ≡ members_text true
    (back current_name (back snapshots_name ms)) = c.split_at-2.ensures.back ∙ p.2 in
    let id = c.args.current.now in
    let o = c.args.out.now.items in
    let lead = codes ",\"CurrentSnapshotId\":" in
    let all : c.extend_from_slice-6.new.self.items
    ≡ (((((((o ++ c.split_at.result.0.now) ++ snapshots_lead)
    ++ comma_list false (shown_bodies c.args.i c.args.ids.now)) ++ 93 ∷ [])
    ++ c.split_at-2.result.0.now) ++ lead) ++ quoted id) ++ c.split_at-2.result.1.now =
    c.in_ok-extend_from_slice-6.ensures.items
    ∙ ap (λ s. s ++ c.split_at-2.result.1.now) (c.in_ok-push_id.ensures
    ∙ ap (λ s. s ++ quoted id) (c.in_ok-extend_from_slice-5.ensures.items
    ∙ ap (λ s. s ++ lead) (c.in_ok-extend_from_slice-4.ensures.items
    ∙ ap (λ s. s ++ c.split_at-2.result.0.now) (c.in_ok-extend_from_slice-3.ensures.items
    ∙ ap (λ s. s ++ 93 ∷ []) (c.in_ok-push_snapshots.ensures
    ∙ ap (λ s. s ++ comma_list false (shown_bodies c.args.i c.args.ids.now))
    (c.in_ok-extend_from_slice-2.ensures.items
    ∙ ap (λ s. s ++ snapshots_lead) c.in_ok-extend_from_slice.ensures.items)))))) in
    all ∙ regroup_all o _ _ _ _ _ _ _ _
    ∙ (λ i. o ++ (a i ++ (snapshots_lead
    ++ (comma_list false (shown i) ++ (93 ∷ (e i ++ (lead ++ (quoted id ++ h i))))))))
    ∙ ap (λ s. o ++ s) (sym (record_text ms ds id well hh))
