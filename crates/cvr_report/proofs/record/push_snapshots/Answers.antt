use Rattle.std.proofs.Common.{◌≡◌, ◌++◌, ◌+◌, ◌∷◌, drop, true, sym, ap, ◌∙◌}
use Rattle.std.proofs.lemmas.List.{at_drop_more}
use Rattle.serde_json.specs.Written.{comma_if}
use Rattle.cvr_report.specs.Record.{comma_list}
use Rattle.cvr_report.specs.Page.{shown_body}
use Rattle.cvr_report.specs.Found.{shown_bodies, bodies}
use Rattle.cvr_report.proofs.Picking.{pick_body}
use Rattle.cvr_report.proofs.Texts.{one_joined}
use Rattle.cvr_report.proofs.record.push_snapshots.Goals as goal

pub loop-under-preserved : goal.loop-under-preserved
loop-under-preserved c =
    let g = c.under-item.result in
    let i = c.args.i in
    let o = c.loop-under.out.items in
    let later = c.loop-under.later in
    let rest =
    comma_list true (shown_bodies i (drop (c.loop-under.under-index + 1) c.args.ids.now)) in
    let more = at_drop_more (λ ids. comma_list later (shown_bodies i ids)) c.args.ids.now
    c.loop-under.under-index g c.loop-under-test.true in
    let here = ap (λ g. comma_list later
    (shown_bodies i (g ∷ drop (c.loop-under.under-index + 1) c.args.ids.now)))
    (sym c.under-item.is) in
    let body : c.shown_snapshot.result.now.body ≡ shown_body i (bodies g) =
    ap (λ f. f.body) c.shown_snapshot.ensures
    ∙ pick_body i g c.requires.number
    (c.requires.some g (c.loop-under.under-index, c.loop-under-test.true, sym c.under-item.is))
    in
    ap (λ s. s ++ rest) c.in_ok-push_later.ensures
    ∙ (one_joined later o c.shown_snapshot.result.now.body rest
    ∙ (ap (λ b. o ++ (comma_if later ++ (b ++ rest))) body
    ∙ (ap (λ s. o ++ s) (sym (more ∙ here)) ∙ c.loop-under.invariant)))
