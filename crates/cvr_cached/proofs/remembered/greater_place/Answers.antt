use Rattle.std.proofs.Common.{refl, sym, ap, ◌∙◌, option_map, None, Some}
use Rattle.std.specs.Ordering.{is_gt}
use Rattle.cvr_cached.proofs.Places.{greater_here}
use Rattle.cvr_cached.proofs.remembered.greater_place.Goals as goal

pub returns-in_default-snapshot_at : goal.returns-in_default-snapshot_at
returns-in_default-snapshot_at c =
    greater_here c.args.facts.now c.args.place c.index-facts-place.result c.requires.within
    c.index-facts-place.is c.in-Snapshot.snapshot (sym c.fact.ensures ∙ c.in-Snapshot.is)
    (Some c.in-Some.other.now) (c.in-Some.ensures ∙ c.requires.behind)
    (sym (c.is_gt.ensures ∙ ap is_gt c.choice_cmp.ensures) ∙ c.if-not-is_gt.false)

pub returns-in_default-snapshot_at-2 : goal.returns-in_default-snapshot_at-2
returns-in_default-snapshot_at-2 c =
    greater_here c.args.facts.now c.args.place c.index-facts-place.result c.requires.within
    c.index-facts-place.is c.in-Snapshot.snapshot (sym c.fact.ensures ∙ c.in-Snapshot.is)
    None (sym (ap (option_map (λ s. s.now)) c.in_default-snapshot_at.is)
    ∙ (c.snapshot_at.ensures ∙ c.requires.behind)) refl
