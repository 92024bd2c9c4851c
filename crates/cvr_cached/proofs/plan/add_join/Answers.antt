-- Where the `old` content, or `none` of a new record, lacks one of their facts, copies of theirs
-- (`more`) rise and have it, so what is added is one step of the plan.
use Rattle.std.proofs.Common.{◌≡◌, ◌∙◌, false, sym, subst}
use Rattle.std.specs.Prelude.{OnOk}
use Rattle.std.specs.BTreeMap.{get}
use Rattle.std.specs.FinSet.{contains}
use Rattle.std.specs.List.{Contains}
use Rattle.std.specs.List.Sorted.{IsStrictlySortedBy}
use Rattle.cvr_fact_types.specs.declared.name.RecordName.{RecordName}
use Rattle.cvr_fact_types.specs.Facts.{name_cmp}
use Rattle.cvr_office.specs.declared.any_fact.AnyFact.{AnyFact}
use Rattle.cvr_office.specs.Place.{fact_of, any_cmp}
use Rattle.cvr_office.specs.Plain.{set_of}
use Rattle.cvr_cached.specs.Contents.{facts_at}
use Rattle.cvr_cached.specs.Plans.{IsAdded, IsStep}
use Rattle.cvr_cached.proofs.Growing.{step_added}
use Rattle.cvr_cached.proofs.Olds.{old_is}
use Rattle.cvr_cached.proofs.plan.add_join.Goals as goal

pub push_change-requires-clause-some : goal.push_change-requires-clause-some
push_change-requires-clause-some c =
    let among = subst (λ o. (x : AnyFact) × Contains c.facts-2.result.now x
    × (contains (set_of o) (fact_of x) ≡ false)) c.facts.ensures.is
    (c.has_all.ensures.some c.if-has_all.false) in
    subst (λ xs. (x : AnyFact) × Contains xs x
    × (contains (set_of c.unwrap_or-old.result.now) (fact_of x) ≡ false))
    (c.facts-2.ensures.is ∙ sym (c.in_ok-more.ensures ∙ c.facts-3.ensures.is)) among

pub push_change-requires-clause-rises : goal.push_change-requires-clause-rises
push_change-requires-clause-rises c = subst (IsStrictlySortedBy any_cmp)
    (sym (c.in_ok-more.ensures ∙ c.facts-3.ensures.is)) c.facts-3.ensures.rises

pub returns : goal.returns
returns c =
    let old = c.unwrap_or-old.result.now in
    let is : old ≡ facts_at (get name_cmp c.args.records.now c.args.name.now) = old_is c.get.result
    _ c.unwrap_or-old.result _ c.unwrap_or-old.ensures c.empty-none.ensures c.get.ensures.value
    in
    let was = c.args.plan.now in
    let now = c.push_change.new.plan in
    let added = subst (λ (n : RecordName).
    OnOk c.push_change.result (IsAdded old c.in_ok-more.more.items n was now)) c.in_ok-copy.ensures
    c.push_change.ensures in
    let theirs = subst (λ xs. OnOk c.push_change.result (IsAdded old xs c.args.name.now was now))
    (c.in_ok-more.ensures ∙ c.facts-3.ensures.is) added in
    subst (λ o. OnOk c.push_change.result (IsStep o c.args.theirs.now c.args.name.now was now)) is
    (step_added c.push_change.result old c.args.theirs.now c.args.name.now was now theirs)
