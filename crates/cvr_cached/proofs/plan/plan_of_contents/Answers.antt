-- The `plan` has what all records before the next `name` of the other office change here, each
-- `content` of which adds a step; once there is no next, it has what all of them change.
use Rattle.std.proofs.Common.{◌≡◌, ◌∙◌, List, refl, ap, subst}
use Rattle.std.proofs.lemmas.Map.Iter.{rest_more, rest_all}
use Rattle.std.specs.BTreeMap.{get}
use Rattle.std.specs.Map.Iter.{deref_pair}
use Rattle.cvr_fact_types.specs.declared.name.RecordName.{RecordName}
use Rattle.cvr_fact_types.specs.Facts.{name_cmp}
use Rattle.cvr_office.specs.declared.any_fact.AnyFact.{AnyFact}
use Rattle.cvr_cached.specs.Contents.{facts_at}
use Rattle.cvr_cached.specs.Plans.{IsMade}
use Rattle.cvr_cached.proofs.Passing.{all_planned}
use Rattle.cvr_cached.proofs.Theirs.{first_name, AreLeft, all_left, theirs_begin, theirs_go_on}
use Rattle.cvr_cached.proofs.Theirs.{rest_left}
use Rattle.cvr_cached.proofs.plan.plan_of_contents.Goals as goal

pub loop-name-init : goal.loop-name-init
loop-name-init c =
    let all = c.args.theirs.now.entries in
    let is : c.into_iter-name-iterator.result ≡ all =
    c.into_iter-name-iterator.ensures.into_iter_gives ∙ c.iter-name-items.ensures.rest in
    let ordered = c.iter-name-items.ensures.ordered in
    record {
      planned = rw is (theirs_begin (get name_cmp c.args.records.now) c.requires all ordered _
          c.new.ensures.items c.new-2.ensures.items refl);
      left = rw is (all_left all ordered);
    }

pub loop-name-preserved : goal.loop-name-preserved
loop-name-preserved c =
    let all = c.args.theirs.now.entries in
    let f = get name_cmp c.args.records.now in
    let e : RecordName × List AnyFact = (c.in-Some.name.now, c.in-Some.content.now) in
    let rest = c.next.new.self in
    let is = rest_more deref_pair c.loop-name.name-iterator c.next.new.self c.next.result _
    c.in-Some.is c.next.ensures.steps in
    let are = subst (AreLeft all) is c.loop-name.invariant.left in
    let was = subst (λ left. IsMade f (λ k. facts_at (get name_cmp c.args.theirs.now k))
    (first_name left) c.loop-name.plan) is c.loop-name.invariant.planned in
    record {
      planned = theirs_go_on f c.requires all e rest are c.loop-name.plan was c.add_join.new.plan
          c.in_ok-add_join.ensures;
      left = rest_left f c.requires all e rest are;
    }

pub returns : goal.returns
returns c =
    let none = rest_all deref_pair c.loop-name.name-iterator c.next.new.self c.next.result
    c.in-None.is c.next.ensures.steps in
    all_planned (get name_cmp c.args.records.now) (λ k. facts_at (get name_cmp c.args.theirs.now k))
    (first_name c.loop-name.name-iterator) c.loop-name.plan
    (ap first_name none) c.loop-name.invariant.planned
