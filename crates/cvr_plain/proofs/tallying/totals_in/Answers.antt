-- From record to record (`name`, `next`), `totals` has the rows of those passed. A list has too few
-- records for a row to run out of room; where none is next, the rows are the tally's.
use Rattle.std.proofs.Common.{◌∙◌, sym, ap, subst, arith, option_map}
use Rattle.std.specs.FinMap.{get}
use Rattle.cvr_office.specs.Plain.{set_of, IsSpelled}
use Rattle.cvr_office.specs.Adding.{CurrentsAreSums, added_sums, row_with}
use Rattle.cvr_lists.proofs.Laws.{currents_are_sums}
use Rattle.cvr_plain.proofs.RecordWalk.{records-le, walk_begins, walk_shorter, walk_goes_on}
use Rattle.cvr_plain.proofs.RecordWalk.{walk_has_room, walk_ends, walk_below}
use Rattle.cvr_plain.proofs.tallying.totals_in.Goals as goal

pub loop-next-init : goal.loop-next-init
loop-next-init c = record {
  same = ap (λ t. t.contests) c.in_ok-totals.ensures;
  walked = walk_begins c.args.definition.now.contests (set_of c.args.facts.now)
      c.in_ok-totals.totals.rows (option_map (λ k. k.now) c.next_record_in-next.result)
      (ap (λ t. t.rows) c.in_ok-totals.ensures) c.next_record_in-next.ensures;
}

pub add_record-requires-clause-spelled : goal.add_record-requires-clause-spelled
add_record-requires-clause-spelled c = λ fact at.
    subst (λ cs. IsSpelled cs fact) (sym c.loop-next.invariant.same) (c.requires.spelled fact at)

pub add_record-requires-clause-sums : goal.add_record-requires-clause-sums
add_record-requires-clause-sums c = subst (λ cs. CurrentsAreSums cs (set_of c.args.facts.now))
    (sym c.loop-next.invariant.same) (currents_are_sums c.args.definition.now
    (set_of c.args.facts.now) c.requires.can_hold)

pub add_record-requires-clause-room : goal.add_record-requires-clause-room
add_record-requires-clause-room c =
    let s = set_of c.args.facts.now in
    walk_has_room c.args.definition.now.contests s c.loop-next.totals.rows
    (option_map (λ k. k.now) c.loop-next.next) c.loop-next.invariant.walked c.in-Some.name.now
    (ap (option_map (λ k. k.now)) c.in-Some.is)
    (currents_are_sums c.args.definition.now s c.requires.can_hold)
    (let few = records-le c.args.facts.now in let long = c.well_formed.1.1.0 in
    omega (arith, few, long))

pub loop-next-smaller : goal.loop-next-smaller
loop-next-smaller c =
    walk_shorter c.args.definition.now.contests (set_of c.args.facts.now) c.loop-next.totals.rows
    (option_map (λ k. k.now) c.loop-next.next) c.loop-next.invariant.walked c.in-Some.name.now
    (ap (option_map (λ k. k.now)) c.in-Some.is)
    (option_map (λ k. k.now) c.next_record_in-next-in-Some.result)
    c.next_record_in-next-in-Some.ensures

pub loop-next-preserved : goal.loop-next-preserved
loop-next-preserved c =
    let s = set_of c.args.facts.now in
    let sums = currents_are_sums c.args.definition.now s c.requires.can_hold in
    record {
      same = c.in_ok-add_record.ensures.contests ∙ c.loop-next.invariant.same;
      walked =
          walk_goes_on c.args.definition.now.contests s c.loop-next.totals.rows
          (option_map (λ k. k.now) c.loop-next.next) c.loop-next.invariant.walked
          c.in-Some.name.now
          (ap (option_map (λ k. k.now)) c.in-Some.is)
          (option_map (λ k. k.now) c.next_record_in-next-in-Some.result)
          c.next_record_in-next-in-Some.ensures sums c.add_record.new.totals.rows
          (λ q. c.in_ok-add_record.ensures.rows q
          ∙ ap (λ cs. row_with cs q (get c.loop-next.totals.rows q)
          (added_sums cs s q c.in-Some.name.now)) c.loop-next.invariant.same);
    }

pub returns-clause-rows : goal.returns-clause-rows
returns-clause-rows c =
    walk_ends c.args.definition.now.contests (set_of c.args.facts.now) c.loop-next.totals.rows
    (option_map (λ k. k.now) c.loop-next.next) c.loop-next.invariant.walked
    (ap (option_map (λ k. k.now)) c.in_default.is)

pub returns-clause-contests : goal.returns-clause-contests
returns-clause-contests c = c.loop-next.invariant.same

pub returns-clause-below : goal.returns-clause-below
returns-clause-below c =
    let s = set_of c.args.facts.now in
    walk_below c.args.definition.now.contests s c.loop-next.totals.rows
    (option_map (λ k. k.now) c.loop-next.next) c.loop-next.invariant.walked
    (ap (option_map (λ k. k.now)) c.in_default.is)
    (currents_are_sums c.args.definition.now s c.requires.can_hold)
    (let few = records-le c.args.facts.now in let long = c.well_formed.1.1.0 in
    omega (arith, few, long))
