-- Ahead of each `fact` of those `coming`, the `count` facts of `rest` that precede it are moved:
-- list, `rest` and `coming` always make up the same merged list, for which there is room.
use Rattle.std.proofs.Common.{◌∙◌, ◌++◌, ◌≤◌, length, take, ap, sym, rules, arith}
use Rattle.std.proofs.lemmas.List.{take_all, length-drop, length-take-le, length-append}
use Rattle.std.proofs.lemmas.List.{nil_from_length}
use Rattle.std.proofs.lemmas.List.Sorted.{IsPartitionPoint-from_clause}
use Rattle.cvr_cached.specs.Merged.{is_before, merged}
use Rattle.cvr_cached.proofs.MergedFacts.{lead, merged_on, drop_rises}
use Rattle.cvr_cached.proofs.growth.merge.Goals as goal

pub move_front-requires-clause-within : goal.move_front-requires-clause-within
move_front-requires-clause-within c =
    omega (arith, c.partition_point-count.ensures.bound, c.loop-fact.rest.ok.0)

pub move_front-requires-clause-room : goal.move_front-requires-clause-room
move_front-requires-clause-room c = omega (
  arith,
  c.partition_point-count.ensures.bound,
  c.loop-fact.rest.ok.0,
  c.loop-fact.invariant.room,
)

pub push_reserved-requires : goal.push_reserved-requires
push_reserved-requires c = omega (
  arith,
  c.partition_point-count.ensures.bound,
  c.loop-fact.rest.ok.0,
  c.loop-fact.invariant.room,
  c.move_front.ensures.room,
  ap length c.move_front.ensures.moved,
  length-append c.loop-fact.list.items (take c.partition_point-count.result c.loop-fact.rest.items),
  length-take-le c.partition_point-count.result c.loop-fact.rest.items (omega (
    arith,
    c.partition_point-count.ensures.bound,
    c.loop-fact.rest.ok.0,
  )),
  ap length c.in-Some.ensures.items,
  c.loop-fact.list.ok.0,
  c.move_front.new.list.ok.0,
)

pub loop-fact-smaller : goal.loop-fact-smaller
loop-fact-smaller c = omega (arith, ap length c.in-Some.ensures.items)

pub loop-fact-preserved : goal.loop-fact-preserved
loop-fact-preserved c =
    let x = c.in-Some.fact in
    let list = c.loop-fact.list.items in
    let rest = c.loop-fact.rest.items in
    let left = c.pop_front.new.self.items in
    let n = c.partition_point-count.result in
    let within : n ≤ length rest =
    omega (arith, c.partition_point-count.ensures.bound, c.loop-fact.rest.ok.0) in
    let point = IsPartitionPoint-from_clause (is_before x) _ _
    c.partition_point-count.ensures.partitioned (lead x rest c.loop-fact.invariant.rises)
    (λ a r q k. search rules) in
    record {
      rises = rw c.move_front.ensures.rest
          (drop_rises rest x n within point c.loop-fact.invariant.rises);
      all = rw (
        c.push_reserved.ensures.items,
        c.move_front.ensures.moved,
        c.move_front.ensures.rest,
      )
          (merged_on list rest left x n within point
          ∙ (ap (λ ys. list ++ merged rest ys) (sym c.in-Some.ensures.items)
          ∙ c.loop-fact.invariant.all));
      room = omega (
        arith,
        c.push_reserved.ensures.len,
        c.push_reserved.ensures.capacity,
        c.move_front.ensures.room,
        ap length c.move_front.ensures.moved,
        length-append list (take n rest),
        length-take-le n rest within,
        ap length c.move_front.ensures.rest,
        length-drop n rest,
        ap length c.in-Some.ensures.items,
        c.loop-fact.invariant.room,
        c.loop-fact.list.ok.0,
        c.move_front.new.list.ok.0,
      );
    }

pub returns : goal.returns
returns c =
    let list = c.loop-fact.list.items in
    let rest = c.loop-fact.rest.items in
    let none = nil_from_length c.loop-fact.coming.items
    (omega (arith, c.in_default.ensures.cases.0, c.loop-fact.coming.ok.0)) in
    rw c.move_front-2.ensures.moved
    (ap (λ ys. list ++ ys) (take_all c.len-count.result rest
    (omega (arith, c.len-count.ensures, c.loop-fact.rest.ok.0)))
    ∙ (ap (λ ys. list ++ merged rest ys) (sym none) ∙ c.loop-fact.invariant.all))
