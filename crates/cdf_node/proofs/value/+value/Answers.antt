-- What was read of an array (`items`) grows by an `item`, of an object (`found`) by a `member`
-- under its `name`; where one of these can't be read, the whole is no value either.
use Rattle.std.proofs.Common.{arith, map}
use Rattle.cdf_node.specs.Order.{in_order}
use Rattle.cdf_node.specs.View.{view}
use Rattle.std.proofs.lemmas.List.{map-append}
use Rattle.std.proofs.lemmas.List.Sums.{fold-append}
use Rattle.cdf_node.proofs.Loops.{array_next, array_none, object_next, object_over, object_none}
use Rattle.cdf_node.proofs.Loops.{object_no_key}
use Rattle.cdf_node.proofs.Whole.{items_noted, members_noted}
use Rattle.cdf_node.proofs.value.+value.Goals as goal

pub read_array-items-preserved : goal.read_array-items-preserved
read_array-items-preserved t c = rw (c.in_ok-push.ensures.items, map-append) (record {
  reads = array_next c.items.invariant.reads (grind arith) c.in_ok-item.ensures.value
      c.in_ok-item.ensures.shorter;
  whole = items_noted (map view c.items.items.items) (view c.in_ok-item.item) c.items.invariant.whole c.in_ok-item.ensures.whole;
})

pub read_array-returns-in_err-item-clause-unread : goal.read_array-returns-in_err-item-clause-unread
read_array-returns-in_err-item-clause-unread t c unread =
    array_none c.items.invariant.reads {t = c.take_end_array.new.self} (grind arith) (grind arith)

pub read_object-members-preserved : goal.read_object-members-preserved
read_object-members-preserved t c =
    rw (c.in_ok-push.ensures.items, fold-append) (record {
      reads = object_next c.members.invariant.reads {k = c.in-Some.name.now} (grind arith)
          c.in_ok-member.ensures.value c.in_ok-member.ensures.shorter;
      whole = members_noted c.in-Some.name.now (view c.in_ok-member.member) (in_order c.members.found.items) c.members.invariant.whole
          c.in_ok-member.ensures.whole;
    })

pub read_object-returns-in_err-name-clause-unread : goal.read_object-returns-in_err-name-clause-unread
read_object-returns-in_err-name-clause-unread t c unread =
    object_no_key c.members.invariant.reads c.in_err-name.ensures.value

pub read_object-returns-in_err-member-clause-unread : goal.read_object-returns-in_err-member-clause-unread
read_object-returns-in_err-member-clause-unread t c unread = object_none c.members.invariant.reads
    {k = c.in-Some.name.now} {s = c.next_key.new.self} (grind arith) (grind arith)

pub read_object-returns-clause-value : goal.read_object-returns-clause-value
read_object-returns-clause-value t c =
    rw c.in_ok-in_order.ensures (object_over c.members.invariant.reads (grind arith))
