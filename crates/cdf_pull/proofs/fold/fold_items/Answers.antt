-- What is `kept` starts with no item and grows by each `item` as the array has them; in the loop
-- `items`, one that can't be read shows that there is no array.
use Rattle.std.proofs.Common.{[], ◌∷◌, ◌++◌, length-append, arith}
use Rattle.std.proofs.lemmas.Option.{MatchOption-at_some}
use Rattle.cdf_node.specs.View.{view}
use Rattle.cdf_node.proofs.Laws.{sorted_next}
use Rattle.cdf_node.proofs.Lemmas.{array_begun, array_next, array_over, array_none}
use Rattle.cdf_pull.proofs.fold.fold_items.Goals as goal

pub items-init : goal.items-init
items-init g c = record {
  ds = [];
  place = omega arith;
  room = omega arith;
  read = array_begun c.args.depth c.args.reader.now (omega arith);
  keeps = c.none-kept.ensures;
}

pub take-requires-clause-rises : goal.take-requires-clause-rises
take-requires-clause-rises g c =
    MatchOption-at_some _ _ _ c.in_ok-item.ensures.value (sorted_next _ _)

pub items-preserved : goal.items-preserved
items-preserved g c =
    let done = c.in_ok-item.ensures in
    let l = c.items.invariant in
    let more = length-append l.ds (view c.in_ok-item.item ∷ []) in
    record {
      ds = l.ds ++ view c.in_ok-item.item ∷ [];
      place = grind (arith, more, l.place);
      room = grind (arith, more, l.room);
      read = array_next l.read (grind arith) done.value done.shorter;
      keeps = c.in_ok-take.ensures l.ds (grind arith) l.keeps;
    }

pub returns-clause-items : goal.returns-clause-items
returns-clause-items g c = (
  c.items.invariant.ds,
  array_over c.items.invariant.read (grind arith),
  c.items.invariant.keeps,
)

pub returns-in_err-item-clause-unread : goal.returns-in_err-item-clause-unread
returns-in_err-item-clause-unread g c unread =
    array_none c.items.invariant.read {t = c.take_end_array.new.self} (grind arith) (grind arith)
