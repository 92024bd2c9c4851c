-- Of the members `found` so far, the one at the name is emptied, and `kept` is of its items, the
-- last one's if a `key` comes twice; a key or `member` that can't be read leaves no object.
use Rattle.std.proofs.Common.{◌≡◌, bytes_eq, ap, ap₂, ◌∙◌, arith}
use Rattle.std.proofs.lemmas.List.Sums.{fold-append}
use Rattle.serde_json.specs.Data.{no_members, put}
use Rattle.cdf_node.specs.Order.{in_order}
use Rattle.cdf_node.proofs.Lemmas.{object_begun, object_next, object_over, object_none}
use Rattle.cdf_node.proofs.Lemmas.{object_no_key}
use Rattle.cdf_pull.specs.Fold.{without_items}
use Rattle.cdf_pull.proofs.Folding.{items_found-put, put-with_value_at}
use Rattle.cdf_pull.proofs.fold.read_members.Goals as goal

pub members-init : goal.members-init
members-init g c = record {
  ms = no_members;
  read = object_begun c.args.depth c.args.reader.now (omega arith);
  left = ap in_order c.new-found.ensures.items;
  keeps = c.none-kept.ensures;
}

pub members-preserved : goal.members-preserved
members-preserved g c =
    let l = c.members.invariant in
    let name = c.args.name.now in
    let k = c.in-Some.key.now in
    let is_folded : c.eq.result ≡ bytes_eq k name = grind arith in
    let member = rw is_folded at c.in_ok-member.ensures.value in
    let d = member.0 in
    record {
      ms = put k d l.ms;
      read = object_next l.read {k = k} (grind arith) member.1 c.in_ok-member.ensures.shorter;
      left = rw (c.in_ok-push.ensures.items, fold-append)
          (ap₂ (put k) member.2 l.left ∙ put-with_value_at name without_items k d l.ms);
      keeps = rw (← items_found-put name k d l.ms) (member.3 _ l.keeps);
    }

pub returns-clause-members : goal.returns-clause-members
returns-clause-members g c =
    let l = c.members.invariant in
    (l.ms, object_over l.read (grind arith), c.in_ok-in_order.ensures ∙ l.left, l.keeps)

pub returns-in_err-key-clause-unread : goal.returns-in_err-key-clause-unread
returns-in_err-key-clause-unread g c unread =
    object_no_key c.members.invariant.read c.in_err-key.ensures.value

pub returns-in_err-member-clause-unread : goal.returns-in_err-member-clause-unread
returns-in_err-member-clause-unread g c unread = object_none c.members.invariant.read
    {k = c.in-Some.key.now} {s = c.next_key.new.self} (grind arith) (grind arith)
