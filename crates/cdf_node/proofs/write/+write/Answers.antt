-- The tokens of a scalar (`truth`, `text`) are a tree of its value; behind what the loops `items`
-- and `members` have written, trees of the rest complete one of the whole.
use Rattle.std.proofs.Common.{◌++◌, ◌∷◌, [], refl, ap, ◌∙◌, arith, append_assoc}
use Rattle.std.proofs.lemmas.Result.{on_ok_weaker}
use Rattle.json.specs.Token.{begin_array, begin_object}
use Rattle.json.specs.Json as json
use Rattle.json.specs.Tree as tree
use Rattle.cdf_node.proofs.Views.{view-Null, view-Bool, view-Number, view-String}
use Rattle.cdf_node.proofs.Writing.{item_before, member_before, items_end, members_end}
use Rattle.cdf_node.proofs.write.+write.Goals as goal

pub write_value-returns-in-Null-clause-ok : goal.write_value-returns-in-Null-clause-ok
write_value-returns-in-Null-clause-ok t c = rw (c.in-Null.is, view-Null)
    (on_ok_weaker c.null.result (λ e. (json.null, e, refl)) c.null.ensures.ok)

pub write_value-returns-in-Bool-clause-ok : goal.write_value-returns-in-Bool-clause-ok
write_value-returns-in-Bool-clause-ok t c = rw (c.in-Bool.is, view-Bool)
    (on_ok_weaker c.boolean.result (λ e. (json.boolean c.in-Bool.truth, e, refl))
    c.boolean.ensures.ok)

pub write_value-returns-in-String-clause-ok : goal.write_value-returns-in-String-clause-ok
write_value-returns-in-String-clause-ok t c = rw (c.in-String.is, view-String)
    (on_ok_weaker c.string.result (λ e. (json.string c.in-String.text.now, e, refl))
    c.string.ensures.ok)

pub write_value-returns-in-Number-clause-ok : goal.write_value-returns-in-Number-clause-ok
write_value-returns-in-Number-clause-ok t c = rw (c.in-Number.is, view-Number)
    (on_ok_weaker c.write_number.result (λ w. (json.number w.0, w.1, ap json.number w.2))
    c.write_number.ensures.ok)

pub write_items-items-preserved : goal.write_items-items-preserved
write_items-items-preserved t c =
    let l = c.items in
    record {
      before = c.write_value.ensures.before ∙ l.invariant.before;
      rest = λ end rest. l.invariant.rest end
          (item_before l.out.tokens c.write_value.new.out.tokens end c.args.items.now l.item-index
          c.item-item.result (omega arith) c.item-item.is c.in_ok-write_value.ensures.ok rest);
    }

pub write_items-returns-clause-ok : goal.write_items-returns-clause-ok
write_items-returns-clause-ok t c =
    let l = c.items in
    let end = c.end_array.new.self.tokens in
    on_ok_weaker c.end_array.result (λ e.
    let w = l.invariant.rest end (items_end l.out.tokens l.out.tokens end c.args.items.now
    l.item-index (omega arith) e) in (
      json.array w.0,
      w.1 ∙ ap (λ ts. ts ++ tree.items_tokens w.0) c.in_ok-begin_array.ensures.ok
          ∙ append_assoc _ (begin_array ∷ []) _,
      ap json.array w.2,
    )) c.end_array.ensures.ok

pub write_members-members-preserved : goal.write_members-members-preserved
write_members-members-preserved t c =
    let l = c.members in
    record {
      before = c.write_value.ensures.before ∙ c.key.ensures.room.0 ∙ l.invariant.before;
      rest = λ end rest. l.invariant.rest end
          (member_before l.out.tokens c.write_value.new.out.tokens end c.args.members.now
          l.member-index c.member-item.result c.key.new.self.tokens (omega arith) c.member-item.is
          c.in_ok-key.ensures.ok c.in_ok-write_value.ensures.ok rest);
    }

pub write_members-returns-clause-ok : goal.write_members-returns-clause-ok
write_members-returns-clause-ok t c =
    let l = c.members in
    let end = c.end_object.new.self.tokens in
    on_ok_weaker c.end_object.result (λ e.
    let w = l.invariant.rest end (members_end l.out.tokens l.out.tokens end c.args.members.now
    l.member-index (omega arith) e) in (
      json.object w.0,
      w.1 ∙ ap (λ ts. ts ++ tree.members_tokens w.0) c.in_ok-begin_object.ensures.ok
          ∙ append_assoc _ (begin_object ∷ []) _,
      ap json.object w.2,
    )) c.end_object.ensures.ok
