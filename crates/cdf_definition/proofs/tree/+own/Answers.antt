use Rattle.std.proofs.Common.{◌≡◌, get_or, take, string_bytes}
use Rattle.std.proofs.lemmas.List.{take_more}
use Rattle.cdf_node.specs.View.{view}
use Rattle.cdf_definition.specs.Tree.{owned}
use Rattle.cdf_definition.proofs.Trees.{members_more}
use Rattle.cdf_definition.proofs.tree.+own.Goals as goal

pub own_members-loop-member-preserved : goal.own_members-loop-member-preserved
own_members-loop-member-preserved t c =
    let ms = c.args.members.now in
    let i = c.loop-member.member-index in
    let m = get_or ms i c.member-item.result in
    let name : string_bytes c.in_ok-name.name ≡ m.0.now =
    rw (← c.member-item.is) c.in_ok-name.ensures.ok in
    let value : owned c.in_ok-own.field-0 ≡ view m.1 =
    rw (← c.member-item.is) c.in_ok-own.ensures in
    rw (c.in_ok-push.ensures.items, take_more ms i c.member-item.result c.loop-member-test.true)
    (members_more c.loop-member.trees.items (take i ms)
    (c.in_ok-name.name, c.in_ok-own.field-0) m c.loop-member.invariant name value)
