use Rattle.std.proofs.Common.{◌≡◌, IfOk, sym, ap, ◌∙◌, subst}
use Rattle.serde_json.specs.Written.{has_float, compact_text}
use Rattle.cdf_node.specs.View.{view}
use Rattle.cdf_typed.proofs.Headers.{header_left, whole-header_of}
use Rattle.cdf_typed.proofs.records.header_text.Goals as goal

pub compact-requires-2 : goal.compact-requires-2
compact-requires-2 c =
    let left = header_left (view c.args.cvr.now) c.in-Some.members.now _ _ _ c.deref.result
    (sym c.in-Some.ensures) c.in_ok-others.ensures.items c.take_out.ensures c.take_out-2.ensures
    c.deref.ensures.value in
    ap has_float left ∙ whole-header_of (view c.args.cvr.now) c.requires

pub returns : goal.returns
returns c =
    let left = header_left (view c.args.cvr.now) c.in-Some.members.now _ _ _ c.deref.result
    (sym c.in-Some.ensures) c.in_ok-others.ensures.items c.take_out.ensures c.take_out-2.ensures
    c.deref.ensures.value in
    subst (λ e. IfOk c.compact-2.result (λ b. b ≡ compact_text e)) left c.compact-2.ensures
