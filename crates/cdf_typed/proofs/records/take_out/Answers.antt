use Rattle.std.proofs.Common.{bytes_eq, sym, ap, ◌∙◌}
use Rattle.std.specs.List.{position}
use Rattle.cdf_node.specs.View.{members_view}
use Rattle.cdf_typed.proofs.Headers.{taken_out, absent}
use Rattle.cdf_typed.proofs.records.take_out.Goals as goal

pub returns-in-Some : goal.returns-in-Some
returns-in-Some c =
    let named = sym (c.in-Some.ensures ∙ ap
    (λ es. position (λ e. bytes_eq c.args.name.now e.0.now) es) c.deref.ensures.value) in
    ap members_view c.remove.ensures.items
    ∙ taken_out c.args.name.now c.args.members.now.items c.in-Some.place named

pub returns-in_default : goal.returns-in_default
returns-in_default c =
    let named = sym (c.in_default.ensures
    ∙ ap (λ es. position (λ e. bytes_eq c.args.name.now e.0.now) es) c.deref.ensures.value) in
    absent c.args.name.now c.args.members.now.items named
