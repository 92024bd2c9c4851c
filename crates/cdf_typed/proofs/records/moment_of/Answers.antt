use Rattle.std.proofs.Common.{◌≡◌, ◌+◌, ◌<◌, length, get_or, map, drop, sym, ap, ◌∙◌, rules}
use Rattle.std.specs.Ordering.{int_cmp}
use Rattle.std.specs.List.{filter_map}
use Rattle.cdf_node.specs.View.{view}
use Rattle.cdf_typed.specs.Greatest.{max_by}
use Rattle.cdf_typed.specs.Instants.{later}
use Rattle.cdf_typed.specs.Typed.{instant_in}
use Rattle.cdf_typed.proofs.Moments.{latest_step}
use Rattle.cdf_typed.proofs.records.moment_of.Goals as goal

pub loop-annotation-preserved : goal.loop-annotation-preserved
loop-annotation-preserved c =
    let vs = c.items_at-annotation-items.result.now in
    let i = c.loop-annotation.annotation-index in
    let v = c.annotation-item.result in
    let m = c.loop-annotation.latest in
    let lt : i < length vs = search rules in
    let is : v ≡ get_or vs i v = search rules in
    let now : c.later-latest.result ≡ later m (instant_in (view v)) =
    c.later-latest.ensures ∙ ap (later m) c.instant_in.ensures in
    ap (λ n. later n (max_by int_cmp (filter_map instant_in (map view (drop (i + 1) vs))))) now
    ∙ sym (latest_step vs i v m lt is) ∙ c.loop-annotation.invariant
