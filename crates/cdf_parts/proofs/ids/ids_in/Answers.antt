use Rattle.std.proofs.Common.{◌≡◌, ◌<◌, ◌++◌, ◌∷◌, [], get_or, length, ap, ◌∙◌, string_bytes, rules}
use Rattle.cdf_node.specs.View.{view}
use Rattle.cdf_parts.specs.Parts.{id_of}
use Rattle.cdf_parts.specs.Ids.{bytes_of}
use Rattle.cdf_parts.proofs.Places.{ids_more}
use Rattle.cdf_parts.proofs.ids.ids_in.Goals as goal

pub loop-item-preserved : goal.loop-item-preserved
loop-item-preserved c =
    let vs = c.args.items.now in
    let i = c.loop-item.item-index in
    let v = c.item-item.result in
    let lt : i < length vs = search rules in
    let is : v ≡ get_or vs i v = search rules in
    let s = c.in_ok-from_str.field-0 in
    let same : string_bytes s ≡ c.text_at.result.now = search rules in
    let text : string_bytes s ≡ id_of (view (get_or vs i v)) = rw (← is) (search rules) in
    let items : c.push.new.self.items ≡ c.loop-item.ids.items ++ s ∷ [] =
    c.in_ok-push.ensures.items in
    ap bytes_of items ∙ ids_more c.loop-item.ids.items s vs i v lt c.loop-item.invariant text
