use Rattle.std.proofs.Common.{◌≡◌, ◌<◌, [], false, get_or, length, ap, sym, ◌∙◌, string_bytes}
use Rattle.std.proofs.Common.{rules}
use Rattle.cdf_node.specs.View.{view}
use Rattle.serde_json.specs.Written.{has_float, compact_text}
use Rattle.cdf_parts.specs.Parts.{id_of}
use Rattle.cdf_parts.proofs.Laws.{whole_there}
use Rattle.cdf_definition.specs.Named.{id_and_text, map_entries}
use Rattle.cdf_definition.proofs.ById.{by_id-put}
use Rattle.cdf_definition.proofs.Gathered.{gathered_more}
use Rattle.cdf_definition.proofs.gather.gather.Goals as goal

pub loop-item-init : goal.loop-item-init
loop-item-init c = ap map_entries c.new-texts.ensures.empty ∙ sym (by_id-put [])

pub loop-item-preserved : goal.loop-item-preserved
loop-item-preserved c =
    let vs = c.args.items.now in
    let i = c.loop-item.item-index in
    let lt : i < length vs = search rules in
    let is : c.item-item.result ≡ get_or vs i c.item-item.result = search rules in
    let whole : has_float (view c.item-item.result) ≡ false =
    whole_there vs i c.item-item.result lt is c.requires in
    let text : c.new-body.result ≡ compact_text (view c.item-item.result) =
    c.new-body.ensures ∙ c.in_ok-to_string.ensures.text whole in
    let id : string_bytes c.in_ok-id.id ≡ id_of (view c.item-item.result) = search rules in
    let both : (string_bytes c.in_ok-id.id, c.new-body.result)
    ≡ id_and_text (view (get_or vs i c.item-item.result)) = rw (id, text)
    (ap (λ v. id_and_text (view v)) is) in
    gathered_more c.loop-item.texts.entries c.insert.new.self.entries c.in_ok-id.id
    c.new-body.result vs i c.item-item.result lt c.loop-item.invariant
    c.in_ok-insert.ensures.entries both
