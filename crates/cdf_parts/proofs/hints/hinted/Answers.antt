use Rattle.std.proofs.Common.{◌≡◌, ◌<◌, length, get_or, string_bytes, rules}
use Rattle.cdf_parts.proofs.HintedPlaces.{hinted_place}
use Rattle.cdf_parts.proofs.hints.hinted.Goals as goal

pub returns-then-eq : goal.returns-then-eq
returns-then-eq c =
    let hints = c.args.hints.now in
    let ids = c.args.ids.now in
    let slot = c.slot_of.result in
    let place = c.in_ok-place.field-0.now in
    let known = c.in_ok-known.known.now in
    let in-hints : slot < length hints = search rules in
    let at : place ≡ get_or hints slot place = search rules in
    let in-ids : place < length ids = search rules in
    let is : known ≡ get_or ids place known = search rules in
    let same : string_bytes known ≡ c.args.id.now = search rules in
    hinted_place ids hints c.args.id.now slot place known c.requires in-hints at in-ids is same
