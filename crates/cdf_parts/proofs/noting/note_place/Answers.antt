use Rattle.std.proofs.Common.{◌≡◌, false, string_bytes, rules}
use Rattle.std.specs.Prelude.{is_some}
use Rattle.std.specs.BTreeMap.{get_by_text}
use Rattle.cdf_parts.proofs.Places.{noted_text}
use Rattle.cdf_parts.proofs.noting.note_place.Goals as goal

pub returns : goal.returns
returns c =
    let id = c.in_ok-from_str.field-0 in
    let text : string_bytes id ≡ c.args.id.now = search rules in
    let lacks : is_some (get_by_text c.args.places.now c.args.id.now) ≡ false = search rules in
    noted_text c.args.places.now c.insert.new.self id c.args.id.now c.args.place text lacks
    c.in_ok-insert.ensures.updates
