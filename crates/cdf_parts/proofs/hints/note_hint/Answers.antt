use Rattle.std.proofs.Common.{◌≡◌, Some, rules}
use Rattle.std.specs.BTreeMap.{get_by_text}
use Rattle.cdf_parts.proofs.HintedPlaces.{hints_more}
use Rattle.cdf_parts.proofs.hints.note_hint.Goals as goal

pub returns-in-Some : goal.returns-in-Some
returns-in-Some c = λ ids h old.
    let is : get_by_text c.args.places.now c.args.id.now ≡ Some c.in-Some.place.now = search rules in
    hints_more c.args.places.now ids c.args.id.now c.in-Some.place.now c.args.hints.now
    c.slot_of-slot.result h is old
