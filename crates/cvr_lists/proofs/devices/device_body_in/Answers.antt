use Rattle.std.proofs.Common.{◌≡◌, rules, option_map, ap, ◌∙◌}
use Rattle.std.specs.Prelude.{slice_get}
use Rattle.std.proofs.lemmas.Option.{gets}
use Rattle.cvr_office.specs.Names.{body_of}
use Rattle.cvr_office.specs.Place.{fact_of}
use Rattle.cvr_lists.proofs.Numbered.{none_numbered, one_numbered}
use Rattle.cvr_lists.proofs.devices.device_body_in.Goals as goal

pub returns-in_err-place : goal.returns-in_err-place
returns-in_err-place c =
    ap (option_map (λ b. b.now)) c.from_residual.ensures
    ∙ none_numbered (λ x. body_of (fact_of x)) c.devices_under-bodies.result.now _
    c.devices_under-bodies.ensures c.args.k c.in_err-place.ensures

pub returns : goal.returns
returns c =
    let bodies = c.devices_under-bodies.result.now in
    let is : option_map (λ b. b.now) c.map.result
    ≡ option_map (λ x. body_of (fact_of x)) (slice_get bodies c.in_ok-place.place) = search
    (rules, gets) in
    is ∙ one_numbered (λ x. body_of (fact_of x)) bodies _ c.devices_under-bodies.ensures c.args.k
    c.in_ok-place.place c.in_ok-place.ensures.0 c.in_ok-place.ensures.1
