use Rattle.std.proofs.Common.{◌≡◌, map, max, unwrap_or, ap, sym, ◌∙◌, rules}
use Rattle.std.specs.List.{reduce}
use Rattle.std.proofs.lemmas.Iterator.{YieldsList-from_slice, YieldsList-from_map}
use Rattle.std.proofs.lemmas.Iterator.Consumers.{max_from_yields_List}
use Rattle.std.proofs.lemmas.Iterator.Adapters.{option_map_id}
use Rattle.cvr_office.specs.declared.conflict.Conflict.{Conflict}
use Rattle.cvr_run.proofs.Most.{reduce-max}
use Rattle.cvr_run.proofs.conflicts.volumes_of.Goals as goal

pub returns : goal.returns
returns c =
    let list = c.args.list.now in
    let bodies = map (λ (c : Conflict). c.bodies) list in
    let top : c.max.result ≡ reduce max bodies =
    sym (option_map_id c.max.result)
    ∙ max_from_yields_List c.map.result c.max.result c.max.ensures.ran
    (YieldsList-from_map _ (λ (c : Conflict). c.bodies) (YieldsList-from_slice list (cc))
    c.map.ensures.closure (λ x r q k. search rules))
    in
    c.unwrap_or.ensures ∙ (ap (λ o. unwrap_or o 1) top ∙ reduce-max list)
