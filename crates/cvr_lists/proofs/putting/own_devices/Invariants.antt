use Rattle.std.proofs.Common.{◌≡◌, map, take}
use Rattle.cvr_fact_types.specs.Facts.{Device}
use Rattle.cvr_office.specs.Place.{fact_of}
use Rattle.cvr_lists.proofs.putting.own_devices.Given as goal

abbrev pub invariant-loop-place : goal.invariant-loop-place
invariant-loop-place l =
    map fact_of l.facts.items ≡ map (λ e. Device e.0 e.1) (take l.place l.definition.devices)
