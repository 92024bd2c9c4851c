use Rattle.std.proofs.Common.{◌≡◌, take}
use Rattle.cvr_cached.specs.Contents.{header_at, header_in}
use Rattle.cvr_cached.proofs.remembered.header_place.Given as goal

abbrev pub invariant-loop-place : goal.invariant-loop-place
invariant-loop-place l = header_at l.facts l.last ≡ header_in (take l.place l.facts)
