use Rattle.std.proofs.Common.{take}
use Rattle.cdf_parts.specs.Ids.{bytes_of, HasPlaces}
use Rattle.cdf_parts.proofs.ids.Ids.of.Given as goal

abbrev pub invariant-loop-place : goal.invariant-loop-place
invariant-loop-place l = HasPlaces l.places (bytes_of (take l.place l.id-items))
