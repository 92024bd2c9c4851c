use Rattle.std.proofs.Common.{◌≡◌, List, ◌++◌, length, false, ℕ}
use Rattle.cdf_types.specs.Device.{Appends}
use Rattle.cdf_types.proofs.device.write_all.Given as goal

-- what was taken and what is left are the bytes
abbrev pub invariant-pieces : goal.invariant-pieces
invariant-pieces g l =
    ((g.W.Sink.taken l.out).failed ≡ false) × (front : List ℕ) × (l.bytes ≡ front ++ l.rest)
    × Appends (g.W.Sink.taken l.initial.out) (g.W.Sink.taken l.out) front

abbrev pub decreases-pieces : goal.decreases-pieces
decreases-pieces g l = length l.rest
