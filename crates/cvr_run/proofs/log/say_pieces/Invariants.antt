use Rattle.std.proofs.Common.{◌≡◌, ℕ, List, ◌++◌, drop, false}
use Rattle.std.specs.List.{flat_map}
use Rattle.cdf_types.specs.Device.{Appends}
use Rattle.cvr_run.proofs.log.say_pieces.Given as goal

-- what was taken and the pieces to come are the line
abbrev pub invariant-loop-piece : goal.invariant-loop-piece
invariant-loop-piece g l =
    ((g.L.Sink.taken l.log).failed ≡ false) × (front : List ℕ)
    × (flat_map (λ p. p.now) l.pieces
    ≡ front ++ flat_map (λ p. p.now) (drop l.piece-index l.pieces))
    × (Appends (g.L.Sink.taken l.initial.log) (g.L.Sink.taken l.log) front)
