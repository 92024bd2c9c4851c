use Rattle.std.proofs.Common.{map, drop}
use Rattle.cvr_call.proofs.Cutting.{AreCutSoFar}
use Rattle.cvr_call.proofs.pieces.pieces_in.Given as goal

abbrev pub invariant-loop-end : goal.invariant-loop-end
invariant-loop-end l = AreCutSoFar l.input l.ends (map (λ piece. piece.now) l.pieces.items) l.place
    l.rest (drop l.end-index l.ends)
