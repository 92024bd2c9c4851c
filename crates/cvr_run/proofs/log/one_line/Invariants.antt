use Rattle.std.proofs.Common.{◌≡◌, ◌++◌, drop}
use Rattle.std.specs.List.{flat_map}
use Rattle.cvr_run.proofs.log.one_line.Given as goal

-- the line so far, and the pieces to come
abbrev pub invariant-loop-piece : goal.invariant-loop-piece
invariant-loop-piece l =
    flat_map (λ p. p.now) l.pieces
    ≡ l.line.items ++ flat_map (λ p. p.now) (drop l.piece-index l.pieces)
