use Rattle.std.proofs.Common.{◌∙◌, ◌+◌, ◌++◌, drop, sym, ap}
use Rattle.cvr_run.proofs.Pieces.{bytes_of, next_piece, where_ok}
use Rattle.cvr_run.proofs.log.one_line.Goals as goal

pub loop-piece-preserved : goal.loop-piece-preserved
loop-piece-preserved c =
    let pieces = c.args.pieces.now in
    let i = c.loop-piece.piece-index in
    let ok = sym c.is_err.ensures.value ∙ c.if-is_err.false in
    next_piece pieces i _ c.loop-piece.line.items c.loop-piece-test.true c.loop-piece.invariant
    ∙ ap (λ l. l ++ bytes_of (drop (i + 1) pieces))
    (sym (where_ok _ c.try_extend_from_slice.result ok c.try_extend_from_slice.ensures.ok))
