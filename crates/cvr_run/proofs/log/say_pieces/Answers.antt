use Rattle.std.proofs.Common.{sym, ◌∙◌}
use Rattle.cvr_run.proofs.Pieces.{next_piece, front_of_piece, piece_taken}
use Rattle.cvr_run.proofs.Pieces.{failed_works, where_err, where_ok}
use Rattle.cvr_report.proofs.Lemmas.{some_prefix}
use Rattle.cvr_run.proofs.log.say_pieces.Goals as goal

-- the log failed at this piece
pub returns-then-is_err : goal.returns-then-is_err
returns-then-is_err g c =
    let err = sym c.is_err.ensures.value ∙ c.if-is_err.true in
    let old = g.L.Sink.taken c.args.log.now in
    let mid = g.L.Sink.taken c.loop-piece.log in
    let new = g.L.Sink.taken c.write_all.new.out in
    let is_logged = some_prefix mid new _ (where_err _ c.write_all.result err
    c.write_all.ensures.front) in record {
      whole = failed_works _ _ (where_err _ c.write_all.result err c.write_all.ensures.failed);
      silent = λ had. failed_works _ _ had (sym c.failed.ensures ∙ c.if-failed.false);
      front = front_of_piece old mid new _ _ _ _
          (next_piece c.args.pieces.now c.loop-piece.piece-index _ c.loop-piece.invariant.1
          c.loop-piece-test.true c.loop-piece.invariant.2) c.loop-piece.invariant.3 is_logged;
    }

pub loop-piece-preserved : goal.loop-piece-preserved
loop-piece-preserved g c =
    let ok = sym c.is_err.ensures.value ∙ c.if-is_err.false in
    let is_logged = where_ok _ c.write_all.result ok c.write_all.ensures.ok in
    let taken = piece_taken (g.L.Sink.taken c.args.log.now) (g.L.Sink.taken c.loop-piece.log)
    (g.L.Sink.taken c.write_all.new.out) c.loop-piece.invariant.1 _ c.loop-piece.invariant.3
    is_logged in (
      where_ok _ c.write_all.result ok c.write_all.ensures.working,
      _,
      next_piece c.args.pieces.now c.loop-piece.piece-index _ c.loop-piece.invariant.1
          c.loop-piece-test.true c.loop-piece.invariant.2,
      taken,
    )
