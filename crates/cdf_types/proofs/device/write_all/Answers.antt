use Rattle.std.proofs.Common.{◌≡◌, ◌++◌, take, drop, sym, ap, ◌∙◌}
use Rattle.cdf_types.specs.Device.{taken_with, Appends}
use Rattle.cdf_types.proofs.Fronts.{appended_twice, one_more_piece, some_count}
use Rattle.cdf_types.proofs.device.write_all.Goals as goal

pub pieces-preserved : goal.pieces-preserved
pieces-preserved g c =
    let n = c.in_ok-count.count in
    let rest = c.pieces.rest.now in
    let front = c.pieces.invariant.1 in
    let back : c.split_at.result.1.now ≡ drop n rest = c.split_at.ensures.back in
    let told : Appends (g.W.Sink.taken c.pieces.out) (g.W.Sink.taken c.write.new.self)
    (take n rest) = c.in_ok-count.ensures.taken in (
      c.write.ensures.failed ∙ some_count c.write.result n c.in_ok-count.was c.if-count-eq0.false,
      front ++ take n rest,
      one_more_piece c.args.bytes.now front rest n c.pieces.invariant.2
          ∙ ap (λ r. (front ++ take n rest) ++ r) (sym back),
      told ∙ ap (λ t. taken_with t (take n rest)) c.pieces.invariant.3
          ∙ appended_twice (g.W.Sink.taken c.args.out.now).bytes front (take n rest),
    )
