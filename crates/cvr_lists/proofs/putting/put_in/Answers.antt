use Rattle.std.proofs.Common.{arith}
use Rattle.cvr_lists.proofs.Puts.{put_growth}
use Rattle.cvr_lists.proofs.putting.put_in.Goals as goal

pub overflow_sub-result : goal.overflow_sub-result
overflow_sub-result c =
    let more = put_growth _ _ _ c.requires c.in_ok-put_all.ensures.put in
    omega (arith, more.0, c.args.facts.now.ok.0, c.put_all.new.facts.ok.0)

pub returns-clause-new : goal.returns-clause-new
returns-clause-new c =
    let more = put_growth _ _ _ c.requires c.in_ok-put_all.ensures.put in
    rw (c.len.ensures, c.len-before.ensures, c.args.facts.now.ok.0, c.put_all.new.facts.ok.0) more.1
