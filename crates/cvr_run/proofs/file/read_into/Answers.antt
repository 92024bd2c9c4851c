use Rattle.std.proofs.Common.{arith}
use Rattle.cvr_run.proofs.Files.{read_to_end, read_most, left_at_end, left_behind}
use Rattle.cvr_run.proofs.file.read_into.Goals as goal

pub returns-then-count-eq0-clause-bytes : goal.returns-then-count-eq0-clause-bytes
returns-then-count-eq0-clause-bytes g c =
    rw c.give_back.ensures.same
    (read_to_end (g.R.Source.left c.args.source.now).bytes (g.R.Source.left c.reads.source).bytes
    (g.R.Source.left c.read.new.self).bytes c.reads.bytes.items _ _ c.in_ok-count.count 67108865
    c.reads.invariant.all c.in_ok-count.ensures.given c.if-count-eq0.true
    (omega (arith, c.reads.invariant.held)))

pub returns-clause-bytes : goal.returns-clause-bytes
returns-clause-bytes g c = read_most (g.R.Source.left c.args.source.now).bytes
    (g.R.Source.left c.reads.source).bytes c.reads.bytes.items 67108865 c.reads.invariant.all
    (omega (arith, c.reads.invariant.held, c.reads-test.false, c.len.ensures))

pub returns-then-count-eq0-clause-rest : goal.returns-then-count-eq0-clause-rest
returns-then-count-eq0-clause-rest g c =
    left_at_end (g.R.Source.left c.args.source.now).bytes (g.R.Source.left c.reads.source).bytes
    (g.R.Source.left c.read.new.self).bytes c.reads.bytes.items _ _ c.in_ok-count.count 67108865
    c.reads.invariant.all c.in_ok-count.ensures.given c.if-count-eq0.true
    (omega (arith, c.reads.invariant.held))

pub returns-clause-rest : goal.returns-clause-rest
returns-clause-rest g c = left_behind (g.R.Source.left c.args.source.now).bytes
    (g.R.Source.left c.reads.source).bytes c.reads.bytes.items 67108865 c.reads.invariant.all
    (omega (arith, c.reads.invariant.held, c.reads-test.false, c.len.ensures))
