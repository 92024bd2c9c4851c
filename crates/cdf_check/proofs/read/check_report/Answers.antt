use Rattle.cdf_check.proofs.Ranges.{in_range}
use Rattle.cdf_check.proofs.SameElection.{contests_agree}
use Rattle.cdf_check.proofs.read.check_report.Goals as goal

pub returns-clause-range : goal.returns-clause-range
returns-clause-range c =
    rw (c.new.ensures, c.in_ok-devices.ensures.kept)
    (in_range contests_agree c.args.definition.now c.args.bytes.now c.made_of_a_report.ensures
    c.in_ok-devices.ensures.valid)
