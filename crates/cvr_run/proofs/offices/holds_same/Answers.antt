use Rattle.cvr_run.proofs.SameOffices.{same_is}
use Rattle.cvr_run.proofs.offices.holds_same.Goals as goal

pub returns : goal.returns
returns g c =
    same_is c.same.result (g.O.Office.defined c.args.one.now) (g.O.Office.defined c.args.other.now)
    (g.O.Office.held c.args.one.now) (g.O.Office.held c.args.other.now)
    c.same.ensures c.requires
