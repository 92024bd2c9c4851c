use Rattle.std.proofs.Common.{arith, subst}
use Rattle.cvr_report.specs.Head.{IsHead, IsHeadFault}
use Rattle.cvr_run.proofs.Merging.{no_heading, volume_printed}
use Rattle.cvr_run.proofs.merge.print_volume.Goals as goal

pub returns-in_err-heading : goal.returns-in_err-heading
returns-in_err-heading g c =
    let definition = g.O.Office.defined c.args.office.now in
    let fault = c.in_err-heading.field-0.0 in
    no_heading definition c.args.date.now c.args.device.now c.args.i
    (g.O.Office.held c.args.office.now) _ c.from_residual.result fault c.from_residual.ensures.1
    (subst (λ d. IsHeadFault d c.args.date.now c.args.device.now fault) c.definition.ensures.is
    c.in_err-heading.ensures.fault) c.requires.working

pub returns : goal.returns
returns g c =
    let definition = g.O.Office.defined c.args.office.now in
    let head = c.in_ok-heading.heading in
    volume_printed definition c.args.date.now c.args.device.now c.args.i
    (g.O.Office.held c.args.office.now) head
    (subst (λ d. IsHead d c.args.date.now c.args.device.now head) c.definition.ensures.is
    c.in_ok-heading.ensures.head)
    c.volumes-volumes.result c.volumes-volumes.ensures (omega (arith, c.if-volumes-i.false))
    (g.W.Sink.taken c.args.out.now) (g.W.Sink.taken c.write_volume.new.out)
    c.in_ok-write_volume.ensures.volume c.in_ok-write_volume.ensures.working
