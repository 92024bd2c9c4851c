use Rattle.std.proofs.Common.{◌≡◌, [], map, sym, subst}
use Rattle.cvr_office.specs.Outcomes.{contents_after}
use Rattle.cvr_office.specs.declared.event.Event.TheVariants.{Exchange}
use Rattle.cvr_office.specs.declared.event.Outcome.TheVariants.{Accepted}
use Rattle.cvr_office.proofs.Slots.{contents_after-itself}
use Rattle.cvr_office.proofs.playing.exchange.Goals as goal

pub returns-then-from-to-clause-contents : goal.returns-then-from-to-clause-contents
returns-then-from-to-clause-contents g c =
    let held = map g.O.Office.held c.args.offices.now in
    subst (λ to. held ≡ contents_after [] (Exchange c.args.from to) (Accepted 0) held)
    c.if-from-to.true (sym (contents_after-itself [] c.args.from 0 held))
