use Rattle.std.proofs.Common.{◌∙◌, ap, sym, inl}
use Rattle.cdf_definition.proofs.Laws.{valid_file}
use Rattle.cvr_facts.specs.Reports.{facts}
use Rattle.cvr_office.specs.Readers.{growth}
use Rattle.cvr_office.specs.Outcomes.{due_outcome}
use Rattle.cvr_office.specs.declared.event.Outcome.TheVariants.{Accepted}
use Rattle.cvr_office.proofs.playing.import_into.Goals as goal

pub returns-in-Ok-clause-outcome : goal.returns-in-Ok-clause-outcome
returns-in-Ok-clause-outcome g c =
    let office = c.args.office.now in
    let bytes = c.args.bytes.now in
    inl (ap Accepted c.in-Ok.ensures.new_facts
    ∙ ap (λ cause. due_outcome cause (growth (g.O.Office.held office) (facts bytes)))
    (sym ((valid_file (g.O.Office.defined office) bytes).1 c.in-Ok.ensures.valid)))
