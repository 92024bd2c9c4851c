use Rattle.std.proofs.Common.{sym, ap, ◌∙◌, subst}
use Rattle.std.specs.Prelude.{reverse}
use Rattle.cvr_office.specs.declared.record_facts.RecordFacts.{RecordFacts}
use Rattle.cvr_office.specs.Runs.{headers}
use Rattle.cvr_lists.specs.Groups.{RisesById, AreGrouped}
use Rattle.cvr_lists.proofs.RecordGroups.{rises_by_id}
use Rattle.cvr_lists.proofs.WholeRecord.{no_record, some_record, facts_are}
use Rattle.cvr_lists.proofs.record_lists.record_facts_in.Goals as goal

pub returns-then-is_empty : goal.returns-then-is_empty
returns-then-is_empty c contests spelled =
    no_record _ _ _ c.run_of-run.ensures (sym c.is_empty.ensures ∙ c.if-is_empty.true)

pub grouped-requires : goal.grouped-requires
grouped-requires c = subst RisesById (sym c.run_of-run.ensures)
    (rises_by_id c.args.facts.now c.args.key.now c.requires)

pub returns : goal.returns
returns c contests spelled =
    let run = c.run_of-run.ensures in
    let there = some_record _ _ _ run (sym c.is_empty.ensures ∙ c.if-is_empty.false) in
    let found : RecordFacts = record { headers = c.in_ok-headers.headers; ids = c.in_ok-ids.ids } in
    let groups = subst (λ facts. AreGrouped facts c.in_ok-ids.ids.items) run c.in_ok-ids.ensures in (
      there,
      facts_are _ _ c.requires _ spelled found
          (c.in_ok-headers.ensures ∙ ap (λ facts. reverse (headers facts)) run) groups,
    )
