use Rattle.std.proofs.Common.{◌≡◌, subst, rules}
use Rattle.std.specs.Prelude.{IfOk, OnOk}
use Rattle.std.specs.Ordering.{is_eq}
use Rattle.std.proofs.lemmas.List.Sorted.{IsPartitionPoint-from_clause}
use Rattle.cvr_office.specs.Runs.{record_order}
use Rattle.cvr_lists.proofs.Between.{equal_leads, run_leads, others_follow}
use Rattle.cvr_office.proofs.Lemmas.{record_order_rises}
use Rattle.cvr_lists.proofs.records.take_run.Goals as goal

pub returns-clause-run : goal.returns-clause-run
returns-clause-run c =
    let facts = c.args.facts.now.items in
    let order = record_order c.args.key.now in
    let up = record_order_rises facts c.requires.rises c.args.key.now in
    let found = IsPartitionPoint-from_clause (λ y. is_eq (order y)) _ _
    c.partition_point-count.ensures.partitioned (equal_leads order facts up c.requires.least)
    (λ a r q k. search rules) in
    subst (λ xs. IfOk c.take_front.result (λ taken. taken.items ≡ xs))
    (run_leads order facts up c.requires.least _ (search rules) found)
    c.take_front.ensures.front

pub returns-clause-rest : goal.returns-clause-rest
returns-clause-rest c =
    let facts = c.args.facts.now.items in
    let order = record_order c.args.key.now in
    let up = record_order_rises facts c.requires.rises c.args.key.now in
    let found = IsPartitionPoint-from_clause (λ y. is_eq (order y)) _ _
    c.partition_point-count.ensures.partitioned (equal_leads order facts up c.requires.least)
    (λ a r q k. search rules) in
    subst (λ xs. OnOk c.take_front.result (c.take_front.new.facts.items ≡ xs))
    (others_follow order facts up c.requires.least _ (search rules) found)
    c.take_front.ensures.rest
