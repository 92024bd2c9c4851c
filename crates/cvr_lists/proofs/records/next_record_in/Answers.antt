use Rattle.std.proofs.Common.{rules, option_map, refl, ap, ◌∙◌}
use Rattle.std.proofs.lemmas.List.Sorted.{IsPartitionPoint-from_clause}
use Rattle.std.proofs.lemmas.Option.{slice_get_read}
use Rattle.cvr_office.proofs.Lemmas.{record_passes, records_parted, next_record_none}
use Rattle.cvr_office.proofs.Lemmas.{next_record_some}
use Rattle.cvr_lists.proofs.records.next_record_in.Goals as goal

pub returns-in_err-get : goal.returns-in_err-get
returns-in_err-get c =
    let after = option_map (λ i. i.now) c.args.after in
    let xs = c.args.facts.now in
    let point =
    IsPartitionPoint-from_clause (record_passes xs c.requires after) xs
    c.partition_point-place.result c.partition_point-place.ensures.partitioned
    (records_parted xs c.requires after) (λ a r q k. search rules)
    in
    let past =
    next_record_none xs c.requires after c.partition_point-place.result point (search rules) in
    ap (option_map (λ i. i.now)) c.from_residual.ensures ∙ past

pub returns : goal.returns
returns c =
    let after = option_map (λ i. i.now) c.args.after in
    let xs = c.args.facts.now in
    let point =
    IsPartitionPoint-from_clause (record_passes xs c.requires after) xs
    c.partition_point-place.result c.partition_point-place.ensures.partitioned
    (records_parted xs c.requires after) (λ a r q k. search rules)
    in
    let x = c.in_ok-get.field-0.now in
    c.record_name.ensures ∙ next_record_some xs c.requires after c.partition_point-place.result
    point x (slice_get_read xs _ _ x refl (search rules) (search rules))
