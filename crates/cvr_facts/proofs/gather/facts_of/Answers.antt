-- Put in order, `devices`, `headers` and `snapshots` keep all that the report states and no more:
-- the facts of each accepted file with this report, whose fields are what their own texts spell.
use Rattle.std.proofs.Common.{map, ap, ◌∙◌}
use Rattle.std.specs.List.{flat_map}
use Rattle.cvr_fact_types.specs.Orders.{device_cmp, header_cmp, snapshot_cmp}
use Rattle.cvr_facts.specs.declared.list.FactList.{FactList}
use Rattle.cvr_facts.specs.Lists.{stated_device, stated_header, stated_snapshots, stated_list, AreFactsOf}
use Rattle.cvr_facts.specs.Lists.{fact_of_device, fact_of_header, fact_of_snapshot}
use Rattle.cvr_facts.proofs.Gathering.{Keeps, keeps, same_told, device_tied, header_tied}
use Rattle.cvr_facts.proofs.Gathering.{snapshot_tied}
use Rattle.cvr_facts.proofs.Told.{told_are}
use Rattle.cvr_facts.proofs.Spelled.{spelled_are}
use Rattle.cvr_facts.proofs.gather.facts_of.Goals as goal

pub snapshots_in-requires : goal.snapshots_in-requires
snapshots_in-requires c cvr h = c.requires cvr (rw c.as_slice-3.ensures at h)

module _ (c : goal.After-in_order-3) where
  abbrev stated : FactList
  stated = stated_list c.args.definition.now.contests c.args.report.now

  devices : Keeps fact_of_device stated.devices c.in_order.result
  devices = keeps fact_of_device device_cmp device_tied _ _ _
      (c.in_ok-devices.ensures ∙ ap (map stated_device) c.as_slice.ensures)
      c.in_order.ensures.stated c.in_order.ensures.each

  headers : Keeps fact_of_header stated.headers c.in_order-2.result
  headers = keeps fact_of_header header_cmp header_tied _ _ _
      (c.in_ok-headers.ensures ∙ ap (map stated_header) c.as_slice-2.ensures)
      c.in_order-2.ensures.stated c.in_order-2.ensures.each

  snapshots : Keeps fact_of_snapshot stated.snapshots c.in_order-3.result
  snapshots = keeps fact_of_snapshot snapshot_cmp snapshot_tied _ _ _
      (c.in_ok-snapshots.ensures
      ∙ ap (flat_map (stated_snapshots c.args.definition.now.contests)) c.as_slice-3.ensures)
      c.in_order-3.ensures.stated c.in_order-3.ensures.each

  abbrev list : FactList
  list = record {
    devices = c.in_order.result;
    headers = c.in_order-2.result;
    snapshots = c.in_order-3.result;
  }

  are : AreFactsOf c.args.definition.now.contests c.args.report.now list
  are = record { devices = devices.from; headers = headers.from; snapshots = snapshots.from }

pub returns-clause-facts : goal.returns-clause-facts
returns-clause-facts c = same_told _ _ (list c) (devices c) (headers c) (snapshots c)

pub returns-clause-stated : goal.returns-clause-stated
returns-clause-stated c = are c

pub returns-clause-file : goal.returns-clause-file
returns-clause-file c bytes is = same_told _ _ (list c) (devices c) (headers c) (snapshots c)
    ∙ told_are c.args.definition.now bytes c.args.report.now is

pub returns-clause-spelled : goal.returns-clause-spelled
returns-clause-spelled c bytes is =
    spelled_are c.args.definition.now bytes c.args.report.now (list c) is (are c)
