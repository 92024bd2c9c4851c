use Rattle.std.proofs.Common.{map, ap, ◌∙◌}
use Rattle.cdf_definition.proofs.Laws.{valid_file}
use Rattle.cvr_lists.specs.Kept.{device_stated}
use Rattle.cvr_lists.proofs.FileLists.{file_facts, AreFileFacts}
use Rattle.cvr_lists.proofs.PlainLists.{none_rise}
use Rattle.cvr_lists.proofs.reading.read_facts.Goals as goal

are : (c : goal.In_ok-put_in) → AreFileFacts c.args.definition.now c.args.bytes.now
    c.in_ok-devices.devices.items c.put_in.new.facts.items
are c =
    file_facts c.args.definition.now c.args.bytes.now
    ((valid_file c.args.definition.now c.args.bytes.now).1 c.in_ok-listed.ensures.valid)
    c.in_ok-devices.devices.items c.in_ok-listed.kept.facts.items c.new-records.result.items
    c.put_in.new.facts.items
    (c.in_ok-devices.ensures ∙ ap (map device_stated) c.in_ok-listed.ensures.devices)
    c.in_ok-listed.ensures.kept.facts c.new-records.ensures.items c.in_ok-put_in.ensures.put

pub put_in-requires : goal.put_in-requires
put_in-requires c = none_rise c.new-records.result.items c.new-records.ensures.items

pub returns-clause-facts : goal.returns-clause-facts
returns-clause-facts c = (are c).facts

pub returns-clause-spelled : goal.returns-clause-spelled
returns-clause-spelled c = (are c).spelled

pub returns-clause-devices : goal.returns-clause-devices
returns-clause-devices c = (are c).devices

pub returns-clause-records : goal.returns-clause-records
returns-clause-records c = (are c).records
