use Rattle.std.proofs.Common.{None, ap, ◌∙◌}
use Rattle.std.specs.List.{last_or}
use Rattle.cvr_office.specs.Runs.{headers}
use Rattle.cvr_lists.proofs.OneRecord.{header_is}
use Rattle.cvr_lists.proofs.records.header_in.Goals as goal

pub returns : goal.returns
returns c = header_is _ _ c.requires.rises c.requires.spelled _
    (c.last_header.ensures ∙ ap (λ facts. last_or None (headers facts)) c.run_of.ensures)
