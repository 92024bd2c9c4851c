use Rattle.std.proofs.Common.{option_map, subst}
use Rattle.cvr_office.specs.Runs.{snapshots, IsChosen}
use Rattle.cvr_lists.proofs.OneRecord.{current_is}
use Rattle.cvr_lists.proofs.records.current_in.Goals as goal

pub returns : goal.returns
returns c contests spelled =
    current_is _ _ _ spelled _ (subst (λ facts.
    IsChosen (snapshots facts) (option_map (λ s. s.now) c.greatest_snapshot.result))
    c.run_of.ensures c.greatest_snapshot.ensures)
