use Rattle.std.proofs.Common.{ap, ◌++◌, ◌∷◌, []}
use Rattle.std.specs.Prelude.{codes, decimal}
use Rattle.std.specs.List.{flat_map}
use Rattle.cvr_office.specs.Names.{conflicts}
use Rattle.cvr_run.specs.Currents.{conflict_line}
use Rattle.cvr_run.proofs.Last.{volumes_of-conflicts}
use Rattle.cvr_run.proofs.law.conflicts_end_with_the_number_of_volumes.Goals as goal

pub returns : goal.returns
returns c = λ facts. ap (λ n. flat_map conflict_line (conflicts facts)
    ++ (codes "volumes " ++ (decimal n ++ 10 ∷ []))) (volumes_of-conflicts facts)
