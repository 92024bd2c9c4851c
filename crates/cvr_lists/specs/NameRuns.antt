-- The runs of facts under one name in a list in order. (This project's own.)
use Rattle.std.specs.Prelude.{ℕ, suc, List, [], ◌∷◌, map, nat_le, if◌then◌else◌}
use Rattle.std.specs.List.{filter}
use Rattle.cvr_office.specs.declared.any_fact.AnyFact.{AnyFact}
use Rattle.cvr_office.specs.declared.conflict.Conflict.{Conflict}
use Rattle.cvr_office.specs.declared.conflict.ConflictName.{ConflictName}
use Rattle.cvr_office.specs.Names.{most}
use Rattle.cvr_lists.specs.AnyNames.{any_name, has_name}

-- the runs of a list that goes on after `bodies` facts of the name `n`
abbrev pub runs_from : ConflictName → ℕ → List AnyFact → List Conflict
runs_from n bodies [] = record { name = n; bodies = bodies } ∷ []
runs_from n bodies (fact ∷ facts) =
    if has_name n fact then runs_from n (suc bodies) facts
    else record { name = n; bodies = bodies } ∷ runs_from (any_name fact) 1 facts

-- each name with how many facts stand there under it
abbrev pub counted_runs : List AnyFact → List Conflict
counted_runs [] = []
counted_runs (fact ∷ facts) = runs_from (any_name fact) 1 facts

-- those of the runs that have at least two facts
abbrev pub of_several : List Conflict → List Conflict
of_several cs = filter (λ c. nat_le 2 c.bodies) cs

-- the greatest of their numbers
abbrev pub most_of : List Conflict → ℕ
most_of cs = most (map (λ c. c.bodies) cs)
