-- The names of the facts in a plain office's list. (This project's own.)
use Rattle.std.specs.Prelude.{Bool}
use Rattle.cvr_office.specs.declared.any_fact.AnyFact.{AnyFact}
use Rattle.cvr_office.specs.declared.conflict.ConflictName.{ConflictName}
use Rattle.cvr_office.specs.Names.{name_of, is_named}
use Rattle.cvr_office.specs.Place.{fact_of}

abbrev pub any_name : AnyFact → ConflictName
any_name fact = name_of (fact_of fact)

abbrev pub has_name : ConflictName → AnyFact → Bool
has_name n fact = is_named n (fact_of fact)
