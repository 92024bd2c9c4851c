use Rattle.cdf_parts.specs.Ids.{bytes_of, HasHints}
use Rattle.cdf_parts.proofs.hints.hints_of.Given as goal

abbrev pub invariant-loop-id : goal.invariant-loop-id
invariant-loop-id l = HasHints l.hints.items (bytes_of l.ids)
