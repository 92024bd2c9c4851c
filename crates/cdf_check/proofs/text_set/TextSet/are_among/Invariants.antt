use Rattle.std.proofs.Common.{◌≡◌}
use Rattle.cdf_parts.specs.Ids.{bytes_of}
use Rattle.cdf_check.specs.Within.{lists}
use Rattle.cdf_check.proofs.text_set.TextSet.are_among.Given as goal

abbrev pub invariant-loop-text : goal.invariant-loop-text
invariant-loop-text l = lists l.ids (bytes_of l.text-iterator) ≡ lists l.ids l.self
