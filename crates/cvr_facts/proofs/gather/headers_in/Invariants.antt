use Rattle.std.proofs.Common.{◌≡◌, take, map}
use Rattle.cvr_facts.specs.Lists.{stated_header}
use Rattle.cvr_facts.proofs.gather.headers_in.Given as goal

abbrev pub invariant-loop-cvr : goal.invariant-loop-cvr
invariant-loop-cvr l = l.facts.items ≡ map stated_header (take l.cvr-index l.cvrs)
