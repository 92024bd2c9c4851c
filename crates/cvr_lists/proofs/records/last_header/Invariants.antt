use Rattle.std.proofs.Common.{◌≡◌, take, None, option_map}
use Rattle.std.specs.List.{last_or}
use Rattle.cvr_office.specs.Runs.{headers}
use Rattle.cvr_lists.proofs.records.last_header.Given as goal

abbrev pub invariant-loop-fact : goal.invariant-loop-fact
invariant-loop-fact l =
    option_map (λ h. h.now) l.last ≡ last_or None (headers (take l.fact-index l.run))
