use Rattle.std.proofs.Common.{◌≡◌, take, map}
use Rattle.cvr_office.specs.Runs.{headers}
use Rattle.cvr_lists.proofs.record_lists.headers_down.Given as goal

abbrev pub invariant-loop-fact : goal.invariant-loop-fact
invariant-loop-fact l = map (λ h. h.now) l.headers.items ≡ headers (take l.fact-index l.run)
