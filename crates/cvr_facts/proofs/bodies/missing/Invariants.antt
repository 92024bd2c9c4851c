use Rattle.std.proofs.Common.{◌≡◌, take, not}
use Rattle.std.specs.List.{filter, list_any}
use Rattle.std.specs.Ordering.{eq_by_cmp}
use Rattle.cvr_fact_types.specs.Facts.{text_cmp}
use Rattle.cvr_facts.proofs.bodies.missing.Given as goal

-- those of theirs so far
abbrev pub invariant-loop-body : goal.invariant-loop-body
invariant-loop-body l = l.more.items ≡ filter (λ x. not (list_any (eq_by_cmp text_cmp x) l.mine))
    (take l.body-index l.theirs)
