use Rattle.std.proofs.lemmas.List.Filters.{dedup_is}
use Rattle.std.proofs.lemmas.List.Kept.{Contains-from_dedup, IsStrictlySortedBy-dedup}
use Rattle.std.proofs.lemmas.List.Sorted.{Contains-permutation, IsPermutation-sym}
use Rattle.cvr_facts.proofs.Gathering.{kept_tied}
use Rattle.cvr_facts.proofs.list.in_order.Goals as goal

pub returns-clause-once : goal.returns-clause-once
returns-clause-once g c =
    rw (c.new.ensures, dedup_is _ _ _ c.dedup.ensures.filtered)
    (IsStrictlySortedBy-dedup g.met.T.Ord.total g.met.T.Ord.matches_eq _
    c.sort_unstable.ensures.sorted)

pub returns-clause-stated : goal.returns-clause-stated
returns-clause-stated g c fact h =
    Contains-permutation _ _ fact (IsPermutation-sym _ _ c.sort_unstable.ensures.permutation)
    (Contains-from_dedup _ _ fact (rw (c.new.ensures, dedup_is _ _ _ c.dedup.ensures.filtered) at
    h))

pub returns-clause-each : goal.returns-clause-each
returns-clause-each g c fact h =
    rw (c.new.ensures, dedup_is _ _ _ c.dedup.ensures.filtered)
    (kept_tied _ g.met.T.Eq.laws g.met.T.Ord.matches_eq _ fact
    (Contains-permutation _ _ fact c.sort_unstable.ensures.permutation h))
