use Rattle.std.proofs.lemmas.List.Filters.{dedup_is}
use Rattle.cvr_lists.proofs.Puts.{put}
use Rattle.cvr_lists.proofs.putting.sort_in.Goals as goal

pub returns-clause-put : goal.returns-clause-put
returns-clause-put c =
    put _ _ _ _ (rw (← c.in_ok-put_behind.ensures.items) c.sort.ensures.permutation)
    c.in_default.ensures.sorted (dedup_is _ _ _ c.dedup.ensures.filtered)
