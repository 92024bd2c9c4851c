use Rattle.cvr_cached.proofs.cached.CachedOfficeOffice.new.Goals as goal

pub invariant_of-result : goal.invariant_of-result
invariant_of-result c = c.in_ok-store.ensures.cached

pub returns-clause-content : goal.returns-clause-content
returns-clause-content c = c.in_ok-store.ensures.content
