use Rattle.cvr_lists.proofs.Insertions.{put_found, put_one}
use Rattle.cvr_lists.proofs.putting.insert_one.Goals as goal

pub returns-in-Ok-clause-put : goal.returns-in-Ok-clause-put
returns-in-Ok-clause-put c =
    put_found c.args.facts.now.items c.args.fact _ c.requires.rises
    (rw c.deref.ensures.value at c.in-Ok.ensures.bound)
    (rw c.deref.ensures.value at c.in-Ok.ensures.position)

pub returns-clause-put : goal.returns-clause-put
returns-clause-put c =
    rw (c.insert.ensures.items, c.insert.ensures.succeeds c.requires.room)
    (put_one c.args.facts.now.items c.args.fact c.in-Err.place c.requires.rises
    (rw c.deref.ensures.value at c.in-Err.ensures.bound)
    (rw c.deref.ensures.value at c.in-Err.ensures.position))
