use Rattle.std.proofs.Common.{◌++◌, sym, ap, ◌∙◌, append-nil}
use Rattle.std.proofs.lemmas.Map.Iter.{rest_more, rest_all}
use Rattle.std.specs.Map.Iter.{deref_pair}
use Rattle.cvr_tally.specs.Keys.{keys_total}
use Rattle.cvr_tally.proofs.Lasts.{put_next}
use Rattle.cvr_tally.proofs.totals.copy_rows.Goals as goal

pub loop-key-preserved : goal.loop-key-preserved
loop-key-preserved c =
    put_next keys_total c.loop-key.copies.entries c.loop-key.key-iterator c.next.new.self
    c.args.rows.now.entries c.insert.new.self.entries c.in-Some.key.now _ c.in-Some.row.now _
    (rest_more deref_pair c.loop-key.key-iterator c.next.new.self c.next.result _ c.in-Some.is
    c.next.ensures.steps)
    c.loop-key.invariant c.iter-key-items.ensures.ordered c.in_ok-insert.ensures.entries
    c.in_ok-copy.ensures c.in_ok-copy-2.ensures

pub loop-key-preserved-in_ok-insert : goal.loop-key-preserved-in_ok-insert
loop-key-preserved-in_ok-insert c =
    put_next keys_total c.loop-key.copies.entries c.loop-key.key-iterator c.next.new.self
    c.args.rows.now.entries c.insert.new.self.entries c.in-Some.key.now _ c.in-Some.row.now _
    (rest_more deref_pair c.loop-key.key-iterator c.next.new.self c.next.result _ c.in-Some.is
    c.next.ensures.steps)
    c.loop-key.invariant c.iter-key-items.ensures.ordered c.in_ok-insert.ensures.entries
    c.in_ok-copy.ensures c.in_ok-copy-2.ensures

pub returns : goal.returns
returns c =
    let rest = rest_all deref_pair c.loop-key.key-iterator c.next.new.self c.next.result
    c.in-None.is c.next.ensures.steps in
    sym (append-nil _) ∙ (ap (λ es. c.loop-key.copies.entries ++ es) (sym rest)
    ∙ c.loop-key.invariant)
