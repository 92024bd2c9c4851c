use Rattle.std.proofs.Common.{◌≡◌, length, option_map}
use Rattle.cvr_office.specs.Plain.{set_of}
use Rattle.cvr_plain.proofs.RecordWalk.{Walked, records_from}
use Rattle.cvr_plain.proofs.tallying.totals_in.Given as goal

abbrev pub invariant-loop-next : goal.invariant-loop-next
invariant-loop-next l = record {
  same : l.totals.contests ≡ l.definition.contests;
  walked : Walked l.definition.contests (set_of l.facts) l.totals.rows
      (option_map (λ k. k.now) l.next);
}

abbrev pub decreases-loop-next : goal.decreases-loop-next
decreases-loop-next l = length (records_from (set_of l.facts) (option_map (λ k. k.now) l.next))
