use Rattle.std.proofs.Common.{map-id, ◌∙◌}
use Rattle.cvr_facts.specs.Sums.{sums_in}
use Rattle.cvr_facts.proofs.Bounds.{AreInRange-from_snapshot}
use Rattle.cvr_facts.proofs.gather.snapshot_of.Goals as goal

pub sums_in-requires : goal.sums_in-requires
sums_in-requires c =
    rw (c.contests.ensures, map-id c.as_slice.result.now, c.as_slice.ensures)
    (AreInRange-from_snapshot c.args.definition.now.contests c.args.snapshot.now c.requires)

pub returns : goal.returns
returns c =
    let all = map-id c.as_slice.result.now ∙ c.as_slice.ensures in
    let votes = c.in_ok-sums_in.ensures ∙ (λ i. sums_in (c.contests.ensures i) (all i)) in
    λ i. record {
      key = c.in_ok-record_name.ensures i;
      id = c.in_ok-copy.ensures i;
      kind = c.args.snapshot.now.kind;
      moment = c.args.snapshot.now.moment;
      votes = votes i;
      body = c.in_ok-copy-2.ensures i;
    }
