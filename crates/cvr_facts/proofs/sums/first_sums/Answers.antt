use Rattle.cvr_facts.proofs.sums.first_sums.Goals as goal

pub returns : goal.returns
returns g c contests at =
    λ i. record {
      contest = at i;
      votes = c.empty.ensures i;
      overvotes = c.overvotes.ensures contests i;
      undervotes = c.undervotes.ensures contests i;
      write_ins = c.write_ins.ensures contests i;
      pending = 0;
      unassigned = 0;
    }
