use Rattle.std.proofs.Common.{◌≡◌, ◌≤◌, ◌-◌, map}
use Rattle.std.specs.Prelude.{replicate}
use Rattle.cvr_run.specs.Drill.{new_offices}
use Rattle.cvr_run.proofs.drilling.new_offices.Given as goal

abbrev pub invariant-offices : goal.invariant-offices
invariant-offices g l = record {
  within : l.made ≤ l.count;
  held : map g.O.Office.held l.offices.items ≡ new_offices l.definition l.made;
  defined : map g.O.Office.defined l.offices.items ≡ replicate l.made l.definition;
}

abbrev pub decreases-offices : goal.decreases-offices
decreases-offices g l = l.count - l.made
