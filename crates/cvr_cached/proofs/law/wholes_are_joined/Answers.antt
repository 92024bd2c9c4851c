use Rattle.std.specs.FinSet.{empty, union}
use Rattle.cvr_fact_types.specs.Facts.{fact_cmp, fact_total, fact_exact}
use Rattle.cvr_facts.specs.Unions.{union_laws}
use Rattle.cvr_office.specs.Plain.{set_of}
use Rattle.cvr_cached.proofs.Wholes.{whole_joined}
use Rattle.cvr_cached.proofs.law.wholes_are_joined.Goals as goal

pub returns : goal.returns
returns g c = record {
  parts = whole_joined g.J.Join.joined g.J.Join.nothing g.met.J.Join.laws g.J.Join.held;
  contents = whole_joined (union {R = fact_cmp}) empty (union_laws fact_total fact_exact) set_of;
}
