use Rattle.cvr_fact_types.specs.Facts.{fact_total, fact_exact}
use Rattle.cvr_facts.specs.Unions.{union_laws}
use Rattle.cvr_facts.proofs.law.joining.Goals as goal

pub returns : goal.returns
returns c = union_laws fact_total fact_exact
