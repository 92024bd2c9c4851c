-- A content that facts were put into is a step of a plan.
use Rattle.std.proofs.Common.{List, inr}
use Rattle.std.specs.Prelude.{OnOk}
use Rattle.std.specs.declared.result.Result.{Result}
use Rattle.std.specs.declared.result.Result.TheVariants.{Ok, Err}
use Rattle.cvr_fact_types.specs.declared.name.RecordName.{RecordName}
use Rattle.cvr_office.specs.declared.any_fact.AnyFact.{AnyFact}
use Rattle.cvr_cached.specs.declared.plan.Plan.{Plan}
use Rattle.cvr_cached.specs.Plans.{IsAdded, IsStep}

-- one change more is a step
pub step_added : {T E : Type 0} (r : Result T E) (old group : List AnyFact) (name : RecordName)
    (plan plan' : Plan) → OnOk r (IsAdded old group name plan plan')
    → OnOk r (IsStep old group name plan plan')
step_added (Ok u) old group name plan plan' added = inr added
step_added (Err e) old group name plan plan' added = tt
