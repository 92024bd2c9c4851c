use Rattle.std.proofs.Common.{◌∙◌}
use Rattle.cvr.proofs.Ended.{ended-status}
use Rattle.cvr.proofs.answering.answer.Goals as goal

-- what `respond` ensures of its status and of the words behind the name
pub returns : goal.returns
returns g c =
    let code = c.from.ensures ∙ c.code.ensures in
    let e = ended-status _ _ code in
    let w = c.behind_the_name-behind.ensures in
    record {
      code = rw e code;
      responds = rw e (rw w at c.respond-status.ensures.responds);
    }
