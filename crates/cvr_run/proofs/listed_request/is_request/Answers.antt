use Rattle.std.proofs.Common.{◌∙◌, sym}
use Rattle.cvr_run.proofs.ListWords.{some_found}
use Rattle.cvr_run.proofs.listed_request.is_request.Goals as goal

pub returns-clause-is : goal.returns-clause-is
returns-clause-is c =
    let is = c.is_some.ensures in
    let found = some_found c.in_ok-request_of.field-0 _ c.in_ok-request_of.ensures.some
    c.in_ok-request_of.ensures.none in
    (λ yes. found.0 (sym is ∙ yes), λ there. is ∙ found.1 there)
