use Rattle.std.proofs.Common.{subst}
use Rattle.std.specs.List.{Contains}
use Rattle.cvr_office.specs.declared.any_fact.AnyFact.TheVariants as any
use Rattle.cvr_plain.proofs.plain.PlainOfficeOffice.header.Goals as goal

pub header_in-requires-clause-spelled : goal.header_in-requires-clause-spelled
header_in-requires-clause-spelled c h at = c.self.invariant.spelled (any.Header h)
    (subst (λ facts. Contains facts (any.Header h)) c.deref.ensures.value at)
