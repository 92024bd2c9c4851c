use Rattle.std.proofs.Common.{◌∙◌, sym}
use Rattle.std.proofs.lemmas.Bool.{false≢true}
use Rattle.cvr_cached.proofs.NextOver.{least_is, first_at, first_none}
use Rattle.cvr_cached.proofs.listing.least_name.Goals as goal

pub returns-in-Some : goal.returns-in-Some
returns-in-Some c = first_at c.args.records.now.entries _ _ c.in-Some.ensures.first
    ∙ sym (least_is c.args.records.now.entries)

pub returns-in-None : goal.returns-in-None
returns-in-None c = first_none c.args.records.now.entries
    (λ some. false≢true (c.in-None.ensures.variant.1 some))
    ∙ sym (least_is c.args.records.now.entries)
