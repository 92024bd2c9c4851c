use Rattle.cdf_typed.proofs.ListedTexts.{allocation_is}
use Rattle.cdf_typed.proofs.listed.allocation_named.Goals as goal

pub returns : goal.returns
returns c = allocation_is c.args.text.now c.from_text.result c.from_text.ensures.listed
