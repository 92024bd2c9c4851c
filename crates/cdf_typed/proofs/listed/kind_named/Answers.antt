use Rattle.cdf_typed.proofs.ListedTexts.{kind_is}
use Rattle.cdf_typed.proofs.listed.kind_named.Goals as goal

pub returns : goal.returns
returns c = kind_is c.args.text.now c.from_text.result c.from_text.ensures.listed
