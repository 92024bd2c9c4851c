use Rattle.cdf_typed.proofs.ListedTexts.{indication_is}
use Rattle.cdf_typed.proofs.listed.indication_named.Goals as goal

pub returns : goal.returns
returns c = indication_is c.args.text.now c.from_text.result c.from_text.ensures.listed
