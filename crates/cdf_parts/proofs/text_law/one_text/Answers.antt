use Rattle.std.proofs.Common.{ap}
use Rattle.serde_json.specs.Written.{compact_text}
use Rattle.cdf_parts.proofs.ReadsBack.{same_text}
use Rattle.cdf_parts.proofs.text_law.one_text.Goals as goal

pub returns : goal.returns
returns c d e p q = (
  same_text d e p.well p.whole p.shallow q.well q.whole q.shallow,
  ap
      compact_text,
)
