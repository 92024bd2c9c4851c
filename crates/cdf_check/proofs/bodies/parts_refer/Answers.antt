use Rattle.cdf_check.proofs.Wider.{cvr_parts, each_at}
use Rattle.cdf_check.proofs.bodies.parts_refer.Goals as goal

pub returns : goal.returns
returns c = record {
  parts = cvr_parts;
  items = each_at;
}
