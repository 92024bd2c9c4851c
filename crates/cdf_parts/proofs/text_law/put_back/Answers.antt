use Rattle.cdf_parts.proofs.Removing.{without-put, put-without}
use Rattle.cdf_parts.proofs.text_law.put_back.Goals as goal

pub returns-clause-taken_out : goal.returns-clause-taken_out
returns-clause-taken_out c = without-put

pub returns-clause-put_back : goal.returns-clause-put_back
returns-clause-put_back c = put-without
