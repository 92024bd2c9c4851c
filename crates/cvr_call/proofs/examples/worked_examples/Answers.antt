use Rattle.std.proofs.Common.{refl}
use Rattle.std.specs.Str.{is_utf8, chars}
use Rattle.cvr_call.proofs.Responding.{version_cut}
use Rattle.cvr_call.proofs.examples.worked_examples.Goals as goal

pub returns-clause-words : goal.returns-clause-words
unfolding is_utf8 chars
returns-clause-words c office = record { date = refl; zero = refl }

pub returns-clause-cut : goal.returns-clause-cut
returns-clause-cut c = version_cut
