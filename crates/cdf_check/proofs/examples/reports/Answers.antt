use Rattle.std.proofs.Common.{refl}
use Rattle.std.specs.Fmt.{digits}
use Rattle.serde_json.proofs.OnLiterals.{serde_json_on_literals}
use Rattle.jiff.proofs.OnLiterals.{jiff_on_literals}
use Rattle.cdf_check.specs.Examples.{report, plain}
use Rattle.cdf_check.proofs.Ascii.{ascii_unsound}
use Rattle.cdf_check.proofs.examples.reports.Goals as goal

pub returns : goal.returns
unfolding serde_json_on_literals jiff_on_literals digits
returns c = record {
  plain = ascii_unsound (report plain) _ refl refl refl;
  all_unknown = refl;
}
